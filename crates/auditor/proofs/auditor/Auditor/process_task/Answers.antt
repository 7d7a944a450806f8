use Rattle.std.proofs.Common.{◌≡◌, ℕ, List, [], ◌∷◌, length, codes, ap, ◌∙◌, rules}
use Rattle.auditor.specs.Events.{process_task, digest_after, digest_of_parts}
use Rattle.auditor.proofs.Apart.{hashed_apart}
use Rattle.auditor.proofs.Telling.{told_more}
use Rattle.auditor.proofs.auditor.Auditor.process_task.Goals as goal

pub returns : goal.returns
unfolding digest_after
returns c =
    let digest = c.args.self.now.digest in
    let label = c.args.label.now in
    let name = codes "process_task" in
    let begun = c.begin-hasher.ensures.taken in
    let with_id = c.update.ensures.taken (digest ∷ name ∷ []) begun in
    let with_label = c.update-2.ensures.taken (digest ∷ name ∷ c.id_bytes-id.result ∷ []) with_id in
    let after =
    c.finalize-self.ensures.value (digest ∷ name ∷ c.id_bytes-id.result ∷ label ∷ []) with_label
    ∙ ap (λ (id : List ℕ). digest_of_parts (digest ∷ name ∷ id ∷ label ∷ [])) c.id_bytes-id.ensures in
    let four : length digest ≡ 4 = search rules in
    record {
      after = after;
      told = told_more digest _ (process_task c.args.id label) after;
      unmistakable = hashed_apart digest (process_task c.args.id label) four (search rules);
    }
