use Rattle.std.proofs.Common.{◌≡◌, ℕ, List, [], ◌∷◌, length, ℤ, codes, ap, ◌∙◌, w32, rules}
use Rattle.std.proofs.lemmas.Int.{to_z-of_z}
use Rattle.auditor.specs.Bytes.{big_endian}
use Rattle.auditor.specs.Events.{stop, digest_after, digest_of_parts, two's_complement}
use Rattle.auditor.proofs.Apart.{hashed_apart, value_fits}
use Rattle.auditor.proofs.Telling.{told_more}
use Rattle.auditor.proofs.auditor.Auditor.stop.Goals as goal

pub returns : goal.returns
unfolding digest_after
returns c =
    let digest = c.args.self.now.digest in
    let value = c.args.value in
    let begun = c.begin-hasher.ensures.taken in
    let added = c.update.ensures.taken (digest ∷ codes "stop" ∷ []) begun in
    let after =
    c.finalize-self.ensures.value (digest ∷ codes "stop" ∷ c.value_bytes-value.result ∷ []) added
    ∙ ap (λ (bytes : List ℕ). digest_of_parts (digest ∷ codes "stop" ∷ bytes ∷ [])) (c.value_bytes-value.ensures ∙ ap (λ (v : ℤ). big_endian 4 (two's_complement v)) (to_z-of_z w32 value c.ranges.value)) in
    let four : length digest ≡ 4 = search rules in
    record {
      after = after;
      told = told_more digest _ (stop value) after;
      unmistakable = hashed_apart digest (stop value) four (value_fits value c.ranges.value);
    }
