-- Each call keeps all that always holds of a tree.
use Rattle.std.proofs.Common.{◌≡◌, ℕ, Bool, true, false, cond, [], map, Some, None, Ok, Option, sym, refl, ap, ◌∙◌, subst, inl, inr, arith}
use Rattle.std.proofs.lemmas.Bool.{false≢true, cases_Bool}
use Rattle.keyed.specs.Choices.{given, answered, holds}
use Rattle.keyed.proofs.Finds.{some_not_none}
use Rattle.keyed.proofs.Answers.{answered_ok}
use Rattle.nodes.specs.declared.Node.{Node}
use Rattle.nodes.specs.Node.{with_owner, with_task, with_stale, released, vacated, taken}
use Rattle.lineage.specs.Family.{Family, family, node_at, changed, open_for, aborted_at}
use Rattle.lineage.specs.Births.{tidied, grown, born}
use Rattle.lineage.specs.Deaths.{settled}
use Rattle.supervision.specs.declared.Tree.{Tree}
use Rattle.supervision.specs.Sound.{Lives, Rooted, Shielded, Linked, Honest, Past, Kept, Single}
use Rattle.supervision.specs.declared.Refusal.TheVariants.{NotOpen}
use Rattle.supervision.specs.Calls.{view, founded, child_refusal, closed, seated, seat_of, closed_all, left}
use Rattle.supervision.proofs.Solid.{Solid, solid_map, solid_changed, tidied_by}
use Rattle.supervision.proofs.Dying.{solid_settled, kept_settled}
use Rattle.supervision.proofs.Newborn.{solid_alone, solid_born}
use Rattle.supervision.proofs.Keeping.{kept_change, kept_grown}
use Rattle.supervision.proofs.Seating.{fewer_single, fewer_kept, fewer_change, fewer_vacated, fewer_push, fewer_born, single_settled, single_taken, no_seat_born}

-- all that always holds
pub record Whole (F : Family) : Type 0 where
  pub solid : Solid F
  pub kept : Kept F
  pub single : Single F

-- the same, as the ghost fields of a tree state it
abbrev pub Facts : Family → Type 0
Facts F = record { rooted : Rooted F; shielded : Shielded F; linked : Linked F; honest : Honest F; past : Past F; kept : Kept F; single : Single F }

pub facts : (F : Family) → Whole F → Facts F
facts F w = record {
  rooted = w.solid.frame.rooted;
  shielded = w.solid.shielded;
  linked = w.solid.linked;
  honest = w.solid.frame.honest;
  past = w.solid.frame.past;
  kept = w.kept;
  single = w.single;
}

-- the facts of what is equal to a whole tree
pub facts_of : (G F : Family) → G ≡ F → Whole F → Facts G
facts_of G F e w = subst Facts (sym e) (facts F w)

pub whole_empty : Whole (family [] [] 0)
whole_empty = record {
  solid = record {
    frame = record { order = refl; rooted = λ b. absurd (some_not_none refl b.lives); honest = λ l. absurd (some_not_none refl l.lives); past = λ l. absurd (false≢true l.links) };
    shielded = λ k a. absurd (some_not_none refl k.stands);
    linked = λ k a. absurd (some_not_none refl k.stands);
  };
  kept = refl;
  single = λ k. omega arith;
}

pub whole_alone : (aborted : Bool) (owner : ℕ) (F : Family) → Whole F → Whole (grown None aborted owner F)
whole_alone aborted owner F w = record { solid = solid_alone aborted owner F w.solid; kept = kept_grown F.next None aborted owner F.nodes w.kept; single = fewer_single F.nodes (grown None aborted owner F).nodes (fewer_push F.next None aborted owner F.nodes) w.single }

pub whole_founded : Whole founded
whole_founded = whole_alone false 0 (family [] [] 0) whole_empty

kept_tidied : (p : ℕ) (F : Family) → Kept F → Kept (tidied p F)
kept_tidied p F all = tidied_by Kept p F all (kept_change (with_stale 0) (λ _. refl) (λ _. refl) (λ _ h. h) p F.nodes all)

pub whole_born : (p owner : ℕ) (F : Family) (m : Node) → Lives F p m → m.aborted ≡ false → Whole F → Whole (born p owner F)
whole_born p owner F m up quiet w = record {
  solid = solid_born p owner F m w.solid up quiet;
  kept = kept_grown (tidied p F).next (Some p) false owner (tidied p F).nodes (kept_tidied p F w.kept);
  single = fewer_single F.nodes (born p owner F).nodes (fewer_born p owner F) w.single;
}

pub whole_seated : (s task : ℕ) (F : Family) (m : Node) → Lives F s m → m.aborted ≡ false → seat_of task F ≡ None → Whole F → Whole (seated s task F)
whole_seated s task F m up quiet new w =
    let b = whole_born s task F m up quiet w in
    record {
      solid = solid_changed (taken task) (λ _. refl) (λ _. refl) (λ _. refl) s (born s task F) b.solid;
      kept = kept_change (taken task) (λ _. refl) (λ _. refl) (λ _ _. refl) s (born s task F).nodes b.kept;
      single = single_taken s task (born s task F) b.solid.frame.order (no_seat_born s task task F new) b.single;
    }

whole_settled : (F : Family) → Solid F → Single F → Whole (settled F)
whole_settled F ok one = record { solid = solid_settled F ok; kept = kept_settled F ok; single = single_settled F one }

pub whole_closed : (s : ℕ) (F : Family) → Whole F → Whole (closed s F)
whole_closed s F w = whole_settled (changed (with_owner None) s F) (solid_changed (with_owner None) (λ _. refl) (λ _. refl) (λ _. refl) s F w.solid) (fewer_single F.nodes (changed (with_owner None) s F).nodes (fewer_change (with_owner None) (λ _. refl) s F.nodes) w.single)

-- a node that is changed or not keeps what it keeps when it is changed
pub by_test : {Y : Type 0} (field : Node → Y) (b : Bool) (x y : Node) → field x ≡ field y → field (cond b x y) ≡ field y
by_test field true x y e = e
by_test field false x y e = refl

pub whole_closed_all : (task : ℕ) (F : Family) → Whole F → Whole (closed_all task F)
whole_closed_all task F w =
    whole_settled (family (map (released task) F.nodes) F.links F.next)
    (solid_map (released task)
    (λ n. by_test (λ (m : Node). m.serial) (holds task n.owner) (with_owner None n) n refl)
    (λ n. by_test (λ (m : Node). m.parent) (holds task n.owner) (with_owner None n) n refl)
    (λ n. by_test (λ (m : Node). m.aborted) (holds task n.owner) (with_owner None n) n refl)
    F w.solid)
    (fewer_single F.nodes (map (released task) F.nodes) (fewer_kept (released task) (λ n. by_test (λ (m : Node). m.task) (holds task n.owner) (with_owner None n) n refl) F.nodes) w.single)

pub whole_left : (task : ℕ) (F : Family) → Whole F → Whole (left task F)
whole_left task F w =
    whole_settled (family (map (vacated task) F.nodes) F.links F.next)
    (solid_map (vacated task)
    (λ n. by_test (λ (m : Node). m.serial) (holds task n.task) (with_task None n) n refl)
    (λ n. by_test (λ (m : Node). m.parent) (holds task n.task) (with_task None n) n refl)
    (λ n. by_test (λ (m : Node). m.aborted) (holds task n.task) (with_task None n) n refl)
    F w.solid)
    (fewer_single F.nodes (map (vacated task) F.nodes) (fewer_vacated task F.nodes) w.single)

-- a context that is open is that of a living node
open_lives_at : (task : ℕ) (o : Option Node) → given o false (λ n. holds task n.owner) ≡ true → (n : Node) × (o ≡ Some n)
open_lives_at task None h = absurd (false≢true h)
open_lives_at task (Some n) h = (n, refl)

pub open_lives : (task s : ℕ) (F : Family) → open_for task s F ≡ true → (n : Node) × Lives F s n
open_lives task s F h = open_lives_at task (node_at s F) h

-- and the flag of that node is the context's
pub flag_at : (s : ℕ) (F : Family) (n : Node) (b : Bool) → Lives F s n → aborted_at s F ≡ b → n.aborted ≡ b
flag_at s F n b l h = sym (ap (λ (o : Option Node). given o false (λ m. m.aborted)) l) ∙ h

-- what is not refused is open
pub granted_open : (task s : ℕ) (F : Family) → Ok tt ≡ answered (child_refusal task s F) (tt {0}) → open_for task s F ≡ true
granted_open task s F h = elim (cases_Bool (open_for task s F)) [
  | inl e ↦ e
  | inr e ↦ (let g : Some NotOpen ≡ None = rw e at (answered_ok (child_refusal task s F) tt tt (sym h)).0 in absurd (some_not_none g refl))
]

-- what holds of every tree
pub whole_of : (t : Tree) → Whole (view t)
whole_of t = record {
  solid = record { frame = record { order = t.lineage.nodes.table.order; rooted = t.rooted; honest = t.honest; past = t.past }; shielded = t.shielded; linked = t.linked };
  kept = t.kept;
  single = t.single;
}
