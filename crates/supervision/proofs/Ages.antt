-- Serials are never reused: what is dead stays dead, whatever is done to a tree, and the next serial
-- rises with births alone.
use Rattle.std.proofs.Common.{◌≡◌, ℕ, zero, suc, ◌+◌, ◌<◌, ◌≤◌, Bool, true, false, ltb, ◌⊎◌, List, [], ◌∷◌, ◌++◌, map, reverse, length, Some, None, Ok, Option, sym, refl, ap, ◌∙◌, subst, inl, inr, arith}
use Rattle.std.proofs.lemmas.Bool.{cond_both, cases_Bool, ltb-true, ltb-false}
use Rattle.std.specs.Option.{option_map}
use Rattle.keyed.specs.Keyed.{find, change, without}
use Rattle.keyed.specs.Choices.{given, whether, answered, holds}
use Rattle.keyed.proofs.Finds.{some_not_none, find_change, find_without, find_push, on}
use Rattle.keyed.proofs.Maps.{find_map}
use Rattle.keyed.proofs.Answers.{answered_ok}
use Rattle.nodes.specs.declared.Node.{Node}
use Rattle.nodes.specs.Node.{serial_of, fresh, with_owner, with_task, with_stale, bereaved, released, vacated, taken}
use Rattle.lineage.specs.Family.{Family, family, node_at, changed, aborted_at}
use Rattle.lineage.specs.Births.{swept, tidied, orphaned, born}
use Rattle.lineage.specs.Deaths.{mourned, buried, doomed, one_dies, repeated, settled}
use Rattle.lineage.specs.Cascade.{Step, condemned, passed, struck, step_at, step, walk, cascaded}
use Rattle.lineage.proofs.Newborn.{tidied_tells}
use Rattle.supervision.specs.Laws.{Aged, Later}
use Rattle.supervision.specs.Calls.{child_refusal, with_child, after_child, context_refusal, closed, after_close, seated, closed_all, left}
use Rattle.supervision.proofs.Solid.{tidied_by}
use Rattle.supervision.proofs.Whole.{by_test}

-- where what is dead stays dead, a node that was not there before has a new serial
aged_by : (F G : Family) → F.next ≤ G.next → ((t : ℕ) → t < F.next → node_at t F ≡ None → node_at t G ≡ None) → Aged F G
aged_by F G le none = record {
  grows = le;
  gone = none;
  fresh = λ t n l h. elim (cases_Bool (ltb t F.next)) [
    | inl e ↦ absurd (some_not_none (none t (ltb-true t F.next e) h) l)
    | inr e ↦ ltb-false t F.next e
  ];
}

pub aged_same : (F : Family) → Aged F F
aged_same F = aged_by F F (omega arith) (λ t l h. h)

pub aged_then : (F G H : Family) → Aged F G → Aged G H → Aged F H
aged_then F G H a b = aged_by F H (omega (arith, a.grows, b.grows)) (λ t l h. b.gone t (omega (arith, a.grows, l)) (a.gone t l h))

-- no node of the new list is one that the old list had not
by_nodes : (F : Family) (ns : List Node) (k : ℕ) → F.next ≤ k → ((t : ℕ) → t < F.next → find serial_of t F.nodes ≡ None → find serial_of t ns ≡ None) → (G : Family) → G.nodes ≡ ns → G.next ≡ k → Aged F G
by_nodes F ns k le none G is next = aged_by F G (omega (arith, le, next)) (λ t l h. ap (find serial_of t) is ∙ none t l h)

none_change : (f : Node → Node) → ((n : Node) → serial_of (f n) ≡ serial_of n) → (s t : ℕ) (ns : List Node) → find serial_of t ns ≡ None → find serial_of t (change serial_of f s ns) ≡ None
none_change f same s t ns h = find_change serial_of f same s t ns ∙ ap (option_map (on serial_of s f)) h

none_map : (g : Node → Node) → ((n : Node) → serial_of (g n) ≡ serial_of n) → (t : ℕ) (ns : List Node) → find serial_of t ns ≡ None → find serial_of t (map g ns) ≡ None
none_map g same t ns h = find_map serial_of g same t ns ∙ ap (option_map g) h

-- what is not there is not there in part of it
none_or_some : {X : Type 0} (o : Option X) → (o ≡ None) ⊎ ((x : X) × (o ≡ Some x))
none_or_some None = inl refl
none_or_some (Some x) = inr (x, refl)

none_without : (s t : ℕ) (ns : List Node) → find serial_of t ns ≡ None → find serial_of t (without serial_of s ns) ≡ None
none_without s t ns h = elim (none_or_some (find serial_of t (without serial_of s ns))) [
  | inl e ↦ e
  | inr e ↦ absurd (some_not_none h (find_without serial_of s t ns e.0 e.1))
]

none_push : (k t : ℕ) (ns : List Node) (n : Node) → serial_of n ≡ k → t < k → find serial_of t ns ≡ None → find serial_of t (ns ++ n ∷ []) ≡ None
none_push k t ns n is l h = elim (none_or_some (find serial_of t (ns ++ n ∷ []))) [
  | inl e ↦ e
  | inr e ↦ elim (find_push serial_of t ns n e.0 e.1) [ inl o ↦ absurd (some_not_none h o) | inr f ↦ absurd (omega (arith, f.1, is)) ]
]

pub aged_changed : (f : Node → Node) → ((n : Node) → serial_of (f n) ≡ serial_of n) → (s : ℕ) (F : Family) (G : Family) → G.nodes ≡ change serial_of f s F.nodes → G.next ≡ F.next → Aged F G
aged_changed f same s F G is next = by_nodes F (change serial_of f s F.nodes) F.next (omega arith) (λ t l h. none_change f same s t F.nodes h) G is next

aged_map : (g : Node → Node) → ((n : Node) → serial_of (g n) ≡ serial_of n) → (F : Family) → Aged F (family (map g F.nodes) F.links F.next)
aged_map g same F = by_nodes F (map g F.nodes) F.next (omega arith) (λ t l h. none_map g same t F.nodes h) (family (map g F.nodes) F.links F.next) refl refl

mourns_none : (o : Option ℕ) (t : ℕ) (ns : List Node) → find serial_of t ns ≡ None → find serial_of t (mourned o ns) ≡ None
mourns_none None t ns h = h
mourns_none (Some p) t ns h = none_change bereaved (λ _. refl) p t ns h

aged_buried : (n : Node) (F : Family) → Aged F (buried n F)
aged_buried n F = by_nodes F (buried n F).nodes F.next (omega arith) (λ t l h. mourns_none n.parent t (without serial_of n.serial F.nodes) (none_without n.serial t F.nodes h)) (buried n F) refl refl

aged_one_at : (F : Family) (o : Option Node) → Aged F (given o F (λ n. buried n F))
aged_one_at F None = aged_same F
aged_one_at F (Some n) = aged_buried n F

aged_repeated : (k : ℕ) (F : Family) → Aged F (repeated k one_dies F)
aged_repeated zero F = aged_same F
aged_repeated (suc k) F = aged_then F (one_dies F) (repeated k one_dies (one_dies F)) (aged_one_at F (doomed F)) (aged_repeated k (one_dies F))

pub aged_settled : (F : Family) → Aged F (settled F)
aged_settled F = aged_repeated (length F.nodes) F

aged_alone : (parent : Option ℕ) (aborted : Bool) (owner : ℕ) (F G : Family) → G.nodes ≡ F.nodes ++ fresh F.next parent aborted owner ∷ [] → G.next ≡ F.next + 1 → Aged F G
aged_alone parent aborted owner F G is next = by_nodes F (F.nodes ++ fresh F.next parent aborted owner ∷ []) (F.next + 1) (omega arith) (λ t l h. none_push F.next t F.nodes (fresh F.next parent aborted owner) refl l h) G is next

pub aged_orphaned : (owner : ℕ) (F : Family) → Aged F (orphaned owner F)
aged_orphaned owner F = aged_alone None true owner F (orphaned owner F) refl refl

pub aged_born : (p owner : ℕ) (F : Family) → Aged F (born p owner F)
aged_born p owner F =
    let tidy : Aged F (tidied p F) = tidied_by (Aged F) p F (aged_same F) (aged_changed (with_stale 0) (λ _. refl) p F (swept p F) refl refl) in
    aged_then F (tidied p F) (born p owner F) tidy (aged_alone (Some p) false owner (tidied p F) (born p owner F) refl refl)

aged_whether : {E : Type 0} (o : Option E) (F G H : Family) → Aged F G → Aged F H → Aged F (whether o G H)
aged_whether None F G H a b = a
aged_whether (Some e) F G H a b = b

pub aged_child : (task s : ℕ) (F : Family) → Aged F (after_child task s F)
aged_child task s F =
    aged_whether (child_refusal task s F) F (with_child task s F) F
    (cond_both (aborted_at s F) (orphaned task F) (born s task F) (Aged F) (λ _. aged_orphaned task F) (λ _. aged_born s task F))
    (aged_same F)

aged_step : (s : ℕ) (o : Option Node) (F : Family) → Aged F (step_at s o F).after
aged_step s None F = aged_same F
aged_step s (Some n) F = cond_both n.aborted (passed F) (struck s n F) (λ (v : Step). Aged F v.after) (λ _. aged_same F) (λ _. aged_changed condemned (λ _. refl) s F (struck s n F).after refl refl)

aged_walk : (k : ℕ) (st : List ℕ) (F : Family) → Aged F (walk k st F).0
aged_walk zero st F = aged_same F
aged_walk (suc k) [] F = aged_same F
aged_walk (suc k) (s ∷ st) F = aged_then F (step s F).after (walk (suc k) (s ∷ st) F).0 (aged_step s (node_at s F) F) (aged_walk k (reverse (step s F).below ++ st) (step s F).after)

pub aged_cascaded : (top : ℕ) (F : Family) → Aged F (cascaded top F).0
aged_cascaded top F = aged_walk (1 + length F.links) (top ∷ []) F

next_one_at : (F : Family) (o : Option Node) → (given o F (λ n. buried n F)).next ≡ F.next
next_one_at F None = refl
next_one_at F (Some n) = refl

next_repeated : (k : ℕ) (F : Family) → (repeated k one_dies F).next ≡ F.next
next_repeated zero F = refl
next_repeated (suc k) F = next_repeated k (one_dies F) ∙ next_one_at F (doomed F)

pub next_settled : (F : Family) → (settled F).next ≡ F.next
next_settled F = next_repeated (length F.nodes) F

next_step : (s : ℕ) (o : Option Node) (F : Family) → (step_at s o F).after.next ≡ F.next
next_step s None F = refl
next_step s (Some n) F = cond_both n.aborted (passed F) (struck s n F) (λ (v : Step). v.after.next ≡ F.next) (λ _. refl) (λ _. refl)

next_walk : (k : ℕ) (st : List ℕ) (F : Family) → (walk k st F).0.next ≡ F.next
next_walk zero st F = refl
next_walk (suc k) [] F = refl
next_walk (suc k) (s ∷ st) F = next_walk k (reverse (step s F).below ++ st) (step s F).after ∙ next_step s (node_at s F) F

pub next_cascaded : (top : ℕ) (F : Family) → (cascaded top F).0.next ≡ F.next
next_cascaded top F = next_walk (1 + length F.links) (top ∷ []) F

pub next_born : (p owner : ℕ) (F : Family) → (born p owner F).next ≡ F.next + 1
next_born p owner F = ap (λ k. k + 1) (tidied_tells p F).next

-- what comes later, and what is equal to it
pub later_of : {new : ℕ} {F G H : Family} → H ≡ G → Later new F G → Later new F H
later_of {new} {F} e later = subst (Later new F) (sym e) later

-- a serial is given out where nothing is refused
pub later_granted : {E : Type 0} (o : Option E) (F G : Family) → Ok tt ≡ answered o (tt {0}) → Later 1 F G → Later (whether o 1 0) F G
later_granted o F G e later = subst (λ k. Later k F G) (ap (λ r. whether r 1 0) (sym (answered_ok o tt tt (sym e)).0)) later

-- deaths give out none
later_settled : (F G : Family) → Aged F G → G.next ≡ F.next → Later 0 F (settled G)
later_settled F G aged same = record { serials = aged_then F G (settled G) aged (aged_settled G); next = omega (arith, next_settled G, same) }

pub later_closed : (s : ℕ) (F : Family) → Later 0 F (closed s F)
later_closed s F = later_settled F (changed (with_owner None) s F) (aged_changed (with_owner None) (λ _. refl) s F (changed (with_owner None) s F) refl refl) refl

pub later_closed_all : (task : ℕ) (F : Family) → Later 0 F (closed_all task F)
later_closed_all task F = later_settled F (family (map (released task) F.nodes) F.links F.next) (aged_map (released task) (λ n. by_test (λ (m : Node). m.serial) (holds task n.owner) (with_owner None n) n refl) F) refl

pub later_left : (task : ℕ) (F : Family) → Later 0 F (left task F)
later_left task F = later_settled F (family (map (vacated task) F.nodes) F.links F.next) (aged_map (vacated task) (λ n. by_test (λ (m : Node). m.serial) (holds task n.task) (with_task None n) n refl) F) refl

pub later_orphaned : (owner : ℕ) (F : Family) → Later 1 F (orphaned owner F)
later_orphaned owner F = record { serials = aged_orphaned owner F; next = refl }

pub later_born : (p owner : ℕ) (F : Family) → Later 1 F (born p owner F)
later_born p owner F = record { serials = aged_born p owner F; next = next_born p owner F }

pub later_seated : (s task : ℕ) (F : Family) → Later 1 F (seated s task F)
later_seated s task F = record {
  serials = aged_then F (born s task F) (seated s task F) (aged_born s task F) (aged_changed (taken task) (λ _. refl) s (born s task F) (seated s task F) refl refl);
  next = next_born s task F;
}

pub later_cascaded : (top : ℕ) (F : Family) → Later 0 F (cascaded top F).0
later_cascaded top F = record { serials = aged_cascaded top F; next = omega (arith, next_cascaded top F) }

pub aged_close : (task s : ℕ) (F : Family) → Aged F (after_close task s F)
aged_close task s F = aged_whether (context_refusal task s F) F (closed s F) F (later_closed s F).serials (aged_same F)
