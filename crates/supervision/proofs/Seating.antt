-- No call seats a task at a second node.
use Rattle.std.proofs.Common.{◌≡◌, ℕ, zero, suc, ◌+◌, ◌≤◌, Bool, true, false, cond, eqb, List, [], ◌∷◌, ◌++◌, map, reverse, length, Some, None, Option, sym, refl, ap, subst, inl, inr, arith}
use Rattle.std.proofs.lemmas.Bool.{cond_both, cases_Bool, eqb-true, eq-eqb}
use Rattle.std.specs.Option.{option_map}
use Rattle.keyed.specs.Keyed.{ordered, change, without}
use Rattle.keyed.specs.Choices.{given, holds}
use Rattle.keyed.specs.Members.{In, times, first}
use Rattle.keyed.proofs.Finds.{on, some_not_none}
use Rattle.keyed.proofs.Maps.{change_map, on_same}
use Rattle.keyed.proofs.Orders.{ordered_first, change_low}
use Rattle.nodes.specs.declared.Node.{Node}
use Rattle.nodes.specs.Node.{serial_of, fresh, with_task, with_stale, bereaved, vacated, taken, seats}
use Rattle.lineage.specs.Family.{Family, node_at}
use Rattle.lineage.specs.Births.{tidied, born}
use Rattle.lineage.specs.Deaths.{mourned, buried, doomed, one_dies, repeated, settled}
use Rattle.lineage.specs.Cascade.{Step, condemned, passed, struck, step_at, step, walk, cascaded}
use Rattle.supervision.specs.Sound.{seats_with, Single}
use Rattle.supervision.specs.Laws.{struck_with}
use Rattle.supervision.specs.Calls.{seat_of}
use Rattle.supervision.proofs.Solid.{tidied_by}

-- no task has more seats in the second list than in the first
abbrev Fewer : List Node → List Node → Type 0
Fewer ns ms = (k : ℕ) → seats_with k ms ≤ seats_with k ns

fewer_same : (ns : List Node) → Fewer ns ns
fewer_same ns k = omega arith

fewer_then : (ns ms ls : List Node) → Fewer ns ms → Fewer ms ls → Fewer ns ls
fewer_then ns ms ls a b k = omega (arith, a k, b k)

pub fewer_single : (ns ms : List Node) → Fewer ns ms → ((k : ℕ) → seats_with k ns ≤ 1) → (k : ℕ) → seats_with k ms ≤ 1
fewer_single ns ms few one k = omega (arith, few k, one k)

-- each node is changed, and no task comes to be seated at it
pub fewer_map : (g : Node → Node) → ((k : ℕ) (n : Node) → cond (seats k (g n)) 1 0 ≤ cond (seats k n) 1 0) → (ns : List Node) → Fewer ns (map g ns)
fewer_map g less [] k = omega arith
fewer_map g less (n ∷ ns) k = omega (arith, less k n, fewer_map g less ns k)

-- a node keeps its task
same_task : (g : Node → Node) → ((n : Node) → (g n).task ≡ n.task) → (k : ℕ) (n : Node) → cond (seats k (g n)) 1 0 ≤ cond (seats k n) 1 0
same_task g same k n =
    let e = ap (λ (t : Option ℕ). cond {A = ℕ} (holds k t) 1 0) (same n) in
    omega (arith, e)

pub fewer_kept : (g : Node → Node) → ((n : Node) → (g n).task ≡ n.task) → (ns : List Node) → Fewer ns (map g ns)
fewer_kept g same ns = fewer_map g (same_task g same) ns

pub fewer_change : (f : Node → Node) → ((n : Node) → (f n).task ≡ n.task) → (s : ℕ) (ns : List Node) → Fewer ns (change serial_of f s ns)
fewer_change f same s ns = subst (Fewer ns) (sym (change_map serial_of f s ns)) (fewer_kept (on serial_of s f) (on_same serial_of (λ (n : Node). n.task) f same s) ns)

none_seated : (k : ℕ) (b : Bool) (n : Node) → cond (seats k (cond b (with_task None n) n)) 1 0 ≤ cond (seats k n) 1 0
none_seated k true n = omega arith
none_seated k false n = omega arith

pub fewer_vacated : (task : ℕ) (ns : List Node) → Fewer ns (map (vacated task) ns)
fewer_vacated task ns = fewer_map (vacated task) (λ k n. none_seated k (holds task n.task) n) ns

fewer_without : (s : ℕ) (ns : List Node) → Fewer ns (without serial_of s ns)
fewer_without s [] k = omega arith
fewer_without s (n ∷ ns) k =
    let rest = fewer_without s ns k in
    elim (eqb (serial_of n) s) as (λ b. seats_with k (cond b (without serial_of s ns) (n ∷ without serial_of s ns)) ≤ seats_with k (n ∷ ns)) [ true ↦ omega (arith, rest) | false ↦ omega (arith, rest) ]

-- a new node seats nobody
pub fewer_push : (serial : ℕ) (parent : Option ℕ) (aborted : Bool) (owner : ℕ) (ns : List Node) → Fewer ns (ns ++ fresh serial parent aborted owner ∷ [])
fewer_push serial parent aborted owner [] k = omega arith
fewer_push serial parent aborted owner (n ∷ ns) k = omega (arith, fewer_push serial parent aborted owner ns k)

fewer_mourned : (o : Option ℕ) (ns : List Node) → Fewer ns (mourned o ns)
fewer_mourned None ns = fewer_same ns
fewer_mourned (Some p) ns = fewer_change bereaved (λ _. refl) p ns

fewer_one_at : (F : Family) (o : Option Node) → Fewer F.nodes (given o F (λ n. buried n F)).nodes
fewer_one_at F None = fewer_same F.nodes
fewer_one_at F (Some n) =
    fewer_then F.nodes (without serial_of n.serial F.nodes) (buried n F).nodes (fewer_without n.serial F.nodes) (fewer_mourned n.parent (without serial_of n.serial F.nodes))

fewer_repeated : (k : ℕ) (F : Family) → Fewer F.nodes (repeated k one_dies F).nodes
fewer_repeated zero F = fewer_same F.nodes
fewer_repeated (suc k) F = fewer_then F.nodes (one_dies F).nodes (repeated k one_dies (one_dies F)).nodes (fewer_one_at F (doomed F)) (fewer_repeated k (one_dies F))

pub single_settled : (F : Family) → Single F → Single (settled F)
single_settled F one = fewer_single F.nodes (settled F).nodes (fewer_repeated (length F.nodes) F) one

fewer_tidied : (p : ℕ) (F : Family) → Fewer F.nodes (tidied p F).nodes
fewer_tidied p F = tidied_by (λ (G : Family). Fewer F.nodes G.nodes) p F (fewer_same F.nodes) (fewer_change (with_stale 0) (λ _. refl) p F.nodes)

pub fewer_born : (p owner : ℕ) (F : Family) → Fewer F.nodes (born p owner F).nodes
fewer_born p owner F = fewer_then F.nodes (tidied p F).nodes (born p owner F).nodes (fewer_tidied p F) (fewer_push (tidied p F).next (Some p) false owner (tidied p F).nodes)

-- a task that takes a seat has one more, at most; no other has
seats_taken : (k task lo hi s : ℕ) (ns : List Node) → ordered serial_of lo hi ns ≡ true → seats_with k (change serial_of (taken task) s ns) ≤ seats_with k ns + cond (eqb task k) 1 0
seats_taken k task lo hi s [] o = omega arith
seats_taken k task lo hi s (n ∷ ns) o =
    let p = ordered_first serial_of lo hi n ns o in
    elim (cases_Bool (eqb (serial_of n) s)) [
      | inl e ↦
          let low = change_low serial_of (taken task) (suc (serial_of n)) hi s ns p.1 (omega (arith, eqb-true (serial_of n) s e)) in
          rw (e, low) (omega arith)
      | inr e ↦
          let rest = seats_taken k task (suc (serial_of n)) hi s ns p.1 in
          rw e (omega (arith, rest))
    ]

-- who has no node is seated nowhere
no_seat_at : (task : ℕ) (ns : List Node) → option_map serial_of (first (seats task) ns) ≡ None → seats_with task ns ≡ 0
no_seat_at task [] h = refl
no_seat_at task (n ∷ ns) h = elim (cases_Bool (seats task n)) [
  | inl e ↦ (let g : Some (serial_of n) ≡ None = rw e at h in absurd (some_not_none g refl))
  | inr e ↦ rw e (omega (arith, no_seat_at task ns (rw e at h)))
]

one_more : (k task : ℕ) (ns : List Node) → seats_with task ns ≡ 0 → seats_with k ns ≤ 1 → seats_with k ns + cond (eqb task k) 1 0 ≤ 1
one_more k task ns none one = elim (cases_Bool (eqb task k)) [
  | inl e ↦ (let z : seats_with k ns ≡ 0 = subst (λ j. seats_with j ns ≡ 0) (eqb-true task k e) none in rw (e, z) (omega arith))
  | inr e ↦ rw e (omega (arith, one))
]

pub single_taken : (s task : ℕ) (F : Family) → ordered serial_of 0 F.next F.nodes ≡ true → seats_with task F.nodes ≡ 0 → Single F → (k : ℕ) → seats_with k (change serial_of (taken task) s F.nodes) ≤ 1
single_taken s task F order none one k = omega (arith, seats_taken k task 0 F.next s F.nodes order, one_more k task F.nodes none (one k))

-- who is seated nowhere is seated nowhere after a birth
pub no_seat_born : (p owner task : ℕ) (F : Family) → seat_of task F ≡ None → seats_with task (born p owner F).nodes ≡ 0
no_seat_born p owner task F h = omega (arith, no_seat_at task F.nodes h, fewer_born p owner F task)

fewer_step : (s : ℕ) (o : Option Node) (F : Family) → Fewer F.nodes (step_at s o F).after.nodes
fewer_step s None F = fewer_same F.nodes
fewer_step s (Some n) F = cond_both n.aborted (passed F) (struck s n F) (λ (v : Step). Fewer F.nodes v.after.nodes) (λ _. fewer_same F.nodes) (λ _. fewer_change condemned (λ _. refl) s F.nodes)

fewer_walk : (k : ℕ) (st : List ℕ) (F : Family) → Fewer F.nodes (walk k st F).0.nodes
fewer_walk zero st F = fewer_same F.nodes
fewer_walk (suc k) [] F = fewer_same F.nodes
fewer_walk (suc k) (s ∷ st) F = fewer_then F.nodes (step s F).after.nodes (walk (suc k) (s ∷ st) F).0.nodes (fewer_step s (node_at s F) F) (fewer_walk k (reverse (step s F).below ++ st) (step s F).after)

pub single_cascaded : (top : ℕ) (F : Family) → Single F → Single (cascaded top F).0
single_cascaded top F one = fewer_single F.nodes (cascaded top F).0.nodes (fewer_walk (1 + length F.links) (top ∷ []) F) one

-- a task is seated at no more aborted nodes than nodes
pub struck_seats : (k : ℕ) (ns : List Node) → struck_with k ns ≤ seats_with k ns
struck_seats k [] = omega arith
struck_seats k (n ∷ ns) =
    let rest = struck_seats k ns in
    elim n.aborted as (λ b. cond b (cond (seats k n) 1 0) 0 + struck_with k ns ≤ seats_with k (n ∷ ns)) [ true ↦ omega (arith, rest) | false ↦ omega (arith, rest) ]

-- what stands in a list stands there at least once
pub in_times : (k : ℕ) (xs : List ℕ) → In k xs → 1 ≤ times k xs
in_times k [] h = absurd h
in_times k (x ∷ xs) (inl e) = rw (eq-eqb x k (sym e)) (omega arith)
in_times k (x ∷ xs) (inr h) = omega (arith, in_times k xs h)
