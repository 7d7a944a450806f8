-- What each change of a tree leaves of its nodes: none comes to life again, and each keeps its parent, its flag and its seat.
use Rattle.std.proofs.Common.{◌≡◌, ℕ, zero, suc, ◌+◌, Bool, true, false, cond, ◌||◌, eqb, ◌⊎◌, List, [], ◌∷◌, ◌++◌, map, reverse, length, is_some, Some, None, Option, sym, refl, ap, ◌∙◌, subst, inl, inr}
use Rattle.std.proofs.lemmas.Bool.{true≢false, cond_both, both_ways, or_parts, not-true, ne_eqb}
use Rattle.std.specs.Option.{option_map}
use Rattle.keyed.specs.Keyed.{find, change, without}
use Rattle.keyed.specs.Choices.{given, holds}
use Rattle.keyed.specs.Members.{any}
use Rattle.keyed.proofs.Finds.{on, same_some, some_not_none, unmapped, find_change, find_change_here, find_without, find_without_other, find_push, find_push_old, in_find}
use Rattle.keyed.proofs.Maps.{find_map}
use Rattle.keyed.proofs.Searches.{first_in}
use Rattle.nodes.specs.declared.Node.{Node}
use Rattle.nodes.specs.Node.{serial_of, fresh, with_owner, with_task, with_stale, bereaved, released, vacated, child_of, kept, unkept}
use Rattle.lineage.specs.Family.{Family, family, node_at, changed}
use Rattle.lineage.specs.Births.{swept, tidied, orphaned, born}
use Rattle.lineage.specs.Deaths.{mourned, buried, doomed, one_dies, repeated, settled}
use Rattle.lineage.specs.Cascade.{Step, condemned, passed, struck, step_at, step, walk, cascaded}
use Rattle.lineage.proofs.Newborn.{tidied_tells}
use Rattle.supervision.specs.Sound.{Lives}
use Rattle.supervision.specs.Calls.{closed, closed_all, left}
use Rattle.supervision.proofs.Solid.{Solid, solid_map, solid_changed, tidied_by}
use Rattle.supervision.proofs.Dying.{solid_one_dies}
use Rattle.supervision.proofs.Whole.{by_test}

-- a node of a later tree as it was: the same parent, a task or a holder only if it had them, and aborted if it was
pub record Carried (F : Family) (s : ℕ) (n' : Node) : Type 0 where
  pub was : Node
  pub lived : Lives F s was
  pub parents : n'.parent ≡ was.parent
  pub tasks : (i : ℕ) → n'.task ≡ Some i → was.task ≡ Some i
  pub owners : (k : ℕ) → n'.owner ≡ Some k → was.owner ≡ Some k
  pub flags : was.aborted ≡ true → n'.aborted ≡ true

-- every node of G was in F
abbrev pub Thinned : Family → Family → Type 0
Thinned F G = (s : ℕ) (n' : Node) → Lives G s n' → Carried F s n'

-- a node where a task sits lives on, as aborted as it was
pub record Stays (i s : ℕ) (n : Node) (G : Family) : Type 0 where
  pub is : Node
  pub lives : Lives G s is
  pub task : is.task ≡ Some i
  pub flag : is.aborted ≡ n.aborted

-- the task keeps its seat
abbrev pub SeatKept : ℕ → Family → Family → Type 0
SeatKept i F G = (s : ℕ) (n : Node) → Lives F s n → n.task ≡ Some i → Stays i s n G

pub thinned_same : (F : Family) → Thinned F F
thinned_same F s n l = record { was = n; lived = l; parents = refl; tasks = λ i h. h; owners = λ k h. h; flags = λ a. a }

pub thinned_then : (F G H : Family) → Thinned F G → Thinned G H → Thinned F H
thinned_then F G H a b s n l =
    let y = b s n l in
    let x = a s y.was y.lived in
    record {
      was = x.was;
      lived = x.lived;
      parents = y.parents ∙ x.parents;
      tasks = λ i h. x.tasks i (y.tasks i h);
      owners = λ k h. x.owners k (y.owners k h);
      flags = λ h. y.flags (x.flags h);
    }

pub seat_same : (i : ℕ) (F : Family) → SeatKept i F F
seat_same i F s n l t = record { is = n; lives = l; task = t; flag = refl }

pub seat_then : (i : ℕ) (F G H : Family) → SeatKept i F G → SeatKept i G H → SeatKept i F H
seat_then i F G H a b s n l t =
    let x = a s n l t in
    let y = b s x.is x.lives x.task in
    record { is = y.is; lives = y.lives; task = y.task; flag = y.flag ∙ x.flag }

-- a change of a node that gives it neither parent, task nor holder, and takes no flag
pub record Mild (g : Node → Node) : Type 0 where
  pub parents : (n : Node) → (g n).parent ≡ n.parent
  pub tasks : (n : Node) (i : ℕ) → (g n).task ≡ Some i → n.task ≡ Some i
  pub owners : (n : Node) (k : ℕ) → (g n).owner ≡ Some k → n.owner ≡ Some k
  pub flags : (n : Node) → n.aborted ≡ true → (g n).aborted ≡ true

-- a mild change where a test says so
pub mild_where : (test : Node → Bool) (f : Node → Node) → Mild f → Mild (λ n. cond (test n) (f n) n)
mild_where test f mild = record {
  parents = λ n. cond_both (test n) (f n) n (λ (x : Node). x.parent ≡ n.parent) (λ _. mild.parents n) (λ _. refl);
  tasks = λ n i. cond_both (test n) (f n) n (λ (x : Node). x.task ≡ Some i → n.task ≡ Some i) (λ _. mild.tasks n i) (λ _ h. h);
  owners = λ n k. cond_both (test n) (f n) n (λ (x : Node). x.owner ≡ Some k → n.owner ≡ Some k) (λ _. mild.owners n k) (λ _ h. h);
  flags = λ n. cond_both (test n) (f n) n (λ (x : Node). n.aborted ≡ true → x.aborted ≡ true) (λ _. mild.flags n) (λ _ h. h);
}

-- each node of G is that of F, mildly changed
pub thinned_by : (g : Node → Node) → Mild g → (F G : Family) → ((s : ℕ) → find serial_of s G.nodes ≡ option_map g (find serial_of s F.nodes)) → Thinned F G
thinned_by g mild F G finds s n' l =
    let u = unmapped g (find serial_of s F.nodes) n' (sym (finds s) ∙ l) in
    record {
      was = u.0;
      lived = u.1;
      parents = ap (λ (x : Node). x.parent) u.2 ∙ mild.parents u.0;
      tasks = λ i h. mild.tasks u.0 i (ap (λ (x : Node). x.task) (sym u.2) ∙ h);
      owners = λ k h. mild.owners u.0 k (ap (λ (x : Node). x.owner) (sym u.2) ∙ h);
      flags = λ a. ap (λ (x : Node). x.aborted) u.2 ∙ mild.flags u.0 a;
    }

-- and keeps the task's seat, where the change leaves its task and its flag
pub seat_by : (i : ℕ) (g : Node → Node) → ((n : Node) → n.task ≡ Some i → (g n).task ≡ Some i) → ((n : Node) → (g n).aborted ≡ n.aborted) →
    (F G : Family) → ((s : ℕ) → find serial_of s G.nodes ≡ option_map g (find serial_of s F.nodes)) → SeatKept i F G
seat_by i g tasks flags F G finds s n l t = record { is = g n; lives = finds s ∙ ap (option_map g) l; task = tasks n t; flag = flags n }

mild_close : Mild (with_owner None)
mild_close = record { parents = λ n. refl; tasks = λ n i h. h; owners = λ n k h. absurd (some_not_none refl h); flags = λ n a. a }

mild_vacate : Mild (with_task None)
mild_vacate = record { parents = λ n. refl; tasks = λ n i h. absurd (some_not_none refl h); owners = λ n k h. h; flags = λ n a. a }

mild_mourn : Mild bereaved
mild_mourn = record { parents = λ n. refl; tasks = λ n i h. h; owners = λ n k h. h; flags = λ n a. a }

mild_sweep : Mild (with_stale 0)
mild_sweep = record { parents = λ n. refl; tasks = λ n i h. h; owners = λ n k h. h; flags = λ n a. a }

mild_condemn : Mild condemned
mild_condemn = record { parents = λ n. refl; tasks = λ n i h. h; owners = λ n k h. h; flags = λ n a. refl }

-- one node is mildly changed
thinned_change : (f : Node → Node) → Mild f → ((n : Node) → serial_of (f n) ≡ serial_of n) → (s : ℕ) (F G : Family) → G.nodes ≡ change serial_of f s F.nodes → Thinned F G
thinned_change f mild serials s F G is =
    thinned_by (on serial_of s f) (mild_where (λ n. eqb (serial_of n) s) f mild) F G (λ t. ap (find serial_of t) is ∙ find_change serial_of f serials s t F.nodes)

-- a test leaves what both its sides leave
on_both : {Y : Type 0} (field : Node → Y) (y : Y) (b : Bool) (x n : Node) → field x ≡ y → field n ≡ y → field (cond b x n) ≡ y
on_both field y true x n e h = e
on_both field y false x n e h = h

seat_change : (i : ℕ) (f : Node → Node) → ((n : Node) → serial_of (f n) ≡ serial_of n) → ((n : Node) → n.task ≡ Some i → (f n).task ≡ Some i) → ((n : Node) → (f n).aborted ≡ n.aborted) →
    (s : ℕ) (F G : Family) → G.nodes ≡ change serial_of f s F.nodes → SeatKept i F G
seat_change i f serials tasks flags s F G is =
    seat_by i (on serial_of s f)
    (λ n t. on_both (λ (x : Node). x.task) (Some i) (eqb (serial_of n) s) (f n) n (tasks n t) t)
    (λ n. on_both (λ (x : Node). x.aborted) n.aborted (eqb (serial_of n) s) (f n) n (flags n) refl)
    F G (λ t. ap (find serial_of t) is ∙ find_change serial_of f serials s t F.nodes)

-- DEATHS. the tree without a node
abbrev gone : Family → Node → Family
gone F d = family (without serial_of d.serial F.nodes) F.links F.next

thinned_gone : (F : Family) (d : Node) → Thinned F (gone F d)
thinned_gone F d s n l = record { was = n; lived = find_without serial_of d.serial s F.nodes n l; parents = refl; tasks = λ i h. h; owners = λ k h. h; flags = λ a. a }

thinned_mourned : (F : Family) (d : Node) (o : Option ℕ) → (G : Family) → G.nodes ≡ mourned o (without serial_of d.serial F.nodes) → Thinned (gone F d) G
thinned_mourned F d None G is = thinned_by (λ n. n) (record { parents = λ n. refl; tasks = λ n i h. h; owners = λ n k h. h; flags = λ n a. a }) (gone F d) G (λ s. ap (find serial_of s) is ∙ same_mapped (find serial_of s (gone F d).nodes)) where
  same_mapped : (o : Option Node) → o ≡ option_map (λ (n : Node). n) o
  same_mapped None = refl
  same_mapped (Some n) = refl
thinned_mourned F d (Some p) G is = thinned_change bereaved mild_mourn (λ _. refl) p (gone F d) G is

thinned_one_at : (F : Family) (o : Option Node) → Thinned F (given o F (λ n. buried n F))
thinned_one_at F None = thinned_same F
thinned_one_at F (Some d) = thinned_then F (gone F d) (buried d F) (thinned_gone F d) (thinned_mourned F d d.parent (buried d F) refl)

thinned_repeated : (k : ℕ) (F : Family) → Thinned F (repeated k one_dies F)
thinned_repeated zero F = thinned_same F
thinned_repeated (suc k) F = thinned_then F (one_dies F) (repeated k one_dies (one_dies F)) (thinned_one_at F (doomed F)) (thinned_repeated k (one_dies F))

thinned_settled : (F : Family) → Thinned F (settled F)
thinned_settled F = thinned_repeated (length F.nodes) F

-- nobody sits at a node that is doomed
doomed_empty : (F : Family) (d : Node) → doomed F ≡ Some d → is_some d.task ≡ false
doomed_empty F d h =
    let lone : kept F.nodes d ≡ false = not-true (kept F.nodes d) (first_in (unkept F.nodes) F.nodes d h).1 in
    (or_parts (is_some d.owner) (is_some d.task) (or_parts (is_some d.owner || is_some d.task) (any (child_of d.serial) F.nodes) lone).0).1

module _ (i : ℕ) where
  seat_gone : (F : Family) (d : Node) → Solid F → doomed F ≡ Some d → SeatKept i F (gone F d)
  seat_gone F d ok h s n l t =
      let stands : Lives F d.serial d = in_find serial_of 0 F.next F.nodes d ok.frame.order (first_in (unkept F.nodes) F.nodes d h).0 in
      let apart : s ≡ d.serial → ⊥ = λ e.
      let is : n ≡ d = same_some (subst (λ z. Lives F z n) e l) stands in
      both_ways (is_some d.task) (doomed_empty F d h) (ap is_some (ap (λ (x : Node). x.task) (sym is) ∙ t)) in
      record { is = n; lives = find_without_other serial_of d.serial s F.nodes apart ∙ l; task = t; flag = refl }

  seat_mourned : (F : Family) (d : Node) (o : Option ℕ) (G : Family) → G.nodes ≡ mourned o (without serial_of d.serial F.nodes) → SeatKept i (gone F d) G
  seat_mourned F d None G is s n l t = record { is = n; lives = ap (find serial_of s) is ∙ l; task = t; flag = refl }
  seat_mourned F d (Some p) G is s n l t = seat_change i bereaved (λ _. refl) (λ n t. t) (λ n. refl) p (gone F d) G is s n l t

  seat_one_at : (F : Family) (o : Option Node) → doomed F ≡ o → Solid F → SeatKept i F (given o F (λ n. buried n F))
  seat_one_at F None h ok = seat_same i F
  seat_one_at F (Some d) h ok = seat_then i F (gone F d) (buried d F) (seat_gone F d ok h) (seat_mourned F d d.parent (buried d F) refl)

  seat_repeated : (k : ℕ) (F : Family) → Solid F → SeatKept i F (repeated k one_dies F)
  seat_repeated zero F ok = seat_same i F
  seat_repeated (suc k) F ok = seat_then i F (one_dies F) (repeated k one_dies (one_dies F)) (seat_one_at F (doomed F) refl ok) (seat_repeated k (one_dies F) (solid_one_dies F ok))

  seat_settled : (F : Family) → Solid F → SeatKept i F (settled F)
  seat_settled F ok = seat_repeated (length F.nodes) F ok

-- a context is closed
pub thinned_closed : (c : ℕ) (F : Family) → Thinned F (closed c F)
thinned_closed c F =
    let G : Family = changed (with_owner None) c F in
    thinned_then F G (settled G) (thinned_change (with_owner None) mild_close (λ _. refl) c F G refl) (thinned_settled G)

pub seat_closed : (i c : ℕ) (F : Family) → Solid F → SeatKept i F (closed c F)
seat_closed i c F ok =
    let G : Family = changed (with_owner None) c F in
    seat_then i F G (settled G) (seat_change i (with_owner None) (λ _. refl) (λ n t. t) (λ n. refl) c F G refl)
    (seat_settled i G (solid_changed (with_owner None) (λ _. refl) (λ _. refl) (λ _. refl) c F ok))

-- every context that a task holds is closed
abbrev pub all_released : ℕ → Family → Family
all_released task F = family (map (released task) F.nodes) F.links F.next

released_serial : (task : ℕ) (n : Node) → (released task n).serial ≡ n.serial
released_serial task n = by_test (λ (m : Node). m.serial) (holds task n.owner) (with_owner None n) n refl

pub thinned_closed_all : (task : ℕ) (F : Family) → Thinned F (closed_all task F)
thinned_closed_all task F =
    let G : Family = all_released task F in
    thinned_then F G (settled G)
    (thinned_by (released task) (mild_where (λ n. holds task n.owner) (with_owner None) mild_close) F G (λ s. find_map serial_of (released task) (released_serial task) s F.nodes))
    (thinned_settled G)

pub seat_closed_all : (i task : ℕ) (F : Family) → Solid F → SeatKept i F (closed_all task F)
seat_closed_all i task F ok =
    let G : Family = all_released task F in
    seat_then i F G (settled G)
    (seat_by i (released task)
    (λ n t. on_both (λ (x : Node). x.task) (Some i) (holds task n.owner) (with_owner None n) n t t)
    (λ n. on_both (λ (x : Node). x.aborted) n.aborted (holds task n.owner) (with_owner None n) n refl refl)
    F G (λ s. find_map serial_of (released task) (released_serial task) s F.nodes))
    (seat_settled i G (solid_map (released task) (released_serial task)
    (λ n. by_test (λ (m : Node). m.parent) (holds task n.owner) (with_owner None n) n refl)
    (λ n. by_test (λ (m : Node). m.aborted) (holds task n.owner) (with_owner None n) n refl) F ok))

-- a task leaves its node
abbrev pub all_vacated : ℕ → Family → Family
all_vacated task F = family (map (vacated task) F.nodes) F.links F.next

vacated_serial : (task : ℕ) (n : Node) → (vacated task n).serial ≡ n.serial
vacated_serial task n = by_test (λ (m : Node). m.serial) (holds task n.task) (with_task None n) n refl

pub thinned_left : (task : ℕ) (F : Family) → Thinned F (left task F)
thinned_left task F =
    let G : Family = all_vacated task F in
    thinned_then F G (settled G)
    (thinned_by (vacated task) (mild_where (λ n. holds task n.task) (with_task None) mild_vacate) F G (λ s. find_map serial_of (vacated task) (vacated_serial task) s F.nodes))
    (thinned_settled G)

-- another task keeps its seat
vacated_other : (i task : ℕ) → (i ≡ task → ⊥) → (n : Node) → n.task ≡ Some i → (vacated task n).task ≡ Some i
vacated_other i task apart n t =
    let off : holds task n.task ≡ false = ap (holds task) t ∙ ne_eqb i task apart in
    ap (λ b. (cond b (with_task None n) n).task) off ∙ t

pub seat_left : (i task : ℕ) → (i ≡ task → ⊥) → (F : Family) → Solid F → SeatKept i F (left task F)
seat_left i task apart F ok =
    let G : Family = all_vacated task F in
    seat_then i F G (settled G)
    (seat_by i (vacated task) (vacated_other i task apart)
    (λ n. on_both (λ (x : Node). x.aborted) n.aborted (holds task n.task) (with_task None n) n refl refl)
    F G (λ s. find_map serial_of (vacated task) (vacated_serial task) s F.nodes))
    (seat_settled i G (solid_map (vacated task) (vacated_serial task)
    (λ n. by_test (λ (m : Node). m.parent) (holds task n.task) (with_task None n) n refl)
    (λ n. by_test (λ (m : Node). m.aborted) (holds task n.task) (with_task None n) n refl) F ok))

-- THE CASCADE
thinned_step : (s : ℕ) (o : Option Node) (F : Family) → Thinned F (step_at s o F).after
thinned_step s None F = thinned_same F
thinned_step s (Some n) F = cond_both n.aborted (passed F) (struck s n F) (λ (v : Step). Thinned F v.after) (λ _. thinned_same F) (λ _. thinned_change condemned mild_condemn (λ _. refl) s F (struck s n F).after refl)

thinned_walk : (k : ℕ) (st : List ℕ) (F : Family) → Thinned F (walk k st F).0
thinned_walk zero st F = thinned_same F
thinned_walk (suc k) [] F = thinned_same F
thinned_walk (suc k) (s ∷ st) F = thinned_then F (step s F).after (walk (suc k) (s ∷ st) F).0 (thinned_step s (node_at s F) F) (thinned_walk k (reverse (step s F).below ++ st) (step s F).after)

pub thinned_cascaded : (top : ℕ) (F : Family) → Thinned F (cascaded top F).0
thinned_cascaded top F = thinned_walk (1 + length F.links) (top ∷ []) F

-- a node where a task sits lives on, aborted or not
pub record SitsOn (i s : ℕ) (G : Family) : Type 0 where
  pub is : Node
  pub lives : Lives G s is
  pub task : is.task ≡ Some i

module _ (i s : ℕ) where
  sits_step : (t : ℕ) (o : Option Node) (F : Family) → SitsOn i s F → SitsOn i s (step_at t o F).after
  sits_step t None F x = x
  sits_step t (Some n) F x =
      cond_both n.aborted (passed F) (struck t n F) (λ (v : Step). SitsOn i s v.after) (λ _. x)
      (λ _. record {
        is = on serial_of t condemned x.is;
        lives = find_change serial_of condemned (λ _. refl) t s F.nodes ∙ ap (option_map (on serial_of t condemned)) x.lives;
        task = on_both (λ (y : Node). y.task) (Some i) (eqb (serial_of x.is) t) (condemned x.is) x.is x.task x.task;
      })

  sits_walk : (k : ℕ) (st : List ℕ) (F : Family) → SitsOn i s F → SitsOn i s (walk k st F).0
  sits_walk zero st F x = x
  sits_walk (suc k) [] F x = x
  sits_walk (suc k) (t ∷ st) F x = sits_walk k (reverse (step t F).below ++ st) (step t F).after (sits_step t (node_at t F) F x)

  pub sits_cascaded : (top : ℕ) (F : Family) → SitsOn i s F → SitsOn i s (cascaded top F).0
  sits_cascaded top F x = sits_walk (1 + length F.links) (top ∷ []) F x

-- BIRTHS. a new node under c has no task; unless it is aborted, c is its parent, and no other is
pub record Newcomer (c : ℕ) (n : Node) : Type 0 where
  pub empty : n.task ≡ None
  pub under : n.aborted ≡ false → n.parent ≡ Some c
  pub only : (p : ℕ) → n.parent ≡ Some p → p ≡ c

-- G is F with one node more, under c
pub record Gained (c : ℕ) (F G : Family) : Type 0 where
  pub new : Node
  pub newcomer : Newcomer c new
  pub next : G.next ≡ F.next + 1
  pub old : (s : ℕ) (n' : Node) → Lives G s n' → Carried F s n' ⊎ ((n' ≡ new) × (s ≡ F.next))
  pub seats : (i : ℕ) → SeatKept i F G

-- one node more at the end
seat_push : (i : ℕ) (F G : Family) (new : Node) → G.nodes ≡ F.nodes ++ new ∷ [] → SeatKept i F G
seat_push i F G new is s n l t = record { is = n; lives = ap (find serial_of s) is ∙ find_push_old serial_of s F.nodes new n l; task = t; flag = refl }

-- the new node comes after a tidying, or at once
gained_by : (c : ℕ) (F H G : Family) (new : Node) → Thinned F H → ((i : ℕ) → SeatKept i F H) → H.next ≡ F.next → G.nodes ≡ H.nodes ++ new ∷ [] → G.next ≡ H.next + 1 → serial_of new ≡ H.next → Newcomer c new → Gained c F G
gained_by c F H G new thin seats same is next serial comes = record {
  new = new;
  newcomer = comes;
  next = next ∙ ap (λ k. k + 1) same;
  old = λ s n' l. elim (find_push serial_of s H.nodes new n' (ap (find serial_of s) (sym is) ∙ l)) [
    | inl o ↦ inl (thin s n' o)
    | inr e ↦ inr (e.0, sym e.1 ∙ (serial ∙ same))
  ];
  seats = λ i. seat_then i F H G (seats i) (seat_push i H G new is);
}

pub gained_orphaned : (c owner : ℕ) (F : Family) → Gained c F (orphaned owner F)
gained_orphaned c owner F =
    gained_by c F F (orphaned owner F) (fresh F.next None true owner) (thinned_same F) (λ i. seat_same i F) refl refl refl refl
    (record { empty = refl; under = λ a. absurd (true≢false a); only = λ p h. absurd (some_not_none refl h) })

thinned_tidied : (p : ℕ) (F : Family) → Thinned F (tidied p F)
thinned_tidied p F = tidied_by (Thinned F) p F (thinned_same F) (thinned_change (with_stale 0) mild_sweep (λ _. refl) p F (swept p F) refl)

seat_tidied : (i p : ℕ) (F : Family) → SeatKept i F (tidied p F)
seat_tidied i p F = tidied_by (SeatKept i F) p F (seat_same i F) (seat_change i (with_stale 0) (λ _. refl) (λ n t. t) (λ n. refl) p F (swept p F) refl)

pub gained_born : (c owner : ℕ) (F : Family) → Gained c F (born c owner F)
gained_born c owner F =
    gained_by c F (tidied c F) (born c owner F) (fresh (tidied c F).next (Some c) false owner) (thinned_tidied c F) (λ i. seat_tidied i c F) (tidied_tells c F).next refl refl refl
    (record { empty = refl; under = λ _. refl; only = λ p h. cc })

-- a node that lives before a birth lives after it, with its holder, its task and its flag
pub record Alike (c : ℕ) (n : Node) (G : Family) : Type 0 where
  pub is : Node
  pub lives : Lives G c is
  pub owner : is.owner ≡ n.owner
  pub task : is.task ≡ n.task
  pub flag : is.aborted ≡ n.aborted

alike_tidied : (c : ℕ) (F : Family) (n : Node) → Lives F c n → Alike c n (tidied c F)
alike_tidied c F n l =
    tidied_by (Alike c n) c F (record { is = n; lives = l; owner = refl; task = refl; flag = refl })
    (record { is = with_stale 0 n; lives = find_change_here serial_of (with_stale 0) (λ _. refl) c F.nodes n l; owner = refl; task = refl; flag = refl })

pub alike_born : (c owner : ℕ) (F : Family) (n : Node) → Lives F c n → Alike c n (born c owner F)
alike_born c owner F n l =
    let a = alike_tidied c F n l in
    record { is = a.is; lives = find_push_old serial_of c (tidied c F).nodes (fresh (tidied c F).next (Some c) false owner) a.is a.lives; owner = a.owner; task = a.task; flag = a.flag }
