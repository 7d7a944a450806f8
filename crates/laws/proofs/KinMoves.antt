-- What moves lead to, one after another, as to registry and tree and what is told of them.
use Rattle.std.proofs.Common.{◌≡◌, ℕ, true, false, List, [], ◌∷◌, ◌++◌, map, Some, None, Option, sym, refl, ap, ◌∙◌, subst, inl, inr, append_assoc, append-nil, arith}
use Rattle.std.proofs.lemmas.Bool.{cond_both}
use Rattle.std.specs.Option.{option_map}
use Rattle.keyed.specs.Choices.{given, holds}
use Rattle.keyed.specs.Members.{In, first}
use Rattle.keyed.proofs.Answers.{holds_is}
use Rattle.keyed.proofs.Finds.{in_find}
use Rattle.keyed.proofs.Searches.{first_in}
use Rattle.reasons.specs.declared.cause.Cause.{Cause}
use Rattle.nodes.specs.declared.Node.{Node}
use Rattle.nodes.specs.Node.{serial_of, with_owner, seats}
use Rattle.lineage.specs.Family.{Family, node_at, changed, open_for, aborted_at}
use Rattle.lineage.specs.Births.{orphaned, born}
use Rattle.supervision.specs.Calls.{seat_of}
use Rattle.supervision.specs.Calls as tree
use Rattle.supervision.proofs.Whole.{whole_alone, whole_born, whole_seated, whole_closed, whole_closed_all, open_lives, flag_at}
use Rattle.supervision.proofs.Ages.{next_settled}
use Rattle.deterministic.specs.Model as model
use Rattle.deterministic.specs.Model.{Registry, Model, with_task, with_changed}
use Rattle.deterministic.specs.Moves.{Move, wake, register, arm, mark, pend, leave, grow, quiet, plant, close, move, moves, wakes}
use Rattle.deterministic.specs.Calls.{spawning}
use Rattle.deterministic.specs.Below.{Tiding, planted, seated}
use Rattle.deterministic.specs.Acts.{did, told_by, telling, all_of}
use Rattle.deterministic.proofs.Doings.{moves_append}
use Rattle.laws.proofs.KinTrees.{all_released, thinned_closed, seat_closed, thinned_closed_all, seat_closed_all, gained_orphaned, gained_born, alike_born}
use Rattle.laws.proofs.KinWatched.{TreeTold, Watched}
use Rattle.laws.proofs.KinGrowth.{none_or_some, watched_thinned, watched_gained}
use Rattle.laws.proofs.KinTasks.{watched_pended}
use Rattle.laws.proofs.KinSeats.{watched_seated}

-- what moves tell
abbrev pub tells : List Move → List Tiding
tells [] = []
tells (a ∷ more) = told_by a ++ tells more

pub tells_append : (l k : List Move) → tells (l ++ k) ≡ tells l ++ tells k
tells_append [] k = refl
tells_append (a ∷ l) k = ap (λ (x : List Tiding). told_by a ++ x) (tells_append l k) ∙ sym (append_assoc (told_by a) (tells l) (tells k))

-- as acts they tell the same
pub acts_tell : (l : List Move) → all_of telling (map did l) ≡ tells l
unfolding all_of
acts_tell [] = refl
acts_tell (a ∷ l) = ap (λ (x : List Tiding). told_by a ++ x) (acts_tell l)

-- what is said of registry and tree after what was told
abbrev pub Saying : Type 1
Saying = List Tiding → Registry → Family → Type 0

-- moves lead from the one to the other, whatever was told before
abbrev pub Leads : Saying → List Move → Model → Saying → Type 0
Leads R l m S = (told : List Tiding) → R told m.registry m.tree → S (told ++ tells l) (moves l m).registry (moves l m).tree

-- moves, and then others
pub leads_then : (R S T : Saying) (l k : List Move) (m : Model) → Leads R l m S → Leads S k (moves l m) T → Leads R (l ++ k) m T
leads_then R S T l k m f g told ok =
    let there = g (told ++ tells l) (f told ok) in
    let telling_all : (told ++ tells l) ++ tells k ≡ told ++ tells (l ++ k) = append_assoc told (tells l) (tells k) ∙ ap (λ (x : List Tiding). told ++ x) (sym (tells_append l k)) in
    subst (λ (x : List Tiding). T x (moves (l ++ k) m).registry (moves (l ++ k) m).tree) telling_all
    (subst (λ (n : Model). T ((told ++ tells l) ++ tells k) n.registry n.tree) (sym (moves_append l k m)) there)

-- moves that touch neither registry nor tree
abbrev pub Silent : List Move → Type 0
Silent [] = Unit {0}
Silent (wake i cause ∷ more) = Silent more
Silent (register i label node ∷ more) = ⊥
Silent (arm a ∷ more) = Silent more
Silent (mark i ∷ more) = ⊥
Silent (pend i ∷ more) = ⊥
Silent (leave i ending ∷ more) = ⊥
Silent (grow g ∷ more) = ⊥
Silent (quiet q ∷ more) = Silent more

-- they lead nowhere else
pub leads_silent : (R : Saying) (l : List Move) (m : Model) → Silent l → Leads R l m R
leads_silent R [] m s told ok = subst (λ (x : List Tiding). R x m.registry m.tree) (sym (append-nil told)) ok
leads_silent R (wake i cause ∷ more) m s told ok = leads_silent R more (move (wake i cause) m) s told ok
leads_silent R (register i label node ∷ more) m s told ok = absurd s
leads_silent R (arm a ∷ more) m s told ok = leads_silent R more (move (arm a) m) s told ok
leads_silent R (mark i ∷ more) m s told ok = absurd s
leads_silent R (pend i ∷ more) m s told ok = absurd s
leads_silent R (leave i ending ∷ more) m s told ok = absurd s
leads_silent R (grow g ∷ more) m s told ok = absurd s
leads_silent R (quiet q ∷ more) m s told ok = leads_silent R more (move (quiet q) m) s told ok

pub silent_wakes : (cause : Cause) (ids : List ℕ) → Silent (wakes cause ids)
silent_wakes cause [] = tt
silent_wakes cause (i ∷ ids) = silent_wakes cause ids

-- all is as it was told, and these tasks are late
abbrev pub Watching : List ℕ → Saying
Watching late told r F = Watched told late r F

-- a context is closed
pub leads_close : (late : List ℕ) (c : ℕ) (m : Model) → Leads (Watching late) (grow (close c) ∷ []) m (Watching late)
leads_close late c m told ok =
    let F = m.tree in
    subst (λ (x : List Tiding). Watched x late m.registry (tree.closed c F)) (sym (append-nil told))
    (watched_thinned told late m.registry F (tree.closed c F) ok (whole_closed c F ok.tree.whole) (next_settled (changed (with_owner None) c F)) (thinned_closed c F) (λ i. seat_closed i c F ok.tree.whole.solid))

-- every context that a task holds is closed
pub watched_closed_all : (told : List Tiding) (late : List ℕ) (r : Registry) (F : Family) (task : ℕ) → Watched told late r F → Watched told late r (tree.closed_all task F)
watched_closed_all told late r F task ok =
    watched_thinned told late r F (tree.closed_all task F) ok (whole_closed_all task F ok.tree.whole) (next_settled (all_released task F)) (thinned_closed_all task F) (λ i. seat_closed_all i task F ok.tree.whole.solid)

-- a context comes under one that is open
pub leads_plant : (late : List ℕ) (c task : ℕ) (m : Model) → open_for task c m.tree ≡ true → Leads (Watching late) (grow (plant m.tree.next c task) ∷ []) m (Watching late)
leads_plant late c task m held told ok =
    let F = m.tree in
    let r = m.registry in
    let n = open_lives task c F held in
    cond_both (aborted_at c F) (orphaned task F) (born c task F) (λ (G : Family). Watched (told ++ planted F.next c ∷ []) late r G)
    (λ _. watched_gained told late r c F (orphaned task F) ok (whole_alone true task F ok.tree.whole) (gained_orphaned c task F))
    (λ q. watched_gained told late r c F (born c task F) ok (whole_born c task F n.0 n.1 (flag_at c F n.0 false n.1 q) ok.tree.whole) (gained_born c task F))

-- who was not told seated sits nowhere
nowhere : (told : List Tiding) (F : Family) (i : ℕ) → TreeTold told F → ((s : ℕ) → In (seated i s) told → ⊥) → seat_of i F ≡ None
nowhere told F i ok never = elim (none_or_some (first (seats i) F.nodes)) [
  | inl e ↦ ap (option_map serial_of) e
  | inr w ↦
      let there = first_in (seats i) F.nodes w.0 w.1 in
      let stands = in_find serial_of 0 F.next F.nodes w.0 ok.whole.solid.frame.order there.0 in
      absurd (never (serial_of w.0) (ok.seats i (serial_of w.0) w.0 stands (holds_is i w.0.task there.1)))
]

-- who holds an open context
held_by : (task : ℕ) (o : Option Node) (n : Node) → o ≡ Some n → given o false (λ x. holds task x.owner) ≡ true → n.owner ≡ Some task
held_by task o n e h = holds_is task n.owner (sym (ap (λ (x : Option Node). given x false (λ y. holds task y.owner)) e) ∙ h)

-- the next task is seated and registered
pub leads_spawn : (c task : ℕ) (label : List ℕ) (m : Model) → open_for task c m.tree ≡ true → aborted_at c m.tree ≡ false → Leads (Watching []) (spawning c label m) m (Watching [])
leads_spawn c task label m held unaborted told ok =
    let F = m.tree in
    let r = m.registry in
    let i = r.next in
    let G = born c i F in
    let n = open_lives task c F held in
    let quiet_one = flag_at c F n.0 false n.1 unaborted in
    let whole = ok.tree.whole in
    let grown = watched_gained told [] r c F G ok (whole_born c i F n.0 n.1 quiet_one whole) (gained_born c i F) in
    let a = alike_born c i F n.0 n.1 in
    let seatless = nowhere told F i ok.tree (λ s h. omega (arith, (ok.registry.homes i s h).0)) in
    let sits = watched_seated (told ++ planted F.next c ∷ []) r G c task label a.is a.lives (a.owner ∙ held_by task (node_at c F) n.0 n.1 held) (a.flag ∙ quiet_one) (whole_seated c i F n.0 n.1 quiet_one seatless whole) grown in
    subst (λ (x : List Tiding). Watched x [] (with_task i label (Some c) r) (tree.seated c i F)) (append_assoc told (planted F.next c ∷ []) (seated i c ∷ [])) sits

-- a body came to pending
pub leads_pend : (late : List ℕ) (i : ℕ) (m : Model) → Leads (Watching late) (pend i ∷ []) m (Watching late)
leads_pend late i m told ok = subst (λ (x : List Tiding). Watched x late (with_changed model.pended i m.registry) m.tree) (sym (append-nil told)) (watched_pended told late m.registry m.tree i ok)
