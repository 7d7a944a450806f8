-- How each operation on a tree changes the next serial, how many contexts are open and how often a task is seated.
use Rattle.std.proofs.Common.{◌≡◌, ℕ, ◌+◌, ◌≤◌, Bool, true, false, cond, eqb, List, [], ◌∷◌, map, is_some, Some, None, Option, sym, refl, ap, ◌∙◌, arith}
use Rattle.std.proofs.lemmas.Bool.{cond_both}
use Rattle.keyed.specs.Choices.{given, holds}
use Rattle.nodes.specs.declared.Node.{Node}
use Rattle.nodes.specs.Node.{with_owner, with_task, released, vacated, taken, seats}
use Rattle.lineage.specs.Family.{Family, family, node_at, changed, open_for, aborted_at}
use Rattle.lineage.specs.Births.{orphaned, born}
use Rattle.lineage.specs.Cascade.{cascaded}
use Rattle.supervision.specs.Sound.{seats_with}
use Rattle.supervision.specs.Calls.{with_child, seated, closed, closed_all, left}
use Rattle.supervision.proofs.Ages.{next_settled, next_cascaded, next_born}
use Rattle.deterministic.specs.Bounds.{open_contexts}
use Rattle.growth.specs.Grows.{Grows}
use Rattle.deterministic.proofs.Countings.{counted, NeverGains, keeps_gains_none, ends_gains_none, either_gains_none}
use Rattle.growth.proofs.Families.{Steady, among_cascaded, among_mapped, among_closed, among_closed_held, among_child, among_seated, among_seated_held}

-- the context of the node is open
abbrev opened : Node → Bool
opened n = is_some n.owner

-- the open contexts, and the seats of a task, are counted by tests
opens_counted : (ns : List Node) → open_contexts ns ≡ counted opened ns
unfolding open_contexts counted
opens_counted [] = refl
opens_counted (n ∷ ns) = ap (λ k. cond (opened n) 1 0 + k) (opens_counted ns)

seats_counted : (k : ℕ) (ns : List Node) → seats_with k ns ≡ counted (seats k) ns
unfolding counted
seats_counted k [] = refl
seats_counted k (n ∷ ns) = ap (λ i. cond (seats k n) 1 0 + i) (seats_counted k ns)

opens_steady : Steady opened
opens_steady = record { flags = λ b n. refl; stales = λ k n. refl }

seats_steady : (k : ℕ) → Steady (seats k)
seats_steady k = record { flags = λ b n. refl; stales = λ i n. refl }

-- what is shown of the counts holds of the contexts
opens_fewer : (ns ms : List Node) → counted opened ms ≤ counted opened ns → open_contexts ms ≤ open_contexts ns
opens_fewer ns ms h = omega (arith, h, opens_counted ns, opens_counted ms)

-- and of the seats
seats_fewer : (k : ℕ) (ns ms : List Node) → counted (seats k) ms ≤ counted (seats k) ns → seats_with k ms ≤ seats_with k ns
seats_fewer k ns ms h = omega (arith, h, seats_counted k ns, seats_counted k ms)

-- a context that a task holds is open
opened_at : (holder : ℕ) (o : Option Node) → given o false (λ n. holds holder n.owner) ≡ true → given o false opened ≡ true
opened_at holder None h = h
opened_at holder (Some n) h = held n.owner h where
  held : (o : Option ℕ) → holds holder o ≡ true → is_some o ≡ true
  held None g = g
  held (Some i) g = refl

-- a child: one more serial, one more open context
pub child_next : (task s : ℕ) (F : Family) → (with_child task s F).next ≡ F.next + 1
child_next task s F = cond_both (aborted_at s F) (orphaned task F) (born s task F) (λ (G : Family). G.next ≡ F.next + 1) (λ _. refl) (λ _. next_born s task F)

pub child_opens : (task s : ℕ) (F : Family) → open_contexts (with_child task s F).nodes ≡ open_contexts F.nodes + 1
child_opens task s F =
    opens_counted (with_child task s F).nodes
    ∙ (among_child opened opens_steady true (λ _ _ _ _. refl) task s F
    ∙ ap (λ i. i + 1) (sym (opens_counted F.nodes)))

pub child_seats : (k task s : ℕ) (F : Family) → seats_with k (with_child task s F).nodes ≡ seats_with k F.nodes
child_seats k task s F =
    let same = among_child (seats k) (seats_steady k) false (λ _ _ _ _. refl) task s F in
    omega (arith, same, seats_counted k F.nodes, seats_counted k (with_child task s F).nodes)

-- a seat: one more serial, a context spent and one opened
pub seated_next : (s task : ℕ) (F : Family) → (seated s task F).next ≡ F.next + 1
seated_next s task F = next_born s task F

pub seated_opens : (holder s task : ℕ) (F : Family) → open_for holder s F ≡ true → open_contexts (seated s task F).nodes ≤ open_contexts F.nodes
seated_opens holder s task F h =
    let less = among_seated_held opened opens_steady true (λ _ _ _ _. refl) s task (λ _. refl) F (opened_at holder (node_at s F) h) in
    opens_fewer F.nodes (seated s task F).nodes (omega (arith, less))

pub seated_seats : (k s task : ℕ) (F : Family) → eqb task k ≡ false → seats_with k (seated s task F).nodes ≤ seats_with k F.nodes
seated_seats k s task F other =
    let less = among_seated (seats k) (seats_steady k) false (λ _ _ _ _. refl) s task (ends_gains_none (seats k) (taken task) (λ _. other)) F in
    seats_fewer k F.nodes (seated s task F).nodes (omega (arith, less))

-- the close of a context touches no seat
closes_gain_none : NeverGains opened (with_owner None)
closes_gain_none = ends_gains_none opened (with_owner None) (λ _. refl)

closes_seat_none : (k : ℕ) → NeverGains (seats k) (with_owner None)
closes_seat_none k = keeps_gains_none (seats k) (with_owner None) (λ _. refl)

pub closed_next : (s : ℕ) (F : Family) → (closed s F).next ≡ F.next
closed_next s F = next_settled (changed (with_owner None) s F)

pub closed_opens : (s : ℕ) (F : Family) → open_contexts (closed s F).nodes ≤ open_contexts F.nodes
closed_opens s F = opens_fewer F.nodes (closed s F).nodes (among_closed opened opens_steady closes_gain_none s F)

pub closed_opens_held : (holder s : ℕ) (F : Family) → open_for holder s F ≡ true → open_contexts (closed s F).nodes + 1 ≤ open_contexts F.nodes
closed_opens_held holder s F h =
    let less = among_closed_held opened opens_steady (λ _. refl) s F (opened_at holder (node_at s F) h) in
    omega (arith, less, opens_counted F.nodes, opens_counted (closed s F).nodes)

pub closed_seats : (k s : ℕ) (F : Family) → seats_with k (closed s F).nodes ≤ seats_with k F.nodes
closed_seats k s F = seats_fewer k F.nodes (closed s F).nodes (among_closed (seats k) (seats_steady k) (closes_seat_none k) s F)

-- every context of a task is closed
pub closed_all_next : (task : ℕ) (F : Family) → (closed_all task F).next ≡ F.next
closed_all_next task F = next_settled (family (map (released task) F.nodes) F.links F.next)

pub closed_all_opens : (task : ℕ) (F : Family) → open_contexts (closed_all task F).nodes ≤ open_contexts F.nodes
closed_all_opens task F =
    opens_fewer F.nodes (closed_all task F).nodes
    (among_mapped opened opens_steady (released task) (either_gains_none opened (with_owner None) closes_gain_none (λ n. holds task n.owner)) F)

pub closed_all_seats : (k task : ℕ) (F : Family) → seats_with k (closed_all task F).nodes ≤ seats_with k F.nodes
closed_all_seats k task F =
    seats_fewer k F.nodes (closed_all task F).nodes
    (among_mapped (seats k) (seats_steady k) (released task) (either_gains_none (seats k) (with_owner None) (closes_seat_none k) (λ n. holds task n.owner)) F)

-- a task leaves its node
pub left_next : (task : ℕ) (F : Family) → (left task F).next ≡ F.next
left_next task F = next_settled (family (map (vacated task) F.nodes) F.links F.next)

pub left_opens : (task : ℕ) (F : Family) → open_contexts (left task F).nodes ≤ open_contexts F.nodes
left_opens task F =
    opens_fewer F.nodes (left task F).nodes
    (among_mapped opened opens_steady (vacated task) (either_gains_none opened (with_task None) (keeps_gains_none opened (with_task None) (λ _. refl)) (λ n. holds task n.task)) F)

pub left_seats : (k task : ℕ) (F : Family) → seats_with k (left task F).nodes ≤ seats_with k F.nodes
left_seats k task F =
    seats_fewer k F.nodes (left task F).nodes
    (among_mapped (seats k) (seats_steady k) (vacated task) (either_gains_none (seats k) (with_task None) (ends_gains_none (seats k) (with_task None) (λ _. refl)) (λ n. holds task n.task)) F)

-- a cascade leaves contexts and seats as they were
pub cascaded_next : (s : ℕ) (F : Family) → (cascaded s F).0.next ≡ F.next
cascaded_next s F = next_cascaded s F

pub cascaded_opens : (s : ℕ) (F : Family) → open_contexts (cascaded s F).0.nodes ≡ open_contexts F.nodes
cascaded_opens s F = opens_counted (cascaded s F).0.nodes ∙ (among_cascaded opened opens_steady s F ∙ sym (opens_counted F.nodes))

pub cascaded_seats : (k s : ℕ) (F : Family) → seats_with k (cascaded s F).0.nodes ≡ seats_with k F.nodes
cascaded_seats k s F = seats_counted k (cascaded s F).0.nodes ∙ (among_cascaded (seats k) (seats_steady k) s F ∙ sym (seats_counted k F.nodes))

pub grows : (F : Family) → Grows F
grows F = record {
  child_next = λ task s. child_next task s F;
  child_opens = λ task s. child_opens task s F;
  child_seats = λ k task s. child_seats k task s F;
  seated_next = λ s task. seated_next s task F;
  seated_opens = λ holder s task h. seated_opens holder s task F h;
  seated_seats = λ k s task h. seated_seats k s task F h;
  closed_next = λ s. closed_next s F;
  closed_opens = λ s. closed_opens s F;
  closed_opens_held = λ holder s h. closed_opens_held holder s F h;
  closed_seats = λ k s. closed_seats k s F;
  closed_all_next = λ task. closed_all_next task F;
  closed_all_opens = λ task. closed_all_opens task F;
  closed_all_seats = λ k task. closed_all_seats k task F;
  left_next = λ task. left_next task F;
  left_opens = λ task. left_opens task F;
  left_seats = λ k task. left_seats k task F;
  cascaded_next = λ s. cascaded_next s F;
  cascaded_opens = λ s. cascaded_opens s F;
  cascaded_seats = λ k s. cascaded_seats k s F;
}
