-- How each operation on a supervision tree changes three numbers.
--
-- next    the serial that comes next: a birth takes one, and nothing else does
-- opens   how many contexts are open: a child opens one, a seat spends one and opens one, a close ends one
-- seats   at how many nodes a task is seated: only the task that takes a seat gains one
use Rattle.std.specs.Prelude.{◌≡◌, ℕ, ◌+◌, ◌≤◌, true, false, ◌==◌}
use Rattle.lineage.specs.Family.{Family, open_for}
use Rattle.lineage.specs.Cascade.{cascaded}
use Rattle.supervision.specs.Sound.{seats_with}
use Rattle.supervision.specs.Calls.{with_child, seated, closed, closed_all, left}
use Rattle.deterministic.specs.Bounds.{open_contexts}

-- what becomes of the three numbers of the tree F
pub record Grows (F : Family) : Type 0 where
  -- a child takes a serial and opens one context, and nobody is seated there
  pub child_next : (task s : ℕ) → (with_child task s F).next ≡ F.next + 1
  pub child_opens : (task s : ℕ) → open_contexts (with_child task s F).nodes ≡ open_contexts F.nodes + 1
  pub child_seats : (k task s : ℕ) → seats_with k (with_child task s F).nodes ≡ seats_with k F.nodes
  -- who is seated takes a serial, spends an open context and opens another, and no other task is seated
  pub seated_next : (s task : ℕ) → (seated s task F).next ≡ F.next + 1
  pub seated_opens : (holder s task : ℕ) → open_for holder s F ≡ true → open_contexts (seated s task F).nodes ≤ open_contexts F.nodes
  pub seated_seats : (k s task : ℕ) → (task == k) ≡ false → seats_with k (seated s task F).nodes ≤ seats_with k F.nodes
  -- a close opens nothing and seats nobody, and ends one context where it is open
  pub closed_next : (s : ℕ) → (closed s F).next ≡ F.next
  pub closed_opens : (s : ℕ) → open_contexts (closed s F).nodes ≤ open_contexts F.nodes
  pub closed_opens_held : (holder s : ℕ) → open_for holder s F ≡ true → open_contexts (closed s F).nodes + 1 ≤ open_contexts F.nodes
  pub closed_seats : (k s : ℕ) → seats_with k (closed s F).nodes ≤ seats_with k F.nodes
  -- nor does a close of every context of a task
  pub closed_all_next : (task : ℕ) → (closed_all task F).next ≡ F.next
  pub closed_all_opens : (task : ℕ) → open_contexts (closed_all task F).nodes ≤ open_contexts F.nodes
  pub closed_all_seats : (k task : ℕ) → seats_with k (closed_all task F).nodes ≤ seats_with k F.nodes
  -- nor does a task that leaves
  pub left_next : (task : ℕ) → (left task F).next ≡ F.next
  pub left_opens : (task : ℕ) → open_contexts (left task F).nodes ≤ open_contexts F.nodes
  pub left_seats : (k task : ℕ) → seats_with k (left task F).nodes ≤ seats_with k F.nodes
  -- a cascade changes none of them
  pub cascaded_next : (s : ℕ) → (cascaded s F).0.next ≡ F.next
  pub cascaded_opens : (s : ℕ) → open_contexts (cascaded s F).0.nodes ≡ open_contexts F.nodes
  pub cascaded_seats : (k s : ℕ) → seats_with k (cascaded s F).0.nodes ≡ seats_with k F.nodes
