-- What a tree stands for, what each call answers, and what it makes of the tree.
use Rattle.std.specs.Prelude.{◌≡◌, ℕ, false, cond, List, [], map, length, Some, None, filter, Option}
use Rattle.std.specs.Option.{option_map}
use Rattle.keyed.specs.Choices.{whether}
use Rattle.keyed.specs.Members.{first}
use Rattle.nodes.specs.Node.{serial_of, with_owner, released, vacated, taken, seats}
use Rattle.links.specs.Link.{from}
use Rattle.lineage.specs.Family.{Family, family, family_of, changed, open_for, aborted_at, node_free}
use Rattle.lineage.specs.Births.{grown, orphaned, born, link_free}
use Rattle.lineage.specs.Deaths.{settled}
use Rattle.lineage.specs.Walked.{to_mark}
use Rattle.supervision.specs.Laws.{Later}
use Rattle.supervision.specs.declared.Refusal.{Refusal}
use Rattle.supervision.specs.declared.Refusal.TheVariants.{NotOpen, NoNode, NoLink}
use Rattle.supervision.specs.declared.Tree.{Tree}

-- the tree as a reader sees it
abbrev pub view : Tree → Family
view t = family_of t.lineage

-- the tasks that the last cascade gave
abbrev pub given_tasks : Tree → List ℕ
given_tasks t = to_mark t.walk

-- a new tree: its top, whose context the root task holds
abbrev pub founded : Family
founded = grown None false 0 (family [] [] 0)

-- why a context under s is refused to the task: the first of these that holds
abbrev pub child_refusal : ℕ → ℕ → Family → Option Refusal
child_refusal task s F =
    cond (open_for task s F)
    (cond (node_free F) (cond (aborted_at s F) None (cond (link_free s F) None (Some NoLink))) (Some NoNode))
    (Some NotOpen)

-- a context under s, below an aborted node or any other
abbrev pub with_child : ℕ → ℕ → Family → Family
with_child task s F = cond (aborted_at s F) (orphaned task F) (born s task F)

-- what `child` makes of the tree; refused, nothing
abbrev pub after_child : ℕ → ℕ → Family → Family
after_child task s F = whether (child_refusal task s F) (with_child task s F) F

-- why a call on the context s is refused to the task
abbrev pub context_refusal : ℕ → ℕ → Family → Option Refusal
context_refusal task s F = cond (open_for task s F) None (Some NotOpen)

-- the context s is closed, and what nothing keeps alive then dies
abbrev pub closed : ℕ → Family → Family
closed s F = settled (changed (with_owner None) s F)

-- what `close` makes of the tree; refused, nothing
abbrev pub after_close : ℕ → ℕ → Family → Family
after_close task s F = whether (context_refusal task s F) (closed s F) F

-- how many links s has, dead ones included
abbrev pub link_count : ℕ → Family → ℕ
link_count s F = length (filter (from s) F.links)

-- the context s is spent: a task is seated at its node, and holds the context of a new child
abbrev pub seated : ℕ → ℕ → Family → Family
seated s task F = changed (taken task) s (born s task F)

-- the node where the task is seated
abbrev pub seat_of : ℕ → Family → Option ℕ
seat_of task F = option_map serial_of (first (seats task) F.nodes)

-- every context that the task holds is closed, and what nothing keeps alive then dies
abbrev pub closed_all : ℕ → Family → Family
closed_all task F = settled (family (map (released task) F.nodes) F.links F.next)

-- the task leaves its node, and what nothing keeps alive then dies
abbrev pub left : ℕ → Family → Family
left task F = settled (family (map (vacated task) F.nodes) F.links F.next)

-- what a call that gives no tasks keeps: those that the last cascade gave are as they were; so many serials are given out
pub record Keeps (new : ℕ) (t u : Tree) : Type 0 where
  pub marks : given_tasks u ≡ given_tasks t
  pub later : Later new (view t) (view u)
