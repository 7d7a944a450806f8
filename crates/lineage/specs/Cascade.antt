-- The cascade: a node and all below it are aborted, and the tasks seated there are given.
use Rattle.std.specs.Prelude.{ℕ, zero, suc, ◌+◌, true, cond, List, [], ◌∷◌, ◌++◌, reverse, length, Some, None, filter, Option}
use Rattle.std.specs.Option.{option_to_list}
use Rattle.keyed.specs.Keyed.{change}
use Rattle.nodes.specs.declared.Node.{Node}
use Rattle.nodes.specs.Node.{serial_of, with_aborted, with_stale}
use Rattle.links.specs.Link.{elsewhere, children}
use Rattle.lineage.specs.Family.{Family, family, node_at}

-- the node is aborted, and counts no dead child
abbrev pub condemned : Node → Node
condemned n = with_stale 0 (with_aborted true n)

-- what one step of the walk makes of a family
pub record Step : Type 0 where
  -- the family after it
  pub after : Family
  -- the children that wait now
  pub below : List ℕ
  -- the task to mark, if there is one
  pub marks : List ℕ

-- a node that is dead or was aborted before is passed over
abbrev pub passed : Family → Step
passed F = record { after = F; below = []; marks = [] }

-- the node n, of serial s, is aborted: its task is given, and its links go while its children wait
abbrev pub struck : ℕ → Node → Family → Step
struck s n F = record {
  after = family (change serial_of condemned s F.nodes) (filter (elsewhere s) F.links) F.next;
  below = children s F.links;
  marks = option_to_list n.task;
}

-- the step at what was found
abbrev pub step_at : ℕ → Option Node → Family → Step
step_at s None F = passed F
step_at s (Some n) F = cond n.aborted (passed F) (struck s n F)

-- one step of the walk
abbrev pub step : ℕ → Family → Step
step s F = step_at s (node_at s F) F

-- the walk over the nodes that wait, the next one first; the children of a node wait before the
-- rest, the last one first; as many steps as can be needed are given
abbrev pub walk : ℕ → List ℕ → Family → Family × List ℕ
walk zero wait F = (F, [])
walk (suc k) [] F = (F, [])
walk (suc k) (s ∷ wait) F = (
  (walk k (reverse (step s F).below ++ wait) (step s F).after).0,
  (step s F).marks ++ (walk k (reverse (step s F).below ++ wait) (step s F).after).1,
)

-- the cascade from `top`: the family after it, and the tasks to mark, in order
abbrev pub cascaded : ℕ → Family → Family × List ℕ
cascaded top F = walk (1 + length F.links) (top ∷ []) F

-- how many nodes are not aborted
abbrev pub unaborted : List Node → ℕ
unaborted [] = 0
unaborted (n ∷ ns) = cond n.aborted (unaborted ns) (suc (unaborted ns))
