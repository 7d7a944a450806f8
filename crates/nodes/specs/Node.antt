-- One node: what it is changed to, and what it is asked.
use Rattle.std.specs.Prelude.{ℕ, ◌+◌, ◌-◌, ◌^◌, min, Bool, cond, not, ◌||◌, List, is_some, Some, None, Option}
use Rattle.keyed.specs.Choices.{holds}
use Rattle.keyed.specs.Members.{any}
use Rattle.nodes.specs.declared.Node.{Node}

-- nodes are told apart by their serials
abbrev pub serial_of : Node → ℕ
serial_of n = n.serial

-- a new node, with a context that the owner holds
abbrev pub fresh : ℕ → Option ℕ → Bool → ℕ → Node
fresh serial parent aborted owner = record { serial = serial; parent = parent; aborted = aborted; owner = Some owner; task = None; stale = 0 }

-- the node, aborted or not as told
abbrev pub with_aborted : Bool → Node → Node
with_aborted a n = record { serial = n.serial; parent = n.parent; aborted = a; owner = n.owner; task = n.task; stale = n.stale }

-- the node with another holder of its context
abbrev pub with_owner : Option ℕ → Node → Node
with_owner o n = record { serial = n.serial; parent = n.parent; aborted = n.aborted; owner = o; task = n.task; stale = n.stale }

-- the node with another task
abbrev pub with_task : Option ℕ → Node → Node
with_task t n = record { serial = n.serial; parent = n.parent; aborted = n.aborted; owner = n.owner; task = t; stale = n.stale }

-- the node with another count of dead children
abbrev pub with_stale : ℕ → Node → Node
with_stale k n = record { serial = n.serial; parent = n.parent; aborted = n.aborted; owner = n.owner; task = n.task; stale = k }

-- one more child of the node is dead; the count stops at the largest number of 64 bits
abbrev pub bereaved : Node → Node
bereaved n = with_stale (min (n.stale + 1) (2 ^ 64 - 1)) n

-- the node's context is closed if the task holds it
abbrev pub released : ℕ → Node → Node
released task n = cond (holds task n.owner) (with_owner None n) n

-- the task leaves the node if it is seated there
abbrev pub vacated : ℕ → Node → Node
vacated task n = cond (holds task n.task) (with_task None n) n

-- the node's context is spent, and the task is seated there
abbrev pub taken : ℕ → Node → Node
taken task n = with_task (Some task) (with_owner None n)

-- the node is a child of the node p
abbrev pub child_of : ℕ → Node → Bool
child_of p n = holds p n.parent

-- the task is seated at the node
abbrev pub seats : ℕ → Node → Bool
seats task n = holds task n.task

-- an open context, a task that has not ended or a living child keeps the node alive
abbrev pub kept : List Node → Node → Bool
kept nodes n = (is_some n.owner || is_some n.task) || any (child_of n.serial) nodes

-- nothing keeps the node alive
abbrev pub unkept : List Node → Node → Bool
unkept nodes n = not (kept nodes n)
