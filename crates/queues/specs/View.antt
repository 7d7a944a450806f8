-- What the two queues stand for, and what is dealt from them.
use Rattle.std.specs.Prelude.{ℕ, List, [], ◌∷◌, Some, None, vec_items, Option}
use Rattle.std.specs.VecDeque.{deque_items}
use Rattle.deterministic.specs.Model as model
use Rattle.queues.specs.declared.Queues.{Queues}

-- what waits, and what is drained and not dealt yet
abbrev pub view : Queues → model.Queues
view q = record { waiting = vec_items q.waiting; drained = deque_items q.drained }

-- nothing waits, and nothing is drained
abbrev pub nothing_queued : model.Queues
nothing_queued = record { waiting = []; drained = [] }

-- nothing waits, and these ids are drained
abbrev pub all_drained : List ℕ → model.Queues
all_drained ids = record { waiting = []; drained = ids }

-- the first of these ids, if there is one
abbrev pub first_of : List ℕ → Option ℕ
first_of [] = None
first_of (i ∷ ids) = Some i

-- these ids but the first
abbrev pub rest_of : List ℕ → List ℕ
rest_of [] = []
rest_of (i ∷ ids) = ids

-- the id that is dealt next, if one is left
abbrev pub first_drained : model.Queues → Option ℕ
first_drained q = first_of q.drained

-- that id is dealt, and the others stay drained
abbrev pub rest_drained : model.Queues → model.Queues
rest_drained q = record { waiting = q.waiting; drained = rest_of q.drained }
