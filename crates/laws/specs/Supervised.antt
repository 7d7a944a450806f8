-- What every run keeps of supervision: whom a body may be called for, and that what is told of the tree is so.
--
-- truly told   what was told of nodes and tasks is so of the executor, and what is so of it was told
-- moment       after complete rounds, and after steps of a round that was opened then
use Rattle.std.specs.Prelude.{◌≡◌, ℕ, ◌<◌, true, false, ◌⊎◌, List, [], ◌∷◌, ◌++◌, Some, None}
use Rattle.keyed.specs.Members.{In}
use Rattle.entry.specs.declared.Entry.{Entry}
use Rattle.nodes.specs.declared.Node.{Node}
use Rattle.supervision.specs.Sound.{Lives}
use Rattle.deterministic.specs.Model.{Task, Model, task_at}
use Rattle.deterministic.specs.Run.{Finish, opened}
use Rattle.deterministic.specs.Start.{Settings, started}
use Rattle.deterministic.specs.Below.{Tiding, planted, seated, marked, ended, Below, EachCall}
use Rattle.deterministic.specs.Acts.{Act, telling, all_of}
use Rattle.deterministic.specs.History.{Round, Each, told}
use Rattle.laws.specs.Story.{Steps, Played, Story}

-- a task sits at a living node, where it was told seated
pub record SitsAsTold (tidings : List Tiding) (i : ℕ) (t : Task) (m : Model) : Type 0 where
  pub node : ℕ
  pub is_told : In (seated i node) tidings
  pub home : t.node ≡ Some node
  pub at : Node
  pub lives : Lives m.tree node at
  pub sits : at.task ≡ Some i

-- the nodes, as they were told
pub record NodesTruly (tidings : List Tiding) (m : Model) : Type 0 where
  -- a living node with a parent was told planted under it
  pub planted_is : (s p : ℕ) (n : Node) → Lives m.tree s n → n.parent ≡ Some p → In (planted s p) tidings
  -- every living node but the top was told planted
  pub each_planted : (s : ℕ) (n : Node) → Lives m.tree s n → (s ≡ 0) ⊎ ((p : ℕ) × In (planted s p) tidings)
  -- a living node that is not aborted is under no other parent than the one told
  pub planted_only : (s p : ℕ) (n : Node) → In (planted s p) tidings → Lives m.tree s n → n.aborted ≡ false → n.parent ≡ Some p
  -- a task that sits at a living node was told seated there
  pub seated_is : (i s : ℕ) (n : Node) → Lives m.tree s n → n.task ≡ Some i → In (seated i s) tidings

-- the tasks, as they were told
pub record TasksTruly (tidings : List Tiding) (m : Model) : Type 0 where
  -- every registered task but the root sits where it was told seated
  pub each_seated : (i : ℕ) (t : Task) → task_at i m ≡ Some t → (i ≡ 0) ⊎ SitsAsTold tidings i t m
  -- a registered task was told seated at no other node than its own
  pub seated_only : (i s : ℕ) (t : Task) → In (seated i s) tidings → task_at i m ≡ Some t → t.node ≡ Some s
  -- a registered task that is marked was told marked, and the other way round
  pub marked_is : (i : ℕ) (t : Task) → task_at i m ≡ Some t → t.marked ≡ true → In (marked i) tidings
  pub marked_only : (i : ℕ) (t : Task) → In (marked i) tidings → task_at i m ≡ Some t → t.marked ≡ true
  -- a task that was registered and is not any more was told ended, and the other way round
  pub ended_is : (i : ℕ) → i < m.registry.next → task_at i m ≡ None → In (ended i) tidings
  pub ended_only : (i : ℕ) → In (ended i) tidings → (i < m.registry.next) × (task_at i m ≡ None)

-- what was told is so of the executor
pub record TrulyTold (tidings : List Tiding) (m : Model) : Type 0 where
  pub nodes : NodesTruly tidings m
  pub tasks : TasksTruly tidings m
  -- a registered task below an ended one is marked
  pub below : (i other : ℕ) (t : Task) → task_at i m ≡ Some t → Below tidings i other → In (ended other) tidings → t.marked ≡ true

-- the supervision, of rounds that have led to this executor
pub record Supervised (rounds : List Round) (n : Model) : Type 0 where
  -- no body is called of a task that was marked or has ended, or is below one that has ended
  pub calls : EachCall (told rounds)
  pub truly : TrulyTold (told rounds) n

-- whatever the settings and the memory
abbrev pub EveryStoryIsSupervised : Type 0
EveryStoryIsSupervised =
    (s : Settings) (memory : List Entry) (rounds : List Round) (n : Model) (f : Finish) → Story (started s memory) rounds n f → Supervised rounds n

-- complete rounds lead from an executor to another
pub data Reaches : Model → List Round → Model → Type 0 where
  begun : {m : Model} → Reaches m [] m
  complete : {m n o : Model} {r : Round} {more : List Round} → Played m r n None → Reaches n more o → Reaches m (r ∷ more) o

-- at every moment what was told is so
abbrev pub EveryMomentIsTrulyTold : Type 0
EveryMomentIsTrulyTold =
    (s : Settings) (memory : List Entry) (before : List Round) (n : Model) → Reaches (started s memory) before n →
    (ids : List ℕ) (acts : List Act) (o : Model) → Steps (opened ids n) acts o → TrulyTold (told before ++ all_of telling acts) o

-- the rounds before a round have led to an executor, and its acts lead on from there
pub record Comes (m : Model) (before : List Round) (r : Round) : Type 0 where
  pub at : Model
  pub reached : Reaches m before at
  pub closing : Model
  pub steps : Steps (opened r.drained at) r.acts closing

-- every round of a story has such moments
abbrev pub EveryRoundComes : Type 0
EveryRoundComes = (m : Model) (rounds : List Round) (n : Model) (f : Finish) → Story m rounds n f → Each (λ before r after. Comes m before r) rounds
