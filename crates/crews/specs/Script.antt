-- The script crew: every task of a run goes through the steps of a task of a script.
--
-- actor    a task of the run: its steps that are left, how far it is with the first of them, and its own context
-- troupe   the crew's value: the script's tasks, the actors, which task a name means, and the first refused call
-- course   what a step comes to: the next step, a wait, or the end of the body
use Rattle.std.specs.Prelude.{ℕ, ◌+◌, ◌-◌, ◌^◌, Bool, true, false, List, [], ◌∷◌, ◌++◌, ℤ, pos, Some, None, codes, Option}
use Rattle.std.specs.Str.{bytes_eq}
use Rattle.keyed.specs.Keyed.{find, change}
use Rattle.keyed.specs.Members.{first}
use Rattle.keyed.specs.Choices.{given}
use Rattle.oneshot.specs.Cell.{sent}
use Rattle.forms.specs.Meaning as script
use Rattle.forms.specs.Meaning.{Act, Plan}
use Rattle.deterministic.specs.declared.outcome.Outcome.{Outcome}
use Rattle.deterministic.specs.declared.outcome.Outcome.TheVariants as outcome
use Rattle.deterministic.specs.declared.refusal.Refusal.{Refusal}
use Rattle.deterministic.specs.Numbers.{refusal_number}
use Rattle.deterministic.specs.Model.{Model}
use Rattle.deterministic.specs.Calls as calls
use Rattle.deterministic.specs.Calls.{Call, refusal, after, sleep_until_answer, signal_answer, completed_answer}
use Rattle.deterministic.specs.Rules.{Turn}

-- how far a task is with its next step
pub data Wait : Type 0 where
  -- the step is not begun
  fresh : Wait
  -- it sleeps until this time, by the alarm of this serial
  asleep : (time serial : ℕ) → Wait
  -- it holds a signal, and waits for the stop
  awaiting : Wait
  -- it has stopped, and waits for completion
  stopping : Wait

pub record Actor : Type 0 where
  pub id : ℕ
  pub line : ℕ
  pub acts : List Act
  pub wait : Wait
  pub context : ℕ

-- a name, and the task that it means
pub record Named : Type 0 where
  pub name : List ℕ
  pub id : ℕ

-- a refused call: the line of its step, and its number
pub record Refused : Type 0 where
  pub line : ℕ
  pub number : ℕ

pub record Troupe : Type 0 where
  pub tasks : List script.Task
  pub actors : List Actor
  pub names : List Named
  pub refused : Option Refused

-- an id that is never given out
abbrev pub no_task : ℕ
no_task = 2 ^ 64 - 1

-- the latest task of a name; where there is none yet, an id that is never given out
abbrev pub meant : List ℕ → List Named → ℕ
meant name names = given (first (λ n. bytes_eq n.name name) names) no_task (λ n. n.id)

-- actors are told apart by their ids
abbrev pub actor_id : Actor → ℕ
actor_id a = a.id

-- a task of the script has just been given to a task of the run, with this context
abbrev pub actor_of : ℕ → ℕ → script.Task → Actor
actor_of id context t = record { id = id; line = t.line; acts = t.acts; wait = fresh; context = context }

-- the actor has these steps left, and is so far with the first
abbrev pub with_rest : List Act → Wait → Actor → Actor
with_rest acts wait a = record { id = a.id; line = a.line; acts = acts; wait = wait; context = a.context }

-- the task of the script with a name
abbrev pub written_as : List ℕ → List script.Task → Option script.Task
written_as name tasks = first (λ t. bytes_eq t.name name) tasks

-- the actors, with one more if the script has a task of that name
abbrev pub with_actor : ℕ → ℕ → Option script.Task → List Actor → List Actor
with_actor id context found actors = given found actors (λ t. actors ++ actor_of id context t ∷ [])

-- a name means a new task, which begins the steps of the script's task
abbrev pub joined : List ℕ → ℕ → ℕ → Troupe → Troupe
joined name id context t = record {
  tasks = t.tasks;
  actors = with_actor id context (written_as name t.tasks) t.actors;
  names = record { name = name; id = id } ∷ t.names;
  refused = t.refused;
}

-- the first refused call stays
abbrev pub blamed : ℕ → Refusal → Troupe → Troupe
blamed line r t = record {
  tasks = t.tasks;
  actors = t.actors;
  names = t.names;
  refused = sent t.refused (record { line = line; number = refusal_number r });
}

-- an actor is so far
abbrev pub so_far : ℕ → List Act → Wait → Troupe → Troupe
so_far id acts wait t = record {
  tasks = t.tasks;
  actors = change actor_id (with_rest acts wait) id t.actors;
  names = t.names;
  refused = t.refused;
}

-- at the start the root begins the steps of the task `root`, with the context at the tree's top
abbrev pub troupe : Plan → Troupe
troupe p = joined (codes "root") 0 0 (record { tasks = p.tasks; actors = []; names = []; refused = None })

pub data Course : Type 0 where
  onward : Course
  waits : Wait → Course
  ends : Outcome → Course

-- a body in the middle of its turn: the executor, the calls made so far, the troupe, and what the step came to
pub record Scene : Type 0 where
  pub model : Model
  pub calls : List Call
  pub troupe : Troupe
  pub course : Course

-- the scene, which has come to this
abbrev pub with_course : Course → Scene → Scene
with_course c s = record { model = s.model; calls = s.calls; troupe = s.troupe; course = c }

-- the scene with another troupe
abbrev pub with_troupe : Troupe → Scene → Scene
with_troupe t s = record { model = s.model; calls = s.calls; troupe = t; course = s.course }

-- a call is made
abbrev pub made : Call → Scene → Scene
made c s = record { model = after c s.model; calls = s.calls ++ c ∷ []; troupe = s.troupe; course = s.course }

-- a refused call becomes the body's fault, its number the code
abbrev pub fails : ℕ → Refusal → Scene → Scene
fails line r s = with_course (ends (outcome.Fault (refusal_number r))) (with_troupe (blamed line r s.troupe) s)

-- what follows a call, unless it is refused
abbrev pub by_refusal : Option Refusal → ℕ → Scene → (Scene → Scene) → Scene
by_refusal None line s next = next s
by_refusal (Some r) line s next = fails line r s

-- a call, and what follows it
abbrev pub granted : ℕ → Call → Scene → (Scene → Scene) → Scene
granted line c s next = by_refusal (refusal c s.model) line (made c s) next

-- the sleep is over, or goes on by the alarm of a serial
abbrev pub by_sleep : ℕ → Option ℕ → Scene → Scene
by_sleep t None s = with_course onward s
by_sleep t (Some serial) s = with_course (waits (asleep t serial)) s

-- the task asks again by the alarm's serial
abbrev pub sleep_on : ℕ → ℕ → ℕ → Scene → Scene
sleep_on line t serial s = granted line (calls.sleep_until t (Some serial)) s (by_sleep t (sleep_until_answer t (Some serial) s.model))

-- the task asks for the time, so that it can ask again, and sleeps
abbrev pub sleep_first : ℕ → ℕ → Scene → Scene
sleep_first line n s =
    let t = s.model.clock.time + n in
    granted line calls.current s (λ s'. granted line (calls.sleep n None) s' (by_sleep t (sleep_until_answer t None s'.model)))

-- the signal is let go once the stop value is there
abbrev pub by_signal : ℕ → Option ℤ → Scene → Scene
by_signal line (Some value) s = granted line calls.let_go s (with_course onward)
by_signal line None s = with_course (waits awaiting) s

-- the task asks its signal
abbrev pub await_on : ℕ → Scene → Scene
await_on line s = granted line calls.signal s (by_signal line (signal_answer s.model))

-- the task takes a signal and asks it
abbrev pub await_first : ℕ → Scene → Scene
await_first line s = granted line calls.stopped s (await_on line)

-- the step is over with completion
abbrev pub by_completion : Bool → Scene → Scene
by_completion true s = with_course onward s
by_completion false s = with_course (waits stopping) s

-- the task asks for completion
abbrev pub stop_on : ℕ → Scene → Scene
stop_on line s = granted line calls.completed s (by_completion (completed_answer s.model))

-- the task stops and asks for completion
abbrev pub stop_first : ℕ → ℤ → Scene → Scene
stop_first line v s = granted line (calls.stop v) s (stop_on line)

-- a task of a name is spawned, on a context with this serial
abbrev pub spawn_on : ℕ → List ℕ → ℕ → Scene → Scene
spawn_on line name context s =
    let t = joined name s.model.registry.next s.model.tree.next s.troupe in
    granted line (calls.spawn context name) s (λ s'. with_course onward (with_troupe t s'))

-- a task of a name is spawned on a fresh child of the own context
abbrev pub spawn_first : ℕ → List ℕ → ℕ → Scene → Scene
spawn_first line name own s = granted line (calls.child own) s (spawn_on line name s.model.tree.next)

-- a step of an actor with this line and context, from its beginning
abbrev pub begin : ℕ → ℕ → Act → Scene → Scene
begin line own (script.sleep n) s = sleep_first line n s
begin line own (script.spawn name) s = spawn_first line name own s
begin line own (script.wake name) s = granted line (calls.wake (meant name s.troupe.names)) s (with_course onward)
begin line own (script.abort name) s = granted line (calls.abort (meant name s.troupe.names)) s (with_course onward)
begin line own (script.stop v) s = stop_first line v s
begin line own script.await s = await_first line s
begin line own (script.done v) s = with_course (ends (outcome.Done v)) s
begin line own (script.fault code) s = with_course (ends (outcome.Fault code)) s

-- a step, from where the actor is with it
abbrev pub step : ℕ → ℕ → Wait → Act → Scene → Scene
step line own fresh a s = begin line own a s
step line own (asleep t serial) a s = sleep_on line t serial s
step line own awaiting a s = await_on line s
step line own stopping a s = stop_on line s

-- a turn that ends here, with these steps left
abbrev pub turn : ℕ → List Act → Wait → Outcome → Scene → Turn Troupe
turn id acts wait o s = record { value = so_far id acts wait s.troupe; calls = s.calls; outcome = o }

-- after a step: the rest of the steps, a wait at this one, or the end
abbrev pub by_course : Course → ℕ → List Act → Scene → Turn Troupe → Turn Troupe
by_course onward id acts s rest = rest
by_course (waits w) id acts s rest = turn id acts w outcome.Pending s
by_course (ends o) id acts s rest = turn id acts fresh o s

-- the steps from here on, one after another, until one waits or ends the body; no steps left means done 0
unfoldable pub steps : ℕ → ℕ → ℕ → List Act → Wait → Scene → Turn Troupe
steps id line own [] w s = turn id [] fresh (outcome.Done (pos 0)) s
steps id line own (a ∷ more) w s =
    let s' = step line own w a s in
    let rest = steps id line own more fresh s' in
    by_course s'.course id (a ∷ more) s' rest

-- the turn of an actor
abbrev pub acted : Troupe → Model → Actor → Turn Troupe
acted t m a = steps a.id a.line a.context a.acts a.wait (record { model = m; calls = []; troupe = t; course = onward })

-- an id that is no actor's has nothing to do
abbrev pub nothing_to_do : Troupe → Turn Troupe
nothing_to_do t = record { value = t; calls = []; outcome = outcome.Done (pos 0) }

-- the script crew's rule
abbrev pub script_rule : Troupe → ℕ → Model → Turn Troupe
script_rule t id m = given (find actor_id id t.actors) (nothing_to_do t) (acted t m)
