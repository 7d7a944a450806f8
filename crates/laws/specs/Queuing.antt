-- What every run keeps of its queues, of its ledger and of its totals.
use Rattle.std.specs.Prelude.{◌≡◌, ℕ, ◌+◌, ◌≤◌, List, [], ◌∷◌, ◌++◌, length, drop}
use Rattle.keyed.specs.Members.{times}
use Rattle.entry.specs.declared.Entry.{Entry}
use Rattle.entry.specs.declared.Entry.TheVariants as entry
use Rattle.deterministic.specs.Model.{Model}
use Rattle.deterministic.specs.Run.{Finish, end_of}
use Rattle.deterministic.specs.Start.{Settings, started, report_of}
use Rattle.deterministic.specs.History.{Round, dealt, queued, over, NextRound, completed, round_entries}
use Rattle.laws.specs.Story.{Story}

-- the entries of rounds, one round after another
abbrev pub entries_of : List Round → List Entry
entries_of rounds = over round_entries rounds

-- the queues, of rounds that have led to this executor
pub record QueuesRight (rounds : List Round) (n : Model) : Type 0 where
  -- at the start the root is queued; each queuing is dealt once, in the round that drains next, or is undealt at the end
  pub next_round : (i : ℕ) → NextRound i (times i (0 ∷ [])) rounds n.queues

-- the totals: those of the ledger agree with the history, and what was dealt or is undealt with what was registered or woken
pub record TotalsRight (rounds : List Round) (n : Model) : Type 0 where
  -- each deal is an entry
  pub dealt_is : (report_of n).dealt ≡ length (over dealt rounds)
  -- each queuing is an entry, the root's at the start among them
  pub queued_is : (report_of n).registered + (report_of n).woken ≡ 1 + length (over queued rounds)
  pub balance : (report_of n).dealt + (report_of n).undealt ≡ (report_of n).registered + (report_of n).woken
  -- the completed rounds are counted, and each of them has dealt something
  pub rounds_is : (report_of n).rounds ≡ completed rounds
  pub each_deals : (report_of n).rounds ≤ (report_of n).dealt

-- the ledger over this memory, of rounds that have led to this executor and to this end
pub record WritesRight (memory : List Entry) (rounds : List Round) (n : Model) (f : Finish) : Type 0 where
  -- the root's registration, what happened round by round, and the end
  pub log : n.ledger.log ≡ entry.Reg 0 ∷ (entries_of rounds ++ entry.End (end_of f) ∷ [])
  -- what is not written on is as it was
  pub blank : n.ledger.blank ≡ drop (length n.ledger.log) memory
  pub totals : TotalsRight rounds n

-- whatever the settings and the memory
abbrev pub EveryStoryQueuesRight : Type 0
EveryStoryQueuesRight =
    (s : Settings) (memory : List Entry) (rounds : List Round) (n : Model) (f : Finish) → Story (started s memory) rounds n f → QueuesRight rounds n

-- whatever the settings and the memory
abbrev pub EveryStoryWritesRight : Type 0
EveryStoryWritesRight =
    (s : Settings) (memory : List Entry) (rounds : List Round) (n : Model) (f : Finish) → Story (started s memory) rounds n f → WritesRight memory rounds n f
