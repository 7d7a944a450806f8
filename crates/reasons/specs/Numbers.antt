-- The numbers by which the ledger writes causes, endings, ends and flags.
use Rattle.std.specs.Prelude.{Bool, cond, ℕ}
use Rattle.reasons.specs.declared.cause.Cause.{Cause}
use Rattle.reasons.specs.declared.cause.Cause.TheVariants as cause
use Rattle.reasons.specs.declared.ending.Ending.{Ending}
use Rattle.reasons.specs.declared.ending.Ending.TheVariants as ending
use Rattle.reasons.specs.declared.end.End.{End}
use Rattle.reasons.specs.declared.end.End.TheVariants as end

-- an id was queued by a wake, an abort, the stop signal or a fault
abbrev pub cause_number : Cause → ℕ
cause_number cause.Wake = 0
cause_number cause.Abort = 1
cause_number cause.Stop = 2
cause_number cause.Fault = 3

-- a task returned, was aborted or faulted
abbrev pub ending_number : Ending → ℕ
ending_number ending.Returned = 0
ending_number ending.Aborted = 1
ending_number ending.Faulted = 2

-- a run ended by the root, a fault, the timeout, a stall, the clock's limit or the ledger's
abbrev pub end_number : End → ℕ
end_number end.RootDone = 0
end_number end.Fault = 1
end_number end.Timeout = 2
end_number end.Stalled = 3
end_number end.Clock = 4
end_number end.Ledger = 5

-- a flag is 1 if it is set, else 0
abbrev pub flag_number : Bool → ℕ
flag_number b = cond b 1 0
