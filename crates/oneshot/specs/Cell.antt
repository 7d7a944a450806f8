-- What a one-shot cell holds, over any content.
use Rattle.std.specs.Prelude.{Some, None, Ok, Err, Option, Result}
use Rattle.oneshot.specs.declared.OneShot.{OneShot}

-- the value in a cell, if one was sent
abbrev pub held : {T : Type 0} → OneShot T → Option T
held c = c.value

-- what a cell holds once a value is sent: the first stays
abbrev pub sent : {T : Type 0} → Option T → T → Option T
sent None x = Some x
sent (Some first) x = Some first

-- a value goes into an empty cell, and is handed back by a cell that holds one
abbrev pub send_answer : {T : Type 0} → Option T → T → Result (Unit {0}) T
send_answer None x = Ok tt
send_answer (Some first) x = Err x
