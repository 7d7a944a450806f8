-- What a table stands for.
use Rattle.std.specs.Prelude.{ℕ, List}
use Rattle.reserved.specs.Held.{held}
use Rattle.keyed.specs.declared.record.Record.{Ghosts}
use Rattle.keyed.specs.declared.table.Table.{Table}

-- its records, by ascending key
abbrev pub rows : {T : Type 0} {N : ℕ} {G : Ghosts T} → Table T N G → List T
rows t = held t.rows

-- the least key that the next record may have
abbrev pub next_key : {T : Type 0} {N : ℕ} {G : Ghosts T} → Table T N G → ℕ
next_key t = t.next
