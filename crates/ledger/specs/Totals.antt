-- The totals of a list of entries.
use Rattle.std.specs.Prelude.{◌+◌, List, count_by}
use Rattle.entry.specs.declared.Entry.{Entry}
use Rattle.ledger.specs.declared.totals.Totals.{Totals}
use Rattle.ledger.specs.Kinds.{is_poll, is_skip, is_registration, is_wake, is_ring}

-- dealt counts polls and skips, registered counts registrations, woken counts wakes and rings
abbrev pub totals_of : List Entry → Totals
totals_of es = record {
  dealt = count_by is_poll es + count_by is_skip es;
  registered = count_by is_registration es;
  woken = count_by is_wake es + count_by is_ring es;
}
