-- The times do not fall, so the library's search by halves finds the place.
use Rattle.std.proofs.Common.{leb, rules, tests}
use Rattle.std.proofs.lemmas.List.Sorted.{IsPartitionedBy-leb, IsPartitionPoint-from_clause}
use Rattle.reserved.specs.Held.{held}
use Rattle.alarms.specs.declared.Alarm.{Alarm}
use Rattle.alarms.proofs.Placing.{times_rise, placed_at}
use Rattle.alarms.proofs.Alarms.place.Goals as goal

pub returns-clause-value : goal.returns-clause-value
returns-clause-value c =
    let xs = held c.args.self.now.standing in
    let parted = IsPartitionedBy-leb (λ (b : Alarm). b.time) xs c.args.alarm.time (times_rise _ xs c.args.self.now.order) in
    let here = IsPartitionPoint-from_clause (λ (b : Alarm). leb b.time c.args.alarm.time) xs c.partition_point.result (rw c.as_slice.ensures.value at c.partition_point.ensures.partitioned) parted (λ a r f k. search (rules, tests)) in
    placed_at c.args.alarm xs c.partition_point.result here (rw c.as_slice.ensures.value at c.partition_point.ensures.bound)
