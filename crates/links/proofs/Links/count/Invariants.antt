use Rattle.std.proofs.Common.{◌≡◌, ◌≤◌, length, take, filter}
use Rattle.links.specs.Link.{from}
use Rattle.links.specs.Linked.{linked}
use Rattle.links.proofs.Links.count.Given as goal

abbrev pub invariant-loop-link : goal.invariant-loop-link
invariant-loop-link l = (l.count ≤ l.link-index) × (l.count ≡ length (filter (from l.parent) (take l.link-index (linked l.self))))
