use Rattle.std.proofs.Common.{◌≡◌, ◌≤◌, length, take, filter}
use Rattle.nodes.specs.Living.{living}
use Rattle.links.specs.Link.{survives}
use Rattle.links.specs.Linked.{linked}
use Rattle.links.proofs.Links.surviving.Given as goal

abbrev pub invariant-loop-link : goal.invariant-loop-link
invariant-loop-link l = (l.count ≤ l.link-index) × (l.count ≡ length (filter (survives l.parent (living l.nodes)) (take l.link-index (linked l.self))))
