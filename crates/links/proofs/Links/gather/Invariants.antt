use Rattle.std.proofs.Common.{◌≡◌, ◌+◌, ◌≤◌, ◌++◌, length, take}
use Rattle.links.specs.Link.{children}
use Rattle.links.specs.Linked.{linked}
use Rattle.links.proofs.Links.gather.Given as goal

abbrev pub invariant-loop-link : goal.invariant-loop-link
invariant-loop-link g l =
    (g.B.Buffer.items l.waiting ≡ g.B.Buffer.items l.initial.waiting ++ children l.parent (take l.link-index (linked l.self)))
    × (length (g.B.Buffer.items l.waiting) ≤ length (g.B.Buffer.items l.initial.waiting) + l.link-index)
    × (g.B.Buffer.capacity l.waiting ≡ g.B.Buffer.capacity l.initial.waiting)
