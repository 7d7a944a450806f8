-- What a struct of links stands for.
use Rattle.std.specs.Prelude.{List}
use Rattle.reserved.specs.Held.{held}
use Rattle.links.specs.declared.Link.{Link}
use Rattle.links.specs.declared.Links.{Links}

-- all links, in linking order
abbrev pub linked : Links → List Link
linked s = held s.list
