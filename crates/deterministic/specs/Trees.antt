-- The refusals of the supervision tree, as refusals of a call.
use Rattle.supervision.specs.declared.Refusal as tree
use Rattle.supervision.specs.declared.Refusal.TheVariants as tree_refusal
use Rattle.deterministic.specs.declared.refusal.Refusal.{Refusal}
use Rattle.deterministic.specs.declared.refusal.Refusal.TheVariants as refusal

-- each refusal of the tree is one of a call
abbrev pub of_tree : tree.Refusal → Refusal
of_tree tree_refusal.NotOpen = refusal.NotOpen
of_tree tree_refusal.NoNode = refusal.TooManyNodes
of_tree tree_refusal.NoLink = refusal.TooManyLinks
