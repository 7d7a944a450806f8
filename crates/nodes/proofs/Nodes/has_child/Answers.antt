use Rattle.std.proofs.Common.{◌∙◌, rules}
use Rattle.keyed.proofs.Answers.{holds_eq}
use Rattle.keyed.proofs.Searches.{any_answers}
use Rattle.nodes.specs.Node.{child_of}
use Rattle.nodes.proofs.Nodes.has_child.Goals as goal

pub returns : goal.returns
returns c = any_answers (child_of c.args.serial) _ _ _ c.any.ensures.ran (c.iter.ensures.rest ∙ c.as_slice.ensures.value) (λ x b q k. search (rules, holds_eq))
