use Rattle.std.proofs.Common.{◌∙◌, rules}
use Rattle.keyed.proofs.Answers.{holds_eq}
use Rattle.keyed.proofs.Searches.{first_answers}
use Rattle.nodes.specs.Node.{seats}
use Rattle.nodes.proofs.Nodes.seat_of.Goals as goal

pub returns : goal.returns
returns c = c.copied.ensures ∙ first_answers (seats c.args.task) _ _ _ c.find.ensures.ran (c.iter.ensures.rest ∙ c.as_slice.ensures.value) (λ x b q k. search (rules, holds_eq))
