use Rattle.std.proofs.Common.{◌∙◌, rules}
use Rattle.keyed.proofs.Searches.{first_answers}
use Rattle.nodes.specs.Node.{unkept}
use Rattle.nodes.specs.Living.{living}
use Rattle.nodes.proofs.Nodes.unkept.Goals as goal

pub returns : goal.returns
returns c = c.copied.ensures ∙ first_answers (unkept (living c.args.self.now)) _ _ _ c.find.ensures.ran (c.iter.ensures.rest ∙ c.as_slice.ensures.value) (λ x b q k. search rules)
