use Rattle.std.proofs.Common.{refl}
use Rattle.tokens.proofs.Spelling.{tokens_spelled}
use Rattle.tokens.proofs.cursor.Tokens.new.Goals as goal

pub returns : goal.returns
returns c = record { ahead = refl; spelled = tokens_spelled c.args.line.now }
