use Rattle.keyed.proofs.Lawful.{laws_hold}
use Rattle.keyed.proofs.laws.Goals as goal

pub returns : goal.returns
returns g c = λ key. laws_hold key
