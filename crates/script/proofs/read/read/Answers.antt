use Rattle.grammar.proofs.Exact.{exact}
use Rattle.grammar.proofs.OnePlan.{one_reading}
use Rattle.grammar.proofs.RoundTrip.{respelled, settled, grows}
use Rattle.script.proofs.read.read.Goals as goal

pub returns : goal.returns
returns c =
    let bytes = c.args.bytes.now in
    record {
      plan = c.read_plan.ensures;
      exact = exact bytes;
      once = one_reading bytes;
      respelled = respelled bytes;
      settled = settled bytes;
      grows = grows bytes;
    }
