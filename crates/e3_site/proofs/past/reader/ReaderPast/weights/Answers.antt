use Rattle.std.proofs.Common.{sym}
use Rattle.e3_site.proofs.past.reader.ReaderPast.weights.Goals as goal

pub returns : goal.returns
returns g c = sym c.self.invariant.weights_are
