use Rattle.std.proofs.Common.{sym}
use Rattle.e3_site.proofs.past.reader.ReaderPast.input.Goals as goal

pub returns : goal.returns
returns g c = sym c.self.invariant.input_is
