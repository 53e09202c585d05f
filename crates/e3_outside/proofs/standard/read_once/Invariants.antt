use Rattle.std.specs.Io.KnownBytes.{Keeps}
use Rattle.e3_outside.proofs.standard.read_once.Given as goal

-- calls that were interrupted have taken nothing
abbrev pub invariant-loop : goal.invariant-loop
invariant-loop g l = Keeps (g.R.Read.remaining l.fn.inner) (g.R.Read.remaining l.inner)
