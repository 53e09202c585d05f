use Rattle.std.specs.Io.KnownBytes.{Keeps}
use Rattle.e3_outside.proofs.standard.write_once.Given as goal

-- calls that were interrupted have written nothing
abbrev pub invariant-loop : goal.invariant-loop
invariant-loop g l = Keeps (g.W.Write.contents l.fn.inner) (g.W.Write.contents l.inner)
