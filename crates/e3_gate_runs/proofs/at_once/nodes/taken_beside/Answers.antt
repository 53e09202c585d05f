use Rattle.std.proofs.Common.{arith}
use Rattle.e3_gate_runs.proofs.at_once.nodes.taken_beside.Goals as goal

pub taken_by-requires-clause-apart : goal.taken_by-requires-clause-apart
taken_by-requires-clause-apart g c = λ is. (let first = c.requires.site in let second = c.in-Some.ensures.site in omega (arith, first, second, is))
