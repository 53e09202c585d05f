use Rattle.std.proofs.Common.{arith}
use Rattle.std.proofs.lemmas.Grind.{common_steps}
use Rattle.e3_report.proofs.tables.votes_of.Goals as goal

pub loop-r-preserved : goal.loop-r-preserved
loop-r-preserved c = λ key. grind (arith, common_steps, c.loop-r.invariant key, c.in_ok-enter.ensures key)
