use Rattle.std.proofs.Common.{sym, ◌∙◌}
use Rattle.e3_world.proofs.LowSites.{has_low}
use Rattle.e3_world.proofs.fate.same_part.Goals as goal

pub returns-then-has-2-clause-low : goal.returns-then-has-2-clause-low
returns-then-has-2-clause-low c = λ is. has_low 0 c.args.u c.index-parts-at.result c.count-sites.ensures.ascending (sym c.has-then-has.ensures ∙ c.if-has-2.true)
