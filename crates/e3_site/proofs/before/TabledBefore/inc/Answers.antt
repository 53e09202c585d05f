use Rattle.std.proofs.Common.{ap, ◌∙◌}
use Rattle.e3_world.specs.Logs.{logged_inc}
use Rattle.e3_site.proofs.before.TabledBefore.inc.Goals as goal

pub returns : goal.returns
returns c = c.self.invariant.inc_is ∙ ap logged_inc c.self.view_is
