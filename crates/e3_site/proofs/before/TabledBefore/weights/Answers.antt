use Rattle.std.proofs.Common.{ap, ◌∙◌}
use Rattle.e3_world.specs.Orderly.{weights_in}
use Rattle.e3_site.proofs.before.TabledBefore.weights.Goals as goal

pub returns : goal.returns
returns c = c.self.invariant.weights_are ∙ ap weights_in c.self.view_is
