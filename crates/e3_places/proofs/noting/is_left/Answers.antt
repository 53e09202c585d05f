use Rattle.std.proofs.Common.{ap, not, ◌∙◌}
use Rattle.e3_world.specs.Elections.{is_decision}
use Rattle.e3_places.proofs.Logged.{left_is}
use Rattle.e3_places.proofs.noting.is_left.Goals as goal

pub returns : goal.returns
returns c = ap not c.is_decision.ensures ∙ left_is (is_decision c.args.a.now.txn c.args.r.now)
