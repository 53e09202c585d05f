use Rattle.std.proofs.Common.{ap, not, ◌∙◌}
use Rattle.e3_site.proofs.past.Undecided.{left_is}
use Rattle.e3_site.proofs.past.opening.is_left.Goals as goal

pub returns : goal.returns
returns c = ap not c.is_decision.ensures ∙ left_is c.args.t.now c.args.r.now
