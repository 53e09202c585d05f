use Rattle.std.proofs.Common.{sym, ◌∙◌}
use Rattle.e3_site.proofs.past.Undecided.{none_decided_by}
use Rattle.e3_site.proofs.past.opening.sift_by.Goals as goal

pub returns-then-not-decides : goal.returns-then-not-decides
returns-then-not-decides c = none_decided_by c.args.r.now c.args.txns.now.items (sym c.decides.ensures ∙ c.if-not-decides.true)
