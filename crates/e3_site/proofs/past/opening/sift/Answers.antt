use Rattle.std.proofs.Common.{sym, ◌∙◌}
use Rattle.e3_site.proofs.past.Undecided.{none_decided}
use Rattle.e3_site.proofs.past.opening.sift.Goals as goal

pub returns-then-not-have_decided : goal.returns-then-not-have_decided
returns-then-not-have_decided c = none_decided c.args.records.now c.args.txns.now.items (sym c.have_decided.ensures ∙ c.if-not-have_decided.true)
