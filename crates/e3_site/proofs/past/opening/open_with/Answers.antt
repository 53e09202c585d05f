use Rattle.std.proofs.Common.{◌∙◌}
use Rattle.e3_site.proofs.past.Undecided.{open_listed}
use Rattle.e3_site.proofs.past.opening.open_with.Goals as goal

pub returns : goal.returns
returns c = open_listed c.in_order.result c.args.tables.now c.as_slice.result.now (c.as_slice.ensures ∙ c.in_ok-txns.ensures) c.in_order.ensures
