use Rattle.std.proofs.Common.{rules}
use Rattle.e3_log.proofs.Spending.{spends_first, spends_second, spends_both}
use Rattle.e3_log.proofs.commit.write_frame.Goals as goal

pub returns-clause-meters : goal.returns-clause-meters
returns-clause-meters g c = spends_both c.in_ok-write_at.ensures.meters c.in_ok-sync.ensures.meters

pub returns-in_err-sync-clause-meters : goal.returns-in_err-sync-clause-meters
returns-in_err-sync-clause-meters g c = spends_second c.sync.result _ (search rules) c.from_residual-in_err-sync.ensures.0 c.in_ok-write_at.ensures.meters c.sync.ensures.meters

pub returns-in_err-write_at-clause-meters : goal.returns-in_err-write_at-clause-meters
returns-in_err-write_at-clause-meters g c = spends_first c.write_at.result _ (search rules) c.from_residual.ensures.0 c.write_at.ensures.meters
