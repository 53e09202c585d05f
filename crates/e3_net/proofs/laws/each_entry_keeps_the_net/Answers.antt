use Rattle.e3_net.proofs.Keeping.{drop_keeps, fall_keeps, fresh_stands, line_keeps, parts_keep, quiet_keeps, step_keeps}
use Rattle.e3_net.proofs.laws.each_entry_keeps_the_net.Goals as goal

pub returns-clause-fresh : goal.returns-clause-fresh
returns-clause-fresh c = fresh_stands

pub returns-clause-quiet : goal.returns-clause-quiet
returns-clause-quiet c = quiet_keeps

pub returns-clause-line : goal.returns-clause-line
returns-clause-line c = line_keeps

pub returns-clause-parts : goal.returns-clause-parts
returns-clause-parts c = parts_keep

pub returns-clause-step : goal.returns-clause-step
returns-clause-step c = step_keeps

pub returns-clause-fall : goal.returns-clause-fall
returns-clause-fall c = fall_keeps

pub returns-clause-dropped : goal.returns-clause-dropped
returns-clause-dropped c = drop_keeps
