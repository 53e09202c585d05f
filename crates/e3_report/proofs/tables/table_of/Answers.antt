-- the table with the votes of the whole log
use Rattle.std.proofs.Common.{◌∙◌}
use Rattle.e3_report.proofs.Tabling.{table_is}
use Rattle.e3_report.proofs.tables.table_of.Goals as goal

pub returns-in-Some : goal.returns-in-Some
returns-in-Some c =
    c.in_ok-list-in-Some.ensures ∙ rw c.in-Some.is at c.in_ok-table.ensures
    ∙ table_is c.in_ok-votes.votes c.args.log.now c.in_ok-votes.ensures
