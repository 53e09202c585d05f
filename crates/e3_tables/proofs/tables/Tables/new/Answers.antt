-- rows whose names differ keep their values
use Rattle.std.proofs.Common.{◌≡◌, ◌∙◌, ap, rules, List}
use Rattle.e3_types.specs.declared.transactions.Row.{Row}
use Rattle.e3_world.specs.Logs.{row_value}
use Rattle.e3_tables.specs.Work.{in_order}
use Rattle.e3_tables.proofs.Rows.{ordered_values}
use Rattle.e3_tables.proofs.tables.Tables.new.Goals as goal

pub returns-clause-values : goal.returns-clause-values
returns-clause-values c = λ d n.
    let e : c.sort_rows.new.rows.items ≡ in_order c.args.rows = search rules in
    ap (λ (l : List Row). row_value n l) e ∙ ordered_values n c.args.rows d
