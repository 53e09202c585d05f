-- what a name read in the workspace is its value then
use Rattle.std.proofs.Common.{◌≡◌, ◌∙◌, ap, rules, List}
use Rattle.e3_types.specs.declared.transactions.Row.{Row}
use Rattle.e3_world.specs.Logs.{row_value}
use Rattle.e3_tables.specs.Work.{installed}
use Rattle.e3_tables.proofs.Rows.{reads_installed}
use Rattle.e3_tables.proofs.tables.Tables.install.Goals as goal

pub returns-clause-values : goal.returns-clause-values
returns-clause-values c = λ n.
    let e : c.install_all.new.rows.items ≡ installed c.args.work.ops c.args.self.now.rows = search rules in
    ap (λ (l : List Row). row_value n l) e ∙ reads_installed n c.args.work.ops c.args.self.now.rows
