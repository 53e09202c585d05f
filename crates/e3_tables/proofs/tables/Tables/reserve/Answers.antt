-- so many operations make so many more names at most
use Rattle.std.proofs.Common.{◌≡◌, ◌≤◌, ◌+◌, rules, arith, length, vec_len, vec_capacity}
use Rattle.e3_tables.proofs.Rows.{installed_few}
use Rattle.e3_tables.proofs.tables.Tables.reserve.Goals as goal

pub returns-clause-installs : goal.returns-clause-installs
returns-clause-installs c = λ ops few.
    let f = installed_few ops c.reserve.new.self.items in
    let l : vec_len c.reserve.new.self ≡ length c.reserve.new.self.items = search rules in
    let room : vec_len c.reserve.new.self + c.args.more ≤ vec_capacity c.reserve.new.self = c.in-Ok.ensures.ok in
    omega (arith, f, few, l, room)
