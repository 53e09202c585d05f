use Rattle.std.proofs.Common.{◌≡◌, fold, take}
use Rattle.e3_world.specs.Logs.{install_op}
use Rattle.e3_report.proofs.tables.Table.install.Given as goal

abbrev pub invariant-loop-op : goal.invariant-loop-op
invariant-loop-op l = l.self ≡ fold install_op l.initial.self (take l.op-index l.ops)
