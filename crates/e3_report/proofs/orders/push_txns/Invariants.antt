use Rattle.std.proofs.Common.{take}
use Rattle.std.specs.List.{flat_map}
use Rattle.e3_report.specs.Report.{txn_line}
use Rattle.e3_report.specs.Pages.{Adds}
use Rattle.e3_report.proofs.orders.push_txns.Given as goal

abbrev pub invariant-loop-txn : goal.invariant-loop-txn
invariant-loop-txn l = Adds l.initial.page l.page (flat_map txn_line (take l.txn-index l.txns))
