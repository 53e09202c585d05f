-- the pieces, one after the other
use Rattle.std.proofs.Common.{append_assoc}
use Rattle.e3_report.proofs.summing.push_summary.Goals as goal

pub returns : goal.returns
returns c = λ whole.
    let end = c.line.ensures whole in
    let faults = c.push_faults.ensures end.0 in
    let txns = c.push_transactions.ensures faults.0 in
    let steps = c.push_kind.ensures txns.0 in
    let number = c.push_count.ensures steps.0 in
    (number.0, rw (end.1, faults.1, txns.1, steps.1, number.1) (simp append_assoc))
