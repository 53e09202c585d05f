-- the bytes that are left, before which no line is the mark
use Rattle.std.proofs.Common.{◌≡◌, ◌≤◌, length}
use Rattle.e3_report.specs.lines.Marks.{feed, pieces}
use Rattle.e3_trace.specs.Trace.{behind_mark}
use Rattle.e3_trace.proofs.trace.behind_mark.Given as goal

abbrev pub invariant-lines : goal.invariant-lines
invariant-lines l = record {
  same : behind_mark (pieces feed l.left) ≡ behind_mark (pieces feed l.bytes);
  within : length l.left ≤ length l.bytes;
}

abbrev pub decreases-lines : goal.decreases-lines
decreases-lines l = length l.left
