-- what is read, and the bytes that are left
use Rattle.std.proofs.Common.{◌≡◌, ◌≤◌, ◌+◌, length}
use Rattle.e3_report.specs.lines.Marks.{feed, pieces}
use Rattle.e3_trace.specs.Trace.{nothing_read, lines_read}
use Rattle.e3_trace.proofs.trace.lines_with.Given as goal

abbrev pub invariant-lines : goal.invariant-lines
invariant-lines l = record {
  same : lines_read l.at l.reading (pieces feed l.left) ≡ lines_read 1 nothing_read (pieces feed l.text);
  within : l.at + length l.left ≤ 268435457;
}

abbrev pub decreases-lines : goal.decreases-lines
decreases-lines l = length l.left
