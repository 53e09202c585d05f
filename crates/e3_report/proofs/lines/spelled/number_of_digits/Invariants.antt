use Rattle.std.proofs.Common.{◌≡◌, ◌≤◌, drop}
use Rattle.e3_report.specs.lines.Spelled.{digits_from}
use Rattle.e3_report.proofs.lines.spelled.number_of_digits.Given as goal

abbrev pub invariant-loop-byte : goal.invariant-loop-byte
invariant-loop-byte l = record {
  within : l.number ≤ l.most;
  same : digits_from l.most l.number (drop l.byte-index l.text) ≡ digits_from l.most 0 l.text;
}
