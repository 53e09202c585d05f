use Rattle.std.proofs.Common.{◌≡◌, length}
use Rattle.e3_judge.proofs.audit.Asking.{AskedTo}
use Rattle.e3_judge.proofs.audit.lining.ask_all.Given as goal

abbrev pub invariant-loop-at : goal.invariant-loop-at
invariant-loop-at l = record {
  count : length l.seats ≡ length l.fn.seats;
  asked : AskedTo l.prefix.scenario.now l.prefix.entries.now l._number l.at l.seats;
}
