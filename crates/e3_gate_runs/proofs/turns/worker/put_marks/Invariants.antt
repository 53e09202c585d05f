use Rattle.std.proofs.Common.{◌≡◌}
use Rattle.e3_turn.specs.Passes.{IsIdle, SameOwners, seen_by}
use Rattle.e3_gate_runs.specs.Marks.{marks_of, numbered}
use Rattle.e3_gate_runs.proofs.turns.worker.put_marks.Given as goal

abbrev pub invariant-loop-number : goal.invariant-loop-number
invariant-loop-number g l = record {
  idle : IsIdle l.lock l.pass;
  same : SameOwners l.initial.pass l.pass;
  marks : marks_of l.owner (seen_by l.pass) ≡ numbered l.owner 0 l.number;
}
