use Rattle.std.proofs.Common.{◌≡◌, ℕ, ◌+◌, ◌<◌, length}
use Rattle.std.specs.Prelude.{slice_index_or}
use Rattle.e3_gate_runs.specs.declared.turns.worker.Worker.{Worker}
use Rattle.e3_gate_runs.proofs.turns.crew_of.Given as goal

abbrev pub invariant-loop-place : goal.invariant-loop-place
invariant-loop-place l = record {
  size : length l.workers.items ≡ l.place;
  owners : (i : ℕ) (d : Worker) → i < l.place → (slice_index_or l.workers.items i d).owner ≡ i + 1;
}
