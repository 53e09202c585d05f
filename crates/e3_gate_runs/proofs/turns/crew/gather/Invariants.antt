use Rattle.std.proofs.Common.{◌≡◌, ◌+◌, ◌<◌, ◌≤◌, ℕ, length}
use Rattle.std.specs.Prelude.{slice_index_or}
use Rattle.e3_turn.specs.Passes.{IsIdle, owners_of, last_of, seen_by}
use Rattle.e3_gate_runs.specs.declared.turns.worker.Worker.{Worker}
use Rattle.e3_gate_runs.specs.Marks.{marks_of}
use Rattle.e3_gate_runs.specs.Workers.{gathered, seen_of}
use Rattle.e3_gate_runs.proofs.turns.crew.gather.Given as goal

abbrev pub invariant-loop-worker : goal.invariant-loop-worker
invariant-loop-worker l = record {
  idle : IsIdle l.lock l.pass;
  owned : owners_of l.pass ≡ gathered (length l.initial.workers) l.worker-index;
  lasts : last_of l.pass ≡ last_of l.initial.pass;
  marks : (i : ℕ) (d : Worker) → i < l.worker-index → marks_of (i + 1) (seen_by l.pass) ≡ marks_of (i + 1) (seen_of (slice_index_or l.initial.workers i d));
  same : (i : ℕ) (d : Worker) → i < l.worker-index → (slice_index_or l.workers i d).done ≡ (slice_index_or l.initial.workers i d).done;
  later : (i : ℕ) (d : Worker) → l.worker-index ≤ i → slice_index_or l.workers i d ≡ slice_index_or l.initial.workers i d;
}
