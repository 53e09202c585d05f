use Rattle.std.proofs.Common.{◌≡◌, ◌<◌, ◌≤◌, ℕ, length, []}
use Rattle.std.specs.Prelude.{slice_index_or}
use Rattle.e3_turn.specs.Passes.{IsIdle, owners_of, last_of, seen_by}
use Rattle.e3_gate_runs.specs.declared.turns.worker.Worker.{Worker}
use Rattle.e3_gate_runs.specs.Workers.{left_after, Dealt}
use Rattle.e3_gate_runs.proofs.turns.crew.deal.Given as goal

abbrev pub invariant-loop-worker : goal.invariant-loop-worker
invariant-loop-worker l = record {
  idle : IsIdle l.lock l.pass;
  owned : owners_of l.pass ≡ left_after (length l.initial.workers) l.worker-index;
  lasts : last_of l.pass ≡ last_of l.initial.pass;
  saw : seen_by l.pass ≡ [];
  dealt : (i : ℕ) (d : Worker) → i < l.worker-index → Dealt l.lock (slice_index_or l.initial.workers i d) (slice_index_or l.workers i d);
  later : (i : ℕ) (d : Worker) → l.worker-index ≤ i → slice_index_or l.workers i d ≡ slice_index_or l.initial.workers i d;
}
