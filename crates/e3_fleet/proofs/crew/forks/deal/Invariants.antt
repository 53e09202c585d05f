use Rattle.std.proofs.Common.{◌≡◌, ◌⊎◌, ◌<◌, ◌≤◌, ℕ, length}
use Rattle.std.specs.Prelude.{slice_index_or}
use Rattle.e3_turn.specs.Passes.{IsIdle, Owns, last_of, seen_by}
use Rattle.e3_fleet.specs.declared.crew.worker.Worker.{Worker}
use Rattle.e3_fleet.specs.crew.Workers.{IsDealt}
use Rattle.e3_fleet.proofs.crew.forks.deal.Given as goal

abbrev pub invariant-loop-worker : goal.invariant-loop-worker
invariant-loop-worker g l = record {
  idle : IsIdle l.wire l.pass;
  owns : (o : ℕ) → (o ≡ 0) ⊎ (l.worker-index < o) → o ≤ length l.initial.workers → Owns l.pass o;
  lasts : last_of l.pass ≡ last_of l.initial.pass;
  saw : seen_by l.pass ≡ seen_by l.initial.pass;
  dealt : (i : ℕ) (d : Worker g.row.D.Denot) → i < l.worker-index → IsDealt l.wire (seen_by l.initial.pass) (slice_index_or l.initial.workers i d) (slice_index_or l.workers i d);
  later : (i : ℕ) (d : Worker g.row.D.Denot) → l.worker-index ≤ i → slice_index_or l.workers i d ≡ slice_index_or l.initial.workers i d;
}
