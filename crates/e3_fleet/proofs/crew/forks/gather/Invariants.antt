use Rattle.std.proofs.Common.{◌≡◌, ◌+◌, ◌<◌, ◌≤◌, ℕ}
use Rattle.std.specs.Prelude.{slice_index_or}
use Rattle.e3_turn.specs.Passes.{IsIdle, Owns, last_of, seen_by}
use Rattle.e3_fleet.specs.declared.crew.worker.Worker.{Worker}
use Rattle.e3_fleet.specs.crew.Workers.{AddedByOthers, KeepsItsOwn, seen_of}
use Rattle.e3_wire.specs.Wires.{IsPlayed}
use Rattle.e3_fleet.proofs.crew.forks.gather.Given as goal

abbrev pub invariant-loop-worker : goal.invariant-loop-worker
invariant-loop-worker g l = record {
  idle : IsIdle l.wire l.pass;
  owns : (o : ℕ) → o ≤ l.worker-index → Owns l.pass o;
  lasts : last_of l.pass ≡ last_of l.initial.pass;
  played : IsPlayed (seen_by l.pass);
  driver : AddedByOthers 0 (seen_by l.initial.pass) (seen_by l.pass);
  each : (i : ℕ) (d : Worker g.row.D.Denot) → i < l.worker-index → AddedByOthers (i + 1) (seen_of (slice_index_or l.initial.workers i d)) (seen_by l.pass);
  same : (i : ℕ) (d : Worker g.row.D.Denot) → i < l.worker-index → KeepsItsOwn (slice_index_or l.initial.workers i d) (slice_index_or l.workers i d);
  later : (i : ℕ) (d : Worker g.row.D.Denot) → l.worker-index ≤ i → slice_index_or l.workers i d ≡ slice_index_or l.initial.workers i d;
}
