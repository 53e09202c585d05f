use Rattle.e3_fleet.specs.crew.Drops.{HasDropped}
use Rattle.e3_fleet.proofs.crew.dropping.drop_in.Given as goal

abbrev pub invariant-loop-worker : goal.invariant-loop-worker
invariant-loop-worker g l = record {
  dropped : HasDropped l.fn.shared l.shared;
}
