use Rattle.e3_fleet.specs.crew.Drops.{HasDropped}
use Rattle.e3_fleet.proofs.crew.dropping.drop_all_for.Given as goal

abbrev pub invariant-loop : goal.invariant-loop
invariant-loop g l = record {
  dropped : HasDropped l.fn.shared l.shared;
}
