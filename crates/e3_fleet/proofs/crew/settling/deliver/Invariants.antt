use Rattle.e3_fleet.specs.crew.Crews.{HasGoneOn, IsCrew}
use Rattle.e3_node.specs.Turns.{history_seen, scenario_seen}
use Rattle.e3_turn.specs.Passes.{seen_by}
use Rattle.e3_world.specs.Progress.{Delivering}
use Rattle.e3_fleet.proofs.crew.settling.deliver.Given as goal

abbrev pub invariant-loop : goal.invariant-loop
invariant-loop g l = record {
  crew : IsCrew g.D.Disk.meaning l.works.wire.now l.pass l.workers;
  on : HasGoneOn g.D.Disk.meaning.meters (seen_by l.fn.pass) l.fn.workers (seen_by l.pass) l.workers;
  delivering : Delivering (scenario_seen l.fn.pass) (history_seen l.pass);
}
