use Rattle.e3_fleet.specs.crew.Workers.{HasWorked, IsPassFor}
use Rattle.e3_turn.specs.Passes.{seen_by}
use Rattle.e3_fleet.proofs.crew.working.give_packets.Given as goal

abbrev pub invariant-loop : goal.invariant-loop
invariant-loop g l = record {
  pass : IsPassFor l.works.wire.now l.node.site l.pass;
  worked : HasWorked g.D.Disk.meaning (seen_by l.fn.pass) l.fn.node (seen_by l.pass) l.node;
}
