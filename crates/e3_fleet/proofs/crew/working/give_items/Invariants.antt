use Rattle.e3_fleet.specs.crew.Turns.{AreDone}
use Rattle.e3_fleet.specs.crew.Workers.{HasWorked, IsPassFor}
use Rattle.e3_node.specs.Places.{HasGivenNoneBack}
use Rattle.e3_turn.specs.Passes.{seen_by}
use Rattle.e3_wire.specs.Marks.{entries_of, scenario_of}
use Rattle.e3_fleet.proofs.crew.working.give_items.Given as goal

abbrev pub invariant-loop-item : goal.invariant-loop-item
invariant-loop-item g l = record {
  pass : IsPassFor l.works.wire.now l.node.site l.pass;
  worked : HasWorked g.D.Disk.meaning (seen_by l.fn.pass) l.fn.node (seen_by l.pass) l.node;
  none_back : HasGivenNoneBack l.fn.node.site (seen_by l.fn.pass) (seen_by l.pass);
  done : AreDone (scenario_of (seen_by l.pass)) (entries_of (seen_by l.pass)) l.node.site l.items l.item-index;
}
