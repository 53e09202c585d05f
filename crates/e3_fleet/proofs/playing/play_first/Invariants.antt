use Rattle.std.proofs.Common.{◌≡◌}
use Rattle.e3_fleet.specs.Settling.{Since, Stands, history_in, most_in, scenario_in}
use Rattle.e3_fleet.proofs.playing.play_first.Given as goal
use Rattle.e3_play.specs.GoingOn.{SitesGoOn}
use Rattle.e3_play.specs.Known.{KnowsNames}
use Rattle.e3_play.specs.Played.{IsSettled}

abbrev pub invariant-loop-done : goal.invariant-loop-done
invariant-loop-done g l = record {
  played : scenario_in l.fleet ≡ l.scenario;
  on : SitesGoOn (Stands g.D.Disk.meaning) (Since g.D.Disk.meaning.meters) scenario_in most_in l.fn.fleet l.fleet;
  known : KnowsNames l.scenario (history_in l.fleet) l.names;
  settled : IsSettled l.scenario (history_in l.fleet) l.done;
}
