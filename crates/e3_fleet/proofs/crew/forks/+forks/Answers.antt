use Rattle.std.proofs.lemmas.List.Elements.{All-drop, All-same, All-take}
use Rattle.e3_fleet.specs.crew.Forks.{CanTake, HasTaken}
use Rattle.e3_fleet.specs.declared.crew.worker.Worker.{Worker}
use Rattle.e3_fleet.proofs.crew.Members.{both_told}
use Rattle.e3_fleet.proofs.crew.forks.+forks.Goals as goal

pub all_take-returns : goal.all_take-returns
all_take-returns g t c =
    let cut = c.split_at_mut-front in
    both_told (HasTaken c.args.round.now.turn g.D.Disk.meaning c.args.works.now.wire.now) c.args.workers.now cut.result.0.now cut.result.1.now
    c.both_take.new.front c.both_take.new.back cut.ensures.value c.both_take.auto.front c.both_take.ensures.front c.both_take.ensures.back

pub all_take-both_take-requires-clause-front : goal.all_take-both_take-requires-clause-front
all_take-both_take-requires-clause-front g t c κs lives =
    let cut = c.split_at_mut-front in
    let P : Worker g.row.D.Denot → Type 0 = CanTake c.args.round.now.turn g.D.Disk.meaning c.args.works.now.wire.now in
    All-same P cut.result.0.now _ cut.ensures.front (All-take P _ c.args.workers.now c.requires)

pub all_take-both_take-requires-clause-back : goal.all_take-both_take-requires-clause-back
all_take-both_take-requires-clause-back g t c κs lives =
    let cut = c.split_at_mut-front in
    let P : Worker g.row.D.Denot → Type 0 = CanTake c.args.round.now.turn g.D.Disk.meaning c.args.works.now.wire.now in
    All-same P cut.result.1.now _ cut.ensures.back (All-drop P _ c.args.workers.now c.requires)
