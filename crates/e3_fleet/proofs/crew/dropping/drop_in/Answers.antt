use Rattle.std.proofs.Common.{◌≡◌, ◌∙◌, ap, sym, subst}
use Rattle.std.specs.Prelude.{Err, Ok, Result}
use Rattle.std.specs.Result.{IsErrAnd}
use Rattle.e3_fleet.specs.declared.crew.worker.Worker.{Worker}
use Rattle.e3_fleet.proofs.crew.Drops.{dropped_on, dropped_restless, dropped_stands}
use Rattle.e3_node.specs.NodeStands.{NodeStands}
use Rattle.e3_play.specs.declared.sites.RunFault.{RunFault}
use Rattle.e3_play.specs.declared.sites.RunFault.TheVariants.{HistoryFull}
use Rattle.e3_wire.specs.Marks.{entries_of, scenario_of}
use Rattle.e3_fleet.proofs.crew.dropping.drop_in.Goals as goal

-- what `?` hands on is the error that it was given
err_is : (r : Result (Unit {0}) RunFault) (x y : RunFault) → IsErrAnd r (λ e. e ≡ x) → r ≡ Err y → x ≡ y
err_is (Ok done) x y made is = absurd cc
err_is (Err e) x y made is = let one : e ≡ y = cc in sym made ∙ one

pub drop_to-requires-clause-restless : goal.drop_to-requires-clause-restless
drop_to-requires-clause-restless g c = dropped_restless c.args.shared.now c.loop-worker.shared c.requires.played c.loop-worker.invariant.dropped c.requires.restless

pub drop_to-requires-clause-standing : goal.drop_to-requires-clause-standing
drop_to-requires-clause-standing g c =
    let w = c.worker-item.result in
    dropped_stands g.D.Disk.meaning c.others_leave_nodes.ensures.nodes c.args.shared.now c.loop-worker.shared c.requires.played c.loop-worker.invariant.dropped w.node
    (subst (λ (z : Worker g.row.D.Denot). NodeStands g.D.Disk.meaning (scenario_of c.args.shared.now) (entries_of c.args.shared.now) z.node) (sym c.worker-item.is)
    (c.requires.standing c.loop-worker.worker-index w c.loop-worker-test.true))

pub loop-worker-preserved : goal.loop-worker-preserved
loop-worker-preserved g c = record {
  dropped = dropped_on c.args.shared.now c.loop-worker.shared c.drop_to.new.shared c.loop-worker.invariant.dropped c.drop_to.ensures.dropped;
}

pub returns-in_err-drop_to-clause-dropped : goal.returns-in_err-drop_to-clause-dropped
returns-in_err-drop_to-clause-dropped g c = dropped_on c.args.shared.now c.loop-worker.shared c.drop_to.new.shared c.loop-worker.invariant.dropped c.drop_to.ensures.dropped

pub returns-clause-dropped : goal.returns-clause-dropped
returns-clause-dropped g c = c.loop-worker.invariant.dropped

pub returns-clause-full : goal.returns-clause-full
returns-clause-full g c = c.room_for_first.ensures

pub drop_to-requires-clause-played : goal.drop_to-requires-clause-played
drop_to-requires-clause-played g c = c.tell.ensures

pub returns-in_err-drop_to-clause-full : goal.returns-in_err-drop_to-clause-full
returns-in_err-drop_to-clause-full g c = λ is.
    c.in_err-drop_to.ensures.full (ap Err (err_is c.from_residual.result c.in_err-drop_to.field-0.0 HistoryFull c.from_residual.ensures.1 is))
