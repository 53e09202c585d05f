use Rattle.std.proofs.Common.{◌++◌, ap, ◌∙◌, get_or, take, ◌+◌}
use Rattle.e3_readings.specs.Places.{placed_at}
use Rattle.e3_judge.specs.Added.{added_by}
use Rattle.e3_judge.proofs.Adding.{placed_step}
use Rattle.e3_judge.proofs.places.placed.Goals as goal

pub loop-at-preserved : goal.loop-at-preserved
loop-at-preserved c =
    (let a : _ = c.in_ok-add_of.ensures in a)
    ∙ ap (λ o. o ++ placed_at (get_or c.args.history.now c.loop-at.at c.index-history-at.result).owner
    (added_by c.args.scenario.now (take c.loop-at.at c.args.history.now) (take (c.loop-at.at + 1) c.args.history.now) (get_or c.args.history.now c.loop-at.at c.index-history-at.result).owner)) c.loop-at.invariant
    ∙ placed_step c.args.scenario.now c.args.history.now c.loop-at.at c.index-history-at.result c.loop-at-test.true
