use Rattle.std.proofs.Common.{add-one}
use Rattle.e3_world.specs.Packets.{is_line}
use Rattle.e3_judge.proofs.AroundLines.{split_next, end_within}
use Rattle.e3_judge.proofs.items.line_end.Goals as goal

pub loop-at-preserved : goal.loop-at-preserved
loop-at-preserved c =
    let was = c.loop-at.invariant in
    let entry = c.index-history-at.result in
    rw (c.end_behind-end.ensures, add-one) (record {
      within = end_within (is_line entry) c.loop-at.end c.loop-at.at was.within;
      is_split = split_next c.args.history.now c.loop-at.end c.loop-at.at entry was.within c.loop-at-test.true c.index-history-at.is was.is_split;
    })
