use Rattle.std.proofs.Common.{◌≡◌, suc, ◌+◌, ◌-◌, sym, ◌∙◌, arith}
use Rattle.e3_scenario.proofs.Forms.{rest-suc}
use Rattle.e3_scenario.proofs.words.rest.Goals as goal

pub loop-preserved : goal.loop-preserved
loop-preserved c =
    let more : c.args.count - c.loop.counter ≡ suc (c.args.count - (c.loop.counter + 1)) = omega arith in
    sym (rest-suc _ _ _ _ more (sym c.in_ok-left.ensures.value)) ∙ c.loop.invariant
