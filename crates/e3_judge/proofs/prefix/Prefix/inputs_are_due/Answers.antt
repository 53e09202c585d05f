use Rattle.std.proofs.Common.{◌≡◌, ◌∙◌, true}
use Rattle.e3_judge.specs.Checks.{input_is_due}
use Rattle.e3_judge.proofs.Stepping.{due_on}
use Rattle.e3_judge.proofs.prefix.Prefix.inputs_are_due.Goals as goal

pub loop-input-preserved : goal.loop-input-preserved
loop-input-preserved c =
    let sc = c.args.self.now.scenario.now in
    let h = c.loop-input.history in
    let i = c.input-item.result in
    let scenario = c.of-prefix.ensures.scenario in
    let entries = c.of-prefix.ensures.entries ∙ c.as_slice.ensures in
    let due : input_is_due sc h c.args.site i ≡ true = cc (scenario, entries, c.in_ok-input_is_due.ensures, c.if-not-branch.false) in
    c.loop-input.invariant
    ∙ due_on sc h c.go_on.new.history c.args.site c.args.inputs.now c.loop-input.input-index i c.loop-input-test.true c.input-item.is due c.in_ok-go_on.ensures
