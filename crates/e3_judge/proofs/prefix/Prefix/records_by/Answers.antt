use Rattle.std.proofs.Common.{◌≡◌, ◌++◌, ◌∙◌}
use Rattle.e3_world.specs.Legal.{made_by}
use Rattle.e3_judge.proofs.Stepping.{records_on}
use Rattle.e3_judge.proofs.prefix.Prefix.records_by.Goals as goal

pub loop-input-preserved : goal.loop-input-preserved
loop-input-preserved c =
    let sc = c.args.self.now.scenario.now in
    let h = c.loop-input.history in
    let i = c.input-item.result in
    let scenario = c.of-prefix.ensures.scenario in
    let entries = c.of-prefix.ensures.entries ∙ c.as_slice.ensures in
    let more : c.add_records.new.out ≡ c.loop-input.out ++ (made_by sc h c.args.site i).records = cc (scenario, entries, c.in_ok-add_records.ensures) in
    c.loop-input.invariant
    ∙ records_on sc h c.go_on.new.history c.args.site c.args.inputs.now c.loop-input.input-index i c.loop-input-test.true c.input-item.is c.loop-input.out
    c.add_records.new.out more c.in_ok-go_on.ensures
