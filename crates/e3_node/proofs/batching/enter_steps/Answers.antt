use Rattle.std.proofs.Common.{◌∙◌}
use Rattle.e3_node.proofs.Planning.{entries_grew}
use Rattle.e3_node.proofs.batching.enter_steps.Goals as goal

pub enter_all-requires : goal.enter_all-requires
enter_all-requires g c = c.requires.may c.take-shared.result c.take-shared.ensures.grew c.take-shared.ensures.played

pub put-requires-clause-grew : goal.put-requires-clause-grew
put-requires-clause-grew g c =
    entries_grew c.args.pass.now c.take-shared.new.pass c.take-shared.result c.enter_all.new.shared c.args.steps.items c.requires.owned c.take-shared.ensures.same c.take-shared.ensures.seen
    c.enter_all.ensures.entered

pub returns-clause-entered : goal.returns-clause-entered
returns-clause-entered g c = (c.take-shared.result, c.take-shared.ensures.grew, c.take-shared.ensures.played, c.put.ensures.seen ∙ c.enter_all.ensures.entered)
