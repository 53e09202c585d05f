use Rattle.std.proofs.Common.{◌≡◌, ◌++◌, drop}
use Rattle.e3_world.specs.Legal.{records_by}
use Rattle.e3_judge.proofs.prefix.Prefix.records_by.Given as goal

abbrev pub invariant-loop-input : goal.invariant-loop-input
invariant-loop-input l =
    records_by l.self.scenario.now l.self.entries.now l.site l.inputs ≡ l.out ++ records_by l.self.scenario.now l.history l.site (drop l.input-index l.inputs)
