use Rattle.std.proofs.Common.{◌≡◌, drop}
use Rattle.e3_judge.specs.Checks.{inputs_are_due}
use Rattle.e3_judge.proofs.prefix.Prefix.inputs_are_due.Given as goal

abbrev pub invariant-loop-input : goal.invariant-loop-input
invariant-loop-input l =
    inputs_are_due l.self.scenario.now l.self.entries.now l.site l.inputs ≡ inputs_are_due l.self.scenario.now l.history l.site (drop l.input-index l.inputs)
