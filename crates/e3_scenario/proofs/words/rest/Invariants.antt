use Rattle.std.proofs.Common.{◌≡◌, ◌-◌}
use Rattle.e3_scenario.specs.Words.{rest}
use Rattle.e3_scenario.proofs.words.rest.Given as goal

abbrev pub invariant-loop : goal.invariant-loop
invariant-loop l = rest (l.count - l.counter) l.left ≡ rest l.count l.text
