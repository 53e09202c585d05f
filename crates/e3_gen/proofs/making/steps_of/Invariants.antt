use Rattle.std.proofs.Common.{◌≡◌, map}
use Rattle.e3_gen.specs.Draws.{behind_txns}
use Rattle.e3_gen.specs.Generated.{items_to, step_of}
use Rattle.e3_gen.proofs.making.steps_of.Given as goal

abbrev pub invariant-loop-before : goal.invariant-loop-before
invariant-loop-before l = (l.generator ≡ behind_txns l.n l.before) × (l.steps ≡ map step_of (items_to l.n l.before))
