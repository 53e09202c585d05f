-- What is expected of a coordinator's own site is told by what it has done.
use Rattle.std.specs.Prelude.{◌≡◌, ◌==◌, ◌∷◌, [], ℕ, true, List}
use Rattle.std.proofs.Common.{refl, arith}
use Rattle.std.proofs.lemmas.Bool.Decides.{nat_tests}
use Rattle.e3_types.specs.declared.transactions.Txn.{Txn}
use Rattle.e3_world.specs.declared.lives.Moment.{Moment}
use Rattle.e3_world.specs.declared.lives.Performed.{Performed}
use Rattle.e3_world.specs.Operations.{done, expected}
use Rattle.e3_readings.specs.Expecting.{own_expected}

pub own_is : (own inc : ℕ) (t : Txn) (steps : List Moment) → own_expected inc (done own t steps) ≡ expected own inc t steps own
own_is own inc t steps = by (done own t steps) refl
  where
    same : (own == own) ≡ true
    same = grind (arith, nat_tests)

    by : (ps : List Performed) → done own t steps ≡ ps → own_expected inc (done own t steps) ≡ expected own inc t steps own
    by [] is = rw (same, is) refl
    by (p ∷ ps) is = rw (same, is) refl
