-- Tests of which none passes.
use Rattle.std.specs.Prelude.{◌≡◌, ◌||◌, Bool, true, false}
use Rattle.std.proofs.Common.{refl}
use Rattle.e3_world.proofs.Turns.{true_not_false}

-- where neither passes, the first does not
pub none_left : (b c : Bool) → (b || c) ≡ false → b ≡ false
none_left false c e = refl
none_left true c e = e

-- nor the second
pub none_right : (b c : Bool) → (b || c) ≡ false → c ≡ false
none_right false c e = e
none_right true c e = absurd (true_not_false e)
