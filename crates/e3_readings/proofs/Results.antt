-- What a call says where it answered.
use Rattle.std.specs.Prelude.{◌≡◌, Result, Ok, Err, IfOk}
use Rattle.std.proofs.Common.{◌∙◌}

-- the same answer by another name
pub ok_is : {X E : Type 0} (r : Result X E) (x y : X) → x ≡ y → IfOk r (λ o. o ≡ x) → IfOk r (λ o. o ≡ y)
ok_is (Ok o) x y e h = h ∙ e
ok_is (Err f) x y e h = tt
