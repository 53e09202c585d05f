-- The number that an elector joins.
use Rattle.std.specs.Prelude.{◌≡◌, ◌&&◌, ◌<◌, ◌≤◌, if◌then◌else◌, ℕ, suc, nat_le, Bool, true, false, Some, None}
use Rattle.std.proofs.Common.{arith, refl}
use Rattle.std.proofs.lemmas.Grind.{common_steps}

-- the number is above the last that was joined: then the greatest is not below that
pub joins_above : (whole : Bool) (greatest n elected : ℕ) → (if whole then Some (suc greatest) else None) ≡ Some n → elected < n
    → ((whole && nat_le elected greatest) ≡ true) × (n ≡ suc greatest)
joins_above true greatest n elected is above =
    let e : n ≡ suc greatest = cc in
    (grind (arith, common_steps, e, above), e)
joins_above false greatest n elected is above = cc

pub joins_low : (whole : Bool) (greatest n elected : ℕ) → (if whole then Some (suc greatest) else None) ≡ Some n → n ≤ elected
    → (whole && nat_le elected greatest) ≡ false
joins_low true greatest n elected is low =
    let e : n ≡ suc greatest = cc in
    grind (arith, common_steps, e, low)
joins_low false greatest n elected is low = cc

pub joins_none : (whole : Bool) (greatest elected : ℕ) → (if whole then Some (suc greatest) else None) ≡ None → (whole && nat_le elected greatest) ≡ false
joins_none true greatest elected is = cc
joins_none false greatest elected is = refl
