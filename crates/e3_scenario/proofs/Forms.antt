-- Words of a text.
use Rattle.std.proofs.Common.{◌≡◌, ℕ, suc, List, Some, refl}
use Rattle.e3_scenario.specs.Words.{after, rest}

-- one word less
pub rest-suc : (k n : ℕ) (left next : List ℕ) → n ≡ suc k → after 32 left ≡ Some next → rest n left ≡ rest k next
rest-suc k n left next more cut = rw (more, cut) refl
