-- A fault of a list of numbers is never want of memory.
use Rattle.std.proofs.Common.{◌≡◌, ℕ, suc, Bool, true, false, List, [], ◌∷◌, length, Some}
use Rattle.std.specs.Prelude.{◌&&◌, if◌then◌else◌, nat_le, nat_lt, Option}
use Rattle.e3_quorum.specs.declared.weights.WeightFault.{WeightFault}
use Rattle.e3_quorum.specs.declared.weights.WeightFault.TheVariants.{Count, Range, NoMemory}
use Rattle.e3_quorum.specs.Weighing.{range_fault, weight_fault, Refuses}

no_range : (site : ℕ) (ws : List ℕ) → range_fault site ws ≡ Some NoMemory → ⊥
no_range site [] e = cc
no_range site (w ∷ ws) e = by (nat_le 1 w && nat_le w 1000) (range_fault (suc site) ws) (no_range (suc site) ws) e
  where
    by : (b : Bool) (rest : Option WeightFault) → (rest ≡ Some NoMemory → ⊥) → (if b then rest else Some (Range site w)) ≡ Some NoMemory → ⊥
    by true rest never e = never e
    by false rest never e = cc

no_memory : (ws : List ℕ) → weight_fault ws ≡ Some NoMemory → ⊥
no_memory ws e = by (nat_lt 0 (length ws) && nat_le (length ws) 16) e
  where
    by : (b : Bool) → (if b then range_fault 1 ws else Some (Count (length ws))) ≡ Some NoMemory → ⊥
    by true e = no_range 1 ws e
    by false e = cc

pub refuses : (ws : List ℕ) (fault : WeightFault) → weight_fault ws ≡ Some fault → Refuses ws fault
refuses ws NoMemory e = absurd (no_memory ws e)
refuses ws (Count n) e = e
refuses ws (Range s w) e = e
