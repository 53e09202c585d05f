-- What a disk means.
use Rattle.std.specs.Prelude.{ℕ, List}
use Rattle.e3_disk.specs.Meters.{Meters}

-- What a disk means to those who use it. Each disk gives its own, and all that is said of a disk is said by this one argument.
pub record Meaning (D : Type 0) : Type 1 where
  -- what a read gives
  pub content : D → List ℕ
  -- the images that a crash now may leave
  pub image : D → List ℕ → Type 0
  -- the capacity, the power, the calls left of the arm, and the counts of faults and drills
  pub meters : D → Meters
