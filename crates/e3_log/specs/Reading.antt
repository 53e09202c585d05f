-- Which bodies the bytes of a disk read as, and where they are damaged.
use Rattle.std.specs.Prelude.{◌≡◌, ◌⊎◌, ℕ, ◌+◌, ◌<◌, ◌≤◌, List, length}
use Rattle.e3_log.specs.declared.region.Front.{Front}
use Rattle.e3_log.specs.declared.region.Found.TheVariants.{Active, Damaged}
use Rattle.e3_log.specs.declared.region.Region.{Region}
use Rattle.e3_log.specs.declared.region.Region.TheVariants.{First, Second}
use Rattle.e3_log.specs.Frames.{Reads, BrokenAt}
use Rattle.e3_log.specs.Fronts.{FrontIs, front_of, found_of, active_of, bodies_in}
use Rattle.e3_log.specs.Regions.{half, start, other, piece}

-- The bytes of a disk hold these frames in this region, which counts with this generation; the other one begins so.
pub record HoldsAs (capacity : ℕ) (region : Region) (generation : ℕ) (raw : List (List ℕ)) (spare : Front) (bytes : List ℕ) : Type 0 where
  pub whole : half capacity < length bytes
  pub reads : Reads raw (piece capacity region bytes)
  pub spare_is : FrontIs (piece capacity (other region) bytes) spare
  pub active : found_of region (front_of raw) spare ≡ Active region generation

-- The bytes of a disk of this capacity read as these bodies, of this generation: they hold frames that hand them out.
pub record ReadsAs (capacity generation : ℕ) (bodies : List (List ℕ)) (bytes : List ℕ) : Type 0 where
  pub region : Region
  pub raw : List (List ℕ)
  pub spare : Front
  pub holds : HoldsAs capacity region generation raw spare bytes
  pub bodies_are : bodies ≡ bodies_in raw

-- The bytes don't reach the first gate of the second region.
pub record IsShort (capacity : ℕ) (bytes : List ℕ) (at : ℕ) : Type 0 where
  pub short : length bytes ≤ half capacity
  pub place : at ≡ length bytes

-- how both regions begin
pub record HasFronts (capacity : ℕ) (bytes : List ℕ) (first second : Front) : Type 0 where
  pub whole : half capacity < length bytes
  pub first_is : FrontIs (piece capacity First bytes) first
  pub second_is : FrontIs (piece capacity Second bytes) second

-- Neither region counts, because this one begins as it does.
pub record HasBadFront (capacity : ℕ) (bytes : List ℕ) (at : ℕ) : Type 0 where
  pub first : Front
  pub second : Front
  pub fronts : HasFronts capacity bytes first second
  pub region : Region
  pub found : active_of first second ≡ Damaged region
  pub place : at ≡ start capacity region

-- In the region that counts, neither a frame nor a closed gate begins at a place.
pub record HasBadFrame (capacity : ℕ) (bytes : List ℕ) (at : ℕ) : Type 0 where
  pub first : Front
  pub second : Front
  pub fronts : HasFronts capacity bytes first second
  pub region : Region
  pub generation : ℕ
  pub found : active_of first second ≡ Active region generation
  pub within : ℕ
  pub broken : BrokenAt (piece capacity region bytes) within
  pub place : at ≡ start capacity region + within

-- The bytes of a disk of this capacity are damaged at a place: the first of these, in this order.
abbrev pub DamagedAt : ℕ → List ℕ → ℕ → Type 0
DamagedAt capacity bytes at = IsShort capacity bytes at ⊎ HasBadFront capacity bytes at ⊎ HasBadFrame capacity bytes at
