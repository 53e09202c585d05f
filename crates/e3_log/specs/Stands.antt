-- What a log stands for.
use Rattle.std.specs.Prelude.{◌≡◌, ◌⊎◌, ℕ, ◌+◌, Bool, true, false, Result, OnOk, OnErr, List, [], ◌∷◌, ◌++◌, length}
use Rattle.std.specs.Int.{w32, to_be_bytes}
use Rattle.e3_disk.specs.Images.{Only, Torn, overwritten}
use Rattle.e3_disk.specs.Meaning.{Meaning}
use Rattle.e3_disk.specs.Meters.{Meters, HasFailed, Keeps}
use Rattle.e3_log.specs.declared.region.Front.{Front}
use Rattle.e3_log.specs.declared.region.Region.{Region}
use Rattle.e3_log.specs.Frames.{frames}
use Rattle.e3_log.specs.Fronts.{bodies_in, is_open}
use Rattle.e3_log.specs.Opening.{StaysOn, TakesCalls}
use Rattle.e3_log.specs.Reading.{HoldsAs, ReadsAs}
use Rattle.e3_log.specs.Regions.{start}

-- A log: its disk, the region that counts and its generation, the place of the closed gate at which the next frame begins,
-- whether the gate of the other region is open, and whether the log keeps a failure of one of its own calls.
pub record LogState (D : Type 0) : Type 0 where
  pub disk : D
  pub region : Region
  pub generation : ℕ
  pub end : ℕ
  pub spare_open : Bool
  pub failed : Bool

-- A log stands for these bodies: it keeps no failure, its disk holds frames that hand them out, and the disk as it reads is
-- all that a crash may leave.
pub record Stands {D : Type 0} (meaning : Meaning D) (bodies : List (List ℕ)) (log : LogState D) : Type 0 where
  pub sound : log.failed ≡ false
  pub raw : List (List ℕ)
  pub spare : Front
  pub holds : HoldsAs (meaning.meters log.disk).capacity log.region log.generation raw spare (meaning.content log.disk)
  pub bodies_are : bodies ≡ bodies_in raw
  pub end_is : log.end ≡ start (meaning.meters log.disk).capacity log.region + length (frames raw)
  pub spare_is : log.spare_open ≡ is_open spare
  pub only : Only (meaning.content log.disk) (meaning.image log.disk)

-- Each image reads as bodies of the first generation, or as others of the second one.
abbrev pub EachReadsAs : ℕ → ℕ → List (List ℕ) → ℕ → List (List ℕ) → (List ℕ → Type 0) → Type 0
EachReadsAs capacity generation bodies next others image =
    (c : List ℕ) → image c → ReadsAs capacity generation bodies c ⊎ ReadsAs capacity next others c

-- What is written behind the closed gate: the length, the body, and the closed gate of the next frame.
abbrev pub staged : List ℕ → List ℕ
staged body = to_be_bytes w32 (length body) ++ body ++ 0 ∷ []

-- What a crash may leave while a frame is added at a closed gate of these bytes: they are torn where the frame is written, or
-- the frame stands there and its gate is torn.
abbrev pub Leaves : List ℕ → ℕ → List ℕ → List ℕ → Type 0
Leaves old end bytes image = Torn (end + 1) (length bytes) old image ⊎ Torn end 1 (overwritten old (end + 1) bytes) image

-- What writes and syncs, so many of them, do to the numbers of a disk: with Ok each of them takes a call from the arm.
pub record Spends {T E : Type 0} (count : ℕ) (old new : Meters) (result : Result T E) : Type 0 where
  pub keeps : Keeps old new
  pub failed : old.powered ≡ true → OnErr result (HasFailed old.faults new.faults)
  pub ok : OnOk result (StaysOn old new × TakesCalls count old new)
