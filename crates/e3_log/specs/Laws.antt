-- What a crash may leave in each call of a log, by the bytes that its disk held before.
use Rattle.std.specs.Prelude.{◌≡◌, ◌≢◌, ◌⊎◌, ◌+◌, ◌<◌, ◌≤◌, ◌^◌, ◌++◌, ◌∷◌, [], ℕ, true, List, length, slice_index}
use Rattle.e3_disk.specs.Images.{Torn, overwritten}
use Rattle.e3_log.specs.declared.region.Front.{Front}
use Rattle.e3_log.specs.declared.region.Front.TheVariants.{Shut}
use Rattle.e3_log.specs.declared.region.Region.{Region}
use Rattle.e3_log.specs.Frames.{OPEN, frames}
use Rattle.e3_log.specs.Fronts.{TURN, turned, bodies_in, front_of, is_open}
use Rattle.e3_log.specs.Reading.{HoldsAs, ReadsAs}
use Rattle.e3_log.specs.Regions.{start, limit, other}
use Rattle.e3_log.specs.Stands.{Leaves, staged}

-- the bytes of a frame that is added behind these
abbrev pub added : List ℕ → ℕ → List ℕ → List ℕ
added content place body = overwritten (overwritten content (place + 1) (staged body)) place (OPEN ∷ [])

-- An append: whatever a crash leaves reads as the bodies before, or as those with the new one; at its end the frame is there.
pub record AppendIsWhole (capacity : ℕ) (region : Region) (generation : ℕ) (raw : List (List ℕ)) (spare : Front) (content : List ℕ) (place : ℕ) (body : List ℕ) : Type 0 where
  pub leaves : (c : List ℕ) → Leaves content place (staged body) c →
      ReadsAs capacity generation (bodies_in raw) c ⊎ ReadsAs capacity generation (bodies_in raw ++ body ∷ []) c
  pub done : HoldsAs capacity region generation (raw ++ body ∷ []) spare (added content place body)
  pub bodies : bodies_in (raw ++ body ∷ []) ≡ bodies_in raw ++ body ∷ []

abbrev pub AppendsAreWhole : Type 0
AppendsAreWhole = (capacity : ℕ) (region : Region) (generation : ℕ) (raw : List (List ℕ)) (spare : Front) (content : List ℕ) (place : ℕ) (body : List ℕ) →
    HoldsAs capacity region generation raw spare content → place ≡ start capacity region + length (frames raw) →
    length body < 2 ^ 32 → slice_index body 0 ≢ TURN → place + 6 + length body ≤ limit capacity region →
    AppendIsWhole capacity region generation raw spare content place body

-- A turn to the other region, which is closed: whatever a crash leaves reads as the bodies before, or as this body alone in the
-- next generation; at its end the other region counts, and the one that did is left as it was.
pub record TurnIsWhole (capacity : ℕ) (region : Region) (generation : ℕ) (raw : List (List ℕ)) (content : List ℕ) (place : ℕ) (body : List ℕ) : Type 0 where
  pub leaves : (c : List ℕ) → Leaves content place (staged (turned (generation + 1) body)) c →
      ReadsAs capacity generation (bodies_in raw) c ⊎ ReadsAs capacity (generation + 1) (body ∷ []) c
  pub done : HoldsAs capacity (other region) (generation + 1) (turned (generation + 1) body ∷ []) (front_of raw) (added content place (turned (generation + 1) body))
  pub bodies : bodies_in (turned (generation + 1) body ∷ []) ≡ body ∷ []

abbrev pub TurnsAreWhole : Type 0
TurnsAreWhole = (capacity : ℕ) (region : Region) (generation : ℕ) (raw : List (List ℕ)) (content : List ℕ) (place : ℕ) (body : List ℕ) →
    HoldsAs capacity region generation raw Shut content → place ≡ start capacity (other region) →
    generation + 1 < 2 ^ 32 → length body + 5 < 2 ^ 32 → place + 11 + length body ≤ limit capacity (other region) →
    TurnIsWhole capacity region generation raw content place body

-- The closing of the other region, which is open: whatever a crash leaves reads as before; at its end that region is closed.
pub record ClearIsSilent (capacity : ℕ) (region : Region) (generation : ℕ) (raw : List (List ℕ)) (content : List ℕ) (place : ℕ) : Type 0 where
  pub leaves : (c : List ℕ) → Torn place 1 content c → ReadsAs capacity generation (bodies_in raw) c
  pub done : HoldsAs capacity region generation raw Shut (overwritten content place (0 ∷ []))

abbrev pub ClearsAreSilent : Type 0
ClearsAreSilent = (capacity : ℕ) (region : Region) (generation : ℕ) (raw : List (List ℕ)) (spare : Front) (content : List ℕ) (place : ℕ) →
    HoldsAs capacity region generation raw spare content → is_open spare ≡ true → place ≡ start capacity (other region) → place + 1 ≤ limit capacity (other region) →
    ClearIsSilent capacity region generation raw content place
