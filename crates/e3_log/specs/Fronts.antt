-- How a region begins, and which of the two counts.
use Rattle.std.specs.Prelude.{◌≡◌, ◌==◌, ◌&&◌, ◌++◌, ◌∷◌, [], if◌then◌else◌, ℕ, nat_lt, nat_le, Bool, true, false, List, Option, Some, None, length, take, drop, slice_index}
use Rattle.std.specs.Int.{w32, to_be_bytes, from_be_bytes}
use Rattle.e3_log.specs.declared.region.Front.{Front}
use Rattle.e3_log.specs.declared.region.Front.TheVariants.{Shut, Whole, Broken}
use Rattle.e3_log.specs.declared.region.Found.{Found}
use Rattle.e3_log.specs.declared.region.Found.TheVariants.{Active, Damaged}
use Rattle.e3_log.specs.declared.region.Region.{Region}
use Rattle.e3_log.specs.declared.region.Region.TheVariants.{First, Second}
use Rattle.e3_log.specs.Frames.{frame, IsClosed, Fits, NoFrame}

-- The byte with which the first body of a region begins that was turned to.
abbrev pub TURN : ℕ
TURN = 7

-- the first body of a region that was turned to in this generation
abbrev pub turned : ℕ → List ℕ → List ℕ
turned generation body = TURN ∷ (to_be_bytes w32 generation ++ body)

-- the generation that a first body tells, if it has the byte and four more
abbrev pub told_by : List ℕ → Option ℕ
told_by body = if nat_le 5 (length body) && slice_index body 0 == TURN then Some (from_be_bytes w32 (take 4 (drop 1 body))) else None

-- a first body is handed out without these five bytes, where it has them
abbrev pub handed : List ℕ → List ℕ
handed body = by (told_by body)
  where
    by : Option ℕ → List ℕ
    by (Some generation) = drop 5 body
    by None = body

-- the bodies that frames of a region hand out
abbrev pub bodies_in : List (List ℕ) → List (List ℕ)
bodies_in [] = []
bodies_in (first ∷ more) = handed first ∷ more

-- a whole frame stands first, and tells this generation, or none
pub record WholeFront (bytes : List ℕ) (told : Option ℕ) : Type 0 where
  pub body : List ℕ
  pub rest : List ℕ
  pub parts : bytes ≡ frame body ++ rest
  pub fits : Fits body
  pub tells : told ≡ told_by body

-- How the bytes of a region begin: with a closed gate, with a whole frame, or with neither.
abbrev pub FrontIs : List ℕ → Front → Type 0
FrontIs bytes Shut = IsClosed bytes
FrontIs bytes (Whole told) = WholeFront bytes told
FrontIs bytes Broken = NoFrame bytes

-- how frames begin
abbrev pub front_of : List (List ℕ) → Front
front_of [] = Shut
front_of (body ∷ bodies) = Whole (told_by body)

-- a region that was not turned to has the generation 0
abbrev pub generation_of : Option ℕ → ℕ
generation_of (Some generation) = generation
generation_of None = 0

-- of two open regions the one of the greater generation counts
abbrev pub newer_of : ℕ → ℕ → Found
newer_of first second = if first == second then Damaged Second else if nat_lt second first then Active First first else Active Second second

-- The region that counts, with its generation: the open one, the one of the greater generation where both are open, and the
-- first where none is. Neither counts where a region is open and no whole frame stands first in it, or where the second one
-- is open and tells no generation, or that of the first.
abbrev pub active_of : Front → Front → Found
active_of Broken second = Damaged First
active_of Shut Shut = Active First 0
active_of Shut (Whole (Some generation)) = Active Second generation
active_of Shut (Whole None) = Damaged Second
active_of Shut Broken = Damaged Second
active_of (Whole told) Shut = Active First (generation_of told)
active_of (Whole told) (Whole (Some generation)) = newer_of (generation_of told) generation
active_of (Whole told) (Whole None) = Damaged Second
active_of (Whole told) Broken = Damaged Second

-- the same, by how one region begins and how the other does
abbrev pub found_of : Region → Front → Front → Found
found_of First here spare = active_of here spare
found_of Second here spare = active_of spare here

-- how this region begins, of the two
abbrev pub own_of : Region → Front → Front → Front
own_of First first second = first
own_of Second first second = second

-- the gate of a region is open
abbrev pub is_open : Front → Bool
is_open Shut = false
is_open (Whole told) = true
is_open Broken = true

-- a whole first frame tells a generation
abbrev pub is_told : Front → Bool
is_told (Whole (Some generation)) = true
is_told _ = false
