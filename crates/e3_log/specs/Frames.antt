-- Which frames a list of bytes reads as.
use Rattle.std.specs.Prelude.{◌≡◌, ◌≢◌, ℕ, ◌<◌, ◌^◌, List, [], ◌∷◌, ◌++◌, length}
use Rattle.std.specs.Int.{w32, to_be_bytes}
use Rattle.std.specs.List.{AllByRecursion}

-- The gate of a frame that counts, the byte A5. Every other byte is a closed gate.
abbrev pub OPEN : ℕ
OPEN = 165

-- A frame: an open gate, the length of the body in four bytes, high byte first, and the body.
abbrev pub frame : List ℕ → List ℕ
frame body = OPEN ∷ (to_be_bytes w32 (length body) ++ body)

-- Frames, one after the other.
abbrev pub frames : List (List ℕ) → List ℕ
frames [] = []
frames (body ∷ bodies) = frame body ++ frames bodies

-- A closed gate stands first.
abbrev pub IsClosed : List ℕ → Type 0
IsClosed [] = ⊥
IsClosed (gate ∷ rest) = gate ≢ OPEN

-- The length of a body fits into four bytes.
abbrev pub Fits : List ℕ → Type 0
Fits body = length body < 2 ^ 32

-- Bytes read as these bodies: they are their frames, and then a closed gate. What stands behind it doesn't count.
pub record Reads (bodies : List (List ℕ)) (bytes : List ℕ) : Type 0 where
  pub rest : List ℕ
  pub parts : bytes ≡ frames bodies ++ rest
  pub closed : IsClosed rest
  pub fits : AllByRecursion Fits bodies

-- Neither a frame nor a closed gate begins here.
pub record NoFrame (bytes : List ℕ) : Type 0 where
  pub shut : IsClosed bytes → ⊥
  pub none : (body rest : List ℕ) → Fits body → bytes ≡ frame body ++ rest → ⊥

-- Bytes are broken at a place: whole frames end there, and then neither a frame nor a closed gate begins.
pub record BrokenAt (bytes : List ℕ) (at : ℕ) : Type 0 where
  pub bodies : List (List ℕ)
  pub rest : List ℕ
  pub parts : bytes ≡ frames bodies ++ rest
  pub fits : AllByRecursion Fits bodies
  pub place : at ≡ length (frames bodies)
  pub none : NoFrame rest
