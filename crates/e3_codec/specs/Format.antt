-- A format: what a value's spelling is, and what its reader reads.
use Rattle.std.specs.Prelude.{◌≡◌, ℕ, ◌<◌, List, ◌++◌, Some, slice_index}
use Rattle.e3_codec.specs.Reader.{Reader}

-- the numbers are bytes
abbrev pub IsBytes : List ℕ → Type 0
IsBytes bytes = (i : ℕ) → slice_index bytes i < 256

-- what a reader took from the front of bytes, and what is left of them
pub record Takes (bytes text rest : List ℕ) : Type 0 where
  pub parts : bytes ≡ text ++ rest
  pub rest_fits : IsBytes rest

-- what is read is spelled so, and what is spelled so is read, whatever follows
pub record IsFormat {A : Type 0} (spell : A → List ℕ) (fits : A → Type 0) (read : Reader A) : Type 0 where
  pub takes : (bytes : List ℕ) (x : A) (rest : List ℕ) → IsBytes bytes → read bytes ≡ Some (x, rest) → Takes bytes (spell x) rest × fits x
  pub again : (x : A) (rest : List ℕ) → fits x → read (spell x ++ rest) ≡ Some (x, rest)
