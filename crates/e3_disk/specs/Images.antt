-- What a disk holds, and what a crash may leave of it.
use Rattle.std.specs.Prelude.{◌≡◌, ◌⊎◌, ℕ, ◌+◌, ◌/◌, ◌<◌, ◌≤◌, max, List, [], ◌∷◌, ◌++◌, length, take, drop, replicate, slice_index}
use Rattle.e3_disk.specs.Meaning.{Meaning}

-- These bytes with others written over them from a place on, past their end too.
abbrev pub overwritten : List ℕ → ℕ → List ℕ → List ℕ
overwritten old place bytes = take place old ++ bytes ++ drop (place + length bytes) old

-- The new content is the old one with these bytes at this place.
abbrev pub Holds : List ℕ → ℕ → List ℕ → List ℕ → Type 0
Holds old place bytes new = new ≡ overwritten old place bytes

-- What a crash may leave of the old bytes while so many bytes are written at this place: any bytes in that range and
-- past the old end, the old bytes elsewhere, and any length from the old one to the end of the range.
pub record Torn (place count : ℕ) (old new : List ℕ) : Type 0 where
  pub before : (i : ℕ) → i < length old → i < place → slice_index new i ≡ slice_index old i
  pub behind : (i : ℕ) → i < length old → place + count ≤ i → slice_index new i ≡ slice_index old i
  pub no_shorter : length old ≤ length new
  pub no_longer : length new ≤ max (length old) (place + count)

-- Each new image is an old one of which such a write was torn.
abbrev pub Tears : ℕ → ℕ → (List ℕ → Type 0) → (List ℕ → Type 0) → Type 0
Tears place count old new = (c : List ℕ) → new c → (d : List ℕ) × old d × Torn place count d c

-- Each new image is an old one.
abbrev pub Within : (List ℕ → Type 0) → (List ℕ → Type 0) → Type 0
Within old new = (c : List ℕ) → new c → old c

-- The new images are the old ones.
abbrev pub SameImages : (List ℕ → Type 0) → (List ℕ → Type 0) → Type 0
SameImages old new = Within old new × Within new old

-- These bytes are the only image.
abbrev pub Only : List ℕ → (List ℕ → Type 0) → Type 0
Only content images = (c : List ℕ) → images c → c ≡ content

-- A call changed nothing of a disk: neither its content nor its images nor its numbers.
abbrev pub Untouched : {D : Type 0} → Meaning D → D → D → Type 0
Untouched meaning old new =
    (meaning.content new ≡ meaning.content old) × (meaning.meters new ≡ meaning.meters old) × SameImages (meaning.image old) (meaning.image new)

-- what a blank disk of this capacity holds: 00 in its first half, rounded down, and one more
abbrev pub blank_bytes : ℕ → List ℕ
blank_bytes capacity = replicate (capacity / 2 + 1) 0

-- A disk is blank: it holds that, and it is its only image.
abbrev pub IsBlank : {D : Type 0} → Meaning D → D → Type 0
IsBlank meaning disk =
    (meaning.content disk ≡ blank_bytes (meaning.meters disk).capacity) × Only (meaning.content disk) (meaning.image disk)

-- What a crash may leave after these writes, each given by its place and its length, with no sync between them.
abbrev pub TornBy : List (ℕ × ℕ) → List ℕ → List ℕ → Type 0
TornBy [] old new = new ≡ old
TornBy (w ∷ ws) old new = (d : List ℕ) × Torn w.0 w.1 old d × TornBy ws d new

-- Each new image is an old one of which these writes were torn.
abbrev pub TearsBy : List (ℕ × ℕ) → (List ℕ → Type 0) → (List ℕ → Type 0) → Type 0
TearsBy ws old new = (c : List ℕ) → new c → (d : List ℕ) × old d × TornBy ws d c

-- A place lies outside each of these ranges.
abbrev pub Outside : ℕ → List (ℕ × ℕ) → Type 0
Outside i [] = Unit {0}
Outside i (w ∷ ws) = ((i < w.0) ⊎ (w.0 + w.1 ≤ i)) × Outside i ws

-- The greatest of a length and the ends of these ranges.
abbrev pub greatest : ℕ → List (ℕ × ℕ) → ℕ
greatest n [] = n
greatest n (w ∷ ws) = greatest (max n (w.0 + w.1)) ws
