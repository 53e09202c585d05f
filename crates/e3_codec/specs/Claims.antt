-- What the spellings of records keep.
use Rattle.std.specs.Prelude.{◌≡◌, ◌++◌, ℕ, List}
use Rattle.e3_types.specs.declared.records.Record.{Record}
use Rattle.e3_types.specs.Spelling.{spell_record, spelling}
use Rattle.e3_codec.specs.Fields.{CanBeTold, AllCanBeTold, AllCanBeReadBack}
use Rattle.e3_codec.specs.Places.{FirstBad}

-- Of two different records of a site neither's spelling is a prefix of the other's, also where a transaction is none: where
-- two spellings with something behind each are the same bytes, the records are one, and so is what is behind them.
abbrev pub PrefixFree : Type 0
PrefixFree = (site : ℕ) (x y : Record) (a b : List ℕ) → CanBeTold site x → CanBeTold site y → spell_record x ++ a ≡ spell_record y ++ b → (x ≡ y) × (a ≡ b)

-- No two lists of records of a site have one spelling, also where a transaction is none.
abbrev pub OneSpelling : Type 0
OneSpelling = (site : ℕ) (xs ys : List Record) → AllCanBeTold site xs → AllCanBeTold site ys → spelling xs ≡ spelling ys → xs ≡ ys

-- The spelling of a list has no place where no record begins.
abbrev pub SpellingsAreRead : Type 0
SpellingsAreRead = (site : ℕ) (xs : List Record) (at : ℕ) → AllCanBeReadBack site xs → FirstBad site (spelling xs) at → ⊥

-- There is one first place at most where no record begins.
abbrev pub OnePlace : Type 0
OnePlace = (site : ℕ) (bytes : List ℕ) (at place : ℕ) → FirstBad site bytes at → FirstBad site bytes place → at ≡ place
