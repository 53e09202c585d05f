-- Where bytes are no list of records.
use Rattle.std.specs.Prelude.{◌≡◌, ◌<◌, ◌++◌, ℕ, List, length}
use Rattle.e3_types.specs.declared.records.Record.{Record}
use Rattle.e3_types.specs.Spelling.{spell_record, spelling}
use Rattle.e3_codec.specs.Fields.{CanBeReadBack, AllCanBeReadBack}

-- no record of the site begins here
abbrev pub NoRecord : ℕ → List ℕ → Type 0
NoRecord site bytes = (r : Record) (after : List ℕ) → CanBeReadBack site r → bytes ≡ spell_record r ++ after → ⊥

-- behind so many bytes of whole records no record begins, though bytes are left
pub record FirstBad (site : ℕ) (bytes : List ℕ) (at : ℕ) : Type 0 where
  pub front : List Record
  pub rest : List ℕ
  pub fits : AllCanBeReadBack site front
  pub parts : bytes ≡ spelling front ++ rest
  pub place : at ≡ length (spelling front)
  pub some : 0 < length rest
  pub none : NoRecord site rest
