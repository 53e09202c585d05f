-- Which records the frames of a site's disk have, and of which logs that is the disk.
use Rattle.std.specs.Prelude.{◌≡◌, ◌≤◌, ◌<◌, ◌^◌, ◌++◌, ◌∷◌, [], ℕ, Bool, true, false, nat_lt, min, List, length}
use Rattle.std.specs.List.{flat_map}
use Rattle.e3_codec.specs.Fields.{AllCanBeReadBack}
use Rattle.e3_disk.specs.Meaning.{Meaning}
use Rattle.e3_world.specs.Brief.{brief}
use Rattle.e3_world.specs.Orderly.{IsOrderly}
use Rattle.e3_log.specs.Reading.{ReadsAs as BytesReadAs}
use Rattle.e3_log.specs.Stands.{LogState, Stands}
use Rattle.e3_types.specs.Spelling.{spelling}
use Rattle.e3_types.specs.declared.entries.Why.{Why}
use Rattle.e3_types.specs.declared.entries.Why.TheVariants.{Fault}
use Rattle.e3_types.specs.declared.records.Record.{Record}

-- the body of the frame of these records: their spelling; no frame where there are none
abbrev pub body_of : List Record → List (List ℕ)
body_of [] = []
body_of (r ∷ rs) = spelling (r ∷ rs) ∷ []

-- the bodies of the frames of these lists of records
abbrev pub bodies_in : List (List Record) → List (List ℕ)
bodies_in lists = flat_map body_of lists

-- all records of these lists
abbrev pub joined : List (List Record) → List Record
joined lists = flat_map (λ rs. rs) lists

-- Frames with these lists of records hold a log of the site: their records are orderly and have the brief of the log, and each
-- can be read back there. They may be fewer than the log's, where it was turned to its brief.
pub record Hold (site : ℕ) (log : List Record) (lists : List (List Record)) : Type 0 where
  pub orderly : IsOrderly site (joined lists)
  pub same : brief (joined lists) ≡ brief log
  pub back : AllCanBeReadBack site (joined lists)

-- Bytes of a disk of this capacity read as frames that hold a log of the site, of a generation that is at most `most`.
pub record ReadsAs (site capacity most : ℕ) (log : List Record) (bytes : List ℕ) : Type 0 where
  pub lists : List (List Record)
  pub hold : Hold site log lists
  pub generation : ℕ
  pub few : generation ≤ most
  pub reads : BytesReadAs capacity generation (bodies_in lists) bytes

-- a count as 64 bits have it: it stands still at their end
abbrev pub counted : ℕ → ℕ
counted n = min n 18446744073709551615

-- A log on a disk holds a log of the site, in a generation that is at most `most`, and has so many records.
pub record IsLogged {D : Type 0} (meaning : Meaning D) (site most : ℕ) (log : List Record)
    (logged : ℕ) (on_disk : LogState D) : Type 0 where
  pub lists : List (List Record)
  pub hold : Hold site log lists
  pub stands : Stands meaning (bodies_in lists) on_disk
  pub few : on_disk.generation ≤ most
  pub logged_is : logged ≡ counted (length (joined lists))

-- the log, with more records where these are kept
abbrev pub with_kept : Bool → List Record → List Record → List Record
with_kept true log more = log ++ more
with_kept false log more = log

-- What bytes read as where records behind a log were not written, or may not have been, for this reason: as the log or, where
-- the disk failed, as the log with them. Which of both is told by a number: more records than that are the log with them.
pub record ReadsLeft (site capacity most : ℕ) (log more : List Record) (logged : ℕ) (why : Why) (bytes : List ℕ) : Type 0 where
  pub kept : Bool
  pub reads : ReadsAs site capacity most (with_kept kept log more) bytes
  pub told : length (joined reads.lists) < 2 ^ 64 → kept ≡ nat_lt logged (length (joined reads.lists))
  pub doubt : kept ≡ true → why ≡ Fault
