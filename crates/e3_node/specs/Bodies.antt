-- What the disk of a site stands for in a history.
use Rattle.std.specs.Prelude.{◌≡◌, ◌≢◌, ◌<◌, ◌^◌, ◌++◌, ◌↔◌, ℕ, Bool, true, nat_lt, List, Option, None, length}
use Rattle.e3_disk.specs.Meaning.{Meaning}
use Rattle.e3_node.specs.site_log.Bodies.{ReadsAs, joined}
use Rattle.e3_types.specs.declared.entries.Entry.{Entry}
use Rattle.e3_types.specs.declared.records.Record.{Record}
use Rattle.e3_types.specs.declared.scenarios.Scenario.{Scenario}
use Rattle.e3_world.specs.Brief.{brief}
use Rattle.e3_world.specs.Moves.{Move, Tail, kept_moves, log_by, moves_of, open_tail, own_entries}

-- how many entries a site has in a history: its log was turned no more often
abbrev pub entries_at : List Entry → ℕ → ℕ
entries_at history site = length (own_entries site history)

-- the moves of a site with its open tail where a rise keeps it
abbrev pub moves_with : Scenario → List Entry → ℕ → Bool → List Move
moves_with sc history site kept = moves_of sc history site ++ kept_moves site kept (open_tail sc history site)

-- and their log
abbrev pub log_with : Scenario → List Entry → ℕ → Bool → List Record
log_with sc history site kept = log_by (moves_with sc history site kept)

-- Bytes read as a log with the brief of these moves' log or, where a tail is open, with that of it and the tail.
abbrev pub ReadsWith : (site capacity most : ℕ) → List Move → Option Tail → List ℕ → Type 0
ReadsWith site capacity most moves tail bytes = (kept : Bool) × ReadsAs site capacity most (log_by (moves ++ kept_moves site kept tail)) bytes

-- Each image reads as a log with the brief of the site's or, where a tail is open, of the log followed by the tail; and it was
-- turned no more often than the site has entries.
abbrev pub DiskHolds : Scenario → List Entry → ℕ → ℕ → (List ℕ → Type 0) → Type 0
DiskHolds sc history site capacity image =
    (bytes : List ℕ) → image bytes → ReadsWith site capacity (entries_at history site) (moves_of sc history site) (open_tail sc history site) bytes

-- Bytes read so, and a number tells whether the tail is in them: more records than that are the log with the tail.
pub record ReadsTold (site capacity most logged : ℕ) (moves : List Move) (tail : Option Tail) (bytes : List ℕ) : Type 0 where
  pub kept : Bool
  pub reads : ReadsAs site capacity most (log_by (moves ++ kept_moves site kept tail)) bytes
  pub told : length (joined reads.lists) < 2 ^ 64 → kept ≡ nat_lt logged (length (joined reads.lists))
  pub some : kept ≡ true → tail ≢ None

-- so does each image
abbrev pub DiskTells : Scenario → List Entry → ℕ → ℕ → ℕ → (List ℕ → Type 0) → Type 0
DiskTells sc history site capacity logged image =
    (bytes : List ℕ) → image bytes → ReadsTold site capacity (entries_at history site) logged (moves_of sc history site) (open_tail sc history site) bytes

-- One of these images reads as a log with the brief of the site's or, where the tail is kept, of the log followed by the tail.
pub record IsRead (sc : Scenario) (history : List Entry) (site capacity : ℕ) (kept : Bool) (image : List ℕ → Type 0) : Type 0 where
  pub bytes : List ℕ
  pub at : image bytes
  pub reads : ReadsAs site capacity (entries_at history site) (log_with sc history site kept) bytes

-- A tail is kept exactly where one is open and the records read have the brief of the log followed by it.
abbrev pub IsKeptExactly : Scenario → List Entry → ℕ → Bool → List Record → Type 0
IsKeptExactly sc history site kept records =
    (kept ≡ true) ↔ ((open_tail sc history site ≢ None) × (brief records ≡ brief (log_with sc history site true)))

-- A disk stands for a site of a history. Bytes read as one list of records at most, of one generation, so it reads as such a log
-- and as no other.
pub record DiskStands {D : Type 0} (meaning : Meaning D) (sc : Scenario) (history : List Entry) (site : ℕ) (disk : D) : Type 0 where
  pub holds : DiskHolds sc history site (meaning.meters disk).capacity (meaning.image disk)
