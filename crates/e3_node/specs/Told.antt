-- What a rise keeps is told by what it read.
use Rattle.std.specs.Prelude.{◌≡◌, ◌≢◌, ◌↔◌, ℕ, Bool, true, List, None}
use Rattle.e3_world.specs.Brief.{brief}
use Rattle.e3_node.specs.Bodies.{log_with}
use Rattle.e3_node.specs.site_log.Bodies.{ReadsAs, joined}
use Rattle.e3_types.specs.declared.entries.Entry.{Entry}
use Rattle.e3_types.specs.declared.scenarios.Scenario.{Scenario}
use Rattle.e3_world.specs.Given.{IsGiven}
use Rattle.e3_world.specs.Legal.{IsLegal}
use Rattle.e3_world.specs.Moves.{log_of, open_tail}

-- in a legal history the log of a site with its open tail has another brief than the log
abbrev pub TailsAreTold : Type 0
TailsAreTold =
    (sc : Scenario) (h : List Entry) (site : ℕ) → IsGiven sc → IsLegal sc h → open_tail sc h site ≢ None →
    brief (log_with sc h site true) ≢ brief (log_of sc h site)

-- So bytes that read as the log, with the tail where it is kept, read as records with the brief of the log with the tail
-- exactly where it is kept.
abbrev pub ReadingsAreTold : Type 0
ReadingsAreTold =
    (sc : Scenario) (h : List Entry) (site capacity most : ℕ) (kept : Bool) (bytes : List ℕ) → IsGiven sc → IsLegal sc h → open_tail sc h site ≢ None →
    (reads : ReadsAs site capacity most (log_with sc h site kept) bytes) → (kept ≡ true) ↔ (brief (joined reads.lists) ≡ brief (log_with sc h site true))
