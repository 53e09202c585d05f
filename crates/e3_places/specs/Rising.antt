-- The tables of a log, when a site rises with it.
use Rattle.std.specs.Prelude.{◌≡◌, [], if◌then◌else◌, ℕ, List}
use Rattle.e3_types.specs.declared.records.Record.{Record}
use Rattle.e3_types.specs.declared.transactions.Answer.TheVariants.{Value}
use Rattle.e3_types.specs.declared.transactions.Row.{Row}
use Rattle.e3_types.specs.Same.{same_numbers}
use Rattle.e3_world.specs.declared.lives.Life.{Life}
use Rattle.e3_world.specs.Logs.{row_value}
use Rattle.e3_places.specs.declared.places.Place.{Place}
use Rattle.e3_places.specs.Keeping.{no_claims, place_at}

-- the life of a site that rose with a log and made no step
abbrev pub risen : ℕ → List Record → Life
risen inc records = record { log = records; inc = inc; steps = [] }

-- what is on a name with one more row
abbrev pub first_row : List ℕ → Row → Place → Place
first_row name row was = if same_numbers name row.name then record { claims = no_claims; row = Value row.val } else was

-- each name has its first row among these, and nothing stands there
abbrev pub RowsStand : List (List ℕ × Place) → List Row → Type 0
RowsStand names rows = (name : List ℕ) → place_at names name ≡ record { claims = no_claims; row = row_value name rows }
