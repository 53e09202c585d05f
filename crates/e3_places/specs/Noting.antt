-- What one more record of a log makes of the tables, name by name and transaction by transaction.
use Rattle.std.specs.Prelude.{◌++◌, ◌∷◌, [], if◌then◌else◌, ℕ, List, filter}
use Rattle.e3_types.specs.declared.records.Record.{Record}
use Rattle.e3_world.specs.declared.lives.Asked.{Asked}
use Rattle.e3_places.specs.declared.places.Claims.{Claims}
use Rattle.e3_places.specs.declared.places.Place.{Place}
use Rattle.e3_places.specs.Standing.{is_left, is_on, row_with}

-- claims with one operation of a vote more
abbrev pub cast_more : Claims → Asked → Claims
cast_more was a = record was { votes = was.votes ++ a ∷ [] }

-- what stands on a name with one operation of a vote more, where it is on the name
abbrev pub with_vote : List ℕ → Place → Asked → Place
with_vote name was a = if is_on name a then record was { claims = cast_more was.claims a } else was

-- claims behind a decision: the votes of others
abbrev pub left_by : Record → Claims → Claims
left_by r was = record was { votes = filter (is_left (r ∷ [])) was.votes }

-- what stands on a name behind a decision
abbrev pub ended : Record → Place → Place
ended r was = record { claims = left_by r was.claims; row = row_with was.claims.votes was.row r }
