-- Which requests are granted behind a step.
use Rattle.std.specs.Prelude.{◌≡◌, ◌++◌, ◌∷◌, [], ℕ, Bool, true, false, List, Option, filter, fold, length, take}
use Rattle.std.specs.List.{list_any, flat_map}
use Rattle.e3_types.specs.declared.entries.Told.{Told}
use Rattle.e3_types.specs.declared.messages.Packet.{Packet}
use Rattle.e3_types.specs.declared.records.Record.{Record}
use Rattle.e3_types.specs.Locks.{front}
use Rattle.e3_types.specs.Same.{same_numbers}
use Rattle.e3_world.specs.declared.lives.Asked.{Asked}
use Rattle.e3_world.specs.declared.lives.At.{At}
use Rattle.e3_world.specs.declared.lives.Life.{Life}
use Rattle.e3_world.specs.declared.lives.Made.{Made}
use Rattle.e3_world.specs.declared.lives.SiteStep.{SiteStep}
use Rattle.e3_world.specs.Making.{add_name}
use Rattle.e3_places.specs.declared.places.Claims.{Claims}
use Rattle.e3_places.specs.declared.places.Place.{Place}
use Rattle.e3_places.specs.declared.places.Places.{Places}
use Rattle.e3_places.specs.declared.places.Standing.{Standing}
use Rattle.e3_places.specs.Standing.{held_with, wanted_with, waits_with, place_of, place_by}
use Rattle.e3_places.specs.Touching.{names_touched}
use Rattle.e3_places.specs.Keeping.{place_at}

-- the requests on a name that can be granted: the longest front of those that wait that the holders allow
abbrev pub given : List ℕ → Claims → List Asked
given name claims = take (length (front (held_with name [] claims) (wanted_with [] claims))) (waits_with [] claims)

-- those behind a step
abbrev pub given_behind : List (List ℕ × Place) → Option Standing → List Record → List Told → List Packet → List ℕ → List Asked
given_behind names new rs events outs name = given name (place_by name (place_at names name) new rs events outs).claims

-- there is one
abbrev pub is_restless : List (List ℕ × Place) → Option Standing → List Record → List Told → List Packet → List ℕ → Bool
is_restless names new rs events outs name = by (given_behind names new rs events outs name)
  where
    by : List Asked → Bool
    by [] = false
    by (a ∷ more) = true

-- no request can be granted but on these names. Where each step grants what its decisions free, there are no such names
abbrev pub RestlessStand : ℕ → List (List ℕ) → Life → Type 0
RestlessStand site restless life = (name : List ℕ) → list_any (same_numbers name) restless ≡ false → given name (place_of name site life).claims ≡ []

-- the names on which a step may grant requests: those that it touches, and those on which requests could be granted before
abbrev pub stirred : Places → List (List ℕ) → Option Standing → List Record → List Told → List Packet → List (List ℕ)
stirred places restless new rs events outs = names_touched places.txns.entries new rs events outs ++ restless

-- the names on which requests can be granted behind a step
abbrev pub restless_by : Places → List (List ℕ) → Option Standing → List Record → List Told → List Packet → List (List ℕ)
restless_by places restless new rs events outs =
    filter (is_restless places.names.entries new rs events outs) (stirred places restless new rs events outs)

-- the names in byte order, each once
abbrev pub in_order : List (List ℕ) → List (List ℕ)
in_order names = fold add_name [] names

-- the requests that can be granted behind a step, name by name
abbrev pub granted_by : Places → List (List ℕ) → Option Standing → List Record → List Told → List Packet → List Asked
granted_by places restless new rs events outs =
    flat_map (given_behind places.names.entries new rs events outs) (in_order (stirred places restless new rs events outs))

-- the step as far as it is made
abbrev pub step_so_far : At → Made → SiteStep
step_so_far a made = record { input = a.input; records = made.records; outs = made.outs; told = made.told }
