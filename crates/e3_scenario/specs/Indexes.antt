-- What the entries of a map say of a list, so that a name or a key is found without going through the list.
use Rattle.std.specs.Prelude.{◌≡◌, ℕ, Bool, not, List, Option, unwrap_or}
use Rattle.std.specs.declared.cmp.Ordering.{Ordering}
use Rattle.std.specs.Ordering.{ordering_then, nat_cmp}
use Rattle.std.specs.List.{list_any}
use Rattle.std.specs.Cmp.Lexicographic.{slice_cmp}
use Rattle.std.specs.Map.{lookup}
use Rattle.std.specs.BTreeMap.{is_at}
use Rattle.e3_types.specs.declared.scenarios.KeyRow.{KeyRow}
use Rattle.e3_world.specs.Given.{BegunName, count_ops}
use Rattle.e3_scenario.specs.Faults.{sites_begun}

-- what the entries have at a name
abbrev pub at_name : {X : Type 0} → List (List ℕ × X) → List ℕ → Option X
at_name entries name = lookup (is_at (slice_cmp nat_cmp name)) entries

-- at each name there are the sites of its first begin
abbrev pub AreSites : List (List ℕ × List ℕ) → List BegunName → Type 0
AreSites entries begun = (name : List ℕ) → at_name entries name ≡ sites_begun begun name

-- at each name there is the number of its operations, or nothing where there are none
abbrev pub AreCounts : List (List ℕ × ℕ) → List (List ℕ) → Type 0
AreCounts entries ops = (name : List ℕ) → unwrap_or (at_name entries name) 0 ≡ count_ops ops name

-- keys, by their site and then by their name
abbrev pub place_cmp : ℕ × List ℕ → ℕ × List ℕ → Ordering
place_cmp a b = ordering_then (nat_cmp a.0 b.0) (slice_cmp nat_cmp a.1 b.1)

-- the row's key is none of these
abbrev pub is_new : List (ℕ × List ℕ) → KeyRow → Bool
is_new places row = not (list_any (is_at (place_cmp (row.key.site, row.key.name))) places)
