-- The number that an election comes to, and whom it hears.
use Rattle.std.specs.Prelude.{◌↔◌, IsTrue, ◌&&◌, ◌∷◌, [], if◌then◌else◌, ℕ, suc, nat_lt, Bool, true, not, List, Option, Some, None}
use Rattle.e3_types.specs.Sets.{has_site, is_within}
use Rattle.e3_world.specs.Gatherings.{Election}
use Rattle.e3_world.specs.Elections.{all_heard, greatest_heard}

-- the greatest number that was heard plus one, once the whole group was heard; none where that is no number any more
abbrev pub number_of : Election → Option ℕ
number_of e = if all_heard e && nat_lt (greatest_heard e) 4294967295 then Some (suc (greatest_heard e)) else None

-- these are members of the group, each once
abbrev pub are_members : List ℕ → List ℕ → Bool
are_members group [] = true
are_members group (site ∷ sites) = has_site group site && (not (has_site sites site) && are_members group sites)

-- all but the first of these, which is the elector, are members of the group, each once and none the elector
abbrev pub are_behind_elector : List ℕ → List ℕ → Bool
are_behind_elector group [] = true
are_behind_elector group (elector ∷ sites) = not (has_site sites elector) && are_members group sites

-- as many came as the group has sites, exactly where each site of the group came, if all that came are of the group
abbrev pub IsWhole : List ℕ → List ℕ → Bool → Type 0
IsWhole group came all = IsTrue (is_within came group) → IsTrue all ↔ IsTrue (is_within group came)
