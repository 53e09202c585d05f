-- The scenarios that the laws speak of: their values meet the rules on sites, names, sets, parts, groups and operations.
use Rattle.std.specs.Prelude.{◌≡◌, ◌+◌, ◌≤◌, ◌==◌, ◌&&◌, ◌++◌, ◌∷◌, [], ℕ, nat_lt, nat_le, Bool, true, false, not, List, length, fold, map, count_by}
use Rattle.std.specs.List.{list_any, list_all}
use Rattle.e3_types.specs.declared.scenarios.Item.{Item}
use Rattle.e3_types.specs.declared.scenarios.KeyRow.{KeyRow}
use Rattle.e3_types.specs.declared.scenarios.Scenario.{Scenario}
use Rattle.e3_types.specs.declared.scenarios.Item.TheVariants as item
use Rattle.e3_types.specs.Same.{same_numbers, same_key}
use Rattle.e3_types.specs.Sets.{is_set, has_site, is_within}
use Rattle.e3_world.specs.Packets.{all_sites}

-- the sites exist
abbrev pub exist : Scenario → List ℕ → Bool
exist sc sites = is_within sites (all_sites sc)

-- a group of the scenario's sites: a set that is not empty
abbrev pub is_group : Scenario → List ℕ → Bool
is_group sc [] = false
is_group sc (site ∷ sites) = is_set (site ∷ sites) && exist sc (site ∷ sites)

-- a name that was begun, and the sites of its transaction
pub record BegunName : Type 0 where
  pub name : List ℕ
  pub sites : List ℕ

-- what the items so far come to: the begins of earlier steps and of this one, a name for each operation so far, and the
-- present parts
pub record ItemsSoFar : Type 0 where
  pub earlier : List BegunName
  pub fresh : List BegunName
  pub ops : List (List ℕ)
  pub parts : List (List ℕ)

-- the name was begun among these, for sites that include these
abbrev pub is_begun : List BegunName → List ℕ → List ℕ → Bool
is_begun begun name sites = list_any (λ b. same_numbers name b.name && is_within sites b.sites) begun

-- how many operations of a name there are
abbrev pub count_ops : List (List ℕ) → List ℕ → ℕ
count_ops ops name = count_by (same_numbers name) ops

-- each part is a group, and they name each site once
abbrev pub is_partition : Scenario → List (List ℕ) → Bool
is_partition sc parts =
    list_all (is_group sc) parts && list_all (λ s. count_by (λ part. has_site part s) parts == 1) (all_sites sc)

-- an item of the group kind: a client's call, an expiry or an election
abbrev pub is_groupable : Item → Bool
is_groupable (item.Recover sites) = false
is_groupable (item.Split parts) = false
is_groupable item.Merge = false
is_groupable (item.Crash site) = false
is_groupable (item.Restart site) = false
is_groupable (item.Stop site count leave) = false
is_groupable _ = true

-- an item keeps the rules over the items before it
abbrev pub keeps_rules : Scenario → ItemsSoFar → Item → Bool
keeps_rules sc k (item.Begin name site sites) =
    is_group sc sites && has_site sites site && not (is_begun (k.earlier ++ k.fresh) name [])
keeps_rules sc k (item.Read name key) = is_begun k.earlier name (key.site ∷ []) && nat_lt (count_ops k.ops name) 64
keeps_rules sc k (item.Write name key val) = is_begun k.earlier name (key.site ∷ []) && nat_lt (count_ops k.ops name) 64
keeps_rules sc k (item.Commit name) = is_begun k.earlier name []
keeps_rules sc k (item.Cancel name) = is_begun k.earlier name []
keeps_rules sc k (item.Expire site name) = is_begun k.earlier name (site ∷ [])
keeps_rules sc k (item.Elect site name sites) = is_begun k.earlier name sites && is_set sites && has_site sites site
keeps_rules sc k (item.Recover sites) = is_group sc sites && list_any (is_within sites) k.parts
keeps_rules sc k (item.Split parts) = is_partition sc parts
keeps_rules sc k item.Merge = true
keeps_rules sc k (item.Crash site) = exist sc (site ∷ [])
keeps_rules sc k (item.Restart site) = exist sc (site ∷ [])
keeps_rules sc k (item.Stop site count leave) = exist sc (site ∷ []) && nat_le 1 count

-- what the items came to with one more, and behind a step
abbrev pub with_item : Scenario → ItemsSoFar → Item → ItemsSoFar
with_item sc k (item.Begin name site sites) = record k { fresh = k.fresh ++ record { name = name; sites = sites } ∷ [] }
with_item sc k (item.Read name key) = record k { ops = k.ops ++ name ∷ [] }
with_item sc k (item.Write name key val) = record k { ops = k.ops ++ name ∷ [] }
with_item sc k (item.Split parts) = record k { parts = parts }
with_item sc k item.Merge = record k { parts = all_sites sc ∷ [] }
with_item sc k _ = k

-- each item of a step keeps the rules over those before it
abbrev pub items_keep : Scenario → ItemsSoFar → List Item → Bool
items_keep sc k [] = true
items_keep sc k (item ∷ items) = keeps_rules sc k item && items_keep sc (with_item sc k item) items

-- a step has an item; where it has more, all are of the group kind, and 16 at most
abbrev pub is_step_form : List Item → Bool
is_step_form [] = false
is_step_form (item ∷ []) = true
is_step_form (item ∷ more ∷ items) = list_all is_groupable (item ∷ more ∷ items) && nat_le (length items) 14

-- behind a step its begins are earlier ones
abbrev pub close_step : ItemsSoFar → ItemsSoFar
close_step k = record k { earlier = k.earlier ++ k.fresh; fresh = [] }

-- each step keeps the rules over those before it
abbrev pub steps_keep : Scenario → ItemsSoFar → List (List Item) → Bool
steps_keep sc k [] = true
steps_keep sc k (items ∷ steps) =
    is_step_form items && items_keep sc k items && steps_keep sc (close_step (fold (with_item sc) k items)) steps

-- no two rows have one key
abbrev pub rows_differ : List KeyRow → Bool
rows_differ [] = true
rows_differ (row ∷ rows) = not (list_any (λ other. same_key row.key other.key) rows) && rows_differ rows

-- the scenario keeps the rules
pub record IsGiven (sc : Scenario) : Type 0 where
  pub some : 1 ≤ length sc.weights
  pub few : length sc.weights ≤ 16
  pub weighed : list_all (λ w. nat_le 1 w && nat_le w 1000) sc.weights ≡ true
  pub rows_at_sites : exist sc (map (λ row. row.key.site) sc.rows) ≡ true
  pub rows_differ : rows_differ sc.rows ≡ true
  pub odds : sc.loss + sc.repeat ≤ 100
  pub steps : steps_keep sc (record { earlier = []; fresh = []; ops = []; parts = all_sites sc ∷ [] }) sc.steps ≡ true
