-- The faults of a scenario's items, and the lines that are written for faults.
use Rattle.std.specs.Prelude.{ℕ, ◌+◌, ◌==◌, Bool, ◌&&◌, ◌||◌, not, nat_le, List, [], ◌∷◌, ◌++◌, length, codes, count_by, Option, Some, None, option_map, if◌then◌else◌}
use Rattle.std.specs.Fmt.{decimal}
use Rattle.std.specs.List.{list_any, list_all, find}
use Rattle.e3_types.specs.Same.{same_numbers}
use Rattle.e3_types.specs.Sets.{has_site, is_within}
use Rattle.e3_types.specs.declared.scenarios.Item.{Item}
use Rattle.e3_types.specs.declared.scenarios.Item.TheVariants as item
use Rattle.e3_world.specs.Given.{BegunName, ItemsSoFar, count_ops}
use Rattle.e3_scenario.specs.declared.faults.Field.{Field}
use Rattle.e3_scenario.specs.declared.faults.Field.TheVariants as field
use Rattle.e3_scenario.specs.declared.faults.ScenarioFault.{ScenarioFault}
use Rattle.e3_scenario.specs.declared.faults.ScenarioFault.TheVariants as fault

-- the name was begun among these
abbrev pub has_name : List BegunName → List ℕ → Bool
has_name begun name = list_any (λ b. same_numbers name b.name) begun

-- the sites of the transaction that a name was begun for
abbrev pub sites_begun : List BegunName → List ℕ → Option (List ℕ)
sites_begun begun name = option_map (λ b. b.sites) (find (λ b. same_numbers name b.name) begun)

-- the sites are a transaction's, where there is one
abbrev pub own_fault : ℕ → List ℕ → Option (List ℕ) → Option ScenarioFault
own_fault step sites None = Some (fault.NoTxn step)
own_fault step sites (Some of_txn) = if is_within sites of_txn then None else Some (fault.NoSite step)

-- An item speaks of a transaction and of these of its sites: the name was begun in an earlier step, and the sites are
-- the transaction's.
abbrev pub named_fault : ℕ → ItemsSoFar → List ℕ → List ℕ → Option ScenarioFault
named_fault step so_far name sites = own_fault step sites (sites_begun so_far.earlier name)

-- begin: one of 4,000 at most, over sites that exist, of which the coordinator is one, and of a new name
unfoldable pub begin_fault : List ℕ → ℕ → ItemsSoFar → List ℕ → ℕ → List ℕ → Option ScenarioFault
begin_fault all step so_far name site sites =
    if nat_le 4000 (length so_far.earlier + length so_far.fresh) then Some (fault.BadLine step)
    else if not (is_within sites all && has_site sites site) then Some (fault.NoSite step)
    else if has_name so_far.earlier name || has_name so_far.fresh name then Some (fault.NameTwice step)
    else None

-- read, write: one of 64 of its transaction at most, at a site that exists and is the transaction's
unfoldable pub operation_fault : List ℕ → ℕ → ItemsSoFar → List ℕ → ℕ → Option ScenarioFault
operation_fault all step so_far name site =
    if nat_le 64 (count_ops so_far.ops name) then Some (fault.BadLine step)
    else if not (has_site all site) then Some (fault.NoSite step)
    else named_fault step so_far name (site ∷ [])

-- expire: at a site that exists and is the transaction's
unfoldable pub expire_fault : List ℕ → ℕ → ItemsSoFar → ℕ → List ℕ → Option ScenarioFault
expire_fault all step so_far site name =
    if not (has_site all site) then Some (fault.NoSite step) else named_fault step so_far name (site ∷ [])

-- elect: among sites that exist, of which the elector is one, and which are the transaction's
unfoldable pub elect_fault : List ℕ → ℕ → ItemsSoFar → ℕ → List ℕ → List ℕ → Option ScenarioFault
elect_fault all step so_far site name sites =
    if not (is_within sites all && has_site sites site) then Some (fault.NoSite step) else named_fault step so_far name sites

-- recover: of sites that exist and lie in one part of the network
unfoldable pub recover_fault : List ℕ → ℕ → ItemsSoFar → List ℕ → Option ScenarioFault
recover_fault all step so_far sites =
    if not (is_within sites all) then Some (fault.NoSite step)
    else if list_any (is_within sites) so_far.parts then None
    else Some (fault.Parts step)

-- split: into parts that name sites that exist, and each of them once
unfoldable pub split_fault : List ℕ → ℕ → List (List ℕ) → Option ScenarioFault
split_fault all step parts =
    if not (list_all (λ part. is_within part all) parts) then Some (fault.NoSite step)
    else if list_all (λ s. count_by (λ part. has_site part s) parts == 1) all then None
    else Some (fault.Parts step)

-- crash, restart: a site that exists
unfoldable pub site_fault : List ℕ → ℕ → ℕ → Option ScenarioFault
site_fault all step site = if has_site all site then None else Some (fault.NoSite step)

-- stop: from a count of 1 on, at a site that exists
unfoldable pub stop_fault : List ℕ → ℕ → ℕ → ℕ → Option ScenarioFault
stop_fault all step site count = if nat_le 1 count then site_fault all step site else Some (fault.BadLine step)

-- The fault of an item, where it has one: over all sites of the scenario, in the step of this number, behind what the
-- items so far come to.
abbrev pub item_fault : List ℕ → ℕ → ItemsSoFar → Item → Option ScenarioFault
item_fault all step so_far (item.Begin name site sites) = begin_fault all step so_far name site sites
item_fault all step so_far (item.Read name key) = operation_fault all step so_far name key.site
item_fault all step so_far (item.Write name key val) = operation_fault all step so_far name key.site
item_fault all step so_far (item.Commit name) = named_fault step so_far name []
item_fault all step so_far (item.Cancel name) = named_fault step so_far name []
item_fault all step so_far (item.Expire site name) = expire_fault all step so_far site name
item_fault all step so_far (item.Elect site name sites) = elect_fault all step so_far site name sites
item_fault all step so_far (item.Recover sites) = recover_fault all step so_far sites
item_fault all step so_far (item.Split parts) = split_fault all step parts
item_fault all step so_far item.Merge = None
item_fault all step so_far (item.Crash site) = site_fault all step site
item_fault all step so_far (item.Restart site) = site_fault all step site
item_fault all step so_far (item.Stop site count leave) = stop_fault all step site count

-- what the items come to with one more
abbrev pub take_item : List ℕ → ItemsSoFar → Item → ItemsSoFar
take_item all so_far (item.Begin name site sites) = record so_far { fresh = so_far.fresh ++ record { name = name; sites = sites } ∷ [] }
take_item all so_far (item.Read name key) = record so_far { ops = so_far.ops ++ name ∷ [] }
take_item all so_far (item.Write name key val) = record so_far { ops = so_far.ops ++ name ∷ [] }
take_item all so_far (item.Split parts) = record so_far { parts = parts }
take_item all so_far item.Merge = record so_far { parts = all ∷ [] }
take_item all so_far _ = so_far

-- the word for a field
abbrev pub field_word : Field → List ℕ
field_word field.Weights = codes "weights"
field_word field.Rows = codes "rows"
field_word field.Loss = codes "loss"
field_word field.Repeat = codes "repeat"
field_word field.Luck = codes "luck"
field_word field.Steps = codes "steps"

-- what is told of a fault
abbrev pub fault_words : ScenarioFault → List ℕ
fault_words fault.TooLong = codes "too-long"
fault_words fault.NotToml = codes "not-toml"
fault_words fault.UnknownKey = codes "unknown-key"
fault_words (fault.Kind f) = codes "kind " ++ field_word f
fault_words (fault.Range f) = codes "range " ++ field_word f
fault_words fault.RowTwice = codes "row-twice"
fault_words (fault.BadLine step) = codes "bad-line " ++ decimal step
fault_words (fault.NoSite step) = codes "no-site " ++ decimal step
fault_words (fault.NoTxn step) = codes "no-transaction " ++ decimal step
fault_words (fault.NameTwice step) = codes "name-twice " ++ decimal step
fault_words (fault.Parts step) = codes "parts " ++ decimal step
fault_words fault.NoMemory = codes "no-memory"

-- the line for a fault
abbrev pub fault_text : ScenarioFault → List ℕ
fault_text f = codes "refused " ++ fault_words f ++ codes "\n"
