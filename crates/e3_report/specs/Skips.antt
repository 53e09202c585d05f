-- The lines of a step's items that are skipped.
use Rattle.std.specs.Prelude.{◌++◌, ◌∷◌, [], ◌==◌, if◌then◌else◌, nat_lt, not, List, ℕ, Bool, Option, Some, None, codes, count_by}
use Rattle.std.specs.List.{flat_map}
use Rattle.e3_types.specs.declared.entries.Act.{Act}
use Rattle.e3_types.specs.declared.entries.Entry.{Entry}
use Rattle.e3_types.specs.declared.scenarios.Item.{Item}
use Rattle.e3_types.specs.declared.scenarios.Item.TheVariants as item
use Rattle.e3_types.specs.declared.transactions.Txn.{Txn}
use Rattle.e3_world.specs.Items.{inputs_of, is_delivery}
use Rattle.e3_world.specs.Moves.{own_entries}
use Rattle.e3_report.specs.declared.takers.Taker.{Taker}
use Rattle.e3_report.specs.declared.takers.Taker.TheVariants.{Site, NotBegun, Nobody}
use Rattle.e3_report.specs.lines.Events.{word_line}
use Rattle.e3_report.specs.lines.Texts.{line_end}

-- an item for the coordinator of the transaction, where its name is bound
abbrev pub to_coordinator : List ℕ → Option Txn → Taker
to_coordinator name (Some t) = Site t.site
to_coordinator name None = NotBegun name

-- an item for this site, where its name is bound
abbrev pub to_site : List ℕ → ℕ → Option Txn → Taker
to_site name site (Some t) = Site site
to_site name site None = NotBegun name

-- who takes an item, where names are bound in this way: nobody takes an item that is for no site, and a crash, a
-- restart and a stop are no inputs of a site
abbrev pub taker_of : (List ℕ → Option Txn) → Item → Taker
taker_of find (item.Begin name site sites) = Site site
taker_of find (item.Read name key) = to_coordinator name (find name)
taker_of find (item.Write name key val) = to_coordinator name (find name)
taker_of find (item.Commit name) = to_coordinator name (find name)
taker_of find (item.Cancel name) = to_coordinator name (find name)
taker_of find (item.Expire site name) = to_site name site (find name)
taker_of find (item.Elect site name sites) = to_site name site (find name)
taker_of find _ = Nobody

-- the inputs of an act that are no deliveries
abbrev pub items_in : Act → ℕ
items_in act = count_by (λ i. not (is_delivery i)) (inputs_of act)

-- how many items a site took among these entries
abbrev pub items_taken : ℕ → List Entry → ℕ
items_taken site during = count_by (λ i. not (is_delivery i)) (flat_map (λ e. inputs_of e.act) (own_entries site during))

-- a name that is not bound: `0: NAME not begun`
unfoldable pub not_begun_line : List ℕ → List ℕ
not_begun_line name = codes "0: " ++ name ++ codes " not begun" ++ line_end

-- a site takes its items in their order. An item is skipped where the site, for which there were so many before it,
-- took no more than those in the step: it was down, `S: down`.
unfoldable pub input_skip : List Entry → List ℕ → Taker → List ℕ
input_skip during earlier (Site site) =
    if nat_lt (count_by (λ s. s == site) earlier) (items_taken site during) then [] else word_line site (codes "down")
input_skip during earlier (NotBegun name) = not_begun_line name
input_skip during earlier Nobody = []

-- a crash of a site that is down is skipped, `S: down`, and so is a restart of one that is up, `S: up`
unfoldable pub power_skip : (ℕ → Bool) → Item → List ℕ
power_skip up (item.Crash site) = if up site then [] else word_line site (codes "down")
power_skip up (item.Restart site) = if up site then word_line site (codes "up") else []
power_skip up _ = []

-- the site of an item that has one
abbrev pub sites_of : Taker → List ℕ
sites_of (Site site) = site ∷ []
sites_of (NotBegun name) = []
sites_of Nobody = []

-- The lines of the skipped items among these, in their order. `find` is what names stand for at the step's line, `up` tells
-- which sites are up there, `during` are the entries of the step, `earlier` the sites of the items before these.
abbrev pub skip_lines : (List ℕ → Option Txn) → (ℕ → Bool) → List Entry → List ℕ → List Item → List ℕ
skip_lines find up during earlier [] = []
skip_lines find up during earlier (i ∷ items) =
    power_skip up i ++ input_skip during earlier (taker_of find i)
    ++ skip_lines find up during (earlier ++ sites_of (taker_of find i)) items
