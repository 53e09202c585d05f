-- A node stands for its site in a history.
use Rattle.std.specs.Prelude.{◌≡◌, ◌≤◌, ℕ, Bool, true, false, List, length, filter}
use Rattle.e3_disk.specs.Meaning.{Meaning}
use Rattle.e3_log.specs.Stands.{LogState}
use Rattle.e3_node.specs.Bodies.{DiskTells, entries_at}
use Rattle.e3_node.specs.NodeView.{NodeView, disk_of}
use Rattle.e3_node.specs.declared.state.State.{State}
use Rattle.e3_node.specs.declared.state.State.TheVariants.{Down, Up}
use Rattle.e3_site.specs.StandsAlike.{IsLogInOrder, StandsAlike}
use Rattle.e3_world.specs.Orderly.{IsOrderly}
use Rattle.e3_site.specs.SiteView.{SiteView}
use Rattle.e3_node.specs.site_log.Bodies.{IsLogged}
use Rattle.e3_types.specs.declared.entries.Act.{Act}
use Rattle.e3_types.specs.declared.entries.Act.TheVariants.{Step}
use Rattle.e3_types.specs.declared.entries.Entry.{Entry}
use Rattle.e3_types.specs.declared.records.Record.{Record}
use Rattle.e3_types.specs.declared.scenarios.Scenario.{Scenario}
use Rattle.e3_world.specs.Items.{is_up_at}
use Rattle.e3_world.specs.Moves.{log_of, own_entries, rows_at}

-- the entry is a step
abbrev pub is_step : Entry → Bool
is_step e = by e.act
  where
    by : Act → Bool
    by (Step i records outs events) = true
    by _ = false

-- how many steps a site has in a history
abbrev pub steps_at : List Entry → ℕ → ℕ
steps_at history site = length (filter is_step (own_entries site history))

-- The history has the site down, and the disk holds the site's log in it, with power or without; the number tells what of a
-- tail it has.
pub record IsDown {D : Type 0} (meaning : Meaning D) (sc : Scenario) (history : List Entry) (site : ℕ) (disk : D) (logged : ℕ) : Type 0 where
  pub down : is_up_at history site ≡ false
  pub stands : DiskTells sc history site (meaning.meters disk).capacity logged (meaning.image disk)

-- the site stands for the history as one that rose with these records, which are orderly, and its log there is in order
pub record StandsBy (sc : Scenario) (history : List Entry) (site : ℕ) (rose : List Record) (s : SiteView) : Type 0 where
  pub alike : StandsAlike sc history site rose s
  pub risen : IsOrderly site rose
  pub order : IsLogInOrder site (log_of sc history site)

-- The history has the site up, the site stands for it by the records that it rose with, the log on the disk is the site's, as
-- many records as the number says, and the disk has power. The site counts no more inputs than it has steps.
pub record IsUp {D : Type 0} (meaning : Meaning D)
    (sc : Scenario) (history : List Entry) (site : ℕ) (s : SiteView) (log : LogState D) (rose : List Record) (count : ℕ) : Type 0 where
  pub up : is_up_at history site ≡ true
  pub stands : StandsBy sc history site rose s
  pub logged : IsLogged meaning site (entries_at history site) (log_of sc history site) count log
  pub lit : (meaning.meters log.disk).powered ≡ true
  pub inputs : s.inputs ≤ steps_at history site

-- it is up exactly where the history has the site up
abbrev pub IsIn : {D : Type 0} → Meaning D → Scenario → List Entry → ℕ → State D → Type 0
IsIn meaning sc history site (Down disk logged) = IsDown meaning sc history site disk logged
IsIn meaning sc history site (Up s log rose logged) = IsUp meaning sc history site s log rose logged

-- the number with which a state tells of its disk
abbrev pub logged_in : {D : Type 0} → State D → ℕ
logged_in (Down disk logged) = logged
logged_in (Up s log rose logged) = logged

-- a site that fell is not put down yet: its disk stands
abbrev pub IsFallen : {D : Type 0} → Meaning D → Scenario → List Entry → ℕ → State D → Type 0
IsFallen meaning sc history site state = DiskTells sc history site (meaning.meters (disk_of state)).capacity (logged_in state) (meaning.image (disk_of state))

-- The site is one of the scenario's, the weights and the rows are the scenario's, and the state is as the history has it.
pub record NodeStands {D : Type 0} (meaning : Meaning D) (sc : Scenario) (history : List Entry) (node : NodeView D) : Type 0 where
  pub some : 1 ≤ node.site
  pub exists : node.site ≤ length sc.weights
  pub weights_are : node.weights ≡ sc.weights
  pub rows_are : node.rows ≡ rows_at node.site sc.rows
  pub state : IsIn meaning sc history node.site node.state
