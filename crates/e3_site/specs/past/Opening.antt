-- The transactions that are open at a site, as its tables keep them.
use Rattle.std.specs.Prelude.{◌≡◌, ◌+◌, ◌≤◌, ◌∷◌, [], ℕ, List, Option, Some, None, filter, length, map, vec_capacity}
use Rattle.std.specs.List.{flat_map}
use Rattle.e3_types.specs.declared.records.Record.{Record}
use Rattle.e3_types.specs.declared.transactions.Txn.{Txn}
use Rattle.e3_world.specs.declared.lives.Life.{Life}
use Rattle.e3_world.specs.declared.lives.SiteStep.{SiteStep}
use Rattle.e3_world.specs.Items.{began_in, txn_of_record}
use Rattle.e3_world.specs.Logs.{is_undecided}
use Rattle.e3_world.specs.Operations.{arrivals}
use Rattle.e3_places.specs.declared.places.Standing.{Standing}
use Rattle.e3_places.specs.Standing.{fresh_of}
use Rattle.e3_site.specs.declared.past.tables.Opens.{Opens}

-- those of these transactions that the log leaves undecided
abbrev pub undecided_among : List Record → List Txn → List Txn
undecided_among log txns = filter (λ t. is_undecided t log) txns

-- the transaction of an operation that came, if one did
abbrev pub fresh_txns : Option Standing → List Txn
fresh_txns None = []
fresh_txns (Some s) = s.asked.txn ∷ []

-- they are those of a site's life, as often as it knows them
pub record OpensStand (site : ℕ) (opens : Opens) (life : Life) : Type 0 where
  pub logged_are : opens.logged.items ≡ undecided_among life.log (flat_map txn_of_record life.log)
  pub arrived_are : opens.arrived.items ≡ undecided_among life.log (map (λ a. a.txn) (arrivals site life.steps))
  pub begun_are : opens.begun.items ≡ undecided_among life.log (flat_map (λ m. flat_map began_in m.told) life.steps)

-- they are those that a step makes known to a site with this life, and that the log before it leaves undecided: of its
-- records, of the operation that it takes up, where that came for the first time, and of what it tells as begun
pub record AreAdded (site : ℕ) (life : Life) (s : SiteStep) (more : Opens) : Type 0 where
  pub logged_are : more.logged.items ≡ undecided_among life.log (flat_map txn_of_record s.records)
  pub arrived_are : more.arrived.items ≡ undecided_among life.log (fresh_txns (fresh_of site life s))
  pub begun_are : more.begun.items ≡ undecided_among life.log (flat_map began_in s.told)

-- there is room for these behind those
pub record HaveRoom (opens more : Opens) : Type 0 where
  pub logged : length opens.logged.items + length more.logged.items ≤ vec_capacity opens.logged
  pub arrived : length opens.arrived.items + length more.arrived.items ≤ vec_capacity opens.arrived
  pub begun : length opens.begun.items + length more.begun.items ≤ vec_capacity opens.begun
