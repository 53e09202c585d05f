-- The input of an item that is no begin goes by its name, and is that of the definitions.
use Rattle.std.proofs.Common.{◌≡◌, ◌∷◌, [], ℕ, List, refl, Option, Some, None}
use Rattle.e3_types.specs.declared.entries.Entry.{Entry}
use Rattle.e3_types.specs.declared.scenarios.Item.{Item}
use Rattle.e3_types.specs.declared.scenarios.Item.TheVariants as item
use Rattle.e3_types.specs.declared.scenarios.Scenario.{Scenario}
use Rattle.e3_types.specs.declared.transactions.Txn.{Txn}
use Rattle.std.specs.Prelude.{filter_map, option_map, option_and_then}
use Rattle.e3_world.specs.Items.{input_of, txn_of}
use Rattle.e3_world.specs.declared.names.Addressed.{Addressed}
use Rattle.e3_world.specs.declared.names.Bound.{Bound}
use Rattle.e3_readings.specs.Bindings.{bound_behind}
use Rattle.e3_readings.specs.Inputs.{input_by_name, input_with}

pub input_later : (bound : List Bound) (it : Item) →
    ((name : List ℕ) (site : ℕ) (sites : List ℕ) → it ≡ item.Begin name site sites → ⊥) → input_with bound it ≡ input_by_name bound it
input_later bound (item.Begin name site sites) other = absurd (other name site sites refl)
input_later bound (item.Read name key) other = refl
input_later bound (item.Write name key val) other = refl
input_later bound (item.Commit name) other = refl
input_later bound (item.Cancel name) other = refl
input_later bound (item.Expire site name) other = refl
input_later bound (item.Elect site name sites) other = refl
input_later bound (item.Recover sites) other = refl
input_later bound (item.Split parts) other = refl
input_later bound item.Merge other = refl
input_later bound (item.Crash site) other = refl
input_later bound (item.Restart site) other = refl
input_later bound (item.Stop site count leave) other = refl

mapped : (f : Txn → Addressed) (o : Option Txn) → option_and_then (λ t. Some (f t)) o ≡ option_map f o
mapped f None = refl
mapped f (Some t) = refl

-- it is the input that the definitions give the item behind that history
pub input_is : (sc : Scenario) (h : List Entry) (it : Item) → input_with (bound_behind sc h).bound it ≡ input_of sc h it
input_is sc h (item.Begin name site sites) = refl
input_is sc h (item.Read name key) = mapped _ (txn_of sc h name)
input_is sc h (item.Write name key val) = mapped _ (txn_of sc h name)
input_is sc h (item.Commit name) = mapped _ (txn_of sc h name)
input_is sc h (item.Cancel name) = mapped _ (txn_of sc h name)
input_is sc h (item.Expire site name) = mapped _ (txn_of sc h name)
input_is sc h (item.Elect site name sites) = mapped _ (txn_of sc h name)
input_is sc h (item.Recover sites) = refl
input_is sc h (item.Split parts) = refl
input_is sc h item.Merge = refl
input_is sc h (item.Crash site) = refl
input_is sc h (item.Restart site) = refl
input_is sc h (item.Stop site count leave) = refl

pub inputs_are : (sc : Scenario) (h : List Entry) (items : List Item) → filter_map (input_with (bound_behind sc h).bound) items ≡ filter_map (input_of sc h) items
inputs_are sc h [] = refl
inputs_are sc h (it ∷ items) = rw (input_is sc h it, inputs_are sc h items) refl
