-- The input of an item, by the names that are bound.
use Rattle.std.specs.Prelude.{ℕ, List, Option, Some, None, fold, option_and_then}
use Rattle.e3_types.specs.declared.entries.Input.TheVariants as input
use Rattle.e3_types.specs.declared.scenarios.Item.{Item}
use Rattle.e3_types.specs.declared.scenarios.Item.TheVariants as item
use Rattle.e3_types.specs.declared.transactions.Op.TheVariants.{Read, Write}
use Rattle.e3_types.specs.declared.transactions.Txn.{Txn}
use Rattle.e3_world.specs.Items.{last_bound}
use Rattle.e3_world.specs.declared.names.Addressed.{Addressed}
use Rattle.e3_world.specs.declared.names.Bound.{Bound}

-- the name of the transaction that an item is about, where an earlier begin binds it
abbrev pub name_in : Item → Option (List ℕ)
name_in (item.Read name key) = Some name
name_in (item.Write name key val) = Some name
name_in (item.Commit name) = Some name
name_in (item.Cancel name) = Some name
name_in (item.Expire site name) = Some name
name_in (item.Elect site name sites) = Some name
name_in _ = None

-- the input of an item about this transaction
abbrev pub input_for : Item → Txn → Option Addressed
input_for (item.Read name key) t = Some (record { site = t.site; input = input.Do t (Read key) })
input_for (item.Write name key val) t = Some (record { site = t.site; input = input.Do t (Write key val) })
input_for (item.Commit name) t = Some (record { site = t.site; input = input.Commit t })
input_for (item.Cancel name) t = Some (record { site = t.site; input = input.Cancel t })
input_for (item.Expire site name) t = Some (record { site = site; input = input.Expire t })
input_for (item.Elect site name sites) t = Some (record { site = site; input = input.Elect t sites })
input_for _ t = None

-- the input of an item that is no begin
abbrev pub input_by_name : List Bound → Item → Option Addressed
input_by_name bound it = option_and_then (λ name. option_and_then (input_for it) (fold (last_bound name) None bound)) (name_in it)

-- the site and the input of an item of the group kind; none where its name is not bound
abbrev pub input_with : List Bound → Item → Option Addressed
input_with bound (item.Begin name site sites) = Some (record { site = site; input = input.Begin sites })
input_with bound it = input_by_name bound it
