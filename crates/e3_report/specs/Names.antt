-- The names that are bound so far, as a map keeps them.
use Rattle.std.specs.Prelude.{[], ◌+◌, ℕ, List, Option, fold, slice_get, unwrap_or}
use Rattle.std.specs.BTreeMap.{insert_entry}
use Rattle.std.specs.Cmp.Lexicographic.{slice_cmp}
use Rattle.std.specs.Ordering.{nat_cmp}
use Rattle.e3_types.specs.declared.entries.Act.{Act}
use Rattle.e3_types.specs.declared.entries.Act.TheVariants.{Step, Line}
use Rattle.e3_types.specs.declared.entries.Entry.{Entry}
use Rattle.e3_types.specs.declared.entries.Input.TheVariants as input
use Rattle.e3_types.specs.declared.entries.Told.{Told}
use Rattle.e3_types.specs.declared.scenarios.Item.{Item}
use Rattle.e3_types.specs.declared.scenarios.Scenario.{Scenario}
use Rattle.e3_types.specs.declared.transactions.Txn.{Txn}
use Rattle.e3_world.specs.declared.names.Bound.{Bound}
use Rattle.e3_world.specs.Items.{begin_names, binds}
use Rattle.e3_world.specs.Packets.{step_items}
use Rattle.e3_order.specs.Keys.{at_key, at_number}

-- the number of the step that the entries are in, how many of its begins each site took, and the transactions of the names
pub record Naming : Type 0 where
  pub number : ℕ
  pub begun : List (ℕ × ℕ)
  pub bound : List (List ℕ × Txn)

-- before the first entry no name is bound
abbrev pub no_naming : Naming
no_naming = record { number = 0; begun = []; bound = [] }

-- the transaction of a name
abbrev pub meant : Naming → List ℕ → Option Txn
meant w name = at_key name w.bound

-- how many begins a site took in the step
abbrev pub begins : ℕ → List (ℕ × ℕ) → ℕ
begins site begun = unwrap_or (at_number site begun) 0

-- the names with these too
abbrev pub and_bound : List (List ℕ × Txn) → List Bound → List (List ℕ × Txn)
and_bound bound new = fold (λ m b. insert_entry (slice_cmp nat_cmp) m b.name b.txn) bound new

-- the names with what a begin of this site binds, among the items of the step
abbrev pub and_begin : ℕ → List Item → List Told → Naming → Naming
and_begin site items events w = record {
  number = w.number;
  begun = insert_entry nat_cmp w.begun site (begins site w.begun + 1);
  bound = and_bound w.bound (binds (slice_get (begin_names site items) (begins site w.begun)) events);
}

-- the names behind one more act of a site
abbrev pub naming_act : Scenario → ℕ → Naming → Act → Naming
naming_act sc site w (Line number) = record { number = number; begun = []; bound = w.bound }
naming_act sc site w (Step (input.Begin sites) records outs events) = and_begin site (step_items sc w.number) events w
naming_act sc site w _ = w

-- the names behind one more entry
abbrev pub naming_by : Scenario → Naming → Entry → Naming
naming_by sc w e = naming_act sc e.owner w e.act
