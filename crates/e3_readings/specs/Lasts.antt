-- What the entries of a map say of names, so that the transaction of one is found without going through those that are bound.
use Rattle.std.specs.Prelude.{◌≡◌, ℕ, List, None, Option, fold}
use Rattle.std.specs.BTreeMap.{is_at}
use Rattle.std.specs.Cmp.Lexicographic.{slice_cmp}
use Rattle.std.specs.Map.{lookup}
use Rattle.std.specs.Ordering.{nat_cmp}
use Rattle.e3_types.specs.declared.transactions.Txn.{Txn}
use Rattle.e3_world.specs.Items.{last_bound}
use Rattle.e3_world.specs.declared.names.Bound.{Bound}

-- what the entries have at a name
abbrev pub at_name : List (List ℕ × Txn) → List ℕ → Option Txn
at_name entries name = lookup (is_at (slice_cmp nat_cmp name)) entries

-- at each name there is the last transaction that is bound to it
abbrev pub AreLasts : List (List ℕ × Txn) → List Bound → Type 0
AreLasts entries bound = (name : List ℕ) → at_name entries name ≡ fold (last_bound name) None bound
