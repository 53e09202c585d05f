-- Maps and sets as the lists of their entries and keys, and transactions as keys.
use Rattle.std.specs.Prelude.{◌∷◌, if◌then◌else◌, ℕ, Bool, List, Option}
use Rattle.std.specs.List.{list_any}
use Rattle.std.specs.BTreeMap.{is_at}
use Rattle.std.specs.BTreeSet.{insert_key}
use Rattle.std.specs.Cmp.Lexicographic.{slice_cmp}
use Rattle.std.specs.Map.{lookup}
use Rattle.std.specs.Ordering.{nat_cmp}
use Rattle.e3_types.specs.declared.transactions.Txn.{Txn}

-- the numbers that make a transaction, its sites last
unfoldable pub numbers_of : Txn → List ℕ
numbers_of t = t.site ∷ t.inc ∷ t.seq ∷ t.sites

-- the transaction is one of these
abbrev pub has_txn : Txn → List (List ℕ) → Bool
has_txn t keys = list_any (is_at (slice_cmp nat_cmp (numbers_of t))) keys

-- the transaction among these, which ascend
abbrev pub with_txn : Txn → List (List ℕ) → List (List ℕ)
with_txn t keys = if has_txn t keys then keys else insert_key (slice_cmp nat_cmp) keys (numbers_of t)

-- the site is one of these
abbrev pub has_number : ℕ → List ℕ → Bool
has_number number keys = list_any (is_at (nat_cmp number)) keys

module _ {X : Type 0} where
  -- what these entries have at a name, or at the numbers of a transaction
  abbrev pub at_key : List ℕ → List (List ℕ × X) → Option X
  at_key key entries = lookup (is_at (slice_cmp nat_cmp key)) entries

  -- what these entries have at a number
  abbrev pub at_number : ℕ → List (ℕ × X) → Option X
  at_number number entries = lookup (is_at (nat_cmp number)) entries
