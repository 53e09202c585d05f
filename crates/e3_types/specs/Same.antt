-- Tests of equality, and which of two transactions is older.
use Rattle.std.specs.Prelude.{◌==◌, ◌&&◌, ◌||◌, ◌∷◌, [], if◌then◌else◌, ℕ, nat_lt, Bool, true, false, List, fold}
use Rattle.e3_types.specs.declared.transactions.Call.{Call}
use Rattle.e3_types.specs.declared.transactions.Dir.{Dir}
use Rattle.e3_types.specs.declared.transactions.Dir.TheVariants.{Abort, Commit}
use Rattle.e3_types.specs.declared.transactions.Key.{Key}
use Rattle.e3_types.specs.declared.transactions.State.{State}
use Rattle.e3_types.specs.declared.transactions.State.TheVariants.{Q, W, Pc, Pa, C, A}
use Rattle.e3_types.specs.declared.transactions.Txn.{Txn}
use Rattle.e3_types.specs.Sets.{others}
use Rattle.e3_types.specs.Sites.{bits_of}

-- the two lists of numbers are equal
abbrev pub same_numbers : List ℕ → List ℕ → Bool
same_numbers [] [] = true
same_numbers (x ∷ xs) (y ∷ ys) = x == y && same_numbers xs ys
same_numbers [] (y ∷ ys) = false
same_numbers (x ∷ xs) [] = false

-- the two transactions are one
abbrev pub same_txn : Txn → Txn → Bool
same_txn t u = t.site == u.site && t.inc == u.inc && t.seq == u.seq && same_numbers t.sites u.sites

-- the two keys are one
abbrev pub same_key : Key → Key → Bool
same_key k l = k.site == l.site && same_numbers k.name l.name

-- the two directions are one
abbrev pub same_dir : Dir → Dir → Bool
same_dir Abort Abort = true
same_dir Commit Commit = true
same_dir _ _ = false

-- the two states are one
abbrev pub same_state : State → State → Bool
same_state Q Q = true
same_state W W = true
same_state Pc Pc = true
same_state Pa Pa = true
same_state C C = true
same_state A A = true
same_state _ _ = false

-- the two calls of an election are one
abbrev pub same_call : Call → Call → Bool
same_call c d = c.inc == d.inc && c.seq == d.seq

-- the first transaction is older: smaller by its site, incarnation, number and sites, in that order
abbrev pub is_older : Txn → Txn → Bool
is_older t u = nat_lt t.site u.site || (t.site == u.site && (nat_lt t.inc u.inc || (t.inc == u.inc
    && (nat_lt t.seq u.seq || (t.seq == u.seq && nat_lt (bits_of t.sites) (bits_of u.sites))))))

-- the oldest of the first and these
abbrev pub oldest : Txn → List Txn → Txn
oldest t others = fold (λ u v. if is_older v u then v else u) t others
