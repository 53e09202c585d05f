-- Tests of whether records are the log of a site, and the first place where they are not.
use Rattle.std.specs.Prelude.{◌<◌, ◌==◌, ◌&&◌, ◌||◌, ◌++◌, ◌∷◌, [], if◌then◌else◌, ℕ, suc, nat_lt, nat_le, Bool, not, List, length, take, Option, Some, None}
use Rattle.std.specs.List.{list_all}
use Rattle.e3_types.specs.declared.records.Record.{Record}
use Rattle.e3_types.specs.declared.records.Record.TheVariants as log
use Rattle.e3_types.specs.declared.transactions.Dir.{Dir}
use Rattle.e3_types.specs.declared.transactions.Dir.TheVariants.{Commit}
use Rattle.e3_types.specs.declared.transactions.NumOp.{NumOp}
use Rattle.e3_types.specs.declared.transactions.Row.{Row}
use Rattle.e3_types.specs.declared.transactions.State.TheVariants.{Q}
use Rattle.e3_types.specs.declared.transactions.Txn.{Txn}
use Rattle.e3_types.specs.Same.{same_dir, same_state}
use Rattle.e3_world.specs.Logs.{last_elected, last_attempt, has_voted, state_of, is_undecided, logged_inc}
use Rattle.e3_world.specs.Orderly.{names_ascend, ops_ascend, is_known, is_free}
use Rattle.e3_world.specs.Orderly.{IsOrderly}

-- the site has a weight among these
abbrev pub is_weighed : List ℕ → ℕ → Bool
is_weighed weights site = nat_le 1 site && nat_le site (length weights)

-- there are at most 16 weights, each from 1 to 1,000
abbrev pub are_weights : List ℕ → Bool
are_weights weights = nat_le (length weights) 16 && list_all (λ w. nat_le 1 w && nat_le w 1000) weights

-- the birth stands first and is the site's own
abbrev pub is_birth : ℕ → List Record → ℕ → ℕ → List ℕ → List Row → Bool
is_birth site before format number weights rows =
    length before == 0 && format == 1 && number == site && is_weighed weights site && are_weights weights && names_ascend rows

-- the incarnation stands behind a birth; the first may be any, each later one is one more than the last
abbrev pub is_next_inc : List Record → ℕ → Bool
is_next_inc before inc = not (length before == 0) && nat_lt 0 inc && (logged_inc before == 0 || inc == suc (logged_inc before))

-- the numbers of the operations ascend strictly, from 1 to 64
abbrev pub are_numbered : List NumOp → Bool
are_numbered ops = ops_ascend 0 ops && list_all (λ o. nat_le o.n 64) ops

-- the vote is the transaction's first record, and its locks are free
abbrev pub is_first_vote : ℕ → List Record → Txn → List NumOp → Bool
is_first_vote site before t ops =
    is_known site before t && same_state (state_of t before) Q && last_elected t before == 1
    && are_numbered ops && list_all (is_free t before) ops

-- the number of the join is above the last
abbrev pub is_next_join : ℕ → List Record → Txn → ℕ → Bool
is_next_join site before t n = is_known site before t && nat_lt (last_elected t before) n

-- an attempt under the first number commits what was voted for
abbrev pub is_backed : List Record → Txn → ℕ → Dir → Bool
is_backed before t n dir = not (n == 1) || (has_voted t before && same_dir dir Commit)

-- the attempt has the number of the last join, once
abbrev pub is_next_attempt : ℕ → List Record → Txn → ℕ → Dir → Bool
is_next_attempt site before t n dir =
    is_known site before t && is_undecided t before && n == last_elected t before && nat_lt (last_attempt t before) n
    && is_backed before t n dir

-- the decision is the transaction's first, and a commit is of what was voted for
abbrev pub is_first_decision : ℕ → List Record → Txn → Dir → Bool
is_first_decision site before t dir =
    is_known site before t && is_undecided t before && (not (same_dir dir Commit) || has_voted t before)

-- the record may stand behind those before it in the log of this site
abbrev pub is_orderly_next : ℕ → List Record → Record → Bool
is_orderly_next site before (log.Birth format number weights rows) = is_birth site before format number weights rows
is_orderly_next site before (log.Inc inc) = is_next_inc before inc
is_orderly_next site before (log.Vote t ops) = is_first_vote site before t ops
is_orderly_next site before (log.Join t n) = is_next_join site before t n
is_orderly_next site before (log.Attempt t n dir) = is_next_attempt site before t n dir
is_orderly_next site before (log.Decision t dir) = is_first_decision site before t dir

-- the first place of a record that may not stand behind those before it, where these stand before all of them
abbrev pub disorder_after : ℕ → List Record → List Record → Option ℕ
disorder_after site before [] = None
disorder_after site before (r ∷ rest) =
    if is_orderly_next site before r then disorder_after site (before ++ r ∷ []) rest else Some (length before)

-- the first place of a record that may not stand behind those before it, counted from 0
abbrev pub disorder_in : ℕ → List Record → Option ℕ
disorder_in site records = disorder_after site [] records

-- The place is the first, counted from 0, where the records stop being the log of this site: those before it are such a
-- log, and those up to it are none.
pub record IsFirstDisorder (site : ℕ) (records : List Record) (at : ℕ) : Type 0 where
  pub exists : at < length records
  pub front : IsOrderly site (take at records)
  pub breaks : ¬ IsOrderly site (take (suc at) records)
