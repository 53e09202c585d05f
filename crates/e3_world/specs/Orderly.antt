-- Which lists of records are the log of a site: each record is judged over those before it. A log may begin in a later
-- incarnation: its birth may have been made anew, behind records that are left out since.
use Rattle.std.specs.Prelude.{◌≡◌, ◌≢◌, ◌<◌, ◌≤◌, ◌&&◌, ◌++◌, ◌∷◌, [], ℕ, suc, nat_lt, nat_le, Bool, true, false, List, length, fold}
use Rattle.std.specs.List.{list_all}
use Rattle.std.specs.Ordering.{nat_cmp, match_ordering}
use Rattle.std.specs.Cmp.Lexicographic.{slice_cmp}
use Rattle.e3_types.specs.declared.transactions.Dir.{Dir}
use Rattle.e3_types.specs.declared.transactions.Dir.TheVariants.{Commit}
use Rattle.e3_types.specs.declared.transactions.NumOp.{NumOp}
use Rattle.e3_types.specs.declared.records.Record.{Record}
use Rattle.e3_types.specs.declared.transactions.Row.{Row}
use Rattle.e3_types.specs.declared.transactions.State.TheVariants.{Q}
use Rattle.e3_types.specs.declared.transactions.Txn.{Txn}
use Rattle.e3_types.specs.declared.records.Record.TheVariants as log
use Rattle.e3_types.specs.Locks.{against}
use Rattle.e3_types.specs.Sets.{has_site}
use Rattle.e3_world.specs.Logs.{last_elected, last_attempt, has_voted, state_of, is_undecided, logged_inc, key_of, mode_of, voted_locks}

-- the weights of a log, by its birth
abbrev pub weights_by : List ℕ → Record → List ℕ
weights_by was (log.Birth format site weights rows) = weights
weights_by was _ = was

-- the weights of a log
abbrev pub weights_in : List Record → List ℕ
weights_in records = fold weights_by [] records

-- the names of the rows ascend strictly
abbrev pub names_ascend : List Row → Bool
names_ascend [] = true
names_ascend (row ∷ rows) = before rows && names_ascend rows
  where
    before : List Row → Bool
    before [] = true
    before (next ∷ more) = match_ordering (slice_cmp nat_cmp row.name next.name) true false false

-- the numbers of the operations ascend strictly, from above the first
abbrev pub ops_ascend : ℕ → List NumOp → Bool
ops_ascend n [] = true
ops_ascend n (o ∷ ops) = nat_lt n o.n && ops_ascend o.n ops

-- the site is one of these sites, and each of them has a weight
abbrev pub is_among : ℕ → List ℕ → List ℕ → Bool
is_among site weights sites = has_site sites site && list_all (λ s. nat_le 1 s && nat_le s (length weights)) sites

-- a record of a transaction stands behind an incarnation, and the transaction is one of the site's
abbrev pub is_known : ℕ → List Record → Txn → Bool
is_known site before t = nat_le 1 (logged_inc before) && is_among site (weights_in before) t.sites

-- the lock of an operation conflicts with none of the votes of other transactions that are undecided
abbrev pub is_free : Txn → List Record → NumOp → Bool
is_free t before o = by (against (record { txn = t; mode = mode_of o.op }) (voted_locks (key_of o.op).name before))
  where
    by : List Txn → Bool
    by [] = true
    by (u ∷ us) = false

-- the birth stands first; it has the site's own number and format 1, ascending names, and a weight of the site
pub record IsBirth (site : ℕ) (before : List Record) (format number : ℕ) (weights : List ℕ) (rows : List Row) : Type 0 where
  pub first : before ≡ []
  pub one : format ≡ 1
  pub of_site : number ≡ site
  pub known : is_among site weights (site ∷ []) ≡ true
  pub few : length weights ≤ 16
  pub weighed : list_all (λ w. nat_le 1 w && nat_le w 1000) weights ≡ true
  pub ascending : names_ascend rows ≡ true

-- the incarnation behind the birth is at least 1; each later one is one more than the last
pub record IsInc (before : List Record) (inc : ℕ) : Type 0 where
  pub born : before ≢ []
  pub first : logged_inc before ≡ 0 → 1 ≤ inc
  pub next : 1 ≤ logged_inc before → inc ≡ suc (logged_inc before)

-- a vote is the transaction's first record, and none of its locks conflicts with one of an undecided voter
pub record IsVote (site : ℕ) (before : List Record) (t : Txn) (ops : List NumOp) : Type 0 where
  pub known : is_known site before t ≡ true
  pub fresh : state_of t before ≡ Q
  pub not_joined : last_elected t before ≡ 1
  pub ascending : ops_ascend 0 ops ≡ true
  pub few : list_all (λ o. nat_le o.n 64) ops ≡ true
  pub free : list_all (is_free t before) ops ≡ true

-- the numbers of the joins of a transaction rise, from 2 on
pub record IsJoin (site : ℕ) (before : List Record) (t : Txn) (n : ℕ) : Type 0 where
  pub known : is_known site before t ≡ true
  pub rises : last_elected t before < n

-- an attempt of an undecided transaction has the number of the last join, once; the first attempt commits, behind the vote
pub record IsAttempt (site : ℕ) (before : List Record) (t : Txn) (n : ℕ) (dir : Dir) : Type 0 where
  pub known : is_known site before t ≡ true
  pub undecided : is_undecided t before ≡ true
  pub elected : n ≡ last_elected t before
  pub rises : last_attempt t before < n
  pub first : n ≡ 1 → (has_voted t before ≡ true) × (dir ≡ Commit)

-- one decision; a commit stands behind the vote
pub record IsDecision (site : ℕ) (before : List Record) (t : Txn) (dir : Dir) : Type 0 where
  pub known : is_known site before t ≡ true
  pub undecided : is_undecided t before ≡ true
  pub voted : dir ≡ Commit → has_voted t before ≡ true

-- what a record has to meet over those before it
abbrev pub MayFollow : ℕ → List Record → Record → Type 0
MayFollow site before (log.Birth format number weights rows) = IsBirth site before format number weights rows
MayFollow site before (log.Inc inc) = IsInc before inc
MayFollow site before (log.Vote t ops) = IsVote site before t ops
MayFollow site before (log.Join t n) = IsJoin site before t n
MayFollow site before (log.Attempt t n dir) = IsAttempt site before t n dir
MayFollow site before (log.Decision t dir) = IsDecision site before t dir

-- each of these records may follow those before it
abbrev pub OrderlyAfter : ℕ → List Record → List Record → Type 0
OrderlyAfter site before [] = Unit {0}
OrderlyAfter site before (r ∷ rest) = MayFollow site before r × OrderlyAfter site (before ++ r ∷ []) rest

-- the records are the log of the site
abbrev pub IsOrderly : ℕ → List Record → Type 0
IsOrderly site records = OrderlyAfter site [] records
