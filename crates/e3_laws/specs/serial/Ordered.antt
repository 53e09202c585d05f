-- What the order rests on: how the records of each log follow one another, and that the logs agree.
use Rattle.std.specs.Prelude.{◌≡◌, ◌≢◌, ◌++◌, ◌∷◌, [], ℕ, nat_lt, true, false, List, filter, fold, Contains}
use Rattle.std.specs.List.{list_all, list_any, AllByRecursion as Each}
use Rattle.e3_types.specs.declared.records.Record.{Record}
use Rattle.e3_types.specs.declared.records.Record.TheVariants as log
use Rattle.e3_types.specs.declared.scenarios.Scenario.{Scenario}
use Rattle.e3_types.specs.declared.transactions.Answer.{Answer}
use Rattle.e3_types.specs.declared.transactions.Dir.{Dir}
use Rattle.e3_types.specs.declared.transactions.Dir.TheVariants.{Commit}
use Rattle.e3_types.specs.declared.transactions.Key.{Key}
use Rattle.e3_types.specs.declared.transactions.NumOp.{NumOp}
use Rattle.e3_types.specs.declared.transactions.Op.TheVariants.{Read}
use Rattle.e3_types.specs.declared.transactions.Txn.{Txn}
use Rattle.e3_types.specs.Sets.{has_site}
use Rattle.e3_laws.specs.steps.Bounds.{IsHere}
use Rattle.e3_world.specs.Logs.{has_voted, is_undecided, table_of, row_value}
use Rattle.e3_world.specs.Moves.{Move, birth, moves_at, log_by, all_records}
use Rattle.e3_world.specs.Orderly.{ops_ascend, is_free}
use Rattle.e3_world.specs.Safe.{Agrees, AllVoted}
use Rattle.e3_world.specs.Serial.{World, run_op, replay, found_by, committed_in, commit_order, is_birth, is_committed}

-- A vote stands behind no vote and no decision of its transaction. Its operations ascend and are on the site's own keys,
-- and none conflicts with a vote that is undecided.
pub record VoteFollows (site : ℕ) (before : List Record) (t : Txn) (ops : List NumOp) : Type 0 where
  pub born : before ≢ []
  pub first : has_voted t before ≡ false
  pub undecided : is_undecided t before ≡ true
  pub ascending : ops_ascend 0 ops ≡ true
  pub free : list_all (is_free t before) ops ≡ true
  pub here : Each (IsHere site) ops
  pub member : has_site t.sites site ≡ true

-- a decision stands behind no other of its transaction, and a commit behind the vote
pub record DecisionFollows (before : List Record) (t : Txn) (dir : Dir) : Type 0 where
  pub born : before ≢ []
  pub undecided : is_undecided t before ≡ true
  pub voted : dir ≡ Commit → has_voted t before ≡ true

-- how a record follows those before it in the log of a site; the site's birth is the first, and no other
abbrev pub Follows : Scenario → ℕ → List Record → Record → Type 0
Follows sc site before (log.Birth format number weights rows) = (before ≡ []) × (log.Birth format number weights rows ≡ birth sc site)
Follows sc site before (log.Vote t ops) = VoteFollows site before t ops
Follows sc site before (log.Decision t dir) = DecisionFollows before t dir
Follows sc site before r = before ≢ []

-- each record of a site's log follows those before it
abbrev pub LogFollows : Scenario → ℕ → List Record → Type 0
LogFollows sc site records = (before after : List Record) (r : Record) → records ≡ before ++ r ∷ after → Follows sc site before r

-- each log follows, and all agree
pub record IsOrdered (sc : Scenario) (trail : List Move) : Type 0 where
  pub logs : (site : ℕ) → LogFollows sc site (log_by (moves_at site trail))
  pub agree : Agrees trail
  pub voted : AllVoted trail

-- what a log's table has at a key
abbrev pub world_of : List Record → World
world_of records key = row_value key.name (table_of records)

-- what the n-th operation of a vote finds at a key: the table of the log before the vote, with the vote's own writes before it
abbrev pub seen_by : List Record → List NumOp → ℕ → Key → Answer
seen_by before ops n key = fold run_op (world_of before) (filter (λ o. nat_lt o.n n) ops) key

-- each site's table is the replay of what its own log commits
abbrev pub TablesReplay : Scenario → List Move → Type 0
TablesReplay sc trail = (site : ℕ) (name : List ℕ) → list_any is_birth (log_by (moves_at site trail)) ≡ true →
    row_value name (table_of (log_by (moves_at site trail)))
    ≡ replay sc (all_records trail) (committed_in (log_by (moves_at site trail)) (commit_order (all_records trail)))
    (record { site = site; name = name })

-- what a read in the vote of a committed transaction finds at its site is what it finds in the replay
abbrev pub VotesReplay : Scenario → List Move → Type 0
VotesReplay sc trail = (site : ℕ) (before after : List Record) (t : Txn) (ops : List NumOp) (n : ℕ) (key : Key) →
    log_by (moves_at site trail) ≡ before ++ log.Vote t ops ∷ after → is_committed t (all_records trail) ≡ true →
    Contains ops (record { n = n; op = Read key }) → seen_by before ops n key ≡ found_by sc (all_records trail) t n key
