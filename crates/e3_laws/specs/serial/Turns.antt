-- How the records of each transaction follow one another in a log: the numbers of its joins rise, each attempt is of the last
-- join, nothing but joins stands behind its decision, and a commit stands behind its vote.
use Rattle.std.specs.Prelude.{◌≡◌, ◌<◌, ◌++◌, ◌∷◌, [], ℕ, true, List}
use Rattle.e3_types.specs.declared.entries.Entry.{Entry}
use Rattle.e3_types.specs.declared.records.Record.{Record}
use Rattle.e3_types.specs.declared.records.Record.TheVariants as log
use Rattle.e3_types.specs.declared.scenarios.Scenario.{Scenario}
use Rattle.e3_types.specs.declared.transactions.Dir.{Dir}
use Rattle.e3_types.specs.declared.transactions.Dir.TheVariants.{Commit}
use Rattle.e3_types.specs.declared.transactions.State.TheVariants.{Q}
use Rattle.e3_types.specs.declared.transactions.Txn.{Txn}
use Rattle.e3_world.specs.Given.{IsGiven}
use Rattle.e3_world.specs.Legal.{IsLegal}
use Rattle.e3_world.specs.Logs.{last_elected, last_attempt, has_voted, state_of, is_undecided}
use Rattle.e3_world.specs.Moves.{log_of}

-- a vote is the transaction's first record
pub record VoteInTurn (before : List Record) (t : Txn) : Type 0 where
  pub fresh : state_of t before ≡ Q
  pub not_joined : last_elected t before ≡ 1

-- an attempt of an undecided transaction has the number of the last join, once; the first attempt commits, behind the vote
pub record AttemptInTurn (before : List Record) (t : Txn) (n : ℕ) (dir : Dir) : Type 0 where
  pub undecided : is_undecided t before ≡ true
  pub elected : n ≡ last_elected t before
  pub rises : last_attempt t before < n
  pub first : n ≡ 1 → (has_voted t before ≡ true) × (dir ≡ Commit)

-- one decision; a commit stands behind the vote
pub record DecisionInTurn (before : List Record) (t : Txn) (dir : Dir) : Type 0 where
  pub undecided : is_undecided t before ≡ true
  pub voted : dir ≡ Commit → has_voted t before ≡ true

-- what a record has to meet over those of its transaction before it
abbrev pub ComesInTurn : List Record → Record → Type 0
ComesInTurn before (log.Vote t ops) = VoteInTurn before t
ComesInTurn before (log.Join t n) = last_elected t before < n
ComesInTurn before (log.Attempt t n dir) = AttemptInTurn before t n dir
ComesInTurn before (log.Decision t dir) = DecisionInTurn before t dir
ComesInTurn before r = Unit {0}

-- each of these records does, over those before it
abbrev pub InTurnAfter : List Record → List Record → Type 0
InTurnAfter before [] = Unit {0}
InTurnAfter before (r ∷ rest) = ComesInTurn before r × InTurnAfter (before ++ r ∷ []) rest

-- in the log of each site in each legal history of a scenario that keeps its rules
abbrev pub RecordsComeInTurn : Type 0
RecordsComeInTurn = (sc : Scenario) (h : List Entry) (site : ℕ) → IsGiven sc → IsLegal sc h → InTurnAfter [] (log_of sc h site)
