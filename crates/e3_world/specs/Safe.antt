-- What a history keeps: no two sites decide differently, a commit has every vote, what was told stands, and there is
-- one order. The first, second and fourth are said of trails.
use Rattle.std.specs.Prelude.{◌≡◌, ◌++◌, ◌∷◌, [], ℕ, false, List, Contains}
use Rattle.std.specs.List.{flat_map}
use Rattle.e3_types.specs.declared.entries.Act.{Act}
use Rattle.e3_types.specs.declared.entries.Act.TheVariants.{Step}
use Rattle.e3_types.specs.declared.transactions.Dir.{Dir}
use Rattle.e3_types.specs.declared.transactions.Dir.TheVariants.{Abort, Commit}
use Rattle.e3_types.specs.declared.entries.Entry.{Entry}
use Rattle.e3_types.specs.declared.messages.Message.{Message}
use Rattle.e3_types.specs.declared.transactions.NumOp.{NumOp}
use Rattle.e3_types.specs.declared.entries.Refusal.{Refusal}
use Rattle.e3_types.specs.declared.scenarios.Scenario.{Scenario}
use Rattle.e3_types.specs.declared.transactions.State.{State}
use Rattle.e3_types.specs.declared.transactions.State.TheVariants.{C, A}
use Rattle.e3_types.specs.declared.entries.Told.{Told}
use Rattle.e3_types.specs.declared.transactions.Txn.{Txn}
use Rattle.e3_types.specs.declared.records.Record.TheVariants as log
use Rattle.e3_types.specs.declared.messages.Message.TheVariants as msg
use Rattle.e3_types.specs.declared.entries.Refusal.TheVariants as refusal
use Rattle.e3_types.specs.declared.entries.Told.TheVariants as told
use Rattle.e3_types.specs.declared.verdicts.Verdict.TheVariants as verdict
use Rattle.e3_world.specs.Legal.{IsLegal}
use Rattle.e3_world.specs.Moves.{Move, log_of, trail_of, Placed, all_records}
use Rattle.e3_world.specs.Serial.{IsSerial}

-- no two decisions of one transaction differ, in all logs
abbrev pub Agrees : List Move → Type 0
Agrees trail = (s u : ℕ) (t : Txn) (d e : Dir) →
    Contains (all_records trail) (record { site = s; entered = log.Decision t d }) →
    Contains (all_records trail) (record { site = u; entered = log.Decision t e }) → d ≡ e

-- where a commit stands in a log, every site of the transaction has its vote before it, in an earlier move or in the same
abbrev pub AllVoted : List Move → Type 0
AllVoted trail = (s : ℕ) (t : Txn) (before after : List Placed) →
    all_records trail ≡ before ++ record { site = s; entered = log.Decision t Commit } ∷ after →
    (u : ℕ) → Contains t.sites u → (ops : List NumOp) × Contains before (record { site = u; entered = log.Vote t ops })

-- a decision of a transaction that is said
pub record Said : Type 0 where
  pub txn : Txn
  pub dir : Dir

-- this decision is said
abbrev pub says : Txn → Dir → List Said
says t dir = record { txn = t; dir = dir } ∷ []

-- a state that is final says its decision
abbrev pub said_state : Txn → State → List Said
said_state t C = says t Commit
said_state t A = says t Abort
said_state t _ = []

-- the decision that a refusal says
abbrev pub said_refusal : Txn → Refusal → List Said
said_refusal t (refusal.Over dir) = says t dir
said_refusal t (refusal.Died older) = says t Abort
said_refusal t (refusal.Doomed site had now) = says t Abort
said_refusal t _ = []

-- the decisions that an event says
abbrev pub said_told : Told → List Said
said_told (told.Ended t dir) = says t dir
said_told (told.Died t older) = says t Abort
said_told (told.Doomed t site had now) = says t Abort
said_told (told.Refused t why) = said_refusal t why
said_told (told.Verdict t n verdict.Abort) = says t Abort
said_told (told.Verdict t n verdict.Commit) = says t Commit
said_told (told.Kept t st) = said_state t st
said_told _ = []

-- the decisions that a message says
abbrev pub said_msg : Message → List Said
said_msg (msg.Decide t dir) = says t dir
said_msg (msg.Vote t false) = says t Abort
said_msg (msg.Died t n older) = says t Abort
said_msg (msg.Report t n st attempt) = said_state t st
said_msg _ = []

-- the decisions that a step says
abbrev pub said_act : Act → List Said
said_act (Step i records outs events) = flat_map said_told events ++ flat_map (λ p. said_msg p.msg) outs
said_act _ = []

-- what a step says stands in its site's log with that step, and in every legal history that goes on
abbrev pub ToldStands : Scenario → List Entry → Type 0
ToldStands sc history = (before after : List Entry) (e : Entry) (t : Txn) (d : Dir) →
    history ≡ before ++ e ∷ after → Contains (said_act e.act) (record { txn = t; dir = d }) →
    Contains (log_of sc (before ++ e ∷ []) e.owner) (log.Decision t d)
    × ((more : List Entry) → IsLegal sc (before ++ e ∷ more) →
    Contains (log_of sc (before ++ e ∷ more) e.owner) (log.Decision t d))

-- all of it
pub record IsSafe (sc : Scenario) (history : List Entry) : Type 0 where
  pub agree : Agrees (trail_of sc history)
  pub voted : AllVoted (trail_of sc history)
  pub told : ToldStands sc history
  pub serial : IsSerial sc (trail_of sc history)
