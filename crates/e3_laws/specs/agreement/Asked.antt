-- What asks a site for an attempt of its own, and for a decision, as the tables of the protocol have it; and that in a legal
-- history a step does what it is asked for.
use Rattle.std.specs.Prelude.{◌≡◌, ◌++◌, ◌∷◌, [], ℕ, true, false, List, Some, None, Contains}
use Rattle.e3_types.specs.declared.entries.Entry.{Entry}
use Rattle.e3_types.specs.declared.entries.Input.{Input}
use Rattle.e3_types.specs.declared.entries.Input.TheVariants as input
use Rattle.e3_types.specs.declared.entries.Told.TheVariants as told
use Rattle.e3_types.specs.declared.messages.Message.TheVariants as msg
use Rattle.e3_types.specs.declared.messages.Packet.{Packet}
use Rattle.e3_types.specs.declared.records.Record.TheVariants as log
use Rattle.e3_types.specs.declared.scenarios.Scenario.{Scenario}
use Rattle.e3_types.specs.declared.transactions.Dir.{Dir}
use Rattle.e3_types.specs.declared.transactions.Dir.TheVariants.{Abort, Commit}
use Rattle.e3_types.specs.declared.transactions.State.TheVariants.{W}
use Rattle.e3_types.specs.declared.transactions.Txn.{Txn}
use Rattle.e3_types.specs.declared.verdicts.Verdict.{Verdict}
use Rattle.e3_types.specs.declared.verdicts.Verdict.TheVariants as verdict
use Rattle.e3_types.specs.Quorums.{is_quorum}
use Rattle.e3_types.specs.Sets.{is_within, others}
use Rattle.e3_world.specs.declared.lives.At.{At}
use Rattle.e3_world.specs.Gatherings.{Round}
use Rattle.e3_world.specs.Given.{IsGiven}
use Rattle.e3_world.specs.Items.{is_up_at}
use Rattle.e3_world.specs.Legal.{IsDue, IsLegal, made_by}
use Rattle.e3_world.specs.Making.{nothing, steps_now, state_now, elected_now, is_coordinator}
use Rattle.e3_world.specs.Moves.{log_of}
use Rattle.e3_world.specs.Rounds.{count_ack, round_in_progress}
use Rattle.e3_world.specs.Steps.{refuse, step_at}
use Rattle.e3_world.specs.Votes.{yes_votes}
use Rattle.e3_laws.specs.agreement.Guards.{place_of}

-- the verdict to attempt in this direction, and the one to decide so
abbrev pub attempt_verdict : Dir → Verdict
attempt_verdict Commit = verdict.PreCommit
attempt_verdict Abort = verdict.PreAbort

abbrev pub decision_verdict : Dir → Verdict
decision_verdict Commit = verdict.Commit
decision_verdict Abort = verdict.Abort

-- What asks a site for an attempt of its own: the last yes, at the coordinator in w with Last_Elected 1; a commit that is not
-- refused, at the only site of its transaction, with Last_Elected 1; or a verdict of its election, which its step tells.
pub data AsksToAttempt (a : At) (t : Txn) : ℕ → Dir → Type 0 where
  ByLastYes : (packet : Packet) (came : List ℕ) → a.input ≡ input.Deliver packet → packet.msg ≡ msg.Vote t true → is_coordinator a t ≡ true →
      state_now a t nothing ≡ W → elected_now a t nothing ≡ 1 → yes_votes t (steps_now a nothing) ≡ Some came →
      is_within (others a.site t.sites) came ≡ true → AsksToAttempt a t 1 Commit
  ByOwnCommit : a.input ≡ input.Commit t → refuse a t false nothing ≡ None → others a.site t.sites ≡ [] → elected_now a t nothing ≡ 1 → AsksToAttempt a t 1 Commit
  ByVerdict : (n : ℕ) (dir : Dir) → Contains (step_at a).told (told.Verdict t n (attempt_verdict dir)) → AsksToAttempt a t n dir

-- What asks a site for a decision: one that another site sends; an acknowledgement with which those who attempted in its own
-- round are a quorum; or a verdict of its election, which its step tells.
pub data AsksToDecide (a : At) (t : Txn) : Dir → Type 0 where
  ByDecision : (packet : Packet) (dir : Dir) → a.input ≡ input.Deliver packet → packet.msg ≡ msg.Decide t dir → AsksToDecide a t dir
  ByQuorum : (packet : Packet) (r : Round) → a.input ≡ input.Deliver packet → packet.msg ≡ msg.Ack t r.n r.dir →
      round_in_progress a.site t a.life.steps ≡ Some r → is_quorum a.weights (a.site ∷ (count_ack r packet.«from» r.n r.dir).acked) t.sites ≡ true →
      AsksToDecide a t r.dir
  ByFinalVerdict : (n : ℕ) (dir : Dir) → Contains (step_at a).told (told.Verdict t n (decision_verdict dir)) → AsksToDecide a t dir

-- A step that is asked for an attempt records it.
abbrev pub AttemptsAreMade : Type 0
AttemptsAreMade = (sc : Scenario) (h : List Entry) (site : ℕ) (i : Input) (t : Txn) (n : ℕ) (dir : Dir) → IsGiven sc → IsLegal sc h →
    is_up_at h site ≡ true → IsDue sc h site i → AsksToAttempt (place_of sc h site i) t n dir →
    Contains (made_by sc h site i).records (log.Attempt t n dir)

-- Behind a step that is asked for a decision the site's log has it: it is recorded, or it was.
abbrev pub DecisionsAreMade : Type 0
DecisionsAreMade = (sc : Scenario) (h : List Entry) (site : ℕ) (i : Input) (t : Txn) (dir : Dir) → IsGiven sc → IsLegal sc h →
    is_up_at h site ≡ true → IsDue sc h site i → AsksToDecide (place_of sc h site i) t dir →
    Contains (log_of sc h site ++ (made_by sc h site i).records) (log.Decision t dir)
