-- What asks a site for an attempt of its own, or to commit, as the rules of its steps say it; and that the guards by which a
-- step tests whether that may be recorded do not fail there in a legal history.
use Rattle.std.specs.Prelude.{◌≡◌, ◌<◌, ◌⊎◌, ◌∷◌, [], ℕ, true, List, Some}
use Rattle.e3_types.specs.declared.entries.Entry.{Entry}
use Rattle.e3_types.specs.declared.entries.Input.{Input}
use Rattle.e3_types.specs.declared.entries.Input.TheVariants as input
use Rattle.e3_types.specs.declared.messages.Message.TheVariants as msg
use Rattle.e3_types.specs.declared.messages.Packet.{Packet}
use Rattle.e3_types.specs.declared.records.Record.TheVariants as log
use Rattle.e3_types.specs.declared.scenarios.Scenario.{Scenario}
use Rattle.e3_types.specs.declared.transactions.Dir.TheVariants.{Commit}
use Rattle.e3_types.specs.declared.transactions.State.{State}
use Rattle.e3_types.specs.declared.transactions.State.TheVariants.{Q, W}
use Rattle.e3_types.specs.declared.transactions.Txn.{Txn}
use Rattle.e3_types.specs.declared.verdicts.SiteReport.{SiteReport}
use Rattle.e3_types.specs.declared.verdicts.Verdict.{Verdict}
use Rattle.e3_types.specs.declared.verdicts.Verdict.TheVariants as verdict
use Rattle.e3_types.specs.Verdicts.{verdict_of}
use Rattle.e3_world.specs.declared.lives.At.{At}
use Rattle.e3_world.specs.declared.lives.Made.{Made}
use Rattle.e3_world.specs.Elections.{all_reported, election_in_progress, take_report}
use Rattle.e3_world.specs.Gatherings.{Election, Round}
use Rattle.e3_world.specs.Given.{IsGiven}
use Rattle.e3_world.specs.Items.{is_up_at}
use Rattle.e3_world.specs.Legal.{IsDue, IsLegal}
use Rattle.e3_world.specs.Lives.{life_at}
use Rattle.e3_world.specs.Making.{nothing, state_now, elected_now, attempt_now, may_attempt, may_decide, and_record, and_vote}
use Rattle.e3_world.specs.Moves.{log_of, moves_of, unnumbered_input}
use Rattle.e3_world.specs.Logs.{has_voted}
use Rattle.e3_world.specs.Rounds.{round_in_progress}

-- where a site takes an input behind a history: what its step reads
abbrev pub place_of : Scenario → List Entry → ℕ → Input → At
place_of sc h site i = record { weights = sc.weights; site = site; life = life_at (moves_of sc h site); input = unnumbered_input i }

-- the input is a report that completes those of the site's own election of this number
pub record IsLastReport (a : At) (t : Txn) (n : ℕ) (e : Election) : Type 0 where
  pub packet : Packet
  pub taken : a.input ≡ input.Deliver packet
  pub state : State
  pub attempt : ℕ
  pub reports : packet.msg ≡ msg.Report t n state attempt
  pub was : Election
  pub in_progress : election_in_progress a.site a.life.inc t a.life.steps ≡ Some was
  pub counts : take_report was n (record { site = packet.«from»; state = state; attempt = attempt }) ≡ Some e
  pub complete : all_reported e ≡ true

-- what a site reports of itself
abbrev pub own_report : At → Txn → SiteReport
own_report a t = record { site = a.site; state = state_now a t nothing; attempt = attempt_now a t nothing }

-- the verdict is to pre-commit or to pre-abort
abbrev pub IsToAttempt : Verdict → Type 0
IsToAttempt v = (v ≡ verdict.PreCommit) ⊎ (v ≡ verdict.PreAbort)

-- What asks a site for an attempt of its own under a number, where its step has made so much: a yes that may be the last, to
-- the coordinator in w; a commit at the only site of its transaction, which votes; the last report of its election; or that
-- it is the only member of its group, and joins the number.
pub data AsksAttempt (a : At) (t : Txn) : ℕ → Made → Type 0 where
  LastYes : state_now a t nothing ≡ W → elected_now a t nothing ≡ 1 → AsksAttempt a t 1 nothing
  OnlySite : state_now a t nothing ≡ Q → elected_now a t nothing ≡ 1 → AsksAttempt a t 1 (and_vote a t nothing)
  LastReport : (n : ℕ) (e : Election) → IsLastReport a t n e → IsToAttempt (verdict_of a.weights t.sites e.reports) → AsksAttempt a t n nothing
  OnlyMember : (n : ℕ) → elected_now a t nothing < n → IsToAttempt (verdict_of a.weights t.sites (own_report a t ∷ [])) →
      AsksAttempt a t n (and_record (log.Join t n) nothing)

-- What asks a site to commit: another site decided so; its own round is to commit; or so is the verdict of its election, over
-- the reports of its group, or over its own where it is the only member.
pub data AsksCommit (a : At) (t : Txn) : Type 0 where
  Decided : (packet : Packet) → a.input ≡ input.Deliver packet → packet.msg ≡ msg.Decide t Commit → AsksCommit a t
  OwnRound : (r : Round) → round_in_progress a.site t a.life.steps ≡ Some r → r.dir ≡ Commit → AsksCommit a t
  Concluded : (n : ℕ) (e : Election) → IsLastReport a t n e → verdict_of a.weights t.sites e.reports ≡ verdict.Commit → AsksCommit a t
  ConcludedAlone : verdict_of a.weights t.sites (own_report a t ∷ []) ≡ verdict.Commit → AsksCommit a t

-- A site that is asked for an attempt of its own may record it: it is undecided, joined this number last, and did not attempt
-- it yet.
abbrev pub AttemptsAreOpen : Type 0
AttemptsAreOpen = (sc : Scenario) (h : List Entry) (site : ℕ) (i : Input) (t : Txn) (n : ℕ) (made : Made) → IsGiven sc → IsLegal sc h →
    is_up_at h site ≡ true → IsDue sc h site i → AsksAttempt (place_of sc h site i) t n made → may_attempt (place_of sc h site i) t n made ≡ true

-- A site that gathers acknowledgements of its own attempt may record the decision, whenever they are a quorum: it is undecided,
-- and has voted where the attempt is to commit.
abbrev pub RoundsAreOpen : Type 0
RoundsAreOpen = (sc : Scenario) (h : List Entry) (site : ℕ) (i : Input) (t : Txn) (r : Round) → IsGiven sc → IsLegal sc h →
    is_up_at h site ≡ true → IsDue sc h site i → round_in_progress site t (place_of sc h site i).life.steps ≡ Some r →
    may_decide (place_of sc h site i) t r.dir nothing ≡ true

-- A site that is asked to commit has voted. So it may record the commit where it is undecided.
abbrev pub CommitsAreVoted : Type 0
CommitsAreVoted = (sc : Scenario) (h : List Entry) (site : ℕ) (i : Input) (t : Txn) → IsGiven sc → IsLegal sc h →
    is_up_at h site ≡ true → IsDue sc h site i → AsksCommit (place_of sc h site i) t → has_voted t (log_of sc h site) ≡ true
