-- The end of an election and of an attempt, exactly.
use Rattle.std.proofs.Common.{◌≡◌, ◌==◌, ◌&&◌, ◌++◌, ◌∷◌, [], ℕ, Bool, true, false, List, Some, None, refl, ap, ◌∙◌, append-nil, map, nat_lt}
use Rattle.e3_types.specs.declared.entries.Told.{Told}
use Rattle.e3_types.specs.declared.entries.Told.TheVariants as told
use Rattle.e3_types.specs.declared.messages.Message.{Message}
use Rattle.e3_types.specs.declared.messages.Message.TheVariants as msg
use Rattle.e3_types.specs.declared.records.Record.TheVariants as log
use Rattle.e3_types.specs.declared.transactions.Dir.{Dir}
use Rattle.e3_types.specs.declared.transactions.Dir.TheVariants.{Abort, Commit}
use Rattle.e3_types.specs.declared.transactions.State.{State}
use Rattle.e3_types.specs.declared.transactions.Txn.{Txn}
use Rattle.e3_types.specs.declared.verdicts.SiteReport.{SiteReport}
use Rattle.e3_types.specs.declared.verdicts.Verdict.{Verdict}
use Rattle.e3_types.specs.declared.verdicts.Verdict.TheVariants as verdict
use Rattle.e3_types.specs.Quorums.{is_quorum}
use Rattle.e3_types.specs.Same.{same_dir}
use Rattle.e3_types.specs.Sets.{others}
use Rattle.e3_types.specs.Verdicts.{verdict_of}
use Rattle.e3_world.specs.Gatherings.{Election, Round}
use Rattle.e3_world.specs.declared.lives.At.{At}
use Rattle.e3_world.specs.declared.lives.Made.{Made}
use Rattle.e3_world.specs.ElectionRules.{and_verdict}
use Rattle.e3_world.specs.Elections.{all_reported, election_in_progress, take_report}
use Rattle.e3_world.specs.Logs.{is_undecided, last_attempt, last_elected}
use Rattle.e3_world.specs.Making.{nothing, and_attempt, and_decide, and_record, and_tell, is_coordinator, is_present, may_attempt, may_decide}
use Rattle.e3_world.specs.Messages.{on_message}
use Rattle.e3_world.specs.Rounds.{count_ack, round_in_progress}
use Rattle.e3_world.specs.Steps.{on_input, step_at}
use Rattle.e3_laws.proofs.steps.Deciding.{AddsAnswers, step_adds_answers}
use Rattle.e3_laws.proofs.rounds.Phases.Rows.{Takes, by_message, cast_is, mail}

-- the verdict that asks for an attempt in this direction
abbrev pub pre_of : Dir → Verdict
pre_of Commit = verdict.PreCommit
pre_of Abort = verdict.PreAbort

-- the verdict that ends at once in this direction
abbrev pub final_of : Dir → Verdict
final_of Commit = verdict.Commit
final_of Abort = verdict.Abort

-- an event told changes nothing of what is read
may_is : (a : At) (t : Txn) (n : ℕ) (e : Told) →
    may_attempt a t n (and_tell e nothing) ≡ (is_undecided t a.life.log && last_elected t a.life.log == n && nat_lt (last_attempt t a.life.log) n)
may_is a t n e = ap (λ l. is_undecided t l && last_elected t l == n && nat_lt (last_attempt t l) n) (append-nil a.life.log)

-- an attempt of a site that is no quorum by itself
attempt_is : (a : At) (t : Txn) (n : ℕ) (dir : Dir) (to : List ℕ) (e : Told) → is_undecided t a.life.log ≡ true → (last_elected t a.life.log == n) ≡ true →
    nat_lt (last_attempt t a.life.log) n ≡ true → is_quorum a.weights (a.site ∷ []) t.sites ≡ false →
    and_attempt a t n dir to (and_tell e nothing)
    ≡ record { records = log.Attempt t n dir ∷ []; outs = map (mail a.site (msg.Pre t n dir)) (others a.site to); told = e ∷ []; own = [] }
attempt_is a t n dir to e undecided joined below alone =
    rw may (rw alone (cast_is a (msg.Pre t n dir) to (and_record (log.Attempt t n dir) (and_tell e nothing))))
  where
    may : may_attempt a t n (and_tell e nothing) ≡ true
    may = may_is a t n e ∙ rw (undecided, joined, below) refl

pub verdict_attempts : (a : At) (t : Txn) (n : ℕ) (group : List ℕ) (reports : List SiteReport) (dir : Dir) → verdict_of a.weights t.sites reports ≡ pre_of dir →
    and_verdict a t n group reports nothing ≡ and_attempt a t n dir group (and_tell (told.Verdict t n (pre_of dir)) nothing)
verdict_attempts a t n group reports Commit is = rw is refl
verdict_attempts a t n group reports Abort is = rw is refl

pub last_report : (a : At) (f : ℕ) (t : Txn) (n : ℕ) (st : State) (attempt : ℕ) (e more : Election) →
    election_in_progress a.site a.life.inc t a.life.steps ≡ Some e → take_report e n (record { site = f; state = st; attempt = attempt }) ≡ Some more →
    all_reported more ≡ true → on_message a f (msg.Report t n st attempt) nothing ≡ and_verdict a t n more.group more.reports nothing
last_report a f t n st attempt e more gathers taken all = rw gathers (rw taken (rw all refl))

-- the last report, where the verdict asks for an attempt
pub row_attempt : (a : At) (f : ℕ) (t : Txn) (n : ℕ) (st : State) (attempt : ℕ) (e more : Election) (dir : Dir) → Takes a f (msg.Report t n st attempt) →
    election_in_progress a.site a.life.inc t a.life.steps ≡ Some e → take_report e n (record { site = f; state = st; attempt = attempt }) ≡ Some more →
    all_reported more ≡ true → verdict_of a.weights t.sites more.reports ≡ pre_of dir → is_undecided t a.life.log ≡ true →
    (last_elected t a.life.log == n) ≡ true → nat_lt (last_attempt t a.life.log) n ≡ true → is_quorum a.weights (a.site ∷ []) t.sites ≡ false →
    step_at a ≡ record {
      records = log.Attempt t n dir ∷ [];
      outs = map (mail a.site (msg.Pre t n dir)) (others a.site more.group);
      told = told.Verdict t n (pre_of dir) ∷ [];
      own = [];
    }
row_attempt a f t n st attempt e more dir took gathers taken all is undecided joined below alone =
    by_message a f _ _ took (
    last_report a f t n st attempt e more gathers taken all
    ∙ verdict_attempts a t n more.group more.reports dir is
    ∙ attempt_is a t n dir more.group (told.Verdict t n (pre_of dir)) undecided joined below alone) refl refl

-- a step that takes a message, and what its rule makes
pub follows_message : (a : At) (f : ℕ) (m : Message) (made : Made) → Takes a f m → on_message a f m nothing ≡ made → made.own ≡ [] → AddsAnswers a made (step_at a)
follows_message a f m made took row none = step_adds_answers a made (
    ap (λ i. on_input a i nothing) took.is
    ∙ ap (λ g. on_message a g took.packet.msg nothing) took.sender
    ∙ ap (λ n. on_message a f n nothing) took.says ∙ row) none

-- what a decision makes, and what is sent behind it
abbrev pub decision_made : At → Txn → Dir → List ℕ → Made
decision_made a t dir to = record (and_decide a t dir nothing) { outs = (and_decide a t dir nothing).outs ++ map (mail a.site (msg.Decide t dir)) (others a.site to) }

decide_own : (a : At) (t : Txn) (dir : Dir) → (and_decide a t dir nothing).own ≡ []
decide_own a t dir = by (is_coordinator a t && is_present a t) refl
  where
    by : (b : Bool) → (is_coordinator a t && is_present a t) ≡ b → (and_decide a t dir nothing).own ≡ []
    by true is = rw is refl
    by false is = rw is refl

-- an acknowledgement that makes a quorum: the elector decides, and tells the others; behind it come answers
pub row_win : (a : At) (f : ℕ) (t : Txn) (n : ℕ) (dir : Dir) (r : Round) → Takes a f (msg.Ack t n dir) → round_in_progress a.site t a.life.steps ≡ Some r →
    ((count_ack r f n dir).n == n) ≡ true → same_dir (count_ack r f n dir).dir dir ≡ true → may_decide a t dir nothing ≡ true →
    is_quorum a.weights (a.site ∷ (count_ack r f n dir).acked) t.sites ≡ true → AddsAnswers a (decision_made a t dir (count_ack r f n dir).to) (step_at a)
row_win a f t n dir r took gathers same_n same_d may enough =
    let q : Round = count_ack r f n dir in
    follows_message a f (msg.Ack t n dir) _ took (rw gathers (rw (same_n, same_d, may, enough) (cast_is a (msg.Decide t dir) q.to (and_decide a t dir nothing)))) (decide_own a t dir)

-- an acknowledgement behind that: nothing
pub row_ack_late : (a : At) (f : ℕ) (t : Txn) (n : ℕ) (dir : Dir) → Takes a f (msg.Ack t n dir) → round_in_progress a.site t a.life.steps ≡ None → step_at a ≡ nothing
row_ack_late a f t n dir took none = by_message a f _ _ took (rw none refl) refl refl
