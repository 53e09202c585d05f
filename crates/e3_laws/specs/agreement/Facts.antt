-- What the elections, the attempts and the decisions of every legal history keep: what makes agreement survive recovery.
use Rattle.std.specs.Prelude.{◌≡◌, ◌<◌, ◌≤◌, ◌==◌, ◌&&◌, ◌⊎◌, ◌++◌, ◌∷◌, ℕ, Bool, true, false, List, count_by, Contains}
use Rattle.e3_types.specs.declared.entries.Entry.{Entry}
use Rattle.e3_types.specs.declared.messages.Message.{Message}
use Rattle.e3_types.specs.declared.messages.Message.TheVariants as msg
use Rattle.e3_types.specs.declared.messages.Packet.{Packet}
use Rattle.e3_types.specs.declared.records.Record.{Record}
use Rattle.e3_types.specs.declared.records.Record.TheVariants as log
use Rattle.e3_types.specs.declared.scenarios.Scenario.{Scenario}
use Rattle.e3_types.specs.declared.transactions.Dir.{Dir}
use Rattle.e3_types.specs.declared.transactions.Dir.TheVariants.{Abort, Commit}
use Rattle.e3_types.specs.declared.transactions.NumOp.{NumOp}
use Rattle.e3_types.specs.declared.transactions.State.{State}
use Rattle.e3_types.specs.declared.transactions.Txn.{Txn}
use Rattle.e3_types.specs.Same.{same_txn}
use Rattle.e3_world.specs.Given.{IsGiven}
use Rattle.e3_world.specs.Legal.{IsLegal}
use Rattle.e3_world.specs.Logs.{last_elected, last_attempt, has_voted, state_of}
use Rattle.e3_world.specs.Moves.{log_of, trail_of}
use Rattle.e3_world.specs.Packets.{sent}
use Rattle.e3_world.specs.Safe.{said_act}
use Rattle.e3_laws.specs.agreement.Logs.{IsIn, Join}
use Rattle.e3_laws.specs.agreement.Marks.{log_of as notes_at}
use Rattle.e3_laws.specs.agreement.Weights.{is_majority}
use Rattle.e3_laws.specs.agreement.Trails.{marks_of}

-- the site's log has the record
abbrev pub Has : Scenario → List Entry → ℕ → Record → Type 0
Has sc h s r = Contains (log_of sc h s) r

-- the record stands in the site's log, behind these records
abbrev pub StandsBehind : Scenario → List Entry → ℕ → List Record → Record → Type 0
StandsBehind sc h s before r = (after : List Record) × (log_of sc h s ≡ before ++ r ∷ after)

-- the site sent this message
abbrev pub HasSent : List Entry → ℕ → Message → Type 0
HasSent h s m = (packet : Packet) × Contains (sent h) packet × (packet.«from» ≡ s) × (packet.msg ≡ m)

-- the message is a report for this number of the transaction
abbrev pub is_report_for : Txn → ℕ → Message → Bool
is_report_for t n (msg.Report u m st attempt) = n == m && same_txn t u
is_report_for t n _ = false

-- the packet has one
abbrev pub reports_in : Txn → ℕ → Packet → Bool
reports_in t n packet = is_report_for t n packet.msg

-- the packet has one, and is of this site
abbrev pub reports_of : ℕ → Txn → ℕ → Packet → Bool
reports_of s t n packet = packet.«from» == s && reports_in t n packet

-- the first site reported to the second one for this number
abbrev pub HasReportedTo : List Entry → Txn → ℕ → ℕ → ℕ → Type 0
HasReportedTo h t n x s =
    (packet : Packet) × Contains (sent h) packet × (packet.«from» ≡ x) × (packet.to ≡ s) × (st : State) × (a : ℕ) × (packet.msg ≡ msg.Report t n st a)

-- the site joined the number as its elector: by the last answer to its call, or alone in its group
abbrev pub JoinedAsElector : Scenario → List Entry → Txn → ℕ → ℕ → Type 0
JoinedAsElector sc h t s n = IsIn (Join n s) (notes_at s (marks_of sc t (trail_of sc h)))

-- the site is an elector of this number, and sites with more than half of the weight reported to it, itself counted
pub record HasQuorumOfReports (sc : Scenario) (h : List Entry) (t : Txn) (n s : ℕ) : Type 0 where
  pub led : JoinedAsElector sc h t s n
  pub group : List ℕ
  pub enough : is_majority sc.weights t.sites group ≡ true
  pub reports : (x : ℕ) → Contains group x → (x ≡ s) ⊎ HasReportedTo h t n x s

-- the number was tried with this direction: a log has the attempt, or a site asked for it or acknowledged it
pub data IsTried (sc : Scenario) (h : List Entry) (t : Txn) (n : ℕ) (d : Dir) : Type 0 where
  Logged : (s : ℕ) → Has sc h s (log.Attempt t n d) → IsTried sc h t n d
  Asked : (s : ℕ) → HasSent h s (msg.Pre t n d) → IsTried sc h t n d
  Acknowledged : (s : ℕ) → HasSent h s (msg.Ack t n d) → IsTried sc h t n d

-- sites with more than half of the weight of the transaction's sites have this attempt in their logs
pub record QuorumTried (sc : Scenario) (h : List Entry) (t : Txn) (n : ℕ) (d : Dir) : Type 0 where
  pub group : List ℕ
  pub enough : is_majority sc.weights t.sites group ≡ true
  pub all : (s : ℕ) → Contains group s → Has sc h s (log.Attempt t n d)

-- the decision stands in a log, or a step said it by an event or a packet
pub data IsDecided (sc : Scenario) (h : List Entry) (t : Txn) (d : Dir) : Type 0 where
  Entered : (s : ℕ) → Has sc h s (log.Decision t d) → IsDecided sc h t d
  WasSaid : (e : Entry) → Contains h e → Contains (said_act e.act) (record { txn = t; dir = d }) → IsDecided sc h t d

-- a site of the transaction aborted without a vote
abbrev pub SomeRefused : Scenario → List Entry → Txn → Type 0
SomeRefused sc h t = (s : ℕ) × Contains t.sites s × Has sc h s (log.Decision t Abort) × ((ops : List NumOp) → Has sc h s (log.Vote t ops) → ⊥)

-- the coordinator aborted without an attempt
abbrev pub CalledOff : Scenario → List Entry → Txn → Type 0
CalledOff sc h t = Has sc h t.site (log.Decision t Abort) × (last_attempt t (log_of sc h t.site) ≡ 0)

-- The numbers that a site joins rise, from above 1.
abbrev pub NumbersRise : Type 0
NumbersRise = (sc : Scenario) (h : List Entry) (t : Txn) (s n : ℕ) (before : List Record) → IsGiven sc → IsLegal sc h →
    StandsBehind sc h s before (log.Join t n) → last_elected t before < n

-- A site that called the number of an election reports in no election of that number.
abbrev pub ElectorsReportNothing : Type 0
ElectorsReportNothing = (sc : Scenario) (h : List Entry) (t : Txn) (s n : ℕ) (st : State) (a : ℕ) → IsGiven sc → IsLegal sc h →
    HasSent h s (msg.Elected t n) → HasSent h s (msg.Report t n st a) → ⊥

-- A site that joined a number as its elector reports in no election of that number, also where it called no other site.
abbrev pub ElectorsOfOwnReportNothing : Type 0
ElectorsOfOwnReportNothing = (sc : Scenario) (h : List Entry) (t : Txn) (s n : ℕ) (st : State) (a : ℕ) → IsGiven sc → IsLegal sc h →
    JoinedAsElector sc h t s n → HasSent h s (msg.Report t n st a) → ⊥

-- A site reports at most once for a number.
abbrev pub ReportsAreOnce : Type 0
ReportsAreOnce = (sc : Scenario) (h : List Entry) (t : Txn) (s n : ℕ) → IsGiven sc → IsLegal sc h → count_by (reports_of s t n) (sent h) ≤ 1

-- Two electors of one number cannot both have the reports of a quorum.
abbrev pub ElectorsAreOne : Type 0
ElectorsAreOne = (sc : Scenario) (h : List Entry) (t : Txn) (n s u : ℕ) → IsGiven sc → IsLegal sc h →
    HasQuorumOfReports sc h t n s → HasQuorumOfReports sc h t n u → s ≡ u

-- A site is asked for an attempt of a number above 1 only by one that it reported to for that number.
abbrev pub AskedHaveReported : Type 0
AskedHaveReported = (sc : Scenario) (h : List Entry) (t : Txn) (n : ℕ) (d : Dir) (packet : Packet) → IsGiven sc → IsLegal sc h →
    Contains (sent h) packet → packet.msg ≡ msg.Pre t n d → 2 ≤ n → HasReportedTo h t n packet.to packet.«from»

-- A site attempts the number that it joined last, or 1, and each number once.
abbrev pub AttemptsFollowJoins : Type 0
AttemptsFollowJoins = (sc : Scenario) (h : List Entry) (t : Txn) (s n : ℕ) (d : Dir) (before : List Record) → IsGiven sc → IsLegal sc h →
    StandsBehind sc h s before (log.Attempt t n d) →
    (last_elected t before ≡ n) × (last_attempt t before < n) × ((n ≡ 1) ⊎ Contains before (log.Join t n))

-- No site attempts a number above the last that it joined.
abbrev pub AttemptsStayBelow : Type 0
AttemptsStayBelow = (sc : Scenario) (h : List Entry) (t : Txn) (s : ℕ) → IsGiven sc → IsLegal sc h →
    last_attempt t (log_of sc h s) ≤ last_elected t (log_of sc h s)

-- Whatever is tried under one number has one direction.
abbrev pub OneDirectionPerNumber : Type 0
OneDirectionPerNumber = (sc : Scenario) (h : List Entry) (t : Txn) (n : ℕ) (d e : Dir) → IsGiven sc → IsLegal sc h →
    IsTried sc h t n d → IsTried sc h t n e → d ≡ e

-- A report says the state and the last attempt that its site had when it joined.
abbrev pub ReportsTellThePast : Type 0
ReportsTellThePast = (sc : Scenario) (h : List Entry) (t : Txn) (s n : ℕ) (st : State) (a : ℕ) → IsGiven sc → IsLegal sc h →
    HasSent h s (msg.Report t n st a) →
    (before : List Record) × StandsBehind sc h s before (log.Join t n) × (st ≡ state_of t before) × (a ≡ last_attempt t before)

-- Until its site joins a greater number, its last attempt is the one that it reported, or of the number it reported for.
abbrev pub ReportsHold : Type 0
ReportsHold = (sc : Scenario) (h : List Entry) (t : Txn) (s n : ℕ) (st : State) (a : ℕ) → IsGiven sc → IsLegal sc h →
    HasSent h s (msg.Report t n st a) → last_elected t (log_of sc h s) ≡ n →
    (last_attempt t (log_of sc h s) ≡ a) ⊎ (last_attempt t (log_of sc h s) ≡ n)

-- What a quorum attempted under one number, each greater number attempts.
abbrev pub QuorumBindsLater : Type 0
QuorumBindsLater = (sc : Scenario) (h : List Entry) (t : Txn) (n m : ℕ) (d e : Dir) → IsGiven sc → IsLegal sc h →
    QuorumTried sc h t n d → n < m → IsTried sc h t m e → e ≡ d

-- Where a commit is attempted every site of the transaction voted, and its coordinator attempted to commit under 1.
abbrev pub PreCommitHasVotes : Type 0
PreCommitHasVotes = (sc : Scenario) (h : List Entry) (t : Txn) (n : ℕ) → IsGiven sc → IsLegal sc h → IsTried sc h t n Commit →
    ((s : ℕ) → Contains t.sites s → (ops : List NumOp) × Has sc h s (log.Vote t ops)) × Has sc h t.site (log.Attempt t 1 Commit)

-- Where a commit is attempted each abort stands behind its site's vote, and that of the coordinator behind an attempt.
abbrev pub PreCommitBarsRefusals : Type 0
PreCommitBarsRefusals = (sc : Scenario) (h : List Entry) (t : Txn) (n s : ℕ) (before : List Record) → IsGiven sc → IsLegal sc h → IsTried sc h t n Commit →
    Contains t.sites s → StandsBehind sc h s before (log.Decision t Abort) →
    (has_voted t before ≡ true) × (s ≡ t.site → 1 ≤ last_attempt t before)

-- Where a commit is decided a quorum attempted it under one number.
abbrev pub CommitHasQuorum : Type 0
CommitHasQuorum = (sc : Scenario) (h : List Entry) (t : Txn) → IsGiven sc → IsLegal sc h → IsDecided sc h t Commit →
    (n : ℕ) × QuorumTried sc h t n Commit

-- Where an abort is decided a quorum attempted it under one number; or nothing attempted a commit, and a site aborted
-- without a vote or the coordinator without an attempt.
abbrev pub AbortHasReason : Type 0
AbortHasReason = (sc : Scenario) (h : List Entry) (t : Txn) → IsGiven sc → IsLegal sc h → IsDecided sc h t Abort →
    ((n : ℕ) × QuorumTried sc h t n Abort)
    ⊎ (((n : ℕ) → IsTried sc h t n Commit → ⊥) × (SomeRefused sc h t ⊎ CalledOff sc h t))
