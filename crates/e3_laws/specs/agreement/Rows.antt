-- A step of a site as one transaction sees it: what stands before it, and what its records and packets have to meet.
use Rattle.std.specs.Prelude.{◌≡◌, ◌++◌, ◌∷◌, ◌==◌, ℕ, Bool, true, false, List, Some}
use Rattle.std.specs.List.{list_all}
use Rattle.e3_types.specs.declared.entries.Input.{Input}
use Rattle.e3_types.specs.declared.entries.Input.TheVariants as input
use Rattle.e3_types.specs.declared.messages.Message.{Message}
use Rattle.e3_types.specs.declared.messages.Message.TheVariants as msg
use Rattle.e3_types.specs.declared.messages.Packet.{Packet}
use Rattle.e3_types.specs.declared.records.Record.{Record}
use Rattle.e3_types.specs.declared.records.Record.TheVariants as log
use Rattle.e3_types.specs.declared.transactions.Dir.{Dir}
use Rattle.e3_types.specs.declared.transactions.Dir.TheVariants.{Commit}
use Rattle.e3_types.specs.declared.transactions.Txn.{Txn}
use Rattle.e3_types.specs.Same.{same_txn}
use Rattle.e3_types.specs.Sets.{has_site, is_within}
use Rattle.e3_world.specs.declared.lives.At.{At}
use Rattle.e3_world.specs.declared.lives.Made.{Made}
use Rattle.e3_world.specs.declared.lives.Moment.{Moment}
use Rattle.e3_world.specs.Elections.{joined_in}
use Rattle.e3_world.specs.Logs.{last_elected, last_attempt, decision, attempted, has_voted, state_of, key_of}
use Rattle.e3_laws.specs.agreement.Logs.{IsIn, Note, Join, Attempt, Decision, elected, attempt, Orderly}
use Rattle.e3_laws.specs.agreement.Rules.{Party, Situation, Letter, Word, No, Decide, Came, own_reply, MaySay}
use Rattle.e3_laws.specs.agreement.Invariant.{Invariant}
use Rattle.e3_laws.specs.agreement.Marks.{behind, MayWriteAll}
use Rattle.e3_laws.specs.agreement.Verdicts.{reply_of}
use Rattle.e3_laws.specs.agreement.Weights.{party_of}
use Rattle.e3_laws.specs.agreement.Views.{notes_of, leader_of, words_of, letters_of, decided, tried, has_vote}

-- a transaction, the place of a step, and the situation of the transaction before it
pub record Here : Type 0 where
  pub txn : Txn
  pub at : At
  pub before : Situation

-- the site's notes before the step
abbrev pub own_log : Here → List Note
own_log h = h.before.log h.at.site

-- who takes part in the transaction
abbrev pub party : Here → Party
party h = party_of h.at.weights h.txn

-- the leader of an election that the step joins
abbrev pub leader : Here → ℕ
leader h = leader_of h.at.site h.at.input

-- the site's notes with those of the step, as far as it is made
abbrev pub notes_now : Here → Made → List Note
notes_now h made = behind (own_log h) (notes_of h.txn (leader h) made.records)

-- the notes say of the transaction what the records say
pub record Reads (t : Txn) (records : List Record) (l : List Note) : Type 0 where
  pub elects : last_elected t records ≡ elected l
  pub attempts : last_attempt t records ≡ attempt l
  pub decides : decision t records ≡ decided l
  pub tries : attempted t records ≡ tried l
  pub votes : has_voted t records ≡ has_vote l
  pub holds : (u : Txn) (n : ℕ) (d : Dir) → same_txn t u ≡ true → IsIn (log.Attempt u n d) records → IsIn (Attempt n d) l
  pub keeps : (u : Txn) (d : Dir) → same_txn t u ≡ true → IsIn (log.Decision u d) records → IsIn (Decision d) l
  pub commits : (u : Txn) (before after : List Record) → same_txn t u ≡ true → records ≡ before ++ log.Decision u Commit ∷ after →
      Orderly l → has_voted t before ≡ true

-- the words of a delivered packet were sent
abbrev pub WasHeard : Here → Input → Type 0
WasHeard h (input.Deliver packet) = (w : Word) → IsIn w (words_of h.txn packet.msg) → Came h.before.sent packet.«from» h.at.site w
WasHeard h i = Unit {0}

-- whoever sends such a word, and whoever takes it, has to be of the transaction; a no and a decision are for anybody
abbrev pub is_for_members : Word → Bool
is_for_members No = false
is_for_members (Decide d) = false
is_for_members w = true

-- the letter goes from its site to another one, and both are of the transaction where its word is for members
pub record IsWell (t : Txn) (p : Letter) : Type 0 where
  pub away : (p.target == p.source) ≡ false
  pub members : is_for_members p.word ≡ true → (has_site t.sites p.source ≡ true) × (has_site t.sites p.target ≡ true)

-- what an elect asks of its group: this site is in it, and all are sites of the transaction
abbrev pub ElectFits : ℕ → Input → Type 0
ElectFits site (input.Elect u group) = (has_site group site ≡ true) × (is_within group u.sites ≡ true)
ElectFits site i = Unit {0}

-- where an earlier step joined an election of the transaction, the join stands in the notes for its leader, behind the
-- state and the last attempt that the site had before that step
abbrev pub JoinStands : Here → Moment → Type 0
JoinStands h m = (n : ℕ) → joined_in h.txn m.records ≡ Some n →
    IsIn (Join n (leader_of h.at.site m.input)) (own_log h)
    × (reply_of (record { site = h.at.site; state = state_of h.txn m.before; attempt = last_attempt h.txn m.before }) ≡ own_reply (own_log h) h.at.site n)

-- what an earlier step of the incarnation left: what it took was sent and fits, its records are in the log, and its join
-- stands
pub record Left (h : Here) (m : Moment) : Type 0 where
  pub heard : WasHeard h m.input
  pub fits : ElectFits h.at.site m.input
  pub recorded : (r : Record) → IsIn r m.records → IsIn r h.at.life.log
  pub joins : JoinStands h m

-- What an input has to be for a site that takes it: the site is one of the transaction's, and the coordinator where that is
-- asked; an operation is for a site of the transaction; a group is of its sites, with this one; a packet is for this site.
abbrev pub MayTake : ℕ → Input → Type 0
MayTake site (input.Begin sites) = Unit {0}
MayTake site (input.Do u op) = (has_site u.sites site ≡ true) × (has_site u.sites (key_of op).site ≡ true)
MayTake site (input.Commit u) = (has_site u.sites site ≡ true) × (u.site ≡ site)
MayTake site (input.Cancel u) = u.site ≡ site
MayTake site (input.Expire u) = has_site u.sites site ≡ true
MayTake site (input.Elect u group) =
    (has_site u.sites site ≡ true) × (has_site group site ≡ true) × (is_within group u.sites ≡ true)
MayTake site (input.Deliver packet) = packet.to ≡ site

-- a packet that is delivered comes from another site
abbrev pub IsFromAway : ℕ → Input → Type 0
IsFromAway site (input.Deliver packet) = (packet.«from» == site) ≡ false
IsFromAway site i = Unit {0}

-- what stands before the step: the protocol's invariant; all letters are well; the notes are those of the site's log; what
-- the step takes was sent and fits; and what the earlier steps left
pub record Stands (h : Here) : Type 0 where
  pub kept : Invariant (party h) h.before
  pub well : (p : Letter) → IsIn p h.before.sent → IsWell h.txn p
  pub reads : Reads h.txn h.at.life.log (own_log h)
  pub taken : WasHeard h h.at.input
  pub away : IsFromAway h.at.site h.at.input
  pub fits : ElectFits h.at.site h.at.input
  pub left : (m : Moment) → IsIn m h.at.life.steps → Left h m

-- what a site may have for itself in a step: an operation of a transaction of its own, an answer, and a no
abbrev pub waits_here : ℕ → Message → Bool
waits_here site (msg.Do u n op) = has_site u.sites site
waits_here site (msg.Done u n inc answer) = true
waits_here site (msg.Vote u false) = true
waits_here site _ = false

-- the step joins an election of the transaction before it writes any other note of it
abbrev pub JoinsFirst : Here → List Record → Type 0
JoinsFirst h records = (n : ℕ) → joined_in h.txn records ≡ Some n →
    (more : List Note) × (notes_of h.txn (leader h) records ≡ Join n (leader h) ∷ more)

-- what the step, as far as it is made, has to meet: its notes may be written one after the other, a join first; its packets
-- go from this site to others; its letters may be sent behind the notes
pub record Good (h : Here) (made : Made) : Type 0 where
  pub notes : MayWriteAll (party h) h.before.sent (own_log h) h.at.site (notes_of h.txn (leader h) made.records)
  pub outs : (p : Packet) → IsIn p made.outs → (p.«from» ≡ h.at.site) × ((p.to == h.at.site) ≡ false)
  pub from_here : (p : Letter) → IsIn p (letters_of h.txn made.outs) → (p.source ≡ h.at.site) × IsWell h.txn p
  pub sends : (p : Letter) → IsIn p (letters_of h.txn made.outs) → MaySay h.before.sent (notes_now h made) h.at.site p.target p.word
  pub own : list_all (waits_here h.at.site) made.own ≡ true
  pub joins : JoinsFirst h made.records
