-- What a step of a site does: the records, packets and events of an input, read off the site's own moves alone.
use Rattle.e3_world.specs.declared.lives.Moment.{Moment}
use Rattle.e3_world.specs.declared.lives.Made.{Made}
use Rattle.e3_world.specs.declared.lives.At.{At}
use Rattle.std.specs.Prelude.{◌==◌, ◌∷◌, [], if◌then◌else◌, ℕ, zero, suc, Bool, true, false, List, length, fold, count_by, Option, Some, None}
use Rattle.e3_types.specs.declared.transactions.Dir.{Dir}
use Rattle.e3_types.specs.declared.transactions.Dir.TheVariants.{Abort, Commit}
use Rattle.e3_types.specs.declared.entries.Input.{Input}
use Rattle.e3_types.specs.declared.messages.Message.{Message}
use Rattle.e3_types.specs.declared.entries.Refusal.{Refusal}
use Rattle.e3_types.specs.declared.transactions.State.{State}
use Rattle.e3_types.specs.declared.transactions.State.TheVariants.{Q}
use Rattle.e3_types.specs.declared.transactions.Txn.{Txn}
use Rattle.e3_types.specs.declared.entries.Input.TheVariants as input
use Rattle.e3_types.specs.declared.messages.Message.TheVariants as msg
use Rattle.e3_types.specs.declared.entries.Refusal.TheVariants as refusal
use Rattle.e3_types.specs.declared.entries.Told.TheVariants as told
use Rattle.e3_types.specs.Sets.{others}
use Rattle.e3_world.specs.Gatherings.{Election}
use Rattle.e3_world.specs.Elections.{begun, next_call}
use Rattle.e3_world.specs.Lives.{life_of}
use Rattle.e3_world.specs.Logs.{decision, key_of}
use Rattle.e3_world.specs.Making.{nothing, log_now, state_now, elected_now, attempt_now, is_present, may_abort, and_tell, and_send, and_cast, and_decide, and_abort, and_attempt, and_vote, and_grants}
use Rattle.e3_world.specs.declared.lives.Incarnation.{Incarnation}
use Rattle.e3_world.specs.Moves.{unnumbered_input}
use Rattle.e3_world.specs.Operations.{issued, unanswered, expected, kept_reason}
use Rattle.e3_world.specs.declared.lives.Expected.{Expected}
use Rattle.e3_world.specs.ElectionRules.{and_join}
use Rattle.e3_world.specs.Messages.{on_message}

-- the refusal of a Do, Commit or Cancel at the coordinator, if it is refused
abbrev pub refuse_late : At → Txn → Made → Option Refusal
refuse_late a t made = by (state_now a t made)
  where
    late : Option Refusal
    late = Some (refusal.TooLate (attempt_now a t made))

    by : State → Option Refusal
    by Q = None
    by _ = late

-- the first cause that applies: no transaction of this incarnation; decided, with the reason kept; busy; too late
abbrev pub refuse : At → Txn → Bool → Made → Option Refusal
refuse a t cancels made = by (decision t (log_now a made)) (kept_reason t a.life.steps)
  where
    by_busy : Option ℕ → Option Refusal
    by_busy (Some n) = Some (refusal.Busy n)
    by_busy None = refuse_late a t made

    undecided : Bool → Bool → Option Refusal
    undecided false cancels = Some refusal.NoTxn
    undecided true true = if attempt_now a t made == 0 then None else Some (refusal.TooLate (attempt_now a t made))
    undecided true false = by_busy (unanswered t (log_now a made) a.life.steps)

    by : Option Dir → List Refusal → Option Refusal
    by None why = undecided (is_present a t) cancels
    by (Some dir) [] = Some (refusal.Over dir)
    by (Some dir) (why ∷ more) = Some why

-- a refused input tells the refusal, and nothing else
abbrev pub or_refused : Txn → Option Refusal → Made → Made
or_refused t (Some why) made = and_tell (told.Refused t why) nothing
or_refused t None made = made

-- the step took a Begin
abbrev pub is_begin : Moment → Bool
is_begin m = by m.input
  where
    by : Input → Bool
    by (input.Begin sites) = true
    by _ = false

-- a begin: the transaction has the next number of the incarnation
abbrev pub on_begin : At → List ℕ → Made → Made
on_begin a sites made = and_tell (told.Began (record {
  site = a.site;
  inc = a.life.inc;
  seq = suc (count_by is_begin a.life.steps);
  sites = sites;
})) made

-- another site is asked for its vote, with the incarnation and the number of its answers
abbrev pub and_ask : At → Txn → Made → ℕ → Made
and_ask a t so_far to = asked (expected a.site a.life.inc t a.life.steps to)
  where
    asked : Expected → Made
    asked e = and_send a to (msg.VoteReq t e.inc e.count) so_far

-- a commit: the coordinator votes and asks the other sites, or aborts where it joined an election
abbrev pub on_commit : At → Txn → Made → Made
on_commit a t made = by (elected_now a t made == 1)
  where
    alone : List ℕ → Made
    alone [] = and_attempt a t 1 Commit t.sites (and_vote a t made)
    alone (s ∷ ss) = fold (and_ask a t) (and_vote a t made) (s ∷ ss)

    by : Bool → Made
    by true = alone (others a.site t.sites)
    by false = and_abort a t made

-- an expiry: the coordinator aborts if it may, another site if it is in q; else the state is told
abbrev pub on_expire : At → Txn → Made → Made
on_expire a t made = by (may_abort a t made) (state_now a t made)
  where
    by : Bool → State → Made
    by true st = and_abort a t made
    by false Q = and_decide a t Abort made
    by false st = and_tell (told.Kept t st) made

-- an elect: a new call, which drops any election of the transaction here
abbrev pub on_elect : At → Txn → List ℕ → Made → Made
on_elect a t group made = and_join a t e (and_cast a group (msg.Ask t e.call) made)
  where
    e : Election
    e = begun a.site (next_call a.life.inc a.life.steps) group (elected_now a t made)

-- each input
abbrev pub on_input : At → Input → Made → Made
on_input a (input.Begin sites) made = on_begin a sites made
on_input a (input.Do t op) made =
    or_refused t (refuse a t false made) (and_send a (key_of op).site (msg.Do t (suc (length (issued t a.life.steps))) op) made)
on_input a (input.Commit t) made = or_refused t (refuse a t false made) (on_commit a t made)
on_input a (input.Cancel t) made = or_refused t (refuse a t true made) (and_abort a t made)
on_input a (input.Expire t) made = on_expire a t made
on_input a (input.Elect t group) made = on_elect a t group made
on_input a (input.Deliver packet) made = on_message a packet.«from» packet.msg made

-- one message of a step to its own site
abbrev pub handled : At → Made → Message → Made
handled a so_far m = and_grants a (length so_far.records) (on_message a a.site m so_far)

-- The messages of a step to its own site are handled first in first out, each list behind the one that made it. The
-- bound suffices: only a Do input sends the site a Do, whose handling sends it Dones, and a Done of its own, which has
-- the present incarnation, sends nothing. So the second list has Dones alone, and the third is empty.
abbrev pub settle : ℕ → At → Made → Made
settle zero a made = made
settle (suc k) a made = settle k a (fold (handled a) (record made { own = [] }) made.own)

-- the step that is made at this place
abbrev pub step_at : At → Made
step_at a = settle 3 a (and_grants a 0 (on_input a a.input nothing))

-- What an input makes a site do: a function of the weights, of the log that the site rose with, of its steps since, and
-- of nothing else. The number of a delivered packet is nothing to it.
abbrev pub step_of : List ℕ → ℕ → Incarnation → Input → Made
step_of weights site now i = step_at (record { weights = weights; site = site; life = life_of now; input = unnumbered_input i })
