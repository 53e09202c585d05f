-- What a site does with an operation, with its answer, and with the news that one died.
use Rattle.e3_world.specs.declared.lives.Moment.{Moment}
use Rattle.e3_world.specs.declared.lives.Made.{Made}
use Rattle.e3_world.specs.declared.lives.At.{At}
use Rattle.e3_world.specs.declared.lives.Asked.{Asked}
use Rattle.std.specs.Prelude.{◌==◌, ◌&&◌, ◌||◌, ◌∷◌, [], if◌then◌else◌, ℕ, Bool, true, false, List, Option, Some, None}
use Rattle.std.specs.List.{list_any}
use Rattle.e3_types.specs.declared.transactions.Answer.{Answer}
use Rattle.e3_types.specs.declared.transactions.Dir.TheVariants.{Abort}
use Rattle.e3_types.specs.declared.locks.Grant.{Grant}
use Rattle.e3_types.specs.declared.locks.Grant.TheVariants.{Held, Waits, Dies}
use Rattle.e3_types.specs.declared.locks.Lock.{Lock}
use Rattle.e3_types.specs.declared.transactions.Op.{Op}
use Rattle.e3_types.specs.declared.transactions.State.{State}
use Rattle.e3_types.specs.declared.transactions.State.TheVariants.{Q, A}
use Rattle.e3_types.specs.declared.transactions.Txn.{Txn}
use Rattle.e3_types.specs.declared.messages.Message.TheVariants as msg
use Rattle.e3_types.specs.declared.entries.Told.TheVariants as told
use Rattle.e3_types.specs.Locks.{lock_grant}
use Rattle.e3_world.specs.declared.lives.Expected.{Expected}
use Rattle.e3_world.specs.Logs.{key_of, mode_of}
use Rattle.e3_world.specs.Making.{log_now, steps_now, state_now, open_now, is_coordinator, is_present, may_abort, and_tell, and_send, and_decide, and_abort, and_abort_for, and_do}
use Rattle.e3_world.specs.Operations.{issued, nth_op, same_asked, answers, waiting, holders, queue, unanswered, expected}

-- a request for a lock: the operation is done, waits, or its transaction dies
abbrev pub on_do : At → ℕ → Txn → ℕ → Op → Made → Made
on_do a f t n op made = by (state_now a t made)
  where
    wanted : Lock
    wanted = record { txn = t; mode = mode_of op }

    dies : Txn → Bool → Made
    dies older true = and_abort_for a t (told.Died t older) made
    dies older false = and_send a t.site (msg.Died t n older) (and_decide a t Abort made)

    by_grant : Grant → Made
    by_grant Held = and_do a t n op made
    by_grant Waits = made
    by_grant (Dies older) = dies older (is_coordinator a t)

    ask : List Asked → Made
    ask waits =
        if list_any (same_asked (record { txn = t; n = n; op = op })) waits then made
        else by_grant (lock_grant wanted (holders a.site (key_of op).name (log_now a made) a.life.steps) (queue (key_of op).name waits))

    by_answer : List Answer → Made
    by_answer (answer ∷ more) = and_send a t.site (msg.Done t n a.life.inc answer) made
    by_answer [] = ask (waiting a.site (log_now a made) a.life.steps)

    by : State → Made
    by A = and_send a f (msg.Vote t false) made
    by Q = by_answer (answers (record { txn = t; n = n; op = op }) a.life.steps)
    by _ = made

-- the answer to the unanswered operation is told; under another incarnation than before the transaction is doomed
abbrev pub on_done : At → ℕ → Txn → ℕ → ℕ → Answer → Made → Made
on_done a f t n inc answer made = by (is_coordinator a t && is_present a t && open_now a t made)
  where
    steps : List Moment
    steps = steps_now a made

    is_unanswered : Option ℕ → Bool
    is_unanswered (Some m) = n == m
    is_unanswered None = false

    is_from : Option Op → Bool
    is_from (Some op) = (key_of op).site == f
    is_from None = false

    by_earlier : Expected → Made
    by_earlier e =
        if e.count == 0 || e.inc == inc then and_tell (told.Op t n answer) made
        else if may_abort a t made then and_abort_for a t (told.Doomed t f e.inc inc) made
        else made

    by : Bool → Made
    by true =
        if is_unanswered (unanswered t (log_now a made) steps) && is_from (nth_op n (issued t steps))
        then by_earlier (expected a.site a.life.inc t a.life.steps f) else made
    by false = made

-- a request of the transaction died elsewhere: the coordinator aborts, if it may
abbrev pub on_died : At → Txn → Txn → Made → Made
on_died a t older made = by (may_abort a t made) (is_present a t)
  where
    by : Bool → Bool → Made
    by true true = and_abort_for a t (told.Died t older) made
    by true false = and_abort a t made
    by false present = made
