-- The parts of what becomes of a request for a lock whose transaction is in q.
use Rattle.std.specs.Prelude.{if◌then◌else◌, Bool, true, false, List, Option, Some, None}
use Rattle.std.specs.List.{list_any}
use Rattle.e3_types.specs.declared.transactions.Answer.{Answer}
use Rattle.e3_types.specs.declared.transactions.Dir.TheVariants.{Abort}
use Rattle.e3_types.specs.declared.locks.Grant.{Grant}
use Rattle.e3_types.specs.declared.locks.Grant.TheVariants.{Held, Waits, Dies}
use Rattle.e3_types.specs.declared.messages.Message.TheVariants as msg
use Rattle.e3_types.specs.declared.entries.Told.TheVariants as told
use Rattle.e3_types.specs.Locks.{lock_grant}
use Rattle.e3_world.specs.declared.lives.Asked.{Asked}
use Rattle.e3_world.specs.declared.lives.At.{At}
use Rattle.e3_world.specs.declared.lives.Made.{Made}
use Rattle.e3_world.specs.Logs.{key_of}
use Rattle.e3_world.specs.Making.{log_now, is_coordinator, and_send, and_decide, and_abort_for, and_do}
use Rattle.e3_world.specs.Operations.{same_asked, answers, waiting, holders, queue}
use Rattle.e3_readings.specs.Awaiting.{first_of}
use Rattle.e3_readings.specs.Requests.{lock_for}

-- the operations that wait before the step, but those of transactions that it decided
abbrev pub waits_now : At → Made → List Asked
waits_now a made = waiting a.site (log_now a made) a.life.steps

-- the operation waits
abbrev pub is_waiting : At → Asked → Made → Bool
is_waiting a q made = list_any (same_asked q) (waits_now a made)

-- the answer of the lock rule to a request, over the locks that are held on its name and those that wait there
abbrev pub lock_now : At → Asked → Made → Grant
lock_now a q made =
    lock_grant (lock_for q) (holders a.site (key_of q.op).name (log_now a made) a.life.steps) (queue (key_of q.op).name (waits_now a made))

-- the request with this answer of the lock rule
abbrev pub by_grant : At → Asked → Made → Grant → Made
by_grant a q made Held = and_do a q.txn q.n q.op made
by_grant a q made Waits = made
by_grant a q made (Dies older) = dies (is_coordinator a q.txn)
  where
    dies : Bool → Made
    dies true = and_abort_for a q.txn (told.Died q.txn older) made
    dies false = and_send a q.txn.site (msg.Died q.txn q.n older) (and_decide a q.txn Abort made)

-- the request, where this answer was given to it before, or it waits already, or the lock rule answers it
abbrev pub asked_by : At → Asked → Made → Option Answer → Bool → Grant → Made
asked_by a q made (Some answer) waits g = and_send a q.txn.site (msg.Done q.txn q.n a.life.inc answer) made
asked_by a q made None waits g = if waits then made else by_grant a q made g

-- a request whose transaction is in q
abbrev pub on_asked : At → Asked → Made → Made
on_asked a q made = asked_by a q made (first_of (answers q a.life.steps)) (is_waiting a q made) (lock_now a q made)
