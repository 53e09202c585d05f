-- What a site does with an attempt that is asked of it, and with an acknowledgement.
use Rattle.e3_world.specs.declared.lives.Made.{Made}
use Rattle.e3_world.specs.declared.lives.At.{At}
use Rattle.std.specs.Prelude.{◌==◌, ◌&&◌, ◌∷◌, if◌then◌else◌, ℕ, Bool, true, false, Option, Some, None}
use Rattle.e3_types.specs.declared.transactions.Dir.{Dir}
use Rattle.e3_types.specs.declared.transactions.Txn.{Txn}
use Rattle.e3_types.specs.declared.records.Record.TheVariants as log
use Rattle.e3_types.specs.declared.messages.Message.TheVariants as msg
use Rattle.e3_types.specs.Quorums.{is_quorum}
use Rattle.e3_types.specs.Same.{same_dir}
use Rattle.e3_world.specs.Gatherings.{Round}
use Rattle.e3_world.specs.Rounds.{count_ack, round_in_progress}
use Rattle.e3_world.specs.Making.{open_now, elected_now, attempt_now, may_decide, and_record, and_send, and_cast, and_decide}

-- an undecided site that joined this number last attempts it, once, and acknowledges
abbrev pub on_pre : At → ℕ → Txn → ℕ → Dir → Made → Made
on_pre a f t n dir made = by (open_now a t made && elected_now a t made == n)
  where
    by : Bool → Made
    by true = and_send a f (msg.Ack t n dir) (if attempt_now a t made == n then made else and_record (log.Attempt t n dir) made)
    by false = made

-- an acknowledgement in the round in progress: with a quorum the site decides
abbrev pub on_ack : At → ℕ → Txn → ℕ → Dir → Made → Made
on_ack a f t n dir made = by (round_in_progress a.site t a.life.steps)
  where
    acked : Round → Made
    acked r =
        if r.n == n && same_dir r.dir dir && may_decide a t dir made && is_quorum a.weights (a.site ∷ r.acked) t.sites
        then and_cast a r.to (msg.Decide t dir) (and_decide a t dir made) else made

    by : Option Round → Made
    by None = made
    by (Some r) = acked (count_ack r f n dir)
