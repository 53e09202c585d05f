-- What a site does when it is asked for its vote, and a coordinator with a yes.
use Rattle.e3_world.specs.declared.lives.Made.{Made}
use Rattle.e3_world.specs.declared.lives.At.{At}
use Rattle.std.specs.Prelude.{◌==◌, ◌&&◌, ◌||◌, if◌then◌else◌, ℕ, Bool, true, false, not, List, length, Option, Some, None}
use Rattle.std.specs.List.{list_any}
use Rattle.e3_types.specs.declared.transactions.Dir.TheVariants.{Abort, Commit}
use Rattle.e3_types.specs.declared.transactions.State.{State}
use Rattle.e3_types.specs.declared.transactions.State.TheVariants.{Q, W, A}
use Rattle.e3_types.specs.declared.transactions.Txn.{Txn}
use Rattle.e3_types.specs.declared.messages.Message.TheVariants as msg
use Rattle.e3_types.specs.Same.{same_txn, same_state}
use Rattle.e3_types.specs.Sets.{others, is_within}
use Rattle.e3_world.specs.Votes.{yes_votes}
use Rattle.e3_world.specs.Making.{log_now, steps_now, state_now, elected_now, is_coordinator, and_send, and_decide, and_attempt, and_vote}
use Rattle.e3_world.specs.Operations.{done, waiting}

-- the site may say yes: it has done as many operations as it is asked for, in this incarnation where there are any, and none waits
abbrev pub vote_rule : At → Txn → ℕ → ℕ → Made → Bool
vote_rule a t inc count made =
    count == length (done a.site t a.life.steps) && (count == 0 || inc == a.life.inc)
    && not (list_any (λ q. same_txn t q.txn) (waiting a.site (log_now a made) a.life.steps))

-- a site that is asked for its vote
abbrev pub on_vote_req : At → ℕ → Txn → ℕ → ℕ → Made → Made
on_vote_req a f t inc count made = by (state_now a t made) (elected_now a t made == 1)
  where
    say : Bool → Made
    say true = and_send a f (msg.Vote t true) (and_vote a t made)
    say false = and_send a f (msg.Vote t false) (and_decide a t Abort made)

    by : State → Bool → Made
    by A first = and_send a f (msg.Vote t false) made
    by W true = and_send a f (msg.Vote t true) made
    by Q true = say (vote_rule a t inc count made)
    by _ _ = made

-- a yes: with the last one the coordinator attempts to commit
abbrev pub on_yes : At → Txn → Made → Made
on_yes a t made = by (is_coordinator a t && same_state (state_now a t made) W && elected_now a t made == 1)
  where
    count : Option (List ℕ) → Made
    count None = made
    count (Some came) = if is_within (others a.site t.sites) came then and_attempt a t 1 Commit t.sites made else made

    by : Bool → Made
    by true = count (yes_votes t (steps_now a made))
    by false = made
