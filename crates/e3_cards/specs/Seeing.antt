-- What a log says of a transaction, as one value, and how a record changes it.
use Rattle.std.specs.Prelude.{◌||◌, List, None, false}
use Rattle.e3_types.specs.declared.records.Record.{Record}
use Rattle.e3_types.specs.declared.transactions.State.{State}
use Rattle.e3_types.specs.declared.transactions.Txn.{Txn}
use Rattle.e3_world.specs.Logs.{last_elected_by, last_elected, last_attempt_by, last_attempt, decision_by, decision, attempted_by, attempted, is_vote, has_voted}
use Rattle.e3_readings.specs.States.{state_by}
use Rattle.e3_cards.specs.declared.seen.Seen.{Seen}

-- what a log says of a transaction
abbrev pub seen_of : Txn → List Record → Seen
seen_of t log = record {
  elected = last_elected t log;
  attempt = last_attempt t log;
  decision = decision t log;
  attempted = attempted t log;
  voted = has_voted t log;
}

-- what the empty log says
abbrev pub unseen : Seen
unseen = record { elected = 1; attempt = 0; decision = None; attempted = None; voted = false }

-- what it says behind one more record
abbrev pub seen_by : Txn → Seen → Record → Seen
seen_by t was r = record {
  elected = last_elected_by t was.elected r;
  attempt = last_attempt_by t was.attempt r;
  decision = decision_by t was.decision r;
  attempted = attempted_by t was.attempted r;
  voted = was.voted || is_vote t r;
}

-- the state that this comes to: by the decision, else by the last attempt, else by the vote
abbrev pub seen_state : Seen → State
seen_state s = state_by s.decision s.attempted s.voted
