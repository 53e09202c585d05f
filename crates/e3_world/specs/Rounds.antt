-- The round in which an attempt gathers its acknowledgements, read off the steps of the present incarnation.
use Rattle.std.specs.Prelude.{◌==◌, ◌&&◌, ◌++◌, ◌∷◌, [], if◌then◌else◌, ℕ, not, List, fold, Option, Some, None, option_map}
use Rattle.e3_types.specs.declared.transactions.Dir.{Dir}
use Rattle.e3_types.specs.declared.entries.Input.{Input}
use Rattle.e3_types.specs.declared.messages.Message.{Message}
use Rattle.e3_types.specs.declared.records.Record.{Record}
use Rattle.e3_types.specs.declared.transactions.Txn.{Txn}
use Rattle.e3_types.specs.declared.entries.Input.TheVariants as input
use Rattle.e3_types.specs.declared.records.Record.TheVariants as log
use Rattle.e3_types.specs.declared.messages.Message.TheVariants as msg
use Rattle.e3_types.specs.Same.{same_txn, same_dir}
use Rattle.e3_types.specs.Sets.{has_site, others}
use Rattle.e3_world.specs.declared.lives.Moment.{Moment}
use Rattle.e3_world.specs.Gatherings.{Round, Rounds}

-- the round with an acknowledgement of its attempt by one who got it
abbrev pub count_ack : Round → ℕ → ℕ → Dir → Round
count_ack r f n dir =
    if r.n == n && same_dir r.dir dir && has_site r.to f && not (has_site r.acked f)
    then record r { acked = r.acked ++ f ∷ [] } else r

-- the receivers of a round: the first coordinator's other sites, or the rest of the elector's group
abbrev pub receivers : ℕ → Txn → List ℕ → ℕ → List ℕ
receivers site t group n = if n == 1 then others site t.sites else others site group

-- what a step's records make of the round: an attempt that is not another's begins one, a join or a decision ends it
abbrev pub round_by_record : ℕ → Txn → List ℕ → Option Round → Record → Option Round
round_by_record site t group was (log.Attempt u n dir) =
    if same_txn t u then Some (record { n = n; dir = dir; to = receivers site t group n; acked = [] }) else was
round_by_record site t group was (log.Join u n) = if same_txn t u then None else was
round_by_record site t group was (log.Decision u dir) = if same_txn t u then None else was
round_by_record site t group was _ = was

-- the rounds behind one more step; an attempt that a Pre brought begins none
abbrev pub round_by : ℕ → Txn → Rounds → Moment → Rounds
round_by site t was m = by m.input
  where
    more : List ℕ → Option Round → Option Round
    more group r = fold (round_by_record site t group) r m.records

    by_msg : ℕ → Message → Option Round
    by_msg f (msg.Pre u n dir) = was.now
    by_msg f (msg.Ack u n dir) = more was.group (if same_txn t u then option_map (λ r. count_ack r f n dir) was.now else was.now)
    by_msg f _ = more was.group was.now

    by_group : List ℕ → Rounds
    by_group group = record { group = group; now = more group was.now }

    by : Input → Rounds
    by (input.Elect u group) = by_group (if same_txn t u then group else was.group)
    by (input.Deliver packet) = record { group = was.group; now = by_msg packet.«from» packet.msg }
    by _ = by_group was.group

-- the round of a transaction in progress at a site
abbrev pub round_in_progress : ℕ → Txn → List Moment → Option Round
round_in_progress site t steps = (fold (round_by site t) (record { group = []; now = None }) steps).now
