-- The laws on one order.
use Rattle.std.specs.Prelude.{List}
use Rattle.e3_types.specs.declared.entries.Entry.{Entry}
use Rattle.e3_types.specs.declared.scenarios.Scenario.{Scenario}
use Rattle.e3_world.specs.Given.{IsGiven}
use Rattle.e3_world.specs.Legal.{IsLegal}
use Rattle.e3_world.specs.Moves.{Move, trail_of}
use Rattle.e3_world.specs.Serial.{IsSerial}
use Rattle.e3_laws.specs.serial.Ordered.{IsOrdered, TablesReplay, VotesReplay}

-- where the logs are ordered, each site's table is the replay of what its log commits
abbrev pub OrderedTables : Type 0
OrderedTables = (sc : Scenario) (trail : List Move) → IsOrdered sc trail → TablesReplay sc trail

-- where the logs are ordered, what the votes of committed transactions found is what they find in the replay
abbrev pub OrderedVotes : Type 0
OrderedVotes = (sc : Scenario) (trail : List Move) → IsOrdered sc trail → VotesReplay sc trail

-- the logs of a legal history are ordered
abbrev pub LogsAreOrdered : Type 0
LogsAreOrdered = (sc : Scenario) (h : List Entry) → IsGiven sc → IsLegal sc h → IsOrdered sc (trail_of sc h)

-- in a legal history each site's table is the replay of what its log commits
abbrev pub LegalTables : Type 0
LegalTables = (sc : Scenario) (h : List Entry) → IsGiven sc → IsLegal sc h → TablesReplay sc (trail_of sc h)

-- in a legal history what the votes of committed transactions found is what they find in the replay
abbrev pub LegalVotes : Type 0
LegalVotes = (sc : Scenario) (h : List Entry) → IsGiven sc → IsLegal sc h → VotesReplay sc (trail_of sc h)

-- in a legal history there is one order: each site's table is the replay of what its log commits, and each read of a
-- committed transaction that was told is the replay's
abbrev pub LegalSerial : Type 0
LegalSerial = (sc : Scenario) (h : List Entry) → IsGiven sc → IsLegal sc h → IsSerial sc (trail_of sc h)
