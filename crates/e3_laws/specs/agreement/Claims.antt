-- What every legal history of a scenario that keeps the rules keeps.
use Rattle.std.specs.Prelude.{List, Contains}
use Rattle.e3_types.specs.declared.entries.Entry.{Entry}
use Rattle.e3_types.specs.declared.messages.Packet.{Packet}
use Rattle.e3_types.specs.declared.records.Record.TheVariants as log
use Rattle.e3_types.specs.declared.scenarios.Scenario.{Scenario}
use Rattle.e3_world.specs.Given.{IsGiven}
use Rattle.e3_world.specs.Legal.{IsLegal}
use Rattle.e3_world.specs.Moves.{log_of, trail_of}
use Rattle.e3_world.specs.Packets.{sent}
use Rattle.e3_world.specs.Safe.{Agrees, AllVoted, ToldStands, Said, said_msg}
use Rattle.e3_laws.specs.agreement.Histories.{AllFit}

-- whatever such a history asks of a site fits it
abbrev pub ItemsAreFit : Type 0
ItemsAreFit = (sc : Scenario) (h : List Entry) → IsGiven sc → IsLegal sc h → AllFit h

-- no two decisions of one transaction differ
abbrev pub HistoriesAgree : Type 0
HistoriesAgree = (sc : Scenario) (h : List Entry) → IsGiven sc → IsLegal sc h → Agrees (trail_of sc h)

-- where a commit stands, every site of the transaction has its vote before it
abbrev pub HistoriesVote : Type 0
HistoriesVote = (sc : Scenario) (h : List Entry) → IsGiven sc → IsLegal sc h → AllVoted (trail_of sc h)

-- a decision that a packet says is in the log of the site that sent it: as it is sent, and ever after, since each front of
-- a legal history is legal
abbrev pub HistoriesTell : Type 0
HistoriesTell = (sc : Scenario) (h : List Entry) → IsGiven sc → IsLegal sc h →
    (p : Packet) (s : Said) → Contains (sent h) p → Contains (said_msg p.msg) s → Contains (log_of sc h p.«from») (log.Decision s.txn s.dir)

-- what a step says as decided, by events or packets, is in its site's log with that step, and in every legal history that
-- goes on
abbrev pub HistoriesToldStand : Type 0
HistoriesToldStand = (sc : Scenario) (h : List Entry) → IsGiven sc → IsLegal sc h → ToldStands sc h
