-- What the steps of a site keep of the protocol of each transaction, and what follows for trails.
use Rattle.std.specs.Prelude.{List, Contains}
use Rattle.std.specs.List.{flat_map}
use Rattle.e3_types.specs.declared.messages.Packet.{Packet}
use Rattle.e3_types.specs.declared.records.Record.TheVariants as log
use Rattle.e3_types.specs.declared.scenarios.Scenario.{Scenario}
use Rattle.e3_types.specs.declared.transactions.Txn.{Txn}
use Rattle.e3_world.specs.Moves.{Move, moves_at, log_by}
use Rattle.e3_world.specs.Safe.{Agrees, AllVoted, Said, said_msg}
use Rattle.e3_world.specs.Sound.{sends, IsSound}
use Rattle.e3_world.specs.Steps.{step_at}
use Rattle.e3_laws.specs.agreement.Marks.{Allowed}
use Rattle.e3_laws.specs.agreement.Weights.{party_of}
use Rattle.e3_laws.specs.agreement.Rows.{Here, MayTake, Stands, Good}
use Rattle.e3_laws.specs.agreement.Trails.{marks_of, IsMade}

-- Whatever transaction one looks at: where the protocol's invariant stands before a step, and the site may take its input,
-- which was sent if it is a packet, the step writes only what the rules allow, and sends only what they allow behind that.
abbrev pub StepsKeepRules : Type 0
StepsKeepRules = (h : Here) → Stands h → MayTake h.at.site h.at.input → Good h (step_at h.at)

-- what a trail says of a transaction are marks that the protocol's rules allow, one after the other, if each move is what
-- its inputs make
abbrev pub TrailsKeepRules : Type 0
TrailsKeepRules = (sc : Scenario) (t : Txn) (trail : List Move) → IsMade sc trail → Allowed (party_of sc.weights t) (marks_of sc t trail)

-- no two decisions of one transaction differ in such a trail
abbrev pub TrailsAgree : Type 0
TrailsAgree = (sc : Scenario) (trail : List Move) → IsMade sc trail → Agrees trail

-- where a commit stands in such a trail, every site of the transaction has its vote before it
abbrev pub TrailsVote : Type 0
TrailsVote = (sc : Scenario) (trail : List Move) → IsMade sc trail → AllVoted trail

-- a decision that a packet says is in the log of the site that sent it, in such a trail: as it is sent, and ever after,
-- since each front of such a trail is one
abbrev pub TrailsTell : Type 0
TrailsTell = (sc : Scenario) (trail : List Move) → IsMade sc trail →
    (p : Packet) (s : Said) → Contains (flat_map sends trail) p → Contains (said_msg p.msg) s →
    Contains (log_by (moves_at p.«from» trail)) (log.Decision s.txn s.dir)

-- the moves of a sound trail are what their inputs make
abbrev pub SoundTrailsAreMade : Type 0
SoundTrailsAreMade = (sc : Scenario) (trail : List Move) → IsSound sc trail → IsMade sc trail

-- no two decisions of one transaction differ in a sound trail
abbrev pub SoundTrailsAgree : Type 0
SoundTrailsAgree = (sc : Scenario) (trail : List Move) → IsSound sc trail → Agrees trail

-- where a commit stands in a sound trail, every site of the transaction has its vote before it
abbrev pub SoundTrailsVote : Type 0
SoundTrailsVote = (sc : Scenario) (trail : List Move) → IsSound sc trail → AllVoted trail
