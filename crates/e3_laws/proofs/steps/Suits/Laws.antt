-- The laws of legal histories.
use Rattle.std.proofs.Common.{List, Option, Some, None, refl, ap, subst}
use Rattle.std.specs.List.{AllByRecursion as Each}
use Rattle.e3_types.specs.declared.records.Record.{Record}
use Rattle.e3_types.specs.declared.records.Record.TheVariants as log
use Rattle.e3_world.specs.Lives.{life_at}
use Rattle.e3_world.specs.Moves.{Tail, moves_of, log_by, log_of, open_tail, trail_of}
use Rattle.e3_world.specs.Packets.{sent}
use Rattle.e3_world.proofs.InTrail.{pending_sent}
use Rattle.e3_world.proofs.Pushes.{life_log_at}
use Rattle.e3_world.proofs.Trails.{trail_moves}
use Rattle.e3_laws.specs.steps.Bounds.{GoesBetween, SuitsLog}
use Rattle.e3_laws.specs.steps.Trails.{PacketsGoBetween, PendingWasSent, RecordsSuitTheirSite, VotesAtTheirSite, InputsSuit, DueInputsFit, TrailsAreSound, LogsAreOfTrails, SilentMovesEnd, NamesDiffer, OperationsComeInTurn, DoneNumbersAscend, OneWaits, tail_records, records_at}
use Rattle.e3_laws.proofs.steps.Each.{each-at, each-append, IfAny}
use Rattle.e3_laws.proofs.steps.Suits.Holding.{Holds, legal_holds}
use Rattle.e3_laws.proofs.steps.Suits.Suiting.{due_input_suits}
use Rattle.e3_laws.proofs.steps.Operations.Lasting.{Lasts, legal_lasts}
use Rattle.e3_laws.proofs.steps.Operations.Fitting.{due_fits}
use Rattle.e3_laws.proofs.steps.Sound.Sounding.{legal_trail}
use Rattle.e3_laws.proofs.steps.Sound.Parting.{no_step}
use Rattle.e3_laws.proofs.steps.Sound.Naming.{legal_named}
use Rattle.e3_laws.proofs.steps.Operations.Talks.{comes_in_turn}
use Rattle.e3_laws.proofs.steps.Operations.Ordering.{Orders, legal_ordered}
use Rattle.e3_laws.proofs.steps.Operations.Numbering.{done_ascend, one_waits}

pub go_between : PacketsGoBetween
go_between sc h packet given legal has = each-at (GoesBetween sc.weights) (sent h) packet (legal_holds sc h given legal).now.sent has

pub was_sent : PendingWasSent
was_sent = pending_sent

tail_suits : (P : Record → Type 0) (o : Option Tail) → IfAny (λ tail. Each P tail.records) o → Each P (tail_records o)
tail_suits P None is = tt
tail_suits P (Some tail) is = is

pub records_suit : RecordsSuitTheirSite
records_suit sc h site r given legal has =
    let P : Record → Type 0 = SuitsLog sc.weights site in
    let Q : List Record → Type 0 = Each P in
    let all : _ = (legal_holds sc h given legal).now.sites site in
    each-at P (records_at sc h site) r
    (each-append P (log_of sc h site) (tail_records (open_tail sc h site)) (subst Q (life_log_at (moves_of sc h site)) all.life.log)
    (tail_suits P (open_tail sc h site) all.tail)) has

pub votes_suit : VotesAtTheirSite
votes_suit sc h site t ops given legal has = (records_suit sc h site (log.Vote t ops) given legal has).1

pub inputs_suit : InputsSuit
inputs_suit sc h site i given legal due =
    let all : Holds sc h = legal_holds sc h given legal in
    due_input_suits sc h site i given all.line.binds all.now.sent (λ s. (all.line.sites s).life) due

pub inputs_fit : DueInputsFit
inputs_fit sc h site i given legal up due = due_fits sc h site i given (legal_lasts sc h given legal) up due

pub trails_sound : TrailsAreSound
trails_sound sc h given legal = (legal_trail sc h given legal).sound

pub logs_of_trails : LogsAreOfTrails
logs_of_trails sc h site = ap log_by (trail_moves sc site h)

pub silent_end : SilentMovesEnd
silent_end sc h site before rest m inputs records given legal is = no_step sc site (trail_of sc h) before rest m inputs records (legal_trail sc h given legal).sound is

pub names_apart : NamesDiffer
names_apart sc h given legal = (legal_named sc h given legal).differ

pub come_in_turn : OperationsComeInTurn
come_in_turn sc h packet t n op given legal has says up =
    let lasts : Lasts sc h = legal_lasts sc h given legal in
    comes_in_turn sc h packet.to t n lasts.holds lasts.talks up (record { packet = packet; has = has; op = op; says = says }) refl

pub numbers_ascend : DoneNumbersAscend
numbers_ascend sc h site t given legal up = done_ascend site t (life_at (moves_of sc h site)) ((legal_ordered sc h given legal).ordered site up)

pub waits_one : OneWaits
waits_one sc h site t given legal up = let all : Orders sc h = legal_ordered sc h given legal in one_waits sc h site t all.lasts up (all.ordered site up)
