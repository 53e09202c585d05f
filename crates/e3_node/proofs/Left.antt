-- What a disk holds and tells, as a site goes on.
use Rattle.std.proofs.Common.{◌≡◌, ◌<◌, ◌≤◌, ◌^◌, ◌++◌, ℕ, Bool, true, false, List, Option, length, refl, sym, ap, append-nil, arith}
use Rattle.std.specs.Prelude.{nat_lt}
use Rattle.e3_disk.specs.Meaning.{Meaning}
use Rattle.e3_world.specs.Brief.{brief}
use Rattle.e3_log.specs.Reading.{ReadsAs as BytesReadAs}
use Rattle.e3_log.specs.Stands.{LogState, Stands}
use Rattle.e3_node.specs.site_log.Bodies.{ReadsAs, ReadsLeft, joined, with_kept}
use Rattle.e3_node.proofs.site_log.Holding.{hold_same}
use Rattle.e3_node.specs.Bodies.{DiskHolds, DiskTells, ReadsTold}
use Rattle.e3_types.specs.declared.entries.Entry.{Entry}
use Rattle.e3_types.specs.declared.entries.Input.{Input}
use Rattle.e3_types.specs.declared.entries.Why.{Why}
use Rattle.e3_types.specs.declared.entries.Why.TheVariants.{Fault, Full}
use Rattle.e3_types.specs.declared.records.Record.{Record}
use Rattle.e3_types.specs.declared.scenarios.Scenario.{Scenario}
use Rattle.e3_world.specs.Moves.{Move, Silent, Tail, kept_moves, left_by, log_by}
use Rattle.e3_world.proofs.Pushes.{log_push}

-- what a log that stands for bodies reads as
abbrev pub opened_reads : {D : Type 0} (meaning : Meaning D) (bodies : List (List ℕ)) (log : LogState D) →
    Stands meaning bodies log → BytesReadAs (meaning.meters log.disk).capacity log.generation bodies (meaning.content log.disk)
opened_reads meaning bodies log stands = record {
  region = log.region;
  raw = stands.raw;
  spare = stands.spare;
  holds = stands.holds;
  bodies_are = stands.bodies_are;
}

-- the log of moves, with a tail where it is kept
quiet_log : (site : ℕ) (moves : List Move) (tail : Option Tail) → log_by (moves ++ kept_moves site false tail) ≡ log_by moves
quiet_log site moves tail = ap log_by (append-nil moves)

tail_log : (site : ℕ) (moves : List Move) (inputs : List Input) (records : List Record) →
    log_by (moves ++ kept_moves site true (left_by Fault inputs records)) ≡ log_by moves ++ records
tail_log site moves inputs records = log_push moves (record { site = site; did = Silent inputs records })

-- what reads as a log reads as each log with its brief, by the same records; and a bound may be greater
abbrev pub reads_alike : (site capacity most : ℕ) (l m : List Record) (c : List ℕ) → brief l ≡ brief m → ReadsAs site capacity most l c → ReadsAs site capacity most m c
reads_alike site capacity most l m c same it =
    record { lists = it.lists; hold = hold_same site l m it.lists it.hold same; generation = it.generation; few = it.few; reads = it.reads }

abbrev reads_within : (site capacity most later : ℕ) (l : List Record) (c : List ℕ) → most ≤ later → ReadsAs site capacity most l c → ReadsAs site capacity later l c
reads_within site capacity most later l c le it =
    record { lists = it.lists; hold = it.hold; generation = it.generation; few = (let few : it.generation ≤ most = it.few in omega (arith, le, few)); reads = it.reads }

-- what was left of a write tells of the tail that it left
pub left_tells : (site capacity most logged : ℕ) (moves : List Move) (why : Why) (inputs : List Input) (records : List Record) (bytes : List ℕ) →
    ReadsLeft site capacity most (log_by moves) records logged why bytes → ReadsTold site capacity most logged moves (left_by why inputs records) bytes
left_tells site capacity most logged moves why inputs records bytes left = by left.kept left.reads left.told left.doubt
  where
    by : (kept : Bool) → (it : ReadsAs site capacity most (with_kept kept (log_by moves) records) bytes) →
        (length (joined it.lists) < 2 ^ 64 → kept ≡ nat_lt logged (length (joined it.lists))) → (kept ≡ true → why ≡ Fault) →
        ReadsTold site capacity most logged moves (left_by why inputs records) bytes
    by false it told doubt = record {
      kept = false;
      reads = reads_alike site capacity most (log_by moves) _ bytes (ap brief (sym (quiet_log site moves (left_by why inputs records)))) it;
      told = told;
      some = λ yes. absurd (let both : false ≡ true = yes in cc);
    }
    by true it told doubt = in_doubt why (doubt refl)
      where
        in_doubt : (w : Why) → w ≡ Fault → ReadsTold site capacity most logged moves (left_by w inputs records) bytes
        in_doubt Fault is = record {
          kept = true;
          reads = reads_alike site capacity most (log_by moves ++ records) _ bytes (ap brief (sym (tail_log site moves inputs records))) it;
          told = told;
          some = λ yes none. cc;
        }
        in_doubt (Full need room) is = absurd cc

-- what a disk tells it holds
pub tells_holds : (sc : Scenario) (h : List Entry) (site capacity logged : ℕ) (image : List ℕ → Type 0) → DiskTells sc h site capacity logged image →
    DiskHolds sc h site capacity image
tells_holds sc h site capacity logged image tells = λ bytes at. let it = tells bytes at in (it.kept, it.reads)

-- a bound may be greater
pub told_later : (site capacity most later logged : ℕ) (moves : List Move) (tail : Option Tail) (bytes : List ℕ) → most ≤ later →
    ReadsTold site capacity most logged moves tail bytes → ReadsTold site capacity later logged moves tail bytes
told_later site capacity most later logged moves tail bytes le it = record {
  kept = it.kept;
  reads = reads_within site capacity most later (log_by (moves ++ kept_moves site it.kept tail)) bytes le it.reads;
  told = it.told;
  some = it.some;
}
