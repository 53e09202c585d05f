use Rattle.std.proofs.Common.{◌≡◌, ◌⊎◌, ◌+◌, ◌∙◌, Bool, true, Result, Ok, Err, IsTrue, nat_lt, length, ap, subst, sym}
use Rattle.std.proofs.lemmas.Bool.{le-ltb}
use Rattle.e3_disk.specs.declared.fault.DiskFault.{DiskFault}
use Rattle.e3_disk.specs.declared.fault.DiskFault.TheVariants.{Failed, Full}
use Rattle.e3_disk.specs.declared.panel.Turn.{Turn}
use Rattle.e3_disk.specs.Meters.{Writes, raised}
use Rattle.e3_disk.specs.Memory.{DiskState, state_of, stored_of, fails_next, next_turn}
use Rattle.e3_disk.specs.Panel.{by_turn, meters_of, turn_of, after_turn}
use Rattle.e3_disk.specs.Stored.{left, written}
use Rattle.e3_disk.proofs.Turns.{no_other, second_of, writes_by}
use Rattle.e3_disk.proofs.memory.MemDiskDisk.write_at.Goals as goal

pub returns-clause-only_full : goal.returns-clause-only_full
returns-clause-only_full c = no_other c.write_by.result _ c.write_by.ensures.error

pub returns-clause-meters : goal.returns-clause-meters
returns-clause-meters c =
    subst (λ (r : Result (Unit {0}) DiskFault). Writes {T = Unit {0}} (meters_of c.args.self.now.panel) (meters_of c.write_turn-turn.new.self) r) (sym c.write_by.ensures.answer)
    (writes_by c.write_turn-turn.result (meters_of c.args.self.now.panel) (meters_of c.write_turn-turn.new.self) c.write_turn-turn.ensures.meters)

pub returns-clause-answer : goal.returns-clause-answer
returns-clause-answer c =
    let s = state_of c.args.self.now in
    let turn : c.write_turn-turn.result ≡ next_turn s = c.write_turn-turn.ensures.turn ∙ ap (λ (b : Bool). turn_of b s.meters) c.is_listed-listed.ensures.listed in
    let answer : Turn → Result (Unit {0}) DiskFault = λ t. by_turn t (Ok tt) (Err Failed) (Err Failed) in
    let need = c.args.place + length c.args.bytes.now in
    c.write_by.ensures.answer ∙ ap answer turn ∙ second_of (nat_lt s.meters.capacity need) (Err (Full need s.meters.capacity)) (answer (next_turn s)) (le-ltb s.meters.capacity need c.if-need-room.false)

pub returns-clause-after : goal.returns-clause-after
returns-clause-after c =
    let s = state_of c.args.self.now in
    let place = c.args.place in
    let bytes = c.args.bytes.now in
    let turn : c.write_turn-turn.result ≡ next_turn s = c.write_turn-turn.ensures.turn ∙ ap (λ (b : Bool). turn_of b s.meters) c.is_listed-listed.ensures.listed in
    let meters : meters_of c.write_turn-turn.new.self ≡ after_turn (fails_next s) s.meters =
    c.write_turn-turn.ensures.after ∙ ap (λ (b : Bool). after_turn b s.meters) c.is_listed-listed.ensures.listed in
    let after : stored_of c.write_by.new.self ≡ by_turn (next_turn s) (written place bytes s.bytes) (left s.leave (written place bytes s.bytes)) s.bytes =
    c.write_by.ensures.after ∙ (λ i. by_turn (turn i) (written place bytes s.bytes) (left (c.write_turn-turn.ensures.leave i) (written place bytes s.bytes)) s.bytes) in
    let fits : DiskState = record {
      bytes = by_turn (next_turn s) (written place bytes s.bytes) (left s.leave (written place bytes s.bytes)) s.bytes;
      meters = after_turn (fails_next s) s.meters;
      leave = s.leave;
      fails = s.fails;
      calls = raised s.calls 1;
      writes = raised s.writes 1;
    } in
    (λ i. record {
      bytes = after i;
      meters = meters i;
      leave = c.write_turn-turn.ensures.leave i;
      fails = (c.is_listed-listed.ensures.calls i).fails;
      calls = (c.is_listed-listed.ensures.calls i).calls;
      writes = c.saturating_add-self.ensures i;
    })
    ∙ second_of (nat_lt s.meters.capacity (place + length bytes)) (record s { calls = raised s.calls 1; writes = raised s.writes 1 }) fits (le-ltb s.meters.capacity (place + length bytes) c.if-need-room.false)

pub returns-clause-count : goal.returns-clause-count
returns-clause-count c = λ rose.
    let p = c.args.self.now.panel in
    subst (λ (b : Bool). (p.powered ≡ true) × ((p.calls_left ≡ 1) ⊎ IsTrue b)) c.is_listed-listed.ensures.listed (c.write_turn-turn.ensures.own rose)
