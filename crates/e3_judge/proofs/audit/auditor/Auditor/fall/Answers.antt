use Rattle.std.proofs.Common.{◌∙◌, ◌-◌, arith, length, refl, sym}
use Rattle.std.proofs.lemmas.Option.{slice_get_read}
use Rattle.e3_judge.proofs.Anys.{decides_none}
use Rattle.e3_judge.proofs.audit.Through.{seat_at}
use Rattle.e3_judge.proofs.audit.FallsAndRises.{fell_all}
use Rattle.e3_judge.proofs.audit.auditor.Auditor.fall.Goals as goal

pub fall_all-requires : goal.fall_all-requires
fall_all-requires c =
    let items = c.args.self.now.seats.items in
    let count = c.requires.stands.count in
    let seat = c.index_mut-seat.result.now in
    seat_at c.args.prefix.now.scenario.now c.args.prefix.now.entries.now items c.args.site seat c.requires.stands.seats c.requires.some
    (slice_get_read items (length items) (c.args.site - 1) seat refl (omega (arith, count)) c.index_mut-seat.ensures.value)

pub returns : goal.returns
returns c = λ yes.
    fell_all c.args.prefix.now.scenario.now c.args.prefix.now.entries.now c.args.entry.now c.args.site c.args.inputs.now c.args.records.now c.args.why c.fall_all.new.seat
    c.args.self.now _ c.requires.stands c.requires.some c.requires.fall ((decides_none _).0 (sym c.in_ok-may.ensures ∙ c.if-not-may.false))
    (c.leave_all.ensures c.if-not-leave_all.false) c.in_ok-fall_all.ensures refl refl
