use Rattle.std.proofs.Common.{◌∙◌, ◌-◌, ap, arith, length, refl}
use Rattle.std.proofs.lemmas.Option.{slice_get_read}
use Rattle.e3_judge.specs.audit.Seats.{noted}
use Rattle.e3_judge.specs.declared.audit.seat.Seat.{Seat}
use Rattle.e3_judge.proofs.audit.Seats.{seat_fall}
use Rattle.e3_judge.proofs.audit.Through.{seat_at}
use Rattle.e3_judge.proofs.audit.FallsAndRises.{fell}
use Rattle.e3_judge.proofs.audit.auditor.Auditor.fall_over.Goals as goal

pub would_record-requires : goal.would_record-requires
would_record-requires c =
    let items = c.args.self.now.seats.items in
    let count = c.requires.stands.count in
    let seat = c.index_mut-seat.result.now in
    (seat_at c.args.prefix.now.scenario.now c.args.prefix.now.entries.now items c.args.site seat c.requires.stands.seats c.requires.some
    (slice_get_read items (length items) (c.args.site - 1) seat refl (omega (arith, count)) c.index_mut-seat.ensures.value)).being

pub returns : goal.returns
returns c = λ yes why.
    let sc = c.args.prefix.now.scenario.now in
    let h = c.args.prefix.now.entries.now in
    let items = c.args.self.now.seats.items in
    let count = c.requires.stands.count in
    let seat = c.index_mut-seat.result.now in
    fell sc h c.args.site c.args.input.now c.args.records.now why c.note.new.self c.args.self.now _
    c.requires.stands c.requires.some c.requires.records (c.in_ok-due.ensures.due c.if-not-due.false) (c.in_ok-due.ensures.next c.if-not-due.false)
    (c.in_ok-falls.ensures.up c.if-not-falls.false) (c.in_ok-falls.ensures.made c.if-not-falls.false)
    (seat_fall sc h c.args.site c.args.input.now c.args.records.now why seat _
    (seat_at sc h items c.args.site seat c.requires.stands.seats c.requires.some
    (slice_get_read items (length items) (c.args.site - 1) seat refl (omega (arith, count)) c.index_mut-seat.ensures.value))
    (c.in_ok-note.ensures ∙ ap (λ (s : Seat). noted s c.args.input.now) c.lie.ensures))
    refl c.leave.ensures refl
