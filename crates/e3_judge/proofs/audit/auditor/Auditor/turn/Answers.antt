use Rattle.std.proofs.Common.{◌∙◌, ◌-◌, length, refl, sym, arith}
use Rattle.e3_judge.proofs.Anys.{decides_none}
use Rattle.std.proofs.lemmas.Option.{slice_get_read}
use Rattle.e3_judge.proofs.audit.Through.{seat_at}
use Rattle.e3_judge.proofs.audit.FallsAndRises.{legal_behind, turned}
use Rattle.e3_judge.proofs.audit.auditor.Auditor.turn.Goals as goal

pub turn-requires-clause-legal : goal.turn-requires-clause-legal
turn-requires-clause-legal c =
    legal_behind c.args.prefix.now.scenario.now c.args.prefix.now.entries.now c.args.after.now c.args.entry.now c.requires.stands.legal c.requires.after
    ((decides_none _).0 (sym c.in_ok-may.ensures ∙ c.if-not-may.false))

pub turn-requires-clause-stands : goal.turn-requires-clause-stands
turn-requires-clause-stands c =
    let items = c.args.self.now.seats.items in
    let count = c.requires.stands.count in
    let seat = c.index_mut-seat.result.now in
    seat_at c.args.prefix.now.scenario.now c.args.prefix.now.entries.now items c.args.entry.now.owner seat c.requires.stands.seats c.requires.some
    (slice_get_read items (length items) (c.args.entry.now.owner - 1) seat refl (omega (arith, count)) c.index_mut-seat.ensures.value)

pub returns : goal.returns
returns c = λ yes.
    turned c.args.prefix.now.scenario.now c.args.prefix.now.entries.now c.args.after.now c.args.entry.now c.turn.new.seat c.args.self.now _ c.requires.stands c.requires.after
    c.requires.some (c.in_ok-on.ensures.quiet c.if-not-on.false) ((decides_none _).0 (sym c.in_ok-may.ensures ∙ c.if-not-may.false))
    (c.in_ok-on.ensures.stands c.if-not-on.false) refl refl refl
