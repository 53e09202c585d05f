use Rattle.std.proofs.Common.{◌∙◌, ◌∷◌, [], ap, fold, sym, take}
use Rattle.std.proofs.lemmas.Grind.{fold-append}
use Rattle.e3_judge.specs.audit.Seats.{noted}
use Rattle.e3_judge.specs.declared.audit.seat.Seat.{Seat}
use Rattle.e3_judge.proofs.audit.Places.{take_next}
use Rattle.e3_judge.proofs.audit.several.note_all.Goals as goal

pub loop-input-preserved : goal.loop-input-preserved
loop-input-preserved c =
    let inputs = c.args.inputs.now in
    let k = c.loop-input.input-index in
    let i = c.input-item.result in
    c.in_ok-note.ensures ∙ ap (λ (s : Seat). noted s i) c.loop-input.invariant ∙ sym (fold-append noted c.args.seat.now (take k inputs) (i ∷ []))
    ∙ ap (fold noted c.args.seat.now) (sym (take_next inputs k i c.loop-input-test.true c.input-item.is))
