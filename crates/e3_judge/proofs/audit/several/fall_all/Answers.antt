use Rattle.std.proofs.Common.{◌∙◌, ap, fold}
use Rattle.std.proofs.lemmas.Result.{IfOk-weaker}
use Rattle.e3_judge.specs.audit.Seats.{noted}
use Rattle.e3_judge.specs.declared.audit.seat.Seat.{Seat}
use Rattle.e3_judge.proofs.audit.Seats.{seat_falls}
use Rattle.e3_judge.proofs.audit.several.fall_all.Goals as goal

pub returns : goal.returns
returns c = IfOk-weaker c.note_all.result _ _ (λ u is.
    seat_falls c.args._prefix.now.scenario.now c.args._prefix.now.entries.now c.args._site c.args.inputs.now c.args._records.now c.args._why c.args.seat.now _ c.requires
    (is ∙ ap (λ (s : Seat). fold noted s c.args.inputs.now) c.lie.ensures)) c.note_all.ensures
