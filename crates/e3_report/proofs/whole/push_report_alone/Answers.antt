-- the records of the walk are those of the history
use Rattle.std.proofs.Common.{◌∙◌, ap, sym}
use Rattle.e3_report.specs.Walk.{Walked}
use Rattle.e3_report.proofs.Standing.{report_walked}
use Rattle.e3_report.proofs.whole.push_report_alone.Goals as goal

pub returns : goal.returns
returns c =
    rw (sym (report_walked c.args.scenario.now c.args.history.now c.placed.result.now (c.placed.ensures ∙ ap (λ (w : Walked). w.placed) c.in_ok-walk.ensures)))
    c.push_report.ensures
