use Rattle.std.proofs.Common.{◌∙◌, ap, sym}
use Rattle.e3_report.specs.Walk.{Walked}
use Rattle.e3_report.proofs.Tallying.{summary_walked}
use Rattle.e3_report.proofs.summing.push_drill.Goals as goal

pub returns : goal.returns
returns c =
    rw (sym (summary_walked c.args.n c.in_ok-counted.counted.committed c.in_ok-counted.counted.aborted c.in_ok-counted.counted.begun c.args.scenario.now
    c.args.history.now c.placed.result.now (c.placed.ensures ∙ ap (λ (w : Walked). w.placed) c.in_ok-walk.ensures)
    c.in_ok-counted.ensures.committed c.in_ok-counted.ensures.aborted c.in_ok-counted.ensures.begun))
    c.push_summary.ensures
