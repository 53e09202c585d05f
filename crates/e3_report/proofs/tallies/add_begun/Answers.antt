use Rattle.std.proofs.Common.{◌≡◌, ◌∙◌, fold, arith}
use Rattle.std.proofs.lemmas.Grind.{common_steps}
use Rattle.e3_report.specs.Summary.{begun_by}
use Rattle.e3_report.specs.Tallies.{with_txns}
use Rattle.e3_report.proofs.Tallying.{of_each}
use Rattle.e3_report.proofs.tallies.add_begun.Goals as goal

pub returns : goal.returns
returns c =
    let whole : c.loop-event.begun ≡ fold (λ keys event. with_txns keys (begun_by event)) c.args.begun.now c.args.events.now = grind (arith, common_steps) in
    whole ∙ of_each begun_by c.args.begun.now c.args.events.now
