use Rattle.std.proofs.Common.{◌≡◌, ◌∙◌, [], ap, fold, length, arith}
use Rattle.std.specs.List.{flat_map}
use Rattle.std.proofs.lemmas.Grind.{common_steps}
use Rattle.e3_report.specs.Summary.{begun_by, events_of}
use Rattle.e3_report.specs.Tallies.{with_txns}
use Rattle.e3_report.proofs.Tallying.{begins_counted}
use Rattle.e3_report.proofs.tallies.begun.Goals as goal

pub returns : goal.returns
returns c =
    let whole : c.loop-e.begun ≡ fold (λ keys e. with_txns keys (flat_map begun_by (events_of e.act))) [] c.args.history.now = grind (arith, common_steps) in
    c.len.ensures ∙ ap length whole ∙ begins_counted c.args.history.now
