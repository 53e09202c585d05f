use Rattle.std.proofs.Common.{◌+◌, List, ℕ, take, drop, ap, ◌∙◌}
use Rattle.e3_log.specs.Regions.{window}
use Rattle.e3_log.proofs.Looking.{not_err, looks_both, looks_damaged, looks_ok}
use Rattle.e3_log.proofs.open.read_frame.Goals as goal

pub returns-in-Shut-clause-looks : goal.returns-in-Shut-clause-looks
returns-in-Shut-clause-looks g c = looks_ok c.in_ok-read_head.ensures.looks

pub returns-in-Broken-clause-looks : goal.returns-in-Broken-clause-looks
returns-in-Broken-clause-looks g c = looks_damaged c.in_ok-read_head.ensures.looks

pub returns-in_ok-body-in-Whole-clause-next : goal.returns-in_ok-body-in-Whole-clause-next
returns-in_ok-body-in-Whole-clause-next g c =
    let span = c.args.span in
    let sized = rw c.in-Whole.is at c.in_ok-read_head.ensures.head in
    sized.frame_is _ (c.in_ok-body-in-Whole.ensures.body
    ∙ ap (λ (l : List ℕ). take c.in-Whole.size (drop (c.args.at + 5) (window span.from span.count l))) (c.in_ok-read_head.ensures.looks.same not_err))

pub returns-in_ok-body-in-Whole-clause-looks : goal.returns-in_ok-body-in-Whole-clause-looks
returns-in_ok-body-in-Whole-clause-looks g c = looks_both c.in_ok-read_head.ensures.looks c.in_ok-body-in-Whole.ensures.looks
