-- the pieces, one after the other
use Rattle.std.proofs.Common.{append_assoc}
use Rattle.e3_report.specs.lines.Events.{failure_text}
use Rattle.e3_report.proofs.lines.events.push_failure.Goals as goal

pub returns : goal.returns
unfolding failure_text
returns c = λ whole.
    let why = c.push_word_and_why.ensures whole in
    let inc = c.labelled.ensures why.0 in
    (inc.0, rw (why.1, inc.1) (simp append_assoc))
