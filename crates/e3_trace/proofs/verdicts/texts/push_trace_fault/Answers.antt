-- the text of each fault
use Rattle.std.proofs.Common.{append_assoc, refl}
use Rattle.e3_trace.specs.verdicts.Findings.{trace_text}
use Rattle.e3_trace.proofs.verdicts.texts.push_trace_fault.Goals as goal

pub returns-in-Line : goal.returns-in-Line
unfolding trace_text
returns-in-Line c = λ whole.
    let end = c.text.ensures whole in
    let line = c.labelled.ensures end.0 in
    (line.0, rw (end.1, line.1, c.in-Line.is) (simp append_assoc))

pub returns-in-TooLong : goal.returns-in-TooLong
unfolding trace_text
returns-in-TooLong c = λ whole. let text = c.text-in-TooLong.ensures whole in (text.0, rw (text.1, c.in-TooLong.is) refl)

pub returns-in-NoMemory : goal.returns-in-NoMemory
unfolding trace_text
returns-in-NoMemory c = λ whole. let text = c.text-in-NoMemory.ensures whole in (text.0, rw (text.1, c.in-NoMemory.is) refl)
