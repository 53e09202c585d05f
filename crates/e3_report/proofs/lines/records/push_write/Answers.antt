-- the pieces, one after the other
use Rattle.std.proofs.Common.{append_assoc}
use Rattle.e3_report.specs.lines.Records.{write_line}
use Rattle.e3_report.proofs.lines.records.push_write.Goals as goal

pub returns : goal.returns
unfolding write_line
returns c = λ whole.
    let end = c.line_end.ensures whole in
    let val = c.push_word_and_bytes.ensures end.0 in
    let name = c.push_mark_and_name.ensures val.0 in
    (name.0, rw (end.1, val.1, name.1) (simp append_assoc))
