use Rattle.std.proofs.Common.{◌≡◌, ◌∙◌, false, Some, sym, arith}
use Rattle.std.specs.Prelude.{bytes_eq, codes}
use Rattle.std.proofs.lemmas.Result.{err_from_is_err_and}
use Rattle.e3_trace.specs.Cuts.{cut}
use Rattle.e3_report.specs.lines.Marks.{feed, pieces}
use Rattle.e3_trace.specs.Trace.{nothing_read, lines_read}
use Rattle.e3_trace.proofs.Lines.{line_on, line_stops}
use Rattle.e3_trace.proofs.trace.lines_with.Goals as goal

pub returns-in_err-one_on : goal.returns-in_err-one_on
returns-in_err-one_on c =
    let some : cut feed c.lines.left.now ≡ Some (c.in-Ok.line.now, c.in-Ok.more.now) = cc (c.in-Ok.ensures.gives) in
    let other : bytes_eq c.in-Ok.line.now (codes "end") ≡ false = sym c.is_text.ensures ∙ c.if-is_text.false in
    let p = err_from_is_err_and c.from_residual.result c.from_residual.ensures.1 in
    rw (p.1, p.2) (line_stops c.lines.at c.lines.reading c.lines.left.now c.in-Ok.line.now c.in-Ok.more.now c.in_err-one_on.field-0.0
    (lines_read 1 nothing_read (pieces feed c.args.text.now)) some other c.in_err-one_on.ensures c.lines.invariant.same)

pub lines-preserved : goal.lines-preserved
lines-preserved c =
    let some : cut feed c.lines.left.now ≡ Some (c.in-Ok.line.now, c.in-Ok.more.now) = cc (c.in-Ok.ensures.gives) in
    let other : bytes_eq c.in-Ok.line.now (codes "end") ≡ false = sym c.is_text.ensures ∙ c.if-is_text.false in
    record {
      same = line_on c.lines.at c.lines.reading c.one_on.new.reading c.lines.left.now c.in-Ok.line.now c.in-Ok.more.now
          (lines_read 1 nothing_read (pieces feed c.args.text.now)) some other c.in_ok-one_on.ensures c.lines.invariant.same;
      within = omega (arith, c.in-Ok.ensures.shorter);
    }
