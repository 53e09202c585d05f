use Rattle.std.proofs.Common.{sym, ◌∙◌, inr}
use Rattle.e3_trace.proofs.Lines.{ended_whole, ended_more}
use Rattle.e3_trace.proofs.trace.ended.Goals as goal

pub returns-then-is_empty : goal.returns-then-is_empty
returns-then-is_empty c =
    ended_whole c.args.at c.args.reading.now c.args.left.now c.in-Ok.history.entries c.in-Ok.ensures (sym c.is_empty.ensures ∙ c.if-is_empty.true)

pub returns-else-is_empty : goal.returns-else-is_empty
returns-else-is_empty c =
    inr (ended_more c.args.at c.args.reading.now c.args.left.now c.in-Ok.history.entries c.in-Ok.ensures (sym c.is_empty.ensures ∙ c.if-is_empty.false))
