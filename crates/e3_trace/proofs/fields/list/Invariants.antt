-- the members so far, and the bytes that are left
use Rattle.std.proofs.Common.{◌≡◌, [], length}
use Rattle.e3_report.specs.lines.Marks.{pieces}
use Rattle.e3_trace.specs.Fields.{list_from}
use Rattle.e3_trace.proofs.fields.list.Given as goal

abbrev pub invariant-pieces : goal.invariant-pieces
invariant-pieces g l = list_from g.T.Piece.form l.members (pieces l.mark l.left) ≡ list_from g.T.Piece.form [] (pieces l.mark l.text)

abbrev pub decreases-pieces : goal.decreases-pieces
decreases-pieces g l = length l.left
