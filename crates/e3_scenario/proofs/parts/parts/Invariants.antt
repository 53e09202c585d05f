-- the parts so far, and the bytes that are left
use Rattle.std.proofs.Common.{◌≡◌, length}
use Rattle.e3_scenario.specs.Parts.{more_parts, parts_of}
use Rattle.e3_report.specs.lines.Marks.{bar, pieces}
use Rattle.e3_scenario.proofs.parts.parts.Given as goal

abbrev pub invariant-pieces : goal.invariant-pieces
invariant-pieces l = more_parts l.parts (pieces bar l.left) ≡ parts_of l.text

abbrev pub decreases-pieces : goal.decreases-pieces
decreases-pieces l = length l.left
