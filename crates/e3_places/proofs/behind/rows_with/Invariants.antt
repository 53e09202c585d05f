use Rattle.std.proofs.Common.{◌≡◌, ◌++◌, take, fold}
use Rattle.e3_places.specs.Standing.{row_with}
use Rattle.e3_places.proofs.behind.rows_with.Given as goal

abbrev pub invariant-loop-r : goal.invariant-loop-r
invariant-loop-r l = l.answer ≡ fold (row_with (l.votes ++ l.cast)) l.initial.answer (take l.r-index l.records)
