use Rattle.std.proofs.Common.{◌≡◌, [], ℕ, List, fold, take}
use Rattle.e3_report.specs.Tables.{ops_at, ops_by}
use Rattle.e3_report.proofs.tables.votes_of.Given as goal

abbrev pub invariant-loop-r : goal.invariant-loop-r
invariant-loop-r l = (key : List ℕ) → ops_at l.votes key ≡ fold (ops_by key) [] (take l.r-index l.log)
