use Rattle.std.proofs.Common.{◌≡◌, ◌≤◌, take}
use Rattle.e3_world.specs.Items.{around_line}
use Rattle.e3_judge.proofs.AroundLines.{split_at}
use Rattle.e3_judge.proofs.items.line_end.Given as goal

abbrev pub invariant-loop-at : goal.invariant-loop-at
invariant-loop-at l = record {
  within : l.end ≤ l.at;
  is_split : around_line (take l.at l.history) ≡ split_at l.end l.at l.history;
}
