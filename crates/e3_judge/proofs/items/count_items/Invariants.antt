use Rattle.std.proofs.Common.{◌≡◌, ◌≤◌, take, not, count_by}
use Rattle.e3_world.specs.Items.{is_delivery}
use Rattle.e3_judge.proofs.items.count_items.Given as goal

abbrev pub invariant-loop-i : goal.invariant-loop-i
invariant-loop-i l = record {
  so_far : l.count ≡ count_by (λ i. not (is_delivery i)) (take l.i-index l.inputs);
  within : l.count ≤ l.i-index;
}
