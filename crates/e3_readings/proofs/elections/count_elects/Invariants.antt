use Rattle.std.proofs.Common.{◌≡◌, ◌≤◌, take, count_by}
use Rattle.e3_world.specs.Elections.{is_elect}
use Rattle.e3_readings.proofs.elections.count_elects.Given as goal

abbrev pub invariant-loop-m : goal.invariant-loop-m
invariant-loop-m l = record {
  counted : l.count ≡ count_by is_elect (take l.m-index l.steps);
  below : l.count ≤ l.m-index;
}
