use Rattle.std.proofs.Common.{◌≡◌, ◌≤◌, take, count_by}
use Rattle.e3_world.specs.Steps.{is_begin}
use Rattle.e3_step.proofs.plain.reading.begins.Given as goal

abbrev pub invariant-loop-m : goal.invariant-loop-m
invariant-loop-m l = record {
  counted : l.n ≡ count_by is_begin (take l.m-index l.steps);
  below : l.n ≤ l.m-index;
}
