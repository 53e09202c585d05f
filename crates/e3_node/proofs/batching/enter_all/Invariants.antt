-- the steps so far are entered, and the rest may be
use Rattle.std.proofs.Common.{◌≡◌, ◌++◌}
use Rattle.e3_node.specs.Several.{MayEnterAll, marks_in}
use Rattle.e3_wire.specs.Marks.{entries_of}
use Rattle.e3_node.proofs.batching.enter_all.Given as goal

abbrev pub invariant-loop-step : goal.invariant-loop-step
invariant-loop-step l = record {
  may : MayEnterAll l.shared l.step-iterator.rest.items;
  entered : l.shared ≡ l.initial.shared ++ marks_in (entries_of l.initial.shared) l.yielded;
}
