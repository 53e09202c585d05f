use Rattle.std.proofs.Common.{◌≡◌, ◌+◌, take, count_by, not}
use Rattle.e3_world.specs.Items.{is_delivery}
use Rattle.e3_report.proofs.skips.count_inputs.Given as goal

abbrev pub invariant-loop-input : goal.invariant-loop-input
invariant-loop-input l = l.n ≡ l.before + count_by (λ i. not (is_delivery i)) (take l.input-index l.inputs)
