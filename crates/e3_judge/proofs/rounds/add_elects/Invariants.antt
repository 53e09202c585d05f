use Rattle.std.proofs.Common.{◌≡◌, ◌++◌, take}
use Rattle.std.specs.List.{flat_map}
use Rattle.e3_world.specs.Items.{elected_txn}
use Rattle.e3_judge.proofs.rounds.add_elects.Given as goal

abbrev pub invariant-loop-i : goal.invariant-loop-i
invariant-loop-i l = l.txns ≡ l.initial.txns ++ flat_map elected_txn (take l.i-index l.inputs)
