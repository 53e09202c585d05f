use Rattle.std.proofs.Common.{◌≡◌, take}
use Rattle.std.specs.List.{flat_map}
use Rattle.e3_world.specs.Items.{elected_txn, inputs_of}
use Rattle.e3_judge.proofs.rounds.made_txns.Given as goal

abbrev pub invariant-loop-e : goal.invariant-loop-e
invariant-loop-e l = l.txns ≡ flat_map elected_txn (flat_map (λ e. inputs_of e.act) (take l.e-index l.e-items))
