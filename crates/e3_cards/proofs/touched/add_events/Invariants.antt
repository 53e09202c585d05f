use Rattle.std.proofs.Common.{◌≡◌, take, fold}
use Rattle.std.specs.List.{flat_map}
use Rattle.e3_cards.specs.Tables.{add_once, told_txns}
use Rattle.e3_cards.proofs.touched.add_events.Given as goal

abbrev pub invariant-loop-e : goal.invariant-loop-e
invariant-loop-e l = l.out ≡ fold add_once l.initial.out (flat_map told_txns (take l.e-index l.events))
