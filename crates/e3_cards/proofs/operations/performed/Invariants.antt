use Rattle.std.proofs.Common.{◌≡◌, take}
use Rattle.std.specs.List.{flat_map}
use Rattle.e3_cards.specs.Arriving.{performed_in}
use Rattle.e3_cards.proofs.operations.performed.Given as goal

abbrev pub invariant-loop-a : goal.invariant-loop-a
invariant-loop-a l = l.out ≡ flat_map (performed_in l.heard) (take l.a-index l.came)
