use Rattle.std.proofs.Common.{◌≡◌, ◌++◌, take}
use Rattle.std.specs.List.{flat_map}
use Rattle.e3_cards.specs.Issued.{number_told}
use Rattle.e3_cards.proofs.issued.add_numbers.Given as goal

abbrev pub invariant-loop-e : goal.invariant-loop-e
invariant-loop-e l = l.out ≡ l.initial.out ++ flat_map (number_told l.t) (take l.e-index l.events)
