use Rattle.std.proofs.Common.{◌≡◌, take, fold}
use Rattle.e3_cards.specs.Issued.{expect_by}
use Rattle.e3_cards.proofs.operations.expected_of.Given as goal

abbrev pub invariant-loop-c : goal.invariant-loop-c
invariant-loop-c l = l.e ≡ fold (expect_by l.site) (record { inc = 0; count = 0 }) (take l.c-index l.c-items)
