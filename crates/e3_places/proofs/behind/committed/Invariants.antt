use Rattle.std.proofs.Common.{◌≡◌, take, filter, fold}
use Rattle.e3_types.specs.Same.{same_txn}
use Rattle.e3_places.specs.Standing.{written}
use Rattle.e3_places.proofs.behind.committed.Given as goal

abbrev pub invariant-loop-a : goal.invariant-loop-a
invariant-loop-a l = l.answer ≡ fold written l.initial.answer (filter (λ a. same_txn l.t a.txn) (take l.a-index l.asked))
