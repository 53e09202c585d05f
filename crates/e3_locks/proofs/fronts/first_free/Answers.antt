-- each request that is passed is not free, and the one that is found is
use Rattle.std.proofs.Common.{◌≡◌, ◌⊎◌, inl, inr, true, false, take}
use Rattle.std.specs.List.{list_any}
use Rattle.e3_types.specs.Locks.{opposes}
use Rattle.e3_types.specs.Same.{same_numbers}
use Rattle.e3_locks.specs.LockLists.{lock_of, on}
use Rattle.e3_locks.proofs.Granting.{passed_at, free_at}
use Rattle.e3_locks.proofs.fronts.first_free.Goals as goal
use Rattle.e3_locks.proofs.fronts.first_free.Goals.{else-not-is_named-via-then-not-is_named+else-not-is_opposed, else-not-is_named-via-else-not-is_named}

pub returns-then-not-is_opposed : goal.returns-then-not-is_opposed
returns-then-not-is_opposed c =
    let x = c.index-queue-k.result in
    let named : list_any (λ g. same_numbers x.name g.name) (take c.loop-k.k c.args.queue.now) ≡ false = cc in
    let opposed : list_any (opposes (lock_of x)) (on x.name c.args.held.now) ≡ false = cc in
    free_at c.args.held.now c.args.queue.now c.loop-k.k x c.loop-k-test.true c.index-queue-k.is named opposed

pub loop-k-preserved : goal.loop-k-preserved
loop-k-preserved c =
    let x = c.index-queue-k.result in
    let named_or_opposed : (list_any (λ g. same_numbers x.name g.name) (take c.loop-k.k c.args.queue.now) ≡ true) ⊎ (list_any (opposes (lock_of x)) (on x.name c.args.held.now) ≡ true) =
    elim c.else-not-is_named.branch [
      | else-not-is_named-via-then-not-is_named+else-not-is_opposed w ↦ inr (let e : list_any (opposes (lock_of x)) (on x.name c.args.held.now) ≡ true = cc in e)
      | else-not-is_named-via-else-not-is_named w ↦ inl (let e : list_any (λ g. same_numbers x.name g.name) (take c.loop-k.k c.args.queue.now) ≡ true = cc in e)
    ] in
    passed_at c.args.held.now c.args.queue.now c.loop-k.k x c.loop-k-test.true c.index-queue-k.is named_or_opposed c.loop-k.invariant
