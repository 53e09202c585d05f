-- what the calls so far gave, and what they made of the table
use Rattle.std.proofs.Common.{◌≡◌, ℕ, List, take}
use Rattle.e3_locks.specs.LockLists.{place}
use Rattle.e3_locks.specs.Replays.{after_calls, answers_to}
use Rattle.e3_locks.proofs.replays.replay_locks.Given as goal

abbrev pub invariant-loop-call : goal.invariant-loop-call
invariant-loop-call g l = record {
  grants : l.grants.items ≡ answers_to (λ n. place n (g.L.Locks.lists l.initial.table)) (take l.call-index l.calls);
  places : (n : List ℕ) → place n (g.L.Locks.lists l.table) ≡ after_calls (λ m. place m (g.L.Locks.lists l.initial.table)) (take l.call-index l.calls) n;
}
