-- what each name comes to stays the same, and so does the room
use Rattle.std.proofs.Common.{◌≡◌, ◌≤◌, ◌+◌, ℕ, List, vec_len, vec_capacity}
use Rattle.e3_locks.specs.Places.{advanced}
use Rattle.e3_locks.specs.LockLists.{on}
use Rattle.e3_locks.proofs.list_locks.grant_fronts.Given as goal

abbrev pub invariant-grants : goal.invariant-grants
invariant-grants l = record {
  places : (n : List ℕ) → advanced (record { held = on n l.initial.held.items; queue = on n l.initial.queue.items })
      ≡ advanced (record { held = on n l.held.items; queue = on n l.queue.items });
  len : vec_len l.held + vec_len l.queue ≡ vec_len l.initial.held + vec_len l.initial.queue;
  queue : vec_len l.queue ≤ vec_len l.initial.queue;
  held_room : vec_capacity l.held ≡ vec_capacity l.initial.held;
  queue_room : vec_capacity l.queue ≡ vec_capacity l.initial.queue;
}

abbrev pub decreases-grants : goal.decreases-grants
decreases-grants l = vec_len l.queue
