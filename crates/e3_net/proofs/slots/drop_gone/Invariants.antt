-- slots leave the front, and the room stays
use Rattle.std.proofs.Common.{◌≡◌, length}
use Rattle.std.specs.VecDeque.{deque_capacity}
use Rattle.e3_net.proofs.Rows.{Dropped}
use Rattle.e3_net.proofs.slots.drop_gone.Given as goal

abbrev pub invariant-gone : goal.invariant-gone
invariant-gone l = record { dropped : Dropped l.fn.slots.items l.slots.items; capacity : deque_capacity l.slots ≡ deque_capacity l.fn.slots }

abbrev pub decreases-gone : goal.decreases-gone
decreases-gone l = length l.slots.items
