-- one request that is free moves to the holders, and where none is free no front is left
use Rattle.std.proofs.Common.{◌∙◌, arith}
use Rattle.e3_locks.specs.Fronts.{IsFree}
use Rattle.e3_locks.proofs.Granting.{moved_one, free_there}
use Rattle.e3_locks.proofs.list_locks.grant_fronts.Goals as goal

pub grants-preserved : goal.grants-preserved
grants-preserved c =
    let free : IsFree c.grants.held.items c.grants.queue.items c.in-Some.at =
    free_there c.deref.result.now c.grants.held.items c.deref-in-grants.result.now c.grants.queue.items c.in-Some.at c.deref.ensures.value c.deref-in-grants.ensures.value (c.in-Some.ensures {u = tt}) in
    record {
      places = λ n. c.grants.invariant.places n ∙ moved_one c.grants.held.items c.grants.queue.items c.push_reserved.new.self.items c.remove-next.new.self.items c.in-Some.at c.remove-next.result free c.remove-next.ensures.value c.push_reserved.ensures.items c.remove-next.ensures.items n;
      len = omega (arith, c.grants.invariant.len, c.remove-next.ensures.len, c.push_reserved.ensures.len);
      queue = omega (arith, c.grants.invariant.queue, c.remove-next.ensures.len);
      held_room = c.push_reserved.ensures.capacity ∙ c.grants.invariant.held_room;
      queue_room = c.remove-next.ensures.capacity ∙ c.grants.invariant.queue_room;
    }
