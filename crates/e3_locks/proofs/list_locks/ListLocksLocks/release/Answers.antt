-- the others stay, and each name's front gets its locks
use Rattle.std.proofs.Common.{◌≡◌, ◌∙◌, ap, sym, subst, true, arith, ◌+◌, ◌-◌, min, vec_len, vec_capacity, List}
use Rattle.e3_locks.specs.declared.granted.Granted.{Granted}
use Rattle.e3_locks.specs.LockLists.{LockLists, on}
use Rattle.e3_locks.specs.Places.{Place, others_of, advanced, released}
use Rattle.e3_locks.specs.Waiting.{is_fair}
use Rattle.e3_locks.proofs.Claims.{on_others}
use Rattle.e3_locks.proofs.Fairness.{fair_released}
use Rattle.e3_locks.proofs.list_locks.ListLocksLocks.release.Goals as goal

pub returns-clause-places : goal.returns-clause-places
returns-clause-places c = λ n.
    let h : on n c.keep_others.new.locks.items ≡ others_of c.args.txn (on n c.args.self.now.held) =
    ap (λ (l : List Granted). on n l) c.keep_others.ensures.items ∙ on_others c.args.txn n c.self.inside.held.items ∙ ap (λ (v : LockLists). others_of c.args.txn (on n v.held)) c.self.view_is in
    let q : on n c.keep_others-2.new.locks.items ≡ others_of c.args.txn (on n c.args.self.now.queue) =
    ap (λ (l : List Granted). on n l) c.keep_others-2.ensures.items ∙ on_others c.args.txn n c.self.inside.queue.items ∙ ap (λ (v : LockLists). others_of c.args.txn (on n v.queue)) c.self.view_is in
    sym (c.grant_fronts.ensures.places n) ∙ (λ i. advanced (record { held = h i; queue = q i }))

pub returns-clause-room : goal.returns-clause-room
returns-clause-room c =
    let r : c.args.self.now.room ≡ min (vec_capacity c.self.inside.held - (vec_len c.self.inside.held + vec_len c.self.inside.queue)) (vec_capacity c.self.inside.queue - vec_len c.self.inside.queue) =
    ap (λ (v : LockLists). v.room) (sym c.self.view_is) in
    omega (arith, r, c.grant_fronts.ensures.len, c.grant_fronts.ensures.queue, c.grant_fronts.ensures.held_room, c.grant_fronts.ensures.queue_room, c.keep_others.ensures.len, c.keep_others.ensures.capacity, c.keep_others-2.ensures.len, c.keep_others-2.ensures.capacity)

pub invariant_of-self : goal.invariant_of-self
invariant_of-self c = (
  omega (arith, c.self.invariant.0, c.grant_fronts.ensures.len, c.grant_fronts.ensures.held_room, c.keep_others.ensures.len, c.keep_others.ensures.capacity, c.keep_others-2.ensures.len),
  λ n.
      let was : Place = record { held = on n c.self.inside.held.items; queue = on n c.self.inside.queue.items } in
      let h : on n c.keep_others.new.locks.items ≡ others_of c.args.txn was.held = ap (λ (l : List Granted). on n l) c.keep_others.ensures.items ∙ on_others c.args.txn n c.self.inside.held.items in
      let q : on n c.keep_others-2.new.locks.items ≡ others_of c.args.txn was.queue = ap (λ (l : List Granted). on n l) c.keep_others-2.ensures.items ∙ on_others c.args.txn n c.self.inside.queue.items in
      let now : record { held = on n c.grant_fronts.new.held.items; queue = on n c.grant_fronts.new.queue.items } ≡ released c.args.txn was =
      sym (c.grant_fronts.ensures.places n) ∙ (λ i. advanced (record { held = h i; queue = q i })) in
      subst (λ (p : Place). is_fair p.held p.queue ≡ true) (sym now) (fair_released c.args.txn was (c.self.invariant.1 n)),
)
