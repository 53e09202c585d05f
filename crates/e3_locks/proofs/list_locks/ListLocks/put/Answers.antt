-- a request that the rule answers keeps the table fair
use Rattle.std.proofs.Common.{◌≡◌, ◌∙◌, ◌++◌, ◌∷◌, [], ap, sym, subst, true, rules, List}
use Rattle.e3_types.specs.Locks.{lock_grant}
use Rattle.e3_types.specs.declared.locks.Grant.TheVariants.{Held, Waits}
use Rattle.e3_locks.specs.declared.granted.Granted.{Granted}
use Rattle.e3_locks.specs.LockLists.{LockLists, lock_of, on}
use Rattle.e3_locks.specs.Waiting.{is_fair}
use Rattle.e3_locks.proofs.Fairness.{fair_with}
use Rattle.e3_locks.proofs.list_locks.ListLocks.put.Goals as goal

pub invariant_of-self-in-Held : goal.invariant_of-self-in-Held
invariant_of-self-in-Held c =
    let held = c.self.inside.held.items in
    let queue = c.self.inside.queue.items in
    let x = c.args.asked in
    let e : Held ≡ lock_grant (lock_of x) (on x.name held) (on x.name queue) =
    sym c.in-Held.is ∙ c.requires ∙ ap (λ (v : LockLists). lock_grant (lock_of x) (on x.name v.held) (on x.name v.queue)) (sym c.self.view_is) in
    let h : c.push_reserved.new.self.items ≡ held ++ x ∷ [] = c.push_reserved.ensures.items ∙ ap (λ (l : List Granted). l ++ x ∷ []) c.make_room.ensures.held in
    let q : c.make_room.new.queue.items ≡ queue = c.make_room.ensures.queue in (
      search rules,
      λ n.
          subst (λ (l : List Granted). is_fair (on n l) (on n c.make_room.new.queue.items) ≡ true) (sym h)
          (subst (λ (l : List Granted). is_fair (on n (held ++ x ∷ [])) (on n l) ≡ true) (sym q) (fair_with held queue x Held e c.self.invariant.1 n)),
    )

pub invariant_of-self-in-Waits : goal.invariant_of-self-in-Waits
invariant_of-self-in-Waits c =
    let held = c.self.inside.held.items in
    let queue = c.self.inside.queue.items in
    let x = c.args.asked in
    let e : Waits ≡ lock_grant (lock_of x) (on x.name held) (on x.name queue) =
    sym c.in-Waits.is ∙ c.requires ∙ ap (λ (v : LockLists). lock_grant (lock_of x) (on x.name v.held) (on x.name v.queue)) (sym c.self.view_is) in
    let h : c.make_room.new.held.items ≡ held = c.make_room.ensures.held in
    let q : c.push_reserved-in-Waits.new.self.items ≡ queue ++ x ∷ [] = c.push_reserved-in-Waits.ensures.items ∙ ap (λ (l : List Granted). l ++ x ∷ []) c.make_room.ensures.queue in (
      search rules,
      λ n.
          subst (λ (l : List Granted). is_fair (on n l) (on n c.push_reserved-in-Waits.new.self.items) ≡ true) (sym h)
          (subst (λ (l : List Granted). is_fair (on n held) (on n l) ≡ true) (sym q) (fair_with held queue x Waits e c.self.invariant.1 n)),
    )
