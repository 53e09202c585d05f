-- the locks of the name that was searched for
use Rattle.std.proofs.Common.{◌∙◌, ap, sym, subst, List, ℕ}
use Rattle.e3_types.specs.Sorted.{IsAt, IsGap}
use Rattle.e3_locks.specs.LockLists.{LockLists, on}
use Rattle.e3_locks.specs.Places.{Place, mode_held}
use Rattle.e3_locks.specs.Standing.{Standing}
use Rattle.e3_locks.proofs.Placing.{name_of, place_found, place_gap}
use Rattle.e3_locks.proofs.table.LockTableLocks.holds.Goals as goal

pub returns-in-Ok : goal.returns-in-Ok
returns-in-Ok c =
    let items : List Standing = c.self.inside.places.items in
    let n : List ℕ = c.args.name.now in
    let a : IsAt name_of n items c.in-Ok.at = subst (λ (l : List Standing). IsAt name_of n l c.in-Ok.at) c.deref.ensures.value c.in-Ok.ensures in
    c.mode.ensures ∙ ap (λ (p : Place). mode_held c.args.txn p.held) (sym (place_found items c.in-Ok.at n a c.index.result.now c.index.ensures 0 c.self.invariant.0.ascending))
    ∙ ap (λ (v : LockLists). mode_held c.args.txn (on n v.held)) c.self.view_is

pub returns-in-Err : goal.returns-in-Err
returns-in-Err c =
    let items : List Standing = c.self.inside.places.items in
    let n : List ℕ = c.args.name.now in
    let a : IsGap name_of n items c.in-Err.field-0 = subst (λ (l : List Standing). IsGap name_of n l c.in-Err.field-0) c.deref.ensures.value c.in-Err.ensures in
    ap (λ (p : Place). mode_held c.args.txn p.held) (sym (place_gap items c.in-Err.field-0 n a 0 c.self.invariant.0.ascending))
    ∙ ap (λ (v : LockLists). mode_held c.args.txn (on n v.held)) c.self.view_is
