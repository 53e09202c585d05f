-- a release on each name that the transaction has is one on each name
use Rattle.std.proofs.Common.{◌∙◌, ap, sym, List}
use Rattle.e3_types.specs.declared.transactions.Txn.{Txn}
use Rattle.e3_locks.specs.LockLists.{LockLists, place}
use Rattle.e3_locks.specs.Places.{released}
use Rattle.e3_locks.specs.Standing.{Standing}
use Rattle.e3_locks.proofs.Tables.{place_is}
use Rattle.e3_locks.proofs.table.LockTableLocks.release.Goals as goal

pub invariant_of-self : goal.invariant_of-self
invariant_of-self c = (
  c.release_all.ensures.table c.self.inside.most c.self.invariant.0,
  c.self.invariant.1,
  c.release_all.ensures.index,
)

pub returns-clause-places : goal.returns-clause-places
returns-clause-places c = λ n.
    let items : List Standing = c.self.inside.places.items in
    let new : List Standing = c.release_all.new.places.items in
    let t : Txn = c.args.txn in
    place_is n new 0 (c.release_all.ensures.table c.self.inside.most c.self.invariant.0).ascending ∙ c.release_all.ensures.places n
    ∙ ap (released t) (sym (place_is n items 0 c.self.invariant.0.ascending) ∙ ap (λ (v : LockLists). place n v) c.self.view_is)
