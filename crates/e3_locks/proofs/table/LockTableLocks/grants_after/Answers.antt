-- what the transaction's names grant is what all names grant
use Rattle.std.proofs.Common.{◌≡◌, ◌∙◌, ◌++◌, refl, ap, sym, subst, List, ℕ, map}
use Rattle.std.specs.Prelude.{IfOk}
use Rattle.std.specs.List.{flat_map}
use Rattle.e3_types.specs.declared.transactions.Txn.{Txn}
use Rattle.e3_types.specs.Locks.{front}
use Rattle.e3_locks.specs.declared.granted.Granted.{Granted}
use Rattle.e3_locks.specs.declared.pairs.Pair.{Pair}
use Rattle.e3_locks.specs.LockLists.{LockLists, named, grants_after}
use Rattle.e3_locks.specs.Pairs.{key_of, HasKey}
use Rattle.e3_locks.specs.Places.{Place, without}
use Rattle.e3_locks.specs.Standing.{Standing, place_in}
use Rattle.e3_locks.proofs.Gathering.{gathered, no_grants}
use Rattle.e3_locks.proofs.Tables.{by_places}
use Rattle.e3_locks.proofs.table.LockTableLocks.grants_after.Goals as goal

pub returns : goal.returns
returns c =
    let items : List Standing = c.self.inside.places.items in
    let pairs : List Pair = c.self.inside.pairs.items in
    let mine : List Pair = c.pairs_of.result.now in
    let t : Txn = c.args.txn in
    let f : List ℕ → Place → List Granted = λ n p. map (named n) (front (without t p).held (without t p).queue) in
    let keeps : (n : List ℕ) → HasKey (key_of t ++ n) pairs → HasKey (key_of t ++ n) mine =
    subst (λ (l : List Pair). (n : List ℕ) → HasKey (key_of t ++ n) l → HasKey (key_of t ++ n) mine) c.deref-2.ensures.value c.pairs_of.ensures.all in
    let e : flat_map (λ (p : Pair). f p.name (place_in p.name c.deref.result.now)) mine ≡ grants_after t c.args.self.now =
    ap (λ (l : List Standing). flat_map (λ (p : Pair). f p.name (place_in p.name l)) mine) c.deref.ensures.value
    ∙ gathered f t (no_grants t) items pairs mine c.self.invariant.2 c.self.invariant.0.ascending c.pairs_of.ensures.of_txn c.pairs_of.ensures.ascending keeps
    ∙ sym (by_places f (λ n held. refl) items 0 c.self.invariant.0.ascending)
    ∙ ap (λ (v : LockLists). grants_after t v) c.self.view_is in
    subst (λ (l : List Granted). IfOk c.granted_on.result (λ out. out ≡ l)) e c.granted_on.ensures
