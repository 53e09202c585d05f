-- those who are waited for on the transaction's names are those on all names, and younger
use Rattle.std.proofs.Common.{◌≡◌, ◌∙◌, ◌++◌, refl, ap, fold, sym, subst, List, ℕ, true, []}
use Rattle.std.specs.Prelude.{IfOk}
use Rattle.std.specs.List.{flat_map, list_all}
use Rattle.std.proofs.lemmas.Result.{IfOk-weaker}
use Rattle.e3_types.specs.declared.transactions.Txn.{Txn}
use Rattle.e3_types.specs.Same.{is_older}
use Rattle.e3_world.specs.Items.{add_txn}
use Rattle.e3_locks.specs.declared.pairs.Pair.{Pair}
use Rattle.e3_locks.specs.LockLists.{LockLists, on}
use Rattle.e3_locks.specs.Pairs.{key_of, HasKey}
use Rattle.e3_locks.specs.Places.{Place}
use Rattle.e3_locks.specs.Standing.{Standing, all_held, all_queued, place_in}
use Rattle.e3_locks.specs.Waiting.{awaited_at, waits_for, is_fair}
use Rattle.e3_locks.proofs.Fairness.{waits_younger}
use Rattle.e3_locks.proofs.Gathering.{gathered, no_waits}
use Rattle.e3_locks.proofs.Placing.{lists}
use Rattle.e3_locks.proofs.Tables.{by_places, place_is, fair_in}
use Rattle.e3_locks.proofs.table.LockTableLocks.waits_for.Goals as goal

pub returns-clause-ok : goal.returns-clause-ok
returns-clause-ok c =
    let items : List Standing = c.self.inside.places.items in
    let pairs : List Pair = c.self.inside.pairs.items in
    let mine : List Pair = c.pairs_of.result.now in
    let t : Txn = c.args.txn in
    let up = c.self.invariant.0.ascending in
    let keeps : (n : List ℕ) → HasKey (key_of t ++ n) pairs → HasKey (key_of t ++ n) mine =
    subst (λ (l : List Pair). (n : List ℕ) → HasKey (key_of t ++ n) l → HasKey (key_of t ++ n) mine) c.deref-2.ensures.value c.pairs_of.ensures.all in
    let names : flat_map (λ (p : Pair). awaited_at t (place_in p.name c.deref.result.now)) mine ≡ flat_map (λ (s : Standing). awaited_at t s.place) items =
    ap (λ (l : List Standing). flat_map (λ (p : Pair). awaited_at t (place_in p.name l)) mine) c.deref.ensures.value
    ∙ gathered (λ n p. awaited_at t p) t (no_waits t) items pairs mine c.self.invariant.2 up c.pairs_of.ensures.of_txn c.pairs_of.ensures.ascending keeps in
    let e : fold add_txn [] (flat_map (λ (p : Pair). awaited_at t (place_in p.name c.deref.result.now)) mine) ≡ waits_for t c.args.self.now =
    ap (λ (l : List Txn). fold add_txn [] l) (names ∙ sym (by_places (λ n p. awaited_at t p) (λ n held. refl) items 0 up))
    ∙ ap (λ (v : LockLists). waits_for t v) c.self.view_is in
    subst (λ (l : List Txn). IfOk c.awaited_on.result (λ out. out ≡ l)) e c.awaited_on.ensures

pub returns-clause-younger : goal.returns-clause-younger
returns-clause-younger c =
    let items : List Standing = c.self.inside.places.items in
    let pairs : List Pair = c.self.inside.pairs.items in
    let mine : List Pair = c.pairs_of.result.now in
    let t : Txn = c.args.txn in
    let up = c.self.invariant.0.ascending in
    let keeps : (n : List ℕ) → HasKey (key_of t ++ n) pairs → HasKey (key_of t ++ n) mine =
    subst (λ (l : List Pair). (n : List ℕ) → HasKey (key_of t ++ n) l → HasKey (key_of t ++ n) mine) c.deref-2.ensures.value c.pairs_of.ensures.all in
    let names : flat_map (λ (p : Pair). awaited_at t (place_in p.name c.deref.result.now)) mine ≡ flat_map (λ (s : Standing). awaited_at t s.place) items =
    ap (λ (l : List Standing). flat_map (λ (p : Pair). awaited_at t (place_in p.name l)) mine) c.deref.ensures.value
    ∙ gathered (λ n p. awaited_at t p) t (no_waits t) items pairs mine c.self.invariant.2 up c.pairs_of.ensures.of_txn c.pairs_of.ensures.ascending keeps in
    let e : fold add_txn [] (flat_map (λ (p : Pair). awaited_at t (place_in p.name c.deref.result.now)) mine) ≡ waits_for t (lists items 0) =
    ap (λ (l : List Txn). fold add_txn [] l) (names ∙ sym (by_places (λ n p. awaited_at t p) (λ n held. refl) items 0 up)) in
    let fair : (n : List ℕ) → is_fair (on n (all_held items)) (on n (all_queued items)) ≡ true =
    λ n. subst (λ (p : Place). is_fair p.held p.queue ≡ true) (sym (place_is n items 0 up)) (fair_in n items c.self.invariant.0.fair) in
    IfOk-weaker c.awaited_on.result (λ out. out ≡ fold add_txn [] (flat_map (λ (p : Pair). awaited_at t (place_in p.name c.deref.result.now)) mine)) (λ out. list_all (is_older t) out ≡ true)
    (λ out q. ap (λ (ts : List Txn). list_all (is_older t) ts) (q ∙ e) ∙ waits_younger t (lists items 0) fair) c.awaited_on.ensures
