-- a pair less, and its name released; at the end the transaction has none
use Rattle.std.proofs.Common.{rules, ◌≡◌, ◌≤◌, ◌<◌, ◌∙◌, ◌++◌, ◌∷◌, inl, inr, ℕ, suc, false, true, List, ap, sym, subst, take, drop, length, get_or}
use Rattle.e3_types.specs.declared.transactions.Txn.{Txn}
use Rattle.e3_types.specs.Same.{same_numbers}
use Rattle.e3_types.proofs.SameSites.{same_numbers_eq}
use Rattle.e3_types.specs.Sorted.{AreUnder}
use Rattle.e3_locks.specs.declared.pairs.Pair.{Pair}
use Rattle.e3_locks.specs.Places.{released}
use Rattle.e3_locks.specs.Standing.{Standing, place_in}
use Rattle.e3_locks.specs.Pairs.{key_of, pair_key, AreFrom, IsIndex}
use Rattle.e3_locks.proofs.Pairing.{index_released, same_released, all_released, taken, dropped, parts_at, same_at}
use Rattle.e3_locks.proofs.releases.release_all.Goals as goal

pub pairs-preserved : goal.pairs-preserved
pairs-preserved c =
    let t : Txn = c.args.t.now in
    let at : ℕ = c.first_of-at.result in
    let ps : List Pair = c.pairs.pairs.items in
    let old : List Standing = c.pairs.places.items in
    let new : List Standing = c.release_on.new.places.items in
    let p : Pair = c.remove-pair.result in
    let lt : at < length ps = search rules in
    let is : c.index.result.now ≡ get_or ps at c.index.result.now = search rules in
    let here : c.index.result.now ≡ p = same_at ps at c.index.result.now p lt is c.remove-pair.ensures.value in
    let own : same_numbers (key_of c.index.result.now.txn) (key_of t) ≡ true = sym c.is_of.ensures ∙ c.if-is_of.true in
    let mine : key_of p.txn ≡ key_of t = ap (λ (q : Pair). key_of q.txn) (sym here) ∙ same_numbers_eq (key_of c.index.result.now.txn) (key_of t) own in
    let parts : ps ≡ take at ps ++ p ∷ drop (suc at) ps = parts_at ps at p lt c.remove-pair.ensures.value in
    let le : at ≤ length ps = search rules in
    record {
      few = search rules;
      before = subst (λ l. AreUnder pair_key (key_of t) l) (sym (ap (take at) c.remove-pair.ensures.items ∙ taken ps at le)) c.pairs.invariant.before;
      from = subst (λ l. AreFrom (key_of t) (drop at l)) (sym c.remove-pair.ensures.items) (dropped (key_of t) ps at lt c.pairs.invariant.from);
      index = subst (λ l. IsIndex new l) (sym c.remove-pair.ensures.items)
          (index_released old new (take at ps) p (drop (suc at) ps) t c.found_by_bits.ensures mine c.release_on.ensures.places (subst (λ l. IsIndex old l) parts c.pairs.invariant.index));
      same = λ n. ap (released t) (c.release_on.ensures.places n) ∙ same_released t p.name n (λ k. place_in k old) ∙ c.pairs.invariant.same n;
      table = λ most b. c.release_on.ensures.table most (c.pairs.invariant.table most b);
      ascending = c.release_on.ensures.ascending;
      len = search rules;
      room = search rules;
      pairs_len = search rules;
      pairs_room = search rules;
    }

pub returns-else-is_of-clause-places : goal.returns-else-is_of-clause-places
returns-else-is_of-clause-places c = λ n.
    let t : Txn = c.args.t.now in
    let at : ℕ = c.first_of-at.result in
    let ps : List Pair = c.pairs.pairs.items in
    let x : Pair = c.index.result.now in
    let lt : at < length ps = search rules in
    let is : x ≡ get_or ps at x = search rules in
    let other : same_numbers (key_of x.txn) (key_of t) ≡ false = sym c.is_of.ensures ∙ c.if-is_of.false in
    sym (all_released t c.pairs.places.items ps at c.pairs.invariant.index c.pairs.invariant.before c.pairs.invariant.from (inr (x, lt, is, other)) n) ∙ c.pairs.invariant.same n

pub returns-after-pairs-clause-places : goal.returns-after-pairs-clause-places
returns-after-pairs-clause-places c = λ n.
    let t : Txn = c.args.t.now in
    let at : ℕ = c.first_of-at.result in
    let ps : List Pair = c.pairs.pairs.items in
    let end : length ps ≤ at = search rules in
    sym (all_released t c.pairs.places.items ps at c.pairs.invariant.index c.pairs.invariant.before c.pairs.invariant.from (inl end) n) ∙ c.pairs.invariant.same n
