-- one more is the transaction's; behind them none is
use Rattle.std.proofs.Common.{rules, ◌≡◌, ◌≤◌, ◌<◌, ◌+◌, ◌∙◌, ◌++◌, ◌∷◌, [], inl, inr, ℕ, true, false, List, ap, sym, subst, length, get_or}
use Rattle.std.specs.List.{between}
use Rattle.std.proofs.lemmas.List.Edits.{between_none, between_more}
use Rattle.e3_types.specs.declared.transactions.Txn.{Txn}
use Rattle.e3_types.specs.Same.{same_numbers}
use Rattle.e3_types.proofs.SameSites.{same_numbers_eq}
use Rattle.e3_locks.specs.declared.pairs.Pair.{Pair}
use Rattle.e3_locks.specs.Standing.{Each}
use Rattle.e3_locks.specs.Pairs.{key_of}
use Rattle.e3_locks.proofs.Gathering.{each_more, from_more, row_ascends, row_keeps}
use Rattle.e3_locks.proofs.Pairing.{EndsAt}
use Rattle.e3_locks.proofs.pairs.pairs_of.Goals as goal
use Rattle.e3_locks.proofs.pairs.pairs_of.Goals.{then-these-test+else-is_of, else-these-test}

pub these-init : goal.these-init
these-init c =
    let t : Txn = c.args.t.now in
    record {
      low = search rules;
      high = search rules;
      of_txn = subst (λ (l : List Pair). Each (λ p. key_of p.txn ≡ key_of t) l) (sym (between_none c.args.pairs.now c.first_of-at.result)) tt;
      from = c.first_of-at.ensures.from;
    }

pub these-preserved : goal.these-preserved
these-preserved c =
    let t : Txn = c.args.t.now in
    let ps : List Pair = c.args.pairs.now in
    let at : ℕ = c.first_of-at.result in
    let end : ℕ = c.these.end in
    let x : Pair = c.index-pairs-end.result in
    let lt : end < length ps = search rules in
    let is : x ≡ get_or ps end x = c.index-pairs-end.is in
    let test : same_numbers (key_of x.txn) (key_of t) ≡ true = sym c.is_of.ensures ∙ c.if-is_of.true in
    let mine : key_of x.txn ≡ key_of t = same_numbers_eq (key_of x.txn) (key_of t) test in
    let more : between at (end + 1) ps ≡ between at end ps ++ x ∷ [] = between_more ps at end x c.these.invariant.low lt ∙ ap (λ (y : Pair). between at end ps ++ y ∷ []) (sym is) in
    record {
      low = search rules;
      high = search rules;
      of_txn = subst (λ (l : List Pair). Each (λ p. key_of p.txn ≡ key_of t) l) (sym more) (each_more (λ p. key_of p.txn ≡ key_of t) (between at end ps) x c.these.invariant.of_txn mine);
      from = from_more (key_of t) ps end lt c.these.invariant.from;
    }

pub returns-clause-ascending : goal.returns-clause-ascending
returns-clause-ascending c = row_ascends c.first_of-at.result c.these.end c.args.pairs.now c.these.invariant.low c.requires

pub returns-clause-all : goal.returns-clause-all
returns-clause-all c =
    let t : Txn = c.args.t.now in
    let ps : List Pair = c.args.pairs.now in
    let stop : EndsAt t ps c.these.end =
    elim c.these-test.branch [
      | then-these-test+else-is_of w ↦ (
          let lt : c.these.end < length ps = w.these-test.true in
          let other : same_numbers (key_of w.index-pairs-end.result.txn) (key_of t) ≡ false = sym w.is_of.ensures ∙ w.if-is_of.false in
          inr (w.index-pairs-end.result, lt, w.index-pairs-end.is, other)
          )
      | else-these-test w ↦ (let le : length ps ≤ c.these.end = search (rules, w.these-test.false) in inl le)
    ] in
    row_keeps t c.first_of-at.result c.these.end ps c.these.invariant.low c.requires c.first_of-at.ensures.before c.these.invariant.from stop
