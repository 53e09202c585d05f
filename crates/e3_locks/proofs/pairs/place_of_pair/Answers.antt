-- a half less, or the pair
use Rattle.std.proofs.Common.{rules, ◌≡◌, ℕ, ◌+◌, ◌-◌, ◌<◌, ◌++◌, List, length, ◌/◌}
use Rattle.std.specs.Ordering.{nat_cmp}
use Rattle.std.specs.declared.cmp.Ordering.TheVariants.{Less, Equal, Greater}
use Rattle.std.specs.Cmp.Lexicographic.{slice_cmp}
use Rattle.e3_types.proofs.Ascending.{lower, upper, found}
use Rattle.e3_locks.specs.Pairs.{key_of, pair_key}
use Rattle.e3_locks.proofs.pairs.place_of_pair.Goals as goal

pub halves-preserved-in-Less : goal.halves-preserved-in-Less
halves-preserved-in-Less c =
    let mid : ℕ = c.halves.low + (c.halves.high - c.halves.low) / 2 in
    let lt : mid < length c.args.pairs.now = search rules in
    let k : List ℕ = key_of c.args.txn.now ++ c.args.name.now in
    let e : slice_cmp nat_cmp k (pair_key c.index-pairs-mid.result) ≡ Less = search rules in
    record {
      low = search rules;
      high = search rules;
      under = c.halves.invariant.under;
      over = upper pair_key c.args.pairs.now mid c.index-pairs-mid.result k c.requires lt c.index-pairs-mid.is e;
    }

pub returns-in-Equal : goal.returns-in-Equal
returns-in-Equal c =
    let mid : ℕ = c.halves.low + (c.halves.high - c.halves.low) / 2 in
    let lt : mid < length c.args.pairs.now = search rules in
    let k : List ℕ = key_of c.args.txn.now ++ c.args.name.now in
    let e : slice_cmp nat_cmp k (pair_key c.index-pairs-mid.result) ≡ Equal = search rules in
    found pair_key c.args.pairs.now mid c.index-pairs-mid.result k c.requires lt c.index-pairs-mid.is e

pub halves-preserved : goal.halves-preserved
halves-preserved c =
    let mid : ℕ = c.halves.low + (c.halves.high - c.halves.low) / 2 in
    let lt : mid < length c.args.pairs.now = search rules in
    let k : List ℕ = key_of c.args.txn.now ++ c.args.name.now in
    let e : slice_cmp nat_cmp k (pair_key c.index-pairs-mid.result) ≡ Greater = search rules in
    record {
      low = search rules;
      high = c.halves.invariant.high;
      under = lower pair_key c.args.pairs.now mid c.index-pairs-mid.result k c.requires lt c.index-pairs-mid.is e;
      over = c.halves.invariant.over;
    }
