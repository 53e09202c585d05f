-- a half less, or the item
use Rattle.std.proofs.Common.{rules, ◌≡◌, ℕ, ◌+◌, ◌-◌, ◌<◌, length, ◌/◌}
use Rattle.std.specs.Ordering.{nat_cmp}
use Rattle.std.specs.declared.cmp.Ordering.TheVariants.{Less, Equal, Greater}
use Rattle.std.specs.Cmp.Lexicographic.{slice_cmp}
use Rattle.e3_types.proofs.Ascending.{lower, upper, found}
use Rattle.e3_types.proofs.sorted.place_of.Goals as goal

pub halves-preserved-in-Less : goal.halves-preserved-in-Less
halves-preserved-in-Less g c =
    let mid : ℕ = c.halves.low + (c.halves.high - c.halves.low) / 2 in
    let lt : mid < length c.args.items.now = search rules in
    let e : slice_cmp nat_cmp c.args.name.now (g.T.Named.name_of c.index-items-mid.result) ≡ Less = search rules in
    record {
      low = search rules;
      high = search rules;
      under = c.halves.invariant.under;
      over = upper g.T.Named.name_of c.args.items.now mid c.index-items-mid.result c.args.name.now c.requires lt c.index-items-mid.is e;
    }

pub returns-in-Equal : goal.returns-in-Equal
returns-in-Equal g c =
    let mid : ℕ = c.halves.low + (c.halves.high - c.halves.low) / 2 in
    let lt : mid < length c.args.items.now = search rules in
    let e : slice_cmp nat_cmp c.args.name.now (g.T.Named.name_of c.index-items-mid.result) ≡ Equal = search rules in
    found g.T.Named.name_of c.args.items.now mid c.index-items-mid.result c.args.name.now c.requires lt c.index-items-mid.is e

pub halves-preserved : goal.halves-preserved
halves-preserved g c =
    let mid : ℕ = c.halves.low + (c.halves.high - c.halves.low) / 2 in
    let lt : mid < length c.args.items.now = search rules in
    let e : slice_cmp nat_cmp c.args.name.now (g.T.Named.name_of c.index-items-mid.result) ≡ Greater = search rules in
    record {
      low = search rules;
      high = c.halves.invariant.high;
      under = lower g.T.Named.name_of c.args.items.now mid c.index-items-mid.result c.args.name.now c.requires lt c.index-items-mid.is e;
      over = c.halves.invariant.over;
    }
