-- the twin of a set, made of its bits, is the set
use Rattle.std.proofs.Common.{◌≡◌, ◌==◌, ◌<◌, ◌^◌, ◌∙◌, ap, sym, ℕ, Bool, true, List, arith}
use Rattle.std.proofs.lemmas.Grind.{common_steps}
use Rattle.e3_types.specs.Same.{same_numbers}
use Rattle.e3_types.specs.SetBits.{bits_back}
use Rattle.e3_types.specs.Sites.{sites_of, bits_of}
use Rattle.e3_types.proofs.SameSites.{same_numbers_eq}
use Rattle.e3_world.proofs.transactions.found_by_bits.Goals as goal

by_twin : (sites twin : List ℕ) (b : ℕ) (r : Bool) → b < 2 ^ 64 → b ≡ bits_of sites → twin ≡ sites_of b → r ≡ same_numbers twin sites → r ≡ (bits_of twin == bits_of sites)
    → sites_of (bits_of sites) ≡ sites
by_twin sites twin b r small is made lists numbers =
    let equal : bits_of twin ≡ bits_of sites = ap bits_of made ∙ bits_back b small ∙ is in
    let yes : r ≡ true = grind (arith, common_steps, numbers, equal) in
    ap sites_of (sym is) ∙ sym made ∙ same_numbers_eq twin sites (sym lists ∙ yes)

pub returns : goal.returns
returns c = by_twin c.args.t.now.sites c.of_bits-twin.result c.bits.result c.is_same-same.result c.bits.type_inv c.bits.ensures c.of_bits-twin.ensures c.is_same-same.ensures.lists c.is_same-same.ensures.numbers
