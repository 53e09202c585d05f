-- Names that are the same are equal.
use Rattle.std.specs.Prelude.{◌≡◌, ℕ, List}
use Rattle.std.specs.BTreeMap.{is_at}
use Rattle.std.specs.Cmp.Lexicographic.{slice_cmp}
use Rattle.std.specs.Ordering.{nat_cmp}
use Rattle.std.proofs.Common.{◌∙◌}
use Rattle.std.proofs.lemmas.Map.Text.{is_eq-slice_cmp}
use Rattle.e3_types.specs.Same.{same_numbers}
use Rattle.e3_types.proofs.Orders.{pointwise_same}

-- names tie in the order of the map where they are the same
pub ties : (xs ys : List ℕ) → is_at (slice_cmp nat_cmp xs) ys ≡ same_numbers xs ys
ties xs ys = is_eq-slice_cmp xs ys ∙ pointwise_same xs ys
