-- A letter with a number of 32 bits behind it is a name, and such a number is a value.
use Rattle.std.proofs.Common.{◌≡◌, ◌++◌, ◌∷◌, [], ◌<◌, ◌≤◌, ◌+◌, ◌%◌, ◌^◌, ℕ, true, List, length, length-append, refl, ◌∙◌, arith}
use Rattle.std.specs.Fmt.{decimal}
use Rattle.std.specs.List.{list_all}
use Rattle.std.proofs.lemmas.Bool.Decides.{nat_tests}
use Rattle.std.proofs.lemmas.Fmt.{decimal_by_steps, length-decimal-le}
use Rattle.std.proofs.lemmas.List.Folds.{list_all-append}
use Rattle.std.proofs.lemmas.List.Sums.{AllPass-from_list_all}
use Rattle.e3_types.specs.Text.{IsName, is_letter}

digit : (d : ℕ) → d < 10 → is_letter (48 + d) ≡ true
digit d low = grind (arith, nat_tests)

-- each digit is a byte that a name may have
digits : (n : ℕ) → n < 2 ^ 32 → list_all is_letter (decimal n) ≡ true
digits n small =
    decimal_by_steps (λ m ds. list_all is_letter ds ≡ true) (λ m low. rw (digit m low) refl)
    (λ m ds big all. list_all-append is_letter ds ((48 + m % 10) ∷ []) ∙ (let low : m % 10 < 10 = omega arith in rw (all, digit (m % 10) low) refl)) n (omega (arith, small))

-- there are ten at most
few_digits : (n : ℕ) → n < 2 ^ 32 → length (decimal n) ≤ 10
few_digits n small = length-decimal-le 10 n (omega arith) (omega (arith, small)) (omega (arith, small))

pub numbered_is_name : (letter : List ℕ) (n : ℕ) → length letter ≡ 1 → list_all is_letter letter ≡ true → n < 2 ^ 32 → IsName (letter ++ decimal n)
numbered_is_name letter n one is small = record {
  some = omega (arith, count, one);
  few = omega (arith, count, one, few_digits n small);
  letters = AllPass-from_list_all is_letter (letter ++ decimal n) (list_all-append is_letter letter (decimal n) ∙ rw (is, digits n small) refl);
}
  where
    count : length (letter ++ decimal n) ≡ length letter + length (decimal n)
    count = length-append letter (decimal n)

pub decimal_is_value : (n : ℕ) → n < 2 ^ 32 → length (decimal n) ≤ 256
decimal_is_value n small = let few = few_digits n small in omega (arith, few)
