-- A word of digits, and the number that it spells.
use Rattle.std.proofs.Common.{◌≡◌, ◌<◌, ◌^◌, ℕ, List, length, get_or, Result, Ok, Err, refl, sym, ◌∙◌, ap, arith}
use Rattle.std.specs.Prelude.{OkIff}
use Rattle.std.specs.Fmt.{decimal}
use Rattle.std.specs.Str.Parse.{AllDigits, ParsesUnsigned, digits_value}
use Rattle.std.proofs.lemmas.Fmt.{decimal-digits_value, first_decimal, parse-decimal}
use Rattle.std.proofs.lemmas.Str.Parse.{IsNumeralModel, numerals_by_value, tells_digits, parse_plain}
use Rattle.e3_top.specs.Commands.{IsNumber}

-- digits, and the number that they spell
own : IsNumeralModel (AllDigits 10) (digits_value 10)
own = numerals_by_value (AllDigits 10) tells_digits

-- the number of a scenario begins with a digit above 0
pub begins_above : (word : List ℕ) (n : ℕ) → IsNumber n → word ≡ decimal n → 48 < get_or word 0 0
begins_above word n is same =
    let least = is.least in let most = is.most in
    rw same (first_decimal n (omega (arith, least)) (omega (arith, most)))

-- a result has one number
pub one_number : {E : Type 0} (r : Result ℕ E) (m n : ℕ) → r ≡ Ok m → r ≡ Ok n → m ≡ n
one_number r m n has is = cc

-- what is parsed of a word that begins with a digit above 0 is what it spells
pub spells_parsed : {E : Type 0} (word : List ℕ) (n : ℕ) (r : Result ℕ E) → 48 < get_or word 0 0 → r ≡ Ok n → n < 2 ^ 32 → ParsesUnsigned 32 10 word r → word ≡ decimal n
spells_parsed {E} word n r above is fits parsed = by n r is fits (parse_plain own 32 word r parsed (λ e. omega (arith, above, e)))
  where
    by : (n : ℕ) (r : Result ℕ E) → r ≡ Ok n → n < 2 ^ 32 → OkIff r (AllDigits 10 word × (0 < length word) × (digits_value 10 word < 2 ^ 32)) (digits_value 10 word) → word ≡ decimal n
    by n (Ok m) is fits ok =
        let small : digits_value 10 word < 2 ^ 32 = ok.0.2 in
        sym (decimal-digits_value own word ok.0.0 ok.0.1 (λ e. absurd (omega (arith, above, e))) (omega (arith, small))) ∙ ap decimal (sym ok.1 ∙ one_number (Ok m) m n refl is)
    by n (Err e) is fits ok = cc

-- a word that spells a number of a scenario is parsed as this number
pub parses_spelled : {E : Type 0} (word : List ℕ) (n : ℕ) (r : Result ℕ E) → IsNumber n → word ≡ decimal n → ParsesUnsigned 32 10 word r → r ≡ Ok n
parses_spelled word n r is same parsed =
    let most = is.most in
    parse-decimal 32 n word r (omega (arith, most)) (omega (arith, most)) same parsed
