-- A number is read from its digits.
use Rattle.std.proofs.Common.{◌≡◌, ◌==◌, ◌&&◌, ◌<◌, ◌≤◌, ◌+◌, ◌-◌, ◌*◌, ◌/◌, ◌%◌, ◌^◌, nat_le, ℕ, Bool, true, false, not, List, [], ◌∷◌, ◌++◌, Some, None, refl, ap, ◌∙◌, arith, cond, if◌then◌else◌}
use Rattle.std.specs.Fmt.{decimal}
use Rattle.std.specs.List.{list_all}
use Rattle.std.proofs.lemmas.Bool.{and_parts}
use Rattle.std.proofs.lemmas.Bool.Decides.{nat_tests}
use Rattle.std.proofs.lemmas.Fmt.{decimal_by_steps}
use Rattle.e3_trace.specs.Fields.{is_digit, digits_from, number_of, u32_of, u64_of}
use Rattle.e3_trace.specs.Tellable.{IsShort, IsLong, lacks}
use Rattle.e3_trace.proofs.Cutting.{lacks_by}

-- the text begins with another digit than 0
abbrev leads : List ℕ → Bool
leads [] = false
leads (b ∷ text) = not (b == 48)

-- the digits of a number
record AreDigits (n : ℕ) (text : List ℕ) : Type 0 where
  read : (most : ℕ) → n ≤ most → digits_from most 0 text ≡ Some n
  again : (most : ℕ) → n ≤ most → number_of most text ≡ Some n
  digits : list_all is_digit text ≡ true
  leads : 0 < n → leads text ≡ true

digit : (n : ℕ) → n < 10 → is_digit (48 + n) ≡ true
digit n h = grind (arith, nat_tests)

step : (most n d : ℕ) → d < 10 → n * 10 + d ≤ most → digits_from most n ((48 + d) ∷ []) ≡ Some (n * 10 + d)
step most n d low few =
    let val : 48 + d - 48 ≡ d = omega arith in
    let fits : nat_le (n * 10 + d) most ≡ true = grind (arith, nat_tests) in
    rw (digit d low, val, fits) refl

zero_step : (n : ℕ) → 0 * 10 + n ≡ n
zero_step n = omega arith

first_read : (most n : ℕ) → n < 10 → n ≤ most → digits_from most 0 ((48 + n) ∷ []) ≡ Some n
first_read most n low few = step most 0 n low (omega arith) ∙ ap Some (zero_step n)

first_leads : (n : ℕ) → 0 < n → not ((48 + n) == 48) ≡ true
first_leads n h = grind (arith, nat_tests)

one : (n : ℕ) → n < 10 → AreDigits n ((48 + n) ∷ [])
unfolding number_of
one n low = record {
  read = λ most few. first_read most n low few;
  again = λ most few. first_read most n low few;
  digits = rw (digit n low) refl;
  leads = λ h. first_leads n h;
}

-- one digit more, behind a digit
snoc_by : (most n d k : ℕ) (text : List ℕ) (c : Bool)
    → (digits_from most k text ≡ Some n → digits_from most k (text ++ d ∷ []) ≡ digits_from most n (d ∷ []))
    → cond c (digits_from most k text) None ≡ Some n → cond c (digits_from most k (text ++ d ∷ [])) None ≡ digits_from most n (d ∷ [])
snoc_by most n d k text true ih r = ih r
snoc_by most n d k text false ih r = absurd cc

-- one digit more
snoc : (most m n d : ℕ) (text : List ℕ) → digits_from most m text ≡ Some n → digits_from most m (text ++ d ∷ []) ≡ digits_from most n (d ∷ [])
snoc most m n d [] read =
    let e : m ≡ n = cc in
    ap (λ k. digits_from most k (d ∷ [])) e
snoc most m n d (b ∷ text) read =
    snoc_by most n d (m * 10 + (b - 48)) text (is_digit b && nat_le (m * 10 + (b - 48)) most) (λ r. snoc most (m * 10 + (b - 48)) n d text r) read

long : (most b d : ℕ) (text : List ℕ) → not (b == 48) ≡ true → number_of most (b ∷ text ++ d ∷ []) ≡ digits_from most 0 (b ∷ text ++ d ∷ [])
unfolding number_of
long most b d [] h = by (b == 48) h
  where
    by : (c : Bool) → not c ≡ true → (if c then None else digits_from most 0 (b ∷ d ∷ [])) ≡ digits_from most 0 (b ∷ d ∷ [])
    by true h = absurd cc
    by false h = refl
long most b d (x ∷ text) h = by (b == 48) h
  where
    by : (c : Bool) → not c ≡ true → (if c then None else digits_from most 0 (b ∷ x ∷ text ++ d ∷ [])) ≡ digits_from most 0 (b ∷ x ∷ text ++ d ∷ [])
    by true h = absurd cc
    by false h = refl

all_snoc : (text : List ℕ) (d : ℕ) → list_all is_digit text ≡ true → is_digit d ≡ true → list_all is_digit (text ++ d ∷ []) ≡ true
all_snoc [] d h p = rw p refl
all_snoc (b ∷ text) d h p =
    let (here, more) = and_parts (is_digit b) (list_all is_digit text) h in
    rw (here, all_snoc text d more p) refl

more_read : (most n : ℕ) (text : List ℕ) → 10 ≤ n → AreDigits (n / 10) text → n ≤ most → digits_from most 0 (text ++ (48 + n % 10) ∷ []) ≡ Some n
more_read most n text big are few =
    let whole : n / 10 * 10 + n % 10 ≡ n = omega arith in
    let low : n % 10 < 10 = omega arith in
    snoc most 0 (n / 10) (48 + n % 10) text (are.read most (omega arith)) ∙ step most (n / 10) (n % 10) low (omega arith) ∙ ap Some whole

more_again : (most n : ℕ) (text : List ℕ) → leads text ≡ true → digits_from most 0 (text ++ (48 + n % 10) ∷ []) ≡ Some n
    → number_of most (text ++ (48 + n % 10) ∷ []) ≡ Some n
more_again most n [] h r = absurd cc
more_again most n (b ∷ text) h r = long most b (48 + n % 10) text h ∙ r

more_leads : (text : List ℕ) (d : ℕ) → leads text ≡ true → leads (text ++ d ∷ []) ≡ true
more_leads [] d h = absurd cc
more_leads (b ∷ text) d h = h

more : (n : ℕ) (text : List ℕ) → 10 ≤ n → AreDigits (n / 10) text → AreDigits n (text ++ (48 + n % 10) ∷ [])
more n text big are =
    let lead : leads text ≡ true = are.leads (omega arith) in
    let low : n % 10 < 10 = omega arith in
    record {
      read = λ most few. more_read most n text big are few;
      again = λ most few. more_again most n text lead (more_read most n text big are few);
      digits = all_snoc text (48 + n % 10) are.digits (digit (n % 10) low);
      leads = λ h. more_leads text (48 + n % 10) lead;
    }

digits_of : (n : ℕ) → n < 2 ^ 64 → AreDigits n (decimal n)
digits_of n h = decimal_by_steps AreDigits one more n h

-- a number of 32 bits is read again
pub short_again : (n : ℕ) → IsShort n → u32_of (decimal n) ≡ Some n
short_again n h = (digits_of n (omega arith)).again 4294967295 (omega arith)

-- a number of 64 bits is read again
pub long_again : (n : ℕ) → IsLong n → u64_of (decimal n) ≡ Some n
long_again n h = (digits_of n h).again 18446744073709551615 (omega arith)

-- a number has no mark
pub number_lacks : (mark n : ℕ) → is_digit mark ≡ false → IsLong n → lacks mark (decimal n) ≡ true
number_lacks mark n fails h = lacks_by is_digit mark (decimal n) fails (digits_of n h).digits

-- a number is written in digits
pub number_digits : (n : ℕ) → IsLong n → list_all is_digit (decimal n) ≡ true
number_digits n h = (digits_of n h).digits
