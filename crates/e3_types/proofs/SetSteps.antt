-- What the operations on the bits of a set do to the list of its sites, one bit at a time.
use Rattle.std.specs.Prelude.{◌≡◌, ℕ, zero, suc, ◌+◌, ◌*◌, ◌-◌, ◌/◌, ◌%◌, ◌^◌, ◌<◌, ◌≤◌, ◌==◌, ◌&&◌, ◌||◌, Bool, true, false, List, [], ◌∷◌, if◌then◌else◌, length, filter, nat_lt, not, bit_and, bit_or, refl}
use Rattle.std.proofs.Common.{arith, ◌∙◌, sym, add-one, get_or, take}
use Rattle.std.proofs.Math.Nat.{pow-suc}
use Rattle.std.proofs.lemmas.Grind.{common_steps}
use Rattle.std.proofs.lemmas.Nat.{ones_cat, one_shl, or_lt, and_le_l, and_comm, and-not, pow_below}
use Rattle.std.proofs.lemmas.Nat.Bits.{bit_at-suc, bit_at-lt, and_pow}
use Rattle.std.specs.Int.{bit_at}
use Rattle.std.specs.List.{list_all}
use lib.Bits.{and_step, or_step, or_zero_r, and_self}
use lib.Count.{ones, ones_in, count_trailing_zeros}
use Rattle.e3_types.specs.Sets.{ascends, is_set, has_site, with_site, others, is_within}
use Rattle.e3_types.specs.Sites.{sites_from, sites_of}

-- ---- which sites there are

has_by : (b : Bool) (k : ℕ) (rest : List ℕ) (s : ℕ)
    → has_site (if b then k ∷ rest else rest) s ≡ ((b && (k == s)) || has_site rest s)
has_by true k rest s = refl
has_by false k rest s = refl

has_below : (k n bits s : ℕ) → s < k → has_site (sites_from k n bits) s ≡ false
unfolding sites_from
has_below k zero bits s h = refl
has_below k (suc n) bits s h =
    let ih = has_below (suc k) n (bits / 2) s (omega arith) in
    has_by (bits % 2 == 1) k (sites_from (suc k) n (bits / 2)) s ∙ grind (arith, common_steps, ih)

has_above : (k n bits s : ℕ) → k + n ≤ s → has_site (sites_from k n bits) s ≡ false
unfolding sites_from
has_above k zero bits s h = refl
has_above k (suc n) bits s h =
    let ih = has_above (suc k) n (bits / 2) s (omega arith) in
    has_by (bits % 2 == 1) k (sites_from (suc k) n (bits / 2)) s ∙ grind (arith, common_steps, ih)

has_from : (k n j bits : ℕ) → j < n → has_site (sites_from k n bits) (k + j) ≡ (bits / 2 ^ j % 2 == 1)
unfolding sites_from
has_from k zero j bits h = absurd (omega arith)
has_from k (suc n) zero bits h =
    let none = has_below (suc k) n (bits / 2) (k + 0) (omega arith) in
    has_by (bits % 2 == 1) k (sites_from (suc k) n (bits / 2)) (k + 0) ∙ grind (arith, common_steps, none)
has_from k (suc n) (suc j) bits h =
    let ih = has_from (suc k) n j (bits / 2) (omega arith) in
    let e : suc k + j ≡ k + suc j = omega arith in
    has_by (bits % 2 == 1) k (sites_from (suc k) n (bits / 2)) (k + suc j) ∙ grind (arith, common_steps, ih, e, bit_at-suc bits j)

-- the site's bit says whether the set has it
pub has_bit : (bits site : ℕ) → 1 ≤ site → site ≤ 64 → has_site (sites_of bits) site ≡ (bits / 2 ^ (site - 1) % 2 == 1)
has_bit bits site low high =
    let e : 1 + (site - 1) ≡ site = omega arith in
    rw e at (has_from 1 64 (site - 1) bits (omega arith))

pub has_no_zero : (bits site : ℕ) → site < 1 → has_site (sites_of bits) site ≡ false
has_no_zero bits site h = has_below 1 64 bits site h

pub has_none_beyond : (bits site : ℕ) → 64 < site → has_site (sites_of bits) site ≡ false
has_none_beyond bits site h = has_above 1 64 bits site (omega arith)

-- ---- the count

length_by : (b : Bool) (k : ℕ) (rest : List ℕ) → length (if b then k ∷ rest else rest) ≡ (if b then 1 else 0) + length rest
length_by true k rest = omega arith
length_by false k rest = omega arith

one_bit : (n : ℕ) → n < 2 → ones n ≡ (if n == 1 then 1 else 0)
unfolding ones ones_in
one_bit zero h = refl
one_bit (suc zero) h = refl
one_bit (suc (suc n)) h = absurd (omega arith)

length_from : (k n bits : ℕ) → bits < 2 ^ n → length (sites_from k n bits) ≡ ones bits
unfolding sites_from
length_from k zero bits h = let e : bits ≡ 0 = omega arith in rw (e, one_bit 0 (omega arith)) refl
length_from k (suc n) bits h =
    let small : bits / 2 < 2 ^ n = omega (arith, pow-suc 2 n) in
    let ih = length_from (suc k) n (bits / 2) small in
    let bit = one_bit (bits % 2) (omega arith) in
    let whole : bits / 2 * 2 ^ 1 + bits % 2 ≡ bits = omega arith in
    let cat : ones bits ≡ ones (bits / 2) + ones (bits % 2) = rw whole at (ones_cat 1 (bits / 2) (bits % 2) (omega arith)) in
    length_by (bits % 2 == 1) k (sites_from (suc k) n (bits / 2)) ∙ omega (arith, ih, bit, cat)

-- as many ones as sites
pub length_ones : (bits : ℕ) → bits < 2 ^ 64 → length (sites_of bits) ≡ ones bits
length_ones bits h = length_from 1 64 bits h

-- ---- one site more

none_less : (k n bits s : ℕ) → s ≤ k → filter (λ x. nat_lt x s) (sites_from k n bits) ≡ []
unfolding sites_from
none_less k zero bits s h = refl
none_less k (suc n) bits s h =
    by (bits % 2 == 1) (sites_from (suc k) n (bits / 2)) (none_less (suc k) n (bits / 2) s (omega arith))
  where
    by : (b : Bool) (rest : List ℕ) → filter (λ x. nat_lt x s) rest ≡ [] → filter (λ x. nat_lt x s) (if b then k ∷ rest else rest) ≡ []
    by true rest e = grind (arith, common_steps, e)
    by false rest e = e

all_more : (k n bits s : ℕ) → s < k → filter (λ x. nat_lt s x) (sites_from k n bits) ≡ sites_from k n bits
unfolding sites_from
all_more k zero bits s h = refl
all_more k (suc n) bits s h =
    by (bits % 2 == 1) (sites_from (suc k) n (bits / 2)) (all_more (suc k) n (bits / 2) s (omega arith))
  where
    by : (b : Bool) (rest : List ℕ) → filter (λ x. nat_lt s x) rest ≡ rest → filter (λ x. nat_lt s x) (if b then k ∷ rest else rest) ≡ (if b then k ∷ rest else rest)
    by true rest e = grind (arith, common_steps, e)
    by false rest e = e

with_first : (b : Bool) (k : ℕ) (rest : List ℕ) → filter (λ x. nat_lt x k) rest ≡ [] → filter (λ x. nat_lt k x) rest ≡ rest
    → with_site k (if b then k ∷ rest else rest) ≡ k ∷ rest
with_first true k rest less more = grind (arith, common_steps, less, more)
with_first false k rest less more = grind (arith, common_steps, less, more)

with_later : (b : Bool) (k s : ℕ) (rest : List ℕ) → k < s
    → with_site s (if b then k ∷ rest else rest) ≡ (if b then k ∷ with_site s rest else with_site s rest)
with_later true k s rest h = grind (arith, common_steps)
with_later false k s rest h = refl

or_low : (bits j : ℕ) → bit_or bits (2 ^ suc j) % 2 ≡ bits % 2
or_low bits j = omega (arith, or_step bits (2 ^ suc j), pow-suc 2 j)

or_half : (bits j : ℕ) → bit_or bits (2 ^ suc j) / 2 ≡ bit_or (bits / 2) (2 ^ j)
or_half bits j =
    let e : 2 ^ suc j / 2 ≡ 2 ^ j = omega (arith, pow-suc 2 j) in
    let s = rw e at (or_step bits (2 ^ suc j)) in
    omega (arith, s, pow-suc 2 j)

or_one_low : (bits : ℕ) → bit_or bits 1 % 2 ≡ 1
or_one_low bits = omega (arith, or_step bits 1)

or_one_half : (bits : ℕ) → bit_or bits 1 / 2 ≡ bits / 2
or_one_half bits = let s = rw (or_zero_r (bits / 2)) at (or_step bits 1) in omega (arith, s)

with_from : (k n j bits : ℕ) → j < n → sites_from k n (bit_or bits (2 ^ j)) ≡ with_site (k + j) (sites_from k n bits)
unfolding sites_from
with_from k zero j bits h = absurd (omega arith)
with_from k (suc n) zero bits h =
    let e : k + 0 ≡ k = omega arith in
    rw (or_one_low bits, or_one_half bits, e)
    (sym (with_first (bits % 2 == 1) k (sites_from (suc k) n (bits / 2)) (none_less (suc k) n (bits / 2) k (omega arith)) (all_more (suc k) n (bits / 2) k (omega arith))))
with_from k (suc n) (suc j) bits h =
    let ih = with_from (suc k) n j (bits / 2) (omega arith) in
    let e : k + suc j ≡ suc k + j = omega arith in
    rw (or_low bits j, or_half bits j, ih, e) (sym (with_later (bits % 2 == 1) k (suc k + j) (sites_from (suc k) n (bits / 2)) (omega arith)))

one_shifted : (site : ℕ) → 1 ≤ site → site ≤ 64 → 1 * 2 ^ (site - 1) % 18446744073709551616 ≡ 2 ^ (site - 1)
one_shifted site low high = one_shl (site - 1) 64 (omega arith)

-- setting a site's bit puts it in its place
pub with_bit : (bits site : ℕ) → 1 ≤ site → site ≤ 64
    → sites_of (bit_or bits (1 * 2 ^ (site - 1) % 18446744073709551616)) ≡ with_site site (sites_of bits)
with_bit bits site low high =
    let e : 1 + (site - 1) ≡ site = omega arith in
    rw (one_shifted site low high) (rw e at (with_from 1 64 (site - 1) bits (omega arith)))

-- ---- one site less

others_below : (k n bits s : ℕ) → s < k → others s (sites_from k n bits) ≡ sites_from k n bits
unfolding sites_from
others_below k zero bits s h = refl
others_below k (suc n) bits s h =
    by (bits % 2 == 1) (sites_from (suc k) n (bits / 2)) (others_below (suc k) n (bits / 2) s (omega arith))
  where
    by : (b : Bool) (rest : List ℕ) → others s rest ≡ rest → others s (if b then k ∷ rest else rest) ≡ (if b then k ∷ rest else rest)
    by true rest e = grind (arith, common_steps, e)
    by false rest e = e

others_later : (b : Bool) (k s : ℕ) (rest : List ℕ) → k < s
    → others s (if b then k ∷ rest else rest) ≡ (if b then k ∷ others s rest else others s rest)
others_later true k s rest h = grind (arith, common_steps)
others_later false k s rest h = refl

others_first : (k : ℕ) (rest : List ℕ) → others k rest ≡ rest → others k (k ∷ rest) ≡ rest
others_first k rest e = grind (arith, common_steps, e)

at_least : (bits j : ℕ) → bits / 2 ^ j % 2 ≡ 1 → 2 ^ j ≤ bits
at_least bits zero e = omega arith
at_least bits (suc j) e =
    let ih = at_least (bits / 2) j (sym (bit_at-suc bits j) ∙ e) in
    omega (arith, ih, pow-suc 2 j)

without_from : (k n j bits : ℕ) → j < n → bits / 2 ^ j % 2 ≡ 1 → sites_from k n (bits - 2 ^ j) ≡ others (k + j) (sites_from k n bits)
unfolding sites_from
without_from k zero j bits h is = absurd (omega arith)
without_from k (suc n) zero bits h is =
    let e : k + 0 ≡ k = omega arith in
    let one : bits % 2 ≡ 1 = omega (arith, is) in
    let low : (bits - 1) % 2 ≡ 0 = omega (arith, one) in
    let half : (bits - 1) / 2 ≡ bits / 2 = omega (arith, one) in
    rw (low, half, e, one) (sym (others_first k (sites_from (suc k) n (bits / 2)) (others_below (suc k) n (bits / 2) k (omega arith))))
without_from k (suc n) (suc j) bits h is =
    let here : bits / 2 / 2 ^ j % 2 ≡ 1 = sym (bit_at-suc bits j) ∙ is in
    let ih = without_from (suc k) n j (bits / 2) (omega arith) here in
    let e : k + suc j ≡ suc k + j = omega arith in
    let enough : 2 ^ j ≤ bits / 2 = at_least (bits / 2) j here in
    let low : (bits - 2 ^ suc j) % 2 ≡ bits % 2 = omega (arith, pow-suc 2 j, enough) in
    let half : (bits - 2 ^ suc j) / 2 ≡ bits / 2 - 2 ^ j = omega (arith, pow-suc 2 j, enough) in
    rw (low, half, ih, e) (sym (others_later (bits % 2 == 1) k (suc k + j) (sites_from (suc k) n (bits / 2)) (omega arith)))

-- what a set does not have can be left out
pub others_none : (site : ℕ) (sites : List ℕ) → has_site sites site ≡ false → others site sites ≡ sites
others_none site [] h = refl
others_none site (x ∷ sites) h = let ih = others_none site sites in grind (arith, common_steps, ih, h)

-- clearing a bit takes it off
clear_bit : (bits site : ℕ) → bits < 2 ^ 64 → 1 ≤ site → site ≤ 64
    → bit_and bits (18446744073709551615 - 1 * 2 ^ (site - 1) % 18446744073709551616) ≡ bits - bit_at bits (site - 1) * 2 ^ (site - 1)
clear_bit bits site small low high =
    let power : 2 ^ (site - 1) < 2 ^ 64 = pow_below (site - 1) 64 (omega arith) in
    let turned = and_comm bits (2 ^ 64 - 1 - 2 ^ (site - 1)) in
    let back = and_comm (2 ^ (site - 1)) bits in
    let sum = and-not 64 (2 ^ (site - 1)) bits power small in
    rw (one_shifted site low high) (omega (arith, turned, back, sum, and_pow bits (site - 1)))

-- clearing a site's bit leaves the others
pub without_bit : (bits site : ℕ) → bits < 2 ^ 64 → 1 ≤ site → site ≤ 64
    → sites_of (bit_and bits (18446744073709551615 - 1 * 2 ^ (site - 1) % 18446744073709551616)) ≡ others site (sites_of bits)
without_bit bits site small low high = rw (clear_bit bits site small low high) (by (bit_at bits (site - 1)) refl)
  where
    by : (b : ℕ) → bit_at bits (site - 1) ≡ b → sites_of (bits - b * 2 ^ (site - 1)) ≡ others site (sites_of bits)
    by zero is =
        let none : has_site (sites_of bits) site ≡ false = has_bit bits site low high ∙ (rw is refl) in
        let same : bits - 0 * 2 ^ (site - 1) ≡ bits = omega arith in
        rw (same, others_none site (sites_of bits) none) refl
    by (suc zero) is =
        let e : 1 + (site - 1) ≡ site = omega arith in
        let same : bits - 1 * 2 ^ (site - 1) ≡ bits - 2 ^ (site - 1) = omega arith in
        rw same (rw e at (without_from 1 64 (site - 1) bits (omega arith) is))
    by (suc (suc b)) is = absurd (omega (arith, is, bit_at-lt bits (site - 1)))

-- setting a bit keeps the number of bits
pub with_small : (bits site : ℕ) → bits < 2 ^ 64 → 1 ≤ site → site ≤ 64
    → bit_or bits (1 * 2 ^ (site - 1) % 18446744073709551616) < 18446744073709551616
with_small bits site small low high =
    let h : 1 * 2 ^ (site - 1) % 18446744073709551616 < 18446744073709551616 = omega arith in
    or_lt 64 bits (1 * 2 ^ (site - 1) % 18446744073709551616) small h

-- ---- the first site

none_from : (k n : ℕ) → sites_from k n 0 ≡ []
unfolding sites_from
none_from k zero = refl
none_from k (suc n) = none_from (suc k) n

first_odd : (bits : ℕ) → bits % 2 ≡ 1 → bit_and bits (bits - 1) ≡ bits / 2 * 2
first_odd bits one =
    let low : (bits - 1) % 2 ≡ 0 = omega (arith, one) in
    let half : (bits - 1) / 2 ≡ bits / 2 = omega (arith, one) in
    let s = rw (half, low, one, and_self) at (and_step bits (bits - 1)) in
    omega (arith, s)

first_even : (bits : ℕ) → bits % 2 ≡ 0 → 0 < bits → bit_and bits (bits - 1) ≡ bit_and (bits / 2) (bits / 2 - 1) * 2
first_even bits two some =
    let low : (bits - 1) % 2 ≡ 1 = omega (arith, two) in
    let half : (bits - 1) / 2 ≡ bits / 2 - 1 = omega (arith, two) in
    let s = rw (half, low, two) at (and_step bits (bits - 1)) in
    omega (arith, s)

first_by : (k n bits low : ℕ) → bits % 2 ≡ low → 0 < bits
    → (0 < bits / 2 → sites_from (suc k) n (bits / 2) ≡ (suc k + count_trailing_zeros n (bits / 2)) ∷ sites_from (suc k) n (bit_and (bits / 2) (bits / 2 - 1)))
    → sites_from k (suc n) bits ≡ (k + count_trailing_zeros (suc n) bits) ∷ sites_from k (suc n) (bit_and bits (bits - 1))
unfolding sites_from count_trailing_zeros
first_by k n bits zero is some more =
    let e = first_even bits is some in
    let low : bit_and bits (bits - 1) % 2 ≡ 0 = omega (arith, e) in
    let half : bit_and bits (bits - 1) / 2 ≡ bit_and (bits / 2) (bits / 2 - 1) = omega (arith, e) in
    let rest = more (omega (arith, is)) in
    let place : suc k + count_trailing_zeros n (bits / 2) ≡ k + suc (count_trailing_zeros n (bits / 2)) = omega arith in
    rw (is, low, half, rest, place) refl
first_by k n bits (suc zero) is some more =
    let e = first_odd bits is in
    let low : bit_and bits (bits - 1) % 2 ≡ 0 = omega (arith, e) in
    let half : bit_and bits (bits - 1) / 2 ≡ bits / 2 = omega (arith, e) in
    let place : k + 0 ≡ k = omega arith in
    rw (is, low, half, place) refl
first_by k n bits (suc (suc low)) is some more = absurd (omega (arith, is))

first_from : (k n bits : ℕ) → bits < 2 ^ n → 0 < bits
    → sites_from k n bits ≡ (k + count_trailing_zeros n bits) ∷ sites_from k n (bit_and bits (bits - 1))
first_from k zero bits h some = absurd (omega arith)
first_from k (suc n) bits h some =
    let small : bits / 2 < 2 ^ n = omega (arith, pow-suc 2 n) in
    first_by k n bits (bits % 2) refl some (λ more. first_from (suc k) n (bits / 2) small more)

-- no bit, no site
pub no_bit : (bits : ℕ) → bits ≡ 0 → sites_of bits ≡ []
no_bit bits e = rw e (none_from 1 64)

-- the lowest bit is the first site, and the others stay
pub first_bit : (bits : ℕ) → 0 < bits → bits < 2 ^ 64
    → sites_of bits ≡ (count_trailing_zeros 64 bits + 1) ∷ sites_of (bit_and bits (bits - 1))
first_bit bits some h =
    let e : 1 + count_trailing_zeros 64 bits ≡ count_trailing_zeros 64 bits + 1 = omega arith in
    rw e at (first_from 1 64 bits h some)

-- clearing the lowest bit keeps the number of bits
pub first_small : (bits : ℕ) → bits < 2 ^ 64 → bit_and bits (bits - 1) < 18446744073709551616
first_small bits h = omega (arith, and_le_l bits (bits - 1))

-- ---- a set within another

within_by : (a b : Bool) (k : ℕ) (all rest : List ℕ) → has_site all k ≡ b
    → list_all (has_site all) (if a then k ∷ rest else rest) ≡ ((not a || b) && list_all (has_site all) rest)
within_by true b k all rest e = rw e refl
within_by false b k all rest e = refl

within_from : (k n a b : ℕ) → a < 2 ^ n → (all : List ℕ) → ((x : ℕ) → k ≤ x → has_site all x ≡ has_site (sites_from k n b) x)
    → list_all (has_site all) (sites_from k n a) ≡ (bit_and a b == a)
unfolding sites_from
within_from k zero a b h all same = let e : a ≡ 0 = omega arith in rw e refl
within_from k (suc n) a b h all same =
    let small : a / 2 < 2 ^ n = omega (arith, pow-suc 2 n) in
    let later : (x : ℕ) → suc k ≤ x → has_site all x ≡ has_site (sites_from (suc k) n (b / 2)) x = λ x above.
    let ne : (k == x) ≡ false = grind arith in
    same x (omega arith) ∙ has_by (b % 2 == 1) k (sites_from (suc k) n (b / 2)) x ∙ grind (arith, common_steps, ne) in
    let ih = within_from (suc k) n (a / 2) (b / 2) small all later in
    let none = has_below (suc k) n (b / 2) k (omega arith) in
    let head : has_site all k ≡ (b % 2 == 1) =
    same k (omega arith) ∙ has_by (b % 2 == 1) k (sites_from (suc k) n (b / 2)) k ∙ grind (arith, common_steps, none) in
    let step = and_step a b in
    within_by (a % 2 == 1) (b % 2 == 1) k all (sites_from (suc k) n (a / 2)) head ∙ grind (arith, common_steps, ih, step)

-- a set is within another where its bits are among the other's
pub within_bits : (a b : ℕ) → a < 2 ^ 64 → is_within (sites_of a) (sites_of b) ≡ (bit_and a b == a)
within_bits a b h = within_from 1 64 a b h (sites_of b) (λ x low. refl)

-- ---- the list is a set

ascends_from : (low k n bits : ℕ) → low < k → k + n ≤ 65 → ascends low (sites_from k n bits) ≡ true
unfolding sites_from
ascends_from low k zero bits below few = refl
ascends_from low k (suc n) bits below few =
    by (bits % 2 == 1) (sites_from (suc k) n (bits / 2)) (ascends_from k (suc k) n (bits / 2) (omega arith) (omega arith)) (ascends_from low (suc k) n (bits / 2) (omega arith) (omega arith))
  where
    by : (b : Bool) (rest : List ℕ) → ascends k rest ≡ true → ascends low rest ≡ true → ascends low (if b then k ∷ rest else rest) ≡ true
    by true rest behind before = grind (arith, common_steps, behind)
    by false rest behind before = before

-- the sites of any bits ascend from 1 to 64
pub bits_ascend : (bits : ℕ) → is_set (sites_of bits) ≡ true
bits_ascend bits = ascends_from 0 1 64 bits (omega arith) (omega arith)

-- ---- a set from a list

ascends_above : (low i : ℕ) (sites : List ℕ) → ascends low sites ≡ true → i < length sites → low < get_or sites i 0
ascends_above low i [] up within = absurd (omega arith)
ascends_above low zero (x ∷ sites) up within = grind (arith, common_steps, up)
ascends_above low (suc i) (x ∷ sites) up within =
    let ih = ascends_above x i sites in grind (arith, common_steps, up, ih)

-- a place of an ascending list is from 1 to 64
pub ascends_within : (low i : ℕ) (sites : List ℕ) → ascends low sites ≡ true → i < length sites → (low + 1 ≤ get_or sites i 0) × (get_or sites i 0 ≤ 64)
ascends_within low i [] up within = absurd (omega arith)
ascends_within low zero (x ∷ sites) up within = (grind (arith, common_steps, up), grind (arith, common_steps, up))
ascends_within low (suc i) (x ∷ sites) up within =
    let first : low < x = grind (arith, common_steps, up) in
    let rest : ascends x sites ≡ true = grind (arith, common_steps, up) in
    let ih = ascends_within x i sites rest (omega arith) in (omega (arith, ih.0), ih.1)

later_with : (x s : ℕ) (sites : List ℕ) → x < s → with_site s (x ∷ sites) ≡ x ∷ with_site s sites
later_with x s sites h = grind (arith, common_steps)

with_next : (low i : ℕ) (sites : List ℕ) → ascends low sites ≡ true → i < length sites
    → with_site (get_or sites i 0) (take i sites) ≡ take (suc i) sites
with_next low i [] up within = absurd (omega arith)
with_next low zero (x ∷ sites) up within = refl
with_next low (suc i) (x ∷ sites) up within =
    let rest : ascends x sites ≡ true = grind (arith, common_steps, up) in
    let ih = with_next x i sites rest (omega arith) in
    rw (later_with x (get_or sites i 0) (take i sites) (ascends_above x i sites rest (omega arith)), ih) refl

-- the next of an ascending list goes to the end of the set so far
pub with_next_site : (sites set : List ℕ) (i : ℕ) → is_set sites ≡ true → i < length sites → set ≡ take i sites
    → with_site (get_or sites i 0) set ≡ take (i + 1) sites
with_next_site sites set i up within e = rw (e, add-one) (with_next 0 i sites up within)
