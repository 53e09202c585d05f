-- Formats, and formats made of formats.
use Rattle.std.proofs.Common.{◌≡◌, ℕ, zero, suc, ◌+◌, ◌/◌, ◌%◌, ◌^◌, ◌<◌, ◌≤◌, Bool, true, false, cond, ltb, List, [], ◌∷◌, ◌++◌, length, take, drop, Option, Some, None, refl, sym, ap, subst, ◌∙◌, append_assoc, arith, inl, inr}
use Rattle.std.specs.Int.{Width, w16, w32, w64, byte_len, from_be_bytes, to_be_bytes}
use Rattle.std.specs.List.{flat_map, AllByRecursion}
use Rattle.std.proofs.lemmas.Bool.{cases_lt, ltb-false, le-ltb}
use Rattle.std.proofs.lemmas.List.{take_at, drop_at, take-append-drop, length-append, length-take, get_or-drop, get_or-take, get_or_past}
use Rattle.std.proofs.lemmas.List.Concat.{flat_map-cons}
use Rattle.std.proofs.lemmas.Nat.{be_bytes_2, be_bytes_4, be_bytes_8, from_be_bytes-to_be_bytes_2, from_be_bytes-to_be_bytes_4, from_be_bytes-to_be_bytes_8}
use Rattle.e3_codec.specs.Reader.{Reader, ◌>>=◌, pair_at, mapped_at, tested_at, number_at, byte_at, text_at, counted_at, times_at, listed_at}
use Rattle.e3_types.specs.Spelling.{high_first, u8, u16, u32, spell_list}
use Rattle.e3_codec.specs.Fields.{IsShort, ListFits}
use Rattle.e3_codec.specs.Format.{IsBytes, Takes, IsFormat}

IsBytes-drop : (n : ℕ) (bytes : List ℕ) → IsBytes bytes → IsBytes (drop n bytes)
IsBytes-drop n bytes h i = rw get_or-drop (h (n + i))

IsBytes-take : (n : ℕ) (bytes : List ℕ) → IsBytes bytes → IsBytes (take n bytes)
IsBytes-take n bytes h i =
    elim (cases_lt i n) [
      | inl lt ↦ rw (get_or-take n bytes i 0 lt) (h i)
      | inr le ↦ rw (get_or_past (take n bytes) i 0 (omega (arith, length-take n bytes))) (omega arith)
    ]

pub bind_some : {A B : Type 0} (r : Option A) (f : A → Option B) (y : B) → (r >>= f) ≡ Some y → (x : A) × (r ≡ Some x) × (f x ≡ Some y)
bind_some (Some x) f y e = (x, refl, e)
bind_some None f y e = absurd cc

guard_some : {A : Type 0} (b : Bool) (x y : A) → cond b None (Some x) ≡ Some y → (b ≡ false) × (x ≡ y)
guard_some true x y e = absurd cc
guard_some false x y e = (refl, cc)

pass_some : {A : Type 0} (b : Bool) (x y : A) → cond b (Some x) None ≡ Some y → (b ≡ true) × (x ≡ y)
pass_some true x y e = (refl, cc)
pass_some false x y e = absurd cc

abbrev done : {A : Type 0} → A → Option A
done x = Some x

pub some_is : {A : Type 0} (x y : A) → done x ≡ done y → x ≡ y
some_is x y e = cc

pub Takes-then : (a x b y c : List ℕ) → Takes a x b → Takes b y c → Takes a (x ++ y) c
Takes-then a x b y c p q = record { parts = p.parts ∙ ap (λ (t : List ℕ). x ++ t) q.parts ∙ sym (append_assoc x y c); rest_fits = q.rest_fits }

-- one after the other
pub pair_format : {A B : Type 0} (s : A → List ℕ) (f : A → Type 0) (r : Reader A) (s2 : B → List ℕ) (f2 : B → Type 0) (r2 : Reader B)
    → IsFormat s f r → IsFormat s2 f2 r2 → IsFormat (λ (p : A × B). s p.0 ++ s2 p.1) (λ (p : A × B). f p.0 × f2 p.1) (pair_at r r2)
pair_format {A} {B} s f r s2 f2 r2 one two = record {
  takes = λ bytes x rest fits e.
      let a = bind_some (r bytes) (λ x. r2 x.1 >>= λ y. Some ((x.0, y.0), y.1)) (x, rest) e in
      let b = bind_some (r2 a.0.1) (λ y. Some ((a.0.0, y.0), y.1)) (x, rest) a.2 in
      let t1 = one.takes bytes a.0.0 a.0.1 fits a.1 in
      let t2 = two.takes a.0.1 b.0.0 b.0.1 t1.0.rest_fits b.1 in
      let made : (A × B) × List ℕ = ((a.0.0, b.0.0), b.0.1) in
      subst (λ (y : (A × B) × List ℕ). Takes bytes (s y.0.0 ++ s2 y.0.1) y.1 × (f y.0.0 × f2 y.0.1)) (some_is made (x, rest) b.2)
      (Takes-then bytes (s a.0.0) a.0.1 (s2 b.0.0) b.0.1 t1.0 t2.0, (t1.1, t2.1));
  again = λ x rest fits.
      ap (pair_at r r2) (append_assoc (s x.0) (s2 x.1) rest) ∙ rw (one.again x.0 (s2 x.1 ++ rest) fits.0, two.again x.1 rest fits.1) refl;
}

-- the same under another view, for the values that fit
pub mapped_format : {A B : Type 0} (to : A → B) (from : B → A) (s : A → List ℕ) (f : A → Type 0) (g : B → Type 0) (r : Reader A)
    → ((x : A) → f x → from (to x) ≡ x) → ((y : B) → g y → to (from y) ≡ y) → ((x : A) → f x → g (to x)) → ((y : B) → g y → f (from y))
    → IsFormat s f r → IsFormat (λ y. s (from y)) g (mapped_at to r)
mapped_format {A} {B} to from s f g r back forth good bad one = record {
  takes = λ bytes x rest fits e.
      let a = bind_some (r bytes) (λ x. Some (to x.0, x.1)) (x, rest) e in
      let t = one.takes bytes a.0.0 a.0.1 fits a.1 in
      let made : B × List ℕ = (to a.0.0, a.0.1) in
      let here : Takes bytes (s (from (to a.0.0))) a.0.1 × g (to a.0.0) =
      (subst (λ (z : A). Takes bytes (s z) a.0.1) (sym (back a.0.0 t.1)) t.0, good a.0.0 t.1) in
      subst (λ (y : B × List ℕ). Takes bytes (s (from y.0)) y.1 × g y.0) (some_is made (x, rest) a.2) here;
  again = λ x rest fits. rw (one.again (from x) rest (bad x fits), forth x fits) refl;
}

-- the same format, by other words for what fits
pub refit : {A : Type 0} (s : A → List ℕ) (f g : A → Type 0) (r : Reader A) → ((x : A) → f x → g x) → ((x : A) → g x → f x) → IsFormat s f r → IsFormat s g r
refit s f g r there back one = record {
  takes = λ bytes x rest fits e. let t = one.takes bytes x rest fits e in (t.0, there x t.1);
  again = λ x rest fits. one.again x rest (back x fits);
}

-- the same format, by other words for the spelling of what fits
pub respell : {A : Type 0} (s u : A → List ℕ) (f : A → Type 0) (r : Reader A) → ((x : A) → f x → s x ≡ u x) → IsFormat s f r → IsFormat u f r
respell s u f r same one = record {
  takes = λ bytes x rest fits e.
      let t = one.takes bytes x rest fits e in
      (subst (λ (l : List ℕ). Takes bytes l rest) (same x t.1) t.0, t.1);
  again = λ x rest fits. ap (λ (l : List ℕ). r (l ++ rest)) (sym (same x fits)) ∙ one.again x rest fits;
}

-- those that pass a test
pub tested_format : {A : Type 0} (test : A → Bool) (s : A → List ℕ) (f : A → Type 0) (r : Reader A)
    → IsFormat s f r → IsFormat s (λ x. f x × (test x ≡ true)) (tested_at test r)
tested_format {A} test s f r one = record {
  takes = λ bytes x rest fits e.
      let a = bind_some (r bytes) (λ x. cond (test x.0) (Some x) None) (x, rest) e in
      let g = pass_some (test a.0.0) a.0 (x, rest) a.2 in
      let t = one.takes bytes a.0.0 a.0.1 fits a.1 in
      subst (λ (y : A × List ℕ). Takes bytes (s y.0) y.1 × (f y.0 × (test y.0 ≡ true))) g.1 (t.0, (t.1, g.0));
  again = λ x rest fits. rw (one.again x rest fits.0, fits.1) refl;
}

-- so many
pub times_takes : {A : Type 0} (s : A → List ℕ) (f : A → Type 0) (r : Reader A) → IsFormat s f r
    → (n : ℕ) (bytes : List ℕ) (xs : List A) (rest : List ℕ) → IsBytes bytes → times_at r n bytes ≡ Some (xs, rest)
    → Takes bytes (flat_map s xs) rest × ((length xs ≡ n) × AllByRecursion f xs)
unfolding times_at
times_takes {A} s f r one zero bytes xs rest fits e =
    let nothing : List A × List ℕ = ([], bytes) in
    subst (λ (y : List A × List ℕ). Takes bytes (flat_map s y.0) y.1 × ((length y.0 ≡ 0) × AllByRecursion f y.0)) (some_is nothing (xs, rest) e)
    (record { parts = refl; rest_fits = fits }, (refl, tt))
times_takes {A} s f r one (suc n) bytes xs rest fits e =
    let a = bind_some (r bytes) (λ x. times_at r n x.1 >>= λ ys. Some (x.0 ∷ ys.0, ys.1)) (xs, rest) e in
    let b = bind_some (times_at r n a.0.1) (λ ys. Some (a.0.0 ∷ ys.0, ys.1)) (xs, rest) a.2 in
    let t1 = one.takes bytes a.0.0 a.0.1 fits a.1 in
    let t2 = times_takes s f r one n a.0.1 b.0.0 b.0.1 t1.0.rest_fits b.1 in
    let made : List A × List ℕ = (a.0.0 ∷ b.0.0, b.0.1) in
    subst (λ (y : List A × List ℕ). Takes bytes (flat_map s y.0) y.1 × ((length y.0 ≡ suc n) × AllByRecursion f y.0)) (some_is made (xs, rest) b.2)
    (rw flat_map-cons (Takes-then bytes (s a.0.0) a.0.1 (flat_map s b.0.0) b.0.1 t1.0 t2.0), (ap suc t2.1.0, (t1.1, t2.1.1)))

pub times_again : {A : Type 0} (s : A → List ℕ) (f : A → Type 0) (r : Reader A) → IsFormat s f r
    → (xs : List A) (rest : List ℕ) → AllByRecursion f xs → times_at r (length xs) (flat_map s xs ++ rest) ≡ Some (xs, rest)
unfolding times_at
times_again s f r one [] rest fits = refl
times_again s f r one (x ∷ xs) rest fits =
    let regrouped : flat_map s (x ∷ xs) ++ rest ≡ s x ++ (flat_map s xs ++ rest) = ap (λ (t : List ℕ). t ++ rest) (flat_map-cons s x xs) ∙ append_assoc (s x) (flat_map s xs) rest in
    ap (times_at r (suc (length xs))) regrouped ∙ rw (one.again x (flat_map s xs ++ rest) fits.0, times_again s f r one xs rest fits.1) refl

-- numbers
pub record IsWide (w : Width) (limit : ℕ) (spell : ℕ → List ℕ) : Type 0 where
  pub len : (n : ℕ) → length (spell n) ≡ byte_len w
  pub back : (bytes : List ℕ) → length bytes ≡ byte_len w → IsBytes bytes → spell (from_be_bytes w bytes) ≡ bytes
  pub again : (n : ℕ) → n < limit → from_be_bytes w (spell n) ≡ n
  pub below : (bytes : List ℕ) → IsBytes bytes → from_be_bytes w bytes < limit

-- dividing by one leaves a number as it is
whole : (n : ℕ) → n / 1 % 256 ≡ n % 256
whole n = omega arith

pub high_2 : (n : ℕ) → to_be_bytes w16 n ≡ u16 n
high_2 n = rw (whole n) refl

pub high_4 : (n : ℕ) → to_be_bytes w32 n ≡ u32 n
high_4 n = rw (whole n) refl

pub high_8 : (n : ℕ) → to_be_bytes w64 n ≡ high_first 8 n
high_8 n = rw (whole n) refl

pub wide16 : IsWide w16 (2 ^ 16) u16
wide16 = record {
  len = λ n. refl;
  back = λ bytes len fits. sym (high_2 (from_be_bytes w16 bytes)) ∙ be_bytes_2 bytes _ len fits refl;
  again = λ n lt. ap (from_be_bytes w16) (sym (high_2 n)) ∙ from_be_bytes-to_be_bytes_2 n lt;
  below = λ bytes fits. omega (arith, fits 0, fits 1);
}

pub wide32 : IsWide w32 (2 ^ 32) u32
wide32 = record {
  len = λ n. refl;
  back = λ bytes len fits. sym (high_4 (from_be_bytes w32 bytes)) ∙ be_bytes_4 bytes _ len fits refl;
  again = λ n lt. ap (from_be_bytes w32) (sym (high_4 n)) ∙ from_be_bytes-to_be_bytes_4 n lt;
  below = λ bytes fits. omega (arith, fits 0, fits 1, fits 2, fits 3);
}

pub wide64 : IsWide w64 (2 ^ 64) (high_first 8)
wide64 = record {
  len = λ n. refl;
  back = λ bytes len fits. sym (high_8 (from_be_bytes w64 bytes)) ∙ be_bytes_8 bytes _ len fits refl;
  again = λ n lt. ap (from_be_bytes w64) (sym (high_8 n)) ∙ from_be_bytes-to_be_bytes_8 n lt;
  below = λ bytes fits. omega (arith, fits 0, fits 1, fits 2, fits 3, fits 4, fits 5, fits 6, fits 7);
}

pub number_takes : (w : Width) (limit : ℕ) (s : ℕ → List ℕ) (wide : IsWide w limit s) (bytes : List ℕ) (n : ℕ) (rest : List ℕ) → IsBytes bytes → number_at w bytes ≡ Some (n, rest) → Takes bytes (s n) rest × (n < limit)
unfolding number_at
number_takes w limit s wide bytes n rest fits e =
    let g = guard_some (ltb (length bytes) (byte_len w)) (from_be_bytes w (take (byte_len w) bytes), drop (byte_len w) bytes) (n, rest) e in
    let long : byte_len w ≤ length bytes = ltb-false _ _ g.0 in
    let n-is : from_be_bytes w (take (byte_len w) bytes) ≡ n = ap (λ (p : ℕ × List ℕ). p.0) g.1 in
    let rest-is : drop (byte_len w) bytes ≡ rest = ap (λ (p : ℕ × List ℕ). p.1) g.1 in
    let front : s n ≡ take (byte_len w) bytes = rw (← n-is) (wide.back (take (byte_len w) bytes) (omega (arith, length-take (byte_len w) bytes)) (IsBytes-take (byte_len w) bytes fits)) in
    (record { parts = rw (front, ← rest-is) (sym (take-append-drop (byte_len w) bytes)); rest_fits = subst IsBytes rest-is (IsBytes-drop (byte_len w) bytes fits) }, rw (← n-is) (wide.below (take (byte_len w) bytes) (IsBytes-take (byte_len w) bytes fits)))

pub number_again : (w : Width) (limit : ℕ) (s : ℕ → List ℕ) (wide : IsWide w limit s) (n : ℕ) (rest : List ℕ) → n < limit → number_at w (s n ++ rest) ≡ Some (n, rest)
unfolding number_at
number_again w limit s wide n rest lt =
    let len = wide.len n in
    let long : ltb (length (s n ++ rest)) (byte_len w) ≡ false = le-ltb _ _ (omega (arith, length-append (s n) rest)) in
    rw (long, take_at (s n) rest (byte_len w) len, drop_at (s n) rest (byte_len w) len, wide.again n lt) refl

pub number_format : (w : Width) (limit : ℕ) (s : ℕ → List ℕ) → IsWide w limit s → IsFormat s (λ n. n < limit) (number_at w)
number_format w limit s wide = record {
  takes = λ bytes n rest fits e. number_takes w limit s wide bytes n rest fits e;
  again = λ n rest lt. number_again w limit s wide n rest lt;
}

pub u16_format : IsFormat u16 (λ n. n < 2 ^ 16) (number_at w16)
u16_format = number_format w16 (2 ^ 16) u16 wide16

pub u32_format : IsFormat u32 IsShort (number_at w32)
u32_format = number_format w32 (2 ^ 32) u32 wide32

pub u64_format : IsFormat (high_first 8) (λ n. n < 2 ^ 64) (number_at w64)
u64_format = number_format w64 (2 ^ 64) (high_first 8) wide64

-- one byte
pub IsBytes-rest : (b : ℕ) (bytes : List ℕ) → IsBytes (b ∷ bytes) → IsBytes bytes
IsBytes-rest b bytes h i = h (suc i)

one_byte : (b : ℕ) → b < 256 → b / 1 % 256 ≡ b
one_byte b few = omega (arith, few)

byte_takes : (bytes : List ℕ) (n : ℕ) (rest : List ℕ) → IsBytes bytes → byte_at bytes ≡ Some (n, rest) → Takes bytes (u8 n) rest × (n < 256)
unfolding byte_at
byte_takes [] n rest fits e = absurd cc
byte_takes (b ∷ bytes) n rest fits e =
    subst (λ (y : ℕ × List ℕ). Takes (b ∷ bytes) (u8 y.0) y.1 × (y.0 < 256)) (some_is {A = ℕ × List ℕ} (b, bytes) (n, rest) e)
    (record { parts = rw (one_byte b (fits 0)) refl; rest_fits = IsBytes-rest b bytes fits }, fits 0)

byte_again : (n : ℕ) (rest : List ℕ) → n < 256 → byte_at (u8 n ++ rest) ≡ Some (n, rest)
unfolding byte_at
byte_again n rest few = rw (one_byte n few) refl

pub byte_format : IsFormat u8 (λ n. n < 256) byte_at
byte_format = record { takes = λ bytes n rest fits e. byte_takes bytes n rest fits e; again = λ n rest few. byte_again n rest few }

pub text_takes : (n : ℕ) (bytes text rest : List ℕ) → IsBytes bytes → text_at n bytes ≡ Some (text, rest) → Takes bytes text rest × (length text ≡ n)
unfolding text_at
text_takes n bytes text rest fits e =
    let g = guard_some (ltb (length bytes) n) (take n bytes, drop n bytes) (text, rest) e in
    let long : n ≤ length bytes = ltb-false _ _ g.0 in
    subst (λ (p : List ℕ × List ℕ). Takes bytes p.0 p.1 × (length p.0 ≡ n)) g.1
    (record { parts = sym (take-append-drop n bytes); rest_fits = IsBytes-drop n bytes fits }, omega (arith, length-take n bytes))

pub text_again : (text rest : List ℕ) → text_at (length text) (text ++ rest) ≡ Some (text, rest)
unfolding text_at
text_again text rest =
    let long : ltb (length (text ++ rest)) (length text) ≡ false = le-ltb _ _ (omega (arith, length-append text rest)) in
    rw (long, take_at text rest (length text) refl, drop_at text rest (length text) refl) refl

-- a length and so many bytes
pub counted_format : (s : ℕ → List ℕ) (limit : ℕ) (r : Reader ℕ) → IsFormat s (λ n. n < limit) r
    → IsFormat (λ (text : List ℕ). s (length text) ++ text) (λ text. length text < limit) (counted_at r)
counted_format s limit r one = record {
  takes = λ bytes text rest fits e.
      let a = bind_some (r bytes) (λ n. text_at n.0 n.1) (text, rest) e in
      let t1 = one.takes bytes a.0.0 a.0.1 fits a.1 in
      let t2 = text_takes a.0.0 a.0.1 text rest t1.0.rest_fits a.2 in
      let both = Takes-then bytes (s a.0.0) a.0.1 text rest t1.0 t2.0 in
      (subst (λ (k : ℕ). Takes bytes (s k ++ text) rest) (sym t2.1) both, subst (λ (k : ℕ). k < limit) (sym t2.1) t1.1);
  again = λ text rest few.
      ap (counted_at r) (append_assoc (s (length text)) text rest) ∙ rw (one.again (length text) (text ++ rest) few) (text_again text rest);
}

-- a count and so many
pub list_format : {A : Type 0} (s : A → List ℕ) (f : A → Type 0) (r : Reader A) → IsFormat s f r
    → IsFormat (spell_list s) (ListFits f) (listed_at r)
list_format {A} s f r one = record {
  takes = λ bytes xs rest fits e.
      let a = bind_some (number_at w32 bytes) (λ n. times_at r n.0 n.1) (xs, rest) e in
      let t1 = u32_format.takes bytes a.0.0 a.0.1 fits a.1 in
      let t2 = times_takes s f r one a.0.0 a.0.1 xs rest t1.0.rest_fits a.2 in
      let both = Takes-then bytes (u32 a.0.0) a.0.1 (flat_map s xs) rest t1.0 t2.0 in
      (subst (λ (k : ℕ). Takes bytes (u32 k ++ flat_map s xs) rest) (sym t2.1.0) both, (omega (arith, t2.1.0, t1.1), t2.1.1));
  again = λ xs rest fits.
      ap (listed_at r) (append_assoc (u32 (length xs)) (flat_map s xs) rest)
      ∙ rw (u32_format.again (length xs) (flat_map s xs ++ rest) fits.0) (times_again s f r one xs rest fits.1);
}

-- no spelling begins another
pub prefix_free : {A : Type 0} (s : A → List ℕ) (f : A → Type 0) (r : Reader A) → ((x : A) (rest : List ℕ) → f x → r (s x ++ rest) ≡ Some (x, rest))
    → (x y : A) (a b : List ℕ) → f x → f y → s x ++ a ≡ s y ++ b → (x ≡ y) × (a ≡ b)
prefix_free {A} s f r again x y a b fx fy e =
    let both : done {A = A × List ℕ} (x, a) ≡ done (y, b) = sym (again x a fx) ∙ ap r e ∙ again y b fy in
    let pair = some_is {A = A × List ℕ} (x, a) (y, b) both in
    (ap (λ (p : A × List ℕ). p.0) pair, ap (λ (p : A × List ℕ). p.1) pair)

-- Lists of spellings are read in one way.
pub list_free : {A : Type 0} (s : A → List ℕ) (f : A → Type 0) (r : Reader A) → ((x : A) (rest : List ℕ) → f x → r (s x ++ rest) ≡ Some (x, rest))
    → (xs ys : List A) (a b : List ℕ) → AllByRecursion f xs → AllByRecursion f ys
    → ((x : A) (after : List ℕ) → f x → a ≡ s x ++ after → ⊥) → ((x : A) (after : List ℕ) → f x → b ≡ s x ++ after → ⊥)
    → flat_map s xs ++ a ≡ flat_map s ys ++ b → (xs ≡ ys) × (a ≡ b)
list_free s f r again [] [] a b fx fy ea eb e = (refl, e)
list_free s f r again [] (y ∷ ys) a b fx fy ea eb e = absurd (ea y (flat_map s ys ++ b) fy.0 (e ∙ ap (λ (l : List ℕ). l ++ b) (flat_map-cons s y ys) ∙ append_assoc (s y) (flat_map s ys) b))
list_free s f r again (x ∷ xs) [] a b fx fy ea eb e = absurd (eb x (flat_map s xs ++ a) fx.0 (sym e ∙ ap (λ (l : List ℕ). l ++ a) (flat_map-cons s x xs) ∙ append_assoc (s x) (flat_map s xs) a))
list_free s f r again (x ∷ xs) (y ∷ ys) a b fx fy ea eb e =
    let left : flat_map s (x ∷ xs) ++ a ≡ s x ++ (flat_map s xs ++ a) = ap (λ (l : List ℕ). l ++ a) (flat_map-cons s x xs) ∙ append_assoc (s x) (flat_map s xs) a in
    let right : flat_map s (y ∷ ys) ++ b ≡ s y ++ (flat_map s ys ++ b) = ap (λ (l : List ℕ). l ++ b) (flat_map-cons s y ys) ∙ append_assoc (s y) (flat_map s ys) b in
    let first = prefix_free s f r again x y (flat_map s xs ++ a) (flat_map s ys ++ b) fx.0 fy.0 (sym left ∙ e ∙ right) in
    let others = list_free s f r again xs ys a b fx.1 fy.1 ea eb first.1 in
    ((λ i. first.0 i ∷ others.0 i), others.1)
