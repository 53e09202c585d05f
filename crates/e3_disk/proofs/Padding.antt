-- What writes and reads make of bytes with 00 behind them.
use Rattle.std.proofs.Common.{◌≡◌, ℕ, ◌+◌, ◌-◌, ◌/◌, ◌<◌, ◌≤◌, zero, suc, max, min, List, [], ◌∷◌, ◌++◌, length, get_or, take, drop, replicate, refl, sym, ◌∙◌, ap, subst, arith, length-append, length-take, length-drop, drop-drop, take-append-drop, get_or-take, get_or-drop, ext_get_or, inl, inr}
use Rattle.std.proofs.lemmas.Bool.{cases_lt}
use Rattle.std.proofs.lemmas.List.{append_assoc, append-nil, drop-append-le, drop-replicate, get_or_append_left, get_or-append_right, length-replicate, replicate-append-replicate, take-append-le}
use Rattle.std.proofs.Math.ListN.{drop_of_length-le}
use Rattle.std.proofs.Math.Seq.{drop-append-add}
use Rattle.e3_disk.proofs.Torn.{torn_back, torn_front}
use Rattle.e3_disk.specs.Images.{Torn, overwritten}
use Rattle.e3_disk.specs.Leaves.{kept_by}
use Rattle.e3_disk.specs.Padding.{Cells, padded}
use Rattle.e3_types.specs.declared.scenarios.Leave.{Leave}
use Rattle.e3_types.specs.declared.scenarios.Leave.TheVariants as leaves

abbrev nought : ℕ
nought = 0

abbrev zeros : ℕ → List ℕ
zeros n = replicate n 0

padded-length : (b : ℕ) (xs : List ℕ) → length (padded b xs) ≡ max (length xs) b
padded-length b xs = omega (arith, length-append xs (zeros (b - length xs)), length-replicate (b - length xs) nought)

over-length : (p : ℕ) (xs bs : List ℕ) → p ≤ length xs → length (overwritten xs p bs) ≡ max (length xs) (p + length bs)
over-length p xs bs le = omega (
  arith,
  length-append (take p xs ++ bs) (drop (p + length bs) xs),
  length-append (take p xs) bs,
  length-take p xs,
  length-drop (p + length bs) xs,
)

-- what is reached further reads as before
padded-reached : (b p : ℕ) (xs : List ℕ) → p ≤ length (padded b xs) → padded b (xs ++ zeros (p - length xs)) ≡ padded b xs
padded-reached b p xs le =
    let k = p - length xs in
    let m = b - length (xs ++ zeros k) in
    let whole : k + m ≡ b - length xs = omega (arith, padded-length b xs, length-append xs (zeros k), length-replicate k nought) in
    append_assoc xs (zeros k) (zeros m) ∙ ap (λ (z : List ℕ). xs ++ z) (replicate-append-replicate k m 0) ∙ ap (λ (n : ℕ). xs ++ zeros n) whole

abbrev cells_of : List ℕ → ℕ → ℕ → Cells
cells_of xs b room = record { bytes = padded b xs; touched = length xs; blank = b; room = room }

pub reach_to : (xs ys : List ℕ) (b room p : ℕ) (now : Cells) → cells_of xs b room ≡ now → ys ≡ xs ++ zeros (p - length xs) → length xs < p → p ≤ length now.bytes
    → cells_of ys b room ≡ record now { touched = max now.touched p }
reach_to xs ys b room p now is made lt le =
    let within : p ≤ length (padded b xs) = subst (λ (n : Cells). p ≤ length n.bytes) (sym is) le in
    let bytes : padded b ys ≡ padded b xs = ap (λ (l : List ℕ). padded b l) made ∙ padded-reached b p xs within in
    let touched : length ys ≡ max (length xs) p = omega (arith, ap length made, length-append xs (zeros (p - length xs)), length-replicate (p - length xs) nought) in
    ap (λ (l : List ℕ). record { bytes = l; touched = length ys; blank = b; room = room }) bytes
    ∙ ap (λ (n : ℕ). record { bytes = padded b xs; touched = n; blank = b; room = room }) touched
    ∙ ap (λ (n : Cells). record n { touched = max n.touched p }) is

-- a write within what is touched
pub padded-over : (b p : ℕ) (xs bs : List ℕ) → p ≤ length xs → padded b (overwritten xs p bs) ≡ overwritten (padded b xs) p bs
padded-over b p xs bs le =
    let n = length bs in
    let z = zeros (b - length xs) in
    let front : take p (xs ++ z) ≡ take p xs = take-append-le p xs z le in
    let len = over-length p xs bs le in
    elim (cases_lt (length xs) (p + n)) [
      | inl past ↦
          let k = p + n - length xs in
          let far : p + n ≡ length xs + k = omega (arith, past) in
          let gone : drop (p + n) xs ≡ [] = drop_of_length-le xs (omega (arith, past)) in
          let back : drop (p + n) (xs ++ z) ≡ zeros (b - length xs - k) = ap (λ (j : ℕ). drop j (xs ++ z)) far ∙ drop-append-add xs z k ∙ drop-replicate k (b - length xs) 0 in
          let left : b - length (overwritten xs p bs) ≡ b - length xs - k = omega (arith, len, past) in
          ap (λ (m : ℕ). overwritten xs p bs ++ zeros m) left
          ∙ ap (λ (l : List ℕ). take p xs ++ bs ++ l ++ zeros (b - length xs - k)) gone
          ∙ ap (λ (l : List ℕ). l ++ zeros (b - length xs - k)) (append-nil (take p xs ++ bs))
          ∙ sym (ap (λ (f : List ℕ). f ++ bs ++ drop (p + n) (xs ++ z)) front ∙ ap (λ (l : List ℕ). take p xs ++ bs ++ l) back)
      | inr inside ↦
          let back : drop (p + n) (xs ++ z) ≡ drop (p + n) xs ++ z = drop-append-le (p + n) xs z inside in
          let left : b - length (overwritten xs p bs) ≡ b - length xs = omega (arith, len, inside) in
          ap (λ (m : ℕ). overwritten xs p bs ++ zeros m) left
          ∙ append_assoc (take p xs ++ bs) (drop (p + n) xs) z
          ∙ sym (ap (λ (f : List ℕ). f ++ bs ++ drop (p + n) (xs ++ z)) front ∙ ap (λ (l : List ℕ). take p xs ++ bs ++ l) back)
    ]

-- bytes 00 are 00 at each place, and past their end
zero_at : (m i : ℕ) → get_or (zeros m) i 0 ≡ 0
zero_at zero i = refl
zero_at (suc m) zero = refl
zero_at (suc m) (suc i) = zero_at m i

past_end : (l : List ℕ) (k : ℕ) → length l ≤ k → get_or l k 0 ≡ 0
past_end [] k le = refl
past_end (x ∷ l) zero le = absurd (omega (arith, le))
past_end (x ∷ l) (suc k) le = past_end l k (omega (arith, le))

at_padded : (b i : ℕ) (xs : List ℕ) → get_or (padded b xs) i 0 ≡ get_or xs i 0
at_padded b i xs = elim (cases_lt i (length xs)) [
  | inl low ↦ get_or_append_left xs (zeros (b - length xs)) 0 i low
  | inr high ↦ get_or-append_right xs (zeros (b - length xs)) (length xs) i 0 refl high ∙ zero_at (b - length xs) (i - length xs) ∙ sym (past_end xs i high)
]

-- a read takes what is touched, and 00 behind it
pub read_is : (b p n : ℕ) (xs : List ℕ) → p + n ≤ length (padded b xs)
    → take (min (p + n) (length xs) - min p (length xs)) (drop (min p (length xs)) xs) ++ drop (min (p + n) (length xs) - min p (length xs)) (zeros n)
    ≡ take n (drop p (padded b xs))
read_is b p n xs le =
    let f = min p (length xs) in
    let k = min (p + n) (length xs) - f in
    let front = take k (drop f xs) in
    let back = drop k (zeros n) in
    let lf : length front ≡ k = omega (arith, length-take k (drop f xs), length-drop f xs) in
    let lb : length back ≡ n - k = omega (arith, length-drop k (zeros n), length-replicate n nought) in
    let lr : length (take n (drop p (padded b xs))) ≡ n = omega (arith, le, length-take n (drop p (padded b xs)), length-drop p (padded b xs)) in
    ext_get_or 0 (front ++ back) (take n (drop p (padded b xs))) (omega (arith, lf, lb, lr, length-append front back)) (λ i lt.
    let low : i < n = omega (arith, lt, lf, lb, length-append front back) in
    let right : get_or (take n (drop p (padded b xs))) i 0 ≡ get_or xs (p + i) 0 = get_or-take n (drop p (padded b xs)) i 0 low ∙ get_or-drop p (padded b xs) i 0 ∙ at_padded b (p + i) xs in
    elim (cases_lt i k) [
      | inl near ↦ get_or_append_left front back 0 i (omega (arith, near, lf)) ∙ get_or-take k (drop f xs) i 0 near ∙ get_or-drop f xs i 0
          ∙ ap (λ (j : ℕ). get_or xs j 0) (omega (arith, near)) ∙ sym right
      | inr far ↦ get_or-append_right front back (length front) i 0 refl (omega (arith, far, lf)) ∙ get_or-drop k (zeros n) (i - length front) 0 ∙ zero_at n (k + (i - length front))
          ∙ sym (right ∙ past_end xs (p + i) (omega (arith, far, low, le, padded-length b xs)))
    ])

-- where the torn range is written into what is durable, all is durable
pub settled_is : (p n : ℕ) (a c : List ℕ) → p ≤ length a → p + n ≤ length c → Torn p n a c → overwritten a p (take n (drop p c)) ≡ c
settled_is p n a c le within t =
    let m = take n (drop p c) in
    let lm : length m ≡ n = omega (arith, length-take n (drop p c), length-drop p c) in
    let rest : drop (p + n) c ≡ drop n (drop p c) = sym (drop-drop n p c) in
    ap (λ (f : List ℕ). f ++ m ++ drop (p + length m) a) (sym (torn_front p n a c le t))
    ∙ ap (λ (k : ℕ). take p c ++ m ++ drop (p + k) a) lm
    ∙ ap (λ (d : List ℕ). take p c ++ m ++ d) (elim (cases_lt (length a) (p + n)) [
      | inl past ↦ drop_of_length-le a (omega (arith, past)) ∙ sym (drop_of_length-le c (omega (arith, past, t.no_longer)))
      | inr inside ↦ sym (torn_back p n a c inside t)
    ] ∙ rest)
    ∙ append_assoc (take p c) m (drop n (drop p c)) ∙ ap (λ (l : List ℕ). take p c ++ l) (take-append-drop n (drop p c)) ∙ take-append-drop p c

-- a leave keeps no more than was written
pub kept_length : (leave : Leave) (written : List ℕ) → length (kept_by leave written) ≤ length written
kept_length leaves.None written = omega arith
kept_length leaves.Half written = omega (arith, length-take (length written / 2) written)
kept_length leaves.All written = omega arith
kept_length (leaves.Junk b) written = omega (arith, length-replicate (length written) b)
