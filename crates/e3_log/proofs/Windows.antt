-- Torn and overwritten bytes, seen in a range.
use Rattle.std.proofs.Common.{◌≡◌, ℕ, ◌+◌, ◌-◌, ◌<◌, ◌≤◌, min, List, ◌++◌, length, take, drop, get_or, sym, ◌∙◌, ap, arith, length-append, length-take, length-drop, drop-drop, get_or-take, get_or-drop, ext_get_or, take-take}
use Rattle.std.proofs.lemmas.List.{drop-take, drop-append-le, take_all}
use Rattle.std.proofs.Math.Seq.{take-append-add}
use Rattle.e3_disk.specs.Images.{Torn, overwritten}
use Rattle.e3_log.specs.Regions.{window}

pub window_length : (s m : ℕ) (l : List ℕ) → length (window s m l) ≡ min m (length l - s)
window_length s m l = length-take m (drop s l) ∙ ap (λ k. min m k) (length-drop s l)

pub window_at : (s m : ℕ) (l : List ℕ) (i : ℕ) → i < m → get_or (window s m l) i 0 ≡ get_or l (s + i) 0
window_at s m l i low = get_or-take m (drop s l) i 0 low ∙ get_or-drop s l i 0

-- a torn write at a place in the range
pub torn_window : (s m p place n : ℕ) (old c : List ℕ) → s ≤ length old → place ≡ s + p → Torn place n old c → Torn p n (window s m old) (window s m c)
torn_window s m p place n old c inside is t = record {
  before = λ i low here.
      let lo : i < m = omega (arith, low, window_length s m old) in
      let far : s + i < length old = omega (arith, low, window_length s m old) in
      window_at s m c i lo ∙ t.before (s + i) far (omega arith) ∙ sym (window_at s m old i lo);
  behind = λ i low here.
      let lo : i < m = omega (arith, low, window_length s m old) in
      let far : s + i < length old = omega (arith, low, window_length s m old) in
      window_at s m c i lo ∙ t.behind (s + i) far (omega arith) ∙ sym (window_at s m old i lo);
  no_shorter = omega (arith, window_length s m old, window_length s m c, t.no_shorter);
  no_longer = omega (arith, window_length s m old, window_length s m c, t.no_longer, t.no_shorter);
}

-- a range before the write, or behind it, keeps its bytes
pub torn_before : (s m place n : ℕ) (old c : List ℕ) → s + m ≤ place → s + m ≤ length old → Torn place n old c → window s m c ≡ window s m old
torn_before s m place n old c above inside t =
    ext_get_or 0 (window s m c) (window s m old) (omega (arith, window_length s m old, window_length s m c, t.no_shorter))
    (λ i low.
    let lo : i < m = omega (arith, low, window_length s m c) in
    window_at s m c i lo ∙ t.before (s + i) (omega arith) (omega arith) ∙ sym (window_at s m old i lo))

pub torn_behind : (s m place n : ℕ) (old c : List ℕ) → place + n ≤ s → s ≤ length old → Torn place n old c → window s m c ≡ window s m old
torn_behind s m place n old c below inside t =
    ext_get_or 0 (window s m c) (window s m old) (omega (arith, window_length s m old, window_length s m c, t.no_shorter, t.no_longer))
    (λ i low.
    let lo : i < m = omega (arith, low, window_length s m c) in
    let far : s + i < length old = omega (arith, low, window_length s m c, t.no_longer, t.no_shorter) in
    window_at s m c i lo ∙ t.behind (s + i) far (omega arith) ∙ sym (window_at s m old i lo))

over_drop : (s p : ℕ) (bytes old : List ℕ) → s + p ≤ length old → drop s (overwritten old (s + p) bytes) ≡ overwritten (drop s old) p bytes
over_drop s p bytes old inside =
    let front = take (s + p) old in
    let back = drop (s + p + length bytes) old in
    let long : s ≤ length front = omega (arith, length-take (s + p) old) in
    let longer : s ≤ length (front ++ bytes) = omega (arith, long, length-append front bytes) in
    let tail : back ≡ drop (p + length bytes) (drop s old) = ap (λ k. drop k old) (omega arith) ∙ sym (drop-drop (p + length bytes) s old) in
    drop-append-le s (front ++ bytes) back longer
    ∙ ap (λ (l : List ℕ). l ++ back) (drop-append-le s front bytes long ∙ ap (λ (l : List ℕ). l ++ bytes) (drop-take s p old))
    ∙ ap (λ (l : List ℕ). take p (drop s old) ++ bytes ++ l) tail

over_take : (m p : ℕ) (bytes old : List ℕ) → p ≤ length old → p + length bytes ≤ m → take m (overwritten old p bytes) ≡ overwritten (take m old) p bytes
over_take m p bytes old inside fits =
    let k = p + length bytes in
    let r = m - k in
    let front = take p old ++ bytes in
    let len : length front ≡ k = omega (arith, length-append (take p old) bytes, length-take p old) in
    let split : m ≡ k + r = omega arith in
    let left : take m (overwritten old p bytes) ≡ front ++ take r (drop k old) =
    ap (λ j. take j (front ++ drop k old)) (split ∙ ap (λ j. j + r) (sym len)) ∙ take-append-add front (drop k old) r in
    let right : drop k (take m old) ≡ take r (drop k old) = ap (λ j. drop k (take j old)) split ∙ drop-take k r old in
    left ∙ ap (λ (l : List ℕ). l ++ bytes ++ take r (drop k old)) (sym (take-take p m old (omega arith)))
    ∙ ap (λ (l : List ℕ). take p (take m old) ++ bytes ++ l) (sym right)

-- bytes written over others in the range
pub over_window : (s m p place : ℕ) (bytes old : List ℕ) → place ≡ s + p → s + p ≤ length old → p + length bytes ≤ m
    → window s m (overwritten old place bytes) ≡ overwritten (window s m old) p bytes
over_window s m p place bytes old is inside fits =
    ap (λ k. window s m (overwritten old k bytes)) is
    ∙ ap (λ (l : List ℕ). take m l) (over_drop s p bytes old inside)
    ∙ over_take m p bytes (drop s old) (omega (arith, length-drop s old)) fits

-- what is read in a range
pub read_window : (s m at n : ℕ) (l : List ℕ) → at + n ≤ m → take n (drop (s + at) l) ≡ take n (drop at (window s m l))
read_window s m at n l fits =
    let r = m - at in
    let split : m ≡ at + r = omega arith in
    sym (ap (λ (x : List ℕ). take n x)
    (ap (λ j. drop at (take j (drop s l))) split ∙ drop-take at r (drop s l) ∙ ap (λ (x : List ℕ). take r x) (drop-drop at s l))
    ∙ take-take n r (drop (s + at) l) (omega arith))

-- a range to the end of the bytes
pub window_all : (s m n : ℕ) (l : List ℕ) → length l - s ≤ m → length l - s ≤ n → window s m l ≡ window s n l
window_all s m n l first more = take_all m (drop s l) (omega (arith, length-drop s l)) ∙ sym (take_all n (drop s l) (omega (arith, length-drop s l)))

pub window_full : (s m : ℕ) (l : List ℕ) → s + m ≤ length l → length (window s m l) ≡ m
window_full s m l inside = omega (arith, window_length s m l)
