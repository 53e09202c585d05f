-- Laws of torn ranges.
use Rattle.std.proofs.Common.{◌≡◌, ℕ, ◌+◌, ◌-◌, ◌<◌, ◌≤◌, max, min, List, [], ◌∷◌, ◌++◌, length, get_or, take, drop, refl, sym, ◌∙◌, ap, subst, arith, length-append, length-take, length-drop, inl, inr}
use Rattle.std.proofs.lemmas.Bool.{cases_lt}
use Rattle.std.proofs.lemmas.List.{get_or_append_left, get_or-append_right, get_or-take, get_or-drop, ext_get_or}
use Rattle.e3_disk.specs.Images.{Holds, Torn, Tears, TornBy, TearsBy, Only, Outside, greatest}

pub torn_refl : (p : ℕ) (xs : List ℕ) → Torn p 0 xs xs
torn_refl p xs = record { before = λ i lt l. refl; behind = λ i lt l. refl; no_shorter = omega arith; no_longer = omega arith }

pub widen : (p n q m : ℕ) (a b : List ℕ) → q ≤ p → p + n ≤ q + m → Torn p n a b → Torn q m a b
widen p n q m a b le le2 t = record {
  before = λ i lt l. t.before i lt (omega arith);
  behind = λ i lt l. t.behind i lt (omega arith);
  no_shorter = t.no_shorter;
  no_longer = omega (arith, t.no_longer);
}

pub compose : (p n : ℕ) (a b c : List ℕ) → Torn p n a b → Torn p n b c → Torn p n a c
compose p n a b c s t = record {
  before = λ i lt l. t.before i (omega (arith, s.no_shorter)) l ∙ s.before i lt l;
  behind = λ i lt l. t.behind i (omega (arith, s.no_shorter)) l ∙ s.behind i lt l;
  no_shorter = omega (arith, s.no_shorter, t.no_shorter);
  no_longer = omega (arith, s.no_longer, t.no_longer);
}

-- a byte of three parts
at_front : (a b c : List ℕ) (i : ℕ) → i < length a → get_or (a ++ b ++ c) i 0 ≡ get_or a i 0
at_front a b c i lt = get_or_append_left (a ++ b) c 0 i (omega (arith, length-append a b)) ∙ get_or_append_left a b 0 i lt

at_middle : (a b c : List ℕ) (i : ℕ) → length a ≤ i → i < length a + length b → get_or (a ++ b ++ c) i 0 ≡ get_or b (i - length a) 0
at_middle a b c i le lt = get_or_append_left (a ++ b) c 0 i (omega (arith, length-append a b)) ∙ get_or-append_right a b (length a) i 0 refl le

at_end : (a b c : List ℕ) (i : ℕ) → length a + length b ≤ i → get_or (a ++ b ++ c) i 0 ≡ get_or c (i - (length a + length b)) 0
at_end a b c i le = get_or-append_right (a ++ b) c (length a + length b) i 0 (length-append a b) le

pub holds_torn : (p : ℕ) (old bytes new : List ℕ) → p ≤ length old → Holds old p bytes new → Torn p (length bytes) old new
holds_torn p old bytes new le holds = subst (λ (x : List ℕ). Torn p (length bytes) old x) (sym holds) (
    let a = take p old in
    let c = drop (p + length bytes) old in
    let la : length a ≡ p = omega (arith, length-take p old) in
    let lc : length c ≡ length old - (p + length bytes) = length-drop (p + length bytes) old in
    let l : length (a ++ bytes ++ c) ≡ length a + length bytes + length c = omega (arith, length-append (a ++ bytes) c, length-append a bytes) in
    record {
      before = λ i lt l. at_front a bytes c i (omega arith) ∙ get_or-take p old i 0 l;
      behind = λ i lt l. at_end a bytes c i (omega arith) ∙ get_or-drop (p + length bytes) old (i - (length a + length bytes)) 0 ∙ ap (λ (k : ℕ). get_or old k 0) (omega arith);
      no_shorter = omega arith;
      no_longer = omega arith;
    })

-- What stands between: a write at q after one at p, of one range that has both.
module _ (p n q m f t : ℕ) (a c : List ℕ) (start : p ≤ length a)
    (hull_from : f ≡ min p q) (hull_to : t ≡ max (p + n) (q + m)) (near : q ≤ p + n) (near2 : p ≤ q + m) (torn : Torn f (t - f) a c) where
  abbrev x : List ℕ
  x = take p a

  abbrev y : List ℕ
  y = take n (drop p c)

  abbrev z : List ℕ
  z = drop (p + n) a

  abbrev pub between : List ℕ
  between = x ++ y ++ z

  x-len : length x ≡ p
  x-len = omega (arith, length-take p a)

  y-len : length y ≡ min n (length c - p)
  y-len = omega (arith, length-take n (drop p c), length-drop p c)

  z-len : length z ≡ length a - (p + n)
  z-len = length-drop (p + n) a

  len : length between ≡ length x + length y + length z
  len = omega (arith, length-append (x ++ y) z, length-append x y)

  front : (i : ℕ) → i < p → get_or between i 0 ≡ get_or a i 0
  front i lt = at_front x y z i (omega (arith, x-len)) ∙ get_or-take p a i 0 lt

  middle : (i : ℕ) → p ≤ i → i < p + length y → get_or between i 0 ≡ get_or c i 0
  middle i le lt = at_middle x y z i (omega (arith, x-len)) (omega (arith, x-len))
      ∙ get_or-take n (drop p c) (i - length x) 0 (omega (arith, x-len, y-len))
      ∙ get_or-drop p c (i - length x) 0 ∙ ap (λ (k : ℕ). get_or c k 0) (omega (arith, x-len))

  end : (i : ℕ) → p + n ≤ i → length y ≡ n → get_or between i 0 ≡ get_or a i 0
  end i le whole = at_end x y z i (omega (arith, x-len)) ∙ get_or-drop (p + n) a (i - (length x + length y)) 0
      ∙ ap (λ (k : ℕ). get_or a k 0) (omega (arith, x-len))

  pub first_torn : Torn p n a between
  first_torn = record {
    before = λ i lt l. front i l;
    behind = λ i lt l. end i l (omega (arith, y-len, torn.no_shorter));
    no_shorter = omega (arith, len, x-len, y-len, z-len, torn.no_shorter);
    no_longer = omega (arith, len, x-len, y-len, z-len, torn.no_shorter);
  }

  pub second_torn : Torn q m between c
  second_torn = record {
    before = λ i lt l. elim (cases_lt i p) [
      | inl low ↦ torn.before i (omega arith) (omega arith) ∙ sym (front i low)
      | inr high ↦ sym (middle i high (omega (arith, len, x-len, y-len, z-len, torn.no_shorter)))
    ];
    behind = λ i lt l. elim (cases_lt i (p + length y)) [
      | inl low ↦ sym (middle i (omega arith) low)
      | inr high ↦
          let whole : length y ≡ n = omega (arith, len, x-len, y-len, z-len, torn.no_shorter) in
          torn.behind i (omega (arith, len, x-len, z-len)) (omega arith) ∙ sym (end i (omega arith) whole)
    ];
    no_shorter = omega (arith, len, x-len, y-len, z-len, torn.no_shorter);
    no_longer = omega (arith, len, x-len, y-len, z-len, torn.no_shorter, torn.no_longer);
  }

-- an empty range leaves all as it is
pub torn_none : (p : ℕ) (a b : List ℕ) → p ≤ length a → Torn p 0 a b → b ≡ a
torn_none p a b le t =
    let l : length a ≡ length b = omega (arith, t.no_shorter, t.no_longer) in
    sym (ext_get_or 0 a b l (λ i lt. sym (elim (cases_lt i p) [
      | inl low ↦ t.before i lt low
      | inr high ↦ t.behind i lt (omega arith)
    ])))

-- bytes outside of each range stay
pub outside_stays : (ws : List (ℕ × ℕ)) (old new : List ℕ) (i : ℕ) → TornBy ws old new → i < length old → Outside i ws → get_or new i 0 ≡ get_or old i 0
outside_stays [] old new i torn lt out = ap (λ (l : List ℕ). get_or l i 0) torn
outside_stays (w ∷ ws) old new i torn lt out =
    let first : get_or torn.0 i 0 ≡ get_or old i 0 = elim out.0 [ inl low ↦ torn.1.before i lt low | inr high ↦ torn.1.behind i lt high ] in
    outside_stays ws torn.0 new i torn.2 (omega (arith, torn.1.no_shorter)) out.1 ∙ first

-- the length is between the least and the greatest
pub at_least : (ws : List (ℕ × ℕ)) (old new : List ℕ) → TornBy ws old new → length old ≤ length new
at_least [] old new torn = omega (arith, ap length torn)
at_least (w ∷ ws) old new torn = omega (arith, torn.1.no_shorter, at_least ws torn.0 new torn.2)

greatest-le : (ws : List (ℕ × ℕ)) (m n : ℕ) → m ≤ n → greatest m ws ≤ greatest n ws
greatest-le [] m n le = le
greatest-le (w ∷ ws) m n le = greatest-le ws (max m (w.0 + w.1)) (max n (w.0 + w.1)) (omega arith)

pub at_most : (ws : List (ℕ × ℕ)) (old new : List ℕ) → TornBy ws old new → length new ≤ greatest (length old) ws
at_most [] old new torn = omega (arith, ap length torn)
at_most (w ∷ ws) old new torn =
    let later = at_most ws torn.0 new torn.2 in
    let wider = greatest-le ws (length torn.0) (max (length old) (w.0 + w.1)) torn.1.no_longer in
    omega (arith, later, wider)

-- a write may leave all as it was
pub torn_same : (p n : ℕ) (xs : List ℕ) → Torn p n xs xs
torn_same p n xs = record { before = λ i lt l. refl; behind = λ i lt l. refl; no_shorter = omega arith; no_longer = omega arith }

all_same : (ws : List (ℕ × ℕ)) (xs : List ℕ) → TornBy ws xs xs
all_same [] xs = refl
all_same (w ∷ ws) xs = (xs, torn_same w.0 w.1 xs, all_same ws xs)

-- one write more, and writes that were not made
torn_push : (ws : List (ℕ × ℕ)) (p n : ℕ) (old new c : List ℕ) → TornBy ws old new → Torn p n new c → TornBy (ws ++ (p, n) ∷ []) old c
torn_push [] p n old new c torn last = (c, subst (λ (d : List ℕ). Torn p n d c) torn last, refl)
torn_push (w ∷ ws) p n old new c torn last = (torn.0, torn.1, torn_push ws p n torn.0 new c torn.2 last)

torn_rest : (ws vs : List (ℕ × ℕ)) (old new : List ℕ) → TornBy ws old new → TornBy (ws ++ vs) old new
torn_rest [] vs old new torn = subst (λ (d : List ℕ). TornBy vs old d) (sym torn) (all_same vs old)
torn_rest (w ∷ ws) vs old new torn = (torn.0, torn.1, torn_rest ws vs torn.0 new torn.2)

pub tears_push : (ws : List (ℕ × ℕ)) (p n : ℕ) (a b c : List ℕ → Type 0) → TearsBy ws a b → Tears p n b c → TearsBy (ws ++ (p, n) ∷ []) a c
tears_push ws p n a b c before last image at =
    let late = last image at in
    let early = before late.0 late.1 in
    (early.0, early.1, torn_push ws p n early.0 late.0 image early.2 late.2)

pub tears_rest : (ws vs : List (ℕ × ℕ)) (a b : List ℕ → Type 0) → TearsBy ws a b → TearsBy (ws ++ vs) a b
tears_rest ws vs a b before image at = let from = before image at in (from.0, from.1, torn_rest ws vs from.0 image from.2)

-- from one image on
pub from_only : (ws : List (ℕ × ℕ)) (content : List ℕ) (a b : List ℕ → Type 0) → Only content a → TearsBy ws a b → (image : List ℕ) → b image → TornBy ws content image
from_only ws content a b only tears image at = let from = tears image at in subst (λ (d : List ℕ). TornBy ws d image) (only from.0 from.1) from.2

-- a write leaves no fewer bytes
pub no_fewer : (p : ℕ) (old bytes new : List ℕ) → p ≤ length old → Holds old p bytes new → length old ≤ length new
no_fewer p old bytes new le holds = (holds_torn p old bytes new le holds).no_shorter
