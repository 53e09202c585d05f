-- Items in byte order of their names.
use Rattle.std.specs.Prelude.{◌≡◌, ◌+◌, ◌≤◌, ◌<◌, ◌++◌, ◌∷◌, [], ℕ, suc, List, length, take, drop}
use Rattle.std.specs.Ordering.{nat_cmp, ordering_reverse}
use Rattle.std.specs.declared.cmp.Ordering.TheVariants.{Less, Equal, Greater}
use Rattle.std.specs.Cmp.Lexicographic.{slice_cmp, nat_list_cmp_total}
use Rattle.std.proofs.Common.{ap, sym, subst, ◌∙◌, get_or, drop-cons, arith}
use Rattle.std.proofs.lemmas.Cmp.{tied_itself}
use Rattle.std.proofs.lemmas.Map.Lookups.{exact_bytes}
use Rattle.std.proofs.lemmas.List.{length-take-le, take_more}
use Rattle.e3_types.specs.Sorted.{IsUnder, AreUnder, AreOver, IsAscending, IsAt, IsGap}
use Rattle.e3_types.proofs.Edits.{at_place, gap_place}

pub turned : (n m : List ℕ) → slice_cmp nat_cmp n m ≡ Greater → IsUnder m n
turned n m e = let t = nat_list_cmp_total.antisymm m n in t ∙ ap ordering_reverse e

pub turned_back : (n m : List ℕ) → IsUnder m n → slice_cmp nat_cmp n m ≡ Greater
turned_back n m e = let t = nat_list_cmp_total.antisymm n m in t ∙ ap ordering_reverse e

pub never_under : (n : List ℕ) → IsUnder n n → ⊥
never_under n e = let t = tied_itself nat_list_cmp_total n in cc

module _ {X : Type 0} (name_of : X → List ℕ) where
  under_more : (m n : List ℕ) (xs : List X) → IsUnder m n → AreUnder name_of m xs → AreUnder name_of n xs
  under_more m n [] e u = tt
  under_more m n (x ∷ xs) e u = (nat_list_cmp_total.trans (name_of x) m n u.0 e, under_more m n xs e u.1)

  pub over_more : (m n : List ℕ) (xs : List X) → IsUnder n m → AreOver name_of m xs → AreOver name_of n xs
  over_more m n [] e o = tt
  over_more m n (x ∷ xs) e o = (nat_list_cmp_total.trans n m (name_of x) e o.0, over_more m n xs e o.1)

  over_one : (n : List ℕ) (xs : List X) (x : X) (ys : List X) → AreOver name_of n (xs ++ x ∷ ys) → IsUnder n (name_of x)
  over_one n [] x ys o = o.0
  over_one n (z ∷ xs) x ys o = over_one n xs x ys o.1

  under_append : (n : List ℕ) (xs ys : List X) → AreUnder name_of n xs → AreUnder name_of n ys → AreUnder name_of n (xs ++ ys)
  under_append n [] ys u v = v
  under_append n (x ∷ xs) ys u v = (u.0, under_append n xs ys u.1 v)

  -- those before an item come before it, and those behind it behind
  pub before_it : (xs : List X) (x : X) (ys : List X) → IsAscending name_of (xs ++ x ∷ ys) → AreUnder name_of (name_of x) xs
  before_it [] x ys a = tt
  before_it (z ∷ xs) x ys a = (over_one (name_of z) xs x ys a.0, before_it xs x ys a.1)

  pub behind_it : (xs : List X) (x : X) (ys : List X) → IsAscending name_of (xs ++ x ∷ ys) → AreOver name_of (name_of x) ys
  behind_it [] x ys a = a.0
  behind_it (z ∷ xs) x ys a = behind_it xs x ys a.1

  -- an item of the same name in its place
  pub ascending_set : (xs : List X) (x y : X) (ys : List X) → name_of y ≡ name_of x → IsAscending name_of (xs ++ x ∷ ys) → IsAscending name_of (xs ++ y ∷ ys)
  ascending_set [] x y ys e a = (subst (λ n. AreOver name_of n ys) (sym e) a.0, a.1)
  ascending_set (z ∷ xs) x y ys e a = (over_set xs a.0, ascending_set xs x y ys e a.1)
    where
      over_set : (zs : List X) → AreOver name_of (name_of z) (zs ++ x ∷ ys) → AreOver name_of (name_of z) (zs ++ y ∷ ys)
      over_set [] o = (subst (λ n. IsUnder (name_of z) n) (sym e) o.0, o.1)
      over_set (w ∷ zs) o = (o.0, over_set zs o.1)

  -- an item more, in its place
  pub ascending_insert : (xs : List X) (y : X) (ys : List X) → IsAscending name_of (xs ++ ys) → AreUnder name_of (name_of y) xs → AreOver name_of (name_of y) ys
      → IsAscending name_of (xs ++ y ∷ ys)
  ascending_insert [] y ys a u o = (o, a)
  ascending_insert (z ∷ xs) y ys a u o = (over_insert xs a.0, ascending_insert xs y ys a.1 u.1 o)
    where
      over_insert : (zs : List X) → AreOver name_of (name_of z) (zs ++ ys) → AreOver name_of (name_of z) (zs ++ y ∷ ys)
      over_insert [] p = (u.0, over_more (name_of y) (name_of z) ys u.0 o)
      over_insert (w ∷ zs) p = (p.0, over_insert zs p.1)

  -- a half less
  pub lower : (xs : List X) (k : ℕ) (x : X) (n : List ℕ) → IsAscending name_of xs → k < length xs → x ≡ get_or xs k x → slice_cmp nat_cmp n (name_of x) ≡ Greater
      → AreUnder name_of n (take (k + 1) xs)
  lower xs k x n a lt is e =
      let parts = at_place xs k x lt is in
      let t : take (k + 1) xs ≡ take k xs ++ x ∷ [] = take_more xs k x lt ∙ ap (λ (y : X). take k xs ++ y ∷ []) (sym is) in
      let up : IsAscending name_of (take k xs ++ x ∷ drop (suc k) xs) = subst (λ l. IsAscending name_of l) parts a in
      let under = turned n (name_of x) e in
      let before = under_more (name_of x) n (take k xs) under (before_it (take k xs) x (drop (suc k) xs) up) in
      subst (λ l. AreUnder name_of n l) (sym t) (under_append n (take k xs) (x ∷ []) before (under, tt))

  pub upper : (xs : List X) (k : ℕ) (x : X) (n : List ℕ) → IsAscending name_of xs → k < length xs → x ≡ get_or xs k x → slice_cmp nat_cmp n (name_of x) ≡ Less
      → AreOver name_of n (drop k xs)
  upper xs k x n a lt is e =
      let parts = at_place xs k x lt is in
      let up : IsAscending name_of (take k xs ++ x ∷ drop (suc k) xs) = subst (λ l. IsAscending name_of l) parts a in
      let behind = over_more (name_of x) n (drop (suc k) xs) e (behind_it (take k xs) x (drop (suc k) xs) up) in
      let d : drop k xs ≡ x ∷ drop (suc k) xs = drop_is xs k x lt is in
      subst (λ l. AreOver name_of n l) (sym d) (e, behind)
    where
      drop_is : (xs : List X) (k : ℕ) (x : X) → k < length xs → x ≡ get_or xs k x → drop k xs ≡ x ∷ drop (suc k) xs
      drop_is xs k x lt is = drop-cons xs k x lt ∙ ap (λ (y : X). y ∷ drop (suc k) xs) (sym is)

  -- the item that was found
  pub found : (xs : List X) (k : ℕ) (x : X) (n : List ℕ) → IsAscending name_of xs → k < length xs → x ≡ get_or xs k x → slice_cmp nat_cmp n (name_of x) ≡ Equal
      → IsAt name_of n xs k
  found xs k x n a lt is e =
      let parts = at_place xs k x lt is in
      let up : IsAscending name_of (take k xs ++ x ∷ drop (suc k) xs) = subst (λ l. IsAscending name_of l) parts a in
      let same : n ≡ name_of x = exact_bytes n (name_of x) e in
      record {
        before = take k xs;
        here = x;
        behind = drop (suc k) xs;
        parts = parts;
        place = length-take-le k xs (omega arith);
        named = sym same;
        under = subst (λ m. AreUnder name_of m (take k xs)) (sym same) (before_it (take k xs) x (drop (suc k) xs) up);
        over = subst (λ m. AreOver name_of m (drop (suc k) xs)) (sym same) (behind_it (take k xs) x (drop (suc k) xs) up);
      }

  -- the gap that is left
  pub gap : (xs : List X) (k : ℕ) (n : List ℕ) → k ≤ length xs → AreUnder name_of n (take k xs) → AreOver name_of n (drop k xs) → IsGap name_of n xs k
  gap xs k n le u o = record {
    before = take k xs;
    behind = drop k xs;
    parts = gap_place xs k;
    place = length-take-le k xs le;
    under = u;
    over = o;
  }
