-- Two ascending lists of keys, which differ in keys alone that give nothing, give the same.
use Rattle.std.proofs.Common.{◌≡◌, ◌+◌, ◌≤◌, ◌++◌, ◌∷◌, [], ℕ, zero, suc, Bool, false, List, None, length, refl, ap, sym, subst, ◌∙◌, arith}
use Rattle.std.specs.BTreeMap.{is_at}
use Rattle.std.specs.Cmp.{IsTotalOrder}
use Rattle.std.specs.List.{flat_map, list_any, AllByRecursion as Each}
use Rattle.std.specs.List.Sorted.{IsStrictlySortedBy}
use Rattle.std.specs.Map.{keys_of, lookup}
use Rattle.std.specs.Ordering.{is_eq, ordering_reverse}
use Rattle.std.specs.declared.cmp.Ordering.{Ordering}
use Rattle.std.specs.declared.cmp.Ordering.TheVariants.{Less, Equal, Greater}
use Rattle.std.proofs.lemmas.Bool.{or_from, or_parts}
use Rattle.std.proofs.lemmas.Map.Entries.{lookup_tail}
use Rattle.std.proofs.lemmas.Map.Lookups.{CmpEqualImpliesEq}

-- the key is below all of these
abbrev pub Below : {K : Type 0} → (K → K → Ordering) → K → List K → Type 0
Below R n ms = Each (λ m. R n m ≡ Less) ms

-- each key is below those behind it
abbrev pub Ascending : {K : Type 0} → (K → K → Ordering) → List K → Type 0
Ascending R [] = Unit {0}
Ascending R (n ∷ ns) = Below R n ns × Ascending R ns

pub sorted_ascends : {K : Type 0} (R : K → K → Ordering) (ks : List K) → IsStrictlySortedBy R ks → Ascending R ks
unfolding IsStrictlySortedBy
sorted_ascends R [] s = tt
sorted_ascends R (k ∷ ks) s = (s.0, sorted_ascends R ks s.1)

-- the key is among these
abbrev pub among : {K : Type 0} → (K → K → Ordering) → K → List K → Bool
among R n ms = list_any (is_at (R n)) ms

-- each of the second keys that is not among the first gives nothing
abbrev pub Covers : {K X : Type 0} → (K → K → Ordering) → (K → List X) → List K → List K → Type 0
Covers R g ns ms = Each (λ m. among R m ns ≡ false → g m ≡ []) ms

pub covers_all : {K X : Type 0} (R : K → K → Ordering) (g : K → List X) (ns : List K) → ((m : K) → among R m ns ≡ false → g m ≡ []) → (ms : List K) → Covers R g ns ms
covers_all R g ns all [] = tt
covers_all R g ns all (m ∷ ms) = (all m, covers_all R g ns all ms)

-- what is not among the keys has no entry
pub none_at : {K X : Type 0} (R : K → K → Ordering) (k : K) (es : List (K × X)) → among R k (keys_of es) ≡ false → lookup (is_at (R k)) es ≡ None
none_at R k [] off = refl
none_at R k (e ∷ es) off = let p = or_parts (is_at (R k) e.0) (among R k (keys_of es)) off in lookup_tail (is_at (R k)) e es p.0 ∙ none_at R k es p.1

-- entries that give what their keys give
pub flat_keys : {K X Y : Type 0} (f : K × X → List Y) (g : K → List Y) (es : List (K × X)) → Each (λ e. f e ≡ g e.0) es → flat_map f es ≡ flat_map g (keys_of es)
flat_keys f g [] each = refl
flat_keys f g (e ∷ es) each = let rest = flat_keys f g es each.1 in λ i. each.0 i ++ rest i

pub below_more : {K : Type 0} {R : K → K → Ordering} → IsTotalOrder R → (n m : K) (ms : List K) → R n m ≡ Less → Below R m ms → Below R n ms
below_more o n m [] less b = tt
below_more o n m (x ∷ xs) less b = (o.trans n m x less b.0, below_more o n m xs less b.1)

module _ {K X : Type 0} {R : K → K → Ordering} (o : IsTotalOrder R) (exact : CmpEqualImpliesEq R) (g : K → List X) where
  nothing_left : (ms : List K) → Covers R g [] ms → flat_map g ms ≡ []
  nothing_left [] c = refl
  nothing_left (m ∷ ms) c = let first : g m ≡ [] = c.0 refl in let rest = nothing_left ms c.1 in λ i. first i ++ rest i

  -- a key below all of these is none of them
  below_none : (n : K) (ms : List K) → Below R n ms → among R n ms ≡ false
  below_none n [] b = refl
  below_none n (m ∷ ms) b = or_from (is_at (R n) m) (among R n ms) (ap is_eq b.0) (below_none n ms b.1)

  turned : (n m : K) → R n m ≡ Less → is_at (R m) n ≡ false
  turned n m less = ap is_eq (o.antisymm m n ∙ ap ordering_reverse less)

  -- and covers none of them
  covers_rest : (n : K) (ns ms : List K) → Below R n ms → Covers R g (n ∷ ns) ms → Covers R g ns ms
  covers_rest n ns [] b c = tt
  covers_rest n ns (m ∷ ms) b c = ((λ off. c.0 (or_from (is_at (R m) n) (among R m ns) (turned n m b.0) off)), covers_rest n ns ms b.1 c.1)

  within : (k : ℕ) (ns ms : List K) → length ns + length ms ≤ k → Ascending R ns → Ascending R ms → Covers R g ns ms → Covers R g ms ns → flat_map g ns ≡ flat_map g ms
  within k [] ms small a b c d = sym (nothing_left ms c)
  within k (n ∷ ns) [] small a b c d = nothing_left (n ∷ ns) d
  within zero (n ∷ ns) (m ∷ ms) small a b c d = absurd (omega arith)
  within (suc k) (n ∷ ns) (m ∷ ms) small a b c d =
      by (within k ns (m ∷ ms) (omega arith) a.1 b) (within k (n ∷ ns) ms (omega arith) a b.1) (within k ns ms (omega arith) a.1 b.1) (R n m) refl
    where
      by : (Covers R g ns (m ∷ ms) → Covers R g (m ∷ ms) ns → flat_map g ns ≡ flat_map g (m ∷ ms)) → (Covers R g (n ∷ ns) ms → Covers R g ms (n ∷ ns) → flat_map g (n ∷ ns) ≡ flat_map g ms)
          → (Covers R g ns ms → Covers R g ms ns → flat_map g ns ≡ flat_map g ms) → (r : Ordering) → R n m ≡ r → flat_map g (n ∷ ns) ≡ flat_map g (m ∷ ms)
      by left right both Less e =
          let below : Below R n (m ∷ ms) = (e, below_more o n m ms e b.0) in
          ap (λ (l : List X). l ++ flat_map g ns) (d.0 (below_none n (m ∷ ms) below)) ∙ left (covers_rest n ns (m ∷ ms) below c) d.1
      by left right both Greater e =
          let back : R m n ≡ Less = o.antisymm m n ∙ ap ordering_reverse e in
          let below : Below R m (n ∷ ns) = (back, below_more o m n ns back a.0) in
          right c.1 (covers_rest m ms (n ∷ ns) below d) ∙ sym (ap (λ (l : List X). l ++ flat_map g ms) (c.0 (below_none m (n ∷ ns) below)))
      by left right both Equal e =
          let same : n ≡ m = exact n m e in
          let under_n : Below R n ms = subst (λ (x : K). Below R x ms) (sym same) b.0 in
          let under_m : Below R m ns = subst (λ (x : K). Below R x ns) same a.0 in
          ap (λ (x : K). g x ++ flat_map g ns) same ∙ ap (λ (l : List X). g m ++ l) (both (covers_rest n ns ms under_n c.1) (covers_rest m ms ns under_m d.1))

  -- two ascending lists, each covered by the other, give the same
  pub same_given : (ns ms : List K) → Ascending R ns → Ascending R ms → Covers R g ns ms → Covers R g ms ns → flat_map g ns ≡ flat_map g ms
  same_given ns ms a b c d = within (length ns + length ms) ns ms (omega arith) a b c d
