-- Two ascending lists of names, which differ in names alone that give nothing, give the same.
use Rattle.std.specs.Prelude.{◌≡◌, ◌+◌, ◌≤◌, ◌++◌, ◌∷◌, [], ◌⊎◌, ℕ, zero, suc, List, length}
use Rattle.std.specs.List.{flat_map}
use Rattle.std.specs.Ordering.{nat_cmp, ordering_reverse}
use Rattle.std.specs.declared.cmp.Ordering.{Ordering}
use Rattle.std.specs.declared.cmp.Ordering.TheVariants.{Less, Equal, Greater}
use Rattle.std.specs.Cmp.Lexicographic.{slice_cmp, nat_list_cmp_total}
use Rattle.std.proofs.Common.{refl, ap, sym, subst, ◌∙◌, inl, inr, arith}
use Rattle.std.proofs.lemmas.Cmp.{tied_itself}
use Rattle.std.proofs.lemmas.Map.Lookups.{exact_bytes}

abbrev pub cmp : List ℕ → List ℕ → Ordering
cmp = slice_cmp nat_cmp

-- the name is below all of these
abbrev pub Below : List ℕ → List (List ℕ) → Type 0
Below n [] = Unit {0}
Below n (m ∷ ms) = (cmp n m ≡ Less) × Below n ms

abbrev pub Ascending : List (List ℕ) → Type 0
Ascending [] = Unit {0}
Ascending (n ∷ ns) = Below n ns × Ascending ns

abbrev pub IsOne : List ℕ → List (List ℕ) → Type 0
IsOne n [] = ⊥
IsOne n (m ∷ ms) = (n ≡ m) ⊎ IsOne n ms

never_less : (n : List ℕ) → cmp n n ≡ Less → ⊥
never_less n e = let t = tied_itself nat_list_cmp_total n in cc

-- a name below all is none of them
below_not : (n : List ℕ) (ms : List (List ℕ)) → Below n ms → IsOne n ms → ⊥
below_not n [] b o = o
below_not n (m ∷ ms) b (inl e) = let P : List ℕ → Type 0 = λ x. cmp n x ≡ Less in never_less n (subst P (sym e) b.0)
below_not n (m ∷ ms) b (inr o) = below_not n ms b.1 o

pub below_more : (n m : List ℕ) (ms : List (List ℕ)) → cmp n m ≡ Less → Below m ms → Below n ms
below_more n m [] e b = tt
below_more n m (x ∷ xs) e b = (nat_list_cmp_total.trans n m x e b.0, below_more n m xs e b.1)

pub turned : (n m : List ℕ) → cmp n m ≡ Greater → cmp m n ≡ Less
turned n m e = let t = nat_list_cmp_total.antisymm m n in t ∙ ap ordering_reverse e

module _ {X : Type 0} (g : List ℕ → List X) where
  -- each of these is among the others, or gives nothing
  abbrev pub Covered : List (List ℕ) → List (List ℕ) → Type 0
  Covered ns [] = Unit {0}
  Covered ns (m ∷ ms) = (IsOne m ns ⊎ (g m ≡ [])) × Covered ns ms

  nothing_left : (ms : List (List ℕ)) → Covered [] ms → flat_map g ms ≡ []
  nothing_left [] c = refl
  nothing_left (m ∷ ms) c = elim c.0 [ inl o ↦ absurd o | inr e ↦ (let rest = nothing_left ms c.1 in rw (e, rest) refl) ]

  -- a name below all of these covers none of them
  covered_rest : (n : List ℕ) (ns ms : List (List ℕ)) → Below n ms → Covered (n ∷ ns) ms → Covered ns ms
  covered_rest n ns [] b c = tt
  covered_rest n ns (m ∷ ms) b c = (elim c.0 [ inl o ↦ by o | inr e ↦ inr e ], covered_rest n ns ms b.1 c.1)
    where
      by : IsOne m (n ∷ ns) → IsOne m ns ⊎ (g m ≡ [])
      by (inl e) = let P : List ℕ → Type 0 = λ x. cmp n x ≡ Less in absurd (never_less n (subst P e b.0))
      by (inr o) = inl o

  -- a name that is none of these gives nothing
  none_gives : (n : List ℕ) (ms : List (List ℕ)) → Below n ms → IsOne n ms ⊎ (g n ≡ []) → g n ≡ []
  none_gives n ms b (inl o) = absurd (below_not n ms b o)
  none_gives n ms b (inr e) = e

  within : (k : ℕ) (ns ms : List (List ℕ)) → length ns + length ms ≤ k → Ascending ns → Ascending ms → Covered ns ms → Covered ms ns → flat_map g ns ≡ flat_map g ms
  within k [] ms small a b c d = sym (nothing_left ms c)
  within k (n ∷ ns) [] small a b c d = nothing_left (n ∷ ns) d
  within zero (n ∷ ns) (m ∷ ms) small a b c d = absurd (omega arith)
  within (suc k) (n ∷ ns) (m ∷ ms) small a b c d =
      by (within k ns (m ∷ ms) (omega arith) a.1 b) (within k (n ∷ ns) ms (omega arith) a b.1) (within k ns ms (omega arith) a.1 b.1) (cmp n m) refl
    where
      by : (Covered ns (m ∷ ms) → Covered (m ∷ ms) ns → flat_map g ns ≡ flat_map g (m ∷ ms)) → (Covered (n ∷ ns) ms → Covered ms (n ∷ ns) → flat_map g (n ∷ ns) ≡ flat_map g ms)
          → (Covered ns ms → Covered ms ns → flat_map g ns ≡ flat_map g ms) → (o : Ordering) → cmp n m ≡ o → flat_map g (n ∷ ns) ≡ flat_map g (m ∷ ms)
      by left right both Less e =
          let below : Below n (m ∷ ms) = (e, below_more n m ms e b.0) in
          let gone : g n ≡ [] = none_gives n (m ∷ ms) below d.0 in
          ap (λ (l : List X). l ++ flat_map g ns) gone ∙ left (covered_rest n ns (m ∷ ms) below c) d.1
      by left right both Greater e =
          let back = turned n m e in
          let below : Below m (n ∷ ns) = (back, below_more m n ns back a.0) in
          let gone : g m ≡ [] = none_gives m (n ∷ ns) below c.0 in
          right c.1 (covered_rest m ms (n ∷ ns) below d) ∙ sym (ap (λ (l : List X). l ++ flat_map g ms) gone)
      by left right both Equal e =
          let same : n ≡ m = exact_bytes n m e in
          let under_n : Below n ms = (let P : List ℕ → Type 0 = λ x. Below x ms in subst P (sym same) b.0) in
          let under_m : Below m ns = (let P : List ℕ → Type 0 = λ x. Below x ns in subst P same a.0) in
          ap (λ (x : List ℕ). g x ++ flat_map g ns) same ∙ ap (λ (l : List X). g m ++ l) (both (covered_rest n ns ms under_n c.1) (covered_rest m ms ns under_m d.1))

  -- two ascending lists, each covered by the other, give the same
  pub same_given : (ns ms : List (List ℕ)) → Ascending ns → Ascending ms → Covered ns ms → Covered ms ns → flat_map g ns ≡ flat_map g ms
  same_given ns ms a b c d = within (length ns + length ms) ns ms (omega arith) a b c d
