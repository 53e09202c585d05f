-- Members of lists, and transactions that are one.
use Rattle.std.proofs.Common.{◌≡◌, inl, inr, ◌∷◌, [], ◌++◌, ◌==◌, ℕ, Bool, true, false, List, refl, sym, ap, subst, ◌∙◌, if◌then◌else◌, map, eqb-true, eq-eqb, cond, ◌||◌}
use Rattle.std.specs.Prelude.{not}
use Rattle.e3_types.specs.Sets.{has_site, others}
use Rattle.e3_types.proofs.SameSites.{same_numbers_refl}
use Rattle.std.specs.List.{flat_map}
use Rattle.std.proofs.lemmas.Bool.{and_parts}
use Rattle.e3_types.specs.declared.transactions.Dir.{Dir}
use Rattle.e3_types.specs.declared.transactions.Dir.TheVariants.{Abort, Commit}
use Rattle.e3_types.specs.declared.transactions.Txn.{Txn}
use Rattle.e3_types.specs.Same.{same_txn, same_numbers, same_dir}
use Rattle.e3_laws.specs.agreement.Logs.{IsIn}
use Rattle.e3_laws.proofs.agreement.Protocol.Reached.{in_parts}

pub in_left : {X : Type 0} (x : X) (xs ys : List X) → IsIn x xs → IsIn x (xs ++ ys)
in_left x [] ys h = absurd h
in_left x (z ∷ zs) ys (inl e) = inl e
in_left x (z ∷ zs) ys (inr h) = inr (in_left x zs ys h)

pub in_right : {X : Type 0} (x : X) (xs ys : List X) → IsIn x ys → IsIn x (xs ++ ys)
in_right x [] ys h = h
in_right x (z ∷ zs) ys h = inr (in_right x zs ys h)

pub in_map : {X Y : Type 0} (f : X → Y) (y : Y) (xs : List X) → IsIn y (map f xs) → (x : X) × IsIn x xs × (y ≡ f x)
in_map f y [] h = absurd h
in_map f y (x ∷ xs) (inl e) = (x, inl refl, e)
in_map f y (x ∷ xs) (inr h) = let t = in_map f y xs h in (t.0, inr t.1, t.2)

pub in_flat_map : {X Y : Type 0} (f : X → List Y) (y : Y) (xs : List X) → IsIn y (flat_map f xs) → (x : X) × IsIn x xs × IsIn y (f x)
in_flat_map f y [] h = absurd h
in_flat_map f y (x ∷ xs) h = elim (in_parts y (f x) (flat_map f xs) h) [ inl a ↦ (x, inl refl, a) | inr b ↦ (let t = in_flat_map f y xs b in (t.0, inr t.1, t.2)) ]

pub same_numbers_are : (xs ys : List ℕ) → same_numbers xs ys ≡ true → xs ≡ ys
same_numbers_are [] [] h = refl
same_numbers_are (x ∷ xs) (y ∷ ys) h =
    let p = and_parts (x == y) (same_numbers xs ys) h in
    let first : x ≡ y = eqb-true x y p.0 in
    let rest : xs ≡ ys = same_numbers_are xs ys p.1 in
    cc
same_numbers_are [] (y ∷ ys) h = cc
same_numbers_are (x ∷ xs) [] h = cc

pub same_dir_is : (d e : Dir) → same_dir d e ≡ true → d ≡ e
same_dir_is Abort Abort h = refl
same_dir_is Commit Commit h = refl
same_dir_is Abort Commit h = cc
same_dir_is Commit Abort h = cc

-- whatever is in a list of one, if it is there at all
pub only_one : {X : Type 0} (P : X → Type 0) (b : Bool) (m : X) → (b ≡ true → P m) → (n : X) → IsIn n (if b then m ∷ [] else []) → P n
only_one P true m h n (inl e) = subst P (sym e) (h refl)
only_one P true m h n (inr k) = absurd k
only_one P false m h n k = absurd k

pub same_from : (t u : Txn) → t ≡ u → same_txn t u ≡ true
same_from t u e = subst (λ (v : Txn). same_txn t v ≡ true) e (rw (eq-eqb t.site t.site refl, eq-eqb t.inc t.inc refl, eq-eqb t.seq t.seq refl) (same_numbers_refl t.sites))

pub has_from_in : (x : ℕ) (xs : List ℕ) → IsIn x xs → has_site xs x ≡ true
has_from_in x [] h = absurd h
has_from_in x (y ∷ ys) (inl e) = let q : (y == x) ≡ true = eq-eqb y x (sym e) in ap (λ b. b || has_site ys x) q
has_from_in x (y ∷ ys) (inr h) = or_right (y == x) (has_site ys x) (has_from_in x ys h)
  where
    or_right : (a b : Bool) → b ≡ true → (a || b) ≡ true
    or_right true b h = refl
    or_right false b h = h

-- a site other than this one is among the others
pub in_others : (x y : ℕ) (all : List ℕ) → IsIn y all → (y ≡ x → ⊥) → IsIn y (others x all)
in_others x y [] h ne = absurd h
in_others x y (z ∷ zs) h ne = go (z == x) refl h (λ k. in_others x y zs k ne)
  where
    go : (b : Bool) → (z == x) ≡ b → IsIn y (z ∷ zs) → (IsIn y zs → IsIn y (others x zs)) → IsIn y (cond (not b) (z ∷ others x zs) (others x zs))
    go true e (inl p) rest = absurd (ne (p ∙ eqb-true z x e))
    go true e (inr k) rest = rest k
    go false e (inl p) rest = inl p
    go false e (inr k) rest = inr (rest k)
