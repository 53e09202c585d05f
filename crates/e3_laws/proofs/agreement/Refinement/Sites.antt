-- Lists of sites: those within others, and those of which none stands twice.
use Rattle.std.proofs.Common.{◌≡◌, ◌⊎◌, inl, inr, ◌∷◌, [], ◌++◌, ◌==◌, ◌&&◌, ℕ, Bool, true, false, List, refl, sym, ap, subst, ◌∙◌, eq-eqb, cond}
use Rattle.std.specs.Prelude.{not}
use Rattle.std.proofs.lemmas.Bool.{and_parts, or_parts, false_from_ne_true}
use Rattle.e3_types.specs.Sets.{has_site, is_within, others}
use Rattle.e3_laws.specs.agreement.Logs.{IsIn}
use Rattle.e3_laws.specs.agreement.Weights.{differ}
use Rattle.e3_laws.proofs.agreement.Protocol.Shares.{in_from_has}
use Rattle.e3_laws.proofs.agreement.Refinement.Lists.{has_from_in}
use Rattle.e3_laws.proofs.agreement.Protocol.Reached.{in_parts}

-- within, said of members
pub within_from : (xs all : List ℕ) → ((x : ℕ) → IsIn x xs → IsIn x all) → is_within xs all ≡ true
within_from [] all h = refl
within_from (x ∷ xs) all h =
    let here : has_site all x ≡ true = has_from_in x all (h x (inl refl)) in
    ap (λ b. b && is_within xs all) here ∙ within_from xs all (λ y k. h y (inr k))

pub within_in : (xs all : List ℕ) → is_within xs all ≡ true → (x : ℕ) → IsIn x xs → IsIn x all
within_in [] all w x h = absurd h
within_in (y ∷ ys) all w x (inl e) = subst (λ z. IsIn z all) (sym e) (in_from_has y all (and_parts (has_site all y) (is_within ys all) w).0)
within_in (y ∷ ys) all w x (inr h) = within_in ys all (and_parts (has_site all y) (is_within ys all) w).1 x h

pub within_trans : (xs ys zs : List ℕ) → is_within xs ys ≡ true → is_within ys zs ≡ true → is_within xs zs ≡ true
within_trans xs ys zs a b = within_from xs zs (λ x h. within_in ys zs b x (within_in xs ys a x h))

pub within_push : (xs all : List ℕ) (x : ℕ) → is_within xs all ≡ true → has_site all x ≡ true → is_within (xs ++ x ∷ []) all ≡ true
within_push xs all x w h = within_from (xs ++ x ∷ []) all (λ y k. go y (in_parts y xs (x ∷ []) k))
  where
    go : (y : ℕ) → IsIn y xs ⊎ IsIn y (x ∷ []) → IsIn y all
    go y (inl k) = within_in xs all w y k
    go y (inr (inl e)) = subst (λ z. IsIn z all) (sym e) (in_from_has x all h)
    go y (inr (inr e)) = absurd e

-- the others are among all, and without this one
pub others_in : (x y : ℕ) (all : List ℕ) → IsIn y (others x all) → IsIn y all × (y ≡ x → ⊥)
others_in x y [] h = absurd h
others_in x y (z ∷ zs) h = go (z == x) refl h (λ k. others_in x y zs k)
  where
    go : (b : Bool) → (z == x) ≡ b → IsIn y (cond (not b) (z ∷ others x zs) (others x zs)) → (IsIn y (others x zs) → IsIn y zs × (y ≡ x → ⊥)) → IsIn y (z ∷ zs) × (y ≡ x → ⊥)
    go true e k rest = let t = rest k in (inr t.0, t.1)
    go false e (inl p) rest = (inl p, λ q. (let same : (z == x) ≡ true = eq-eqb z x (sym p ∙ q) in cc))
    go false e (inr k) rest = let t = rest k in (inr t.0, t.1)

pub within_others : (x : ℕ) (all : List ℕ) → is_within (others x all) all ≡ true
within_others x all = within_from (others x all) all (λ y h. (others_in x y all h).0)

pub not_in : (x : ℕ) (all : List ℕ) → (IsIn x all → ⊥) → has_site all x ≡ false
not_in x all h = false_from_ne_true (has_site all x) (λ q. h (in_from_has x all q))

pub away_others : (x : ℕ) (all : List ℕ) → has_site (others x all) x ≡ false
away_others x all = not_in x (others x all) (λ h. (others_in x x all h).1 refl)

not_true : (b : Bool) → not b ≡ true → b ≡ false
not_true true h = cc
not_true false h = refl

-- a site more that is not among them
pub differ_push : (xs : List ℕ) (x : ℕ) → differ xs ≡ true → not (has_site xs x) ≡ true → differ (xs ++ x ∷ []) ≡ true
differ_push [] x d n = refl
differ_push (y ∷ ys) x d n =
    let p = and_parts (not (has_site ys y)) (differ ys) d in
    let q = or_parts (y == x) (has_site ys x) (not_true (has_site (y ∷ ys) x) n) in
    let fresh : has_site (ys ++ x ∷ []) y ≡ false = not_in y (ys ++ x ∷ []) (λ h. away (in_parts y ys (x ∷ []) h) (not_true (has_site ys y) p.0) q.0) in
    ap (λ b. not b && differ (ys ++ x ∷ [])) fresh ∙ differ_push ys x p.1 (ap not q.1)
  where
    away : IsIn y ys ⊎ IsIn y (x ∷ []) → has_site ys y ≡ false → (y == x) ≡ false → ⊥
    away (inl k) a b = let here : has_site ys y ≡ true = has_from_in y ys k in cc
    away (inr (inl e)) a b = let same : (y == x) ≡ true = eq-eqb y x e in cc
    away (inr (inr e)) a b = e

pub within_self : (xs : List ℕ) → is_within xs xs ≡ true
within_self xs = within_from xs xs (λ x k. k)
