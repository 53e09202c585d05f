-- Two groups of more than half of the weight share a site.
use Rattle.std.proofs.Common.{◌≡◌, ◌⊎◌, inl, inr, ℕ, ◌+◌, ◌-◌, ◌*◌, ◌<◌, ◌≤◌, List, [], ◌∷◌, refl, sym, ap, ◌∙◌, arith, true, false, cond, eqb, Bool}
use Rattle.std.specs.Prelude.{◌&&◌, ◌||◌, not, slice_index}
use Rattle.std.proofs.lemmas.Bool.{ltb-true, or_cases, or_parts, eqb-true, eq-eqb, and_parts, cond_both}
use Rattle.e3_types.specs.declared.transactions.Txn.{Txn}
use Rattle.e3_types.specs.Quorums.{weight_of, is_quorum}
use Rattle.e3_types.specs.Sets.{has_site, is_within, others}
use Rattle.e3_quorum.proofs.Sums.{weight_cons}
use Rattle.e3_laws.specs.agreement.Logs.{IsIn}
use Rattle.e3_laws.specs.agreement.Rules.{Overlaps}
use Rattle.e3_laws.specs.agreement.Weights.{differ, party_of}

abbrev Shared : List ℕ → List ℕ → Type 0
Shared these those = (y : ℕ) × IsIn y these × IsIn y those

pub in_from_has : (y : ℕ) (zs : List ℕ) → has_site zs y ≡ true → IsIn y zs
in_from_has y [] h = cc
in_from_has y (z ∷ zs) h = elim (or_cases (eqb z y) (has_site zs y) h) [ inl e ↦ inl (sym (eqb-true z y e)) | inr t ↦ inr (in_from_has y zs t) ]

-- another site stays where one is taken away
has_others : (x y : ℕ) (all : List ℕ) → has_site all y ≡ true → (y ≡ x → ⊥) → has_site (others x all) y ≡ true
has_others x y [] h ne = cc
has_others x y (z ∷ zs) h ne = go (eqb z x) refl (or_cases (eqb z y) (has_site zs y) h) (λ k. has_others x y zs k ne)
  where
    go : (b : Bool) → eqb z x ≡ b → (eqb z y ≡ true) ⊎ (has_site zs y ≡ true) → (has_site zs y ≡ true → has_site (others x zs) y ≡ true)
        → has_site (cond (not b) (z ∷ others x zs) (others x zs)) y ≡ true
    go true e (inl p) rest = absurd (ne (sym (eqb-true z y p) ∙ eqb-true z x e))
    go true e (inr k) rest = rest k
    go false e (inl p) rest = ap (λ b. b || has_site (others x zs) y) p
    go false e (inr k) rest = or_true (eqb z y) (has_site (others x zs) y) (rest k)
      where
        or_true : (a b : Bool) → b ≡ true → (a || b) ≡ true
        or_true true b h = refl
        or_true false b h = h

within_others : (x : ℕ) (xs all : List ℕ) → is_within xs all ≡ true → has_site xs x ≡ false → is_within xs (others x all) ≡ true
within_others x [] all w h = refl
within_others x (y ∷ ys) all w h =
    let parts = and_parts (has_site all y) (is_within ys all) w in
    let apart = or_parts (eqb y x) (has_site ys x) h in
    let here : has_site (others x all) y ≡ true = has_others x y all parts.0 (λ e. let q : eqb y x ≡ true = eq-eqb y x e in cc) in
    ap (λ b. b && is_within ys (others x all)) here ∙ within_others x ys all parts.1 apart.1

-- a site that is taken away takes its weight
drop_weight : (weights : List ℕ) (x : ℕ) (all : List ℕ) → weight_of weights (others x all) ≤ weight_of weights all
drop_weight weights x [] = omega arith
drop_weight weights x (z ∷ zs) =
    let rest = drop_weight weights x zs in
    cond_both (not (eqb z x)) (z ∷ others x zs) (others x zs) (λ (l : List ℕ). weight_of weights l ≤ weight_of weights (z ∷ zs))
    (λ q. omega (arith, rest, weight_cons weights zs z, weight_cons weights (others x zs) z))
    (λ q. omega (arith, rest, weight_cons weights zs z))

take_weight : (weights : List ℕ) (x : ℕ) (all : List ℕ) → has_site all x ≡ true → slice_index weights (x - 1) + weight_of weights (others x all) ≤ weight_of weights all
take_weight weights x [] h = cc
take_weight weights x (z ∷ zs) h = go (eqb z x) refl (or_cases (eqb z x) (has_site zs x) h) (λ k. take_weight weights x zs k)
  where
    go : (b : Bool) → eqb z x ≡ b → (eqb z x ≡ true) ⊎ (has_site zs x ≡ true)
        → (has_site zs x ≡ true → slice_index weights (x - 1) + weight_of weights (others x zs) ≤ weight_of weights zs)
        → slice_index weights (x - 1) + weight_of weights (cond (not b) (z ∷ others x zs) (others x zs)) ≤ weight_of weights (z ∷ zs)
    go true e k rest =
        let same : z ≡ x = eqb-true z x e in
        let value : slice_index weights (z - 1) ≡ slice_index weights (x - 1) = ap (λ (s : ℕ). slice_index weights (s - 1)) same in
        omega (arith, drop_weight weights x zs, weight_cons weights zs z, value)
    go false e (inl p) rest = cc
    go false e (inr k) rest = omega (arith, rest k, weight_cons weights zs z, weight_cons weights (others x zs) z)

apart : (x : ℕ) (xs : List ℕ) → differ (x ∷ xs) ≡ true → has_site xs x ≡ false
apart x xs d = go (has_site xs x) (and_parts (not (has_site xs x)) (differ xs) d).0
  where
    go : (b : Bool) → not b ≡ true → b ≡ false
    go false h = refl
    go true h = cc

-- different sites of a list have at most its weight
weight_within : (weights xs all : List ℕ) → differ xs ≡ true → is_within xs all ≡ true → weight_of weights xs ≤ weight_of weights all
weight_within weights [] all d w = omega arith
weight_within weights (x ∷ xs) all d w =
    let parts = and_parts (has_site all x) (is_within xs all) w in
    let rest = weight_within weights xs (others x all) (and_parts (not (has_site xs x)) (differ xs) d).1 (within_others x xs all parts.1 (apart x xs d)) in
    omega (arith, rest, weight_cons weights xs x, take_weight weights x all parts.0)

shared_site : (weights these those all : List ℕ) → differ these ≡ true → is_within these all ≡ true → differ those ≡ true → is_within those all ≡ true
    → weight_of weights all < weight_of weights these + weight_of weights those → Shared these those
shared_site weights [] those all d w e v more = absurd (omega (arith, weight_within weights those all e v))
shared_site weights (x ∷ xs) those all d w e v more = go (has_site those x) refl
    (λ p. shared_site weights xs those (others x all) (and_parts (not (has_site xs x)) (differ xs) d).1 (within_others x xs all parts.1 (apart x xs d)) e (within_others x those all v p)
    (omega (arith, more, weight_cons weights xs x, take_weight weights x all parts.0)))
  where
    parts : (has_site all x ≡ true) × (is_within xs all ≡ true)
    parts = and_parts (has_site all x) (is_within xs all) w

    go : (b : Bool) → has_site those x ≡ b → (has_site those x ≡ false → Shared xs those) → Shared (x ∷ xs) those
    go true p rest = (x, inl refl, in_from_has x those p)
    go false p rest = let s = rest p in (s.0, inr s.1, s.2)

pub majorities_overlap : (weights : List ℕ) (t : Txn) → Overlaps (party_of weights t)
majorities_overlap weights t these those a b =
    let p = and_parts (is_within these t.sites) (differ these && is_quorum weights these t.sites) a in
    let q = and_parts (is_within those t.sites) (differ those && is_quorum weights those t.sites) b in
    let m = and_parts (differ these) (is_quorum weights these t.sites) p.1 in
    let n = and_parts (differ those) (is_quorum weights those t.sites) q.1 in
    let more = ltb-true (weight_of weights t.sites) (2 * weight_of weights these) m.1 in
    let most = ltb-true (weight_of weights t.sites) (2 * weight_of weights those) n.1 in
    shared_site weights these those t.sites m.0 p.0 n.0 q.0 (omega (arith, more, most))
