-- Two groups of more than half of the weight share a site.
use Rattle.std.proofs.Common.{◌≡◌, ◌⊎◌, inl, inr, ℕ, ◌+◌, ◌-◌, ◌*◌, ◌<◌, ◌≤◌, List, [], ◌∷◌, refl, sym, ap, ◌∙◌, arith, true, false, cond, eqb, Bool}
use Rattle.std.specs.Prelude.{◌&&◌, ◌||◌, not, slice_index, nat_lt}
use Rattle.std.specs.List.{list_any}
use Rattle.std.proofs.lemmas.Bool.{ltb-true, or_cases, or_parts, eqb-true, eq-eqb, and_parts, cond_both}
use Rattle.std.proofs.lemmas.Grind.{common_steps}
use Rattle.e3_types.specs.Quorums.{weight_of, is_quorum}
use Rattle.e3_types.specs.Sets.{ascends, is_set, has_site, is_within, others}
use Rattle.e3_quorum.proofs.Sums.{weight_cons}

-- another site stays where one is taken away
has_others : (x y : ℕ) (all : List ℕ) → has_site all y ≡ true → (y ≡ x → ⊥) → has_site (others x all) y ≡ true
has_others x y [] h ne = cc
has_others x y (z ∷ zs) h ne = go (eqb z x) refl (or_cases (eqb z y) (has_site zs y) h) (λ k. has_others x y zs k ne)
  where
    go : (b : Bool) → eqb z x ≡ b → (eqb z y ≡ true) ⊎ (has_site zs y ≡ true) → (has_site zs y ≡ true → has_site (others x zs) y ≡ true)
        → has_site (cond (not b) (z ∷ others x zs) (others x zs)) y ≡ true
    go true e (inl p) rest = absurd (ne (sym (eqb-true z y p) ∙ eqb-true z x e))
    go true e (inr k) rest = rest k
    go false e (inl p) rest = ap (λ b. b || has_site (others x zs) y) p
    go false e (inr k) rest = or_true (eqb z y) (has_site (others x zs) y) (rest k)
      where
        or_true : (a b : Bool) → b ≡ true → (a || b) ≡ true
        or_true true b h = refl
        or_true false b h = h

within_others : (x : ℕ) (xs all : List ℕ) → is_within xs all ≡ true → has_site xs x ≡ false → is_within xs (others x all) ≡ true
within_others x [] all w h = refl
within_others x (y ∷ ys) all w h =
    let parts = and_parts (has_site all y) (is_within ys all) w in
    let apart = or_parts (eqb y x) (has_site ys x) h in
    let here : has_site (others x all) y ≡ true = has_others x y all parts.0 (λ e. let q : eqb y x ≡ true = eq-eqb y x e in cc) in
    ap (λ b. b && is_within ys (others x all)) here ∙ within_others x ys all parts.1 apart.1

-- a site that is taken away takes its weight
drop_weight : (weights : List ℕ) (x : ℕ) (all : List ℕ) → weight_of weights (others x all) ≤ weight_of weights all
drop_weight weights x [] = omega arith
drop_weight weights x (z ∷ zs) =
    let rest = drop_weight weights x zs in
    cond_both (not (eqb z x)) (z ∷ others x zs) (others x zs) (λ (l : List ℕ). weight_of weights l ≤ weight_of weights (z ∷ zs))
    (λ q. omega (arith, rest, weight_cons weights zs z, weight_cons weights (others x zs) z))
    (λ q. omega (arith, rest, weight_cons weights zs z))

take_weight : (weights : List ℕ) (x : ℕ) (all : List ℕ) → has_site all x ≡ true → slice_index weights (x - 1) + weight_of weights (others x all) ≤ weight_of weights all
take_weight weights x [] h = cc
take_weight weights x (z ∷ zs) h = go (eqb z x) refl (or_cases (eqb z x) (has_site zs x) h) (λ k. take_weight weights x zs k)
  where
    go : (b : Bool) → eqb z x ≡ b → (eqb z x ≡ true) ⊎ (has_site zs x ≡ true)
        → (has_site zs x ≡ true → slice_index weights (x - 1) + weight_of weights (others x zs) ≤ weight_of weights zs)
        → slice_index weights (x - 1) + weight_of weights (cond (not b) (z ∷ others x zs) (others x zs)) ≤ weight_of weights (z ∷ zs)
    go true e k rest =
        let same : z ≡ x = eqb-true z x e in
        let value : slice_index weights (z - 1) ≡ slice_index weights (x - 1) = ap (λ (s : ℕ). slice_index weights (s - 1)) same in
        omega (arith, drop_weight weights x zs, weight_cons weights zs z, value)
    go false e (inl p) rest = cc
    go false e (inr k) rest = omega (arith, rest k, weight_cons weights zs z, weight_cons weights (others x zs) z)

-- a number below an ascending list is not in it
not_below : (low x : ℕ) (xs : List ℕ) → ascends low xs ≡ true → x ≤ low → has_site xs x ≡ false
not_below low x [] up h = refl
not_below low x (y ∷ ys) up h =
    let parts : (nat_lt low y ≡ true) × (ascends y ys ≡ true) = (grind (arith, common_steps, up), grind (arith, common_steps, up)) in
    let above : low < y = ltb-true low y parts.0 in
    let rest = not_below y x ys parts.1 (omega arith) in
    grind (arith, common_steps, rest)

ascends_rest : (low y : ℕ) (ys : List ℕ) → ascends low (y ∷ ys) ≡ true → ascends y ys ≡ true
ascends_rest low y ys up = grind (arith, common_steps, up)

-- a set within a list has at most its weight
weight_within : (weights : List ℕ) (low : ℕ) (xs all : List ℕ) → ascends low xs ≡ true → is_within xs all ≡ true → weight_of weights xs ≤ weight_of weights all
weight_within weights low [] all d w = omega arith
weight_within weights low (x ∷ xs) all d w =
    let parts = and_parts (has_site all x) (is_within xs all) w in
    let up = ascends_rest low x xs d in
    let rest = weight_within weights x xs (others x all) up (within_others x xs all parts.1 (not_below x x xs up (omega arith))) in
    omega (arith, rest, weight_cons weights xs x, take_weight weights x all parts.0)

share : (weights : List ℕ) (low high : ℕ) (these those all : List ℕ) → ascends low these ≡ true → is_within these all ≡ true → ascends high those ≡ true → is_within those all ≡ true
    → weight_of weights all < weight_of weights these + weight_of weights those → list_any (has_site those) these ≡ true
share weights low high [] those all d w e v more = absurd (omega (arith, weight_within weights high those all e v))
share weights low high (x ∷ xs) those all d w e v more = go (has_site those x) refl
    (λ p. share weights x high xs those (others x all) up (within_others x xs all parts.1 (not_below x x xs up (omega arith))) e (within_others x those all v p)
    (omega (arith, more, weight_cons weights xs x, take_weight weights x all parts.0)))
  where
    parts : (has_site all x ≡ true) × (is_within xs all ≡ true)
    parts = and_parts (has_site all x) (is_within xs all) w

    up : ascends x xs ≡ true
    up = ascends_rest low x xs d

    go : (b : Bool) → has_site those x ≡ b → (has_site those x ≡ false → list_any (has_site those) xs ≡ true) → list_any (has_site those) (x ∷ xs) ≡ true
    go true p rest = ap (λ b. b || list_any (has_site those) xs) p
    go false p rest = ap (λ b. b || list_any (has_site those) xs) p ∙ rest p

-- two quorums of one set share a site
pub quorums_share : (weights a b all : List ℕ) → is_set a ≡ true → is_set b ≡ true → is_within a all ≡ true → is_within b all ≡ true
    → is_quorum weights a all ≡ true → is_quorum weights b all ≡ true → list_any (has_site b) a ≡ true
quorums_share weights a b all d e w v m n =
    let more = ltb-true (weight_of weights all) (2 * weight_of weights a) m in
    let most = ltb-true (weight_of weights all) (2 * weight_of weights b) n in
    share weights 0 0 a b all d w e v (omega (arith, more, most))

within_more : (x : ℕ) (xs all : List ℕ) → is_within xs all ≡ true → is_within xs (x ∷ all) ≡ true
within_more x [] all w = refl
within_more x (y ∷ ys) all w =
    let parts = and_parts (has_site all y) (is_within ys all) w in
    let rest = within_more x ys all parts.1 in
    grind (arith, common_steps, parts, rest)

-- a set is within itself
pub within_itself : (xs : List ℕ) → is_within xs xs ≡ true
within_itself [] = refl
within_itself (x ∷ xs) = let rest = within_more x xs xs (within_itself xs) in grind (arith, common_steps, rest)
