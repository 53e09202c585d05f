-- Members of a group, each once, are no more than the group has.
use Rattle.std.proofs.Common.{◌≡◌, ◌⊎◌, inl, inr, ℕ, suc, ◌+◌, ◌≤◌, Bool, true, false, List, [], ◌∷◌, ◌++◌, length, map, refl, ap, sym, ◌∙◌, arith, eqb, cond}
use Rattle.std.specs.Prelude.{◌==◌, ◌<◌, ◌&&◌, ◌||◌, ◌↔◌, not}
use Rattle.std.specs.List.{list_any}
use Rattle.std.proofs.lemmas.Grind.{common_steps}
use Rattle.std.proofs.lemmas.Bool.{or_cases, or_parts, eqb-true, eq-eqb, and_parts}
use Rattle.std.proofs.lemmas.List.Folds.{list_any-append}
use Rattle.e3_types.specs.Sets.{ascends, has_site, is_within, others}
use Rattle.e3_elect.specs.Calling.{IsWhole, are_members, are_behind_elector}

-- another site stays where one is taken away
has_others : (x y : ℕ) (all : List ℕ) → has_site all y ≡ true → (y ≡ x → ⊥) → has_site (others x all) y ≡ true
has_others x y [] h ne = cc
has_others x y (z ∷ zs) h ne = go (eqb z x) refl (or_cases (eqb z y) (has_site zs y) h) (λ k. has_others x y zs k ne)
  where
    go : (b : Bool) → eqb z x ≡ b → (eqb z y ≡ true) ⊎ (has_site zs y ≡ true) → (has_site zs y ≡ true → has_site (others x zs) y ≡ true)
        → has_site (cond (not b) (z ∷ others x zs) (others x zs)) y ≡ true
    go true e (inl p) rest = absurd (ne (sym (eqb-true z y p) ∙ eqb-true z x e))
    go true e (inr k) rest = rest k
    go false e (inl p) rest = ap (λ b. b || has_site (others x zs) y) p
    go false e (inr k) rest = or_true (eqb z y) (has_site (others x zs) y) (rest k)
      where
        or_true : (a b : Bool) → b ≡ true → (a || b) ≡ true
        or_true true b h = refl
        or_true false b h = h

others_few : (x : ℕ) (all : List ℕ) → length (others x all) ≤ length all
others_few x [] = omega arith
others_few x (z ∷ zs) = by (eqb z x) refl (others_few x zs)
  where
    by : (b : Bool) → eqb z x ≡ b → length (others x zs) ≤ length zs → length (others x (z ∷ zs)) ≤ length (z ∷ zs)
    by true e ih = rw e (omega (arith, ih))
    by false e ih = rw e (omega (arith, ih))

-- a list without one that it has is shorter
one_fewer : (x : ℕ) (all : List ℕ) → has_site all x ≡ true → length (others x all) + 1 ≤ length all
one_fewer x [] h = cc
one_fewer x (z ∷ zs) h = by (eqb z x) refl (or_cases (eqb z x) (has_site zs x) h) (λ k. one_fewer x zs k)
  where
    by : (b : Bool) → eqb z x ≡ b → (eqb z x ≡ true) ⊎ (has_site zs x ≡ true) → (has_site zs x ≡ true → length (others x zs) + 1 ≤ length zs) → length (others x (z ∷ zs)) + 1 ≤ length (z ∷ zs)
    by true e k ih = rw e (omega (arith, others_few x zs))
    by false e (inl p) ih = cc
    by false e (inr k) ih = rw e (omega (arith, ih k))

members_others : (x : ℕ) (group xs : List ℕ) → are_members group xs ≡ true → has_site xs x ≡ false → are_members (others x group) xs ≡ true
members_others x group [] m h = refl
members_others x group (y ∷ ys) m h =
    let p = and_parts (has_site group y) (not (has_site ys y) && are_members group ys) m in
    let q = and_parts (not (has_site ys y)) (are_members group ys) p.1 in
    let apart = or_parts (eqb y x) (has_site ys x) h in
    let here : has_site (others x group) y ≡ true = has_others x y group p.0 (λ e. let t : eqb y x ≡ true = eq-eqb y x e in cc) in
    let rest : are_members (others x group) ys ≡ true = members_others x group ys q.1 apart.1 in
    let alone : not (has_site ys y) ≡ true = q.0 in
    grind (arith, common_steps, here, rest, alone)

-- there are no more members than the group has
few_members : (group xs : List ℕ) → are_members group xs ≡ true → length xs ≤ length group
few_members group [] m = omega arith
few_members group (y ∷ ys) m =
    let p = and_parts (has_site group y) (not (has_site ys y) && are_members group ys) m in
    let q = and_parts (not (has_site ys y)) (are_members group ys) p.1 in
    let gone : has_site ys y ≡ false = by (has_site ys y) q.0 in
    let rest = few_members (others y group) ys (members_others y group ys q.1 gone) in
    let less = one_fewer y group p.0 in
    omega (arith, rest, less)
  where
    by : (b : Bool) → not b ≡ true → b ≡ false
    by true e = cc
    by false e = refl

-- one more member that is none of them yet
pub more_members : (group xs : List ℕ) (x : ℕ) → are_members group xs ≡ true → has_site group x ≡ true → has_site xs x ≡ false → are_members group (xs ++ x ∷ []) ≡ true
more_members group [] x m g h = grind (arith, common_steps, g)
more_members group (y ∷ ys) x m g h =
    let p = and_parts (has_site group y) (not (has_site ys y) && are_members group ys) m in
    let q = and_parts (not (has_site ys y)) (are_members group ys) p.1 in
    let apart = or_parts (eqb y x) (has_site ys x) h in
    let rest : are_members group (ys ++ x ∷ []) ≡ true = more_members group ys x q.1 g apart.1 in
    let turned : (x == y) ≡ false = (let e = apart.0 in grind (arith, common_steps, e)) in
    let split : has_site (ys ++ x ∷ []) y ≡ (has_site ys y || has_site (x ∷ []) y) = list_any-append (λ z. z == y) ys (x ∷ []) in
    let alone : not (has_site ys y) ≡ true = q.0 in
    let here : has_site group y ≡ true = p.0 in
    grind (arith, common_steps, here, rest, alone, turned, split)

-- so there is room for one that is none of them yet
pub room_for : (group xs : List ℕ) (x : ℕ) → are_members group xs ≡ true → has_site group x ≡ true → has_site xs x ≡ false → length xs + 1 ≤ length group
room_for group xs x m g h =
    let n = few_members group (xs ++ x ∷ []) (more_members group xs x m g h) in
    grind (arith, common_steps, n)

any_mapped : {X : Type 0} (f : X → ℕ) (xs : List X) (s : ℕ) → has_site (map f xs) s ≡ list_any (λ x. f x == s) xs
any_mapped f [] s = refl
any_mapped f (x ∷ xs) s = ap (λ b. (f x == s) || b) (any_mapped f xs s)

mapped_more : {X : Type 0} (f : X → ℕ) (xs : List X) (x : X) → map f (xs ++ x ∷ []) ≡ map f xs ++ f x ∷ []
mapped_more f [] x = refl
mapped_more f (y ∷ ys) x = ap (λ (l : List ℕ). f y ∷ l) (mapped_more f ys x)

pub mapped_length : {X : Type 0} (f : X → ℕ) (xs : List X) → length (map f xs) ≡ length xs
mapped_length f [] = refl
mapped_length f (x ∷ xs) = ap (λ n. suc n) (mapped_length f xs)

-- one that comes from a new member: all are members still
comes_from_member : {X : Type 0} (f : X → ℕ) (group : List ℕ) (xs : List X) (x : X)
    → are_members group (map f xs) ≡ true → has_site group (f x) ≡ true → list_any (λ y. f y == f x) xs ≡ false
    → are_members group (map f (xs ++ x ∷ [])) ≡ true
comes_from_member f group xs x m g h =
    ap (λ (l : List ℕ). are_members group l) (mapped_more f xs x) ∙ more_members group (map f xs) (f x) m g (any_mapped f xs (f x) ∙ h)

-- and there was room for it
has_room : {X : Type 0} (f : X → ℕ) (group : List ℕ) (xs : List X) (s : ℕ)
    → are_members group (map f xs) ≡ true → has_site group s ≡ true → list_any (λ y. f y == s) xs ≡ false
    → length xs + 1 ≤ length group
has_room f group xs s m g h =
    let n = room_for group (map f xs) s m g (any_mapped f xs s ∙ h) in
    let l = mapped_length f xs in
    omega (arith, n, l)

-- behind the elector, one that comes from a new member: all of them are members still
pub comes_behind_own : {X : Type 0} (f : X → ℕ) (group : List ℕ) (xs : List X) (x : X)
    → are_behind_elector group (map f xs) ≡ true → has_site group (f x) ≡ true → list_any (λ y. f y == f x) xs ≡ false
    → are_behind_elector group (map f (xs ++ x ∷ [])) ≡ true
comes_behind_own f group [] x m g h = refl
comes_behind_own f group (y ∷ ys) x m g h =
    let apart = or_parts (f y == f x) (list_any (λ z. f z == f x) ys) h in
    let was = and_parts (not (has_site (map f ys) (f y))) (are_members group (map f ys)) m in
    let more : are_members group (map f (ys ++ x ∷ [])) ≡ true = comes_from_member f group ys x was.1 g apart.1 in
    let turned : (f x == f y) ≡ false = (let e = apart.0 in grind (arith, common_steps, e)) in
    let split : has_site (map f (ys ++ x ∷ [])) (f y) ≡ (has_site (map f ys) (f y) || has_site (f x ∷ []) (f y)) =
    ap (λ (l : List ℕ). has_site l (f y)) (mapped_more f ys x) ∙ list_any-append (λ z. z == f y) (map f ys) (f x ∷ []) in
    let alone : not (has_site (map f ys) (f y)) ≡ true = was.0 in
    grind (arith, common_steps, more, turned, split, alone)

-- and there was room for it, with the elector
pub has_room_behind_own : {X : Type 0} (f : X → ℕ) (group : List ℕ) (xs : List X) (s : ℕ)
    → are_behind_elector group (map f xs) ≡ true → has_site group s ≡ true → list_any (λ y. f y == s) xs ≡ false
    → length xs ≤ length group
has_room_behind_own f group [] s m g h = omega arith
has_room_behind_own f group (y ∷ ys) s m g h =
    let was = and_parts (not (has_site (map f ys) (f y))) (are_members group (map f ys)) m in
    let n = has_room f group ys s was.1 g (or_parts (f y == s) (list_any (λ z. f z == s) ys) h).1 in
    omega (arith, n)

-- where all that came are of the group, they are members of it, each once
all_members : (group came : List ℕ) → are_behind_elector group came ≡ true → is_within came group ≡ true → are_members group came ≡ true
all_members group [] m w = refl
all_members group (own ∷ sites) m w =
    let p = and_parts (not (has_site sites own)) (are_members group sites) m in
    let q = and_parts (has_site group own) (is_within sites group) w in
    let here : has_site group own ≡ true = q.0 in
    let alone : not (has_site sites own) ≡ true = p.0 in
    let rest : are_members group sites ≡ true = p.1 in
    grind (arith, common_steps, here, alone, rest)

-- as many members as the group has are the whole group
each_came : (group came some : List ℕ) → are_members group came ≡ true → length came ≡ length group → is_within some group ≡ true → is_within some came ≡ true
each_came group came [] m n w = refl
each_came group came (s ∷ ss) m n w =
    let q = and_parts (has_site group s) (is_within ss group) w in
    by (has_site came s) refl q.0 (each_came group came ss m n q.1)
  where
    by : (b : Bool) → has_site came s ≡ b → has_site group s ≡ true → is_within ss came ≡ true → is_within (s ∷ ss) came ≡ true
    by true e g rest = grind (arith, common_steps, e, rest)
    by false e g rest = absurd (let more = room_for group came s m g e in omega (arith, n, more))

-- the sites of a set stand in it once, above its lowest bound
above : (low : ℕ) (sites : List ℕ) (s : ℕ) → ascends low sites ≡ true → s ≤ low → has_site sites s ≡ false
above low [] s up small = refl
above low (x ∷ xs) s up small =
    let less : low < x = grind (arith, common_steps, up) in
    let rest : ascends x xs ≡ true = grind (arith, common_steps, up) in
    let later : has_site xs s ≡ false = above x xs s rest (omega (arith, less, small)) in
    let other : (x == s) ≡ false = grind (arith, common_steps, less, small) in
    grind (arith, common_steps, later, other)

-- a set whose sites all came is among those that came, each once
set_members : (low : ℕ) (came group : List ℕ) → ascends low group ≡ true → is_within group came ≡ true → are_members came group ≡ true
set_members low came [] up w = refl
set_members low came (s ∷ ss) up w =
    let q = and_parts (has_site came s) (is_within ss came) w in
    let next : ascends s ss ≡ true = grind (arith, common_steps, up) in
    let rest : are_members came ss ≡ true = set_members s came ss next q.1 in
    let alone : has_site ss s ≡ false = above s ss s next (omega arith) in
    let here : has_site came s ≡ true = q.0 in
    grind (arith, common_steps, here, alone, rest)

-- so, where all that came are of the group, as many as the group has sites are just the whole group
pub whole : (group came : List ℕ) → ascends 0 group ≡ true → are_behind_elector group came ≡ true → is_within came group ≡ true
    → (length came ≡ length group) ↔ (is_within group came ≡ true)
whole group came up m w =
    let all = all_members group came m w in (
      λ n. each_came group came group all n (within_itself group group (λ s h. h)),
      λ each. (let few = few_members group came all in let many = few_members came group (set_members 0 came group up each) in omega (arith, few, many)),
    )
  where
    within_itself : (some all : List ℕ) → ((s : ℕ) → has_site some s ≡ true → has_site all s ≡ true) → is_within some all ≡ true
    within_itself [] all sub = refl
    within_itself (x ∷ xs) all sub =
        let here : has_site all x ≡ true = sub x (let itself : (x == x) ≡ true = eq-eqb x x refl in grind (arith, common_steps, itself)) in
        let rest : is_within xs all ≡ true = within_itself xs all (λ s h. sub s (grind (arith, common_steps, h))) in
        grind (arith, common_steps, here, rest)

-- the test of two counts says so
pub whole_test : (group came : List ℕ) (n k : ℕ) → n ≡ length came → k ≡ length group → ascends 0 group ≡ true → are_behind_elector group came ≡ true → IsWhole group came (n == k)
whole_test group came n k a b up m w =
    let both = whole group came up m w in (
      λ e. both.0 (sym a ∙ eqb-true n k e ∙ b),
      λ each. (let same : n ≡ k = a ∙ both.1 each ∙ sym b in eq-eqb n k same),
    )
