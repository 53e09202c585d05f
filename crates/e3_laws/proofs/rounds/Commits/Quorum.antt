-- A site and others that are all the sites of a transaction are a quorum of it.
use Rattle.std.proofs.Common.{◌≡◌, ◌==◌, ◌&&◌, ◌||◌, ◌+◌, ◌-◌, ◌*◌, ◌≤◌, ◌<◌, ◌∷◌, [], ℕ, Bool, true, false, List, refl, ap, sym, ◌∙◌, eqb-true, true≢false, arith, nat_lt, nat_le, slice_index, lt-ltb}
use Rattle.std.proofs.lemmas.Bool.{and_parts}
use Rattle.std.proofs.lemmas.Grind.{common_steps}
use Rattle.e3_types.specs.Quorums.{is_quorum, weight_of}
use Rattle.e3_types.specs.Sets.{ascends, has_site, is_set, others}
use Rattle.e3_quorum.proofs.Sums.{weight_cons}
use Rattle.e3_world.proofs.Turns.{self}
use Rattle.e3_laws.proofs.rounds.Commits.Packets.{total}

-- the sum over a list without a site, and with it
total_without : (f : ℕ → ℕ) (s : ℕ) (xs : List ℕ) → has_site xs s ≡ true → f s + total f (others s xs) ≤ total f xs
total_without f s [] has = absurd cc
total_without f s (x ∷ xs) has = by (λ more. total_without f s xs more) (x == s) refl has
  where
    less : (xs : List ℕ) → total f (others s xs) ≤ total f xs
    less [] = omega arith
    less (x ∷ xs) = choose (less xs) (x == s) refl
      where
        choose : total f (others s xs) ≤ total f xs → (b : Bool) → (x == s) ≡ b → total f (others s (x ∷ xs)) ≤ total f (x ∷ xs)
        choose rest true is = rw is (omega (arith, rest))
        choose rest false is = rw is (omega (arith, rest))

    by : (has_site xs s ≡ true → f s + total f (others s xs) ≤ total f xs) → (b : Bool) → (x == s) ≡ b → ((x == s) || has_site xs s) ≡ true → f s + total f (others s (x ∷ xs)) ≤ total f (x ∷ xs)
    by more true is has =
        let same : f x ≡ f s = ap f (eqb-true x s is) in
        let rest : total f (others s xs) ≤ total f xs = less xs in
        rw is (omega (arith, same, rest))
    by more false is has =
        let rest : f s + total f (others s xs) ≤ total f xs = more (ap (λ b. b || has_site xs s) (sym is) ∙ has) in
        rw is (omega (arith, rest))

has_without : (s y : ℕ) (xs : List ℕ) → (s == y) ≡ false → has_site xs y ≡ true → has_site (others s xs) y ≡ true
has_without s y [] apart has = absurd cc
has_without s y (x ∷ xs) apart has = by (λ more. has_without s y xs apart more) (x == y) refl (x == s) refl has
  where
    by : (has_site xs y ≡ true → has_site (others s xs) y ≡ true) → (b : Bool) → (x == y) ≡ b → (c : Bool) → (x == s) ≡ c → ((x == y) || has_site xs y) ≡ true → has_site (others s (x ∷ xs)) y ≡ true
    by more true is true at has = absurd (true≢false (sym (ap (λ n. n == y) (sym (eqb-true x s at)) ∙ is) ∙ apart))
    by more true is false at has = rw at (rw is refl)
    by more false is true at has = rw at (more (ap (λ b. b || has_site xs y) (sym is) ∙ has))
    by more false is false at has = rw at (rw is (more (ap (λ b. b || has_site xs y) (sym is) ∙ has)))

above : (low : ℕ) (xs : List ℕ) → ascends low xs ≡ true → (y : ℕ) → has_site xs y ≡ true → low < y
above low [] up y has = absurd cc
above low (x ∷ xs) up y has = by (λ more. above x xs rest y more) (x == y) refl has
  where
    rest : ascends x xs ≡ true
    rest = (and_parts (nat_lt low x && nat_le x 64) (ascends x xs) up).1

    first : low < x
    first = let is : nat_lt low x ≡ true = (and_parts (nat_lt low x) (nat_le x 64) (and_parts (nat_lt low x && nat_le x 64) (ascends x xs) up).0).0 in grind (arith, common_steps, is)

    by : (has_site xs y ≡ true → x < y) → (b : Bool) → (x == y) ≡ b → ((x == y) || has_site xs y) ≡ true → low < y
    by more true is has = let same : x ≡ y = eqb-true x y is in omega (arith, first, same)
    by more false is has = let less : x < y = more (ap (λ b. b || has_site xs y) (sym is) ∙ has) in omega (arith, first, less)

-- a set of sites that are all among others weighs no more
total_within : (f : ℕ → ℕ) (low : ℕ) (xs ys : List ℕ) → ascends low xs ≡ true → ((y : ℕ) → has_site xs y ≡ true → has_site ys y ≡ true) → total f xs ≤ total f ys
total_within f low [] ys up within = omega arith
total_within f low (x ∷ xs) ys up within =
    let ascends_rest : ascends x xs ≡ true = (and_parts (nat_lt low x && nat_le x 64) (ascends x xs) up).1 in
    let with : f x + total f (others x ys) ≤ total f ys = total_without f x ys (within x (rw (self x) refl)) in
    let rest : total f xs ≤ total f (others x ys) = total_within f x xs (others x ys) ascends_rest (λ y has. has_without x y ys (apart ascends_rest y has) (within y (in_rest (x == y) (has_site xs y) has))) in
    omega (arith, with, rest)
  where
    in_rest : (a b : Bool) → b ≡ true → (a || b) ≡ true
    in_rest true b is = refl
    in_rest false b is = is

    apart : ascends x xs ≡ true → (y : ℕ) → has_site xs y ≡ true → (x == y) ≡ false
    apart up y has = by (x == y) refl
      where
        by : (b : Bool) → (x == y) ≡ b → (x == y) ≡ false
        by true is = absurd (let less : x < y = above x xs up y has in let same : x ≡ y = eqb-true x y is in let clash : ⊥ = omega (arith, less, same) in clash)
        by false is = is

weight_total : (weights xs : List ℕ) → weight_of weights xs ≡ total (λ s. slice_index weights (s - 1)) xs
weight_total weights [] = refl
weight_total weights (x ∷ xs) = weight_cons weights xs x ∙ ap (λ n. slice_index weights (x - 1) + n) (weight_total weights xs)

pub covers : (weights sites members : List ℕ) → is_set sites ≡ true → 1 ≤ weight_of weights sites → ((y : ℕ) → has_site sites y ≡ true → has_site members y ≡ true) → is_quorum weights members sites ≡ true
covers weights sites members set some within =
    let less : total (λ s. slice_index weights (s - 1)) sites ≤ total (λ s. slice_index weights (s - 1)) members = total_within (λ s. slice_index weights (s - 1)) 0 sites members set within in
    let one : weight_of weights sites ≡ total (λ s. slice_index weights (s - 1)) sites = weight_total weights sites in
    let two : weight_of weights members ≡ total (λ s. slice_index weights (s - 1)) members = weight_total weights members in
    lt-ltb (weight_of weights sites) (2 * weight_of weights members) (omega (arith, less, one, two, some))
