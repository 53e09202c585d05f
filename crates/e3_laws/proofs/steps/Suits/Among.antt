-- Sites of a transaction, and equal transactions.
use Rattle.std.proofs.Common.{◌≡◌, ◌==◌, ◌||◌, ◌∷◌, [], ℕ, Bool, true, false, not, List, refl, subst, eqb-true, eq-eqb, filter, if◌then◌else◌}
use Rattle.std.specs.List.{AllByRecursion as Each}
use Rattle.std.proofs.lemmas.Bool.{and_parts, and_from, or_left, or_right}
use Rattle.e3_types.specs.declared.messages.Message.{Message}
use Rattle.e3_types.specs.Sets.{has_site, is_within, others}
use Rattle.e3_world.specs.Orderly.{is_among}
use Rattle.e3_world.specs.Sound.{txn_in}
use Rattle.e3_laws.specs.steps.Bounds.{AsksWell, MayHear}

pub among_other : (weights : List ℕ) (site to : ℕ) (sites : List ℕ) → is_among site weights sites ≡ true → has_site sites to ≡ true →
    is_among to weights sites ≡ true
among_other weights site to sites here there = and_from _ _ there (and_parts _ _ here).1

pub among_self : (weights : List ℕ) (site : ℕ) (sites : List ℕ) → is_among site weights sites ≡ true → has_site sites site ≡ true
among_self weights site sites here = (and_parts _ _ here).0

-- the site may hear a message of a transaction that the sender has to do with
pub hear : (weights : List ℕ) (site f : ℕ) (m : Message) → is_among f weights (txn_in m).sites ≡ true → has_site (txn_in m).sites site ≡ true →
    AsksWell site f m → MayHear weights site f m
hear weights site f m here there asked = record {
  among = among_other weights f site (txn_in m).sites here there;
  sender = among_self weights f (txn_in m).sites here;
  asked = asked;
}

pub hear_all : (weights : List ℕ) (f : ℕ) (m : Message) (sites : List ℕ) → is_among f weights (txn_in m).sites ≡ true →
    is_within sites (txn_in m).sites ≡ true → ((s : ℕ) → AsksWell s f m) → Each (λ s. MayHear weights s f m) sites
hear_all weights f m [] here all asked = tt
hear_all weights f m (s ∷ sites) here all asked =
    let parts : _ = and_parts (has_site (txn_in m).sites s) (is_within sites (txn_in m).sites) all in
    (hear weights s f m here parts.0 (asked s), hear_all weights f m sites here parts.1 asked)

pub within_more : (xs ys : List ℕ) (y : ℕ) → is_within xs ys ≡ true → is_within xs (y ∷ ys) ≡ true
within_more [] ys y all = refl
within_more (x ∷ xs) ys y all =
    let parts : _ = and_parts (has_site ys x) (is_within xs ys) all in
    and_from _ _ (or_right (y == x) (has_site ys x) parts.0) (within_more xs ys y parts.1)

pub within_self : (xs : List ℕ) → is_within xs xs ≡ true
within_self [] = refl
within_self (x ∷ xs) = and_from _ _ (or_left (x == x) (has_site xs x) (eq-eqb x x refl)) (within_more xs xs x (within_self xs))

within_kept : (b : Bool) (x : ℕ) (rest ys : List ℕ) → has_site ys x ≡ true → is_within rest ys ≡ true → is_within (if b then x ∷ rest else rest) ys ≡ true
within_kept true x rest ys this more = and_from _ _ this more
within_kept false x rest ys this more = more

pub within_filter : (p : ℕ → Bool) (xs ys : List ℕ) → is_within xs ys ≡ true → is_within (filter p xs) ys ≡ true
within_filter p [] ys all = refl
within_filter p (x ∷ xs) ys all =
    let parts : _ = and_parts (has_site ys x) (is_within xs ys) all in
    within_kept (p x) x (filter p xs) ys parts.0 (within_filter p xs ys parts.1)

pub others_within : (site : ℕ) (xs ys : List ℕ) → is_within xs ys ≡ true → is_within (others site xs) ys ≡ true
others_within site xs ys all = within_filter (λ x. not (x == site)) xs ys all

-- a site that is in a list that is within another is in that
pub within_has : (xs ys : List ℕ) (site : ℕ) → is_within xs ys ≡ true → has_site xs site ≡ true → has_site ys site ≡ true
within_has [] ys site all has = cc
within_has (x ∷ xs) ys site all has = by (x == site) refl has (λ rest. within_has xs ys site parts.1 rest)
  where
    parts : (has_site ys x ≡ true) × (is_within xs ys ≡ true)
    parts = and_parts (has_site ys x) (is_within xs ys) all

    by : (b : Bool) → (x == site) ≡ b → (b || has_site xs site) ≡ true → (has_site xs site ≡ true → has_site ys site ≡ true) → has_site ys site ≡ true
    by true is some more = let P : ℕ → Type 0 = λ s. has_site ys s ≡ true in subst P (eqb-true x site is) parts.0
    by false is some more = more some
