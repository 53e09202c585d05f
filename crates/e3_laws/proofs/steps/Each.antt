-- What holds of each element of a list.
use Rattle.std.proofs.Common.{◌≡◌, ◌++◌, ◌∷◌, [], ℕ, zero, suc, Bool, true, false, List, Option, Some, None, refl, map, filter, take, if◌then◌else◌}
use Rattle.std.specs.Prelude.{Contains}
use Rattle.std.specs.List.{AllByRecursion as Each, flat_map}
use Rattle.std.proofs.lemmas.List.Elements.{All-from_recursion, All-contains}

pub each-append : {X : Type 0} (P : X → Type 0) (xs ys : List X) → Each P xs → Each P ys → Each P (xs ++ ys)
each-append P [] ys first more = more
each-append P (x ∷ xs) ys first more = (first.0, each-append P xs ys first.1 more)

pub each-push : {X : Type 0} (P : X → Type 0) (xs : List X) (x : X) → Each P xs → P x → Each P (xs ++ x ∷ [])
each-push P xs x all this = each-append P xs (x ∷ []) all (this, tt)

pub each-left : {X : Type 0} (P : X → Type 0) (xs ys : List X) → Each P (xs ++ ys) → Each P xs
each-left P [] ys all = tt
each-left P (x ∷ xs) ys all = (all.0, each-left P xs ys all.1)

pub each-right : {X : Type 0} (P : X → Type 0) (xs ys : List X) → Each P (xs ++ ys) → Each P ys
each-right P [] ys all = all
each-right P (x ∷ xs) ys all = each-right P xs ys all.1

kept : {X : Type 0} (P : X → Type 0) (b : Bool) (x : X) (rest : List X) → P x → Each P rest → Each P (if b then x ∷ rest else rest)
kept P true x rest this more = (this, more)
kept P false x rest this more = more

pub each-filter : {X : Type 0} (P : X → Type 0) (p : X → Bool) (xs : List X) → Each P xs → Each P (filter p xs)
each-filter P p [] all = tt
each-filter P p (x ∷ xs) all = kept P (p x) x (filter p xs) all.0 (each-filter P p xs all.1)

pub each-take : {X : Type 0} (P : X → Type 0) (n : ℕ) (xs : List X) → Each P xs → Each P (take n xs)
each-take P zero xs all = tt
each-take P (suc n) [] all = tt
each-take P (suc n) (x ∷ xs) all = (all.0, each-take P n xs all.1)

pub each-weaker : {X : Type 0} (P Q : X → Type 0) → ((x : X) → P x → Q x) → (xs : List X) → Each P xs → Each Q xs
each-weaker P Q to [] all = tt
each-weaker P Q to (x ∷ xs) all = (to x all.0, each-weaker P Q to xs all.1)

pub each-map : {X Y : Type 0} (P : Y → Type 0) (f : X → Y) (xs : List X) → Each (λ x. P (f x)) xs → Each P (map f xs)
each-map P f [] all = tt
each-map P f (x ∷ xs) all = (all.0, each-map P f xs all.1)

pub each-flat : {X Y : Type 0} (P : X → Type 0) (Q : Y → Type 0) (f : X → List Y) → ((x : X) → P x → Each Q (f x)) → (xs : List X) → Each P xs →
    Each Q (flat_map f xs)
each-flat P Q f to [] all = tt
each-flat P Q f to (x ∷ xs) all = each-append Q (f x) (flat_map f xs) (to x all.0) (each-flat P Q f to xs all.1)

pub each-of : {X : Type 0} (P : X → Type 0) → ((x : X) → P x) → (xs : List X) → Each P xs
each-of P all [] = tt
each-of P all (x ∷ xs) = (all x, each-of P all xs)

pub each-at : {X : Type 0} (P : X → Type 0) (xs : List X) (x : X) → Each P xs → Contains xs x → P x
each-at P xs x all has = All-contains P xs x (All-from_recursion P xs all) has

kept_both : {X : Type 0} (P : X → Type 0) (p : X → Bool) (b : Bool) (x : X) (rest : List X) → p x ≡ b → P x → Each (λ y. P y × (p y ≡ true)) rest →
    Each (λ y. P y × (p y ≡ true)) (if b then x ∷ rest else rest)
kept_both P p true x rest is this more = ((this, is), more)
kept_both P p false x rest is this more = more

-- what a filter keeps passes its test
pub each-kept : {X : Type 0} (P : X → Type 0) (p : X → Bool) (xs : List X) → Each P xs → Each (λ x. P x × (p x ≡ true)) (filter p xs)
each-kept P p [] all = tt
each-kept P p (x ∷ xs) all = kept_both P p (p x) x (filter p xs) refl all.0 (each-kept P p xs all.1)

pub each-both : {X : Type 0} (P Q : X → Type 0) (xs : List X) → Each P xs → Each Q xs → Each (λ x. P x × Q x) xs
each-both P Q [] first second = tt
each-both P Q (x ∷ xs) first second = ((first.0, second.0), each-both P Q xs first.1 second.1)

-- what holds of the one that there may be
abbrev pub IfAny : {X : Type 0} → (X → Type 0) → Option X → Type 0
IfAny P None = Unit {0}
IfAny P (Some x) = P x
