-- What holds of each element of lists that are put together or taken apart.
use Rattle.std.proofs.Common.{◌≡◌, ◌∷◌, [], ℕ, zero, suc, Bool, true, false, List, Option, Some, map, subst, if◌then◌else◌}
use Rattle.std.specs.Prelude.{Contains, slice_get, find}
use Rattle.std.specs.List.{flat_map, AllByRecursion as Each}
use Rattle.std.proofs.lemmas.List.Elements.{All-contains_itself, recursion_from_All}
use Rattle.e3_laws.proofs.steps.Each.{each-append, each-left, each-right, IfAny}

pub each-unmap : {X Y : Type 0} (P : Y → Type 0) (f : X → Y) (xs : List X) → Each P (map f xs) → Each (λ x. P (f x)) xs
each-unmap P f [] all = tt
each-unmap P f (x ∷ xs) all = (all.0, each-unmap P f xs all.1)

pub each-unflat : {X Y : Type 0} (P : Y → Type 0) (f : X → List Y) (xs : List X) → Each P (flat_map f xs) → Each (λ x. Each P (f x)) xs
each-unflat P f [] all = tt
each-unflat P f (x ∷ xs) all = (each-left P (f x) (flat_map f xs) all, each-unflat P f xs (each-right P (f x) (flat_map f xs) all))

pub each-join : {X Y : Type 0} (P : Y → Type 0) (f : X → List Y) (xs : List X) → Each (λ x. Each P (f x)) xs → Each P (flat_map f xs)
each-join P f [] all = tt
each-join P f (x ∷ xs) all = each-append P (f x) (flat_map f xs) all.0 (each-join P f xs all.1)

pub any-get : {X : Type 0} (P : X → Type 0) (xs : List X) (n : ℕ) → Each P xs → IfAny P (slice_get xs n)
any-get P [] n all = tt
any-get P (x ∷ xs) zero all = all.0
any-get P (x ∷ xs) (suc n) all = any-get P xs n all.1

pub any-find : {X : Type 0} (P : X → Type 0) (p : X → Bool) (xs : List X) → Each P xs → IfAny P (find p xs)
any-find P p [] all = tt
any-find P p (x ∷ xs) all = by (p x) (any-find P p xs all.1)
  where
    by : (b : Bool) → IfAny P (find p xs) → IfAny P (if b then Some x else find p xs)
    by true more = all.0
    by false more = more

-- what holds of the one that there is
pub held : {X : Type 0} (P : X → Type 0) (o : Option X) (x : X) → o ≡ Some x → IfAny P o → P x
held P o x is this = let Q : Option _ → Type 0 = λ y. IfAny P y in subst Q is this

-- a list that may be left out
pub each-if : {X : Type 0} (P : X → Type 0) (b : Bool) (xs : List X) → Each P xs → Each P (if b then xs else [])
each-if P true xs all = all
each-if P false xs all = tt

-- each element of a list is one of it
pub each-within : {X : Type 0} (xs : List X) → Each (Contains xs) xs
each-within xs = recursion_from_All (Contains xs) xs (All-contains_itself xs)
