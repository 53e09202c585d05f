-- What holds of all elements of a list that is put together.
use Rattle.std.proofs.Common.{◌≡◌, ◌++◌, ◌∷◌, [], Bool, true, List, refl, fold, drop, length}
use Rattle.std.specs.List.{list_all}
use Rattle.std.proofs.lemmas.List.Folds.{list_all-append}

pub one_more : {X : Type 0} (p : X → Bool) (xs : List X) (x : X) → list_all p xs ≡ true → p x ≡ true → list_all p (xs ++ x ∷ []) ≡ true
one_more p xs x all this = rw (list_all-append, all, this) refl

pub both_all : {X : Type 0} (P : X → Bool) (xs ys : List X) → list_all P xs ≡ true → list_all P ys ≡ true → list_all P (xs ++ ys) ≡ true
both_all P xs ys first second = rw (list_all-append, first, second) refl

pub dropped : {X : Type 0} (xs : List X) → drop (length xs) xs ≡ []
dropped [] = refl
dropped (x ∷ xs) = dropped xs

pub fold_last : {X Y : Type 0} (f : Y → X → Y) (y : Y) (xs : List X) (x : X) → fold f y (xs ++ x ∷ []) ≡ f (fold f y xs) x
fold_last f y [] x = refl
fold_last f y (z ∷ xs) x = fold_last f (f y z) xs x
