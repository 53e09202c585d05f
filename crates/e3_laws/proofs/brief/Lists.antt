-- Folds and filters over lists whose elements are alike.
use Rattle.std.proofs.Common.{◌≡◌, ◌∷◌, [], ◌++◌, Bool, true, false, List, refl, ap, ◌∙◌, fold, filter}
use Rattle.std.specs.List.{flat_map, list_all, AllByRecursion as Each}
use Rattle.std.proofs.lemmas.Bool.{and_parts, and_from}
use Rattle.std.proofs.lemmas.Grind.{fold-append}

-- all elements, or none, pass a test
pub all_pass : {A : Type 0} (p : A → Bool) (xs : List A) → Each (λ x. p x ≡ true) xs → filter p xs ≡ xs
all_pass p [] each = refl
all_pass p (x ∷ xs) each = rw each.0 (ap (λ l. x ∷ l) (all_pass p xs each.1))

pub none_pass : {A : Type 0} (p : A → Bool) (xs : List A) → Each (λ x. p x ≡ false) xs → filter p xs ≡ []
none_pass p [] each = refl
none_pass p (x ∷ xs) each = rw each.0 (none_pass p xs each.1)

pub all_map : {A : Type 0} (p q : A → Bool) → ((x : A) → p x ≡ true → q x ≡ true) → (xs : List A) → list_all p xs ≡ true → list_all q xs ≡ true
all_map p q to [] all = refl
all_map p q to (x ∷ xs) all =
    let h = and_parts (p x) (list_all p xs) all in
    and_from (q x) (list_all q xs) (to x h.0) (all_map p q to xs h.1)

-- a fold over elements that leave the value
pub fold_leaves : {A B : Type 0} (f : B → A → B) (b : B) (xs : List A) → Each (λ x. f b x ≡ b) xs → fold f b xs ≡ b
fold_leaves f b [] each = refl
fold_leaves f b (x ∷ xs) each = ap (λ c. fold f c xs) each.0 ∙ fold_leaves f b xs each.1

-- a fold over elements that two steps take alike
pub fold_alike : {A B : Type 0} (f g : B → A → B) (xs : List A) → Each (λ x. (b : B) → f b x ≡ g b x) xs → (b : B) → fold f b xs ≡ fold g b xs
fold_alike f g [] each b = refl
fold_alike f g (x ∷ xs) each b = ap (λ c. fold f c xs) (each.0 b) ∙ fold_alike f g xs each.1 (g b x)

-- a fold over four pieces
pub fold_four : {A B : Type 0} (f : B → A → B) (p q r s : List A) (x a b c d : B) → fold f x p ≡ a → fold f a q ≡ b → fold f b r ≡ c → fold f c s ≡ d
    → fold f x (p ++ (q ++ (r ++ s))) ≡ d
fold_four f p q r s x a b c d first second third fourth =
    fold-append f x p (q ++ (r ++ s)) ∙ ap (λ y. fold f y (q ++ (r ++ s))) first
    ∙ fold-append f a q (r ++ s) ∙ ap (λ y. fold f y (r ++ s)) second
    ∙ fold-append f b r s ∙ ap (λ y. fold f y s) third ∙ fourth

pub flat_alike : {A B : Type 0} (f g : A → List B) → ((x : A) → f x ≡ g x) → (xs : List A) → flat_map f xs ≡ flat_map g xs
flat_alike f g same [] = refl
flat_alike f g same (x ∷ xs) = λ i. same x i ++ flat_alike f g same xs i

pub no_push : {A : Type 0} (xs : List A) (x : A) → (xs ++ x ∷ []) ≡ [] → ⊥
no_push [] x e = absurd cc
no_push (y ∷ ys) x e = absurd cc
