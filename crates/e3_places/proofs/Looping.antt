-- What loops make, one item at a time.
use Rattle.std.specs.Prelude.{◌≡◌, ◌<◌, ◌+◌, ◌++◌, ◌∷◌, [], if◌then◌else◌, ℕ, Bool, true, false, List, filter, map, fold, take, length}
use Rattle.std.specs.List.{flat_map}
use Rattle.std.proofs.Common.{◌⊎◌, inl, inr, refl, ap, sym, ◌∙◌, arith, get_or}
use Rattle.std.proofs.lemmas.Grind.{common_steps}
use Rattle.std.proofs.lemmas.List.{append-nil}
use Rattle.std.proofs.lemmas.List.Concat.{flat_map-append}
use Rattle.std.proofs.lemmas.List.Elements.{filter-append}
use Rattle.std.proofs.lemmas.List.Sums.{fold-append}
use Rattle.e3_types.specs.declared.transactions.Answer.{Answer}
use Rattle.e3_types.specs.declared.transactions.Txn.{Txn}
use Rattle.e3_types.specs.Same.{same_txn}
use Rattle.e3_world.specs.declared.lives.Asked.{Asked}
use Rattle.e3_places.specs.Standing.{written}

assoc : {X : Type 0} (xs ys zs : List X) → (xs ++ ys) ++ zs ≡ xs ++ (ys ++ zs)
assoc [] ys zs = refl
assoc (x ∷ xs) ys zs = ap (λ (l : List _). x ∷ l) (assoc xs ys zs)

take_next : {X : Type 0} (xs : List X) (i : ℕ) (x : X) → i < length xs → x ≡ get_or xs i x → take (i + 1) xs ≡ take i xs ++ x ∷ []
take_next xs i x h e = grind (arith, common_steps, h, e)

pub flat_next : {X Y : Type 0} (f : X → List Y) (xs : List X) (i : ℕ) (x : X) (was ys zs : List Y) → i < length xs → x ≡ get_or xs i x → ys ≡ was ++ flat_map f (take i xs) → zs ≡ ys ++ f x
    → zs ≡ was ++ flat_map f (take (i + 1) xs)
flat_next f xs i x was ys zs h e g k =
    k ∙ ap (λ (l : List _). l ++ f x) g ∙ assoc was (flat_map f (take i xs)) (f x)
    ∙ ap (λ (l : List _). was ++ l)
    (ap (λ (l : List _). flat_map f (take i xs) ++ l) (sym (append-nil (f x))) ∙ sym (flat_map-append f (take i xs) (x ∷ [])) ∙ ap (flat_map f) (sym (take_next xs i x h e)))

pub filter_next : {X : Type 0} (p : X → Bool) (xs : List X) (i : ℕ) (x : X) (was ys zs : List X) → i < length xs → x ≡ get_or xs i x → ys ≡ was ++ filter p (take i xs)
    → zs ≡ ys ++ (if p x then x ∷ [] else []) → zs ≡ was ++ filter p (take (i + 1) xs)
filter_next p xs i x was ys zs h e g k =
    k ∙ ap (λ (l : List _). l ++ filter p (x ∷ [])) g ∙ assoc was (filter p (take i xs)) (filter p (x ∷ []))
    ∙ ap (λ (l : List _). was ++ l) (sym (filter-append p (take i xs) (x ∷ [])) ∙ ap (filter p) (sym (take_next xs i x h e)))

-- one more item, where a test says so
pub one_if : {X : Type 0} (b : Bool) (x : X) (ys zs : List X) → ((b ≡ true) × (zs ≡ ys ++ x ∷ [])) ⊎ ((b ≡ false) × (zs ≡ ys)) → zs ≡ ys ++ (if b then x ∷ [] else [])
one_if b x ys zs (inl h) = h.1 ∙ sym (ap (λ (c : Bool). ys ++ (if c then x ∷ [] else [])) h.0)
one_if b x ys zs (inr h) = h.1 ∙ sym (append-nil ys) ∙ sym (ap (λ (c : Bool). ys ++ (if c then x ∷ [] else [])) h.0)

pub committed_both : (t : Txn) (votes cast : List Asked) (was x y : Answer) → x ≡ fold written was (filter (λ a. same_txn t a.txn) votes)
    → y ≡ fold written x (filter (λ a. same_txn t a.txn) cast) → y ≡ fold written was (filter (λ a. same_txn t a.txn) (votes ++ cast))
committed_both t votes cast was x y e f =
    f ∙ ap (λ (v : Answer). fold written v (filter (λ a. same_txn t a.txn) cast)) e
    ∙ sym (ap (fold written was) (filter-append (λ a. same_txn t a.txn) votes cast) ∙ fold-append written was (filter (λ a. same_txn t a.txn) votes) (filter (λ a. same_txn t a.txn) cast))

pub picked_next : {X Y : Type 0} (p : X → Bool) (f : X → Y) (xs : List X) (i : ℕ) (x : X) (was ys zs : List Y) → i < length xs → x ≡ get_or xs i x
    → ys ≡ was ++ map f (filter p (take i xs)) → zs ≡ ys ++ (if p x then f x ∷ [] else []) → zs ≡ was ++ map f (filter p (take (i + 1) xs))
picked_next p f xs i x was ys zs h e g k =
    k ∙ ap (λ (l : List _). l ++ (if p x then f x ∷ [] else [])) g ∙ assoc was (map f (filter p (take i xs))) (if p x then f x ∷ [] else [])
    ∙ ap (λ (l : List _). was ++ l) (sym (more (take i xs)) ∙ ap (λ (l : List _). map f (filter p l)) (sym (take_next xs i x h e)))
  where
    last : (b : Bool) → map f (if b then x ∷ [] else []) ≡ (if b then f x ∷ [] else [])
    last true = refl
    last false = refl

    one : (b : Bool) (y : _) (ys : List _) → map f (filter p (ys ++ x ∷ [])) ≡ map f (filter p ys) ++ (if p x then f x ∷ [] else [])
        → map f (if b then y ∷ filter p (ys ++ x ∷ []) else filter p (ys ++ x ∷ [])) ≡ map f (if b then y ∷ filter p ys else filter p ys) ++ (if p x then f x ∷ [] else [])
    one true y ys ih = ap (λ (l : List _). f y ∷ l) ih
    one false y ys ih = ih

    more : (ys : List _) → map f (filter p (ys ++ x ∷ [])) ≡ map f (filter p ys) ++ (if p x then f x ∷ [] else [])
    more [] = last (p x)
    more (y ∷ ys) = one (p y) y ys (more ys)
