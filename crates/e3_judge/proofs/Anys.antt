-- What tests over lists, options and numbers come to.
use Rattle.std.proofs.Common.{◌≡◌, ◌||◌, ◌≤◌, ◌∷◌, [], ℕ, Bool, true, false, not, List, Option, Some, None, refl, ap, arith, ◌∙◌}
use Rattle.std.specs.Prelude.{Contains, nat_le, is_none}
use Rattle.std.specs.Bool.{Decides}
use Rattle.std.specs.List.{list_any}
use Rattle.std.proofs.lemmas.Bool.{le-leb, leb-true}
use Rattle.std.proofs.lemmas.List.Folds.{list_any_at}
use Rattle.std.proofs.lemmas.List.Elements.{Contains-append_right}
use Rattle.e3_judge.specs.Checks.{is_empty}

-- a test is true where it is true
pub decides_true : (b : Bool) → Decides b (b ≡ true)
decides_true b = (λ e. e, λ e. e)

pub decides_false : (b : Bool) → Decides (not b) (b ≡ false)
decides_false true = (λ e. absurd cc, λ e. absurd cc)
decides_false false = (λ e. refl, λ e. refl)

pub decides_le : (a b : ℕ) → Decides (nat_le a b) (a ≤ b)
decides_le a b = (leb-true a b, le-leb a b)

-- what must hold where the first test is true
pub decides_where : {P : Type 0} → (b y : Bool) → Decides y P → Decides (not b || y) (b ≡ true → P)
decides_where true y d = (λ e w. d.0 e, λ f. d.1 (f refl))
decides_where false y d = (λ e w. absurd cc, λ f. refl)

pub decides_empty : {X : Type 0} → (xs : List X) → Decides (is_empty xs) (xs ≡ [])
decides_empty [] = (λ e. refl, λ e. refl)
decides_empty (x ∷ xs) = (λ e. absurd cc, λ e. absurd cc)

pub decides_none : {X : Type 0} → (o : Option X) → Decides (is_none o) (o ≡ None)
decides_none None = (λ e. refl, λ e. refl)
decides_none (Some x) = (λ e. absurd cc, λ e. absurd cc)

-- a member that passes a test
abbrev pub Passing : {X : Type 0} → (X → Bool) → List X → Type 0
Passing {X} p xs = (x : X) × Contains xs x × (p x ≡ true)

passing_here : {X : Type 0} → (p : X → Bool) → (y : X) (ys : List X) → p y ≡ true → Passing p (y ∷ ys)
passing_here p y ys is = (y, (0, omega arith, refl), is)

passing_later : {X : Type 0} → (p : X → Bool) → (y : X) (ys : List X) → Passing p ys → Passing p (y ∷ ys)
passing_later p y ys has = (has.0, Contains-append_right (y ∷ []) ys has.0 has.1, has.2)

pub any_passing : {X : Type 0} → (p : X → Bool) → (xs : List X) → list_any p xs ≡ true → Passing p xs
any_passing p [] e = absurd cc
any_passing p (y ∷ ys) e = by (p y) refl (any_passing p ys) e
  where
    by : (b : Bool) → p y ≡ b → (list_any p ys ≡ true → Passing p ys) → (b || list_any p ys) ≡ true → Passing p (y ∷ ys)
    by true is more e = passing_here p y ys is
    by false is more e = passing_later p y ys (more e)

pub passing_any : {X : Type 0} → (p : X → Bool) → (xs : List X) → (x : X) → Contains xs x → p x ≡ true → list_any p xs ≡ true
passing_any p xs x has is = list_any_at p xs has.0 x has.1 (ap p has.2 ∙ is)
