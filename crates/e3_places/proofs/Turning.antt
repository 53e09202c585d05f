-- Entries that are taken out and put back.
use Rattle.std.specs.Prelude.{◌≡◌, ◌<◌, ◌+◌, ◌||◌, ◌++◌, ◌∷◌, [], if◌then◌else◌, cond, ℕ, Bool, true, false, List, take, length, Option, Some, unwrap_or}
use Rattle.std.specs.List.{list_any}
use Rattle.std.specs.Map.{lookup}
use Rattle.std.proofs.Common.{refl, ap, sym, ◌∙◌, get_or, arith}
use Rattle.std.proofs.lemmas.Grind.{common_steps}
use Rattle.std.proofs.lemmas.List.Folds.{list_any-append}
use Rattle.e3_places.specs.Keeping.{value_at}
use Rattle.e3_places.proofs.Putting.{Inserts}

-- what entries have where this is put at a key
pub put_at : {K X : Type 0} (at same : K → K → Bool) (none : X) (ms ns : List (K × X)) (k : K) (x : X) → ((q : K) → at k q ≡ same q k) → Inserts at ms ns k x
    → (q : K) → value_at at none ns q ≡ (if same q k then x else value_at at none ms q)
put_at at same none ms ns k x turned h q =
    ap (λ (o : Option _). unwrap_or o none) (h q) ∙ ap (λ (b : Bool). unwrap_or (cond b (Some x) (lookup (at q) ms)) none) (turned q) ∙ by (same q k)
  where
    by : (b : Bool) → unwrap_or (cond b (Some x) (lookup (at q) ms)) none ≡ (if b then x else value_at at none ms q)
    by true = refl
    by false = refl

-- so what other keys have
pub others_at : {K X : Type 0} (at same : K → K → Bool) (none : X) (ms ns : List (K × X)) (k : K) (x : X) → ((q : K) → at k q ≡ same q k) → Inserts at ms ns k x
    → (q : K) → same q k ≡ false → value_at at none ns q ≡ value_at at none ms q
others_at at same none ms ns k x turned h q e = put_at at same none ms ns k x turned h q ∙ ap (λ (b : Bool). if b then x else value_at at none ms q) e

-- what was taken out and put back, changed
pub turned_at : {K X : Type 0} (at same : K → K → Bool) (none : X) (ms mid ns : List (K × X)) (k : K) (x : X) → ((q : K) → same q k ≡ false → value_at at none mid q ≡ value_at at none ms q)
    → ((q : K) → value_at at none ns q ≡ (if same q k then x else value_at at none mid q)) → (q : K) → value_at at none ns q ≡ (if same q k then x else value_at at none ms q)
turned_at at same none ms mid ns k x rest done q = done q ∙ by (same q k) refl
  where
    by : (b : Bool) → same q k ≡ b → (if b then x else value_at at none mid q) ≡ (if b then x else value_at at none ms q)
    by true e = refl
    by false e = rest q e

-- the value of the key itself, changed by a function
pub turned_by : {K X : Type 0} (same : K → K → Bool) (f g : K → X) (turn : X → X) (k : K) (x : X) → ((j l : K) → same j l ≡ true → j ≡ l) → x ≡ turn (f k)
    → ((q : K) → g q ≡ (if same q k then x else f q)) → (q : K) → g q ≡ (if same q k then turn (f q) else f q)
turned_by same f g turn k x eq is h q = h q ∙ by (same q k) refl
  where
    by : (b : Bool) → same q k ≡ b → (if b then x else f q) ≡ (if b then turn (f q) else f q)
    by true e = is ∙ ap (λ (j : _). turn (f j)) (sym (eq q k e))
    by false e = refl

or_false : (b c : Bool) → (b || (c || false)) ≡ (b || c)
or_false true c = refl
or_false false true = refl
or_false false false = refl

-- one more of those that are asked
pub take_next : {X : Type 0} (xs : List X) (i : ℕ) (x : X) → i < length xs → x ≡ get_or xs i x → take (i + 1) xs ≡ take i xs ++ x ∷ []
take_next xs i x h e = grind (arith, common_steps, h, e)

pub any_next : {X : Type 0} (p : X → Bool) (xs : List X) (i : ℕ) (x : X) → i < length xs → x ≡ get_or xs i x → list_any p (take (i + 1) xs) ≡ (list_any p (take i xs) || p x)
any_next p xs i x lt is = ap (list_any p) (take_next xs i x lt is) ∙ list_any-append p (take i xs) (x ∷ []) ∙ or_false (list_any p (take i xs)) (p x)
