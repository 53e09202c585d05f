-- Lists of numbers of one length have no endless descent, so packets come to an end.
use Rattle.std.proofs.Common.{◌≡◌, ◌⊎◌, ◌<◌, ◌==◌, ◌&&◌, ◌||◌, inl, inr, ◌∷◌, ◌++◌, [], ℕ, zero, suc, Bool, true, false, List, length, refl, sym, subst, ◌∙◌, arith, nat_lt, eqb-true, ltb-true}
use Rattle.std.proofs.lemmas.Bool.{and_parts}
use mathlib.Core.WellFounded.{Acc}
use Rattle.e3_types.specs.declared.entries.Entry.{Entry}
use Rattle.e3_types.specs.declared.scenarios.Scenario.{Scenario}
use Rattle.e3_world.specs.Given.{IsGiven}
use Rattle.e3_world.specs.Legal.{IsLegal}
use Rattle.e3_world.proofs.Pushes.{legal_push}
use Rattle.e3_laws.specs.local.Settling.{PacketsEnd, Settles, Ends, TakingLowers}
use Rattle.e3_laws.specs.local.Measures.{is_below, measure}

-- the first list has the length of the second, and is below it
abbrev pub Under : List ℕ → List ℕ → Type 0
Under xs ys = (length xs ≡ length ys) × (is_below xs ys ≡ true)

-- the first numbers differ, or the rests do
split : (z y : ℕ) (zs ys : List ℕ) → is_below (z ∷ zs) (y ∷ ys) ≡ true → (z < y) ⊎ ((z ≡ y) × (is_below zs ys ≡ true))
split z y zs ys below = by (nat_lt z y) refl
  where
    by : (b : Bool) → nat_lt z y ≡ b → (z < y) ⊎ ((z ≡ y) × (is_below zs ys ≡ true))
    by true is = inl (ltb-true z y is)
    by false is =
        let P : Bool → Type 0 = λ b. (b || ((z == y) && is_below zs ys)) ≡ true in
        let parts : _ = and_parts (z == y) (is_below zs ys) (subst P is below) in
        inr (eqb-true z y parts.0, parts.1)

below_head : (n y : ℕ) (ys : List ℕ) → length ys ≡ n → ((z : ℕ) → z < y → (zs : List ℕ) → length zs ≡ n → Acc Under (z ∷ zs)) →
    ((zs : List ℕ) → length zs ≡ n → is_below zs ys ≡ true → Acc Under (y ∷ zs)) → (zs : List ℕ) → Under zs (y ∷ ys) → Acc Under zs
below_head n y ys is lower rest [] under = absurd cc
below_head n y ys is lower rest (z ∷ zs) under = by (split z y zs ys under.1)
  where
    len : length zs ≡ n
    len = let same : suc (length zs) ≡ suc (length ys) = under.0 in omega (arith, same, is)

    by : (z < y) ⊎ ((z ≡ y) × (is_below zs ys ≡ true)) → Acc Under (z ∷ zs)
    by (inl less) = lower z less zs len
    by (inr (same, below)) = let P : ℕ → Type 0 = λ k. Acc Under (k ∷ zs) in subst P (sym same) (rest zs len below)

same_head : (n y : ℕ) → ((z : ℕ) → z < y → (zs : List ℕ) → length zs ≡ n → Acc Under (z ∷ zs)) → (ys : List ℕ) → length ys ≡ n → Acc Under ys → Acc Under (y ∷ ys)
same_head n y lower ys is (Acc.intro xs more) =
    Acc.intro (y ∷ xs) (below_head n y xs is lower (λ zs len below. same_head n y lower zs len (more zs (len ∙ sym is, below))))

heads : (n : ℕ) → ((ys : List ℕ) → length ys ≡ n → Acc Under ys) → (k y : ℕ) → y < k → (ys : List ℕ) → length ys ≡ n → Acc Under (y ∷ ys)
heads n all zero y less ys is = absurd (omega (arith, less))
heads n all (suc k) y less ys is = same_head n y (λ z lower zs len. heads n all k z (omega (arith, lower, less)) zs len) ys is (all ys is)

none_under : (zs : List ℕ) → Under zs [] → Acc Under zs
none_under [] under = absurd cc
none_under (z ∷ zs) under = absurd cc

lists : (n : ℕ) (ys : List ℕ) → length ys ≡ n → Acc Under ys
lists zero [] is = Acc.intro [] none_under
lists zero (y ∷ ys) is = absurd cc
lists (suc n) [] is = absurd cc
lists (suc n) (y ∷ ys) is = heads n (lists n) (suc y) y (omega arith) ys (let same : suc (length ys) ≡ suc n = is in omega (arith, same))

-- the measure of the first history is below that of the second
abbrev pub Lower : Scenario → List Entry → List Entry → Type 0
Lower sc k h = Under (measure sc k) (measure sc h)

of_measure : (sc : Scenario) (ms : List ℕ) → Acc Under ms → (h : List Entry) → measure sc h ≡ ms → Acc (Lower sc) h
of_measure sc ms (Acc.intro ns more) h is = Acc.intro h (λ k lower.
    let P : List ℕ → Type 0 = λ l. Under (measure sc k) l in of_measure sc (measure sc k) (more (measure sc k) (subst P is lower)) k refl)

pub no_descent : (sc : Scenario) (h : List Entry) → Acc (Lower sc) h
no_descent sc h = of_measure sc (measure sc h) (lists (length (measure sc h)) (measure sc h) refl) h refl

-- so every legal history settles
settled : (sc : Scenario) (h : List Entry) → TakingLowers → IsGiven sc → Acc (Lower sc) h → IsLegal sc h → Settles sc h
settled sc h lowers given (Acc.intro k more) legal = Ends k (λ e guard takes.
    settled sc (k ++ e ∷ []) lowers given (more (k ++ e ∷ []) (refl, lowers sc k e given legal guard takes)) (legal_push sc k e legal guard))

pub packets_end : TakingLowers → PacketsEnd
packets_end lowers sc h given legal = settled sc h lowers given (no_descent sc h) legal
