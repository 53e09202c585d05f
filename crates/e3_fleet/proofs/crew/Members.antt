-- Members of a list of which one after the other changes.
use Rattle.std.proofs.Common.{◌≡◌, ◌≢◌, ⊎_elim, set, ℕ, ◌+◌, ◌-◌, ◌<◌, ◌≤◌, ◌++◌, List, length, refl, sym, ap, ◌∙◌, subst, arith, eqb, leb, true, false, length-append}
use Rattle.std.proofs.lemmas.Bool.Decides.{eqb_tells, leb_tells}
use Rattle.std.proofs.lemmas.List.{get_or-append_right, get_or-set_same, get_or-set_other, get_or_append_left, get_or_default}
use Rattle.std.specs.Prelude.{slice_index_or}

-- a relation of each member to what it has become, up to k, after one more has changed
pub changed_more : {A : Type 0} (R : A → A → Type 0) (xs ys : List A) (k : ℕ) (w : A) → k < length ys
    → ((i : ℕ) (d : A) → i < k → R (slice_index_or xs i d) (slice_index_or ys i d)) → ((d : A) → R (slice_index_or xs k d) w)
    → (i : ℕ) (d : A) → i < k + 1 → R (slice_index_or xs i d) (slice_index_or (set ys k w) i d)
changed_more {A = A} R xs ys k w lt before now i d le = ⊎_elim
    (λ (t : (eqb i k ≡ true) × (i ≡ k)). subst (λ j. R (slice_index_or xs j d) (slice_index_or (set ys k w) j d)) (sym t.1) (subst (λ z. R (slice_index_or xs k d) z) (sym (get_or-set_same ys k w d lt)) (now d)))
    (λ (t : (eqb i k ≡ false) × (i ≢ k)). subst (λ z. R (slice_index_or xs i d) z) (sym (get_or-set_other ys k i w d t.1)) (before i d (let ne = t.1 in omega arith)))
    (eqb_tells i k)

pub unchanged_more : {A : Type 0} (xs ys : List A) (k : ℕ) (w : A) → ((i : ℕ) (d : A) → k ≤ i → slice_index_or ys i d ≡ slice_index_or xs i d)
    → (i : ℕ) (d : A) → k + 1 ≤ i → slice_index_or (set ys k w) i d ≡ slice_index_or xs i d
unchanged_more xs ys k w h i d le = get_or-set_other ys k i w d (λ e. omega arith) ∙ h i d (omega arith)

-- the member at k, at any default
pub same_member : {A : Type 0} (xs ys : List A) (k : ℕ) (d e : A) → k < length ys → ((i : ℕ) (d : A) → k ≤ i → slice_index_or ys i d ≡ slice_index_or xs i d) → slice_index_or ys k e ≡ slice_index_or xs k d
same_member xs ys k d e lt h = get_or_default ys k e d lt ∙ h k d (omega arith)

-- what is told of each member, while one of them is set to what is told of it
pub kept_at : {A B : Type 0} (f : A → B) (xs ys : List A) (k : ℕ) (w : A) → k < length ys → ((i : ℕ) (d : A) → i < k → f (slice_index_or ys i d) ≡ f (slice_index_or xs i d))
    → ((i : ℕ) (d : A) → k ≤ i → slice_index_or ys i d ≡ slice_index_or xs i d) → ((d : A) → f w ≡ f (slice_index_or xs k d))
    → (i : ℕ) (d : A) → f (slice_index_or (set ys k w) i d) ≡ f (slice_index_or xs i d)
kept_at {A = A} f xs ys k w lt before later here i d = ⊎_elim
    (λ (t : (eqb i k ≡ true) × (i ≡ k)). subst (λ j. f (slice_index_or (set ys k w) j d) ≡ f (slice_index_or xs j d)) (sym t.1) (ap f (get_or-set_same ys k w d lt) ∙ here d))
    (λ (t : (eqb i k ≡ false) × (i ≢ k)). ap f (get_or-set_other ys k i w d t.1) ∙ ⊎_elim (λ h. ap f (later i d h.1)) (λ h. before i d h.1) (leb_tells k i))
    (eqb_tells i k)

-- what is told of the members of two lists is told of those of both, one behind the other
pub both_told : {A : Type 0} (R : A → A → Type 0) (all xs ys us vs : List A) → all ≡ xs ++ ys → length us ≡ length xs
    → ((i : ℕ) (d : A) → i < length xs → R (slice_index_or xs i d) (slice_index_or us i d))
    → ((i : ℕ) (d : A) → i < length ys → R (slice_index_or ys i d) (slice_index_or vs i d))
    → (i : ℕ) (d : A) → i < length all → R (slice_index_or all i d) (slice_index_or (us ++ vs) i d)
both_told {A = A} R all xs ys us vs whole same front back i d low = ⊎_elim
    (λ (t : (leb (length xs) i ≡ true) × (length xs ≤ i)).
    let h = t.1 in
    let one : slice_index_or all i d ≡ slice_index_or ys (i - length xs) d = ap (λ l. slice_index_or l i d) whole ∙ get_or-append_right xs ys (length xs) i d refl h in
    let two : slice_index_or (us ++ vs) i d ≡ slice_index_or vs (i - length xs) d = get_or-append_right us vs (length xs) i d same h in
    let total : length all ≡ length xs + length ys = ap length whole ∙ length-append xs ys in
    subst (λ (z : A). R (slice_index_or all i d) z) (sym two) (subst (λ (z : A). R z (slice_index_or vs (i - length xs) d)) (sym one) (back (i - length xs) d (omega (arith, total, low, h)))))
    (λ (t : (leb (length xs) i ≡ false) × (i < length xs)).
    let h = t.1 in
    let one : slice_index_or all i d ≡ slice_index_or xs i d = ap (λ l. slice_index_or l i d) whole ∙ get_or_append_left xs ys d i h in
    let two : slice_index_or (us ++ vs) i d ≡ slice_index_or us i d = get_or_append_left us vs d i (omega (arith, h, same)) in
    subst (λ (z : A). R (slice_index_or all i d) z) (sym two) (subst (λ (z : A). R z (slice_index_or us i d)) (sym one) (front i d h)))
    (leb_tells (length xs) i)
