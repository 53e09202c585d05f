-- Which owners are left, while passes are dealt and gathered.
use Rattle.std.proofs.Common.{◌≡◌, ◌≢◌, ⊎_elim, set, ℕ, zero, suc, ◌+◌, ◌<◌, ◌≤◌, List, [], ◌∷◌, ◌++◌, length, refl, sym, ap, ◌∙◌, subst, arith, eqb, cond, Bool, true, false}
use Rattle.std.proofs.lemmas.Bool.{eqb-true}
use Rattle.std.proofs.lemmas.Bool.Decides.{eqb_tells}
use Rattle.std.proofs.lemmas.List.{get_or-set_same, get_or-set_other, get_or_default}
use Rattle.std.specs.Prelude.{slice_index_or}
use Rattle.e3_turn.specs.Chronicles.{count_of, without, LongerExtends, longer}
use Rattle.e3_gate_runs.specs.declared.turns.journal.Mark.{Mark}
use Rattle.e3_gate_runs.specs.declared.turns.worker.Worker.{Worker}
use Rattle.e3_gate_runs.specs.Marks.{marks_of}
use Rattle.e3_gate_runs.proofs.Local.{owned_by, joined_first, joined_second}
use Rattle.e3_turn.proofs.Totals.{count_of-without, length-without, count_of_below, length-down_from, count_of-append, count_of_self}
use Rattle.e3_gate_runs.specs.Workers.{left_after, gathered}

count_of_other : (p o : ℕ) → p ≢ o → count_of o (p ∷ []) ≡ 0
count_of_other p o ne = go (eqb p o) refl
  where
    go : (b : Bool) → eqb p o ≡ b → cond b 1 0 + 0 ≡ 0
    go true e = absurd (ne (eqb-true p o e))
    go false e = refl

pub left_has : (n i o : ℕ) → i < o → o ≤ n → count_of o (left_after n i) ≡ 1
left_has n zero o lt le = count_of_below n o le
left_has n (suc i) o lt le =
    let here = left_has n i (suc i) (omega arith) (omega arith) in
    let there = left_has n i o (omega arith) le in
    let t = count_of-without o (suc i) (left_after n i) (omega arith) in
    let z = count_of_other (suc i) o (λ e. (let lt' : suc i < o = lt in omega arith)) in omega arith

pub left_first : (n i : ℕ) → i ≤ n → count_of 0 (left_after n i) ≡ 1
left_first n zero le = count_of_below n 0 (omega arith)
left_first n (suc i) le =
    let here = left_has n i (suc i) (omega arith) le in
    let there = left_first n i (omega arith) in
    let t = count_of-without 0 (suc i) (left_after n i) (omega arith) in
    let z = count_of_other (suc i) 0 (λ e. omega arith) in omega arith

pub length-left : (n i : ℕ) → i ≤ n → length (left_after n i) + i ≡ suc n
length-left n zero le = let l = length-down_from n in omega arith
length-left n (suc i) le =
    let here = left_has n i (suc i) (omega arith) le in
    let l = length-without (suc i) (left_after n i) (omega arith) in
    let r = length-left n i (omega arith) in omega arith

pub can_split : (n i o : ℕ) (owners : List ℕ) → owners ≡ left_after n i → o ≡ i + 1 → i < n → 0 < count_of o owners
can_split n i o owners is o_is lt = subst (λ l. 0 < count_of o l) (sym is) (let h = left_has n i o (omega arith) (omega arith) in omega arith)

pub keeps_one : (n i : ℕ) (owners : List ℕ) → owners ≡ left_after n i → i < n → 1 < length owners
keeps_one n i owners is lt = subst (λ l. 1 < length l) (sym is) (let h = length-left n i (omega arith) in omega arith)

pub left_more : (n i o : ℕ) (owners : List ℕ) → owners ≡ left_after n i → o ≡ i + 1 → without o owners ≡ left_after n (i + 1)
left_more n i o owners is o_is =
    let e : o ≡ suc i = omega arith in
    let m : suc i ≡ i + 1 = omega arith in
    ap (without o) is ∙ ap (λ p. without p (left_after n i)) e ∙ ap (left_after n) m

-- a relation of each member to what it has become, up to k, after one more has changed
pub changed_more : {A : Type 0} (R : A → A → Type 0) (xs ys : List A) (k : ℕ) (w : A) → k < length ys
    → ((i : ℕ) (d : A) → i < k → R (slice_index_or xs i d) (slice_index_or ys i d)) → ((d : A) → R (slice_index_or xs k d) w)
    → (i : ℕ) (d : A) → i < k + 1 → R (slice_index_or xs i d) (slice_index_or (set ys k w) i d)
changed_more {A = A} R xs ys k w lt before now i d le = ⊎_elim
    (λ (t : (eqb i k ≡ true) × (i ≡ k)). subst (λ j. R (slice_index_or xs j d) (slice_index_or (set ys k w) j d)) (sym t.1) (subst (λ z. R (slice_index_or xs k d) z) (sym (get_or-set_same ys k w d lt)) (now d)))
    (λ (t : (eqb i k ≡ false) × (i ≢ k)). subst (λ z. R (slice_index_or xs i d) z) (sym (get_or-set_other ys k i w d t.1)) (before i d (let ne = t.1 in omega arith)))
    (eqb_tells i k)

pub unchanged_more : {A : Type 0} (xs ys : List A) (k : ℕ) (w : A) → ((i : ℕ) (d : A) → k ≤ i → slice_index_or ys i d ≡ slice_index_or xs i d)
    → (i : ℕ) (d : A) → k + 1 ≤ i → slice_index_or (set ys k w) i d ≡ slice_index_or xs i d
unchanged_more xs ys k w h i d le = get_or-set_other ys k i w d (λ e. omega arith) ∙ h i d (omega arith)

-- the member at k, at any default
pub same_member : {A : Type 0} (xs ys : List A) (k : ℕ) (d e : A) → k < length ys → ((i : ℕ) (d : A) → k ≤ i → slice_index_or ys i d ≡ slice_index_or xs i d) → slice_index_or ys k e ≡ slice_index_or xs k d
same_member xs ys k d e lt h = get_or_default ys k e d lt ∙ h k d (omega arith)

pub gathered_has : (n k i : ℕ) → i < k → 0 < count_of (i + 1) (gathered n k)
gathered_has n zero i lt = absurd (omega arith)
gathered_has n (suc k) i lt =
    let t = count_of-append (i + 1) (gathered n k) (suc k ∷ []) in
    ⊎_elim
    (λ (e : (eqb i k ≡ true) × (i ≡ k)). (let one : count_of (i + 1) (suc k ∷ []) ≡ 1 = (let m : suc k ≡ i + 1 = (let z = e.1 in omega arith) in ap (λ p. count_of (i + 1) (p ∷ [])) m ∙ count_of_self (i + 1)) in omega arith))
    (λ (e : (eqb i k ≡ false) × (i ≢ k)). (let r = gathered_has n k i (let ne = e.1 in omega arith) in omega arith))
    (eqb_tells i k)

pub gathered_first : (n k : ℕ) → 0 < count_of 0 (gathered n k)
gathered_first n zero = let h = left_first n n (omega arith) in omega arith
gathered_first n (suc k) = let t = count_of-append 0 (gathered n k) (suc k ∷ []) in let r = gathered_first n k in omega arith

pub gathered_all : (n last : ℕ) (owners : List ℕ) → owners ≡ gathered n n → last ≡ n → (o : ℕ) → o ≤ last → 0 < count_of o owners
gathered_all n last owners is last_is zero le = subst (λ l. 0 < count_of 0 l) (sym is) (gathered_first n n)
gathered_all n last owners is last_is (suc o) le = subst (λ l. 0 < count_of (suc o) l) (sym is) (let m : o + 1 ≡ suc o = omega arith in subst (λ p. 0 < count_of p (gathered n n)) m (gathered_has n n o (omega arith)))

pub gathered_more : (n k o : ℕ) (xs ys : List ℕ) → xs ≡ gathered n k → ys ≡ o ∷ [] → o ≡ k + 1 → xs ++ ys ≡ gathered n (k + 1)
gathered_more n k o xs ys x y e =
    let m : o ≡ suc k = omega arith in
    let m' : suc k ≡ k + 1 = omega arith in
    ap (λ l. l ++ ys) x ∙ ap (λ l. gathered n k ++ l) (y ∙ ap (λ p. p ∷ []) m) ∙ ap (gathered n) m'

-- what the driver's pass has seen of each owner, once one more pass is joined
pub marks_more : (last n k : ℕ) (vo wo : List ℕ) (vs ws now : List Mark) (f : ℕ → Worker → List Mark)
    → vo ≡ gathered n k → wo ≡ (k + 1) ∷ [] → now ≡ longer vs ws → LongerExtends owned_by last vo vs wo ws
    → ((i : ℕ) (d : Worker) → i < k → marks_of (i + 1) vs ≡ f i d) → ((d : Worker) → marks_of (k + 1) ws ≡ f k d)
    → (i : ℕ) (d : Worker) → i < k + 1 → marks_of (i + 1) now ≡ f i d
marks_more last n k vo wo vs ws now f v_is w_is now_is agree before last_one i d lt = ⊎_elim
    (λ (t : (eqb i k ≡ true) × (i ≡ k)). subst (λ j. marks_of (j + 1) now ≡ f j d) (sym t.1)
    (ap (marks_of (k + 1)) now_is ∙ joined_second last (k + 1) vo wo vs ws agree (subst (λ l. 0 < count_of (k + 1) l) (sym w_is) (let z = count_of_self (k + 1) in omega arith)) ∙ last_one d))
    (λ (t : (eqb i k ≡ false) × (i ≢ k)).
    let less : i < k = (let ne = t.1 in omega arith) in
    ap (marks_of (i + 1)) now_is ∙ joined_first last (i + 1) vo wo vs ws agree (subst (λ l. 0 < count_of (i + 1) l) (sym v_is) (gathered_has n k i less)) ∙ before i d less)
    (eqb_tells i k)
