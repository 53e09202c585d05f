-- Sums over all owners, and what one more mark changes of them.
use Rattle.std.proofs.Common.{◌≡◌, ◌≢◌, ◌==◌, ◌+◌, ◌≤◌, ℕ, zero, suc, Bool, true, false, List, [], ◌∷◌, ◌++◌, ◌∙◌, ap, sym, subst, refl, arith, eqb-true, eq-eqb}
use Rattle.std.proofs.lemmas.Bool.{ne_eqb}
use Rattle.std.proofs.lemmas.Grind.{fold-append}
use Rattle.e3_wire.specs.declared.marks.Mark.{Mark}
use Rattle.e3_wire.specs.Marks.{note_by, note_of, nothing, total}
use Rattle.e3_wire.specs.declared.marks.Note.{Note}

pub same_total : (f g : ℕ → ℕ) (n : ℕ) → ((u : ℕ) → u ≤ n → g u ≡ f u) → total g n ≡ total f n
same_total f g zero same = same 0 (omega arith)
same_total f g (suc n) same =
    let rest : total g n ≡ total f n = same_total f g n (λ u few. same u (omega (arith, few))) in
    let last : g (suc n) ≡ f (suc n) = same (suc n) (omega arith) in
    omega (arith, rest, last)

lower : (n s : ℕ) → s ≤ suc n → (suc n == s) ≡ false → s ≤ n
lower n s low apart = let differs : suc n ≢ s = (λ e. let yes : (suc n == s) ≡ true = eq-eqb (suc n) s e in let no : true ≡ false = sym yes ∙ apart in cc) in omega (arith, low, differs)

-- one of them changes
pub one_changes : (f g : ℕ → ℕ) (s n : ℕ) → s ≤ n → ((u : ℕ) → (u == s) ≡ false → g u ≡ f u) → total g n + f s ≡ total f n + g s
one_changes f g s zero low same =
    let first : s ≡ 0 = omega (arith, low) in
    let P : ℕ → Type 0 = λ k. g 0 + f k ≡ f 0 + g k in
    subst P (sym first) (omega arith)
one_changes f g s (suc n) low same = by (suc n == s) refl (λ less. one_changes f g s n less same)
  where
    by : (b : Bool) → (suc n == s) ≡ b → (s ≤ n → total g n + f s ≡ total f n + g s) → total g (suc n) + f s ≡ total f (suc n) + g s
    by true is more =
        let here : suc n ≡ s = eqb-true (suc n) s is in
        let rest : total g n ≡ total f n = same_total f g n (λ u few. same u (ne_eqb u s (λ e. omega (arith, e, few, here)))) in
        let P : ℕ → Type 0 = λ k. (total g n + g (suc n)) + f k ≡ (total f n + f (suc n)) + g k in
        subst P here (omega (arith, rest))
    by false apart more =
        let last : g (suc n) ≡ f (suc n) = same (suc n) apart in
        let rest : total g n + f s ≡ total f n + g s = more (lower n s low apart) in
        omega (arith, last, rest)

pub one_of_all : (f : ℕ → ℕ) (s n : ℕ) → s ≤ n → f s ≤ total f n
one_of_all f s zero low = let first : s ≡ 0 = omega (arith, low) in let P : ℕ → Type 0 = λ k. f k ≤ f 0 in subst P (sym first) (omega arith)
one_of_all f s (suc n) low = by (suc n == s) refl (λ less. one_of_all f s n less)
  where
    by : (b : Bool) → (suc n == s) ≡ b → (s ≤ n → f s ≤ total f n) → f s ≤ total f (suc n)
    by true is more = let here : suc n ≡ s = eqb-true (suc n) s is in let P : ℕ → Type 0 = λ k. f k ≤ total f n + f (suc n) in subst P here (omega arith)
    by false apart more = let rest : f s ≤ total f n = more (lower n s low apart) in omega (arith, rest)

-- one more mark of an owner changes its note alone
pub changes : (F : Note → ℕ) (marks : List Mark) (m : Mark) (s last : ℕ) → s ≤ last → ((o : ℕ) (w : Note) → (s == o) ≡ false → note_by o w m ≡ w) →
    total (λ o. F (note_of o (marks ++ m ∷ []))) last + F (note_of s marks) ≡ total (λ o. F (note_of o marks)) last + F (note_by s (note_of s marks) m)
changes F marks m s last low others =
    one_changes (λ o. F (note_of o marks)) (λ o. F (note_of o (marks ++ m ∷ []))) s last low
    (λ u apart. ap F (note_push u ∙ others u (note_of u marks) (eqb-not u s apart)))
    ∙ ap (λ w. total (λ o. F (note_of o marks)) last + F w) (note_push s)
  where
    note_push : (o : ℕ) → note_of o (marks ++ m ∷ []) ≡ note_by o (note_of o marks) m
    note_push o = fold-append (note_by o) nothing marks (m ∷ [])

    eqb-not : (a b : ℕ) → (a == b) ≡ false → (b == a) ≡ false
    eqb-not a b apart = by (b == a) refl
      where
        by : (c : Bool) → (b == a) ≡ c → (b == a) ≡ false
        by true is = absurd (let same : a ≡ b = sym (eqb-true b a is) in let yes : (a == b) ≡ true = eq-eqb a b same in cc)
        by false is = is

pub itself : (s : ℕ) → (s == s) ≡ true
itself s = eq-eqb s s refl

-- one more mark that leaves each note leaves the sums
pub stands_still : (F : Note → ℕ) (marks : List Mark) (m : Mark) (last : ℕ) → ((o : ℕ) (w : Note) → note_by o w m ≡ w) →
    total (λ o. F (note_of o (marks ++ m ∷ []))) last ≡ total (λ o. F (note_of o marks)) last
stands_still F marks m last still =
    same_total (λ o. F (note_of o marks)) (λ o. F (note_of o (marks ++ m ∷ []))) last
    (λ o low. ap F (fold-append (note_by o) nothing marks (m ∷ []) ∙ still o (note_of o marks)))
