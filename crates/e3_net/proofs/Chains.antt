-- Places in a row: the first one to a site, the last one, and what a further one, or one of which nothing is left, makes of
-- them.
use Rattle.std.proofs.Common.{◌≡◌, ◌==◌, ◌+◌, ◌<◌, ◌≤◌, if◌then◌else◌, ℕ, zero, suc, Bool, true, false, List, [], ◌∷◌, ◌++◌, length, ◌∙◌, ap, sym, subst, refl, arith, eq-eqb, eqb-true, ne_eqb}
use Rattle.e3_net.specs.Chains.{Link, AreLinked, ends_at, first_to, left_in, waits_for}

-- what it means to wait for a site
pub waits_live : (site : ℕ) (l : Link) → waits_for site l ≡ true → l.live ≡ true
waits_live site l is = by l.live refl
  where
    by : (b : Bool) → l.live ≡ b → l.live ≡ true
    by true live = live
    by false dead = (let bad : false ≡ true = sym (rw dead refl) ∙ is in absurd cc)

pub waits_to : (site : ℕ) (l : Link) → waits_for site l ≡ true → l.to ≡ site
waits_to site l is = by l.live refl
  where
    by : (b : Bool) → l.live ≡ b → l.to ≡ site
    by true live = (let test : (l.to == site) ≡ true = sym (rw live refl) ∙ is in eqb-true l.to site test)
    by false dead = (let bad : false ≡ true = sym (rw dead refl) ∙ is in absurd cc)

pub waits_is : (site : ℕ) (l : Link) → l.live ≡ true → l.to ≡ site → waits_for site l ≡ true
waits_is site l live to = rw live (eq-eqb l.to site to)

pub waits_not : (site t : ℕ) (l : Link) → l.to ≡ site → (t ≡ site → ⊥) → waits_for t l ≡ false
waits_not site t l to differ = by l.live refl
  where
    by : (b : Bool) → l.live ≡ b → waits_for t l ≡ false
    by true live = rw live (ne_eqb l.to t (λ e. differ (sym e ∙ to)))
    by false dead = rw dead refl

-- one that waits for no such site, and waits, goes elsewhere
pub elsewhere : (site : ℕ) (l : Link) → waits_for site l ≡ false → l.live ≡ true → l.to ≡ site → ⊥
elsewhere site l other live to = (let test : waits_for site l ≡ true = waits_is site l live to in absurd cc)

-- places lie behind those before, and within the row
pub first_above : (site before k : ℕ) (ls : List Link) → first_to site before ls ≡ suc k → before ≤ k
first_above site before k [] is = absurd (omega (arith, is))
first_above site before k (l ∷ ls) is = by (waits_for site l) refl (first_above site (suc before) k ls)
  where
    by : (b : Bool) → waits_for site l ≡ b → (first_to site (suc before) ls ≡ suc k → suc before ≤ k) → before ≤ k
    by true here more = (let e : suc before ≡ suc k = sym (rw here refl) ∙ is in omega (arith, e))
    by false other more = (let e : suc before ≤ k = more (sym (rw other refl) ∙ is) in omega (arith, e))

pub first_within : (site before k : ℕ) (ls : List Link) → first_to site before ls ≡ suc k → k < before + length ls
first_within site before k [] is = absurd (omega (arith, is))
first_within site before k (l ∷ ls) is = by (waits_for site l) refl (first_within site (suc before) k ls)
  where
    by : (b : Bool) → waits_for site l ≡ b → (first_to site (suc before) ls ≡ suc k → k < suc before + length ls) → k < before + suc (length ls)
    by true here more = (let e : suc before ≡ suc k = sym (rw here refl) ∙ is in omega (arith, e))
    by false other more = (let e : k < suc before + length ls = more (sym (rw other refl) ∙ is) in omega (arith, e))

-- one more
abbrev or_then : ℕ → ℕ → ℕ
or_then zero b = b
or_then (suc a) b = suc a

or_none : (a : ℕ) → or_then a 0 ≡ a
or_none zero = refl
or_none (suc a) = refl

or_kept : (a b : ℕ) → 0 < a → or_then a b ≡ a
or_kept zero b some = absurd (omega (arith, some))
or_kept (suc a) b some = refl

first_push : (site before : ℕ) (ls : List Link) (new : Link) →
    first_to site before (ls ++ new ∷ []) ≡ or_then (first_to site before ls) (if waits_for site new then suc (before + length ls) else 0)
first_push site before [] new = ap (λ (k : ℕ). if waits_for site new then suc k else 0) (let plain : before ≡ before + 0 = omega arith in plain)
first_push site before (l ∷ ls) new = by (waits_for site l) refl (first_push site (suc before) ls new)
  where
    by : (b : Bool) → waits_for site l ≡ b →
        first_to site (suc before) (ls ++ new ∷ []) ≡ or_then (first_to site (suc before) ls) (if waits_for site new then suc (suc before + length ls) else 0) →
        first_to site before (l ∷ (ls ++ new ∷ [])) ≡ or_then (first_to site before (l ∷ ls)) (if waits_for site new then suc (before + suc (length ls)) else 0)
    by true here more = rw here refl
    by false other more =
        rw other (more ∙ ap (λ (k : ℕ). or_then (first_to site (suc before) ls) (if waits_for site new then suc k else 0))
        (let plain : suc before + length ls ≡ before + suc (length ls) = omega arith in plain))

pub push_other : (site before : ℕ) (ls : List Link) (new : Link) → waits_for site new ≡ false →
    first_to site before (ls ++ new ∷ []) ≡ first_to site before ls
push_other site before ls new other =
    first_push site before ls new
    ∙ ap (or_then (first_to site before ls)) (let none : (if waits_for site new then suc (before + length ls) else 0) ≡ 0 = rw other refl in none)
    ∙ or_none (first_to site before ls)

pub push_first : (site before : ℕ) (ls : List Link) (new : Link) → first_to site before ls ≡ 0 → waits_for site new ≡ true →
    first_to site before (ls ++ new ∷ []) ≡ suc (before + length ls)
push_first site before ls new none here =
    first_push site before ls new
    ∙ ap (or_then (first_to site before ls)) (let last : (if waits_for site new then suc (before + length ls) else 0) ≡ suc (before + length ls) = rw here refl in last)
    ∙ ap (λ (k : ℕ). or_then k (suc (before + length ls))) none

pub push_kept : (site before : ℕ) (ls : List Link) (new : Link) → 0 < first_to site before ls →
    first_to site before (ls ++ new ∷ []) ≡ first_to site before ls
push_kept site before ls new some =
    first_push site before ls new ∙ or_kept (first_to site before ls) (if waits_for site new then suc (before + length ls) else 0) some

-- one that names another next one
abbrev pub nexted : List Link → ℕ → ℕ → List Link
nexted [] at next = []
nexted (l ∷ ls) zero next = record l { next = next } ∷ ls
nexted (l ∷ ls) (suc at) next = l ∷ nexted ls at next

pub first_nexted : (site before : ℕ) (ls : List Link) (at n : ℕ) → first_to site before (nexted ls at n) ≡ first_to site before ls
first_nexted site before [] at n = refl
first_nexted site before (l ∷ ls) zero n = refl
first_nexted site before (l ∷ ls) (suc at) n = ap (λ (k : ℕ). if waits_for site l then suc before else k) (first_nexted site (suc before) ls at n)

pub length_nexted : (ls : List Link) (at n : ℕ) → length (nexted ls at n) ≡ length ls
length_nexted [] at n = refl
length_nexted (l ∷ ls) zero n = refl
length_nexted (l ∷ ls) (suc at) n = ap suc (length_nexted ls at n)

pub left_nexted : (ls : List Link) (at n : ℕ) → left_in (nexted ls at n) ≡ left_in ls
left_nexted [] at n = refl
left_nexted (l ∷ ls) zero n = refl
left_nexted (l ∷ ls) (suc at) n = ap (λ (k : ℕ). if l.live then suc k else k) (left_nexted ls at n)

-- the last one to a site
pub both : (site : ℕ) (l : Link) → (if waits_for site l then l.next == 0 else false) ≡ true → (waits_for site l ≡ true) × (l.next ≡ 0)
both site l is = by (waits_for site l) refl
  where
    by : (b : Bool) → waits_for site l ≡ b → (waits_for site l ≡ true) × (l.next ≡ 0)
    by true here = (let test : (l.next == 0) ≡ true = sym (rw here refl) ∙ is in (here, eqb-true l.next 0 test))
    by false other = (let bad : false ≡ true = sym (rw other refl) ∙ is in absurd cc)

ends_here : (site before : ℕ) (l : Link) (ls : List Link) → ends_at site (suc (before + 0)) before (l ∷ ls) ≡ true → (waits_for site l ≡ true) × (l.next ≡ 0)
ends_here site before l ls is =
    let there : (suc (before + 0) == suc before) ≡ true = eq-eqb (suc (before + 0)) (suc before) (omega arith) in
    let inner : (if waits_for site l then l.next == 0 else false) ≡ true = sym (rw there refl) ∙ is in
    both site l inner

ends_later : (site before at : ℕ) (l : Link) (ls : List Link) → ends_at site (suc (before + suc at)) before (l ∷ ls) ≡ true →
    ends_at site (suc (suc before + at)) (suc before) ls ≡ true
ends_later site before at l ls is =
    let away : (suc (before + suc at) == suc before) ≡ false = ne_eqb (suc (before + suc at)) (suc before) (λ e. omega (arith, e)) in
    let inner : ends_at site (suc (before + suc at)) (suc before) ls ≡ true = sym (rw away refl) ∙ is in
    subst (λ (k : ℕ). ends_at site k (suc before) ls ≡ true) (let plain : suc (before + suc at) ≡ suc (suc before + at) = omega arith in plain) inner

pub ends_some : (site place before : ℕ) (ls : List Link) → ends_at site place before ls ≡ true → 0 < first_to site before ls
ends_some site place before [] is = absurd cc
ends_some site place before (l ∷ ls) is = by (waits_for site l) refl (place == suc before) refl (ends_some site place (suc before) ls)
  where
    by : (b : Bool) → waits_for site l ≡ b → (c : Bool) → (place == suc before) ≡ c →
        (ends_at site place (suc before) ls ≡ true → 0 < first_to site (suc before) ls) → 0 < first_to site before (l ∷ ls)
    by true here c is_c more =
        let e : first_to site before (l ∷ ls) ≡ suc before = rw here refl in
        subst (λ (k : ℕ). 0 < k) (sym e) (let some : 0 < suc before = omega arith in some)
    by false other true there more = (let bad : false ≡ true = sym (rw there (rw other refl)) ∙ is in absurd cc)
    by false other false away more =
        let e : first_to site before (l ∷ ls) ≡ first_to site (suc before) ls = rw other refl in
        subst (λ (k : ℕ). 0 < k) (sym e) (more (sym (rw away refl) ∙ is))

pub ends_within : (site place before : ℕ) (ls : List Link) → ends_at site place before ls ≡ true → (before < place) × (place ≤ before + length ls)
ends_within site place before [] is = absurd cc
ends_within site place before (l ∷ ls) is = by (place == suc before) refl (ends_within site place (suc before) ls)
  where
    by : (c : Bool) → (place == suc before) ≡ c →
        (ends_at site place (suc before) ls ≡ true → (suc before < place) × (place ≤ suc before + length ls)) → (before < place) × (place ≤ before + suc (length ls))
    by true there more = (let e : place ≡ suc before = eqb-true place (suc before) there in (omega (arith, e), omega (arith, e)))
    by false away more =
        let rest : (suc before < place) × (place ≤ suc before + length ls) = more (sym (rw away refl) ∙ is) in
        let low : suc before < place = rest.0 in
        let high : place ≤ suc before + length ls = rest.1 in
        (omega (arith, low), omega (arith, high))

-- one more behind them is the last one, and any other stays the last one
pub ends_push : (site place before : ℕ) (ls : List Link) (new : Link) → place ≡ suc (before + length ls) → waits_for site new ≡ true → new.next ≡ 0 →
    ends_at site place before (ls ++ new ∷ []) ≡ true
ends_push site place before [] new is waits none =
    let there : (place == suc before) ≡ true = eq-eqb place (suc before) (omega (arith, is)) in
    rw there (rw waits (eq-eqb new.next 0 none))
ends_push site place before (l ∷ ls) new is waits none =
    let away : (place == suc before) ≡ false = ne_eqb place (suc before) (λ e. omega (arith, e, is)) in
    let next : place ≡ suc (suc before + length ls) = omega (arith, is) in
    rw away (ends_push site place (suc before) ls new next waits none)

pub ends_stay : (site place before : ℕ) (ls : List Link) (new : Link) → ends_at site place before ls ≡ true → ends_at site place before (ls ++ new ∷ []) ≡ true
ends_stay site place before [] new is = absurd cc
ends_stay site place before (l ∷ ls) new is = by (place == suc before) refl (ends_stay site place (suc before) ls new)
  where
    by : (c : Bool) → (place == suc before) ≡ c → (ends_at site place (suc before) ls ≡ true → ends_at site place (suc before) (ls ++ new ∷ []) ≡ true) →
        ends_at site place before (l ∷ (ls ++ new ∷ [])) ≡ true
    by true there more = (let inner : (if waits_for site l then l.next == 0 else false) ≡ true = sym (rw there refl) ∙ is in rw there inner)
    by false away more = (let inner : ends_at site place (suc before) ls ≡ true = sym (rw away refl) ∙ is in rw away (more inner))

-- another site's stays the last one when one names a next one
pub ends_nexted : (site t place before : ℕ) (ls : List Link) (at n : ℕ) → (t ≡ site → ⊥) → ends_at site (suc (before + at)) before ls ≡ true →
    ends_at t place before ls ≡ true → ends_at t place before (nexted ls at n) ≡ true
ends_nexted site t place before [] at n differ last is = absurd cc
ends_nexted site t place before (l ∷ ls) zero n differ last is = by (place == suc before) refl
  where
    here : (waits_for site l ≡ true) × (l.next ≡ 0)
    here = ends_here site before l ls last

    by : (c : Bool) → (place == suc before) ≡ c → ends_at t place before (nexted (l ∷ ls) zero n) ≡ true
    by true there =
        let inner : (if waits_for t l then l.next == 0 else false) ≡ true = sym (rw there refl) ∙ is in
        absurd (differ (sym (waits_to t l (both t l inner).0) ∙ waits_to site l here.0))
    by false away = (let inner : ends_at t place (suc before) ls ≡ true = sym (rw away refl) ∙ is in rw away inner)
ends_nexted site t place before (l ∷ ls) (suc at) n differ last is =
    by (place == suc before) refl (ends_nexted site t place (suc before) ls at n differ (ends_later site before at l ls last))
  where
    by : (c : Bool) → (place == suc before) ≡ c → (ends_at t place (suc before) ls ≡ true → ends_at t place (suc before) (nexted ls at n) ≡ true) →
        ends_at t place before (l ∷ nexted ls at n) ≡ true
    by true there more = (let inner : (if waits_for t l then l.next == 0 else false) ≡ true = sym (rw there refl) ∙ is in rw there inner)
    by false away more = (let inner : ends_at t place (suc before) ls ≡ true = sym (rw away refl) ∙ is in rw away (more inner))

-- the first one that waits for a site is added
pub links_push : (site before : ℕ) (ls : List Link) (new : Link) → AreLinked before ls → first_to site before ls ≡ 0 → new.to ≡ site → new.next ≡ 0 →
    AreLinked before (ls ++ new ∷ [])
links_push site before [] new are none to ends = (λ live. ends, tt)
links_push site before (l ∷ ls) new are none to ends = by (waits_for site l) refl (λ e. links_push site (suc before) ls new are.1 e to ends)
  where
    by : (b : Bool) → waits_for site l ≡ b → (first_to site (suc before) ls ≡ 0 → AreLinked (suc before) (ls ++ new ∷ [])) →
        AreLinked before (l ∷ (ls ++ new ∷ []))
    by true here more = (let bad : suc before ≡ 0 = sym (rw here refl) ∙ none in absurd (omega (arith, bad)))
    by false other more = (
      λ live. are.0 live ∙ sym (push_other l.to (suc before) ls new (waits_not site l.to new to (elsewhere site l other live))),
      more (sym (rw other refl) ∙ none),
    )

-- or the next one, which the last one names
pub links_behind : (site before : ℕ) (ls : List Link) (at n : ℕ) (new : Link) → AreLinked before ls → ends_at site (suc (before + at)) before ls ≡ true →
    n ≡ suc (before + length ls) → new.live ≡ true → new.to ≡ site → new.next ≡ 0 → AreLinked before (nexted ls at n ++ new ∷ [])
links_behind site before [] at n new are last n_is live to ends = absurd cc
links_behind site before (l ∷ ls) zero n new are last n_is live to ends = (
  λ was. n_here ∙ sym (subst (λ (s : ℕ). first_to s (suc before) (ls ++ new ∷ []) ≡ suc (suc before + length ls)) (sym goes) pushed),
  links_push site (suc before) ls new are.1 none to ends,
)
  where
    here : (waits_for site l ≡ true) × (l.next ≡ 0)
    here = ends_here site before l ls last

    goes : l.to ≡ site
    goes = waits_to site l here.0

    none : first_to site (suc before) ls ≡ 0
    none = sym (subst (λ (s : ℕ). l.next ≡ first_to s (suc before) ls) goes (are.0 (waits_live site l here.0))) ∙ here.1

    pushed : first_to site (suc before) (ls ++ new ∷ []) ≡ suc (suc before + length ls)
    pushed = push_first site (suc before) ls new none (waits_is site new live to)

    n_here : n ≡ suc (suc before + length ls)
    n_here = omega (arith, n_is)
links_behind site before (l ∷ ls) (suc at) n new are last n_is live to ends =
    by (l.to == site) refl (links_behind site (suc before) ls at n new are.1 ahead (let next : n ≡ suc (suc before + length ls) = omega (arith, n_is) in next) live to ends)
  where
    ahead : ends_at site (suc (suc before + at)) (suc before) ls ≡ true
    ahead = ends_later site before at l ls last

    some : 0 < first_to site (suc before) (nexted ls at n)
    some = subst (λ (k : ℕ). 0 < k) (sym (first_nexted site (suc before) ls at n)) (ends_some site (suc (suc before + at)) (suc before) ls ahead)

    by : (b : Bool) → (l.to == site) ≡ b → AreLinked (suc before) (nexted ls at n ++ new ∷ []) → AreLinked before (l ∷ (nexted ls at n ++ new ∷ []))
    by true same more = (
      λ was. are.0 was
          ∙ sym (subst (λ (s : ℕ). first_to s (suc before) (nexted ls at n ++ new ∷ []) ≡ first_to s (suc before) ls) (sym (eqb-true l.to site same))
          (push_kept site (suc before) (nexted ls at n) new some ∙ first_nexted site (suc before) ls at n)),
      more,
    )
    by false differ more = (
      λ was. are.0 was
          ∙ sym (push_other l.to (suc before) (nexted ls at n) new (waits_not site l.to new to (λ e. let test : (l.to == site) ≡ true = eq-eqb l.to site e in absurd cc))
          ∙ first_nexted l.to (suc before) ls at n),
      more,
    )
