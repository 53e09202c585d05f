-- The first one to a site leaves: nothing is left of it. And the row loses what is gone at its front.
use Rattle.std.proofs.Common.{◌≡◌, ◌==◌, ◌+◌, ◌^◌, ◌<◌, ◌≤◌, if◌then◌else◌, ℕ, zero, suc, Bool, true, false, List, [], ◌∷◌, length, drop, get_or, ◌∙◌, ap, sym, subst, refl, arith}
use Rattle.e3_net.specs.Chains.{AreChained, AreLinked, Link, begins_live, ends_at, first_to, gone_before, left_in, waits_for}
use Rattle.e3_net.proofs.Chains.{both, elsewhere, first_above, waits_live, waits_not, waits_to}

-- nothing is left of the one at an index
abbrev pub emptied : List Link → ℕ → List Link
emptied [] at = []
emptied (l ∷ ls) zero = record l { live = false } ∷ ls
emptied (l ∷ ls) (suc at) = l ∷ emptied ls at

pub length_emptied : (ls : List Link) (at : ℕ) → length (emptied ls at) ≡ length ls
length_emptied [] at = refl
length_emptied (l ∷ ls) zero = refl
length_emptied (l ∷ ls) (suc at) = ap suc (length_emptied ls at)

-- where the first one to a site is not the first of the row, it is the same index later
pub ahead : (site before at : ℕ) (l : Link) (ls : List Link) → waits_for site l ≡ false → first_to site before (l ∷ ls) ≡ suc (before + suc at) →
    first_to site (suc before) ls ≡ suc (suc before + at)
ahead site before at l ls other is =
    (let e : first_to site (suc before) ls ≡ suc (before + suc at) = sym (rw other refl) ∙ is in e)
    ∙ (let plain : suc (before + suc at) ≡ suc (suc before + at) = omega arith in plain)

-- the first of the row is it only at the index 0, and no other is
pub not_later : (site before at : ℕ) (l : Link) (ls : List Link) → waits_for site l ≡ true → first_to site before (l ∷ ls) ≡ suc (before + suc at) → ⊥
not_later site before at l ls here is = (let e : suc before ≡ suc (before + suc at) = sym (rw here refl) ∙ is in omega (arith, e))

pub not_here : (site before : ℕ) (l : Link) (ls : List Link) → waits_for site l ≡ false → first_to site before (l ∷ ls) ≡ suc (before + 0) → ⊥
not_here site before l ls other is =
    let e : first_to site (suc before) ls ≡ suc (before + 0) = sym (rw other refl) ∙ is in
    let low : suc before ≤ before + 0 = first_above site (suc before) (before + 0) ls e in
    omega (arith, low)

-- what the site has first then
pub first_left : (site before at : ℕ) (ls : List Link) (u : Link) → AreLinked before ls → first_to site before ls ≡ suc (before + at) → u ≡ get_or ls at u →
    first_to site before (emptied ls at) ≡ u.next
first_left site before at [] u are is u_is = absurd (omega (arith, is))
first_left site before zero (l ∷ ls) u are is u_is = by (waits_for site l) refl
  where
    by : (b : Bool) → waits_for site l ≡ b → first_to site (suc before) ls ≡ u.next
    by true here =
        sym (subst (λ (s : ℕ). l.next ≡ first_to s (suc before) ls) (waits_to site l here) (are.0 (waits_live site l here)))
        ∙ ap (λ (v : Link). v.next) (sym u_is)
    by false other = absurd (not_here site before l ls other is)
first_left site before (suc at) (l ∷ ls) u are is u_is = by (waits_for site l) refl (λ e. first_left site (suc before) at ls u are.1 e u_is)
  where
    by : (b : Bool) → waits_for site l ≡ b → (first_to site (suc before) ls ≡ suc (suc before + at) → first_to site (suc before) (emptied ls at) ≡ u.next) →
        first_to site before (l ∷ emptied ls at) ≡ u.next
    by true here more = absurd (not_later site before at l ls here is)
    by false other more = rw other (more (ahead site before at l ls other is))

-- another site keeps its first one
pub first_stays : (site t before at : ℕ) (ls : List Link) → first_to site before ls ≡ suc (before + at) → (t ≡ site → ⊥) →
    first_to t before (emptied ls at) ≡ first_to t before ls
first_stays site t before at [] is differ = absurd (omega (arith, is))
first_stays site t before zero (l ∷ ls) is differ = by (waits_for site l) refl
  where
    by : (b : Bool) → waits_for site l ≡ b → first_to t (suc before) ls ≡ first_to t before (l ∷ ls)
    by true here = sym (let same : first_to t before (l ∷ ls) ≡ first_to t (suc before) ls = rw (waits_not site t l (waits_to site l here) differ) refl in same)
    by false other = absurd (not_here site before l ls other is)
first_stays site t before (suc at) (l ∷ ls) is differ = by (waits_for site l) refl (λ e. first_stays site t (suc before) at ls e differ)
  where
    by : (b : Bool) → waits_for site l ≡ b →
        (first_to site (suc before) ls ≡ suc (suc before + at) → first_to t (suc before) (emptied ls at) ≡ first_to t (suc before) ls) →
        first_to t before (l ∷ emptied ls at) ≡ first_to t before (l ∷ ls)
    by true here more = absurd (not_later site before at l ls here is)
    by false other more = ap (λ (k : ℕ). if waits_for t l then suc before else k) (more (ahead site before at l ls other is))

pub links_left : (site before at : ℕ) (ls : List Link) → AreLinked before ls → first_to site before ls ≡ suc (before + at) → AreLinked before (emptied ls at)
links_left site before at [] are is = absurd (omega (arith, is))
links_left site before zero (l ∷ ls) are is = (λ live. absurd cc, are.1)
links_left site before (suc at) (l ∷ ls) are is = by (waits_for site l) refl (λ e. links_left site (suc before) at ls are.1 e)
  where
    by : (b : Bool) → waits_for site l ≡ b → (first_to site (suc before) ls ≡ suc (suc before + at) → AreLinked (suc before) (emptied ls at)) →
        AreLinked before (l ∷ emptied ls at)
    by true here more = absurd (not_later site before at l ls here is)
    by false other more = (
      λ live. are.0 live ∙ sym (first_stays site l.to (suc before) at ls (ahead site before at l ls other is) (elsewhere site l other live)),
      more (ahead site before at l ls other is),
    )

-- another site keeps its last one
pub ends_other : (site t place before at : ℕ) (ls : List Link) → first_to site before ls ≡ suc (before + at) → (t ≡ site → ⊥) →
    ends_at t place before ls ≡ true → ends_at t place before (emptied ls at) ≡ true
ends_other site t place before at [] is differ ends = absurd cc
ends_other site t place before zero (l ∷ ls) is differ ends = by (waits_for site l) refl (place == suc before) refl
  where
    by : (b : Bool) → waits_for site l ≡ b → (c : Bool) → (place == suc before) ≡ c → ends_at t place before (emptied (l ∷ ls) zero) ≡ true
    by false other c is_c = absurd (not_here site before l ls other is)
    by true here true there =
        let inner : (if waits_for t l then l.next == 0 else false) ≡ true = sym (rw there refl) ∙ ends in
        absurd (differ (sym (waits_to t l (both t l inner).0) ∙ waits_to site l here))
    by true here false away = (let inner : ends_at t place (suc before) ls ≡ true = sym (rw away refl) ∙ ends in rw away inner)
ends_other site t place before (suc at) (l ∷ ls) is differ ends =
    by (waits_for site l) refl (place == suc before) refl (λ e f. ends_other site t place (suc before) at ls e differ f)
  where
    by : (b : Bool) → waits_for site l ≡ b → (c : Bool) → (place == suc before) ≡ c →
        (first_to site (suc before) ls ≡ suc (suc before + at) → ends_at t place (suc before) ls ≡ true → ends_at t place (suc before) (emptied ls at) ≡ true) →
        ends_at t place before (l ∷ emptied ls at) ≡ true
    by true here c is_c more = absurd (not_later site before at l ls here is)
    by false other true there more = (let inner : (if waits_for t l then l.next == 0 else false) ≡ true = sym (rw there refl) ∙ ends in rw there inner)
    by false other false away more =
        (let inner : ends_at t place (suc before) ls ≡ true = sym (rw away refl) ∙ ends in rw away (more (ahead site before at l ls other is) inner))

-- and so does the site, if one is left
pub ends_own : (site place before at : ℕ) (ls : List Link) → AreLinked before ls → first_to site before ls ≡ suc (before + at) →
    0 < first_to site before (emptied ls at) → ends_at site place before ls ≡ true → ends_at site place before (emptied ls at) ≡ true
ends_own site place before at [] are is some ends = absurd cc
ends_own site place before zero (l ∷ ls) are is some ends = by (waits_for site l) refl (place == suc before) refl
  where
    by : (b : Bool) → waits_for site l ≡ b → (c : Bool) → (place == suc before) ≡ c → ends_at site place before (emptied (l ∷ ls) zero) ≡ true
    by false other c is_c = absurd (not_here site before l ls other is)
    by true here true there =
        let inner : (if waits_for site l then l.next == 0 else false) ≡ true = sym (rw there refl) ∙ ends in
        let none : first_to site (suc before) ls ≡ 0 =
        sym (subst (λ (s : ℕ). l.next ≡ first_to s (suc before) ls) (waits_to site l here) (are.0 (waits_live site l here))) ∙ (both site l inner).1 in
        let bad : 0 < 0 = subst (λ (k : ℕ). 0 < k) none some in absurd (omega (arith, bad))
    by true here false away = (let inner : ends_at site place (suc before) ls ≡ true = sym (rw away refl) ∙ ends in rw away inner)
ends_own site place before (suc at) (l ∷ ls) are is some ends =
    by (waits_for site l) refl (place == suc before) refl (λ e f g. ends_own site place (suc before) at ls are.1 e f g)
  where
    by : (b : Bool) → waits_for site l ≡ b → (c : Bool) → (place == suc before) ≡ c →
        (first_to site (suc before) ls ≡ suc (suc before + at) → 0 < first_to site (suc before) (emptied ls at) → ends_at site place (suc before) ls ≡ true →
        ends_at site place (suc before) (emptied ls at) ≡ true) →
        ends_at site place before (l ∷ emptied ls at) ≡ true
    by true here c is_c more = absurd (not_later site before at l ls here is)
    by false other true there more = (let inner : (if waits_for site l then l.next == 0 else false) ≡ true = sym (rw there refl) ∙ ends in rw there inner)
    by false other false away more =
        let inner : ends_at site place (suc before) ls ≡ true = sym (rw away refl) ∙ ends in
        let same : first_to site before (l ∷ emptied ls at) ≡ first_to site (suc before) (emptied ls at) = rw other refl in
        rw away (more (ahead site before at l ls other is) (subst (λ (k : ℕ). 0 < k) same some) inner)

-- one fewer waits
pub left_less : (site before at : ℕ) (ls : List Link) → first_to site before ls ≡ suc (before + at) → suc (left_in (emptied ls at)) ≡ left_in ls
left_less site before at [] is = absurd (omega (arith, is))
left_less site before zero (l ∷ ls) is = by (waits_for site l) refl
  where
    by : (b : Bool) → waits_for site l ≡ b → suc (left_in ls) ≡ left_in (l ∷ ls)
    by true here = rw (waits_live site l here) refl
    by false other = absurd (not_here site before l ls other is)
left_less site before (suc at) (l ∷ ls) is = by (waits_for site l) refl l.live refl (λ e. left_less site (suc before) at ls e)
  where
    by : (b : Bool) → waits_for site l ≡ b → (c : Bool) → l.live ≡ c →
        (first_to site (suc before) ls ≡ suc (suc before + at) → suc (left_in (emptied ls at)) ≡ left_in ls) →
        suc (left_in (l ∷ emptied ls at)) ≡ left_in (l ∷ ls)
    by true here c is_c more = absurd (not_later site before at l ls here is)
    by false other true live more = rw live (ap suc (more (ahead site before at l ls other is)))
    by false other false dead more = rw dead (more (ahead site before at l ls other is))

pub left_few : (ls : List Link) → left_in ls ≤ length ls
left_few [] = omega arith
left_few (l ∷ ls) = by l.live refl (left_few ls)
  where
    by : (b : Bool) → l.live ≡ b → left_in ls ≤ length ls → left_in (l ∷ ls) ≤ suc (length ls)
    by true live few = rw live (omega (arith, few))
    by false dead few = rw dead (omega (arith, few))

-- what is gone at the front leaves the row
chained_later : (before : ℕ) (l : Link) (ls : List Link) (firsts lasts : List ℕ) (count : ℕ) → l.live ≡ false →
    AreChained before (l ∷ ls) firsts lasts count → AreChained (suc before) ls firsts lasts count
chained_later before l ls firsts lasts count dead was = record {
  begins = λ site. was.begins site ∙ first_same site;
  ends = λ site some. ends_same site (get_or lasts site 0) (was.ends site (subst (λ (k : ℕ). 0 < k) (sym (first_same site)) some));
  linked = was.linked.1;
  number = was.number ∙ (let same : left_in (l ∷ ls) ≡ left_in ls = rw dead refl in same);
  few = (let few : before + suc (length ls) < 2 ^ 64 = was.few in omega (arith, few));
  first_places = was.first_places;
  last_places = was.last_places;
}
  where
    first_same : (site : ℕ) → first_to site before (l ∷ ls) ≡ first_to site (suc before) ls
    first_same site = rw dead refl

    ends_same : (site place : ℕ) → ends_at site place before (l ∷ ls) ≡ true → ends_at site place (suc before) ls ≡ true
    ends_same site place is = by (place == suc before) refl
      where
        by : (c : Bool) → (place == suc before) ≡ c → ends_at site place (suc before) ls ≡ true
        by true there = (let bad : false ≡ true = sym (rw there (rw dead refl)) ∙ is in absurd cc)
        by false away = sym (rw away refl) ∙ is

pub chained_front : (before : ℕ) (ls : List Link) (firsts lasts : List ℕ) (count : ℕ) → AreChained before ls firsts lasts count →
    AreChained (before + gone_before ls) (drop (gone_before ls) ls) firsts lasts count
chained_front before [] firsts lasts count was = subst (λ (k : ℕ). AreChained k [] firsts lasts count) (let plain : before ≡ before + 0 = omega arith in plain) was
chained_front before (l ∷ ls) firsts lasts count was = by l.live refl (λ c. chained_front (suc before) ls firsts lasts count c)
  where
    by : (b : Bool) → l.live ≡ b →
        (AreChained (suc before) ls firsts lasts count → AreChained (suc before + gone_before ls) (drop (gone_before ls) ls) firsts lasts count) →
        AreChained (before + gone_before (l ∷ ls)) (drop (gone_before (l ∷ ls)) (l ∷ ls)) firsts lasts count
    by true live more =
        let none : gone_before (l ∷ ls) ≡ 0 = rw live refl in
        subst (λ (d : ℕ). AreChained (before + d) (drop d (l ∷ ls)) firsts lasts count) (sym none)
        (subst (λ (k : ℕ). AreChained k (l ∷ ls) firsts lasts count) (let plain : before ≡ before + 0 = omega arith in plain) was)
    by false dead more =
        let some : gone_before (l ∷ ls) ≡ suc (gone_before ls) = rw dead refl in
        subst (λ (d : ℕ). AreChained (before + d) (drop d (l ∷ ls)) firsts lasts count) (sym some)
        (subst (λ (k : ℕ). AreChained k (drop (gone_before ls) ls) firsts lasts count) (let plain : suc before + gone_before ls ≡ before + suc (gone_before ls) = omega arith in plain)
        (more (chained_later before l ls firsts lasts count dead was)))

pub live_front : (ls : List Link) → begins_live (drop (gone_before ls) ls) ≡ true
live_front [] = refl
live_front (l ∷ ls) = by l.live refl (live_front ls)
  where
    by : (b : Bool) → l.live ≡ b → begins_live (drop (gone_before ls) ls) ≡ true → begins_live (drop (gone_before (l ∷ ls)) (l ∷ ls)) ≡ true
    by true live rest = (let none : gone_before (l ∷ ls) ≡ 0 = rw live refl in subst (λ (d : ℕ). begins_live (drop d (l ∷ ls)) ≡ true) (sym none) live)
    by false dead rest = (let some : gone_before (l ∷ ls) ≡ suc (gone_before ls) = rw dead refl in subst (λ (d : ℕ). begins_live (drop d (l ∷ ls)) ≡ true) (sym some) rest)
