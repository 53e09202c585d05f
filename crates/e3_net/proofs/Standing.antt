-- A queue goes on to stand: at first, with one more packet, and when nothing is left of the first one to a site.
use Rattle.std.proofs.Common.{◌≡◌, ◌==◌, ◌-◌, ◌+◌, ◌^◌, ◌<◌, ◌≤◌, ℕ, zero, suc, Bool, true, false, List, [], ◌∷◌, ◌++◌, length, drop, get_or, set, ◌∙◌, ap, sym, subst, refl, arith, eq-eqb, eqb-true}
use Rattle.std.specs.Prelude.{replicate}
use Rattle.std.proofs.lemmas.List.{get_or-set_other, get_or-set_same, length-replicate, length-set, length_push}
use Rattle.e3_net.specs.Chains.{AreChained, Link, QueueStands, begins_live, ends_at, first_to, gone_before, left_in}
use Rattle.e3_net.proofs.Chains.{ends_nexted, ends_push, ends_stay, ends_within, first_above, first_nexted, first_within, left_nexted, length_nexted, links_behind, links_push, nexted, push_first, push_kept, push_other, waits_is, waits_not}
use Rattle.e3_net.proofs.Leaving.{chained_front, emptied, ends_other, ends_own, first_left, first_stays, left_less, length_emptied, links_left, live_front}

no_place : (n site : ℕ) → get_or {A = ℕ} (replicate n 0) site 0 ≡ 0
no_place zero site = refl
no_place (suc n) zero = refl
no_place (suc n) (suc site) = no_place n site

pub new_stands : (firsts lasts : List ℕ) → firsts ≡ replicate 65 0 → lasts ≡ replicate 65 0 → QueueStands 0 [] firsts lasts 0
new_stands firsts lasts is also = record {
  chained = record {
    begins = λ site. ap (λ (l : List ℕ). get_or l site 0) is ∙ no_place 65 site;
    ends = λ site some. absurd (omega (arith, some));
    linked = tt;
    number = refl;
    few = omega arith;
    first_places = ap length is ∙ length-replicate {A = ℕ} 65 0;
    last_places = ap length also ∙ length-replicate {A = ℕ} 65 0;
  };
  front = refl;
}

-- the index of a place
pub record IsPlace (site before : ℕ) (ls : List Link) (place : ℕ) : Type 0 where
  pub above : before < place
  pub within : place - before - 1 < length ls
  pub first : first_to site before ls ≡ suc (before + (place - before - 1))

pub place_is : (site before place : ℕ) (ls : List Link) → place ≡ first_to site before ls → 0 < place → IsPlace site before ls place
place_is site before zero ls is some = absurd (omega (arith, some))
place_is site before (suc k) ls is some =
    let low : before ≤ k = first_above site before k ls (sym is) in
    let high : k < before + length ls = first_within site before k ls (sym is) in
    record {
      above = omega (arith, low);
      within = omega (arith, low, high);
      first = sym is ∙ (let plain : suc k ≡ suc (before + (suc k - before - 1)) = omega (arith, low) in plain);
    }

-- one more
left_push : (ls : List Link) (new : Link) → new.live ≡ true → left_in (ls ++ new ∷ []) ≡ left_in ls + 1
left_push [] new live = rw live (omega arith)
left_push (l ∷ ls) new live = by l.live refl (left_push ls new live)
  where
    by : (b : Bool) → l.live ≡ b → left_in (ls ++ new ∷ []) ≡ left_in ls + 1 → left_in (l ∷ (ls ++ new ∷ [])) ≡ left_in (l ∷ ls) + 1
    by true is more = rw is (omega (arith, more))
    by false is more = rw is more

front_push : (ls : List Link) (new : Link) → new.live ≡ true → begins_live ls ≡ true → begins_live (ls ++ new ∷ []) ≡ true
front_push [] new live front = live
front_push (l ∷ ls) new live front = front

front_nexted : (ls : List Link) (at n : ℕ) → begins_live ls ≡ true → begins_live (nexted ls at n) ≡ true
front_nexted [] at n front = front
front_nexted (l ∷ ls) zero n front = front
front_nexted (l ∷ ls) (suc at) n front = front

differs : (t site : ℕ) → (t == site) ≡ false → t ≡ site → ⊥
differs t site away e = (let test : (t == site) ≡ true = eq-eqb t site e in absurd cc)

-- the first to its site
pub add_first : (before : ℕ) (ls : List Link) (firsts lasts : List ℕ) (count site place : ℕ) (new : Link) → QueueStands before ls firsts lasts count →
    get_or firsts site 0 ≡ 0 → site < 65 → place ≡ suc (before + length ls) → place < 2 ^ 64 → new.live ≡ true → new.to ≡ site → new.next ≡ 0 →
    QueueStands before (ls ++ new ∷ []) (set firsts site place) (set lasts site place) (count + 1)
add_first before ls firsts lasts count site place new was empty low is few live to end = record {
  chained = record {
    begins = λ t. begins t (t == site) refl;
    ends = λ t some. ends t some (t == site) refl;
    linked = links_push site before ls new was.chained.linked none to end;
    number = ap (λ (k : ℕ). k + 1) was.chained.number ∙ sym (left_push ls new live);
    few = (let long : length (ls ++ new ∷ []) ≡ length ls + 1 = length_push ls new in omega (arith, long, is, few));
    first_places = length-set firsts site place ∙ was.chained.first_places;
    last_places = length-set lasts site place ∙ was.chained.last_places;
  };
  front = front_push ls new live was.front;
}
  where
    none : first_to site before ls ≡ 0
    none = sym (was.chained.begins site) ∙ empty

    first_within_table : site < length firsts
    first_within_table = (let many : length firsts ≡ 65 = was.chained.first_places in omega (arith, low, many))

    last_within_table : site < length lasts
    last_within_table = (let many : length lasts ≡ 65 = was.chained.last_places in omega (arith, low, many))

    begins : (t : ℕ) (b : Bool) → (t == site) ≡ b → get_or (set firsts site place) t 0 ≡ first_to t before (ls ++ new ∷ [])
    begins t true same =
        subst (λ (k : ℕ). get_or (set firsts site place) k 0 ≡ first_to k before (ls ++ new ∷ [])) (sym (eqb-true t site same))
        (get_or-set_same firsts site place 0 first_within_table ∙ is ∙ sym (push_first site before ls new none (waits_is site new live to)))
    begins t false away =
        get_or-set_other firsts site t place 0 (differs t site away)
        ∙ was.chained.begins t
        ∙ sym (push_other t before ls new (waits_not site t new to (differs t site away)))

    ends : (t : ℕ) → 0 < first_to t before (ls ++ new ∷ []) → (b : Bool) → (t == site) ≡ b →
        ends_at t (get_or (set lasts site place) t 0) before (ls ++ new ∷ []) ≡ true
    ends t some true same =
        subst (λ (k : ℕ). ends_at k (get_or (set lasts site place) k 0) before (ls ++ new ∷ []) ≡ true) (sym (eqb-true t site same))
        (ends_push site (get_or (set lasts site place) site 0) before ls new (get_or-set_same lasts site place 0 last_within_table ∙ is) (waits_is site new live to) end)
    ends t some false away =
        subst (λ (k : ℕ). ends_at t k before (ls ++ new ∷ []) ≡ true) (sym (get_or-set_other lasts site t place 0 (differs t site away)))
        (ends_stay t (get_or lasts t 0) before ls new (was.chained.ends t
        (subst (λ (k : ℕ). 0 < k) (push_other t before ls new (waits_not site t new to (differs t site away))) some)))

-- one behind the last to its site
pub add_behind : (before : ℕ) (ls : List Link) (firsts lasts : List ℕ) (count site place at : ℕ) (new : Link) → QueueStands before ls firsts lasts count →
    0 < get_or firsts site 0 → at ≡ get_or lasts site 0 - before - 1 → site < 65 → place ≡ suc (before + length ls) → place < 2 ^ 64 →
    new.live ≡ true → new.to ≡ site → new.next ≡ 0 →
    QueueStands before (nexted ls at place ++ new ∷ []) firsts (set lasts site place) (count + 1)
add_behind before ls firsts lasts count site place at new was has at_is low is few live to end = record {
  chained = record {
    begins = λ t. was.chained.begins t ∙ sym (begins t (t == site) refl);
    ends = λ t some. ends t some (t == site) refl;
    linked = links_behind site before ls at place new was.chained.linked last is live to end;
    number = ap (λ (k : ℕ). k + 1) (was.chained.number ∙ sym (left_nexted ls at place)) ∙ sym (left_push (nexted ls at place) new live);
    few = (let long : length (nexted ls at place ++ new ∷ []) ≡ length (nexted ls at place) + 1 = length_push (nexted ls at place) new in
        let same : length (nexted ls at place) ≡ length ls = length_nexted ls at place in omega (arith, long, same, is, few));
    first_places = was.chained.first_places;
    last_places = length-set lasts site place ∙ was.chained.last_places;
  };
  front = front_push (nexted ls at place) new live (front_nexted ls at place was.front);
}
  where
    some_first : 0 < first_to site before ls
    some_first = subst (λ (k : ℕ). 0 < k) (was.chained.begins site) has

    ends_there : ends_at site (get_or lasts site 0) before ls ≡ true
    ends_there = was.chained.ends site some_first

    last : ends_at site (suc (before + at)) before ls ≡ true
    last =
        let around : (before < get_or lasts site 0) × (get_or lasts site 0 ≤ before + length ls) = ends_within site (get_or lasts site 0) before ls ends_there in
        let above : before < get_or lasts site 0 = around.0 in
        subst (λ (k : ℕ). ends_at site k before ls ≡ true) (let plain : get_or lasts site 0 ≡ suc (before + at) = omega (arith, above, at_is) in plain) ends_there

    last_within_table : site < length lasts
    last_within_table = (let many : length lasts ≡ 65 = was.chained.last_places in omega (arith, low, many))

    other : (t : ℕ) → (t == site) ≡ false → first_to t before (nexted ls at place ++ new ∷ []) ≡ first_to t before ls
    other t away = push_other t before (nexted ls at place) new (waits_not site t new to (differs t site away)) ∙ first_nexted t before ls at place

    begins : (t : ℕ) (b : Bool) → (t == site) ≡ b → first_to t before (nexted ls at place ++ new ∷ []) ≡ first_to t before ls
    begins t true same =
        subst (λ (k : ℕ). first_to k before (nexted ls at place ++ new ∷ []) ≡ first_to k before ls) (sym (eqb-true t site same))
        (push_kept site before (nexted ls at place) new (subst (λ (k : ℕ). 0 < k) (sym (first_nexted site before ls at place)) some_first) ∙ first_nexted site before ls at place)
    begins t false away = other t away

    ends : (t : ℕ) → 0 < first_to t before (nexted ls at place ++ new ∷ []) → (b : Bool) → (t == site) ≡ b →
        ends_at t (get_or (set lasts site place) t 0) before (nexted ls at place ++ new ∷ []) ≡ true
    ends t some true same =
        subst (λ (k : ℕ). ends_at k (get_or (set lasts site place) k 0) before (nexted ls at place ++ new ∷ []) ≡ true) (sym (eqb-true t site same))
        (ends_push site (get_or (set lasts site place) site 0) before (nexted ls at place) new
        (get_or-set_same lasts site place 0 last_within_table ∙ is ∙ ap (λ (k : ℕ). suc (before + k)) (sym (length_nexted ls at place))) (waits_is site new live to) end)
    ends t some false away =
        subst (λ (k : ℕ). ends_at t k before (nexted ls at place ++ new ∷ []) ≡ true) (sym (get_or-set_other lasts site t place 0 (differs t site away)))
        (ends_stay t (get_or lasts t 0) before (nexted ls at place) new
        (ends_nexted site t (get_or lasts t 0) before ls at place (differs t site away) last (was.chained.ends t (subst (λ (k : ℕ). 0 < k) (other t away) some))))

-- the first one to a site leaves
pub leaves : (before : ℕ) (ls : List Link) (firsts lasts : List ℕ) (count site at : ℕ) (u : Link) → QueueStands before ls firsts lasts count →
    first_to site before ls ≡ suc (before + at) → u ≡ get_or ls at u → site < 65 →
    AreChained before (emptied ls at) (set firsts site u.next) lasts (count - 1)
leaves before ls firsts lasts count site at u was is u_is low = record {
  begins = λ t. begins t (t == site) refl;
  ends = λ t some. ends t some (t == site) refl;
  linked = links_left site before at ls was.chained.linked is;
  number = (let less : suc (left_in (emptied ls at)) ≡ left_in ls = left_less site before at ls is in
      let all : count ≡ left_in ls = was.chained.number in omega (arith, less, all));
  few = (let same : length (emptied ls at) ≡ length ls = length_emptied ls at in let few : before + length ls < 2 ^ 64 = was.chained.few in omega (arith, same, few));
  first_places = length-set firsts site u.next ∙ was.chained.first_places;
  last_places = was.chained.last_places;
}
  where
    within_table : site < length firsts
    within_table = (let many : length firsts ≡ 65 = was.chained.first_places in omega (arith, low, many))

    begins : (t : ℕ) (b : Bool) → (t == site) ≡ b → get_or (set firsts site u.next) t 0 ≡ first_to t before (emptied ls at)
    begins t true same =
        subst (λ (k : ℕ). get_or (set firsts site u.next) k 0 ≡ first_to k before (emptied ls at)) (sym (eqb-true t site same))
        (get_or-set_same firsts site u.next 0 within_table ∙ sym (first_left site before at ls u was.chained.linked is u_is))
    begins t false away =
        get_or-set_other firsts site t u.next 0 (differs t site away) ∙ was.chained.begins t ∙ sym (first_stays site t before at ls is (differs t site away))

    ends : (t : ℕ) → 0 < first_to t before (emptied ls at) → (b : Bool) → (t == site) ≡ b → ends_at t (get_or lasts t 0) before (emptied ls at) ≡ true
    ends t some true same =
        let is_site : t ≡ site = eqb-true t site same in
        subst (λ (k : ℕ). ends_at k (get_or lasts k 0) before (emptied ls at) ≡ true) (sym is_site)
        (ends_own site (get_or lasts site 0) before at ls was.chained.linked is (subst (λ (k : ℕ). 0 < first_to k before (emptied ls at)) is_site some)
        (was.chained.ends site (subst (λ (k : ℕ). 0 < k) (sym is) (let plain : 0 < suc (before + at) = omega arith in plain))))
    ends t some false away =
        ends_other site t (get_or lasts t 0) before at ls is (differs t site away)
        (was.chained.ends t (subst (λ (k : ℕ). 0 < k) (first_stays site t before at ls is (differs t site away)) some))

-- and what is gone at the front
pub front_leaves : (before : ℕ) (ls : List Link) (firsts lasts : List ℕ) (count : ℕ) → AreChained before ls firsts lasts count →
    QueueStands (before + gone_before ls) (drop (gone_before ls) ls) firsts lasts count
front_leaves before ls firsts lasts count was = record { chained = chained_front before ls firsts lasts count was; front = live_front ls }
