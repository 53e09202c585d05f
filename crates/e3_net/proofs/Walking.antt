-- From the first slot that waits for a site along the next places: the queue of the site.
use Rattle.std.proofs.Common.{◌≡◌, ◌==◌, ◌-◌, ◌+◌, ◌<◌, ◌≤◌, if◌then◌else◌, ℕ, zero, suc, Bool, true, false, List, [], ◌∷◌, ◌++◌, append-nil, append_assoc, length, take, get_or, ◌∙◌, ap, sym, subst, refl, arith, eq-eqb, eqb-true, ne_eqb, length-append}
use Rattle.std.specs.Prelude.{replicate}
use Rattle.std.proofs.lemmas.List.{get_or-map, length-replicate, take_all}
use Rattle.e3_types.specs.declared.messages.Packet.{Packet}
use Rattle.e3_net.specs.declared.slots.Slot.{Slot}
use Rattle.e3_net.specs.Chains.{AreLinked, Link, QueueStands, first_to, is_left, link_of, links, shown, waits_for}
use Rattle.e3_net.specs.Traffic.{queue_in}
use Rattle.e3_net.proofs.Chains.{first_above, waits_live, waits_to}
use Rattle.e3_net.proofs.Queues.{take_take}
use Rattle.e3_net.proofs.Rows.{left_some, length_links}

-- the queue of a site from this place on
abbrev pub queue_from : ℕ → ℕ → ℕ → List Slot → List Packet
queue_from site place before [] = []
queue_from site place before (s ∷ ss) = if place == suc before then queue_in site (shown (s ∷ ss)) else queue_from site place (suc before) ss

-- at this place stands one that waits for the site
abbrev pub waits_at : ℕ → ℕ → ℕ → List Link → Bool
waits_at site place before [] = false
waits_at site place before (l ∷ ls) = if place == suc before then waits_for site l else waits_at site place (suc before) ls

queue_skip : (site : ℕ) (s : Slot) (ss : List Slot) → waits_for site (link_of s) ≡ false → queue_in site (shown (s ∷ ss)) ≡ queue_in site (shown ss)
queue_skip site s ss other = by (is_left s.copies) refl
  where
    by : (b : Bool) → is_left s.copies ≡ b → queue_in site (shown (s ∷ ss)) ≡ queue_in site (shown ss)
    by true live = (let away : (s.packet.to == site) ≡ false = sym (rw live refl) ∙ other in rw live (rw away refl))
    by false dead = rw dead refl

queue_here : (site : ℕ) (s : Slot) (ss : List Slot) → waits_for site (link_of s) ≡ true →
    queue_in site (shown (s ∷ ss)) ≡ replicate s.copies s.packet ++ queue_in site (shown ss)
queue_here site s ss here =
    let live : is_left s.copies ≡ true = waits_live site (link_of s) here in
    let goes : (s.packet.to == site) ≡ true = eq-eqb s.packet.to site (waits_to site (link_of s) here) in
    rw live (rw goes refl)

-- a later place is not this one
not_this : (site before : ℕ) (ls : List Link) → first_to site (suc before) ls ≡ suc before → ⊥
not_this site before ls is = (let low : suc before ≤ before = first_above site (suc before) before ls is in omega (arith, low))

queue_start : (site before : ℕ) (ss : List Slot) → queue_from site (first_to site before (links ss)) before ss ≡ queue_in site (shown ss)
queue_start site before [] = refl
queue_start site before (s ∷ ss) = by (waits_for site (link_of s)) refl (queue_start site (suc before) ss)
  where
    by : (b : Bool) → waits_for site (link_of s) ≡ b → queue_from site (first_to site (suc before) (links ss)) (suc before) ss ≡ queue_in site (shown ss) →
        queue_from site (first_to site before (links (s ∷ ss))) before (s ∷ ss) ≡ queue_in site (shown (s ∷ ss))
    by true here more =
        let first : first_to site before (links (s ∷ ss)) ≡ suc before = rw here refl in
        let there : (suc before == suc before) ≡ true = eq-eqb (suc before) (suc before) refl in
        ap (λ (k : ℕ). queue_from site k before (s ∷ ss)) first
        ∙ (let at : queue_from site (suc before) before (s ∷ ss) ≡ queue_in site (shown (s ∷ ss)) = rw there refl in at)
    by false other more =
        let first : first_to site before (links (s ∷ ss)) ≡ first_to site (suc before) (links ss) = rw other refl in
        let away : (first_to site (suc before) (links ss) == suc before) ≡ false = ne_eqb (first_to site (suc before) (links ss)) (suc before) (not_this site before (links ss)) in
        ap (λ (k : ℕ). queue_from site k before (s ∷ ss)) first
        ∙ (let at : queue_from site (first_to site (suc before) (links ss)) before (s ∷ ss) ≡ queue_from site (first_to site (suc before) (links ss)) (suc before) ss = rw away refl in at)
        ∙ more
        ∙ sym (queue_skip site s ss other)

first_waits : (site before place : ℕ) (ls : List Link) → first_to site before ls ≡ place → 0 < place → waits_at site place before ls ≡ true
first_waits site before place [] is some = absurd (omega (arith, is, some))
first_waits site before place (l ∷ ls) is some = by (waits_for site l) refl (first_waits site (suc before) place ls)
  where
    by : (b : Bool) → waits_for site l ≡ b → (first_to site (suc before) ls ≡ place → 0 < place → waits_at site place (suc before) ls ≡ true) →
        waits_at site place before (l ∷ ls) ≡ true
    by true here more =
        let first : suc before ≡ place = sym (rw here refl) ∙ is in
        let there : (place == suc before) ≡ true = eq-eqb place (suc before) (sym first) in rw there here
    by false other more =
        let first : first_to site (suc before) ls ≡ place = sym (rw other refl) ∙ is in
        let away : (place == suc before) ≡ false = ne_eqb place (suc before) (λ e. not_this site before ls (first ∙ e)) in
        rw away (more first some)

at_within : (site place before : ℕ) (ls : List Link) → waits_at site place before ls ≡ true → (before < place) × (place ≤ before + length ls)
at_within site place before [] is = absurd cc
at_within site place before (l ∷ ls) is = by (place == suc before) refl (at_within site place (suc before) ls)
  where
    by : (c : Bool) → (place == suc before) ≡ c →
        (waits_at site place (suc before) ls ≡ true → (suc before < place) × (place ≤ suc before + length ls)) → (before < place) × (place ≤ before + suc (length ls))
    by true there more = (let e : place ≡ suc before = eqb-true place (suc before) there in (omega (arith, e), omega (arith, e)))
    by false away more =
        let rest : (suc before < place) × (place ≤ suc before + length ls) = more (sym (rw away refl) ∙ is) in
        let low : suc before < place = rest.0 in
        let high : place ≤ suc before + length ls = rest.1 in
        (omega (arith, low), omega (arith, high))

at_waits : (site place before i : ℕ) (ls : List Link) (u : Link) → waits_at site place before ls ≡ true → place ≡ suc (before + i) → u ≡ get_or ls i u → waits_for site u ≡ true
at_waits site place before i [] u is place_is u_is = absurd cc
at_waits site place before zero (l ∷ ls) u is place_is u_is =
    let there : (place == suc before) ≡ true = eq-eqb place (suc before) (omega (arith, place_is)) in
    let here : waits_for site l ≡ true = sym (rw there refl) ∙ is in
    subst (λ (v : Link). waits_for site v ≡ true) (sym u_is) here
at_waits site place before (suc i) (l ∷ ls) u is place_is u_is =
    let away : (place == suc before) ≡ false = ne_eqb place (suc before) (λ e. omega (arith, e, place_is)) in
    let later : waits_at site place (suc before) ls ≡ true = sym (rw away refl) ∙ is in
    at_waits site place (suc before) i ls u later (let plain : place ≡ suc (suc before + i) = omega (arith, place_is) in plain) u_is

next_above : (before i k : ℕ) (ls : List Link) (u : Link) → AreLinked before ls → u ≡ get_or ls i u → i < length ls → u.live ≡ true → u.next ≡ suc k → before + i < k
next_above before i k [] u are u_is low live is = absurd (omega (arith, low))
next_above before zero k (l ∷ ls) u are u_is low live is =
    let first : l.next ≡ first_to l.to (suc before) ls = are.0 (subst (λ (v : Link). v.live ≡ true) u_is live) in
    let next : first_to l.to (suc before) ls ≡ suc k = sym first ∙ ap (λ (v : Link). v.next) (sym u_is) ∙ is in
    let above : suc before ≤ k = first_above l.to (suc before) k ls next in omega (arith, above)
next_above before (suc i) k (l ∷ ls) u are u_is low live is =
    let above : suc before + i < k = next_above (suc before) i k ls u are.1 u_is (omega (arith, low)) live is in omega (arith, above)

not_next : (before i : ℕ) (ls : List Link) (u : Link) → AreLinked before ls → u ≡ get_or ls i u → i < length ls → u.live ≡ true → (u.next == suc before) ≡ false
not_next before i ls u are u_is low live =
    ne_eqb u.next (suc before) (λ e. let above : before + i < before = next_above before i before ls u are u_is low live e in omega (arith, above))

next_waits : (site before i : ℕ) (ls : List Link) (u : Link) → AreLinked before ls → u ≡ get_or ls i u → i < length ls → waits_for site u ≡ true → 0 < u.next →
    waits_at site u.next before ls ≡ true
next_waits site before i [] u are u_is low waits some = absurd (omega (arith, low))
next_waits site before zero (l ∷ ls) u are u_is low waits some =
    rw (not_next before zero (l ∷ ls) u are u_is low (waits_live site u waits)) (first_waits site (suc before) u.next ls first some)
  where
    here : waits_for site l ≡ true
    here = subst (λ (v : Link). waits_for site v ≡ true) u_is waits

    first : first_to site (suc before) ls ≡ u.next
    first =
        sym (subst (λ (s : ℕ). l.next ≡ first_to s (suc before) ls) (waits_to site l here) (are.0 (waits_live site l here)))
        ∙ ap (λ (v : Link). v.next) (sym u_is)
next_waits site before (suc i) (l ∷ ls) u are u_is low waits some =
    rw (not_next before (suc i) (l ∷ ls) u are u_is low (waits_live site u waits)) (next_waits site (suc before) i ls u are.1 u_is (omega (arith, low)) waits some)

found_link : (ss : List Slot) (i : ℕ) (u : Slot) → u ≡ get_or ss i u → i < length ss → link_of u ≡ get_or (links ss) i (link_of u)
found_link ss i u u_is low = ap link_of u_is ∙ sym (get_or-map link_of ss i u (link_of u) low)

queue_step : (site before i place : ℕ) (ss : List Slot) (u : Slot) → AreLinked before (links ss) → place ≡ suc (before + i) → u ≡ get_or ss i u → i < length ss →
    waits_for site (link_of u) ≡ true → queue_from site place before ss ≡ replicate u.copies u.packet ++ queue_from site u.next before ss
queue_step site before i place [] u are place_is u_is low waits = absurd (omega (arith, low))
queue_step site before zero place (s ∷ ss) u are place_is u_is low waits =
    (let at : queue_from site place before (s ∷ ss) ≡ queue_in site (shown (s ∷ ss)) = rw there refl in at)
    ∙ queue_here site s ss here
    ∙ ap (λ (l : List Packet). replicate s.copies s.packet ++ l) (sym rest)
    ∙ ap (λ (v : Slot). replicate v.copies v.packet ++ queue_from site v.next before (s ∷ ss)) (sym u_is)
  where
    there : (place == suc before) ≡ true
    there = eq-eqb place (suc before) (omega (arith, place_is))

    here : waits_for site (link_of s) ≡ true
    here = subst (λ (v : Slot). waits_for site (link_of v) ≡ true) u_is waits

    next_is : s.next ≡ first_to site (suc before) (links ss)
    next_is = subst (λ (t : ℕ). s.next ≡ first_to t (suc before) (links ss)) (waits_to site (link_of s) here) (are.0 (waits_live site (link_of s) here))

    away : (s.next == suc before) ≡ false
    away = ne_eqb s.next (suc before) (λ e. not_this site before (links ss) (sym next_is ∙ e))

    rest : queue_from site s.next before (s ∷ ss) ≡ queue_in site (shown ss)
    rest =
        (let at : queue_from site s.next before (s ∷ ss) ≡ queue_from site s.next (suc before) ss = rw away refl in at)
        ∙ ap (λ (k : ℕ). queue_from site k (suc before) ss) next_is
        ∙ queue_start site (suc before) ss
queue_step site before (suc i) place (s ∷ ss) u are place_is u_is low waits =
    (let at : queue_from site place before (s ∷ ss) ≡ queue_from site place (suc before) ss = rw away refl in at)
    ∙ queue_step site (suc before) i place ss u are.1 (let plain : place ≡ suc (suc before + i) = omega (arith, place_is) in plain) u_is (omega (arith, low)) waits
    ∙ ap (λ (l : List Packet). replicate u.copies u.packet ++ l) (sym (let at : queue_from site u.next before (s ∷ ss) ≡ queue_from site u.next (suc before) ss = rw beyond refl in at))
  where
    away : (place == suc before) ≡ false
    away = ne_eqb place (suc before) (λ e. omega (arith, e, place_is))

    beyond : (u.next == suc before) ≡ false
    beyond = not_next before (suc i) (links (s ∷ ss)) (link_of u) are (found_link (s ∷ ss) (suc i) u u_is low)
        (let same : length (links ss) ≡ length ss = length_links ss in omega (arith, low, same)) (waits_live site (link_of u) waits)

-- place 0 is none
from_none : (site before : ℕ) (ss : List Slot) → queue_from site 0 before ss ≡ []
from_none site before [] = refl
from_none site before (s ∷ ss) = (let away : (0 == suc before) ≡ false = ne_eqb 0 (suc before) (λ e. omega (arith, e)) in rw away (from_none site (suc before) ss))

-- Some packets were gathered, and the walk is at this place.
pub record Walked (most site gone : ℕ) (ss : List Slot) (few : List Packet) (place : ℕ) : Type 0 where
  pub whole : take most (few ++ queue_from site place gone ss) ≡ take most (queue_in site (shown ss))
  pub short : length few ≤ most
  pub there : 0 < place → waits_at site place gone (links ss) ≡ true

pub walk_starts : (most site gone place : ℕ) (ss : List Slot) (firsts lasts : List ℕ) (count : ℕ) → QueueStands gone (links ss) firsts lasts count → place ≡ get_or firsts site 0 →
    Walked most site gone ss [] place
walk_starts most site gone place ss firsts lasts count was is = record {
  whole = ap (take most) (ap (λ (k : ℕ). queue_from site k gone ss) first ∙ queue_start site gone ss);
  short = omega arith;
  there = λ some. first_waits site gone place (links ss) (sym first) some;
}
  where
    first : place ≡ first_to site gone (links ss)
    first = is ∙ was.chained.begins site

pub walk_index : (most site gone place : ℕ) (ss : List Slot) (few : List Packet) → Walked most site gone ss few place → 0 < place → (gone < place) × (place - gone - 1 < length ss)
walk_index most site gone place ss few so some =
    let around : (gone < place) × (place ≤ gone + length (links ss)) = at_within site place gone (links ss) (so.there some) in
    let low : gone < place = around.0 in
    let high : place ≤ gone + length (links ss) = around.1 in
    let same : length (links ss) ≡ length ss = length_links ss in
    (low, omega (arith, low, high, same))

step_at : (most site gone place : ℕ) (ss : List Slot) (few : List Packet) (w : Slot) → Walked most site gone ss few place → 0 < place → w ≡ get_or ss (place - gone - 1) w →
    waits_for site (link_of w) ≡ true
step_at most site gone place ss few w so some w_is =
    let around : (gone < place) × (place - gone - 1 < length ss) = walk_index most site gone place ss few so some in
    let low : gone < place = around.0 in
    at_waits site place gone (place - gone - 1) (links ss) (link_of w) (so.there some) (let plain : place ≡ suc (gone + (place - gone - 1)) = omega (arith, low) in plain)
    (found_link ss (place - gone - 1) w w_is around.1)

step_is : (most site gone place : ℕ) (ss : List Slot) (few : List Packet) (w : Slot) → AreLinked gone (links ss) → Walked most site gone ss few place → 0 < place →
    w ≡ get_or ss (place - gone - 1) w → queue_from site place gone ss ≡ replicate w.copies w.packet ++ queue_from site w.next gone ss
step_is most site gone place ss few w are so some w_is =
    let around : (gone < place) × (place - gone - 1 < length ss) = walk_index most site gone place ss few so some in
    let low : gone < place = around.0 in
    queue_step site gone (place - gone - 1) place ss w are (let plain : place ≡ suc (gone + (place - gone - 1)) = omega (arith, low) in plain) w_is around.1
    (step_at most site gone place ss few w so some w_is)

take_short : (n : ℕ) (xs : List Packet) → length (take n xs) ≤ n
take_short zero xs = omega arith
take_short (suc n) [] = omega arith
take_short (suc n) (x ∷ xs) = (let rest : length (take n xs) ≤ n = take_short n xs in omega (arith, rest))

pub walk_goes : (most site gone place : ℕ) (ss : List Slot) (firsts lasts : List ℕ) (count : ℕ) (few new : List Packet) (w : Slot) → QueueStands gone (links ss) firsts lasts count →
    Walked most site gone ss few place → 0 < place → w ≡ get_or ss (place - gone - 1) w → new ≡ take most (few ++ replicate w.copies w.packet) → Walked most site gone ss new w.next
walk_goes most site gone place ss firsts lasts count few new w was so some w_is new_is = record {
  whole = ap (λ (l : List Packet). take most (l ++ queue_from site w.next gone ss)) new_is
      ∙ take_take most (few ++ replicate w.copies w.packet) (queue_from site w.next gone ss)
      ∙ ap (take most) (append_assoc few (replicate w.copies w.packet) (queue_from site w.next gone ss)
      ∙ ap (λ (l : List Packet). few ++ l) (sym (step_is most site gone place ss few w was.chained.linked so some w_is)))
      ∙ so.whole;
  short = subst (λ (l : List Packet). length l ≤ most) (sym new_is) (take_short most (few ++ replicate w.copies w.packet));
  there = λ more. next_waits site gone (place - gone - 1) (links ss) (link_of w) was.chained.linked (found_link ss (place - gone - 1) w w_is within)
      (let same : length (links ss) ≡ length ss = length_links ss in omega (arith, within, same)) (step_at most site gone place ss few w so some w_is) more;
}
  where
    within : place - gone - 1 < length ss
    within = (walk_index most site gone place ss few so some).1

-- what is left of the queue gets shorter
pub walk_shrinks : (most site gone place : ℕ) (ss : List Slot) (firsts lasts : List ℕ) (count : ℕ) (few : List Packet) (w : Slot) → QueueStands gone (links ss) firsts lasts count →
    Walked most site gone ss few place → 0 < place → w ≡ get_or ss (place - gone - 1) w → length (queue_from site w.next gone ss) < length (queue_from site place gone ss)
walk_shrinks most site gone place ss firsts lasts count few w was so some w_is =
    let whole : length (queue_from site place gone ss) ≡ length (replicate w.copies w.packet ++ queue_from site w.next gone ss) =
    ap length (step_is most site gone place ss few w was.chained.linked so some w_is) in
    let parts : length (replicate w.copies w.packet ++ queue_from site w.next gone ss) ≡ length (replicate w.copies w.packet) + length (queue_from site w.next gone ss) =
    length-append (replicate w.copies w.packet) (queue_from site w.next gone ss) in
    let many : length (replicate w.copies w.packet) ≡ w.copies = length-replicate w.copies w.packet in
    let one : 0 < w.copies = left_some w.copies (waits_live site (link_of w) (step_at most site gone place ss few w so some w_is)) in
    omega (arith, whole, parts, many, one)

-- and the walk ends
pub walk_ends : (most site gone place : ℕ) (ss : List Slot) (few : List Packet) → Walked most site gone ss few place → place ≡ 0 → few ≡ take most (queue_in site (shown ss))
walk_ends most site gone place ss few so none =
    sym (take_all most few so.short)
    ∙ ap (take most) (sym (append-nil few) ∙ ap (λ (l : List Packet). few ++ l) (sym (ap (λ (k : ℕ). queue_from site k gone ss) none ∙ from_none site gone ss)))
    ∙ so.whole

take_few : (n : ℕ) (xs ys : List Packet) → length xs ≤ n → n ≤ length xs → take n (xs ++ ys) ≡ xs
take_few zero [] ys low high = refl
take_few zero (x ∷ xs) ys low high = absurd (omega (arith, low))
take_few (suc n) [] ys low high = absurd (omega (arith, high))
take_few (suc n) (x ∷ xs) ys low high = ap (λ l. x ∷ l) (take_few n xs ys (omega (arith, low)) (omega (arith, high)))

pub walk_full : (most site gone place : ℕ) (ss : List Slot) (few : List Packet) → Walked most site gone ss few place → most ≤ length few → few ≡ take most (queue_in site (shown ss))
walk_full most site gone place ss few so full = sym (take_few most few (queue_from site place gone ss) so.short full) ∙ so.whole
