-- A queue by its fields: where a site has a place, what is taken there, and what is added.
use Rattle.std.proofs.Common.{◌≡◌, ◌-◌, ◌+◌, ◌^◌, ◌<◌, ◌≤◌, ℕ, zero, suc, Bool, true, false, List, [], ◌∷◌, ◌++◌, length, drop, get_or, set, Some, None, ◌∙◌, ap, sym, subst, refl, arith, nat_lt, ltb-true, ltb-false}
use Rattle.std.specs.Prelude.{find, option_map}
use Rattle.std.proofs.lemmas.List.{get_or-map, get_or_past}
use Rattle.e3_net.specs.declared.slots.Slot.{Slot}
use Rattle.e3_net.specs.declared.waiting.Waiting.{Waiting}
use Rattle.e3_net.specs.Chains.{Link, QueueStands, ends_at, first_to, gone_before, link_of, links, shown, with_copies, with_next}
use Rattle.e3_net.specs.Traffic.{goes_to, less_one_to, wait}
use Rattle.e3_net.proofs.Chains.{ends_within, first_above, first_within}
use Rattle.e3_net.proofs.Leaving.{emptied, left_few}
use Rattle.e3_net.proofs.Rows.{find_first, find_none, left_is, length_links, less_first, less_none, links_copies, links_emptied, links_front, links_next, links_push, shown_front, shown_push}
use Rattle.e3_net.proofs.Standing.{add_behind, add_first, front_leaves, leaves}

-- the slot at a site's place
pub record Placed (site gone : ℕ) (ss : List Slot) (place : ℕ) : Type 0 where
  pub above : gone < place
  pub within : place - gone - 1 < length ss
  pub first : first_to site gone (links ss) ≡ suc (gone + (place - gone - 1))
  pub low : site < 65

pub placed : (site gone place : ℕ) (ss : List Slot) (firsts lasts : List ℕ) (count : ℕ) → QueueStands gone (links ss) firsts lasts count →
    place ≡ get_or firsts site 0 → 0 < place → Placed site gone ss place
placed site gone zero ss firsts lasts count was is some = absurd (omega (arith, some))
placed site gone (suc k) ss firsts lasts count was is some = record {
  above = omega (arith, bottom);
  within = (let same : length (links ss) ≡ length ss = length_links ss in omega (arith, bottom, top, same));
  first = sym first ∙ (let plain : suc k ≡ suc (gone + (suc k - gone - 1)) = omega (arith, bottom) in plain);
  low = by (nat_lt site 65) refl;
}
  where
    first : suc k ≡ first_to site gone (links ss)
    first = is ∙ was.chained.begins site

    bottom : gone ≤ k
    bottom = first_above site gone k (links ss) (sym first)

    top : k < gone + length (links ss)
    top = first_within site gone k (links ss) (sym first)

    by : (b : Bool) → nat_lt site 65 ≡ b → site < 65
    by true below = ltb-true site 65 below
    by false above =
        let high : 65 ≤ site = ltb-false site 65 above in
        let many : length firsts ≡ 65 = was.chained.first_places in
        let past : get_or firsts site 0 ≡ 0 = get_or_past firsts site 0 (omega (arith, high, many)) in
        absurd (omega (arith, past, is))

-- nothing waits for the site
pub take_none : (site gone place : ℕ) (ss : List Slot) (firsts lasts : List ℕ) (count : ℕ) (items : List Waiting) → QueueStands gone (links ss) firsts lasts count →
    place ≡ get_or firsts site 0 → place ≡ 0 → shown ss ≡ items →
    (None ≡ option_map (λ (w : Waiting). w.packet) (find (goes_to site) items)) × (items ≡ less_one_to site items)
take_none site gone place ss firsts lasts count items was is none items_are =
    subst (λ (l : List Waiting). (None ≡ option_map (λ (w : Waiting). w.packet) (find (goes_to site) l)) × (l ≡ less_one_to site l)) items_are
    (sym (ap (option_map (λ (w : Waiting). w.packet)) (find_none site gone ss nowhere)), sym (less_none site gone ss nowhere))
  where
    nowhere : first_to site gone (links ss) ≡ 0
    nowhere = sym (was.chained.begins site) ∙ sym is ∙ none

-- a copy of the first packet is taken
pub take_found : (site gone place : ℕ) (ss : List Slot) (u : Slot) (items : List Waiting) → Placed site gone ss place → u ≡ get_or ss (place - gone - 1) u → shown ss ≡ items →
    Some u.packet ≡ option_map (λ (w : Waiting). w.packet) (find (goes_to site) items)
take_found site gone place ss u items at u_is items_are =
    subst (λ (l : List Waiting). Some u.packet ≡ option_map (λ (w : Waiting). w.packet) (find (goes_to site) l)) items_are
    (sym (find_first site gone (place - gone - 1) ss u at.first u_is))

pub take_less : (site gone place c : ℕ) (ss : List Slot) (u : Slot) (items : List Waiting) → Placed site gone ss place → u ≡ get_or ss (place - gone - 1) u → shown ss ≡ items →
    c ≡ u.copies - 1 → shown (with_copies ss (place - gone - 1) c) ≡ less_one_to site items
take_less site gone place c ss u items at u_is items_are c_is =
    subst (λ (l : List Waiting). shown (with_copies ss (place - gone - 1) c) ≡ less_one_to site l) items_are
    (ap (λ (k : ℕ). shown (with_copies ss (place - gone - 1) k)) c_is ∙ sym (less_first site gone (place - gone - 1) ss u at.first u_is))

-- one is left
pub take_stays : (gone at c : ℕ) (ss : List Slot) (firsts lasts : List ℕ) (count : ℕ) (u : Slot) → QueueStands gone (links ss) firsts lasts count →
    u ≡ get_or ss at u → 1 < u.copies → 0 < c → QueueStands gone (links (with_copies ss at c)) firsts lasts count
take_stays gone at c ss firsts lasts count u was u_is two some =
    subst (λ (ls : List Link). QueueStands gone ls firsts lasts count) (sym (links_copies ss at c u u_is (left_is u.copies (omega (arith, two)) ∙ sym (left_is c some)))) was

-- none is left
pub take_leaves : (site gone place left : ℕ) (ss now : List Slot) (firsts lasts : List ℕ) (count : ℕ) (u : Slot) → QueueStands gone (links ss) firsts lasts count →
    Placed site gone ss place → u ≡ get_or ss (place - gone - 1) u → left ≡ gone_before (links (with_copies ss (place - gone - 1) 0)) →
    now ≡ drop left (with_copies ss (place - gone - 1) 0) → QueueStands (gone + left) (links now) (set firsts site u.next) lasts (count - 1)
take_leaves site gone place left ss now firsts lasts count u was at u_is left_is now_is =
    subst (λ (k : ℕ). QueueStands (gone + k) (links now) (set firsts site u.next) lasts (count - 1)) (sym left_are)
    (subst (λ (ls : List Link). QueueStands (gone + gone_before less) ls (set firsts site u.next) lasts (count - 1)) (sym links_are)
    (front_leaves gone less (set firsts site u.next) lasts (count - 1) (leaves gone (links ss) firsts lasts count site (place - gone - 1) (link_of u) was at.first found at.low)))
  where
    less : List Link
    less = emptied (links ss) (place - gone - 1)

    emptied_are : links (with_copies ss (place - gone - 1) 0) ≡ less
    emptied_are = links_emptied ss (place - gone - 1)

    left_are : left ≡ gone_before less
    left_are = left_is ∙ ap gone_before emptied_are

    links_are : links now ≡ drop (gone_before less) less
    links_are =
        ap links now_is ∙ links_front left (with_copies ss (place - gone - 1) 0) ∙ ap (drop left) emptied_are ∙ ap (λ (k : ℕ). drop k less) left_are

    found : link_of u ≡ get_or (links ss) (place - gone - 1) (link_of u)
    found = ap link_of u_is ∙ sym (get_or-map link_of ss (place - gone - 1) u (link_of u) at.within)

pub take_shows : (left at : ℕ) (ss now : List Slot) → left ≡ gone_before (links (with_copies ss at 0)) → now ≡ drop left (with_copies ss at 0) →
    shown now ≡ shown (with_copies ss at 0)
take_shows left at ss now left_is now_is =
    ap shown (now_is ∙ ap (λ (k : ℕ). drop k (with_copies ss at 0)) left_is) ∙ shown_front (with_copies ss at 0)

-- one more
pub added_shows : (ss now : List Slot) (s : Slot) (items : List Waiting) → now ≡ ss ++ s ∷ [] → shown ss ≡ items → shown now ≡ items ++ wait s.packet s.copies
added_shows ss now s items now_is items_are = ap shown now_is ∙ shown_push ss s ∙ ap (λ l. l ++ wait s.packet s.copies) items_are

pub add_first_slot : (gone : ℕ) (ss now : List Slot) (firsts lasts : List ℕ) (count site place : ℕ) (s : Slot) → QueueStands gone (links ss) firsts lasts count →
    now ≡ ss ++ s ∷ [] → get_or firsts site 0 ≡ 0 → site ≤ 64 → place ≡ suc (gone + length ss) → place < 2 ^ 64 → 0 < s.copies → s.packet.to ≡ site → s.next ≡ 0 →
    QueueStands gone (links now) (set firsts site place) (set lasts site place) (count + 1)
add_first_slot gone ss now firsts lasts count site place s was now_is none low is few some to end =
    subst (λ (ls : List Link). QueueStands gone ls (set firsts site place) (set lasts site place) (count + 1)) (sym (ap links now_is ∙ links_push ss s))
    (add_first gone (links ss) firsts lasts count site place (link_of s) was none (omega (arith, low))
    (is ∙ ap (λ (k : ℕ). suc (gone + k)) (sym (length_links ss))) few (left_is s.copies some) to end)

pub add_next_slot : (gone : ℕ) (ss with now : List Slot) (firsts lasts : List ℕ) (count site place last : ℕ) (s : Slot) → QueueStands gone (links ss) firsts lasts count →
    0 < get_or firsts site 0 → last ≡ get_or lasts site 0 → with ≡ with_next ss (last - gone - 1) place → now ≡ with ++ s ∷ [] → site ≤ 64 →
    place ≡ suc (gone + length ss) → place < 2 ^ 64 → 0 < s.copies → s.packet.to ≡ site → s.next ≡ 0 →
    QueueStands gone (links now) firsts (set lasts site place) (count + 1)
add_next_slot gone ss with now firsts lasts count site place last s was has last_is with_is now_is low is few some to end =
    subst (λ (ls : List Link). QueueStands gone ls firsts (set lasts site place) (count + 1)) (sym (ap links now_is ∙ links_push with s ∙ ap (λ (l : List Link). l ++ link_of s ∷ []) (ap links with_is ∙ links_next ss (last - gone - 1) place)))
    (add_behind gone (links ss) firsts lasts count site place (last - gone - 1) (link_of s) was has (ap (λ (k : ℕ). k - gone - 1) last_is) (omega (arith, low))
    (is ∙ ap (λ (k : ℕ). suc (gone + k)) (sym (length_links ss))) few (left_is s.copies some) to end)

-- the last slot to a site
pub record Last (gone : ℕ) (ss : List Slot) (last : ℕ) : Type 0 where
  pub above : gone < last
  pub within : last - gone - 1 < length ss

pub last_placed : (gone : ℕ) (ss : List Slot) (firsts lasts : List ℕ) (count site last : ℕ) → QueueStands gone (links ss) firsts lasts count →
    0 < get_or firsts site 0 → last ≡ get_or lasts site 0 → Last gone ss last
last_placed gone ss firsts lasts count site last was has last_is =
    let ends : ends_at site (get_or lasts site 0) gone (links ss) ≡ true = was.chained.ends site (subst (λ (k : ℕ). 0 < k) (was.chained.begins site) has) in
    let around : (gone < get_or lasts site 0) × (get_or lasts site 0 ≤ gone + length (links ss)) = ends_within site (get_or lasts site 0) gone (links ss) ends in
    let bottom : gone < get_or lasts site 0 = around.0 in
    let top : get_or lasts site 0 ≤ gone + length (links ss) = around.1 in
    let same : length (links ss) ≡ length ss = length_links ss in
    record { above = omega (arith, bottom, last_is); within = omega (arith, bottom, top, same, last_is) }

-- there are no more that wait than slots
pub count_few : (gone : ℕ) (ss : List Slot) (firsts lasts : List ℕ) (count : ℕ) → QueueStands gone (links ss) firsts lasts count → count ≤ length ss
count_few gone ss firsts lasts count was =
    let few = left_few (links ss) in
    let all = was.chained.number in
    let same = length_links ss in
    omega (arith, few, all, same)

-- the places of tables
pub tables_fit : (gone : ℕ) (ss : List Slot) (firsts lasts : List ℕ) (count : ℕ) → QueueStands gone (links ss) firsts lasts count → (length firsts ≡ 65) × (length lasts ≡ 65)
tables_fit gone ss firsts lasts count was = (was.chained.first_places, was.chained.last_places)
