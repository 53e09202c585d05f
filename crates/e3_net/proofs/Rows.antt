-- What a row of slots shows, and what a change of one slot, one more or one that leaves makes of it.
use Rattle.std.proofs.Common.{◌≡◌, ◌==◌, ◌-◌, ◌+◌, ◌<◌, ◌≤◌, if◌then◌else◌, ℕ, zero, suc, Bool, true, false, List, [], ◌∷◌, ◌++◌, length, drop, get_or, set, Some, None, ◌∙◌, ap, sym, subst, refl, arith, eq-eqb}
use Rattle.std.specs.Prelude.{find, option_map, slice_get}
use Rattle.std.proofs.lemmas.List.{drop-map, map-append}
use Rattle.e3_types.specs.declared.messages.Packet.{Packet}
use Rattle.e3_net.specs.declared.slots.Slot.{Slot}
use Rattle.e3_net.specs.declared.waiting.Waiting.{Waiting}
use Rattle.e3_net.specs.Chains.{Link, begins_live, first_to, gone_before, held, is_left, left_in, link_of, links, shown, waits_for, with_copies, with_next}
use Rattle.e3_net.specs.Traffic.{goes_to, less_one_to, wait}
use Rattle.e3_net.proofs.Chains.{nexted, waits_live, waits_to}
use Rattle.e3_net.proofs.Leaving.{ahead, emptied, not_here, not_later}

-- a change of one slot
pub next_is : (ss : List Slot) (at n : ℕ) (v : Slot) → at < length ss → v ≡ get_or ss at v → set ss at (record v { next = n }) ≡ with_next ss at n
next_is [] at n v within is = absurd (omega (arith, within))
next_is (s ∷ ss) zero n v within is = ap (λ (x : Slot). let y : Slot = record x { next = n } in y ∷ ss) is
next_is (s ∷ ss) (suc at) n v within is = ap (λ l. s ∷ l) (next_is ss at n v (omega (arith, within)) is)

pub copies_is : (ss : List Slot) (at c : ℕ) (v : Slot) → at < length ss → v ≡ get_or ss at v → set ss at (record v { copies = c }) ≡ with_copies ss at c
copies_is [] at c v within is = absurd (omega (arith, within))
copies_is (s ∷ ss) zero c v within is = ap (λ (x : Slot). let y : Slot = record x { copies = c } in y ∷ ss) is
copies_is (s ∷ ss) (suc at) c v within is = ap (λ l. s ∷ l) (copies_is ss at c v (omega (arith, within)) is)

pub links_next : (ss : List Slot) (at n : ℕ) → links (with_next ss at n) ≡ nexted (links ss) at n
links_next [] at n = refl
links_next (s ∷ ss) zero n = refl
links_next (s ∷ ss) (suc at) n = ap (λ l. link_of s ∷ l) (links_next ss at n)

pub shown_next : (ss : List Slot) (at n : ℕ) → shown (with_next ss at n) ≡ shown ss
shown_next [] at n = refl
shown_next (s ∷ ss) zero n = refl
shown_next (s ∷ ss) (suc at) n = ap (λ (l : List Waiting). if is_left s.copies then held s.packet s.copies ∷ l else l) (shown_next ss at n)

pub links_emptied : (ss : List Slot) (at : ℕ) → links (with_copies ss at 0) ≡ emptied (links ss) at
links_emptied [] at = refl
links_emptied (s ∷ ss) zero = refl
links_emptied (s ∷ ss) (suc at) = ap (λ l. link_of s ∷ l) (links_emptied ss at)

-- where some copies are left before and then, the links are the same
pub links_copies : (ss : List Slot) (at c : ℕ) (u : Slot) → u ≡ get_or ss at u → is_left u.copies ≡ is_left c → links (with_copies ss at c) ≡ links ss
links_copies [] at c u is same = refl
links_copies (s ∷ ss) zero c u is same =
    ap (λ (b : Bool). let l : Link = record { live = b; to = s.packet.to; next = s.next } in l ∷ links ss)
    (sym (subst (λ (v : Slot). is_left v.copies ≡ is_left c) is same))
links_copies (s ∷ ss) (suc at) c u is same = ap (λ l. link_of s ∷ l) (links_copies ss at c u is same)

-- one more
pub left_is : (c : ℕ) → 0 < c → is_left c ≡ true
left_is zero some = absurd (omega (arith, some))
left_is (suc c) some = refl

pub left_some : (c : ℕ) → is_left c ≡ true → 0 < c
left_some zero is = absurd cc
left_some (suc c) is = omega arith

pub wait_left : (p : Packet) (c : ℕ) (ws : List Waiting) → wait p c ++ ws ≡ (if is_left c then held p c ∷ ws else ws)
wait_left p zero ws = refl
wait_left p (suc c) ws = refl

pub shown_push : (ss : List Slot) (s : Slot) → shown (ss ++ s ∷ []) ≡ shown ss ++ wait s.packet s.copies
shown_push [] s = by s.copies refl
  where
    by : (c : ℕ) → s.copies ≡ c → shown (s ∷ []) ≡ wait s.packet s.copies
    by zero is = (let a : shown (s ∷ []) ≡ [] = rw is refl in a) ∙ ap (wait s.packet) (sym is)
    by (suc c) is = (let a : shown (s ∷ []) ≡ held s.packet (suc c) ∷ [] = rw is refl in a) ∙ ap (wait s.packet) (sym is)
shown_push (x ∷ ss) s = by (is_left x.copies) refl (shown_push ss s)
  where
    by : (b : Bool) → is_left x.copies ≡ b → shown (ss ++ s ∷ []) ≡ shown ss ++ wait s.packet s.copies →
        shown (x ∷ (ss ++ s ∷ [])) ≡ shown (x ∷ ss) ++ wait s.packet s.copies
    by true live rest = rw live (ap (λ l. held x.packet x.copies ∷ l) rest)
    by false dead rest = rw dead rest

pub links_push : (ss : List Slot) (s : Slot) → links (ss ++ s ∷ []) ≡ links ss ++ link_of s ∷ []
links_push ss s = map-append link_of ss (s ∷ [])

pub length_shown : (ss : List Slot) → length (shown ss) ≡ left_in (links ss)
length_shown [] = refl
length_shown (s ∷ ss) = by (is_left s.copies) refl (length_shown ss)
  where
    by : (b : Bool) → is_left s.copies ≡ b → length (shown ss) ≡ left_in (links ss) → length (shown (s ∷ ss)) ≡ left_in (links (s ∷ ss))
    by true live rest = rw live (ap suc rest)
    by false dead rest = rw dead rest

pub length_links : (ss : List Slot) → length (links ss) ≡ length ss
length_links [] = refl
length_links (s ∷ ss) = ap suc (length_links ss)

-- the first that waits
pub first_shown : (ss : List Slot) (s : Slot) → begins_live (links ss) ≡ true → 0 < length ss → s ≡ get_or ss 0 s →
    Some s.packet ≡ option_map (λ (w : Waiting). w.packet) (slice_get (shown ss) 0)
first_shown [] s live some is = absurd (omega (arith, some))
first_shown (x ∷ ss) s live some is =
    ap (λ (v : Slot). Some v.packet) is
    ∙ sym (let found : option_map (λ (w : Waiting). w.packet) (slice_get (shown (x ∷ ss)) 0) ≡ Some x.packet = rw live refl in found)

pub none_shown : (ss : List Slot) → length ss ≡ 0 → None ≡ option_map (λ (w : Waiting). w.packet) (slice_get (shown ss) 0)
none_shown [] none = refl
none_shown (x ∷ ss) none = absurd (omega (arith, none))

-- a slot that does not wait for the site is passed over
find_skip : (site : ℕ) (s : Slot) (ss : List Slot) → waits_for site (link_of s) ≡ false → find (goes_to site) (shown (s ∷ ss)) ≡ find (goes_to site) (shown ss)
find_skip site s ss other = by (is_left s.copies) refl
  where
    by : (b : Bool) → is_left s.copies ≡ b → find (goes_to site) (shown (s ∷ ss)) ≡ find (goes_to site) (shown ss)
    by true live = (let away : (s.packet.to == site) ≡ false = sym (rw live refl) ∙ other in rw live (rw away refl))
    by false dead = rw dead refl

less_skip : (site : ℕ) (s : Slot) (ss rest : List Slot) → waits_for site (link_of s) ≡ false → less_one_to site (shown ss) ≡ shown rest →
    less_one_to site (shown (s ∷ ss)) ≡ shown (s ∷ rest)
less_skip site s ss rest other is = by (is_left s.copies) refl
  where
    by : (b : Bool) → is_left s.copies ≡ b → less_one_to site (shown (s ∷ ss)) ≡ shown (s ∷ rest)
    by true live = (let away : (s.packet.to == site) ≡ false = sym (rw live refl) ∙ other in rw live (rw away (ap (λ l. held s.packet s.copies ∷ l) is)))
    by false dead = rw dead is

-- where the site has no place, nothing waits for it
pub find_none : (site before : ℕ) (ss : List Slot) → first_to site before (links ss) ≡ 0 → find (goes_to site) (shown ss) ≡ None
find_none site before [] none = refl
find_none site before (s ∷ ss) none = by (waits_for site (link_of s)) refl (find_none site (suc before) ss)
  where
    by : (b : Bool) → waits_for site (link_of s) ≡ b → (first_to site (suc before) (links ss) ≡ 0 → find (goes_to site) (shown ss) ≡ None) →
        find (goes_to site) (shown (s ∷ ss)) ≡ None
    by true here more = (let bad : suc before ≡ 0 = sym (rw here refl) ∙ none in absurd (omega (arith, bad)))
    by false other more = find_skip site s ss other ∙ more (sym (rw other refl) ∙ none)

pub less_none : (site before : ℕ) (ss : List Slot) → first_to site before (links ss) ≡ 0 → less_one_to site (shown ss) ≡ shown ss
less_none site before [] none = refl
less_none site before (s ∷ ss) none = by (waits_for site (link_of s)) refl (less_none site (suc before) ss)
  where
    by : (b : Bool) → waits_for site (link_of s) ≡ b → (first_to site (suc before) (links ss) ≡ 0 → less_one_to site (shown ss) ≡ shown ss) →
        less_one_to site (shown (s ∷ ss)) ≡ shown (s ∷ ss)
    by true here more = (let bad : suc before ≡ 0 = sym (rw here refl) ∙ none in absurd (omega (arith, bad)))
    by false other more = less_skip site s ss ss other (more (sym (rw other refl) ∙ none))

-- else the first slot that waits for it has the first packet to it
pub find_first : (site before at : ℕ) (ss : List Slot) (u : Slot) → first_to site before (links ss) ≡ suc (before + at) → u ≡ get_or ss at u →
    option_map (λ (w : Waiting). w.packet) (find (goes_to site) (shown ss)) ≡ Some u.packet
find_first site before at [] u is u_is = absurd (omega (arith, is))
find_first site before zero (s ∷ ss) u is u_is = by (waits_for site (link_of s)) refl
  where
    by : (b : Bool) → waits_for site (link_of s) ≡ b → option_map (λ (w : Waiting). w.packet) (find (goes_to site) (shown (s ∷ ss))) ≡ Some u.packet
    by true here =
        let live : is_left s.copies ≡ true = waits_live site (link_of s) here in
        let goes : (s.packet.to == site) ≡ true = eq-eqb s.packet.to site (waits_to site (link_of s) here) in
        (let found : option_map (λ (w : Waiting). w.packet) (find (goes_to site) (shown (s ∷ ss))) ≡ Some s.packet = rw live (rw goes refl) in found)
        ∙ ap (λ (v : Slot). Some v.packet) (sym u_is)
    by false other = absurd (not_here site before (link_of s) (links ss) other is)
find_first site before (suc at) (s ∷ ss) u is u_is = by (waits_for site (link_of s)) refl (λ e. find_first site (suc before) at ss u e u_is)
  where
    by : (b : Bool) → waits_for site (link_of s) ≡ b →
        (first_to site (suc before) (links ss) ≡ suc (suc before + at) → option_map (λ (w : Waiting). w.packet) (find (goes_to site) (shown ss)) ≡ Some u.packet) →
        option_map (λ (w : Waiting). w.packet) (find (goes_to site) (shown (s ∷ ss))) ≡ Some u.packet
    by true here more = absurd (not_later site before at (link_of s) (links ss) here is)
    by false other more = ap (option_map (λ (w : Waiting). w.packet)) (find_skip site s ss other) ∙ more (ahead site before at (link_of s) (links ss) other is)

pub less_first : (site before at : ℕ) (ss : List Slot) (u : Slot) → first_to site before (links ss) ≡ suc (before + at) → u ≡ get_or ss at u →
    less_one_to site (shown ss) ≡ shown (with_copies ss at (u.copies - 1))
less_first site before at [] u is u_is = absurd (omega (arith, is))
less_first site before zero (s ∷ ss) u is u_is = by (waits_for site (link_of s)) refl
  where
    by : (b : Bool) → waits_for site (link_of s) ≡ b → less_one_to site (shown (s ∷ ss)) ≡ shown (with_copies (s ∷ ss) zero (u.copies - 1))
    by true here =
        let live : is_left s.copies ≡ true = waits_live site (link_of s) here in
        let goes : (s.packet.to == site) ≡ true = eq-eqb s.packet.to site (waits_to site (link_of s) here) in
        (let less : less_one_to site (shown (s ∷ ss)) ≡ wait s.packet (s.copies - 1) ++ shown ss = rw live (rw goes refl) in less)
        ∙ wait_left s.packet (s.copies - 1) (shown ss)
        ∙ ap (λ (v : Slot). shown (with_copies (s ∷ ss) zero (v.copies - 1))) (sym u_is)
    by false other = absurd (not_here site before (link_of s) (links ss) other is)
less_first site before (suc at) (s ∷ ss) u is u_is = by (waits_for site (link_of s)) refl (λ e. less_first site (suc before) at ss u e u_is)
  where
    by : (b : Bool) → waits_for site (link_of s) ≡ b →
        (first_to site (suc before) (links ss) ≡ suc (suc before + at) → less_one_to site (shown ss) ≡ shown (with_copies ss at (u.copies - 1))) →
        less_one_to site (shown (s ∷ ss)) ≡ shown (s ∷ with_copies ss at (u.copies - 1))
    by true here more = absurd (not_later site before at (link_of s) (links ss) here is)
    by false other more = less_skip site s ss (with_copies ss at (u.copies - 1)) other (more (ahead site before at (link_of s) (links ss) other is))

-- what is gone at the front shows nothing
pub shown_front : (ss : List Slot) → shown (drop (gone_before (links ss)) ss) ≡ shown ss
shown_front [] = refl
shown_front (s ∷ ss) = by (is_left s.copies) refl (shown_front ss)
  where
    by : (b : Bool) → is_left s.copies ≡ b → shown (drop (gone_before (links ss)) ss) ≡ shown ss →
        shown (drop (gone_before (links (s ∷ ss))) (s ∷ ss)) ≡ shown (s ∷ ss)
    by true live rest = (let none : gone_before (links (s ∷ ss)) ≡ 0 = rw live refl in ap (λ (d : ℕ). shown (drop d (s ∷ ss))) none)
    by false dead rest =
        let some : gone_before (links (s ∷ ss)) ≡ suc (gone_before (links ss)) = rw dead refl in
        ap (λ (d : ℕ). shown (drop d (s ∷ ss))) some ∙ rest ∙ sym (let same : shown (s ∷ ss) ≡ shown ss = rw dead refl in same)

pub links_front : (n : ℕ) (ss : List Slot) → links (drop n ss) ≡ drop n (links ss)
links_front n ss = sym (drop-map link_of n ss)

-- slots leave the front, until one waits
pub record Dropped (was now : List Slot) : Type 0 where
  pub within : length now ≤ length was
  pub items : now ≡ drop (length was - length now) was
  pub number : gone_before (links was) ≡ (length was - length now) + gone_before (links now)

pub none_dropped : (was : List Slot) → Dropped was was
none_dropped was = record {
  within = omega arith;
  items = ap (λ (k : ℕ). drop k was) (let none : 0 ≡ length was - length was = omega arith in none);
  number = omega arith;
}

drop_suc : (n : ℕ) (xs : List Slot) → drop 1 (drop n xs) ≡ drop (suc n) xs
drop_suc zero [] = refl
drop_suc zero (x ∷ xs) = refl
drop_suc (suc n) [] = refl
drop_suc (suc n) (x ∷ xs) = drop_suc n xs

pub one_dropped : (was now next : List Slot) → Dropped was now → begins_live (links now) ≡ false → next ≡ drop 1 now → Dropped was next
one_dropped was [] next so dead next_is = absurd cc
one_dropped was (s ∷ ss) next so dead next_is = subst (Dropped was) (sym next_is) (record {
  within = (let w : suc (length ss) ≤ length was = so.within in omega (arith, w));
  items = ap (drop 1) so.items ∙ drop_suc (length was - suc (length ss)) was ∙ ap (λ (k : ℕ). drop k was) more;
  number = so.number
      ∙ (let some : gone_before (links (s ∷ ss)) ≡ suc (gone_before (links ss)) = rw dead refl in
      let w : suc (length ss) ≤ length was = so.within in
      let all : (length was - suc (length ss)) + gone_before (links (s ∷ ss)) ≡ (length was - length ss) + gone_before (links ss) = omega (arith, some, w) in all);
})
  where
    more : suc (length was - suc (length ss)) ≡ length was - length ss
    more = (let w : suc (length ss) ≤ length was = so.within in omega (arith, w))

pub all_dropped : (was now : List Slot) → Dropped was now → begins_live (links now) ≡ true →
    length was - length now ≡ gone_before (links was)
all_dropped was now so live = sym (so.number ∙ (let none : gone_before (links now) ≡ 0 = front now live in
    let plain : (length was - length now) + gone_before (links now) ≡ length was - length now = omega (arith, none) in plain))
  where
    front : (ss : List Slot) → begins_live (links ss) ≡ true → gone_before (links ss) ≡ 0
    front [] is = refl
    front (s ∷ ss) is = rw is refl
