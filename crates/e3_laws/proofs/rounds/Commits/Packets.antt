-- What an entry does to the packets that are pending: others stay, new ones come, and their weight.
use Rattle.std.proofs.Common.{◌≡◌, ◌⊎◌, ◌==◌, ◌&&◌, ◌||◌, ◌+◌, ◌-◌, ◌≤◌, ◌<◌, ◌∷◌, ◌++◌, [], ℕ, zero, suc, Bool, true, false, not, List, refl, ap, sym, subst, ◌∙◌, if◌then◌else◌, length, map, eqb-true, true≢false, arith, inl, inr}
use Rattle.std.specs.List.{list_all, list_any}
use Rattle.std.proofs.lemmas.Bool.{and_parts, ne_eqb, or_left, or_right, not_from_false}
use Rattle.std.proofs.lemmas.List.Folds.{list_any-append}
use Rattle.e3_types.specs.declared.entries.Entry.{Entry}
use Rattle.e3_types.specs.declared.messages.Packet.{Packet}
use Rattle.e3_types.specs.declared.scenarios.Scenario.{Scenario}
use Rattle.e3_world.specs.Fate.{Fate, Split, Lost, Once, Twice, copies_of}
use Rattle.e3_world.specs.Legal.{numbered}
use Rattle.e3_world.specs.Packets.{fate_of, outs_of, pending, sent, taken, taken_by}
use Rattle.e3_net.specs.declared.waiting.Waiting.{Waiting}
use Rattle.e3_net.specs.Stands.{given, waiting_of, without}
use Rattle.e3_net.specs.Traffic.{wait}
use Rattle.e3_net.proofs.Climbing.{Climbs}
use Rattle.e3_net.proofs.Copies.{Live}
use Rattle.e3_net.proofs.Pushing.{pending_waits, waiting_climbs, waiting_live, waiting_push}
use Rattle.e3_laws.specs.rounds.Queues.{IsCounted}
use Rattle.e3_laws.specs.rounds.Commits.{is_once}
use Rattle.e3_laws.specs.agreement.Logs.{IsIn}
use Rattle.e3_laws.proofs.steps.Tests.{not_true}

-- some packet that waits passes the test
abbrev pub some_waits : (Packet → Bool) → List Waiting → Bool
some_waits P ws = list_any (λ w. P w.packet) ws

pub or_either : (a b : Bool) → (a || b) ≡ true → (a ≡ true) ⊎ (b ≡ true)
or_either true b is = inl refl
or_either false b is = inr is

any_map : (P : Packet → Bool) (ws : List Waiting) → list_any P (map (λ w. w.packet) ws) ≡ some_waits P ws
any_map P [] = refl
any_map P (w ∷ ws) = ap (λ b. P w.packet || b) (any_map P ws)

pub pending_some : (P : Packet → Bool) (sc : Scenario) (h : List Entry) → list_any P (pending sc h) ≡ some_waits P (waiting_of sc h)
pending_some P sc h = ap (list_any P) (sym (pending_waits sc h)) ∙ any_map P (waiting_of sc h)

-- those of which nothing is taken stay
untaken_stay : (P : Packet → Bool) (f : ℕ → ℕ) (ws : List Waiting) → Live ws → list_all (λ w. not (P w.packet) || f w.packet.number == 0) ws ≡ true → some_waits P ws ≡ true →
    some_waits P (without f ws) ≡ true
untaken_stay P f [] live all some = some
untaken_stay P f (w ∷ ws) live all some =
    list_any-append (λ w. P w.packet) (wait w.packet (w.copies - f w.packet.number)) (without f ws) ∙ by (λ rest more. untaken_stay P f ws live.1 rest more) (P w.packet) refl (or_either (P w.packet) (some_waits P ws) some)
  where
    parts : ((not (P w.packet) || f w.packet.number == 0) ≡ true) × (list_all (λ w. not (P w.packet) || f w.packet.number == 0) ws ≡ true)
    parts = and_parts (not (P w.packet) || f w.packet.number == 0) (list_all (λ w. not (P w.packet) || f w.packet.number == 0) ws) all

    left : (k c : ℕ) → k ≡ suc c → P w.packet ≡ true → some_waits P (wait w.packet k) ≡ true
    left zero c is holds = absurd (let clash : ⊥ = omega (arith, is) in clash)
    left (suc k) c is holds = or_left (P w.packet) false holds

    by : (list_all (λ w. not (P w.packet) || f w.packet.number == 0) ws ≡ true → some_waits P ws ≡ true → some_waits P (without f ws) ≡ true) →
        (b : Bool) → P w.packet ≡ b → (P w.packet ≡ true) ⊎ (some_waits P ws ≡ true) →
        (some_waits P (wait w.packet (w.copies - f w.packet.number)) || some_waits P (without f ws)) ≡ true
    by again true holds _ =
        let none : (f w.packet.number == 0) ≡ true = ap (λ b. not b || f w.packet.number == 0) (sym holds) ∙ parts.0 in
        let zero_is : f w.packet.number ≡ 0 = eqb-true (f w.packet.number) 0 none in
        let one : 1 ≤ w.copies = live.0 in
        or_left (some_waits P (wait w.packet (w.copies - f w.packet.number))) (some_waits P (without f ws))
        (left (w.copies - f w.packet.number) (w.copies - 1) (omega (arith, zero_is, one)) holds)
    by again false fails (inl holds) = absurd (true≢false (sym holds ∙ fails))
    by again false fails (inr more) =
        or_right (some_waits P (wait w.packet (w.copies - f w.packet.number))) (some_waits P (without f ws)) (again parts.1 more)

-- so a packet that is pending stays so, if none that passes the test is taken
pub pending_stays : (P : Packet → Bool) (sc : Scenario) (h : List Entry) (e : Entry) → list_all (λ p. not (P p) || taken_by p.number e.act == 0) (pending sc h) ≡ true →
    list_any P (pending sc h) ≡ true → list_any P (pending sc (h ++ e ∷ [])) ≡ true
pending_stays P sc h e all some =
    pending_some P sc (h ++ e ∷ []) ∙ ap (some_waits P) (waiting_push sc h e)
    ∙ list_any-append (λ w. P w.packet) (without (λ n. taken_by n e.act) (waiting_of sc h)) _
    ∙ or_left (some_waits P (without (λ n. taken_by n e.act) (waiting_of sc h))) _
    (untaken_stay P (λ n. taken_by n e.act) (waiting_of sc h) (waiting_live sc h)
    (sym (all_map (waiting_of sc h)) ∙ ap (list_all (λ p. not (P p) || taken_by p.number e.act == 0)) (pending_waits sc h) ∙ all)
    (sym (pending_some P sc h) ∙ some))
  where
    all_map : (ws : List Waiting) → list_all (λ p. not (P p) || taken_by p.number e.act == 0) (map (λ w. w.packet) ws) ≡ list_all (λ w. not (P w.packet) || taken_by w.packet.number e.act == 0) ws
    all_map [] = refl
    all_map (w ∷ ws) = ap (λ b. (not (P w.packet) || taken_by w.packet.number e.act == 0) && b) (all_map ws)

-- two that are pending under one number are one packet
above_low : (low n : ℕ) (ws : List Waiting) (high : ℕ) → Climbs low ws high → n ≤ low → list_all (λ w. not (n == w.packet.number)) ws ≡ true
above_low low n [] high climbs less = refl
above_low low n (w ∷ ws) high climbs less =
    let above : low < w.packet.number = climbs.0 in
    let differs : (n == w.packet.number) ≡ false = ne_eqb n w.packet.number (λ e. let clash : ⊥ = omega (arith, above, less, e) in clash) in
    rw (differs, above_low w.packet.number n ws high climbs.2 (omega (arith, above, less))) refl

higher : (low : ℕ) (ws : List Waiting) (high : ℕ) (p : Packet) → Climbs low ws high → IsIn p (map (λ w. w.packet) ws) → (low < p.number) × (p.number ≤ high)
higher low [] high p climbs has = absurd has
higher low (w ∷ ws) high p climbs (inl e) =
    let n : p.number ≡ w.packet.number = ap (λ (x : Packet). x.number) e in
    let above : low < w.packet.number = climbs.0 in
    let less : w.packet.number ≤ high = climbs.1 in
    (omega (arith, n, above), omega (arith, n, less))
higher low (w ∷ ws) high p climbs (inr k) =
    let rest = higher w.packet.number ws high p climbs.2 k in
    let first : w.packet.number < p.number = rest.0 in
    let above : low < w.packet.number = climbs.0 in
    (omega (arith, first, above), rest.1)

away : (P : Packet → Bool) (n : ℕ) (ws : List Waiting) → list_all (λ w. not (n == w.packet.number)) ws ≡ true → list_all (λ w. not (P w.packet) || (if n == w.packet.number then 1 else 0) == 0) ws ≡ true
away P n [] all = refl
away P n (v ∷ vs) all =
    let parts = and_parts (not (n == v.packet.number)) (list_all (λ w. not (n == w.packet.number)) vs) all in
    let differs : (n == v.packet.number) ≡ false = not_true (n == v.packet.number) parts.0 in
    rw (differs, or_right (not (P v.packet)) true refl) (away P n vs parts.1)

one_number : (P : Packet → Bool) (low : ℕ) (ws : List Waiting) (high : ℕ) (p : Packet) → Climbs low ws high → IsIn p (map (λ w. w.packet) ws) → P p ≡ false →
    list_all (λ w. not (P w.packet) || (if p.number == w.packet.number then 1 else 0) == 0) ws ≡ true
one_number P low [] high p climbs has fails = refl
one_number P low (w ∷ ws) high p climbs (inl e) fails =
    let n : p.number ≡ w.packet.number = ap (λ (x : Packet). x.number) e in
    let here : not (P w.packet) ≡ true = not_from_false (P w.packet) (ap P (sym e) ∙ fails) in
    rw here (away P p.number ws (above_low w.packet.number p.number ws high climbs.2 (omega (arith, n))))
one_number P low (w ∷ ws) high p climbs (inr k) fails =
    let rest = one_number P w.packet.number ws high p climbs.2 k fails in
    let above : w.packet.number < p.number = (higher w.packet.number ws high p climbs.2 k).0 in
    let differs : (p.number == w.packet.number) ≡ false = ne_eqb p.number w.packet.number (λ e. let clash : ⊥ = omega (arith, above, e) in clash) in
    rw (differs, or_right (not (P w.packet)) true refl) rest

map_all : (Q : Packet → Bool) (ws : List Waiting) → list_all Q (map (λ w. w.packet) ws) ≡ list_all (λ w. Q w.packet) ws
map_all Q [] = refl
map_all Q (w ∷ ws) = ap (λ b. Q w.packet && b) (map_all Q ws)

-- one packet that is pending is another than those that pass a test which it fails
pub another : (P : Packet → Bool) (sc : Scenario) (h : List Entry) (p : Packet) → IsCounted sc h → IsIn p (pending sc h) → P p ≡ false →
    list_all (λ q. not (P q) || (if p.number == q.number then 1 else 0) == 0) (pending sc h) ≡ true
another P sc h p counted has fails =
    ap (list_all (λ q. not (P q) || (if p.number == q.number then 1 else 0) == 0)) (sym (pending_waits sc h))
    ∙ map_all (λ q. not (P q) || (if p.number == q.number then 1 else 0) == 0) (waiting_of sc h)
    ∙ one_number P 0 (waiting_of sc h) (length (sent h)) p (waiting_climbs sc h counted.numbers) (subst (λ l. IsIn p l) (sym (pending_waits sc h)) has) fails

-- what is pending was sent
pub numbered_low : (sc : Scenario) (h : List Entry) (p : Packet) → IsCounted sc h → IsIn p (pending sc h) → p.number ≤ length (sent h)
numbered_low sc h p counted has = (higher 0 (waiting_of sc h) (length (sent h)) p (waiting_climbs sc h counted.numbers) (subst (λ l. IsIn p l) (sym (pending_waits sc h)) has)).1

-- what is sent, where it is delivered once and nothing of it was taken, is pending
pub new_waits : (P K : Packet → Bool) (sc : Scenario) (h : List Entry) (t : ℕ → ℕ) (m : ℕ) (ps : List Packet) → ((k : ℕ) → m < k → t k ≡ 0) →
    list_all (λ p. not (K p) || is_once (fate_of sc h p)) (numbered (suc m) ps) ≡ true → ((p : Packet) → P p ≡ true → K p ≡ true) →
    list_any P (numbered (suc m) ps) ≡ true → some_waits P (without t (map (given sc h) (numbered (suc m) ps))) ≡ true
new_waits P K sc h t m [] free once of some = some
new_waits P K sc h t m (p ∷ ps) free once of some =
    list_any-append (λ w. P w.packet) (wait q (copies_of (fate_of sc h q) - t q.number)) _ ∙ by (λ rest more. new_waits P K sc h t (suc m) ps (λ k above. free k (omega (arith, above))) rest of more) (or_either (P q) (list_any P (numbered (suc (suc m)) ps)) some)
  where
    q : Packet
    q = record p { number = suc m }

    parts : ((not (K q) || is_once (fate_of sc h q)) ≡ true) × (list_all (λ p. not (K p) || is_once (fate_of sc h p)) (numbered (suc (suc m)) ps) ≡ true)
    parts = and_parts (not (K q) || is_once (fate_of sc h q)) (list_all (λ p. not (K p) || is_once (fate_of sc h p)) (numbered (suc (suc m)) ps)) once

    one_copy : (f : Fate) → is_once f ≡ true → copies_of f ≡ 1
    one_copy Split is = absurd cc
    one_copy Lost is = absurd cc
    one_copy Once is = refl
    one_copy Twice is = absurd cc

    left : (k c : ℕ) → k ≡ suc c → P q ≡ true → some_waits P (wait q k) ≡ true
    left zero c is holds = absurd (let clash : ⊥ = omega (arith, is) in clash)
    left (suc k) c is holds = or_left (P q) false holds

    by : (list_all (λ p. not (K p) || is_once (fate_of sc h p)) (numbered (suc (suc m)) ps) ≡ true → list_any P (numbered (suc (suc m)) ps) ≡ true →
        some_waits P (without t (map (given sc h) (numbered (suc (suc m)) ps))) ≡ true) →
        (P q ≡ true) ⊎ (list_any P (numbered (suc (suc m)) ps) ≡ true) →
        (some_waits P (wait q (copies_of (fate_of sc h q) - t q.number)) || some_waits P (without t (map (given sc h) (numbered (suc (suc m)) ps)))) ≡ true
    by again (inl holds) =
        let once_is : is_once (fate_of sc h q) ≡ true = ap (λ b. not b || is_once (fate_of sc h q)) (sym (of q holds)) ∙ parts.0 in
        let copies : copies_of (fate_of sc h q) ≡ 1 = one_copy (fate_of sc h q) once_is in
        let none : t (suc m) ≡ 0 = free (suc m) (omega arith) in
        or_left (some_waits P (wait q (copies_of (fate_of sc h q) - t q.number))) _ (left (copies_of (fate_of sc h q) - t q.number) 0 (omega (arith, copies, none)) holds)
    by again (inr more) = or_right (some_waits P (wait q (copies_of (fate_of sc h q) - t q.number))) _ (again parts.1 more)

pub pending_new : (P K : Packet → Bool) (sc : Scenario) (h : List Entry) (e : Entry) (ps : List Packet) → outs_of e.act ≡ numbered (suc (length (sent h))) ps →
    ((k : ℕ) → length (sent h) < k → taken k (h ++ e ∷ []) ≡ 0) → list_all (λ p. not (K p) || is_once (fate_of sc h p)) (outs_of e.act) ≡ true →
    ((p : Packet) → P p ≡ true → K p ≡ true) → list_any P (outs_of e.act) ≡ true → list_any P (pending sc (h ++ e ∷ [])) ≡ true
pending_new P K sc h e ps is free once of some =
    pending_some P sc (h ++ e ∷ []) ∙ ap (some_waits P) (waiting_push sc h e)
    ∙ list_any-append (λ w. P w.packet) (without (λ n. taken_by n e.act) (waiting_of sc h)) _
    ∙ or_right (some_waits P (without (λ n. taken_by n e.act) (waiting_of sc h))) _
    (subst (λ l. some_waits P (without (λ n. taken n (h ++ e ∷ [])) (map (given sc h) l)) ≡ true) (sym is)
    (new_waits P K sc h (λ n. taken n (h ++ e ∷ [])) (length (sent h)) ps free
    (subst (λ l. list_all (λ p. not (K p) || is_once (fate_of sc h p)) l ≡ true) is once) of
    (subst (λ l. list_any P l ≡ true) is some)))

-- the sum of a function over a list
abbrev pub total : {X : Type 0} → (X → ℕ) → List X → ℕ
total f [] = 0
total f (x ∷ xs) = f x + total f xs

-- the weight of what is pending, copy by copy
abbrev pub times : ℕ → ℕ → ℕ
times zero k = 0
times (suc n) k = k + times n k

abbrev pub heft : (Packet → ℕ) → Waiting → ℕ
heft weight w = times w.copies (weight w.packet)

abbrev pub load : (Packet → ℕ) → List Waiting → ℕ
load weight ws = total (heft weight) ws

times_more : (a b k : ℕ) → a ≤ b → times a k ≤ times b k
times_more zero b k less = omega arith
times_more (suc a) zero k less = absurd (let clash : ⊥ = omega (arith, less) in clash)
times_more (suc a) (suc b) k less = let rest : times a k ≤ times b k = times_more a b k (omega (arith, less)) in omega (arith, rest)

times_zero : (n : ℕ) → times n 0 ≡ 0
times_zero zero = refl
times_zero (suc n) = let rest : times n 0 ≡ 0 = times_zero n in omega (arith, rest)

load_append : (weight : Packet → ℕ) (xs ys : List Waiting) → load weight (xs ++ ys) ≡ load weight xs + load weight ys
load_append weight [] ys = let plain : load weight ys ≡ 0 + load weight ys = omega arith in plain
load_append weight (x ∷ xs) ys = let rest : load weight (xs ++ ys) ≡ load weight xs + load weight ys = load_append weight xs ys in omega (arith, rest)

load_wait : (weight : Packet → ℕ) (p : Packet) (k : ℕ) → load weight (wait p k) ≡ times k (weight p)
load_wait weight p zero = refl
load_wait weight p (suc k) = let plain : times (suc k) (weight p) + 0 ≡ times (suc k) (weight p) = omega arith in plain

load_less : (weight : Packet → ℕ) (f : ℕ → ℕ) (ws : List Waiting) → load weight (without f ws) ≤ load weight ws
load_less weight f [] = omega arith
load_less weight f (w ∷ ws) =
    let rest : load weight (without f ws) ≤ load weight ws = load_less weight f ws in
    let is : load weight (without f (w ∷ ws)) ≡ load weight (wait w.packet (w.copies - f w.packet.number)) + load weight (without f ws) = load_append weight (wait w.packet (w.copies - f w.packet.number)) (without f ws) in
    let this : load weight (wait w.packet (w.copies - f w.packet.number)) ≡ times (w.copies - f w.packet.number) (weight w.packet) = load_wait weight w.packet (w.copies - f w.packet.number) in
    let less : times (w.copies - f w.packet.number) (weight w.packet) ≤ times w.copies (weight w.packet) = times_more (w.copies - f w.packet.number) w.copies (weight w.packet) (omega arith) in
    omega (arith, rest, is, this, less)

load_taken : (weight : Packet → ℕ) (f : ℕ → ℕ) (ws : List Waiting) (p : Packet) → Live ws → IsIn p (map (λ w. w.packet) ws) → 1 ≤ f p.number →
    load weight (without f ws) + weight p ≤ load weight ws
load_taken weight f [] p live has takes = absurd has
load_taken weight f (w ∷ ws) p live (inl e) takes =
    let rest : load weight (without f ws) ≤ load weight ws = load_less weight f ws in
    let is : load weight (without f (w ∷ ws)) ≡ load weight (wait w.packet (w.copies - f w.packet.number)) + load weight (without f ws) = load_append weight (wait w.packet (w.copies - f w.packet.number)) (without f ws) in
    let this : load weight (wait w.packet (w.copies - f w.packet.number)) ≡ times (w.copies - f w.packet.number) (weight w.packet) = load_wait weight w.packet (w.copies - f w.packet.number) in
    let takes_it : 1 ≤ f w.packet.number = subst (λ (x : Packet). 1 ≤ f x.number) e takes in
    let some : 1 ≤ w.copies = live.0 in
    let same : weight p ≡ weight w.packet = ap weight e in
    let less : times (w.copies - f w.packet.number) (weight w.packet) ≤ times (w.copies - 1) (weight w.packet) = times_more (w.copies - f w.packet.number) (w.copies - 1) (weight w.packet) (omega (arith, takes_it)) in
    let one : times w.copies (weight w.packet) ≡ weight w.packet + times (w.copies - 1) (weight w.packet) = fewer w.copies (weight w.packet) some in
    omega (arith, rest, is, this, less, one, same)
  where
    fewer : (c k : ℕ) → 1 ≤ c → times c k ≡ k + times (c - 1) k
    fewer zero k some = absurd (let clash : ⊥ = omega (arith, some) in clash)
    fewer (suc c) k some = let e : suc c - 1 ≡ c = omega arith in ap (λ n. k + times n k) (sym e)
load_taken weight f (w ∷ ws) p live (inr k) takes =
    let rest : load weight (without f ws) + weight p ≤ load weight ws = load_taken weight f ws p live.1 k takes in
    let is : load weight (without f (w ∷ ws)) ≡ load weight (wait w.packet (w.copies - f w.packet.number)) + load weight (without f ws) = load_append weight (wait w.packet (w.copies - f w.packet.number)) (without f ws) in
    let this : load weight (wait w.packet (w.copies - f w.packet.number)) ≡ times (w.copies - f w.packet.number) (weight w.packet) = load_wait weight w.packet (w.copies - f w.packet.number) in
    let less : times (w.copies - f w.packet.number) (weight w.packet) ≤ times w.copies (weight w.packet) = times_more (w.copies - f w.packet.number) w.copies (weight w.packet) (omega arith) in
    omega (arith, rest, is, this, less)

-- what is sent weighs no more than one copy each
load_new : (weight : Packet → ℕ) (K : Packet → Bool) (sc : Scenario) (h : List Entry) (t : ℕ → ℕ) (ps : List Packet) →
    list_all (λ p. not (K p) || is_once (fate_of sc h p)) ps ≡ true → ((p : Packet) → K p ≡ false → weight p ≡ 0) →
    load weight (without t (map (given sc h) ps)) ≤ total weight ps
load_new weight K sc h t [] once none = omega arith
load_new weight K sc h t (p ∷ ps) once none =
    let parts = and_parts (not (K p) || is_once (fate_of sc h p)) (list_all (λ p. not (K p) || is_once (fate_of sc h p)) ps) once in
    let rest : load weight (without t (map (given sc h) ps)) ≤ total weight ps = load_new weight K sc h t ps parts.1 none in
    let is : load weight (without t (map (given sc h) (p ∷ ps))) ≡ load weight (wait p (copies_of (fate_of sc h p) - t p.number)) + load weight (without t (map (given sc h) ps)) = load_append weight (wait p (copies_of (fate_of sc h p) - t p.number)) (without t (map (given sc h) ps)) in
    let this : load weight (wait p (copies_of (fate_of sc h p) - t p.number)) ≡ times (copies_of (fate_of sc h p) - t p.number) (weight p) = load_wait weight p (copies_of (fate_of sc h p) - t p.number) in
    let less : times (copies_of (fate_of sc h p) - t p.number) (weight p) ≤ weight p = by (K p) refl parts.0 in
    omega (arith, rest, is, this, less)
  where
    one_copy : (f : Fate) → is_once f ≡ true → copies_of f ≡ 1
    one_copy Split is = absurd cc
    one_copy Lost is = absurd cc
    one_copy Once is = refl
    one_copy Twice is = absurd cc

    by : (b : Bool) → K p ≡ b → (not (K p) || is_once (fate_of sc h p)) ≡ true → times (copies_of (fate_of sc h p) - t p.number) (weight p) ≤ weight p
    by true is once =
        let once_is : is_once (fate_of sc h p) ≡ true = ap (λ b. not b || is_once (fate_of sc h p)) (sym is) ∙ once in
        let copies : copies_of (fate_of sc h p) ≡ 1 = one_copy (fate_of sc h p) once_is in
        let less : times (copies_of (fate_of sc h p) - t p.number) (weight p) ≤ times 1 (weight p) = times_more (copies_of (fate_of sc h p) - t p.number) 1 (weight p) (omega (arith, copies)) in
        omega (arith, less)
    by false is once =
        let zero_is : weight p ≡ 0 = none p is in
        let nothing_is : times (copies_of (fate_of sc h p) - t p.number) (weight p) ≡ 0 = ap (times (copies_of (fate_of sc h p) - t p.number)) zero_is ∙ times_zero (copies_of (fate_of sc h p) - t p.number) in
        omega (arith, nothing_is)

-- an entry adds what it sends
pub load_on : (weight : Packet → ℕ) (K : Packet → Bool) (sc : Scenario) (h : List Entry) (e : Entry) →
    list_all (λ p. not (K p) || is_once (fate_of sc h p)) (outs_of e.act) ≡ true → ((p : Packet) → K p ≡ false → weight p ≡ 0) →
    load weight (waiting_of sc (h ++ e ∷ [])) ≤ load weight (waiting_of sc h) + total weight (outs_of e.act)
load_on weight K sc h e once none =
    let is : load weight (waiting_of sc (h ++ e ∷ [])) ≡ load weight (without (λ n. taken_by n e.act) (waiting_of sc h)) + load weight (without (λ n. taken n (h ++ e ∷ [])) (map (given sc h) (outs_of e.act))) =
    ap (load weight) (waiting_push sc h e) ∙ load_append weight (without (λ n. taken_by n e.act) (waiting_of sc h)) (without (λ n. taken n (h ++ e ∷ [])) (map (given sc h) (outs_of e.act))) in
    let old : load weight (without (λ n. taken_by n e.act) (waiting_of sc h)) ≤ load weight (waiting_of sc h) = load_less weight (λ n. taken_by n e.act) (waiting_of sc h) in
    let new : load weight (without (λ n. taken n (h ++ e ∷ [])) (map (given sc h) (outs_of e.act))) ≤ total weight (outs_of e.act) = load_new weight K sc h (λ n. taken n (h ++ e ∷ [])) (outs_of e.act) once none in
    omega (arith, is, old, new)

-- and takes what it takes
pub load_off : (weight : Packet → ℕ) (K : Packet → Bool) (sc : Scenario) (h : List Entry) (e : Entry) (p : Packet) → IsIn p (pending sc h) → 1 ≤ taken_by p.number e.act →
    list_all (λ p. not (K p) || is_once (fate_of sc h p)) (outs_of e.act) ≡ true → ((p : Packet) → K p ≡ false → weight p ≡ 0) →
    load weight (waiting_of sc (h ++ e ∷ [])) + weight p ≤ load weight (waiting_of sc h) + total weight (outs_of e.act)
load_off weight K sc h e p has takes once none =
    let is : load weight (waiting_of sc (h ++ e ∷ [])) ≡ load weight (without (λ n. taken_by n e.act) (waiting_of sc h)) + load weight (without (λ n. taken n (h ++ e ∷ [])) (map (given sc h) (outs_of e.act))) =
    ap (load weight) (waiting_push sc h e) ∙ load_append weight (without (λ n. taken_by n e.act) (waiting_of sc h)) (without (λ n. taken n (h ++ e ∷ [])) (map (given sc h) (outs_of e.act))) in
    let old : load weight (without (λ n. taken_by n e.act) (waiting_of sc h)) + weight p ≤ load weight (waiting_of sc h) =
    load_taken weight (λ n. taken_by n e.act) (waiting_of sc h) p (waiting_live sc h) (subst (λ l. IsIn p l) (sym (pending_waits sc h)) has) takes in
    let new : load weight (without (λ n. taken n (h ++ e ∷ [])) (map (given sc h) (outs_of e.act))) ≤ total weight (outs_of e.act) = load_new weight K sc h (λ n. taken n (h ++ e ∷ [])) (outs_of e.act) once none in
    omega (arith, is, old, new)
