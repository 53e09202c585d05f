-- What an entry does to the copies that are left.
use Rattle.std.proofs.Common.{◌≡◌, ◌⊎◌, inl, inr, ◌+◌, ◌-◌, ◌≤◌, ◌<◌, ◌==◌, ◌∷◌, ◌++◌, [], ℕ, zero, suc, Bool, true, false, List, refl, ap, sym, subst, ◌∙◌, nat_lt, arith, map, if◌then◌else◌, eq-eqb, eqb-true, ltb-true, true≢false}
use Rattle.std.specs.Prelude.{Contains}
use Rattle.std.specs.List.{list_all, AllByRecursion as Each}
use Rattle.std.proofs.lemmas.Bool.{and_parts}
use Rattle.e3_types.specs.declared.entries.Entry.{Entry}
use Rattle.e3_types.specs.declared.messages.Packet.{Packet}
use Rattle.e3_types.specs.declared.scenarios.Scenario.{Scenario}
use Rattle.e3_types.specs.Ranks.{rank}
use Rattle.e3_world.specs.Fate.{copies_of}
use Rattle.e3_world.specs.Legal.{numbered}
use Rattle.e3_world.specs.Packets.{fate_of, outs_of, pending, taken, taken_by}
use Rattle.e3_net.specs.declared.waiting.Waiting.{Waiting}
use Rattle.e3_net.specs.Stands.{given, waiting_of, without}
use Rattle.e3_net.specs.Traffic.{wait}
use Rattle.e3_net.proofs.Copies.{Live}
use Rattle.e3_net.proofs.Pushing.{pending_waits, waiting_live, waiting_push}
use Rattle.e3_laws.proofs.steps.Each.{each-at}
use Rattle.e3_laws.specs.local.Measures.{copies_at, copies_if, down_from, is_below}
use Rattle.e3_laws.proofs.local.Measure.Counting.{lower_from, total_append}
use Rattle.e3_laws.proofs.steps.Tests.{few_ranks}

-- so many copies of a packet
copies_wait : (p : Packet) (k r : ℕ) → copies_at (wait p k) r ≡ (if rank p.msg == r then k else 0)
copies_wait p zero r = by (rank p.msg == r)
  where
    by : (b : Bool) → copies_at (wait p zero) r ≡ (if b then zero else 0)
    by true = refl
    by false = refl
copies_wait p (suc k) r = let plain : copies_if r (record { packet = p; copies = suc k }) + 0 ≡ copies_if r (record { packet = p; copies = suc k }) = omega arith in plain

less_if : (b : Bool) (k c : ℕ) → k ≤ c → (if b then k else 0) ≤ (if b then c else 0)
less_if true k c few = few
less_if false k c few = omega arith

-- one packet with some copies away
left_le : (f : ℕ → ℕ) (w : Waiting) (r : ℕ) → copies_at (wait w.packet (w.copies - f w.packet.number)) r ≤ copies_if r w
left_le f w r =
    let is : copies_at (wait w.packet (w.copies - f w.packet.number)) r ≡ (if rank w.packet.msg == r then w.copies - f w.packet.number else 0) = copies_wait w.packet (w.copies - f w.packet.number) r in
    let few : (if rank w.packet.msg == r then w.copies - f w.packet.number else 0) ≤ copies_if r w = less_if (rank w.packet.msg == r) (w.copies - f w.packet.number) w.copies (omega arith) in
    omega (arith, is, few)

step_copies : (f : ℕ → ℕ) (w : Waiting) (ws : List Waiting) (r : ℕ) →
    copies_at (without f (w ∷ ws)) r ≡ copies_at (wait w.packet (w.copies - f w.packet.number)) r + copies_at (without f ws) r
step_copies f w ws r = total_append (copies_if r) (wait w.packet (w.copies - f w.packet.number)) (without f ws)

pub without_le : (f : ℕ → ℕ) (ws : List Waiting) (r : ℕ) → copies_at (without f ws) r ≤ copies_at ws r
without_le f [] r = omega arith
without_le f (w ∷ ws) r =
    let one : copies_at (wait w.packet (w.copies - f w.packet.number)) r ≤ copies_if r w = left_le f w r in
    let rest : copies_at (without f ws) r ≤ copies_at ws r = without_le f ws r in
    let is : copies_at (without f (w ∷ ws)) r ≡ copies_at (wait w.packet (w.copies - f w.packet.number)) r + copies_at (without f ws) r = step_copies f w ws r in
    omega (arith, one, rest, is)

-- copies of the rank of a packet of which some are away
pub without_less : (f : ℕ → ℕ) (ws : List Waiting) (r : ℕ) → Live ws →
    (copies_at (without f ws) r < copies_at ws r) ⊎ Each (λ p. rank p.msg ≡ r → f p.number ≡ 0) (map (λ w. w.packet) ws)
without_less f [] r live = inr tt
without_less f (w ∷ ws) r live = by (rank w.packet.msg == r) refl (f w.packet.number) refl (without_less f ws r live.1)
  where
    one : copies_at (wait w.packet (w.copies - f w.packet.number)) r ≤ copies_if r w
    one = left_le f w r

    is : copies_at (without f (w ∷ ws)) r ≡ copies_at (wait w.packet (w.copies - f w.packet.number)) r + copies_at (without f ws) r
    is = step_copies f w ws r

    Goal : Type 0
    Goal = (copies_at (without f (w ∷ ws)) r < copies_at (w ∷ ws) r) ⊎ Each (λ p. rank p.msg ≡ r → f p.number ≡ 0) (map (λ w. w.packet) (w ∷ ws))

    more : (rank w.packet.msg ≡ r → f w.packet.number ≡ 0) →
        (copies_at (without f ws) r < copies_at ws r) ⊎ Each (λ p. rank p.msg ≡ r → f p.number ≡ 0) (map (λ w. w.packet) ws) → Goal
    more this (inl less) = inl (omega (arith, one, is, less))
    more this (inr all) = inr (this, all)

    by : (b : Bool) → (rank w.packet.msg == r) ≡ b → (k : ℕ) → f w.packet.number ≡ k →
        (copies_at (without f ws) r < copies_at ws r) ⊎ Each (λ p. rank p.msg ≡ r → f p.number ≡ 0) (map (λ w. w.packet) ws) → Goal
    by false other k away rest = more (λ same. (let yes : (rank w.packet.msg == r) ≡ true = eq-eqb (rank w.packet.msg) r same in absurd (true≢false (sym yes ∙ other)))) rest
    by true same zero away rest = more (λ yes. away) rest
    by true same (suc k) away rest = inl (
        let left : copies_at (wait w.packet (w.copies - f w.packet.number)) r ≡ w.copies - f w.packet.number = copies_wait w.packet (w.copies - f w.packet.number) r ∙ rw same refl in
        let all : copies_if r w ≡ w.copies = rw same refl in
        let some : 1 ≤ w.copies = live.0 in
        let others : copies_at (without f ws) r ≤ copies_at ws r = without_le f ws r in
        omega (arith, is, left, all, some, others, away))

-- what is sent has no copies of a rank that it does not reach
pub sent_none : (sc : Scenario) (h : List Entry) (t : ℕ → ℕ) (k r : ℕ) (ps : List Packet) → k ≤ r → list_all (λ p. nat_lt (rank p.msg) k) ps ≡ true →
    copies_at (without t (map (given sc h) ps)) r ≡ 0
sent_none sc h t k r [] few all = refl
sent_none sc h t k r (p ∷ ps) few all =
    let parts = and_parts (nat_lt (rank p.msg) k) (list_all (λ p. nat_lt (rank p.msg) k) ps) all in
    let low : rank p.msg < k = ltb-true (rank p.msg) k parts.0 in
    let differs : (rank p.msg == r) ≡ false = other (rank p.msg) r (omega (arith, low, few)) in
    let is : _ = step_copies t (given sc h p) (map (given sc h) ps) r in
    let this : copies_at (wait p (copies_of (fate_of sc h p) - t p.number)) r ≡ 0 = copies_wait p (copies_of (fate_of sc h p) - t p.number) r ∙ rw differs refl in
    let rest : copies_at (without t (map (given sc h) ps)) r ≡ 0 = sent_none sc h t k r ps few parts.1 in
    omega (arith, is, this, rest)
  where
    other : (n m : ℕ) → n < m → (n == m) ≡ false
    other n m less = by (n == m) refl
      where
        by : (b : Bool) → (n == m) ≡ b → (n == m) ≡ false
        by false is = is
        by true is = let same : n ≡ m = eqb-true n m is in absurd (omega (arith, same, less))

pub numbered_below : (k n : ℕ) (ps : List Packet) → list_all (λ p. nat_lt (rank p.msg) k) ps ≡ true → list_all (λ p. nat_lt (rank p.msg) k) (numbered n ps) ≡ true
numbered_below k n [] all = refl
numbered_below k n (p ∷ ps) all =
    let parts = and_parts (nat_lt (rank p.msg) k) (list_all (λ p. nat_lt (rank p.msg) k) ps) all in
    rw (parts.0, numbered_below k (suc n) ps parts.1) refl

-- An entry that takes a copy of a pending packet, and sends only packets of lower rank, lowers the copies by rank.
pub copies_lower : (sc : Scenario) (h : List Entry) (e : Entry) (p : Packet) → Contains (pending sc h) p → 1 ≤ taken_by p.number e.act →
    list_all (λ q. nat_lt (rank q.msg) (rank p.msg)) (outs_of e.act) ≡ true →
    is_below (down_from 11 (copies_at (waiting_of sc (h ++ e ∷ [])))) (down_from 11 (copies_at (waiting_of sc h))) ≡ true
copies_lower sc h e p has takes low = lower_from (copies_at (waiting_of sc (h ++ e ∷ []))) (copies_at (waiting_of sc h)) (rank p.msg) 11 (few_ranks p.msg) most
    (by (without_less f ws (rank p.msg) (waiting_live sc h)))
  where
    f : ℕ → ℕ
    f n = taken_by n e.act

    ws : List Waiting
    ws = waiting_of sc h

    new : List Waiting
    new = without (λ n. taken n (h ++ e ∷ [])) (map (given sc h) (outs_of e.act))

    is : (q : ℕ) → copies_at (waiting_of sc (h ++ e ∷ [])) q ≡ copies_at (without f ws) q + copies_at new q
    is q = ap (λ l. copies_at l q) (waiting_push sc h e) ∙ total_append (copies_if q) (without f ws) new

    none : (q : ℕ) → rank p.msg ≤ q → copies_at new q ≡ 0
    none q above = sent_none sc h (λ n. taken n (h ++ e ∷ [])) (rank p.msg) q (outs_of e.act) above low

    most : (q : ℕ) → rank p.msg ≤ q → copies_at (waiting_of sc (h ++ e ∷ [])) q ≤ copies_at ws q
    most q above =
        let a : copies_at (waiting_of sc (h ++ e ∷ [])) q ≡ copies_at (without f ws) q + copies_at new q = is q in
        let b : copies_at new q ≡ 0 = none q above in
        let c : copies_at (without f ws) q ≤ copies_at ws q = without_le f ws q in
        omega (arith, a, b, c)

    by : (copies_at (without f ws) (rank p.msg) < copies_at ws (rank p.msg)) ⊎ Each (λ q. rank q.msg ≡ rank p.msg → f q.number ≡ 0) (map (λ w. w.packet) ws) →
        copies_at (waiting_of sc (h ++ e ∷ [])) (rank p.msg) < copies_at ws (rank p.msg)
    by (inl less) =
        let a : copies_at (waiting_of sc (h ++ e ∷ [])) (rank p.msg) ≡ copies_at (without f ws) (rank p.msg) + copies_at new (rank p.msg) = is (rank p.msg) in
        let b : copies_at new (rank p.msg) ≡ 0 = none (rank p.msg) (omega arith) in
        omega (arith, a, b, less)
    by (inr all) =
        let P : List Packet → Type 0 = λ l. Each (λ q. rank q.msg ≡ rank p.msg → f q.number ≡ 0) l in
        let zero_is : f p.number ≡ 0 = each-at (λ q. rank q.msg ≡ rank p.msg → f q.number ≡ 0) (pending sc h) p (subst P (pending_waits sc h) all) has refl in
        absurd (omega (arith, zero_is, takes))
