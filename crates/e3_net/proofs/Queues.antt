-- The packets to a site, as often as each has copies left.
use Rattle.std.proofs.Common.{◌≡◌, ◌==◌, ◌-◌, ◌≤◌, ℕ, zero, suc, Bool, true, false, List, [], ◌∷◌, ◌++◌, append_assoc, take, ◌∙◌, ap, sym, refl, arith, eqb-true, Some}
use Rattle.std.specs.Prelude.{find, option_map, replicate}
use Rattle.e3_types.specs.declared.messages.Packet.{Packet}
use Rattle.e3_net.specs.declared.waiting.Waiting.{Waiting}
use Rattle.e3_net.specs.Traffic.{goes_to, less_one_to, queue_in, wait}
use Rattle.e3_net.proofs.Copies.{Live}

-- the first of two lists and then of the second
pub take_take : {X : Type 0} (n : ℕ) (xs ys : List X) → take n (take n xs ++ ys) ≡ take n (xs ++ ys)
take_take zero xs ys = refl
take_take (suc n) [] ys = refl
take_take (suc n) (x ∷ xs) ys = ap (λ l. x ∷ l) (take_take n xs ys)

-- the queue of more
pub queue_append : (site : ℕ) (xs ys : List Waiting) → queue_in site (xs ++ ys) ≡ queue_in site xs ++ queue_in site ys
queue_append site [] ys = refl
queue_append site (w ∷ ws) ys = by (goes_to site w) refl (queue_append site ws ys)
  where
    by : (b : Bool) → goes_to site w ≡ b → queue_in site (ws ++ ys) ≡ queue_in site ws ++ queue_in site ys →
        queue_in site ((w ∷ ws) ++ ys) ≡ queue_in site (w ∷ ws) ++ queue_in site ys
    by true here rest =
        rw here (ap (λ (l : List Packet). replicate w.copies w.packet ++ l) rest ∙ sym (append_assoc (replicate w.copies w.packet) (queue_in site ws) (queue_in site ys)))
    by false other rest = rw other rest

-- so many copies of a packet before others
pub queue_wait_here : (site : ℕ) (p : Packet) (c : ℕ) (ws : List Waiting) → (p.to == site) ≡ true → queue_in site (wait p c ++ ws) ≡ replicate c p ++ queue_in site ws
queue_wait_here site p zero ws here = refl
queue_wait_here site p (suc c) ws here = rw here refl

pub queue_wait_other : (site : ℕ) (p : Packet) (c : ℕ) (ws : List Waiting) → (p.to == site) ≡ false → queue_in site (wait p c ++ ws) ≡ queue_in site ws
queue_wait_other site p zero ws other = refl
queue_wait_other site p (suc c) ws other = rw other refl

-- the first of the queue is the first packet to the site
pub queue_first : (site : ℕ) (ws : List Waiting) (p : Packet) (rest : List Packet) → Live ws → queue_in site ws ≡ p ∷ rest →
    option_map (λ (w : Waiting). w.packet) (find (goes_to site) ws) ≡ Some p
queue_first site [] p rest live is = absurd cc
queue_first site (w ∷ ws) p rest live is = by (goes_to site w) refl w.copies refl (λ more. queue_first site ws p rest live.1 more)
  where
    by : (b : Bool) → goes_to site w ≡ b → (c : ℕ) → w.copies ≡ c →
        (queue_in site ws ≡ p ∷ rest → option_map (λ (x : Waiting). x.packet) (find (goes_to site) ws) ≡ Some p) →
        option_map (λ (x : Waiting). x.packet) (find (goes_to site) (w ∷ ws)) ≡ Some p
    by true here zero none more = absurd (let some : 1 ≤ w.copies = live.0 in omega (arith, some, none))
    by true here (suc c) some more =
        let whole : replicate w.copies w.packet ++ queue_in site ws ≡ p ∷ rest = sym (let q : queue_in site (w ∷ ws) ≡ replicate w.copies w.packet ++ queue_in site ws = rw here refl in q) ∙ is in
        let parts : w.packet ∷ (replicate c w.packet ++ queue_in site ws) ≡ p ∷ rest = sym (ap (λ (k : ℕ). replicate k w.packet ++ queue_in site ws) some) ∙ whole in
        let same : w.packet ≡ p = cc in
        (let found : option_map (λ (x : Waiting). x.packet) (find (goes_to site) (w ∷ ws)) ≡ Some w.packet = rw here refl in found) ∙ ap Some same
    by false other c is_c more =
        let there : queue_in site ws ≡ p ∷ rest = sym (let q : queue_in site (w ∷ ws) ≡ queue_in site ws = rw other refl in q) ∙ is in
        (let found : option_map (λ (x : Waiting). x.packet) (find (goes_to site) (w ∷ ws)) ≡ option_map (λ (x : Waiting). x.packet) (find (goes_to site) ws) = rw other refl in found) ∙ more there

-- it goes there
pub queue_goes : (site : ℕ) (ws : List Waiting) (p : Packet) (rest : List Packet) → Live ws → queue_in site ws ≡ p ∷ rest → p.to ≡ site
queue_goes site [] p rest live is = absurd cc
queue_goes site (w ∷ ws) p rest live is = by (goes_to site w) refl w.copies refl (λ more. queue_goes site ws p rest live.1 more)
  where
    by : (b : Bool) → goes_to site w ≡ b → (c : ℕ) → w.copies ≡ c → (queue_in site ws ≡ p ∷ rest → p.to ≡ site) → p.to ≡ site
    by true here zero none more = absurd (let some : 1 ≤ w.copies = live.0 in omega (arith, some, none))
    by true here (suc c) some more =
        let whole : replicate w.copies w.packet ++ queue_in site ws ≡ p ∷ rest = sym (let q : queue_in site (w ∷ ws) ≡ replicate w.copies w.packet ++ queue_in site ws = rw here refl in q) ∙ is in
        let parts : w.packet ∷ (replicate c w.packet ++ queue_in site ws) ≡ p ∷ rest = sym (ap (λ (k : ℕ). replicate k w.packet ++ queue_in site ws) some) ∙ whole in
        let same : w.packet ≡ p = cc in
        sym (ap (λ (q : Packet). q.to) same) ∙ eqb-true w.packet.to site here
    by false other c is_c more = more (sym (let q : queue_in site (w ∷ ws) ≡ queue_in site ws = rw other refl in q) ∙ is)

-- and when a copy of it is taken the queue has lost its first
pub queue_less : (site : ℕ) (ws : List Waiting) (p : Packet) (rest : List Packet) → Live ws → queue_in site ws ≡ p ∷ rest → queue_in site (less_one_to site ws) ≡ rest
queue_less site [] p rest live is = absurd cc
queue_less site (w ∷ ws) p rest live is = by (goes_to site w) refl w.copies refl (λ more. queue_less site ws p rest live.1 more)
  where
    by : (b : Bool) → goes_to site w ≡ b → (c : ℕ) → w.copies ≡ c → (queue_in site ws ≡ p ∷ rest → queue_in site (less_one_to site ws) ≡ rest) →
        queue_in site (less_one_to site (w ∷ ws)) ≡ rest
    by true here zero none more = absurd (let some : 1 ≤ w.copies = live.0 in omega (arith, some, none))
    by true here (suc c) some more =
        let whole : replicate w.copies w.packet ++ queue_in site ws ≡ p ∷ rest = sym (let q : queue_in site (w ∷ ws) ≡ replicate w.copies w.packet ++ queue_in site ws = rw here refl in q) ∙ is in
        let parts : w.packet ∷ (replicate c w.packet ++ queue_in site ws) ≡ p ∷ rest = sym (ap (λ (k : ℕ). replicate k w.packet ++ queue_in site ws) some) ∙ whole in
        let left : replicate c w.packet ++ queue_in site ws ≡ rest = cc in
        let one : w.copies - 1 ≡ c = omega (arith, some) in
        (let less : queue_in site (less_one_to site (w ∷ ws)) ≡ queue_in site (wait w.packet (w.copies - 1) ++ ws) = rw here refl in less)
        ∙ queue_wait_here site w.packet (w.copies - 1) ws here ∙ ap (λ (k : ℕ). replicate k w.packet ++ queue_in site ws) one ∙ left
    by false other c is_c more =
        let there : queue_in site ws ≡ p ∷ rest = sym (let q : queue_in site (w ∷ ws) ≡ queue_in site ws = rw other refl in q) ∙ is in
        (let less : queue_in site (less_one_to site (w ∷ ws)) ≡ queue_in site (less_one_to site ws) = rw other (rw other refl) in less) ∙ more there
