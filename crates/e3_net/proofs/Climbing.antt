-- Packets that wait in ascending order of their numbers, and the one that is taken.
use Rattle.std.proofs.Common.{◌≡◌, ◌==◌, ◌-◌, ◌+◌, ◌<◌, ◌≤◌, if◌then◌else◌, ℕ, zero, suc, Bool, true, false, List, [], ◌∷◌, ◌++◌, length, Some, ◌∙◌, ap, sym, subst, refl, map, arith, eq-eqb}
use Rattle.std.specs.Prelude.{find}
use Rattle.std.proofs.lemmas.Bool.{ne_eqb}
use Rattle.e3_types.specs.declared.messages.Packet.{Packet}
use Rattle.e3_world.specs.Legal.{numbered}
use Rattle.e3_net.specs.declared.waiting.Waiting.{Waiting}
use Rattle.e3_net.specs.Traffic.{wait, goes_to, less_one_to}
use Rattle.e3_net.specs.Stands.{without}
use Rattle.e3_net.proofs.Copies.{Live, wait_live}

-- the numbers ascend, above the first and up to the last
abbrev pub Climbs : ℕ → List Waiting → ℕ → Type 0
Climbs low [] high = Unit {0}
Climbs low (w ∷ ws) high = (low < w.packet.number) × (w.packet.number ≤ high) × Climbs w.packet.number ws high

climbs_lower : (low n : ℕ) (ws : List Waiting) (high : ℕ) → low ≤ n → Climbs n ws high → Climbs low ws high
climbs_lower low n [] high below is = tt
climbs_lower low n (w ∷ ws) high below is = let above : n < w.packet.number = is.0 in (omega (arith, below, above), is.1, is.2)

climbs_wait : (low : ℕ) (p : Packet) (c : ℕ) (ws : List Waiting) (high : ℕ) → low < p.number → p.number ≤ high → Climbs p.number ws high →
    Climbs low (wait p c ++ ws) high
climbs_wait low p zero ws high above below is = climbs_lower low p.number ws high (omega (arith, above)) is
climbs_wait low p (suc c) ws high above below is = (above, below, is)

pub climbs_without : (f : ℕ → ℕ) (low : ℕ) (ws : List Waiting) (high : ℕ) → Climbs low ws high → Climbs low (without f ws) high
climbs_without f low [] high is = tt
climbs_without f low (w ∷ ws) high is =
    climbs_wait low w.packet (w.copies - f w.packet.number) (without f ws) high is.0 is.1 (climbs_without f w.packet.number ws high is.2)

-- packets that are numbered ascend
same_head : {X : Type 0} (x y : X) (xs ys : List X) → x ∷ xs ≡ y ∷ ys → x ≡ y
same_head x y xs ys is = cc

same_tail : {X : Type 0} (x y : X) (xs ys : List X) → x ∷ xs ≡ y ∷ ys → xs ≡ ys
same_tail x y xs ys is = cc

pub climbs_numbered : (n : ℕ) (ws : List Waiting) → map (λ w. w.packet) ws ≡ numbered (suc n) (map (λ w. w.packet) ws) → Climbs n ws (n + length ws)
climbs_numbered n [] is = tt
climbs_numbered n (w ∷ ws) is =
    let first : w.packet.number ≡ suc n = ap (λ p. p.number) (same_head w.packet _ _ _ is) in
    let more : suc n + length ws ≡ n + suc (length ws) = omega arith in
    let rest : Climbs (suc n) ws (n + suc (length ws)) = subst (λ k. Climbs (suc n) ws k) more (climbs_numbered (suc n) ws (same_tail _ _ _ _ is)) in
    (omega (arith, first), omega (arith, first), subst (λ k. Climbs k ws (n + suc (length ws))) (sym first) rest)

-- what is found is among them
pub found_within : (test : Waiting → Bool) (low : ℕ) (ws : List Waiting) (high : ℕ) (w : Waiting) → Climbs low ws high → find test ws ≡ Some w →
    (low < w.packet.number) × (w.packet.number ≤ high)
found_within test low [] high w is found = absurd cc
found_within test low (v ∷ ws) high w is found = by (test v) refl (λ f. found_within test v.packet.number ws high w is.2 f)
  where
    by : (b : Bool) → test v ≡ b → (find test ws ≡ Some w → (v.packet.number < w.packet.number) × (w.packet.number ≤ high)) →
        (low < w.packet.number) × (w.packet.number ≤ high)
    by true here more =
        let same : v ≡ w = (let two : Some v ≡ Some w = sym (rw here refl) ∙ found in cc) in
        subst (λ (u : Waiting). (low < u.packet.number) × (u.packet.number ≤ high)) same (is.0, is.1)
    by false other more =
        let there : find test ws ≡ Some w = sym (rw other refl) ∙ found in
        let inside : (v.packet.number < w.packet.number) × (w.packet.number ≤ high) = more there in
        let one : v.packet.number < w.packet.number = inside.0 in
        let two : low < v.packet.number = is.0 in
        (omega (arith, one, two), inside.1)

-- one copy of this number
abbrev pub one_of : ℕ → ℕ → ℕ
one_of k n = if k == n then 1 else 0

pub one_other : (k n : ℕ) → k < n → one_of k n ≡ 0
one_other k n less = let differs : (k == n) ≡ false = ne_eqb k n (λ is. omega (arith, is, less)) in rw differs refl

other_one : (k n : ℕ) → n < k → one_of k n ≡ 0
other_one k n less = let differs : (k == n) ≡ false = ne_eqb k n (λ is. omega (arith, is, less)) in rw differs refl

one_same : (k : ℕ) → one_of k k ≡ 1
one_same k = rw (eq-eqb k k refl) refl

-- none of those behind it has its number
pub none_behind : (k low : ℕ) (ws : List Waiting) (high : ℕ) → k ≤ low → Climbs low ws high → Live ws → without (one_of k) ws ≡ ws
none_behind k low [] high below is live = refl
none_behind k low (w ∷ ws) high below is live =
    let above : low < w.packet.number = is.0 in
    ap (λ l. l ++ without (one_of k) ws) (wait_live w (one_of k w.packet.number) (one_other k w.packet.number (omega (arith, below, above))) live.0)
    ∙ ap (λ l. w ∷ l) (none_behind k w.packet.number ws high (omega (arith, below, above)) is.2 live.1)

-- the copy of the first packet to a site is taken by its number
pub less_is : (site low : ℕ) (ws : List Waiting) (high : ℕ) (w : Waiting) → Climbs low ws high → Live ws → find (goes_to site) ws ≡ Some w →
    without (one_of w.packet.number) ws ≡ less_one_to site ws
less_is site low [] high w is live found = absurd cc
less_is site low (v ∷ ws) high w is live found = by (goes_to site v) refl (λ f. less_is site v.packet.number ws high w is.2 live.1 f)
  where
    by : (b : Bool) → goes_to site v ≡ b → (find (goes_to site) ws ≡ Some w → without (one_of w.packet.number) ws ≡ less_one_to site ws) →
        without (one_of w.packet.number) (v ∷ ws) ≡ less_one_to site (v ∷ ws)
    by true here more =
        let same : v ≡ w = (let two : Some v ≡ Some w = sym (rw here refl) ∙ found in cc) in
        ap (λ (u : Waiting). without (one_of u.packet.number) (v ∷ ws)) (sym same)
        ∙ ap (λ k. wait v.packet (v.copies - k) ++ without (one_of v.packet.number) ws) (one_same v.packet.number)
        ∙ ap (λ l. wait v.packet (v.copies - 1) ++ l) (none_behind v.packet.number v.packet.number ws high (omega arith) is.2 live.1)
        ∙ sym (rw here refl)
    by false other more =
        let there : find (goes_to site) ws ≡ Some w = sym (rw other refl) ∙ found in
        let above : v.packet.number < w.packet.number = (found_within (goes_to site) v.packet.number ws high w is.2 there).0 in
        ap (λ l. l ++ without (one_of w.packet.number) ws) (wait_live v (one_of w.packet.number v.packet.number) (other_one w.packet.number v.packet.number above) live.0)
        ∙ ap (λ l. v ∷ l) (more there)
        ∙ sym (rw other refl)
