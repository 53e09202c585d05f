-- Packets that wait, less some copies.
use Rattle.std.proofs.Common.{◌≡◌, ◌-◌, ◌+◌, ◌≤◌, if◌then◌else◌, ℕ, zero, suc, Bool, true, false, List, [], ◌∷◌, ◌++◌, append-nil, ◌∙◌, ap, sym, refl, map, arith, nat_lt}
use Rattle.std.proofs.lemmas.Grind.{flat_map-append}
use Rattle.std.proofs.lemmas.Bool.Decides.{nat_tests}
use Rattle.e3_types.specs.declared.messages.Packet.{Packet}
use Rattle.e3_net.specs.declared.waiting.Waiting.{Waiting}
use Rattle.e3_net.specs.Traffic.{wait}
use Rattle.e3_net.specs.Stands.{without}

-- a copy at least is left of each
abbrev pub Live : List Waiting → Type 0
Live [] = Unit {0}
Live (w ∷ ws) = (1 ≤ w.copies) × Live ws

pub without_append : (f : ℕ → ℕ) (xs ys : List Waiting) → without f (xs ++ ys) ≡ without f xs ++ without f ys
without_append f xs ys = flat_map-append (λ w. wait w.packet (w.copies - f w.packet.number)) xs ys

pub without_same : (f g : ℕ → ℕ) (ws : List Waiting) → ((n : ℕ) → f n ≡ g n) → without f ws ≡ without g ws
without_same f g [] same = refl
without_same f g (w ∷ ws) same =
    ap (λ k. wait w.packet (w.copies - k) ++ without f ws) (same w.packet.number)
    ∙ ap (λ l. wait w.packet (w.copies - g w.packet.number) ++ l) (without_same f g ws same)

pub without_wait : (d : ℕ → ℕ) (p : Packet) (c : ℕ) → without d (wait p c) ≡ wait p (c - d p.number)
without_wait d p zero = let none : zero ≡ zero - d p.number = omega arith in ap (wait p) none
without_wait d p (suc c) = append-nil (wait p (suc c - d p.number))

pub without_more : (f d : ℕ → ℕ) (ws : List Waiting) → without (λ n. f n + d n) ws ≡ without d (without f ws)
without_more f d [] = refl
without_more f d (w ∷ ws) =
    ap (λ l. wait w.packet (w.copies - (f w.packet.number + d w.packet.number)) ++ l) (without_more f d ws)
    ∙ ap (λ k. wait w.packet k ++ without d (without f ws)) less
    ∙ ap (λ l. l ++ without d (without f ws)) (sym (without_wait d w.packet (w.copies - f w.packet.number)))
    ∙ sym (without_append d (wait w.packet (w.copies - f w.packet.number)) (without f ws))
  where
    less : w.copies - (f w.packet.number + d w.packet.number) ≡ (w.copies - f w.packet.number) - d w.packet.number
    less = omega arith

live_wait : (p : Packet) (c : ℕ) (ws : List Waiting) → Live ws → Live (wait p c ++ ws)
live_wait p zero ws live = live
live_wait p (suc c) ws live = (omega arith, live)

pub live_without : (f : ℕ → ℕ) (ws : List Waiting) → Live (without f ws)
live_without f [] = tt
live_without f (w ∷ ws) = live_wait w.packet (w.copies - f w.packet.number) (without f ws) (live_without f ws)

-- what has a copy left is still there when none is away
wait_all : (w : Waiting) (c : ℕ) → w.copies ≡ c → 1 ≤ c → wait w.packet c ≡ w ∷ []
wait_all w zero is some = absurd (omega (arith, some))
wait_all w (suc c) is some = ap (λ (k : ℕ). let v : Waiting = record { packet = w.packet; copies = k } in v ∷ []) (sym is)

pub wait_live : (w : Waiting) (away : ℕ) → away ≡ 0 → 1 ≤ w.copies → wait w.packet (w.copies - away) ≡ w ∷ []
wait_live w away none some = let all : w.copies - away ≡ w.copies = omega (arith, none) in ap (wait w.packet) all ∙ wait_all w w.copies refl some

pub without_none : (f : ℕ → ℕ) (ws : List Waiting) → Live ws → ((n : ℕ) → f n ≡ 0) → without f ws ≡ ws
without_none f [] live none = refl
without_none f (w ∷ ws) live none =
    ap (λ l. l ++ without f ws) (wait_live w (f w.packet.number) (none w.packet.number) live.0)
    ∙ ap (λ l. w ∷ l) (without_none f ws live.1 none)

-- a packet waits where fewer copies are away than it has
pub wait_passes : (p : Packet) (c away : ℕ) (ps : List Packet) →
    map (λ w. w.packet) (wait p (c - away)) ++ ps ≡ (if nat_lt away c then p ∷ ps else ps)
wait_passes p c away ps = by (c - away) refl (nat_lt away c) refl
  where
    by : (left : ℕ) → c - away ≡ left → (b : Bool) → nat_lt away c ≡ b →
        map (λ w. w.packet) (wait p (c - away)) ++ ps ≡ (if nat_lt away c then p ∷ ps else ps)
    by zero is true test = absurd (grind (arith, nat_tests, is, test))
    by zero is false test = rw (is, test) refl
    by (suc left) is true test = rw (is, test) refl
    by (suc left) is false test = absurd (grind (arith, nat_tests, is, test))
