-- What the inputs of an entry take of a network.
use Rattle.std.proofs.Common.{◌≡◌, ◌==◌, ◌+◌, ◌<◌, ◌≤◌, if◌then◌else◌, ℕ, false, List, [], ◌∷◌, Option, Some, None, ◌∙◌, ap, sym, subst, refl, arith, count_by}
use Rattle.std.specs.Prelude.{find, option_map}
use Rattle.std.proofs.lemmas.Bool.{ne_eqb}
use Rattle.std.proofs.lemmas.List.Sums.{sum_by-append}
use Rattle.e3_types.specs.declared.entries.Input.{Input}
use Rattle.e3_types.specs.declared.entries.Input.TheVariants as input
use Rattle.e3_types.specs.declared.messages.Packet.{Packet}
use Rattle.e3_world.specs.Packets.{takes_input}
use Rattle.e3_net.specs.declared.waiting.Waiting.{Waiting}
use Rattle.e3_net.specs.Traffic.{Traffic, goes_to, packet_to, takes}
use Rattle.e3_net.specs.Stands.{without, behind_input, IsNext, behind_inputs, AreNext}
use Rattle.e3_net.proofs.Copies.{Live, live_without, without_none, without_same, without_more}
use Rattle.e3_net.proofs.Climbing.{Climbs, climbs_without, found_within, one_of, less_is}

-- packets wait in ascending order, with a copy at least
pub record Waits (net : Traffic) : Type 0 where
  pub climbs : Climbs 0 net.waiting net.sent
  pub live : Live net.waiting

-- what is found, and its packet
pub found_of : (o : Option Waiting) (p : Packet) → option_map (λ w. w.packet) o ≡ Some p → (w : Waiting) × (o ≡ Some w) × (w.packet ≡ p)
found_of None p is = absurd cc
found_of (Some w) p is = (w, refl, let same : w.packet ≡ p = cc in same)

-- the copy of the packet to a site is taken by its number
pub takes_is : (site : ℕ) (net : Traffic) (p : Packet) → Waits net → packet_to site net ≡ Some p →
    without (one_of p.number) net.waiting ≡ (takes site net).waiting
takes_is site net p waits is =
    let found : (w : Waiting) × (find (goes_to site) net.waiting ≡ Some w) × (w.packet ≡ p) = found_of (find (goes_to site) net.waiting) p is in
    ap (λ (q : Packet). without (one_of q.number) net.waiting) (sym found.2)
    ∙ less_is site 0 net.waiting net.sent found.0 waits.climbs waits.live found.1

-- it was sent
pub taken_was_sent : (site : ℕ) (net : Traffic) (p : Packet) → Waits net → packet_to site net ≡ Some p → p.number ≤ net.sent
taken_was_sent site net p waits is =
    let found : (w : Waiting) × (find (goes_to site) net.waiting ≡ Some w) × (w.packet ≡ p) = found_of (find (goes_to site) net.waiting) p is in
    subst (λ (q : Packet). q.number ≤ net.sent) found.2 (found_within (goes_to site) 0 net.waiting net.sent found.0 waits.climbs found.1).1

-- less some copies, they still wait
pub waits_less : (f : ℕ → ℕ) (net : Traffic) (ws : List Waiting) → Waits net → without f net.waiting ≡ ws → Waits (record net { waiting = ws })
waits_less f net ws waits is = record {
  climbs = subst (λ l. Climbs 0 l net.sent) is (climbs_without f 0 net.waiting net.sent waits.climbs);
  live = subst Live is (live_without f net.waiting);
}

-- how many copies an input takes of the packet of each number
abbrev pub away_by : Input → ℕ → ℕ
away_by i n = if takes_input n i then 1 else 0

pub input_takes : (net : Traffic) (i : Input) → Waits net → IsNext net i → without (away_by i) net.waiting ≡ (behind_input net i).waiting
input_takes net (input.Begin sites) waits next = without_none _ net.waiting waits.live (λ n. refl)
input_takes net (input.Do t op) waits next = without_none _ net.waiting waits.live (λ n. refl)
input_takes net (input.Commit t) waits next = without_none _ net.waiting waits.live (λ n. refl)
input_takes net (input.Cancel t) waits next = without_none _ net.waiting waits.live (λ n. refl)
input_takes net (input.Expire t) waits next = without_none _ net.waiting waits.live (λ n. refl)
input_takes net (input.Elect t group) waits next = without_none _ net.waiting waits.live (λ n. refl)
input_takes net (input.Deliver p) waits next = takes_is p.to net p waits next

-- an input changes nothing but what waits
pub behind_rest : (net : Traffic) (i : Input) → behind_input net i ≡ record net { waiting = (behind_input net i).waiting }
behind_rest net (input.Begin sites) = refl
behind_rest net (input.Do t op) = refl
behind_rest net (input.Commit t) = refl
behind_rest net (input.Cancel t) = refl
behind_rest net (input.Expire t) = refl
behind_rest net (input.Elect t group) = refl
behind_rest net (input.Deliver p) = refl

pub input_waits : (net : Traffic) (i : Input) → Waits net → IsNext net i → Waits (behind_input net i)
input_waits net i waits next =
    subst Waits (sym (behind_rest net i)) (waits_less (away_by i) net (behind_input net i).waiting waits (input_takes net i waits next))

-- no input takes a packet that was not sent
pub input_sent : (net : Traffic) (i : Input) (n : ℕ) → Waits net → IsNext net i → net.sent < n → away_by i n ≡ 0
input_sent net (input.Begin sites) n waits next above = refl
input_sent net (input.Do t op) n waits next above = refl
input_sent net (input.Commit t) n waits next above = refl
input_sent net (input.Cancel t) n waits next above = refl
input_sent net (input.Expire t) n waits next above = refl
input_sent net (input.Elect t group) n waits next above = refl
input_sent net (input.Deliver p) n waits next above =
    let was : p.number ≤ net.sent = taken_was_sent p.to net p waits next in
    let differs : (p.number == n) ≡ false = ne_eqb p.number n (λ is. omega (arith, is, above, was)) in rw differs refl

-- several inputs
pub one_more : (i : Input) (inputs : List Input) (n : ℕ) → count_by (takes_input n) (i ∷ inputs) ≡ away_by i n + count_by (takes_input n) inputs
one_more i inputs n = sum_by-append _ (i ∷ []) inputs ∙ ap (λ k. k + count_by (takes_input n) inputs) (let plain : 0 + away_by i n ≡ away_by i n = omega arith in plain)

pub inputs_take : (net : Traffic) (inputs : List Input) → Waits net → AreNext net inputs →
    without (λ n. count_by (takes_input n) inputs) net.waiting ≡ (behind_inputs net inputs).waiting
inputs_take net [] waits next = without_none _ net.waiting waits.live (λ n. refl)
inputs_take net (i ∷ inputs) waits next =
    without_same (λ n. count_by (takes_input n) (i ∷ inputs)) (λ n. away_by i n + count_by (takes_input n) inputs) net.waiting (one_more i inputs)
    ∙ without_more (away_by i) (λ n. count_by (takes_input n) inputs) net.waiting
    ∙ ap (without (λ n. count_by (takes_input n) inputs)) (input_takes net i waits next.0)
    ∙ inputs_take (behind_input net i) inputs (input_waits net i waits next.0) next.1

pub behind_all_rest : (net : Traffic) (inputs : List Input) → behind_inputs net inputs ≡ record net { waiting = (behind_inputs net inputs).waiting }
behind_all_rest net [] = refl
behind_all_rest net (i ∷ inputs) =
    behind_all_rest (behind_input net i) inputs
    ∙ ap (λ (was : Traffic). let now : Traffic = record was { waiting = (behind_inputs (behind_input net i) inputs).waiting } in now) (behind_rest net i)

pub inputs_sent : (net : Traffic) (inputs : List Input) (n : ℕ) → Waits net → AreNext net inputs → net.sent < n → count_by (takes_input n) inputs ≡ 0
inputs_sent net [] n waits next above = refl
inputs_sent net (i ∷ inputs) n waits next above =
    let same : (behind_input net i).sent ≡ net.sent = ap (λ (t : Traffic). t.sent) (behind_rest net i) in
    let one : away_by i n ≡ 0 = input_sent net i n waits next.0 above in
    let more : count_by (takes_input n) inputs ≡ 0 =
    inputs_sent (behind_input net i) inputs n (input_waits net i waits next.0) next.1 (subst (λ k. k < n) (sym same) above) in
    one_more i inputs n ∙ (let none : away_by i n + count_by (takes_input n) inputs ≡ 0 = omega (arith, one, more) in none)
