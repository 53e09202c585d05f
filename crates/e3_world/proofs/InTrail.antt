-- A pending packet was sent; so a packet that a legal history delivers was sent by an earlier move of its trail.
use Rattle.std.proofs.Common.{◌≡◌, inl, inr, ℕ, zero, suc, Bool, true, false, List, [], ◌∷◌, ◌++◌, sym, refl, map, filter, if◌then◌else◌, subst, arith}
use Rattle.std.specs.Prelude.{Contains}
use Rattle.std.proofs.lemmas.List.Elements.{Contains-append_left, Contains-append_right, Contains-append_cases}
use Rattle.e3_types.specs.declared.entries.Entry.{Entry}
use Rattle.e3_types.specs.declared.entries.Input.TheVariants as input
use Rattle.e3_types.specs.declared.messages.Packet.{Packet}
use Rattle.e3_types.specs.declared.scenarios.Scenario.{Scenario}
use Rattle.e3_world.specs.Moves.{trail_of, unnumbered, unnumbered_input}
use Rattle.e3_world.specs.Packets.{outs_of, sent, pending, left_after}
use Rattle.e3_world.specs.Legal.{IsDelivery}
use Rattle.e3_world.specs.Sound.{WasSent}
use Rattle.e3_world.proofs.Sending.{trail_sends}

no_element : {P : Type 0} {X : Type 0} (x : X) → Contains [] x → P
no_element x has = absurd (omega (arith, has.1))

only_one : {X : Type 0} (y x : X) → Contains (y ∷ []) x → y ≡ x
only_one y x (zero, low, is) = is
only_one y x (suc k, low, is) = absurd (omega (arith, low))

filter_head : (b : Bool) (y : Packet) (ys some : List Packet) (x : Packet) → (Contains some x → Contains ys x) →
    Contains (if b then y ∷ some else some) x → Contains (y ∷ ys) x
filter_head true y ys some x more h = elim (Contains-append_cases (y ∷ []) some x h) [
  | inl first ↦ Contains-append_left (y ∷ []) ys x first
  | inr rest ↦ Contains-append_right (y ∷ []) ys x (more rest)
]
filter_head false y ys some x more h = Contains-append_right (y ∷ []) ys x (more h)

from_filter : (p : Packet → Bool) (xs : List Packet) (x : Packet) → Contains (filter p xs) x → Contains xs x
from_filter p [] x has = has
from_filter p (y ∷ ys) x has = filter_head (p y) y ys (filter p ys) x (λ rest. from_filter p ys x rest) has

from_left : (sc : Scenario) (all before rest : List Entry) (p : Packet) → Contains (left_after sc all before rest) p → Contains (sent rest) p
from_left sc all before [] p has = has
from_left sc all before (e ∷ rest) p has =
    elim (Contains-append_cases _ (left_after sc all (before ++ e ∷ []) rest) p has) [
      | inl first ↦ Contains-append_left (outs_of e.act) (sent rest) p (from_filter _ (outs_of e.act) p first)
      | inr more ↦ Contains-append_right (outs_of e.act) (sent rest) p (from_left sc all (before ++ e ∷ []) rest p more)
    ]

pub pending_sent : (sc : Scenario) (h : List Entry) (p : Packet) → Contains (pending sc h) p → Contains (sent h) p
pending_sent sc h p has = from_left sc h [] h p has

unnumbered_in : (xs : List Packet) (x : Packet) → Contains xs x → Contains (map unnumbered xs) (unnumbered x)
unnumbered_in [] x has = no_element x has
unnumbered_in (y ∷ ys) x has = elim (Contains-append_cases (y ∷ []) ys x has) [
  | inl first ↦ (let P : Packet → Type 0 = λ z. Contains (map unnumbered (y ∷ ys)) (unnumbered z) in subst P (only_one y x first) (0, omega arith, refl))
  | inr more ↦ Contains-append_right (unnumbered y ∷ []) (map unnumbered ys) (unnumbered x) (unnumbered_in ys x more)
]

pub due_was_sent : (sc : Scenario) (h : List Entry) (site : ℕ) (p : Packet) → IsDelivery sc h site p → WasSent (trail_of sc h) (unnumbered_input (input.Deliver p))
due_was_sent sc h site p due =
    let P : List Packet → Type 0 = λ l. Contains l (unnumbered p) in
    subst P (sym (trail_sends sc h)) (unnumbered_in (sent h) p (pending_sent sc h p due.is_pending))
