-- Where a packet is pending, the history has not gone through its scenario.
use Rattle.std.proofs.Common.{◌≡◌, ◌≢◌, ◌&&◌, ◌∷◌, [], ◌≤◌, ℕ, zero, suc, Bool, true, false, List, length, Some, None, refl, sym, subst, ap, ◌∙◌, arith}
use Rattle.std.specs.Prelude.{slice_get, Result, Err, OnErr}
use Rattle.std.specs.List.{list_all}
use Rattle.e3_types.specs.declared.entries.Entry.{Entry}
use Rattle.e3_types.specs.declared.messages.Packet.{Packet}
use Rattle.e3_types.specs.declared.scenarios.Scenario.{Scenario}
use Rattle.e3_world.specs.Legal.{IsWhole, first_pending, has_rising, is_made, is_through}
use Rattle.e3_world.specs.Packets.{all_sites, lines, pending}
use Rattle.e3_world.specs.Progress.{Delivering}
use Rattle.e3_world.proofs.Turns.{through, true_not_false}
use Rattle.e3_play.specs.Delivered.{IsFull, IsFullBefore, IsOwed, IsPacketDue}

-- at the bound
pub bounded_before : (owes : Scenario → List Entry → Type 0) (sc : Scenario) (h : List Entry) (most : ℕ) → length h ≤ most → most ≤ length h → owes sc h → ¬ IsWhole sc h →
    IsFullBefore owes sc h most
bounded_before owes sc h most few many owed unmade = record { full = omega (arith, few, many); owed = owed; unfinished = unmade }

pub bounded : (sc : Scenario) (h : List Entry) (most : ℕ) → length h ≤ most → most ≤ length h → IsOwed sc h → ¬ IsWhole sc h → IsFull sc h most
bounded sc h most few many owed unmade = bounded_before IsOwed sc h most few many owed unmade

-- a full history of one kind is one of more kinds
pub full_too : (one more : Scenario → List Entry → Type 0) (sc : Scenario) (h : List Entry) (most : ℕ) → (one sc h → more sc h) → IsFullBefore one sc h most →
    IsFullBefore more sc h most
full_too one more sc h most widen was = record { full = was.full; owed = widen was.owed; unfinished = was.unfinished }

through_parts : (sc : Scenario) (h : List Entry) (n : ℕ) → lines h ≡ suc n → is_through sc h ≡ true → (pending sc h ≡ []) × (is_made sc h ≡ true)
through_parts sc h n line all = by (pending sc h) refl
  where
    is_empty : List Packet → Bool
    is_empty [] = true
    is_empty (p ∷ ps) = false

    at : ℕ → Bool
    at zero = list_all (has_rising h) (all_sites sc)
    at (suc n) = is_empty (pending sc h) && is_made sc h

    left : List Packet → Bool
    left ps = is_empty ps && is_made sc h

    both : (is_empty (pending sc h) && is_made sc h) ≡ true
    both = sym (ap at line) ∙ all

    by : (ps : List Packet) → pending sc h ≡ ps → (pending sc h ≡ []) × (is_made sc h ≡ true)
    by [] none = (none, sym (ap left none) ∙ both)
    by (p ∷ ps) some = absurd (true_not_false (sym both ∙ ap left some))

pub some_line : (n : ℕ) → n ≢ 0 → (k : ℕ) × (n ≡ suc k)
some_line zero none = absurd (none refl)
some_line (suc k) none = (k, refl)

pub whole_parts : (sc : Scenario) (h : List Entry) → lines h ≢ 0 → IsWhole sc h → (pending sc h ≡ []) × (is_made sc h ≡ true)
whole_parts sc h begun whole = let line : (k : ℕ) × (lines h ≡ suc k) = some_line (lines h) begun in through_parts sc h line.0 line.1 whole.through

-- a packet is pending
pub packet_open : (sc : Scenario) (h : List Entry) (p : Packet) → lines h ≢ 0 → slice_get (pending sc h) 0 ≡ Some p → ¬ IsWhole sc h
packet_open sc h p begun first whole = let none : pending sc h ≡ [] = (whole_parts sc h begun whole).0 in
    absurd (let same : slice_get (pending sc h) 0 ≡ None = ap (λ ps. slice_get ps 0) none in let both : Some p ≡ None = sym first ∙ same in cc)

-- and it is due, where all items are through
pub packet_owed : (sc : Scenario) (h : List Entry) (p : Packet) → Delivering sc h → first_pending sc h ≡ Some p → IsPacketDue sc h
packet_owed sc h p was first = record { packet = p; first = first; through = through sc h was.done }

pub packet_full : (sc : Scenario) (h : List Entry) (most : ℕ) → length h ≤ most → most ≤ length h → lines h ≢ 0 → IsPacketDue sc h →
    IsFullBefore IsPacketDue sc h most
packet_full sc h most few many begun due = bounded_before IsPacketDue sc h most few many due (packet_open sc h due.packet begun due.first)

-- what a refusal leaves, in the words of the program's calls
pub refused : {T E : Type 0} (P : Type 0) (result : Result T E) (e : E) → result ≡ Err e → OnErr result P → P
refused {T} {E} P result e is kept = let Q : Result T E → Type 0 = λ r. OnErr r P in subst Q is kept
