-- What is shared behind an entry of the driver.
use Rattle.std.proofs.Common.{◌≡◌, ◌≢◌, ◌≤◌, ◌==◌, ◌++◌, ◌∷◌, [], ℕ, List, length, Some, None, refl, sym, subst, ap, ◌∙◌, arith}
use Rattle.std.specs.Prelude.{Result, Ok, Err, OnOk, OnErr, IfOk, Option, ◌↔◌, find}
use Rattle.std.proofs.lemmas.List.Elements.{All-nil, All-cons}
use Rattle.e3_fleet.specs.Fleets.{HasDriven, drop_answer, wire_answer}
use Rattle.e3_laws.specs.local.Least.{IsLeastTo}
use Rattle.e3_laws.proofs.local.Least.{first_is_least}
use Rattle.e3_node.specs.SharedStands.{SharedStands}
use Rattle.e3_node.proofs.Sharing.{no_growth, under, used_is}
use Rattle.e3_play.specs.declared.sites.RunFault.{RunFault}
use Rattle.e3_play.specs.declared.sites.RunFault.TheVariants as run_fault
use Rattle.e3_types.specs.declared.entries.Act.{Act}
use Rattle.e3_types.specs.declared.entries.Act.TheVariants.{Drop}
use Rattle.e3_types.specs.declared.entries.Entry.{Entry}
use Rattle.e3_types.specs.declared.messages.Packet.{Packet}
use Rattle.e3_types.specs.declared.scenarios.Scenario.{Scenario}
use Rattle.e3_wire.specs.Claims.{HasOwner}
use Rattle.e3_wire.specs.Marks.{NothingIsPromised, entries_of, last_owner, most_of, scenario_of, used_of}
use Rattle.e3_wire.specs.Wires.{IsDriven, IsDroppedFor, IsPlayed}
use Rattle.e3_wire.specs.declared.fault.WireFault.{WireFault}
use Rattle.e3_wire.specs.declared.fault.WireFault.TheVariants as wire_fault
use Rattle.e3_wire.specs.declared.marks.Mark.{Mark}
use Rattle.e3_wire.specs.declared.marks.Mark.TheVariants as mark
use Rattle.e3_wire.proofs.Foreign.{entries_append}
use Rattle.e3_wire.proofs.Notes.{scenario_stays}
use Rattle.e3_wire.proofs.Spending.{entries_promise_nothing}
use Rattle.e3_world.specs.Legal.{first_pending}
use Rattle.e3_world.specs.Packets.{pending}

-- an answer of a full history comes exactly where there are as many entries as there may be
abbrev IsFullFor : List Mark → Result (Unit {0}) RunFault → Type 0
IsFullFor was answer = (answer ≡ Err run_fault.HistoryFull) ↔ (most_of was ≤ length (entries_of was))

-- what is shared behind one entry more, or behind none
driven_on : (act : Act) (was now : List Mark) → SharedStands was → IsPlayed now → now ≡ was ++ mark.Entered (record { owner = 0; act = act }) ∷ [] →
    IsFullFor was (Ok tt) → HasDriven act was now (Ok tt)
driven_on act was now stood played entered full = record {
  stands = record {
    played = played;
    within = under now played;
    none = (let P : List Mark → Type 0 = λ l. NothingIsPromised l in subst P (sym entered) (entries_promise_nothing was e stood.played stood.none));
  };
  grew = (mark.Entered e ∷ [], entered, All-cons (HasOwner (last_owner was)) (mark.Entered e) [] (0, omega arith, refl) (All-nil (HasOwner (last_owner was))));
  same = (ap (λ (l : List Mark). scenario_of l) entered ∙ stay.0, ap (λ (l : List Mark). most_of l) entered ∙ stay.1);
  entered = ap (λ (l : List Mark). entries_of l) entered ∙ entries_append was (mark.Entered e ∷ []);
  kept = tt;
  full = full;
}
  where
    e : Entry
    e = record { owner = 0; act = act }

    stay : (scenario_of (was ++ mark.Entered e ∷ []) ≡ scenario_of was) × (most_of (was ++ mark.Entered e ∷ []) ≡ most_of was)
    stay = scenario_stays was (mark.Entered e ∷ []) stood.played

driven_still : (act : Act) (was now : List Mark) (fault : RunFault) → SharedStands was → now ≡ was → IsFullFor was (Err fault) → HasDriven act was now (Err fault)
driven_still act was now fault stood kept full = record {
  stands = (let P : List Mark → Type 0 = λ l. SharedStands l in subst P (sym kept) stood);
  grew = no_growth was now kept;
  same = (ap (λ (l : List Mark). scenario_of l) kept, ap (λ (l : List Mark). most_of l) kept);
  entered = tt;
  kept = ap (λ (l : List Mark). entries_of l) kept;
  full = full;
}

driven_as : (act : Act) (was now : List Mark) (answer : Result (Unit {0}) WireFault) → SharedStands was → IsPlayed now →
    OnOk answer (now ≡ was ++ mark.Entered (record { owner = 0; act = act }) ∷ []) → OnErr answer (now ≡ was) → IsFullFor was (wire_answer answer) →
    HasDriven act was now (wire_answer answer)
driven_as act was now (Ok done) stood played entered kept full = driven_on act was now stood played entered full
driven_as act was now (Err wire_fault.HistoryFull) stood played entered kept full = driven_still act was now run_fault.HistoryFull stood kept full
driven_as act was now (Err wire_fault.NoMemory) stood played entered kept full = driven_still act was now run_fault.NoMemory stood kept full

-- it is refused exactly where there are as many entries as there may be
full_as : (was : List Mark) (answer : Result (Unit {0}) WireFault) (full : Type 0) → ((answer ≡ Err wire_fault.HistoryFull) ↔ full) →
    (wire_answer answer ≡ Err run_fault.HistoryFull) ↔ full
full_as was (Ok done) full told = (λ is. absurd cc, λ is. absurd (let no = told.1 is in cc))
full_as was (Err wire_fault.HistoryFull) full told = (λ is. told.0 refl, λ is. refl)
full_as was (Err wire_fault.NoMemory) full told = (λ is. absurd cc, λ is. absurd (let no = told.1 is in cc))

pub driven : (act : Act) (was now : List Mark) (answer : Result (Unit {0}) WireFault) (told : Result (Unit {0}) RunFault) → SharedStands was → IsPlayed now →
    IsDriven act was now answer → told ≡ wire_answer answer → HasDriven act was now told
driven act was now answer told stood played is same =
    let P : Result (Unit {0}) RunFault → Type 0 = λ r. HasDriven act was now r in
    let Q : ℕ → Type 0 = λ n. (answer ≡ Err wire_fault.HistoryFull) ↔ (most_of was ≤ n) in
    subst P (sym same) (driven_as act was now answer stood played is.entered is.kept
    (full_as was answer (most_of was ≤ length (entries_of was)) (subst Q (used_is was stood) is.full)))

-- a drop, without its number
abbrev without_number : Result (Option ℕ) WireFault → Result (Unit {0}) WireFault
without_number (Ok number) = Ok tt
without_number (Err fault) = Err fault

drop_told : (answer : Result (Option ℕ) WireFault) → drop_answer answer ≡ wire_answer (without_number answer)
drop_told (Ok number) = refl
drop_told (Err fault) = refl

-- the first pending packet was dropped
dropped : (was now : List Mark) (p : Packet) (answer : Result (Option ℕ) WireFault) → first_pending (scenario_of was) (entries_of was) ≡ Some p →
    IfOk answer (λ number. IsDroppedFor p.to number was now) → OnOk (without_number answer) (now ≡ was ++ mark.Entered (record { owner = 0; act = Drop p.number }) ∷ [])
dropped was now p (Ok None) first is = absurd (is.0 p (first_is_least (scenario_of was) (entries_of was) p first))
dropped was now p (Ok (Some number)) first is =
    let mine : IsLeastTo (scenario_of was) (entries_of was) p.to p = first_is_least (scenario_of was) (entries_of was) p first in
    let one : is.0 ≡ p = (let both = sym is.1 ∙ mine in cc) in
    let number_is : number ≡ p.number = sym is.2 ∙ ap (λ (q : Packet). q.number) one in
    is.3 ∙ ap (λ (n : ℕ). was ++ mark.Entered (record { owner = 0; act = Drop n }) ∷ []) number_is
dropped was now p (Err fault) first is = tt

not_dropped : (was now : List Mark) (answer : Result (Option ℕ) WireFault) → OnErr answer (now ≡ was) → OnErr (without_number answer) (now ≡ was)
not_dropped was now (Ok number) kept = tt
not_dropped was now (Err fault) kept = kept

-- there is a packet to its receiver
full_drop : (was : List Mark) (p : Packet) (answer : Result (Option ℕ) WireFault) → first_pending (scenario_of was) (entries_of was) ≡ Some p →
    ((answer ≡ Err wire_fault.HistoryFull) ↔ ((most_of was ≤ used_of was) × (find (λ q. q.to == p.to) (pending (scenario_of was) (entries_of was)) ≢ None))) →
    (without_number answer ≡ Err wire_fault.HistoryFull) ↔ (most_of was ≤ used_of was)
full_drop was p answer first full = told_as answer full
  where
    some : find (λ q. q.to == p.to) (pending (scenario_of was) (entries_of was)) ≢ None
    some none = let both = sym none ∙ first_is_least (scenario_of was) (entries_of was) p first in cc

    told_as : (answer : Result (Option ℕ) WireFault) →
        ((answer ≡ Err wire_fault.HistoryFull) ↔ ((most_of was ≤ used_of was) × (find (λ q. q.to == p.to) (pending (scenario_of was) (entries_of was)) ≢ None))) →
        (without_number answer ≡ Err wire_fault.HistoryFull) ↔ (most_of was ≤ used_of was)
    told_as (Ok number) full = (λ is. absurd cc, λ few. absurd (let no = full.1 (few, some) in cc))
    told_as (Err fault) full = (
      λ is. (full.0 (ap (λ (f : WireFault). Err f) (let same : fault ≡ wire_fault.HistoryFull = cc in same))).0,
      λ few. (let so = full.1 (few, some) in let same : fault ≡ wire_fault.HistoryFull = cc in ap (λ (f : WireFault). Err f) same),
    )

pub driven_drop : (was now : List Mark) (p : Packet) (answer : Result (Option ℕ) WireFault) (told : Result (Unit {0}) RunFault) → SharedStands was → IsPlayed now →
    first_pending (scenario_of was) (entries_of was) ≡ Some p → IfOk answer (λ number. IsDroppedFor p.to number was now) → OnErr answer (now ≡ was) →
    ((answer ≡ Err wire_fault.HistoryFull) ↔ ((most_of was ≤ used_of was) × (find (λ q. q.to == p.to) (pending (scenario_of was) (entries_of was)) ≢ None))) →
    told ≡ drop_answer answer → HasDriven (Drop p.number) was now told
driven_drop was now p answer told stood played first is kept full same =
    driven (Drop p.number) was now (without_number answer) told stood played
    (record { entered = dropped was now p answer first is; kept = not_dropped was now answer kept; full = full_drop was p answer first full })
    (same ∙ drop_told answer)

-- what was opened stands
pub opened : (sc : Scenario) (most : ℕ) (marks : List Mark) → marks ≡ mark.Start sc most ∷ [] → IsPlayed marks → SharedStands marks
opened sc most marks is played = record {
  played = played;
  within = under marks played;
  none = (let P : List Mark → Type 0 = λ l. NothingIsPromised l in subst P (sym is) (λ o low. refl));
}
