-- What may come in a recover step while packets are pending.
use Rattle.std.proofs.Common.{◌≡◌, inl, inr, ℕ, zero, suc, true, false, List, [], ◌∷◌, Some, None, ◌∙◌, ap, sym, refl, slice_get, filter_map}
use Rattle.e3_types.specs.declared.entries.Act.{Act}
use Rattle.e3_types.specs.declared.entries.Act.TheVariants.{Step, Fall, Rise, RiseFall, Miss, Cut, Drop, Parts, Line}
use Rattle.e3_types.specs.declared.entries.Entry.{Entry}
use Rattle.e3_types.specs.declared.entries.Input.{Input}
use Rattle.e3_types.specs.declared.entries.Input.TheVariants as input
use Rattle.e3_types.specs.declared.messages.Packet.{Packet}
use Rattle.e3_types.specs.declared.scenarios.Item.{Item}
use Rattle.e3_types.specs.declared.scenarios.Item.TheVariants as item
use Rattle.e3_types.specs.declared.scenarios.Scenario.{Scenario}
use Rattle.e3_world.specs.Given.{IsGiven}
use Rattle.e3_world.specs.Items.{inputs_at, inputs_to, input_of, is_up_at, to_line, turn_of}
use Rattle.e3_world.specs.Legal.{Guard, IsDue, IsNextItem, IsStep, entry_of, first_pending, is_through, may_rise, parts_due}
use Rattle.e3_world.specs.Packets.{lines, pending, present_items, is_calm, step_items}
use Rattle.e3_world.proofs.Lines.{lines_to}
use Rattle.e3_laws.specs.rounds.Claims.{DeliveryIsForced}
use Rattle.e3_laws.specs.rounds.Queues.{falls}
use Rattle.e3_laws.proofs.rounds.Deliveries.Steps.{recover_alone}

-- no site has an item in a recover step
pub no_inputs : (sc : Scenario) (h : List Entry) (group : List ℕ) (items : List Item) (s : ℕ) → IsGiven sc → present_items sc h ≡ item.Recover group ∷ items →
    inputs_at sc h s ≡ []
no_inputs sc h group items s given is = ap (λ l. inputs_to s (filter_map (input_of sc (to_line h)) l)) here
  where
    here : present_items sc (to_line h) ≡ item.Recover group ∷ []
    here =
        ap (step_items sc) (lines_to h) ∙ is
        ∙ ap (λ l. item.Recover group ∷ l) (recover_alone sc (lines h) group items given is)

-- a recover step has a line
pub some_line : (sc : Scenario) (n : ℕ) (it : Item) (items : List Item) → step_items sc n ≡ it ∷ items → (k : ℕ) × (n ≡ suc k)
some_line sc zero it items is = absurd cc
some_line sc (suc k) it items is = (k, refl)

-- what is known in a recover step with a packet pending to a site that is up
pub record Here (sc : Scenario) (h : List Entry) (p : Packet) : Type 0 where
  pub group : List ℕ
  pub items : List Item
  pub ps : List Packet
  pub given : IsGiven sc
  pub recovers : present_items sc h ≡ item.Recover group ∷ items
  pub waits : pending sc h ≡ p ∷ ps
  pub up : is_up_at h p.to ≡ true

calm : (sc : Scenario) (h : List Entry) (p : Packet) → Here sc h p → is_calm (present_items sc h) ≡ true
calm sc h p here = ap is_calm here.recovers

least : (sc : Scenario) (h : List Entry) (p q : Packet) → Here sc h p → first_pending sc h ≡ Some q → q ≡ p
least sc h p q here is = let same : Some p ≡ Some q = sym (ap (λ l. slice_get l 0) here.waits) ∙ is in cc

no_item : (sc : Scenario) (h : List Entry) (p : Packet) (site : ℕ) (i : Input) → Here sc h p → IsNextItem sc h site i → ⊥
no_item sc h p site i here next =
    let none : None ≡ Some i = sym (ap (λ l. slice_get l (turn_of h site)) (no_inputs sc h here.group here.items site here.given here.recovers)) ∙ next.next in cc

by_input : (sc : Scenario) (h : List Entry) (p : Packet) (site : ℕ) (i : Input) (act : Act) → Here sc h p → IsStep sc h site i act →
    record { owner = site; act = act } ≡ entry_of sc h p.to (input.Deliver p)
by_input sc h p site (input.Deliver q) act here step =
    let first : q ≡ p = least sc h p q here (step.due.in_order (calm sc h p here)) in
    step.made ∙ ap (λ (s : ℕ). entry_of sc h s (input.Deliver q)) (sym step.due.to) ∙ ap (λ (x : Packet). entry_of sc h x.to (input.Deliver x)) first
by_input sc h p site (input.Elect t group) act here step = elim step.due [
  | inl next ↦ absurd (no_item sc h p site (input.Elect t group) here next)
  | inr round ↦ absurd (let some : [] ≡ p ∷ here.ps = sym round.settled ∙ here.waits in cc)
]
by_input sc h p site (input.Begin sites) act here step = absurd (no_item sc h p site _ here step.due)
by_input sc h p site (input.Do t op) act here step = absurd (no_item sc h p site _ here step.due)
by_input sc h p site (input.Commit t) act here step = absurd (no_item sc h p site _ here step.due)
by_input sc h p site (input.Cancel t) act here step = absurd (no_item sc h p site _ here step.due)
by_input sc h p site (input.Expire t) act here step = absurd (no_item sc h p site _ here step.due)

pub never_rises : (sc : Scenario) (h : List Entry) (group : List ℕ) (items : List Item) (site : ℕ) → present_items sc h ≡ item.Recover group ∷ items →
    may_rise sc h site ≡ true → ⊥
never_rises sc h group items site is may =
    let at = some_line sc (lines h) (item.Recover group) items is in
    let never : may_rise sc h site ≡ false = rw (is, at.1) refl in
    let same : true ≡ false = sym may ∙ never in cc

no_rise : (sc : Scenario) (h : List Entry) (p : Packet) (site : ℕ) → Here sc h p → may_rise sc h site ≡ true → ⊥
no_rise sc h p site here may = never_rises sc h here.group here.items site here.recovers may

-- whatever is due is due at the receiver
pub due_owner : (sc : Scenario) (h : List Entry) (p : Packet) (site : ℕ) (i : Input) → Here sc h p → IsDue sc h site i → p.to ≡ site
due_owner sc h p site (input.Deliver q) here due =
    let first : q ≡ p = least sc h p q here (due.in_order (calm sc h p here)) in ap (λ (x : Packet). x.to) (sym first) ∙ due.to
due_owner sc h p site (input.Elect t group) here due = elim due [
  | inl next ↦ absurd (no_item sc h p site (input.Elect t group) here next)
  | inr round ↦ absurd (let some : [] ≡ p ∷ here.ps = sym round.settled ∙ here.waits in cc)
]
due_owner sc h p site (input.Begin sites) here due = absurd (no_item sc h p site _ here due)
due_owner sc h p site (input.Do t op) here due = absurd (no_item sc h p site _ here due)
due_owner sc h p site (input.Commit t) here due = absurd (no_item sc h p site _ here due)
due_owner sc h p site (input.Cancel t) here due = absurd (no_item sc h p site _ here due)
due_owner sc h p site (input.Expire t) here due = absurd (no_item sc h p site _ here due)

no_line : (sc : Scenario) (h : List Entry) (p : Packet) → Here sc h p → is_through sc h ≡ true → ⊥
no_line sc h p here through =
    let at = some_line sc (lines h) (item.Recover here.group) here.items here.recovers in
    let not_yet : is_through sc h ≡ false = rw (at.1, here.waits) refl in
    let same : true ≡ false = sym through ∙ not_yet in cc

by_act : (sc : Scenario) (h : List Entry) (p : Packet) (owner : ℕ) (act : Act) → Here sc h p → falls act ≡ false → Guard sc h (record { owner = owner; act = act }) →
    record { owner = owner; act = act } ≡ entry_of sc h p.to (input.Deliver p)
by_act sc h p zero (Line number) here stays guard = absurd (no_line sc h p here guard.through)
by_act sc h p zero (Parts parts) here stays guard =
    absurd (let none : None ≡ Some parts = sym (ap (parts_due sc) here.recovers) ∙ guard.due in cc)
by_act sc h p zero (Drop number) here stays guard =
    let first : guard.packet ≡ p = least sc h p guard.packet here (guard.in_order (calm sc h p here)) in
    absurd (let same : true ≡ false = sym here.up ∙ ap (λ (x : Packet). is_up_at h x.to) (sym first) ∙ guard.down in cc)
by_act sc h p zero (Step i records outs told) here stays guard = absurd guard
by_act sc h p zero (Fall inputs records why) here stays guard = absurd guard
by_act sc h p zero (Rise kept inc) here stays guard = absurd guard
by_act sc h p zero (RiseFall kept inc why) here stays guard = absurd guard
by_act sc h p zero Miss here stays guard = absurd guard
by_act sc h p zero Cut here stays guard = absurd guard
by_act sc h p (suc s) (Step i records outs told) here stays guard = by_input sc h p (suc s) i (Step i records outs told) here guard
by_act sc h p (suc s) (Fall inputs records why) here stays guard = absurd cc
by_act sc h p (suc s) Cut here stays guard =
    absurd (let same : item.Recover here.group ∷ here.items ≡ item.Crash (suc s) ∷ [] = sym here.recovers ∙ guard.crash in cc)
by_act sc h p (suc s) (Rise kept inc) here stays guard = absurd (no_rise sc h p (suc s) here guard.rising.turn)
by_act sc h p (suc s) (RiseFall kept inc why) here stays guard = absurd (no_rise sc h p (suc s) here guard.rising.turn)
by_act sc h p (suc s) Miss here stays guard = absurd (no_rise sc h p (suc s) here guard.turn)
by_act sc h p (suc s) (Drop number) here stays guard = absurd guard
by_act sc h p (suc s) (Parts parts) here stays guard = absurd guard
by_act sc h p (suc s) (Line number) here stays guard = absurd guard

pub next_delivery : (sc : Scenario) (h : List Entry) (p : Packet) (e : Entry) → Here sc h p → falls e.act ≡ false → Guard sc h e →
    e ≡ entry_of sc h p.to (input.Deliver p)
next_delivery sc h p e here stays guard = by_act sc h p e.owner e.act here stays guard

pub delivery_is_forced : DeliveryIsForced
delivery_is_forced sc h e group items p ps given recovers waits up stays guard = by_act sc h p e.owner e.act here stays guard
  where
    here : Here sc h p
    here = record { group = group; items = items; ps = ps; given = given; recovers = recovers; waits = waits; up = up }
