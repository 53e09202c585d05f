-- How far the present step is done.
use Rattle.std.specs.Prelude.{◌≡◌, ◌≤◌, ◌++◌, ◌∷◌, [], if◌then◌else◌, Option, Some, None, ℕ, Bool, true, false, List, length, filter_map}
use Rattle.std.specs.List.{list_any}
use Rattle.e3_types.specs.declared.entries.Entry.{Entry}
use Rattle.e3_types.specs.declared.scenarios.Item.{Item}
use Rattle.e3_types.specs.declared.scenarios.Scenario.{Scenario}
use Rattle.e3_types.specs.declared.entries.Act.{Act}
use Rattle.e3_types.specs.declared.entries.Act.TheVariants.{Rise, RiseFall, Miss, Cut, Fall, Drop}
use Rattle.e3_types.specs.declared.messages.Packet.{Packet}
use Rattle.e3_types.specs.declared.entries.Input.TheVariants as input
use Rattle.e3_world.specs.Items.{plan_of, inputs_to, inputs_at, input_of, to_line, is_delivery, taken_at, turn_of, is_up_at}
use Rattle.e3_world.specs.declared.names.Addressed.{Addressed}
use Rattle.e3_world.specs.Legal.{IsLegal, entry_of}
use Rattle.e3_world.specs.Packets.{present_items}

-- the front of the plan is done: each site that is up took its part of it, and nothing was delivered
pub record AtPlan (sc : Scenario) (history : List Entry) (plan front : List Addressed) : Type 0 where
  pub is_plan : plan_of sc history ≡ plan
  pub turns : (s : ℕ) → is_up_at history s ≡ true → turn_of history s ≡ length (inputs_to s front)
  pub fresh : (s : ℕ) → list_any is_delivery (taken_at history s) ≡ false

-- each site that is up took all its items
abbrev pub Through : Scenario → List Entry → Type 0
Through sc history = (s : ℕ) → is_up_at history s ≡ true → length (inputs_at sc history s) ≤ turn_of history s

-- whether a site is up behind one more act
abbrev pub up_behind : Bool → Act → Bool
up_behind was (Rise kept inc) = true
up_behind was (RiseFall kept inc why) = false
up_behind was Miss = false
up_behind was Cut = false
up_behind was (Fall inputs records why) = false
up_behind was _ = was

-- no site that was down is up behind this act
abbrev pub NeverRises : Act → Type 0
NeverRises act = (was : Bool) → up_behind was act ≡ true → was ≡ true

-- the history is legal, and the front of its plan is done
pub record ItemDone (sc : Scenario) (h : List Entry) (plan front : List Addressed) : Type 0 where
  pub legal : IsLegal sc h
  pub at_plan : AtPlan sc h plan front

-- the history is legal, and each site that is up took all its items
pub record Delivering (sc : Scenario) (h : List Entry) : Type 0 where
  pub legal : IsLegal sc h
  pub done : Through sc h

-- the history behind an item of a group: with its entry, or as it was where the item is passed over
abbrev pub after_item : Scenario → List Entry → Item → List Entry
after_item sc history it = by (input_of sc (to_line history) it)
  where
    by : Option Addressed → List Entry
    by None = history
    by (Some a) = if is_up_at history a.site then history ++ entry_of sc history a.site a.input ∷ [] else history

-- the first items of the present step are done
pub record ItemsDone (sc : Scenario) (history : List Entry) (before more : List Item) : Type 0 where
  pub legal : IsLegal sc history
  pub present : present_items sc (to_line history) ≡ before ++ more
  pub at_plan : AtPlan sc history (filter_map (input_of sc (to_line history)) (before ++ more)) (filter_map (input_of sc (to_line history)) before)

-- the history behind the first packet: delivered, or dropped where its site is down
abbrev pub after_first : Scenario → List Entry → Packet → List Entry
after_first sc history p =
    if is_up_at history p.to then history ++ entry_of sc history p.to (input.Deliver p) ∷ []
    else history ++ record { owner = 0; act = Drop p.number } ∷ []
