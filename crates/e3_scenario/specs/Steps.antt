-- The steps of a scenario: each is read behind those before it.
use Rattle.std.specs.Prelude.{ℕ, suc, Bool, true, false, ◌&&◌, not, List, [], ◌∷◌, ◌++◌, Option, Some, None, option_and_then, Result, Ok, Err, if◌then◌else◌}
use Rattle.toml.specs.Data.{Data, as_str}
use Rattle.e3_types.specs.declared.scenarios.Item.{Item}
use Rattle.e3_world.specs.Given.{ItemsSoFar, is_groupable, close_step}
use Rattle.e3_scenario.specs.declared.faults.ScenarioFault.{ScenarioFault}
use Rattle.e3_scenario.specs.declared.faults.ScenarioFault.TheVariants as fault
use Rattle.e3_scenario.specs.Documents.{values_of}
use Rattle.e3_scenario.specs.Faults.{item_fault, take_item}
use Rattle.e3_scenario.specs.Items.{item_of}

-- what is read, if it has no fault, goes on to what is read next
abbrev pub and_read : {A B : Type 0} → Result A ScenarioFault → (A → Result B ScenarioFault) → Result B ScenarioFault
and_read (Ok x) next = next x
and_read (Err f) next = Err f

-- the item, or its fault
abbrev pub or_fault : Item → Option ScenarioFault → Result Item ScenarioFault
or_fault item None = Ok item
or_fault item (Some f) = Err f

-- an item that a text spells or doesn't: one that may not stand in a group stands alone
abbrev pub judged : List ℕ → ℕ → Bool → ItemsSoFar → Option Item → Result Item ScenarioFault
judged all step grouped so_far None = Err (fault.BadLine step)
judged all step grouped so_far (Some item) =
    if grouped && not (is_groupable item) then Err (fault.BadLine step) else or_fault item (item_fault all step so_far item)

-- the item that a string spells
abbrev pub item_in : Data → Option Item
item_in value = option_and_then item_of (as_str value)

-- the items of a step so far, and what all items come to with them
pub record StepSoFar : Type 0 where
  pub so_far : ItemsSoFar
  pub items : List Item

-- the items that were read, with what all come to
abbrev pub with_so_far : ItemsSoFar → Result (List Item) ScenarioFault → Result StepSoFar ScenarioFault
with_so_far so_far (Ok items) = Ok (record { so_far = so_far; items = items })
with_so_far so_far (Err f) = Err f

-- the items of a step, one after the other
abbrev pub items_read : List ℕ → ℕ → Bool → ItemsSoFar → List Item → List Data → Result StepSoFar ScenarioFault
items_read all step grouped so_far items [] = Ok (record { so_far = so_far; items = items })
items_read all step grouped so_far items (value ∷ values) =
    and_read (judged all step grouped so_far (item_in value))
    (λ item. items_read all step grouped (take_item all so_far item) (items ++ item ∷ []) values)

-- a group of these values, or the one item of this value
abbrev pub read_of : List ℕ → ℕ → ItemsSoFar → Data → Option (List Data) → Result StepSoFar ScenarioFault
read_of all step so_far value (Some values) = items_read all step true so_far [] values
read_of all step so_far value None = items_read all step false so_far [] (value ∷ [])

-- a step: a group, or one item
abbrev pub step_read : List ℕ → ℕ → ItemsSoFar → Data → Result StepSoFar ScenarioFault
step_read all step so_far value = read_of all step so_far value (values_of value)

-- the steps, one after the other, from this number on
abbrev pub steps_read : List ℕ → ℕ → ItemsSoFar → List (List Item) → List Data → Result (List (List Item)) ScenarioFault
steps_read all step so_far steps [] = Ok steps
steps_read all step so_far steps (value ∷ values) =
    and_read (step_read all step so_far value)
    (λ read. steps_read all (suc step) (close_step read.so_far) (steps ++ read.items ∷ []) values)
