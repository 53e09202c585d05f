-- How a batch of a site that was up ends.
use Rattle.std.specs.Prelude.{◌≡◌, ◌<◌, ℕ, List, Option, Some, None, Result, Ok, Err, IfOk, OnErr, length, take}
use Rattle.e3_disk.specs.Meaning.{Meaning}
use Rattle.e3_disk.specs.Meters.{Keeps}
use Rattle.e3_node.specs.Batches.{HasFallenOverAll, HasSteppedAll, OneFrameTakes}
use Rattle.e3_node.specs.NodeStands.{IsFallen, IsIn}
use Rattle.e3_node.specs.NodeView.{disk_of}
use Rattle.e3_node.specs.declared.fault.InputFault.{InputFault}
use Rattle.e3_node.specs.declared.fault.InputFault.TheVariants as input_fault
use Rattle.e3_node.specs.declared.state.State.{State}
use Rattle.e3_types.specs.declared.entries.Entry.{Entry}
use Rattle.e3_types.specs.declared.entries.Input.{Input}
use Rattle.e3_types.specs.declared.entries.Why.{Why}
use Rattle.e3_types.specs.declared.scenarios.Scenario.{Scenario}

-- what is answered: a refusal before a fall
abbrev pub answer_by : Result ℕ InputFault → Option Why → Result ℕ InputFault
answer_by (Ok n) None = Ok n
answer_by (Ok n) (Some why) = Err (input_fault.Fell why)
answer_by (Err fault) fell = Err fault

module _ {D : Type 0} (meaning : Meaning D) where
  -- with the steps of these inputs, or with a fall over them
  abbrev pub Came : Scenario → List Entry → List Entry → ℕ → List Input → State D → State D → Option Why → Type 0
  Came sc before more site done old new None =
      HasSteppedAll meaning.meters sc before more site done old new × IsIn meaning sc more site new
  Came sc before more site done old new (Some why) =
      HasFallenOverAll meaning.meters sc before more site done why old (disk_of new) × IsFallen meaning sc more site new

  -- It did so with as many inputs as were planned: where none was refused, as many as one frame takes, and that many are told.
  pub record EndsWith (sc : Scenario) (before more : List Entry) (site : ℕ) (inputs : List Input) (old new : State D)
      (planned : Result ℕ InputFault) (fell : Option Why) : Type 0 where
    pub count : ℕ
    pub all : IfOk planned (λ n. (n ≡ count) × OneFrameTakes meaning.meters old sc before site inputs count)
    pub short : OnErr planned (count < length inputs)
    pub came : Came sc before more site (take count inputs) old new fell
    pub keeps : Keeps (meaning.meters (disk_of old)) (meaning.meters (disk_of new))
