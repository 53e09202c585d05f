-- The votes that a coordinator gathers, read off its steps of the present incarnation.
use Rattle.std.specs.Prelude.{◌&&◌, ◌++◌, ◌∷◌, [], if◌then◌else◌, ℕ, true, not, List, fold, Option, Some, None, option_map}
use Rattle.std.specs.List.{list_any}
use Rattle.e3_types.specs.declared.entries.Input.{Input}
use Rattle.e3_types.specs.declared.messages.Message.{Message}
use Rattle.e3_types.specs.declared.transactions.Txn.{Txn}
use Rattle.e3_types.specs.declared.entries.Input.TheVariants as input
use Rattle.e3_types.specs.declared.messages.Message.TheVariants as msg
use Rattle.e3_types.specs.Same.{same_txn}
use Rattle.e3_world.specs.declared.lives.Moment.{Moment}
use Rattle.e3_world.specs.Operations.{is_refusal}

-- the sites whose yes came since the Commit that was not refused; None where there was none
abbrev pub yes_by : Txn → Option (List ℕ) → Moment → Option (List ℕ)
yes_by t was m = by m.input
  where
    by_msg : ℕ → Message → Option (List ℕ)
    by_msg f (msg.Vote u true) = if same_txn t u then option_map (λ sites. sites ++ f ∷ []) was else was
    by_msg f _ = was

    by : Input → Option (List ℕ)
    by (input.Commit u) = if same_txn t u && not (list_any is_refusal m.told) then Some [] else was
    by (input.Deliver packet) = by_msg packet.«from» packet.msg
    by _ = was

-- the votes that are being gathered at the coordinator
abbrev pub yes_votes : Txn → List Moment → Option (List ℕ)
yes_votes t steps = fold (yes_by t) None steps
