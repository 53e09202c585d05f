-- The votes that a coordinator gathers, kept as the sites whose yes has not come yet.
use Rattle.std.specs.Prelude.{◌==◌, ◌&&◌, if◌then◌else◌, ℕ, Bool, true, false, not, List, length, Option, Some, None, option_map}
use Rattle.std.specs.List.{list_any}
use Rattle.e3_types.specs.declared.entries.Input.{Input}
use Rattle.e3_types.specs.declared.entries.Input.TheVariants as input
use Rattle.e3_types.specs.declared.entries.Told.{Told}
use Rattle.e3_types.specs.declared.messages.Message.{Message}
use Rattle.e3_types.specs.declared.messages.Message.TheVariants as msg
use Rattle.e3_types.specs.declared.transactions.Txn.{Txn}
use Rattle.e3_types.specs.Same.{same_txn}
use Rattle.e3_types.specs.Sets.{others, is_within}
use Rattle.e3_world.specs.declared.lives.At.{At}
use Rattle.e3_world.specs.declared.lives.Made.{Made}
use Rattle.e3_world.specs.Making.{steps_now}
use Rattle.e3_world.specs.Operations.{is_refusal}
use Rattle.e3_world.specs.Votes.{yes_votes}
use Rattle.e3_commit.specs.Missing.{missing}

-- of the other sites of the transaction, those that are missing where the yes of these came; None where none is gathered
abbrev pub missing_yes : ℕ → Txn → Option (List ℕ) → Option (List ℕ)
missing_yes site t came = option_map (missing (others site t.sites)) came

-- those that are missing behind one more step, which takes this input and tells these events
abbrev pub votes_by : ℕ → Txn → Option (List ℕ) → Input → List Told → Option (List ℕ)
votes_by site t was (input.Commit u) events = if same_txn t u && not (list_any is_refusal events) then Some (others site t.sites) else was
votes_by site t was (input.Deliver packet) events = by packet.«from» packet.msg
  where
    by : ℕ → Message → Option (List ℕ)
    by f (msg.Vote u true) = if same_txn t u then option_map (others f) was else was
    by f _ = was
votes_by site t was _ events = was

-- votes are being gathered, and none is missing
abbrev pub are_complete : Option (List ℕ) → Bool
are_complete None = false
are_complete (Some left) = length left == 0

-- votes are being gathered, and those of all of these sites came
abbrev pub have_come : List ℕ → Option (List ℕ) → Bool
have_come sites None = false
have_come sites (Some came) = is_within sites came

-- the votes of the transaction are being gathered, and with the step so far the yes of every other site of it came
abbrev pub has_every_yes : At → Txn → Made → Bool
has_every_yes a t made = have_come (others a.site t.sites) (yes_votes t (steps_now a made))
