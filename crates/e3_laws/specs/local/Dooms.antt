-- What an answer to an operation may do at the coordinator.
use Rattle.std.specs.Prelude.{◌≡◌, ◌≢◌, ◌∷◌, [], ℕ, Bool, true, false}
use Rattle.std.specs.List.{list_all}
use Rattle.e3_types.specs.declared.messages.Message.{Message}
use Rattle.e3_types.specs.declared.messages.Message.TheVariants as msg
use Rattle.e3_types.specs.declared.records.Record.TheVariants as log
use Rattle.e3_types.specs.declared.transactions.Dir.TheVariants.{Abort}
use Rattle.e3_types.specs.declared.transactions.Txn.{Txn}
use Rattle.e3_world.specs.declared.lives.Incarnation.{Incarnation}
use Rattle.e3_world.specs.declared.lives.Made.{Made}
use Rattle.e3_world.specs.Lives.{life_of, present_log}
use Rattle.e3_world.specs.Logs.{is_undecided}
use Rattle.e3_world.specs.Operations.{issued}

-- the message is a decision, or an answer to an operation
abbrev pub is_last_word : Message → Bool
is_last_word (msg.Decide t dir) = true
is_last_word (msg.Done t n inc answer) = true
is_last_word _ = false

-- The step of a site in this incarnation dooms the transaction: the site is its coordinator and issued an operation of it;
-- it was undecided there, and the step's one record aborts it; only decisions and answers are sent.
pub record Dooms (site : ℕ) (now : Incarnation) (t : Txn) (made : Made) : Type 0 where
  pub coordinator : t.site ≡ site
  pub issues : issued t (life_of now).steps ≢ []
  pub undecided : is_undecided t (present_log now) ≡ true
  pub aborted : made.records ≡ log.Decision t Abort ∷ []
  pub sends : list_all (λ p. is_last_word p.msg) made.outs ≡ true
