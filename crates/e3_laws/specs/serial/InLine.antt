-- Waits that are there: at a site to which three requests come for one record.
use Rattle.std.specs.Prelude.{◌++◌, ◌∷◌, [], ℕ, List, map}
use Rattle.e3_types.specs.declared.entries.Input.{Input}
use Rattle.e3_types.specs.declared.entries.Input.TheVariants as input
use Rattle.e3_types.specs.declared.messages.Message.TheVariants as msg
use Rattle.e3_types.specs.declared.records.Record.TheVariants as log
use Rattle.e3_types.specs.declared.transactions.Key.{Key}
use Rattle.e3_types.specs.declared.transactions.Op.{Op}
use Rattle.e3_types.specs.declared.transactions.Op.TheVariants.{Read, Write}
use Rattle.e3_types.specs.declared.transactions.Txn.{Txn}
use Rattle.e3_world.specs.declared.lives.Incarnation.{Incarnation}
use Rattle.e3_world.specs.declared.lives.Life.{Life}
use Rattle.e3_world.specs.declared.lives.Made.{Made}
use Rattle.e3_world.specs.Lives.{life_of}
use Rattle.e3_world.specs.Moves.{unnumbered, unnumbered_input}
use Rattle.e3_world.specs.Steps.{step_of}

-- the incarnation of a site with one more step, and with those that inputs make one after the other
abbrev pub with_step : Incarnation → Input → Made → Incarnation
with_step now i made = record {
  rose = now.rose;
  since = now.since ++ record { input = unnumbered_input i; records = made.records; outs = map unnumbered made.outs; told = made.told } ∷ [];
}

abbrev pub with_steps : List ℕ → ℕ → Incarnation → List Input → Incarnation
with_steps weights site now [] = now
with_steps weights site now (i ∷ inputs) = with_steps weights site (with_step now i (step_of weights site now i)) inputs

-- three transactions, the oldest first, each at three sites; the record is at the third
abbrev pub oldest_one : Txn
oldest_one = record { site = 1; inc = 1; seq = 1; sites = 1 ∷ 2 ∷ 3 ∷ [] }

abbrev pub middle_one : Txn
middle_one = record { site = 1; inc = 1; seq = 2; sites = 1 ∷ 2 ∷ 3 ∷ [] }

abbrev pub youngest_one : Txn
youngest_one = record { site = 2; inc = 1; seq = 1; sites = 1 ∷ 2 ∷ 3 ∷ [] }

abbrev pub one_key : Key
one_key = record { site = 3; name = 120 ∷ [] }

-- a transaction's first operation comes from its coordinator
abbrev pub comes : Txn → Op → Input
comes t op = input.Deliver (record { number = 0; «from» = t.site; to = 3; msg = msg.Do t 1 op })

-- the third site, when the youngest has written the record, the one in the middle asked to write it, and the oldest to read it
abbrev pub in_line : Life
in_line = life_of (with_steps (1 ∷ 1 ∷ 1 ∷ []) 3 (record { rose = log.Birth 1 3 (1 ∷ 1 ∷ 1 ∷ []) [] ∷ log.Inc 1 ∷ []; since = [] })
    (comes youngest_one (Write one_key (97 ∷ [])) ∷ comes middle_one (Write one_key (98 ∷ [])) ∷ comes oldest_one (Read one_key) ∷ []))
