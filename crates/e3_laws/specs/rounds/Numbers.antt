-- How far the numbers of elections go in a legal history.
use Rattle.std.specs.Prelude.{◌+◌, ◌*◌, ◌≤◌, ℕ, List, length}
use Rattle.e3_types.specs.declared.entries.Entry.{Entry}
use Rattle.e3_types.specs.declared.scenarios.Scenario.{Scenario}
use Rattle.e3_types.specs.declared.transactions.Txn.{Txn}
use Rattle.e3_world.specs.Given.{IsGiven}
use Rattle.e3_world.specs.Legal.{IsLegal}
use Rattle.e3_world.specs.Logs.{last_elected}
use Rattle.e3_world.specs.Moves.{log_of}

-- The number of an election that a site joined last is at most 1 and 18 for each entry: a step joins one number more than those
-- that were known at most, and a fall, whose records may be kept, at most one for each of its Elects and one more.
abbrev pub NumbersStayLow : Type 0
NumbersStayLow = (sc : Scenario) (h : List Entry) (t : Txn) (s : ℕ) → IsGiven sc → IsLegal sc h → last_elected t (log_of sc h s) ≤ 1 + 18 * length h
