-- The laws on waits.
use Rattle.std.specs.Prelude.{◌≡◌, true, List}
use Rattle.e3_types.specs.declared.entries.Entry.{Entry}
use Rattle.e3_types.specs.declared.scenarios.Scenario.{Scenario}
use Rattle.e3_types.specs.declared.transactions.Txn.{Txn}
use Rattle.e3_types.specs.Same.{is_older}
use Rattle.e3_world.specs.Given.{IsGiven}
use Rattle.e3_world.specs.Legal.{IsLegal}
use Rattle.e3_laws.specs.serial.Waiters.{WaitsFor, WaitsThrough}

-- in a legal history everyone whom a waiter waits for is younger
abbrev pub OlderWaits : Type 0
OlderWaits = (sc : Scenario) (h : List Entry) → IsGiven sc → IsLegal sc h → (t u : Txn) → WaitsFor sc h t u → is_older t u ≡ true

-- so over all sites of a legal history no transaction waits for itself, neither at once nor through others
abbrev pub NoCycle : Type 0
NoCycle = (sc : Scenario) (h : List Entry) → IsGiven sc → IsLegal sc h → (t : Txn) (between : List Txn) → WaitsThrough sc h t between t → ⊥
