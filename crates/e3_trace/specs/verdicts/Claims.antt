-- What a verdict means.
use Rattle.std.specs.Prelude.{◌≡◌, ◌↔◌, ◌⊎◌, ◌≤◌, ◌<◌, ℕ, Bool, true, List, [], length, Ok, Err}
use Rattle.std.specs.List.{flat_map, AllByRecursion as Each}
use Rattle.e3_types.specs.declared.entries.Entry.{Entry}
use Rattle.e3_types.specs.declared.scenarios.Scenario.{Scenario}
use Rattle.e3_world.specs.Given.{IsGiven}
use Rattle.e3_world.specs.Legal.{IsLegal, IsWhole}
use Rattle.e3_world.specs.Safe.{IsSafe}
use Rattle.e3_judge.specs.Claims.{IsBreach}
use Rattle.e3_judge.specs.declared.breach.Breach.{Breach}
use Rattle.e3_scenario.specs.Faults.{fault_text}
use Rattle.e3_scenario.specs.Scenarios.{scenario_of}
use Rattle.e3_scenario.specs.declared.faults.ScenarioFault.{ScenarioFault}
use Rattle.e3_trace.specs.verdicts.Traces.{printed}
use Rattle.e3_trace.specs.verdicts.Typed.{AreTyped}
use Rattle.e3_trace.specs.Tellable.{ended_line, IsBefore}
use Rattle.e3_trace.specs.Trace.{history_of}
use Rattle.e3_trace.specs.declared.faults.TraceFault.{TraceFault}
use Rattle.e3_trace.specs.verdicts.Findings.{scenario_part, found_in, status_of, legal_text, illegal_text, trace_text}

-- The bytes are not too long, and have a scenario and the trace of this history.
pub record IsRead (bytes : List ℕ) (sc : Scenario) (history : List Entry) : Type 0 where
  pub short : length bytes ≤ 268435456
  pub scenario : scenario_of (scenario_part bytes) ≡ Ok sc
  pub trace : history_of bytes ≡ Ok history

-- scenario and trace are read, and the history is legal
pub record HasLegal (bytes : List ℕ) : Type 0 where
  pub scenario : Scenario
  pub history : List Entry
  pub read : IsRead bytes scenario history
  pub legal : IsLegal scenario history

-- they are read, and it is not
pub record HasIllegal (bytes : List ℕ) : Type 0 where
  pub scenario : Scenario
  pub history : List Entry
  pub read : IsRead bytes scenario history
  pub broken : ¬ IsLegal scenario history

-- the bytes are not too long, and what stands before the trace is no scenario
pub record HasNoScenario (bytes : List ℕ) : Type 0 where
  pub short : length bytes ≤ 268435456
  pub fault : ScenarioFault
  pub spelled : scenario_of (scenario_part bytes) ≡ Err fault

-- a scenario is read, and the trace is at fault
pub record HasNoTrace (bytes : List ℕ) : Type 0 where
  pub scenario : Scenario
  pub spelled : scenario_of (scenario_part bytes) ≡ Ok scenario
  pub fault : TraceFault
  pub read : history_of bytes ≡ Err fault

-- Each verdict comes exactly where its cause is: legal with 0, no scenario with 2, not legal with 8, and no trace with 9,
-- which comes for bytes that are too long too, whatever they are.
pub record IsFor (bytes : List ℕ) (status : ℕ) : Type 0 where
  pub known : (status ≡ 0) ⊎ (status ≡ 2) ⊎ (status ≡ 8) ⊎ (status ≡ 9)
  pub legal : (status ≡ 0) ↔ HasLegal bytes
  pub scenario : (status ≡ 2) ↔ HasNoScenario bytes
  pub illegal : (status ≡ 8) ↔ HasIllegal bytes
  pub trace : (status ≡ 9) ↔ ((268435456 < length bytes) ⊎ HasNoTrace bytes)

-- A legal history: it is safe, whoever printed it, and the text says ` whole` exactly where it went through the whole scenario.
pub record IsLegalText (bytes : List ℕ) (history : List Entry) (text : List ℕ) : Type 0 where
  pub scenario : Scenario
  pub read : IsRead bytes scenario history
  pub given : IsGiven scenario
  pub legal : IsLegal scenario history
  pub safe : IsSafe scenario history
  pub whole : Bool
  pub through : (whole ≡ true) ↔ IsWhole scenario history
  pub says : text ≡ legal_text (length history) whole

-- A history that is not legal: the first entry whose guard does not hold, and the first of its guards.
pub record IsIllegalText (bytes : List ℕ) (history : List Entry) (text : List ℕ) : Type 0 where
  pub scenario : Scenario
  pub read : IsRead bytes scenario history
  pub breach : Breach
  pub broken : IsBreach scenario history breach
  pub says : text ≡ illegal_text breach

-- no scenario: its line
pub record IsScenarioText (bytes : List ℕ) (history : List Entry) (text : List ℕ) : Type 0 where
  pub fault : ScenarioFault
  pub spelled : scenario_of (scenario_part bytes) ≡ Err fault
  pub empty : history ≡ []
  pub says : text ≡ fault_text fault

-- no trace: its line
pub record IsTraceText (bytes : List ℕ) (history : List Entry) (text : List ℕ) : Type 0 where
  pub fault : TraceFault
  pub read : history_of bytes ≡ Err fault
  pub empty : history ≡ []
  pub says : text ≡ trace_text fault

-- The verdict on bytes: its status, the history that it speaks of, and its text.
pub record IsVerdict (bytes : List ℕ) (status : ℕ) (history : List Entry) (text : List ℕ) : Type 0 where
  pub cause : IsFor bytes status
  pub legal : status ≡ 0 → IsLegalText bytes history text
  pub scenario : status ≡ 2 → IsScenarioText bytes history text
  pub illegal : status ≡ 8 → IsIllegalText bytes history text
  pub trace : status ≡ 9 → IsTraceText bytes history text

-- Each legal history passes: the lines of a scenario, of which none is the mark, the mark, and what a report prints of a
-- legal history of that scenario, where neither the text nor the history is too long.
abbrev pub LegalTracesPass : Type 0
LegalTracesPass = (before : List (List ℕ)) (sc : Scenario) (history : List Entry) → Each IsBefore before → scenario_of (flat_map ended_line before) ≡ Ok sc →
    IsLegal sc history → AreTyped history → length (printed before history) ≤ 268435456 → length history ≤ 2000000 →
    status_of (found_in (printed before history)) ≡ 0
