-- What is found in bytes that are to have a scenario and a trace, and the text and the status of that.
use Rattle.std.specs.Prelude.{ℕ, Bool, true, false, nat_le, List, [], ◌++◌, length, codes, Option, Some, None, Result, Ok, Err, if◌then◌else◌}
use Rattle.std.specs.Fmt.{decimal}
use Rattle.e3_types.specs.declared.entries.Entry.{Entry}
use Rattle.e3_types.specs.declared.scenarios.Scenario.{Scenario}
use Rattle.e3_judge.specs.Checks.{first_breach, is_whole}
use Rattle.e3_judge.specs.Words.{guard_word}
use Rattle.e3_judge.specs.declared.breach.Breach.{Breach}
use Rattle.e3_scenario.specs.Faults.{fault_text}
use Rattle.e3_scenario.specs.Scenarios.{scenario_of}
use Rattle.e3_scenario.specs.declared.faults.ScenarioFault.{ScenarioFault}
use Rattle.e3_report.specs.lines.Marks.{feed, pieces}
use Rattle.e3_trace.specs.Trace.{front_of, history_of}
use Rattle.e3_trace.specs.declared.faults.TraceFault.{TraceFault}
use Rattle.e3_trace.specs.declared.faults.TraceFault.TheVariants as trace
use Rattle.e3_trace.specs.declared.verdicts.checking.Finding.{Finding}
use Rattle.e3_trace.specs.declared.verdicts.checking.Finding.TheVariants.{Legal, Illegal, NoScenario, NoTrace}

-- the scenario's bytes: those before the first line `#trace`, or all where there is no such line
abbrev pub scenario_part : List ℕ → List ℕ
scenario_part bytes = front_of (pieces feed bytes)

-- what the judge finds
abbrev pub by_breach : Scenario → List Entry → Option Breach → Finding
by_breach sc history None = Legal (length history) (is_whole sc history)
by_breach sc history (Some breach) = Illegal breach

-- what is found where the scenario is read
abbrev pub by_trace : Scenario → Result (List Entry) TraceFault → Finding
by_trace sc (Ok history) = by_breach sc history (first_breach sc history)
by_trace sc (Err fault) = NoTrace fault

-- what is found behind a scenario, or the fault that the bytes have as one
abbrev pub by_scenario : List ℕ → Result Scenario ScenarioFault → Finding
by_scenario bytes (Ok sc) = by_trace sc (history_of bytes)
by_scenario bytes (Err fault) = NoScenario fault

-- what is found in bytes: that they are too long comes first, then the scenario's own fault, then that of the trace, and
-- where both are read the judge has the word
abbrev pub found_in : List ℕ → Finding
found_in bytes = if nat_le (length bytes) 268435456 then by_scenario bytes (scenario_of (scenario_part bytes)) else NoTrace trace.TooLong

-- the history of a trace that was read
abbrev pub entries_in : Result (List Entry) TraceFault → List Entry
entries_in (Ok history) = history
entries_in (Err fault) = []

-- the history that a verdict speaks of: none where there is no scenario or no trace
abbrev pub history_for : Finding → List ℕ → List Entry
history_for (Legal count whole) bytes = entries_in (history_of bytes)
history_for (Illegal breach) bytes = entries_in (history_of bytes)
history_for finding bytes = []

-- the status
abbrev pub status_of : Finding → ℕ
status_of (Legal count whole) = 0
status_of (NoScenario fault) = 2
status_of (Illegal breach) = 8
status_of (NoTrace fault) = 9

-- ` whole` where it is so
abbrev pub whole_text : Bool → List ℕ
whole_text true = codes " whole"
whole_text false = []

-- `legal COUNT`, and ` whole` where it is so
unfoldable pub legal_text : ℕ → Bool → List ℕ
legal_text count whole = codes "legal " ++ decimal count ++ whole_text whole ++ codes "\n"

-- `illegal AT GUARD`
unfoldable pub illegal_text : Breach → List ℕ
illegal_text breach = codes "illegal " ++ decimal breach.at ++ codes " " ++ guard_word breach.guard ++ codes "\n"

-- `refused trace LINE`, or `refused trace too-long`; where memory ran out nothing is written, and it has a text all the same
unfoldable pub trace_text : TraceFault → List ℕ
trace_text (trace.Line at) = codes "refused trace " ++ decimal at ++ codes "\n"
trace_text trace.TooLong = codes "refused trace too-long\n"
trace_text trace.NoMemory = codes "refused trace no-memory\n"

-- the text
abbrev pub finding_text : Finding → List ℕ
finding_text (Legal count whole) = legal_text count whole
finding_text (Illegal breach) = illegal_text breach
finding_text (NoScenario fault) = fault_text fault
finding_text (NoTrace fault) = trace_text fault
