-- What a trace tells of a legal history.
use Rattle.std.specs.Prelude.{◌≡◌, ◌≤◌, ◌++◌, ℕ, true, List, length, Ok, codes}
use Rattle.std.specs.List.{flat_map, AllByRecursion as Each}
use Rattle.e3_types.specs.declared.entries.Entry.{Entry}
use Rattle.e3_types.specs.declared.scenarios.Scenario.{Scenario}
use Rattle.e3_world.specs.Given.{IsGiven}
use Rattle.e3_world.specs.Legal.{IsLegal}
use Rattle.e3_laws.specs.steps.Mentions.{values_of}
use Rattle.e3_report.specs.Report.{trace_lines}
use Rattle.e3_report.specs.lines.Marks.{feed}
use Rattle.e3_trace.specs.Tellable.{lacks, ended_line, IsBefore, IsTellable}
use Rattle.e3_trace.specs.Trace.{history_of}
use Rattle.e3_trace.specs.verdicts.Typed.{AreTyped}

-- no value of the scenario has a line's end
abbrev pub ValuesAreLines : Scenario → Type 0
ValuesAreLines sc = Each (λ val. lacks feed val ≡ true) (values_of sc)

-- the text that is read: lines before the mark, the mark, and the part of the report that is the trace
abbrev pub printed : List (List ℕ) → List Entry → List ℕ
printed before history = flat_map ended_line before ++ codes "#trace\n" ++ trace_lines history true

-- A legal history is tellable.
abbrev pub LegalAreTellable : Type 0
LegalAreTellable = (sc : Scenario) (history : List Entry) → IsGiven sc → ValuesAreLines sc → IsLegal sc history → AreTyped history → IsTellable history

-- A legal history, printed by a report, reads back as itself, where neither it nor the text is too long.
abbrev pub LegalTracesReadBack : Type 0
LegalTracesReadBack = (sc : Scenario) (before : List (List ℕ)) (history : List Entry) → IsGiven sc → ValuesAreLines sc → IsLegal sc history → AreTyped history →
    Each IsBefore before → length (printed before history) ≤ 268435456 → length history ≤ 2000000 →
    history_of (printed before history) ≡ Ok history
