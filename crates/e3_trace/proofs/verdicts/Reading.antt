-- A legal history reads back from what is printed of it.
use Rattle.std.proofs.Common.{◌≡◌, ◌≤◌, ◌++◌, ℕ, List, Ok, ap, ◌∙◌, subst, sym, length, append_assoc}
use Rattle.std.specs.Prelude.{codes}
use Rattle.std.specs.List.{flat_map}
use Rattle.e3_types.specs.declared.entries.Entry.{Entry}
use Rattle.e3_report.specs.lines.Texts.{line_end}
use Rattle.e3_report.specs.Report.{trace_lines}
use Rattle.e3_report.specs.lines.Entries.{trace_of}
use Rattle.e3_trace.specs.Tellable.{ended_line, text_of, TracesReadBack}
use Rattle.e3_trace.specs.Trace.{history_of}
use Rattle.e3_trace.specs.verdicts.Traces.{printed, LegalTracesReadBack}
use Rattle.e3_trace.proofs.verdicts.Along.{legal_tellable}

same_text : (before : List (List ℕ)) (history : List Entry) → text_of before history ≡ printed before history
unfolding trace_lines line_end
same_text before history =
    append_assoc (flat_map ended_line before ++ codes "#trace\n") (trace_of history) (codes "end\n")
    ∙ ap (λ l. flat_map ended_line before ++ codes "#trace\n" ++ l) (sym (append_assoc (trace_of history) (codes "end") (codes "\n")))

pub read_back : TracesReadBack → LegalTracesReadBack
read_back back sc before history given lines legal typed lead short few =
    let R : List ℕ → Type 0 = λ text. length text ≤ 268435456 → history_of text ≡ Ok history in
    subst R (same_text before history) (λ less. back before history lead (legal_tellable sc history given lines legal typed) less few) short
