-- A legal history that is printed behind its scenario passes.
use Rattle.std.proofs.Common.{◌≡◌, ◌++◌, ◌∷◌, [], ℕ, true, List, refl, sym, ap, ◌∙◌, append_assoc, if◌then◌else◌}
use Rattle.std.specs.Prelude.{bytes_eq, codes}
use Rattle.std.specs.List.{flat_map, AllByRecursion as Each}
use Rattle.e3_types.specs.declared.entries.Entry.{Entry}
use Rattle.e3_report.specs.lines.Texts.{line_end}
use Rattle.e3_report.specs.Report.{trace_lines}
use Rattle.e3_scenario.specs.Scenarios.{scenario_of}
use Rattle.e3_scenario.proofs.GivenLaws.{given_scenario}
use Rattle.e3_trace.specs.verdicts.Traces.{printed, LegalTracesReadBack}
use Rattle.e3_report.specs.lines.Marks.{feed, pieces}
use Rattle.e3_trace.specs.Tellable.{ended_line, IsBefore}
use Rattle.e3_trace.specs.Trace.{front_of}
use Rattle.e3_trace.proofs.Cutting.{pieces_join}
use Rattle.e3_trace.proofs.Places.{pieces_by, pieces_cut}
use Rattle.e3_trace.specs.Cuts.{cut}
use Rattle.std.specs.Prelude.{Option, Some, None}
use Rattle.e3_trace.specs.verdicts.Claims.{LegalTracesPass}
use Rattle.e3_trace.specs.verdicts.Findings.{scenario_part}
use Rattle.e3_trace.proofs.verdicts.Printable.{scenario_lines}
use Rattle.e3_trace.proofs.verdicts.Verdicts.{Laws, verdict_on}

-- a line, with pieces behind it
front_by : (line text : List ℕ) (o : Option (List ℕ × List ℕ)) → front_of (line ∷ pieces_by feed text o)
    ≡ (if bytes_eq line (codes "#trace") then [] else line ++ feed ∷ front_of (pieces_by feed text o))
front_by line text None = refl
front_by line text (Some p) = refl

front_pieces : (line text : List ℕ) → front_of (line ∷ pieces feed text) ≡ (if bytes_eq line (codes "#trace") then [] else line ++ feed ∷ front_of (pieces feed text))
front_pieces line text = rw (pieces_cut feed text) (front_by line text (cut feed text))

front_line : (line text : List ℕ) → IsBefore line → front_of (pieces feed (line ++ feed ∷ text)) ≡ line ++ feed ∷ front_of (pieces feed text)
front_line line text before =
    ap front_of (pieces_join feed line text before.0) ∙ front_pieces line text
    ∙ ap (λ b. if b then [] else line ++ feed ∷ front_of (pieces feed text)) before.1

-- what stands before the mark
lines_front : (before : List (List ℕ)) (rest : List ℕ) → Each IsBefore before →
    front_of (pieces feed (flat_map ended_line before ++ (codes "#trace\n" ++ rest))) ≡ flat_map ended_line before
unfolding line_end
lines_front [] rest all = ap front_of (pieces_join feed (codes "#trace") rest refl) ∙ front_pieces (codes "#trace") rest
lines_front (line ∷ before) rest all =
    let more : List ℕ = flat_map ended_line before ++ (codes "#trace\n" ++ rest) in
    let joined : flat_map ended_line (line ∷ before) ++ (codes "#trace\n" ++ rest) ≡ line ++ feed ∷ more =
    append_assoc (line ++ feed ∷ []) (flat_map ended_line before) (codes "#trace\n" ++ rest) ∙ append_assoc line (feed ∷ []) more in
    ap (λ l. front_of (pieces feed l)) joined ∙ front_line line more all.0
    ∙ ap (λ l. line ++ feed ∷ l) (lines_front before rest all.1)
    ∙ sym (append_assoc line (feed ∷ []) (flat_map ended_line before))

printed_front : (before : List (List ℕ)) (history : List Entry) → Each IsBefore before → scenario_part (printed before history) ≡ flat_map ended_line before
printed_front before history all =
    ap (λ l. front_of (pieces feed l)) (append_assoc (flat_map ended_line before) (codes "#trace\n") (trace_lines history true))
    ∙ lines_front before (trace_lines history true) all

pub traces_pass : Laws → LegalTracesReadBack → LegalTracesPass
traces_pass laws back before sc history lead spelled legal typed short few =
    (verdict_on laws (printed before history)).cause.legal.1 (record {
      scenario = sc;
      history = history;
      read = record {
        short = short;
        scenario = ap scenario_of (printed_front before history lead) ∙ spelled;
        trace = back sc before history (given_scenario (flat_map ended_line before) sc spelled) (scenario_lines (flat_map ended_line before) sc spelled) legal typed lead short few;
      };
      legal = legal;
    })
