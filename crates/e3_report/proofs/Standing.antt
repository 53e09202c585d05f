-- How the sites stand, read off the records of all logs or off each log by itself.
use Rattle.std.specs.Prelude.{◌≡◌, ◌++◌, ◌∷◌, [], ℕ, List, codes}
use Rattle.std.specs.List.{flat_map}
use Rattle.std.proofs.Common.{refl, ap, ◌∙◌}
use Rattle.e3_types.specs.declared.entries.Entry.{Entry}
use Rattle.e3_types.specs.declared.scenarios.Scenario.{Scenario}
use Rattle.e3_world.specs.Moves.{Placed, own_entries, trail_of, all_records}
use Rattle.e3_world.specs.Packets.{all_sites}
use Rattle.e3_report.specs.Report.{present_inc, site_heading, log_lines, site_lines, order_lines, report_without_trace}
use Rattle.e3_report.specs.Steps.{start_lines, steps_after}
use Rattle.e3_report.specs.lines.Texts.{line_end}
use Rattle.e3_report.specs.Walk.{site_by, report_by, walk_of}
use Rattle.e3_report.proofs.Walking.{trail_log, walk_placed}

site_same : (sc : Scenario) (h : List Entry) (s : ℕ) → site_by h (all_records (trail_of sc h)) s ≡ site_lines sc h s
unfolding site_by site_lines
site_same sc h s = ap (λ l. site_heading s (present_inc (own_entries s h)) ++ log_lines l) (trail_log sc h s)

sites_same : (sc : Scenario) (h : List Entry) (sites : List ℕ) →
    flat_map (site_by h (all_records (trail_of sc h))) sites ≡ flat_map (site_lines sc h) sites
sites_same sc h [] = refl
sites_same sc h (s ∷ sites) =
    ap (λ l. l ++ flat_map (site_by h (all_records (trail_of sc h))) sites) (site_same sc h s)
    ∙ ap (λ l. site_lines sc h s ++ l) (sites_same sc h sites)

-- the report that is read off the records of a walk
pub report_walked : (sc : Scenario) (h : List Entry) (placed : List Placed) → placed ≡ (walk_of sc h).placed →
    report_by sc h placed ≡ report_without_trace sc h
unfolding report_by
report_walked sc h placed gathered =
    ap (report_by sc h) (gathered ∙ walk_placed sc h)
    ∙ ap (λ l. start_lines sc h ++ steps_after sc [] h ++ order_lines (all_records (trail_of sc h)) ++ l ++ codes "end" ++ line_end)
    (sites_same sc h (all_sites sc))
