-- How the records of all logs are gathered in one walk over a history.
use Rattle.std.specs.Prelude.{◌++◌, ◌∷◌, [], ◌==◌, List, ℕ, Bool, true, false, codes, fold, map, filter, unwrap_or}
use Rattle.std.specs.BTreeMap.{insert_entry}
use Rattle.std.specs.BTreeSet.{insert_key}
use Rattle.std.specs.List.{flat_map}
use Rattle.std.specs.Ordering.{nat_cmp}
use Rattle.e3_types.specs.declared.entries.Act.{Act}
use Rattle.e3_types.specs.declared.entries.Act.TheVariants.{Step, Fall, Rise, RiseFall}
use Rattle.e3_types.specs.declared.entries.Entry.{Entry}
use Rattle.e3_types.specs.declared.entries.Why.{Why}
use Rattle.e3_types.specs.declared.entries.Why.TheVariants.{Fault}
use Rattle.e3_types.specs.declared.records.Record.{Record}
use Rattle.e3_types.specs.declared.records.Record.TheVariants as log
use Rattle.e3_types.specs.declared.scenarios.Scenario.{Scenario}
use Rattle.e3_readings.specs.Places.{placed_at}
use Rattle.e3_world.specs.Moves.{Placed, own_entries, birth}
use Rattle.e3_world.specs.Packets.{all_sites}
use Rattle.e3_report.specs.lines.Texts.{line_end}
use Rattle.e3_order.specs.Keys.{at_number, has_number}
use Rattle.e3_report.specs.Report.{present_inc, site_heading, log_lines, order_lines}
use Rattle.e3_report.specs.Steps.{start_lines, steps_after}

-- the records of all logs in the order of their places, the records in doubt at the sites, and the sites whose logs have
-- records
pub record Walked : Type 0 where
  pub placed : List Placed
  pub tails : List (ℕ × List Record)
  pub born : List ℕ

-- before the first entry there are no records, and none in doubt
abbrev pub no_walk : Walked
no_walk = record { placed = []; tails = []; born = [] }

-- the records in doubt at a site
abbrev pub tail_in : ℕ → List (ℕ × List Record) → List Record
tail_in site tails = unwrap_or (at_number site tails) []

-- the log of a site among the records of all logs
abbrev pub log_in : ℕ → List Placed → List Record
log_in site placed = map (λ p. p.entered) (filter (λ p. p.site == site) placed)

-- the records of a rise: a birth first where the log has none
abbrev pub rise_in : Scenario → ℕ → ℕ → Bool → List Record
rise_in sc site inc true = log.Inc inc ∷ []
rise_in sc site inc false = birth sc site ∷ log.Inc inc ∷ []

-- the part of the records in doubt that is kept: all or nothing
abbrev pub kept_part : Bool → List Record → List Record
kept_part true records = records
kept_part false records = []

-- what is in doubt behind a fall: after a fault its records, else nothing
abbrev pub doubtful : Why → List Record → List Record
doubtful Fault records = records
doubtful _ records = []

-- the sites whose logs have records, with this site where it has more
abbrev pub with_born : ℕ → List Record → List ℕ → List ℕ
with_born site [] born = born
with_born site (r ∷ rs) born = insert_key nat_cmp born site

-- the walk with these records at the end of the site's log
abbrev pub and_records : ℕ → List Record → Walked → Walked
and_records site records w = record {
  placed = w.placed ++ placed_at site records;
  tails = w.tails;
  born = with_born site records w.born;
}

-- the walk with these records in doubt at the site
abbrev pub and_tail : ℕ → List Record → Walked → Walked
and_tail site records w = record { placed = w.placed; tails = insert_entry nat_cmp w.tails site records; born = w.born }

-- the records in doubt at the site are in its log, where they are kept
abbrev pub and_kept : ℕ → Bool → Walked → Walked
and_kept site kept w = and_records site (kept_part kept (tail_in site w.tails)) w

-- the site rises: nothing is in doubt
abbrev pub and_rise : Scenario → ℕ → ℕ → Walked → Walked
and_rise sc site inc w = and_tail site [] (and_records site (rise_in sc site inc (has_number site w.born)) w)

-- the site fails to rise
abbrev pub and_failed : Scenario → ℕ → ℕ → Why → Walked → Walked
and_failed sc site inc why w = and_tail site (doubtful why (rise_in sc site inc (has_number site w.born))) w

-- the walk behind one more act of a site
abbrev pub walk_act : Scenario → ℕ → Walked → Act → Walked
walk_act sc site w (Step i records outs events) = and_records site records w
walk_act sc site w (Fall inputs records why) = and_tail site (doubtful why records) w
walk_act sc site w (Rise kept inc) = and_rise sc site inc (and_kept site kept w)
walk_act sc site w (RiseFall kept inc why) = and_failed sc site inc why (and_kept site kept w)
walk_act sc site w _ = w

-- the walk over a history
abbrev pub walk_of : Scenario → List Entry → Walked
walk_of sc history = fold (λ w e. walk_act sc e.owner w e.act) no_walk history

-- how a site stands, read off the records of all logs
unfoldable pub site_by : List Entry → List Placed → ℕ → List ℕ
site_by history placed site = site_heading site (present_inc (own_entries site history)) ++ log_lines (log_in site placed)

-- the report, read off the records of all logs
unfoldable pub report_by : Scenario → List Entry → List Placed → List ℕ
report_by sc history placed =
    start_lines sc history ++ steps_after sc [] history ++ order_lines placed
    ++ flat_map (site_by history placed) (all_sites sc) ++ codes "end" ++ line_end
