-- The part of a report that tells of the start and of the steps.
use Rattle.std.specs.Prelude.{◌++◌, ◌∷◌, [], not, List, ℕ, Bool, Option, codes, take_while}
use Rattle.std.specs.Fmt.{decimal}
use Rattle.std.specs.List.{flat_map}
use Rattle.e3_types.specs.declared.entries.Act.{Act}
use Rattle.e3_types.specs.declared.entries.Act.TheVariants.{Line}
use Rattle.e3_types.specs.declared.entries.Entry.{Entry}
use Rattle.e3_types.specs.declared.scenarios.Scenario.{Scenario}
use Rattle.e3_types.specs.declared.transactions.Txn.{Txn}
use Rattle.e3_world.specs.Items.{txn_of}
use Rattle.e3_world.specs.Moves.{own_entries, is_up}
use Rattle.e3_world.specs.Packets.{is_line, step_items, all_sites}
use Rattle.e3_report.specs.lines.Events.{entry_lines}
use Rattle.e3_report.specs.lines.Items.{item_line}
use Rattle.e3_report.specs.Skips.{skip_lines}
use Rattle.e3_report.specs.lines.Texts.{line_end}

-- the entries up to the next line
abbrev pub until_line : List Entry → List Entry
until_line entries = take_while (λ e. not (is_line e)) entries

-- the events of a site among these entries, in its own order
abbrev pub site_events : List Entry → ℕ → List ℕ
site_events entries site = flat_map entry_lines (own_entries site entries)

-- the events of entries: site by site in ascending order
unfoldable pub event_lines : Scenario → List Entry → List ℕ
event_lines sc entries = flat_map (site_events entries) (all_sites sc)

-- `start`, and the events before the first step: the first rises
unfoldable pub start_lines : Scenario → List Entry → List ℕ
start_lines sc history = codes "start" ++ line_end ++ event_lines sc (until_line history)

-- `step K`
unfoldable pub step_heading : ℕ → List ℕ
step_heading number = codes "step " ++ decimal number ++ line_end

-- which sites are up behind these entries
abbrev pub up_after : List Entry → ℕ → Bool
up_after entries site = is_up (own_entries site entries)

-- A step: its heading, its items, the lines of the items that are skipped, and its events. `find` is what names stand
-- for at the step's line, `up` tells which sites are up there, `during` are the entries behind it.
unfoldable pub step_lines : (List ℕ → Option Txn) → (ℕ → Bool) → Scenario → ℕ → List Entry → List ℕ
step_lines find up sc number during =
    step_heading number ++ flat_map item_line (step_items sc number) ++ skip_lines find up during [] (step_items sc number)
    ++ event_lines sc during

-- what an entry begins: a line begins a step, with the entries up to the next line
abbrev pub lines_by : (List ℕ → Option Txn) → (ℕ → Bool) → Scenario → Act → List Entry → List ℕ
lines_by find up sc (Line number) rest = step_lines find up sc number (until_line rest)
lines_by find up sc _ rest = []

-- the steps whose lines are among the second entries, where the first stand before them
abbrev pub steps_after : Scenario → List Entry → List Entry → List ℕ
steps_after sc before [] = []
steps_after sc before (e ∷ rest) =
    lines_by (txn_of sc (before ++ e ∷ [])) (up_after (before ++ e ∷ [])) sc e.act rest ++ steps_after sc (before ++ e ∷ []) rest
