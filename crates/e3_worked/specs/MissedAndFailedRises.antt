-- A rise that never read the log, one that failed, and one that keeps what the failed one wrote.
use Rattle.std.specs.Prelude.{◌++◌, ◌∷◌, [], ℕ, false, List, codes}
use Rattle.e3_types.specs.declared.entries.Act.TheVariants.{RiseFall, Miss}
use Rattle.e3_types.specs.declared.entries.Entry.{Entry}
use Rattle.e3_types.specs.declared.scenarios.Leave.{Leave}
use Rattle.e3_types.specs.declared.scenarios.Scenario.{Scenario}
use Rattle.e3_types.specs.declared.entries.Why.TheVariants.{Fault}
use Rattle.e3_types.specs.declared.scenarios.Item.TheVariants as item
use Rattle.e3_types.specs.declared.scenarios.Leave.TheVariants as leave
use Rattle.e3_worked.specs.Entries.{line, rises, rises_kept, cut}
use Rattle.e3_worked.specs.Names.{one_by_one}

-- a scenario in which one rise is missed, and one fails by a stop that leaves this
abbrev pub missed_and_failed : Leave → Scenario
missed_and_failed left = one_by_one (1 ∷ []) (
    item.Crash 1 ∷
    item.Stop 1 1 leave.None ∷
    item.Restart 1 ∷
    item.Stop 1 5 left ∷
    item.Restart 1 ∷
    item.Restart 1 ∷
    item.Restart 1 ∷
    [])

-- the scenario
abbrev pub missed_and_failed_rises : Scenario
missed_and_failed_rises = missed_and_failed leave.All

-- its text
abbrev pub missed_and_failed_rises_text : List ℕ
missed_and_failed_rises_text =
    codes "# A site whose disk fails before its log is read misses its rise; one whose disk fails in the rise's own frame\n" ++
    codes "# fails to rise, and the next rise finds that frame kept.\n" ++
    codes "weights = [1]\n" ++
    codes "steps = [\n" ++
    codes "  \"crash 1\",\n" ++
    codes "  \"stop 1 1 none\",\n" ++
    codes "  \"restart 1\",\n" ++
    codes "  \"stop 1 5 all\",\n" ++
    codes "  \"restart 1\",\n" ++
    codes "  \"restart 1\",\n" ++
    codes "  \"restart 1\",\n" ++
    codes "]\n"

-- its history up to the rise that does not fail, entry by entry
abbrev pub before_the_last_rise : List Entry
before_the_last_rise =
    rises 1 1 ∷
    line 1 ∷
    cut 1 ∷
    line 2 ∷
    line 3 ∷
    record { owner = 1; act = Miss } ∷
    line 4 ∷
    line 5 ∷
    record { owner = 1; act = RiseFall false 2 Fault } ∷
    line 6 ∷
    []

-- its history, entry by entry
abbrev pub missed_and_failed_rises_history : List Entry
missed_and_failed_rises_history =
    before_the_last_rise ++
    rises_kept 1 3 ∷
    line 7 ∷
    []

-- the same, but that the stop of the failed rise leaves nothing
abbrev pub failed_rise_lost : Scenario
failed_rise_lost = missed_and_failed leave.None

-- its history: the last rise keeps nothing, so it has the incarnation of the failed one
abbrev pub failed_rise_lost_history : List Entry
failed_rise_lost_history =
    before_the_last_rise ++
    rises 1 2 ∷
    line 7 ∷
    []

-- its report
abbrev pub missed_and_failed_rises_report : List ℕ
missed_and_failed_rises_report =
    codes "start\n" ++
    codes "1: rose 1\n" ++
    codes "step 1\n" ++
    codes "> crash 1\n" ++
    codes "1: cut\n" ++
    codes "step 2\n" ++
    codes "> stop 1 1 none\n" ++
    codes "step 3\n" ++
    codes "> restart 1\n" ++
    codes "1: missed\n" ++
    codes "step 4\n" ++
    codes "> stop 1 5 all\n" ++
    codes "step 5\n" ++
    codes "> restart 1\n" ++
    codes "1: rise failed 2 fault\n" ++
    codes "step 6\n" ++
    codes "> restart 1\n" ++
    codes "1: rose 3 kept\n" ++
    codes "step 7\n" ++
    codes "> restart 1\n" ++
    codes "1: up\n" ++
    codes "order\n" ++
    codes "site 1 up 3\n" ++
    codes "log\n" ++
    codes "birth 1 1\n" ++
    codes "inc 1\n" ++
    codes "inc 2\n" ++
    codes "inc 3\n" ++
    codes "rows\n" ++
    codes "end\n"

-- its trace: the history, entry by entry, and a second `end`
abbrev pub missed_and_failed_rises_trace : List ℕ
missed_and_failed_rises_trace =
    codes "1 rise 1\n" ++
    codes "0 line 1\n" ++
    codes "1 cut\n" ++
    codes "0 line 2\n" ++
    codes "0 line 3\n" ++
    codes "1 miss\n" ++
    codes "0 line 4\n" ++
    codes "0 line 5\n" ++
    codes "1 risefall 2 fault\n" ++
    codes "0 line 6\n" ++
    codes "1 rise 3 kept\n" ++
    codes "0 line 7\n" ++
    codes "end\n"
