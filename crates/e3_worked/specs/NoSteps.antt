-- A site that rises, and nothing more.
use Rattle.std.specs.Prelude.{◌++◌, ◌∷◌, [], ℕ, List, codes}
use Rattle.e3_types.specs.declared.entries.Entry.{Entry}
use Rattle.e3_types.specs.declared.scenarios.Scenario.{Scenario}
use Rattle.e3_worked.specs.Entries.{rises}
use Rattle.e3_worked.specs.Names.{bare}

-- the scenario
abbrev pub no_steps : Scenario
no_steps = bare (2 ∷ [])

-- its text
abbrev pub no_steps_text : List ℕ
no_steps_text =
    codes "# The shortest scenario: sites rise, and nothing is asked of them.\n" ++
    codes "weights = [2]\n" ++
    codes "steps = []\n"

-- its history, entry by entry
abbrev pub no_steps_history : List Entry
no_steps_history = rises 1 1 ∷ []

-- its report
abbrev pub no_steps_report : List ℕ
no_steps_report =
    codes "start\n" ++
    codes "1: rose 1\n" ++
    codes "order\n" ++
    codes "site 1 up 1\n" ++
    codes "log\n" ++
    codes "birth 1 2\n" ++
    codes "inc 1\n" ++
    codes "rows\n" ++
    codes "end\n"

-- its trace: the history, entry by entry, and a second `end`
abbrev pub no_steps_trace : List ℕ
no_steps_trace =
    codes "1 rise 1\n" ++
    codes "end\n"
