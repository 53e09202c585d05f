-- The words of the command line.
use Rattle.std.specs.Prelude.{◌≡◌, ◌≤◌, ◌⊎◌, ℕ, Bool, codes, List, String}
use Rattle.std.specs.declared.alloc.Global.{Global}
use Rattle.e3_top.specs.Commands.{Spell, IsCommand}
use Rattle.e3_top.specs.declared.commands.Command.{Command}
use Rattle.e3_top.specs.declared.commands.Command.TheVariants.{Run, Gen, Drill, Check}

-- the words ask for a run: `run`, or `run --trace` where its trace is to stand behind the report
pub record IsRun (words : List (String Global)) : Type 0 where
  pub trace : Bool
  pub spelled : Spell words (Run trace)

-- the words ask for the generated scenario of a number: `gen N`
pub record IsGen (words : List (String Global)) : Type 0 where
  pub n : ℕ
  pub spelled : Spell words (Gen n)

-- the words ask for the drill of a number: `drill N`
pub record IsDrill (words : List (String Global)) : Type 0 where
  pub n : ℕ
  pub spelled : Spell words (Drill n)

-- the words ask for the verdict on a printed history: `check`
pub record IsCheck (words : List (String Global)) : Type 0 where
  pub spelled : Spell words Check

-- So many bytes a command takes from the source at most: one more than a scenario has, or one more than a scenario with its
-- trace. A generated scenario and a drill take none.
abbrev pub most_bytes : Command → ℕ
most_bytes (Run trace) = 4194305
most_bytes (Gen n) = 0
most_bytes (Drill n) = 0
most_bytes Check = 268435457

-- The words may end with this status: 0, 4 and 5 are those of the generated scenario, and 6 beside them those of a drill; 2
-- and 3 are those of a run and of a verdict alone, 8 and 9 those of a verdict alone, and 1 of words that spell no command. 4
-- and 5 are those of all words.
pub record MayEnd (words : List (String Global)) (status : ℕ) : Type 0 where
  pub known : (status ≤ 6) ⊎ (status ≡ 8) ⊎ (status ≡ 9)
  pub done : status ≡ 0 → IsCommand words
  pub words_refused : status ≡ 1 → ¬ IsCommand words
  pub scenario_refused : status ≡ 2 → IsRun words ⊎ IsCheck words
  pub source_failed : status ≡ 3 → IsRun words ⊎ IsCheck words
  pub history_full : status ≡ 6 → IsRun words ⊎ IsDrill words
  pub illegal : status ≡ 8 → IsCheck words
  pub no_trace : status ≡ 9 → IsCheck words
  pub generated : IsGen words → (status ≡ 0) ⊎ (status ≡ 4) ⊎ (status ≡ 5)
  pub drilled : IsDrill words → (status ≡ 0) ⊎ (status ≡ 4) ⊎ (status ≡ 5) ⊎ (status ≡ 6)

-- what is written for other words
unfoldable pub refused_words : List ℕ
refused_words = codes "refused words\n"

-- what is written where the history may have no more entries
unfoldable pub refused_history_full : List ℕ
refused_history_full = codes "refused history-full\n"
