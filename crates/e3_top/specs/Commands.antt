-- The words of the command line.
use Rattle.std.specs.Prelude.{◌≡◌, ◌≤◌, ℕ, true, false, codes, List, [], ◌∷◌, map, String, string_bytes}
use Rattle.std.specs.Fmt.{decimal}
use Rattle.std.specs.declared.alloc.Global.{Global}
use Rattle.e3_top.specs.declared.commands.Command.{Command}
use Rattle.e3_top.specs.declared.commands.Command.TheVariants.{Run, Gen, Drill, Check}

-- The words that spell a command: `run`, or `run --trace` for a run that writes its trace too; `gen N` or `drill N`, where N
-- has no leading zero; `check` for the verdict on a printed history.
abbrev pub words_of : Command → List (List ℕ)
words_of (Run false) = codes "run" ∷ []
words_of (Run true) = codes "run" ∷ codes "--trace" ∷ []
words_of (Gen n) = codes "gen" ∷ decimal n ∷ []
words_of (Drill n) = codes "drill" ∷ decimal n ∷ []
words_of Check = codes "check" ∷ []

-- a number of which there is a generated scenario: 1 to 1,000
pub record IsNumber (n : ℕ) : Type 0 where
  pub least : 1 ≤ n
  pub most : n ≤ 1000

-- the number of a command, where it has one, is one of a generated scenario
abbrev pub HasNumber : Command → Type 0
HasNumber (Run trace) = Unit {0}
HasNumber (Gen n) = IsNumber n
HasNumber (Drill n) = IsNumber n
HasNumber Check = Unit {0}

-- these words, and no others, spell the command
pub record Spell (words : List (String Global)) (command : Command) : Type 0 where
  pub numbered : HasNumber command
  pub same : map string_bytes words ≡ words_of command

-- the words spell some command
pub record IsCommand (words : List (String Global)) : Type 0 where
  pub command : Command
  pub spelled : Spell words command
