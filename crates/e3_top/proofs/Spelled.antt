-- Words spell commands of one kind, which takes so many bytes at most.
use Rattle.std.proofs.Common.{◌≡◌, ◌⊎◌, inl, inr, ℕ, true, false, nat_eq, if◌then◌else◌, List, [], refl, sym, ◌∙◌, arith, get_or, ap, String, Global}
use Rattle.e3_top.specs.Outcomes.{Plays}
use Rattle.e3_top.specs.Words.{IsRun, IsGen, IsDrill, IsCheck, most_bytes}
use Rattle.e3_types.specs.declared.scenarios.Scenario.{Scenario}
use Rattle.e3_top.specs.Commands.{Spell, words_of}
use Rattle.e3_top.specs.declared.commands.Command.{Command}
use Rattle.e3_top.specs.declared.commands.Command.TheVariants.{Run, Gen, Drill, Check}

-- the first byte of the words of a command
abbrev byte_of : Command → ℕ
byte_of (Run trace) = 114
byte_of (Gen n) = 103
byte_of (Drill n) = 100
byte_of Check = 99

abbrev first_byte : List (List ℕ) → ℕ
first_byte words = get_or (get_or words 0 []) 0 0

first_is : (c : Command) → first_byte (words_of c) ≡ byte_of c
first_is (Run false) = refl
first_is (Run true) = refl
first_is (Gen n) = refl
first_is (Drill n) = refl
first_is Check = refl

-- words spell commands of one kind
one_byte : (words : List (String Global)) (a b : Command) → Spell words a → Spell words b → byte_of a ≡ byte_of b
one_byte words a b one other = sym (first_is a) ∙ ap first_byte (sym one.same ∙ other.same) ∙ first_is b

pub run_no_gen : {words : List (String Global)} → IsRun words → ¬ IsGen words
run_no_gen {words} run gen = let e : 114 ≡ 103 = one_byte words (Run run.trace) (Gen gen.n) run.spelled gen.spelled in omega (arith, e)

pub run_no_drill : {words : List (String Global)} → IsRun words → ¬ IsDrill words
run_no_drill {words} run drill = let e : 114 ≡ 100 = one_byte words (Run run.trace) (Drill drill.n) run.spelled drill.spelled in omega (arith, e)

pub run_no_check : {words : List (String Global)} → IsRun words → ¬ IsCheck words
run_no_check {words} run check = let e : 114 ≡ 99 = one_byte words (Run run.trace) Check run.spelled check.spelled in omega (arith, e)

pub gen_no_drill : {words : List (String Global)} → IsGen words → ¬ IsDrill words
gen_no_drill {words} gen drill = let e : 103 ≡ 100 = one_byte words (Gen gen.n) (Drill drill.n) gen.spelled drill.spelled in omega (arith, e)

pub gen_no_check : {words : List (String Global)} → IsGen words → ¬ IsCheck words
gen_no_check {words} gen check = let e : 103 ≡ 99 = one_byte words (Gen gen.n) Check gen.spelled check.spelled in omega (arith, e)

pub drill_no_check : {words : List (String Global)} → IsDrill words → ¬ IsCheck words
drill_no_check {words} drill check = let e : 100 ≡ 99 = one_byte words (Drill drill.n) Check drill.spelled check.spelled in omega (arith, e)

-- neither a generated scenario nor a drill is a run or a verdict
pub idle_no_run : {words : List (String Global)} → IsGen words ⊎ IsDrill words → ¬ IsRun words
idle_no_run (inl gen) run = run_no_gen run gen
idle_no_run (inr drill) run = run_no_drill run drill

pub idle_no_check : {words : List (String Global)} → IsGen words ⊎ IsDrill words → ¬ IsCheck words
idle_no_check (inl gen) check = gen_no_check gen check
idle_no_check (inr drill) check = drill_no_check drill check

-- a verdict plays no scenario
pub plays_no_check : {words : List (String Global)} {bytes : List ℕ} {sc : Scenario} → Plays words bytes sc → ¬ IsCheck words
plays_no_check (inl run) check = run_no_check run.0 check
plays_no_check (inr drill) check = drill_no_check drill.drill check

-- the most bytes that a command takes, by the first byte of its words
abbrev most_by : ℕ → ℕ
most_by byte = if nat_eq byte 114 then 4194305 else (if nat_eq byte 99 then 268435457 else 0)

most_is : (c : Command) → most_bytes c ≡ most_by (byte_of c)
most_is (Run trace) = refl
most_is (Gen n) = refl
most_is (Drill n) = refl
most_is Check = refl

-- words have one most
pub same_most : (words : List (String Global)) (a b : Command) → Spell words a → Spell words b → most_bytes a ≡ most_bytes b
same_most words a b one other = most_is a ∙ ap most_by (one_byte words a b one other) ∙ sym (most_is b)
