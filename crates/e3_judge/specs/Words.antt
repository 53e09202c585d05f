-- The words of the guards.
use Rattle.std.specs.Prelude.{ℕ, List, codes}
use Rattle.e3_judge.specs.declared.breach.Guard as rule
use Rattle.e3_judge.specs.declared.breach.Guard.TheVariants.{Owner, Up, Line, Parts, Drop, Input, Step, Tail, Inc, Records, Outs, Told}

-- the word of a guard
abbrev pub guard_word : rule.Guard → List ℕ
guard_word Owner = codes "owner"
guard_word Up = codes "up"
guard_word Line = codes "line"
guard_word Parts = codes "parts"
guard_word Drop = codes "drop"
guard_word Input = codes "input"
guard_word Step = codes "step"
guard_word Tail = codes "tail"
guard_word Inc = codes "inc"
guard_word Records = codes "records"
guard_word Outs = codes "outs"
guard_word Told = codes "told"
