-- Which verdicts leave a transaction blocked.
use Rattle.std.specs.Prelude.{Bool, true, false}
use Rattle.e3_types.specs.declared.verdicts.Verdict.{Verdict}
use Rattle.e3_types.specs.declared.verdicts.Verdict.TheVariants.{Block}

-- the verdict is that nothing may be decided
abbrev pub is_block : Verdict → Bool
is_block (Block have total) = true
is_block _ = false
