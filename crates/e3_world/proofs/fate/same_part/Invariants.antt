-- none of the parts so far has both
use Rattle.std.proofs.Common.{◌≡◌, false, take}
use Rattle.e3_world.specs.Fate.{same_part}
use Rattle.e3_world.proofs.fate.same_part.Given as goal

abbrev pub invariant-loop-at : goal.invariant-loop-at
invariant-loop-at l = same_part (take l.at l.parts) l.s l.u ≡ false
