use Rattle.std.proofs.Common.{◌≡◌, drop}
use Rattle.e3_judge.specs.Equal.{same_list}
use Rattle.e3_judge.proofs.equal.same_list.Given as goal

abbrev pub invariant-loop-i : goal.invariant-loop-i
invariant-loop-i g l = same_list g.T.Same.same l.xs l.ys ≡ same_list g.T.Same.same (drop l.i l.xs) (drop l.i l.ys)
