use Rattle.std.proofs.Common.{◌≡◌, take, fold}
use Rattle.e3_world.specs.Moves.{own_entries}
use Rattle.e3_judge.specs.Clashes.{nothing_yet, decided_by}
use Rattle.e3_judge.proofs.logs.decided_at.Given as goal

abbrev pub invariant-loop-e : goal.invariant-loop-e
invariant-loop-e l = l.was ≡ fold (λ was e. decided_by was e.act) nothing_yet (own_entries l.site (take l.e-index l.history))
