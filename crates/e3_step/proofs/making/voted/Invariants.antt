use Rattle.std.proofs.Common.{◌≡◌, take, map}
use Rattle.e3_step.proofs.making.voted.Given as goal

abbrev pub invariant-loop-p : goal.invariant-loop-p
invariant-loop-p l = l.ops ≡ map (λ p. record { n = p.n; op = p.op }) (take l.p-index l.performed)
