use Rattle.std.proofs.Common.{◌≡◌, take, filter}
use Rattle.e3_types.specs.Same.{same_numbers}
use Rattle.e3_world.specs.Logs.{key_of}
use Rattle.e3_step.proofs.plain.grants.asked_on.Given as goal

abbrev pub invariant-loop-q : goal.invariant-loop-q
invariant-loop-q l = l.out ≡ filter (λ q. same_numbers l.name (key_of q.op).name) (take l.q-index l.asked)
