use Rattle.std.proofs.Common.{◌≡◌, take, fold, []}
use Rattle.e3_world.specs.Logs.{key_of}
use Rattle.e3_world.specs.Making.{add_name}
use Rattle.e3_step.proofs.plain.grants.names_of.Given as goal

abbrev pub invariant-loop-q : goal.invariant-loop-q
invariant-loop-q l = l.names ≡ fold (λ names a. add_name names (key_of a.op).name) [] (take l.q-index l.asked)
