use Rattle.std.proofs.Common.{◌++◌, take, arith}
use Rattle.std.proofs.lemmas.Grind.{common_steps}
use Rattle.e3_outside.proofs.Streams.{Consumes-then}
use Rattle.e3_outside.proofs.source.read_up_to.Goals as goal

-- the bytes of the last call were taken too, and there is no more of them than was asked for
pub returns-in-Err-extend-clause-no_memory : goal.returns-in-Err-extend-clause-no_memory
returns-in-Err-extend-clause-no_memory g c =
    let last = take c.in-Ok.count c.read.new.into in
    λ _. (c.loop-buffer.bytes ++ last, grind (arith, common_steps), Consumes-then _ _ _ _ _ c.loop-buffer.invariant.read c.in-Ok.ensures.taken)
