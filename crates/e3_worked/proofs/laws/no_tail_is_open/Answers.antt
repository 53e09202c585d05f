use Rattle.std.specs.Prelude.{refl}
use Rattle.e3_types.specs.Sites.{bits_of}
use Rattle.e3_worked.proofs.laws.no_tail_is_open.Goals as goal

pub returns : goal.returns
unfolding bits_of
returns c = refl
