use Rattle.e3_wire.proofs.Puts.{drivers_may_put}
use Rattle.e3_wire.proofs.laws.drivers_may_put_marks.Goals as goal

pub returns : goal.returns
returns c = drivers_may_put
