use Rattle.std.proofs.Common.{refl}
use Rattle.e3_cards.proofs.touched.add_record.Goals as goal

pub returns-in-Some : goal.returns-in-Some
returns-in-Some c = rw c.in-Some.ensures c.add_once.ensures

pub returns-in-None : goal.returns-in-None
returns-in-None c = rw c.in-None.ensures refl
