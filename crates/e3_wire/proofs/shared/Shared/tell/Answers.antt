use Rattle.std.proofs.Common.{subst, List}
use Rattle.e3_wire.specs.declared.marks.Mark.{Mark}
use Rattle.e3_wire.specs.Wires.{IsPlayed}
use Rattle.e3_wire.proofs.shared.Shared.tell.Goals as goal

pub returns : goal.returns
returns c = let P : List Mark → Type 0 = λ l. IsPlayed l in subst P c.self.view_is c.self.invariant.stands.played
