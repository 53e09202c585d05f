use Rattle.e3_wire.proofs.Claiming.{places_promise}
use Rattle.e3_wire.proofs.Freeing.{freed_leaves}
use Rattle.e3_wire.proofs.laws.places_are_noted.Goals as goal

pub returns-clause-promised : goal.returns-clause-promised
returns-clause-promised c = places_promise

pub returns-clause-freed : goal.returns-clause-freed
returns-clause-freed c = freed_leaves
