use Rattle.e3_places.proofs.Logged.{other_stands}
use Rattle.e3_places.proofs.noting.pass.Goals as goal

pub returns : goal.returns
returns c = other_stands c.args._places.now c.args._r.now c.requires.cast c.requires.undecided
