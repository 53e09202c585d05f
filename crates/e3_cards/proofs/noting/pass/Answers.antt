use Rattle.e3_cards.proofs.Logged.{note_none}
use Rattle.e3_cards.proofs.noting.pass.Goals as goal

pub returns : goal.returns
returns c = note_none c.args._cards.now c.args._r.now c.requires
