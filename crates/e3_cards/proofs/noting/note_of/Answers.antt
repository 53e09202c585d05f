use Rattle.std.proofs.Common.{refl}
use Rattle.std.proofs.lemmas.Result.{on_ok_weaker}
use Rattle.e3_cards.proofs.Logged.{note_stands}
use Rattle.e3_cards.proofs.noting.note_of.Goals as goal

pub returns : goal.returns
returns c =
    on_ok_weaker c.note_in.result
    (λ change. note_stands c.args.cards.now (record c.args.cards.now { map = c.note_in.new.kept }) c.args.t.now c.args.r.now c.requires refl refl refl refl change) c.note_in.ensures
