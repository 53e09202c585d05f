use Rattle.std.proofs.Common.{[], refl}
use Rattle.e3_types.specs.declared.entries.Input.TheVariants.{Begin}
use Rattle.e3_cards.specs.Noting.{unstepped}
use Rattle.e3_site.proofs.past.Undecided.{note_open}
use Rattle.e3_site.proofs.past.opening.note_opens.Goals as goal

pub returns : goal.returns
returns c = λ site inc log cards stand.
    note_open site inc log c.args.r.now c.args.opens.now (record c.args.opens.now { logged = c.sift_by.new.txns }) c.add_known.new.out.items stand
    (c.in_ok-add_known.ensures (record { weights = []; site = site; life = unstepped inc log; input = Begin [] }) cards)
    c.sift_by.ensures refl refl
