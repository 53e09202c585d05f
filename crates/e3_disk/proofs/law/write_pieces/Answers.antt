use Rattle.e3_disk.proofs.Tearing.{from_only, outside_stays, at_least, at_most}
use Rattle.e3_disk.proofs.law.write_pieces.Goals as goal

pub returns-clause-outside : goal.returns-clause-outside
returns-clause-outside g c = λ image i only at lt out. outside_stays _ _ image i (from_only _ _ _ _ only c.make_writes.ensures image at) lt out

pub returns-clause-lengths : goal.returns-clause-lengths
returns-clause-lengths g c = λ image only at.
    let torn = from_only _ _ _ _ only c.make_writes.ensures image at in
    (at_least _ _ image torn, at_most _ _ image torn)
