use Rattle.e3_site.proofs.past.names.row.Goals as goal

pub row-requires : goal.row-requires
row-requires g c = (c.requires.0.places_stand, c.requires.1)
