use Rattle.e3_site.proofs.past.names.lock.Goals as goal

pub lock-requires : goal.lock-requires
lock-requires g c = (c.requires.0.places_stand, c.requires.1)
