use Rattle.e3_site.proofs.past.RecordsFollow.{so_far_follows}
use Rattle.e3_site.proofs.past.reader.ReaderPast.lock.Goals as goal

pub lock-requires : goal.lock-requires
lock-requires g c = (c.self.invariant.names_stand, so_far_follows g.K.Whose.place c.args.made.now c.requires)
