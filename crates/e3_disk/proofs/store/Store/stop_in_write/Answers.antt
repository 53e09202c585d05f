use Rattle.e3_disk.proofs.store.Store.stop_in_write.Goals as goal

pub returns-clause-images : goal.returns-clause-images
returns-clause-images c = λ image at. c.write.ensures.images image (c.stop.ensures.images image at)
