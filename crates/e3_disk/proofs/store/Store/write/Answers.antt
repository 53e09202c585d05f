use Rattle.e3_disk.proofs.store.Store.write.Goals as goal

pub returns-clause-images : goal.returns-clause-images
returns-clause-images c = λ image torn.
    let late = c.write_near.ensures.images image torn in
    (late.0, c.make_near.ensures.images late.0 late.1, late.2)
