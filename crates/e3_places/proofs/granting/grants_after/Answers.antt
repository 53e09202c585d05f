use Rattle.e3_places.proofs.Fronting.{granted_ok}
use Rattle.e3_places.proofs.granting.grants_after.Goals as goal

pub returns : goal.returns
returns g c =
    granted_ok g.a c.args.made.now c.args.places.now c.args.restless.now c.args.new.now c.as_slice.result.now c.as_slice-2.result.now c.as_slice-3.result.now c.granted_by.result
    c.requires.0 c.requires.1.0 c.requires.1.1.0 c.requires.1.1.1 c.as_slice.ensures c.as_slice-2.ensures c.as_slice-3.ensures c.granted_by.ensures
