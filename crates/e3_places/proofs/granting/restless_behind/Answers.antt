use Rattle.e3_places.proofs.Fronting.{restless_ok}
use Rattle.e3_places.proofs.granting.restless_behind.Goals as goal

pub returns : goal.returns
returns c =
    restless_ok c.args.places.now c.args.restless.now c.args.new.now c.args.step.now c.as_slice.result.now c.as_slice-2.result.now c.as_slice-3.result.now c.restless_by.result
    c.as_slice.ensures c.as_slice-2.ensures c.as_slice-3.ensures c.restless_by.ensures
