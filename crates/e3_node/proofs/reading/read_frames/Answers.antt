use Rattle.std.proofs.Common.{◌≡◌, ap, Err}
use Rattle.e3_node.specs.declared.readying.Unready.{Unready}
use Rattle.e3_node.specs.declared.readying.Unready.TheVariants.{Foreign}
use Rattle.e3_node.proofs.Among.{bad_among}
use Rattle.e3_node.proofs.reading.read_frames.Goals as goal

pub returns-in-Err-clause-foreign : goal.returns-in-Err-clause-foreign
returns-in-Err-clause-foreign c = λ is.
    let same : c.in-Err.fault ≡ Foreign = cc in
    bad_among c.args.site c.args.frames.now c.loop-frame.frame-index c.frame-item.result c.frame-item.result c.loop-frame-test.true c.frame-item.is
    (c.in-Err.ensures.foreign (ap (λ (f : Unready). Err f) same))
