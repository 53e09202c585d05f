use Rattle.std.proofs.lemmas.Result.{err_from_is_err_and}
use Rattle.e3_codec.specs.Reader.{times_at}
use Rattle.e3_codec.proofs.Times.{goes_on, ends, is_done}
use Rattle.e3_codec.proofs.listed.times.Goals as goal

pub returns-in_err-field : goal.returns-in_err-field
returns-in_err-field g c =
    let p = err_from_is_err_and c.from_residual.result c.from_residual.ensures.1 in
    rw (p.1, p.2) (ends (g.T.Field.reading c.args.site) c.in_err-field.field-0.0 c.loop.fields c.args.count c.loop.counter c.loop.rest.now
    (times_at (g.T.Field.reading c.args.site) c.args.count c.args.bytes.now) c.loop-test.true c.in_err-field.ensures.gives c.loop.invariant)

pub loop-preserved : goal.loop-preserved
loop-preserved g c =
    rw c.in-Ok.ensures.ok (goes_on (g.T.Field.reading c.args.site) c.loop.fields c.args.count c.loop.counter c.loop.rest.now c.in_ok-field.field
    c.in_ok-field.after.now (times_at (g.T.Field.reading c.args.site) c.args.count c.args.bytes.now) c.loop-test.true c.in_ok-field.ensures.gives c.loop.invariant)

pub returns : goal.returns
returns g c = is_done (g.T.Field.reading c.args.site) c.loop.fields c.args.count c.loop.counter c.loop.rest.now
    (times_at (g.T.Field.reading c.args.site) c.args.count c.args.bytes.now) c.loop-test.false c.loop.invariant
