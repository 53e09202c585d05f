use Rattle.std.proofs.Common.{◌≡◌, ◌-◌}
use Rattle.e3_codec.specs.Reader.{times_at}
use Rattle.e3_codec.proofs.Times.{with_front}
use Rattle.e3_codec.proofs.listed.times.Given as goal

abbrev pub invariant-loop : goal.invariant-loop
invariant-loop g l =
    with_front l.fields (times_at (g.T.Field.reading l.site) (l.count - l.counter) l.rest) ≡ times_at (g.T.Field.reading l.site) l.count l.bytes
