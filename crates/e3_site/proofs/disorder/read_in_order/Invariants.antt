use Rattle.std.proofs.Common.{◌≡◌, take, drop}
use Rattle.e3_site.specs.Orderly.{disorder_in, disorder_after}
use Rattle.e3_site.specs.Reading.{AreRead}
use Rattle.e3_site.proofs.disorder.read_in_order.Given as goal

abbrev pub invariant-loop-k : goal.invariant-loop-k
invariant-loop-k l =
    (disorder_in l.site l.records ≡ disorder_after l.site (take l.k l.records) (drop l.k l.records)) × AreRead l.site l.rising (take l.k l.records) l.read l.inc l.weights
