-- the arrivals so far
use Rattle.std.proofs.Common.{◌≡◌, take}
use Rattle.e3_commit.proofs.acks.Acks.copy.Given as goal

abbrev pub invariant-loop-site : goal.invariant-loop-site
invariant-loop-site l = l.arrivals.items ≡ take l.site-index l.site-items
