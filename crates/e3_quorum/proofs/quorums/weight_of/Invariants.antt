-- what is left makes up the whole, which is small
use Rattle.std.proofs.Common.{◌≡◌, ◌+◌, ◌<◌}
use Rattle.e3_types.specs.Quorums.{weight_of}
use Rattle.e3_quorum.proofs.quorums.weight_of.Given as goal

abbrev pub invariant-loop-site : goal.invariant-loop-site
invariant-loop-site l =
    (l.sum + weight_of l.weights l.site-iterator ≡ weight_of l.weights l.fn.sites) × (weight_of l.weights l.fn.sites < 274877906944)
