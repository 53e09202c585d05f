use Rattle.std.proofs.Common.{◌≡◌, ◌*◌, ◌≤◌, take}
use Rattle.e3_types.specs.Quorums.{weight_of}
use Rattle.e3_quorum.proofs.quorums.weigh.Given as goal

abbrev pub invariant-loop-site : goal.invariant-loop-site
invariant-loop-site l = record {
  sum_is : l.sum ≡ weight_of l.weights (take l.site-index l.sites);
  small : l.sum ≤ 4294967295 * l.site-index;
}
