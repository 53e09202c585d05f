-- the weight is small since there are 64 sites at most
use Rattle.std.proofs.Common.{arith, ◌≤◌, length}
use Rattle.e3_quorum.proofs.Sums.{weight_few}
use Rattle.e3_quorum.proofs.quorums.weight_of.Goals as goal

pub loop-site-init : goal.loop-site-init
loop-site-init c =
    let few : length c.args.sites ≤ 64 = omega (arith, c.count-count.ensures) in
    (rw (c.into_iter-site-iterator.ensures.into_iter_gives, c.iter-site-items.ensures) (omega arith), weight_few c.args.weights.now c.args.sites c.type_inv.weights few)
