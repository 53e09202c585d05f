-- two quorums share a site, which is among those of the first
use Rattle.std.proofs.Common.{◌≡◌, ◌∙◌}
use Rattle.e3_quorum.proofs.Shares.{quorums_share, within_itself}
use Rattle.e3_quorum.proofs.weights.Weights.shared_site.Goals as goal

pub loop-site-init : goal.loop-site-init
loop-site-init c =
    let same : c.into_iter-site-iterator.result ≡ c.args.a = c.into_iter-site-iterator.ensures.into_iter_gives ∙ c.iter-site-items.ensures in
    let r = c.requires in
    rw same (within_itself c.args.a, quorums_share c.args.self.now c.args.a c.args.b c.args.all c.count.ensures.ascending c.count-2.ensures.ascending r.a_within r.b_within r.a_quorum r.b_quorum)
