use Rattle.std.proofs.Common.{◌≡◌, [], filter, fold}
use Rattle.std.specs.List.{flat_map}
use Rattle.e3_world.specs.Items.{add_txn, is_up_at, open_at}
use Rattle.e3_play.proofs.listing.open_of.Given as goal

abbrev pub invariant-loop-site : goal.invariant-loop-site
invariant-loop-site g l =
    let S = g.S.Sites in
    l.txns ≡ flat_map (λ s. fold add_txn [] (open_at (S.scenario l.sites) (S.entries l.sites) s)) (filter (is_up_at (S.entries l.sites)) l.yielded)
