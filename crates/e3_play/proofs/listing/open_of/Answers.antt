use Rattle.std.proofs.Common.{◌∙◌, [], ℕ, List, sym, ap, fold}
use Rattle.std.specs.List.{flat_map}
use Rattle.e3_types.specs.declared.transactions.Txn.{Txn}
use Rattle.e3_world.specs.Items.{add_txn, is_up_at, open_at}
use Rattle.e3_play.proofs.Listed.{still_up}
use Rattle.e3_play.proofs.listing.open_of.Goals as goal

pub loop-site-preserved : goal.loop-site-preserved
loop-site-preserved g c =
    let S = g.S.Sites in
    let sites = c.args.sites.now in
    let known : List ℕ → List Txn = flat_map (λ s. fold add_txn [] (open_at (S.scenario sites) (S.entries sites) s)) in
    c.loop-site.invariant ∙ ap known (still_up (is_up_at (S.entries sites)) c.loop-site.yielded c.in-Some.site (sym c.is_up.ensures ∙ c.if-is_up.false))
