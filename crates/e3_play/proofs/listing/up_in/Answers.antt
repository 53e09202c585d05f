use Rattle.std.proofs.Common.{◌∙◌, ◌++◌, ◌∷◌, [], ℕ, List, sym, ap}
use Rattle.e3_world.specs.Items.{is_up_at}
use Rattle.e3_play.proofs.Listed.{also_up, still_up}
use Rattle.e3_play.proofs.listing.up_in.Goals as goal

pub loop-site-preserved : goal.loop-site-preserved
loop-site-preserved g c =
    c.loop-site.invariant
    ∙ still_up (is_up_at (g.S.Sites.entries c.args.sites.now)) c.loop-site.yielded c.in-Some.site (sym c.is_up.ensures ∙ c.if-is_up.false)

pub loop-site-preserved-in-Continue-1 : goal.loop-site-preserved-in-Continue-1
loop-site-preserved-in-Continue-1 g c =
    c.in_ok-push.ensures.ok ∙ ap (λ (l : List ℕ). l ++ c.in-Some.site ∷ []) c.loop-site.invariant
    ∙ also_up (is_up_at (g.S.Sites.entries c.args.sites.now)) c.loop-site.yielded c.in-Some.site (sym c.is_up.ensures ∙ c.if-is_up.true)
