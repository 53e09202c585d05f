-- the set has just what came
use Rattle.std.proofs.Common.{◌∙◌, ap, List, ℕ}
use Rattle.e3_types.specs.Sets.{has_site}
use Rattle.e3_world.specs.Gatherings.{Round}
use Rattle.e3_commit.proofs.Gathering.{has_set}
use Rattle.e3_commit.proofs.acks.Acks.has_acked.Goals as goal

pub returns : goal.returns
returns c =
    c.has.ensures ∙ ap (λ (l : List ℕ). has_site l c.args.from) c.self.invariant.0
    ∙ has_set c.self.inside.arrivals.items c.args.from ∙ ap (λ (a : Round). has_site a.acked c.args.from) c.self.view_is
