-- the sites that are left are of the first set, and a shared one is among them
use Rattle.std.proofs.Common.{◌≡◌, true}
use Rattle.std.specs.List.{list_any}
use Rattle.e3_types.specs.Sets.{has_site, is_within}
use Rattle.e3_quorum.proofs.weights.Weights.shared_site.Given as goal

abbrev pub invariant-loop-site : goal.invariant-loop-site
invariant-loop-site l =
    (is_within l.site-iterator l.fn.a ≡ true) × (list_any (has_site l.fn.b) l.site-iterator ≡ true)
