use Rattle.std.proofs.Common.{sym, subst, ℕ, List}
use Rattle.e3_places.specs.Granting.{RestlessStand, step_so_far}
use Rattle.e3_site.proofs.past.names.grants_after.Goals as goal

pub fresh-new-requires : goal.fresh-new-requires
fresh-new-requires g c = c.requires.1.1.0

pub grants_after-requires : goal.grants_after-requires
grants_after-requires g c = (
  c.requires.1.0.places_stand,
  (
    subst (λ (l : List (List ℕ)). RestlessStand g.a.site l g.a.life) (sym c.as_slice-2.ensures) c.requires.1.0.restless_stand,
    (c.fresh-new.ensures g.a (step_so_far g.a c.args.made.now) c.requires.0 (sym c.requires.1.1.1.0) (sym c.as_slice.ensures), c.requires.1.1.1.1),
  ),
)
