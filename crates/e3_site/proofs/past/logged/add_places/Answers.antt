use Rattle.std.proofs.Common.{◌&&◌, true, Bool, ap, [], Option, subst, sym, ◌∙◌}
use Rattle.e3_types.specs.declared.entries.Input.TheVariants.{Begin}
use Rattle.e3_cards.specs.Noting.{unstepped}
use Rattle.e3_places.specs.declared.places.Places.{Places}
use Rattle.e3_site.specs.past.Standing.{PlacesMayStand}
use Rattle.e3_site.proofs.past.logged.add_places.Goals as goal

pub returns-clause-stand : goal.returns-clause-stand
returns-clause-stand c = λ site inc log cards stand.
    c.in_ok-note.ensures site inc log (subst (λ (o : Option Places). PlacesMayStand site o (unstepped inc log)) c.in-Some.is stand)
    (ap (λ (b : Bool). b && true) (sym (c.may_follow.ensures (record { weights = []; site = site; life = unstepped inc log; input = Begin [] }) cards) ∙ c.if-not-may_follow.false))

pub returns-then-not-may_follow-clause-known : goal.returns-then-not-may_follow-clause-known
returns-then-not-may_follow-clause-known c = λ site inc log cards known may.
    sym c.if-not-may_follow.true ∙ c.may_follow.ensures (record { weights = []; site = site; life = unstepped inc log; input = Begin [] }) cards ∙ may
