use Rattle.std.proofs.Common.{List, refl, subst}
use Rattle.e3_cards.specs.declared.card.Change.{Change}
use Rattle.e3_cards.specs.Tables.{HasRoom as HasCards}
use Rattle.e3_site.proofs.past.Readying.{act_alike, all_room}
use Rattle.e3_site.proofs.past.stepping.ready.Goals as goal

pub returns-in_err-ready-clause-same : goal.returns-in_err-ready-clause-same
returns-in_err-ready-clause-same c =
    act_alike c.args.tables.now _ c.args.behind.now (record { site_is = refl; inc_is = refl; begins_are = refl; calls_are = refl; room = c.ready.ensures.same })
    (λ site life h. h) (λ site life s h. h) (λ site life h. h)

pub returns-in_err-ready-2-clause-same : goal.returns-in_err-ready-2-clause-same
returns-in_err-ready-2-clause-same c =
    act_alike c.args.tables.now _ c.args.behind.now (record { site_is = refl; inc_is = refl; begins_are = refl; calls_are = refl; room = c.ready.ensures.same })
    c.ready-2.ensures.stand c.ready-2.ensures.are (λ site life h. h)

pub returns-clause-same : goal.returns-clause-same
returns-clause-same c =
    act_alike c.args.tables.now _ c.args.behind.now (record { site_is = refl; inc_is = refl; begins_are = refl; calls_are = refl; room = c.ready.ensures.same })
    c.ready-2.ensures.stand c.ready-2.ensures.are c.ready_opens.ensures.stand

pub returns-clause-ok : goal.returns-clause-ok
returns-clause-ok c =
    all_room c.ready_opens.result _ c.args.behind.now (subst (λ (l : List Change). HasCards c.ready.new.map.entries l) c.as_slice.ensures c.in_ok-ready.ensures.ok)
    c.in_ok-ready-2.ensures.ok c.ready_opens.ensures.ok
