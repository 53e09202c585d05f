use Rattle.e3_node.proofs.Steps.{ready_draft, stays_by, still_same}
use Rattle.e3_node.proofs.drafts.planned.Goals as goal

pub returns-in-Ok-clause-ready : goal.returns-in-Ok-clause-ready
returns-in-Ok-clause-ready g c =
    ready_draft g.now c.args.input.now c.args.site.now c.ready.new.self c.draft_of.result _ c.draft_of.ensures.plan c.draft_of.ensures.draft
    c.in_ok-plan.ensures.made c.in_ok-plan.ensures.few (c.ready.ensures.of_site g.now c.requires.0 c.in_ok-plan.ensures.of_site) c.in-Ok.ensures.ok

pub returns-in-Ok-clause-still : goal.returns-in-Ok-clause-still
returns-in-Ok-clause-still g c = record { same = c.ready.ensures.same; stands = stays_by c.args.site.now c.ready.new.self c.ready.ensures.same c.ready.ensures.stand }

pub returns-in-Err-clause-still : goal.returns-in-Err-clause-still
returns-in-Err-clause-still g c = record { same = c.ready.ensures.same; stands = stays_by c.args.site.now c.ready.new.self c.ready.ensures.same c.ready.ensures.stand }

pub returns-in_err-plan-clause-still : goal.returns-in_err-plan-clause-still
returns-in_err-plan-clause-still g c = still_same c.args.site.now
