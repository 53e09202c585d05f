use Rattle.std.proofs.Common.{arith, refl, ◌∙◌}
use Rattle.e3_judge.proofs.audit.Entered.{started}
use Rattle.e3_judge.proofs.audit.auditor.Auditor.start.Goals as goal

pub returns-in-Ok : goal.returns-in-Ok
returns-in-Ok c =
    let sc = c.args.scenario.now in
    started sc _ refl c.in_ok-net.ensures (c.in-Ok.ensures.count ∙ c.len-sites.ensures) (omega (arith, c.len-sites.ensures)) (c.in-Ok.ensures.stand sc)
