use Rattle.std.proofs.Common.{◌∙◌, ap, List}
use Rattle.e3_types.specs.declared.entries.Entry.{Entry}
use Rattle.e3_types.specs.declared.scenarios.Scenario.{Scenario}
use Rattle.e3_world.specs.Moves.{log_of}
use Rattle.e3_judge.proofs.audit.FallsAndRises.{up_rise}
use Rattle.e3_judge.proofs.audit.rising.risen.Goals as goal

pub returns-in-Ok : goal.returns-in-Ok
returns-in-Ok c =
    let scenario = ap (λ (s : Scenario). log_of s c.of-prefix.result.entries.now c.args.site) c.of-prefix.ensures.scenario in
    let entries = ap (λ (h : List Entry). log_of c.args.scenario.now h c.args.site) c.of-prefix.ensures.entries in
    up_rise c.args.scenario.now c.args.after.now c.args.site _ c.in-Ok.up c.requires.legal c.requires.rose c.in-Ok.ensures.risen.site_is
    (c.as_slice.ensures ∙ c.in_ok-log.ensures ∙ scenario ∙ entries) c.in-Ok.ensures.stands
