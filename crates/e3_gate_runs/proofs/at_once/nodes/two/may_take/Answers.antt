-- what the prefix is made of is what is shared
use Rattle.std.proofs.Common.{◌≡◌, ◌∙◌, ℕ, List, ap, subst}
use Rattle.e3_types.specs.declared.entries.Entry.{Entry}
use Rattle.e3_types.specs.declared.scenarios.Scenario.{Scenario}
use Rattle.e3_wire.specs.Marks.{entries_of, scenario_of}
use Rattle.e3_world.specs.Legal.{Guard, entry_of}
use Rattle.e3_gate_runs.proofs.at_once.nodes.two.may_take.Goals as goal

pub returns-in-Ok : goal.returns-in-Ok
returns-in-Ok g c = λ yes.
    let sc = scenario_of c.args.shared.now in
    let h = entries_of c.args.shared.now in
    let scenario : c.of-before.result.scenario.now ≡ sc = c.of-before.ensures.scenario ∙ c.scenario.ensures in
    let entries : c.of-before.result.entries.now ≡ h = c.of-before.ensures.entries ∙ c.history.ensures in
    let step : c.in-Ok.step ≡ entry_of sc h c.args.node.now.site c.args.input.now =
    c.in-Ok.ensures
    ∙ ap (λ (s : Scenario). entry_of s c.of-before.result.entries.now c.site.result c.args.input.now) scenario
    ∙ ap (λ (es : List Entry). entry_of sc es c.site.result c.args.input.now) entries
    ∙ ap (λ (n : ℕ). entry_of sc h n c.args.input.now) c.site.ensures in
    subst (λ (e : Entry). Guard sc h e) step (c.is_allowed.ensures yes)
