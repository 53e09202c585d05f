use Rattle.std.proofs.Common.{◌≡◌, ◌++◌, ◌∷◌, [], ◌∙◌, subst}
use Rattle.std.specs.Prelude.{OnOk}
use Rattle.e3_types.specs.declared.entries.Entry.{Entry}
use Rattle.e3_world.specs.Legal.{entry_of}
use Rattle.e3_judge.proofs.inputs.go_on.Goals as goal

pub returns : goal.returns
returns c =
    let sc = c.args.scenario.now in
    let h = c.args.history.now in
    let scenario = c.of.ensures.scenario in
    let entries = c.of.ensures.entries ∙ c.as_slice.ensures in
    let entry : c.in_ok-entry.entry ≡ entry_of sc h c.args.site c.args.input.now = cc (scenario, entries, c.in_ok-entry.ensures) in
    let Adds : Entry → Type 0 = λ e. OnOk c.push.result (c.push.new.self ≡ h ++ e ∷ []) in
    subst Adds entry c.push.ensures.ok
