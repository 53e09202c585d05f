use Rattle.std.proofs.Common.{◌≡◌, ◌++◌, [], ℕ, fold, take, drop, true}
use Rattle.e3_report.specs.Names.{no_naming, naming_by}
use Rattle.e3_report.specs.Steps.{up_after, steps_after}
use Rattle.e3_report.specs.Ups.{up_in}
use Rattle.e3_report.proofs.steps.push_steps.Given as goal

abbrev pub invariant-loop-at : goal.invariant-loop-at
invariant-loop-at l = record {
  names : l.known.names ≡ fold (naming_by l.scenario) no_naming (take l.at l.history);
  ups : (s : ℕ) → up_in l.known.ups.keys s ≡ up_after (take l.at l.history) s;
  text : l.page.is_whole ≡ true → (l.initial.page.is_whole ≡ true)
      × (l.page.text ++ steps_after l.scenario (take l.at l.history) (drop l.at l.history) ≡ l.initial.page.text ++ steps_after l.scenario [] l.history);
}
