-- Calls of the driver one behind the other, and a call that does nothing.
use Rattle.std.proofs.Common.{◌∙◌, ℕ, refl}
use Rattle.e3_types.specs.declared.scenarios.Scenario.{Scenario}
use Rattle.e3_play.specs.GoingOn.{SitesGoOn}

pub rests : {S : Type 0} {standing : S → Type 0} {came : S → S → Type 0} {scenario_in : S → Scenario} {most_in : S → ℕ} {s : S} →
    standing s → SitesGoOn standing came scenario_in most_in s s
rests stands = record { stands = stands; since = λ start before. before; scenario = refl; most = refl }

pub goes_on : {S : Type 0} {standing : S → Type 0} {came : S → S → Type 0} {scenario_in : S → Scenario} {most_in : S → ℕ} {first second third : S} →
    SitesGoOn standing came scenario_in most_in first second → SitesGoOn standing came scenario_in most_in second third →
    SitesGoOn standing came scenario_in most_in first third
goes_on one more = record {
  stands = more.stands;
  since = λ start before. more.since start (one.since start before);
  scenario = more.scenario ∙ one.scenario;
  most = more.most ∙ one.most;
}
