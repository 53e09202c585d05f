-- A history that the judge computes as whole is worked, where its scenario keeps the rules.
use Rattle.std.specs.Prelude.{◌≡◌, ◌+◌, ◌&&◌, ◌∷◌, [], nat_le, true, Bool, List, length, map}
use Rattle.std.specs.List.{list_all}
use Rattle.std.proofs.lemmas.Bool.{and_parts, leb-true}
use Rattle.e3_types.specs.declared.entries.Entry.{Entry}
use Rattle.e3_types.specs.declared.scenarios.Scenario.{Scenario}
use Rattle.e3_judge.specs.Checks.{is_whole}
use Rattle.e3_judge.specs.Claims.{WholeIsWhole}
use Rattle.e3_laws.specs.steps.Trails.{TrailsAreSound}
use Rattle.e3_world.specs.Given.{IsGiven, exist, rows_differ, steps_keep}
use Rattle.e3_world.specs.Packets.{all_sites}
use Rattle.e3_worked.specs.Worked.{IsWorked, Outcome, outcome_of}

-- the rules that a scenario keeps, as one test
abbrev pub keeps_rules : Scenario → Bool
keeps_rules sc =
    nat_le 1 (length sc.weights) &&
    nat_le (length sc.weights) 16 &&
    list_all (λ w. nat_le 1 w && nat_le w 1000) sc.weights &&
    exist sc (map (λ row. row.key.site) sc.rows) &&
    rows_differ sc.rows &&
    nat_le (sc.loss + sc.repeat) 100 &&
    steps_keep sc (record { earlier = []; fresh = []; ops = []; parts = all_sites sc ∷ [] }) sc.steps

pub given : (sc : Scenario) → keeps_rules sc ≡ true → IsGiven sc
given sc keeps =
    let to_odds = and_parts _ _ keeps in
    let to_rows_differ = and_parts _ _ to_odds.0 in
    let to_rows = and_parts _ _ to_rows_differ.0 in
    let to_weighed = and_parts _ _ to_rows.0 in
    let to_few = and_parts _ _ to_weighed.0 in
    let counted = and_parts _ _ to_few.0 in
    record {
      some = leb-true _ _ counted.0;
      few = leb-true _ _ counted.1;
      weighed = to_few.1;
      rows_at_sites = to_weighed.1;
      rows_differ = to_rows.1;
      odds = leb-true _ _ to_rows_differ.1;
      steps = to_odds.1;
    }

-- the judge's test is exact, and the trail of a legal history of a given scenario is sound
pub worked : WholeIsWhole → TrailsAreSound → (sc : Scenario) (h : List Entry) (o : Outcome) → keeps_rules sc ≡ true → is_whole sc h ≡ true → outcome_of sc h ≡ o → IsWorked sc h o
worked exact sound sc h o keeps is comes_to =
    let whole = (exact sc h).0 is in
    record { whole = whole; given = given sc keeps; sound = sound sc h (given sc keeps) whole.legal; comes_to = comes_to }
