-- What a verdict means.
use Rattle.std.proofs.Common.{◌≡◌, ◌≤◌, ◌<◌, ◌⊎◌, ℕ, Bool, true, false, nat_le, List, [], length, Option, Some, None, Result, Ok, Err, refl, sym, subst, ap, ◌∙◌, inl, inr, arith}
use Rattle.std.proofs.lemmas.Bool.{leb-true, leb-false}
use Rattle.e3_types.specs.declared.entries.Entry.{Entry}
use Rattle.e3_types.specs.declared.scenarios.Scenario.{Scenario}
use Rattle.e3_world.specs.Given.{IsGiven}
use Rattle.e3_world.specs.Legal.{IsLegal}
use Rattle.e3_laws.specs.agreement.Claims.{HistoriesAgree, HistoriesVote, HistoriesToldStand}
use Rattle.e3_laws.specs.serial.Claims.{LegalSerial}
use Rattle.e3_judge.specs.Checks.{first_breach, is_whole}
use Rattle.e3_judge.specs.Claims.{NoBreachIsLegal, BreachIsBroken, WholeIsWhole}
use Rattle.e3_judge.specs.declared.breach.Breach.{Breach}
use Rattle.e3_scenario.specs.Faults.{fault_text}
use Rattle.e3_scenario.specs.Scenarios.{scenario_of}
use Rattle.e3_scenario.specs.declared.faults.ScenarioFault.{ScenarioFault}
use Rattle.e3_scenario.proofs.GivenLaws.{given_scenario}
use Rattle.e3_trace.specs.Trace.{history_of}
use Rattle.e3_trace.specs.declared.faults.TraceFault.{TraceFault}
use Rattle.e3_trace.specs.declared.faults.TraceFault.TheVariants as trace
use Rattle.e3_trace.specs.declared.verdicts.checking.Finding.{Finding}
use Rattle.e3_trace.specs.verdicts.Claims.{IsRead, HasLegal, HasIllegal, HasNoScenario, HasNoTrace, IsVerdict}
use Rattle.e3_trace.specs.verdicts.Findings.{scenario_part, by_breach, by_trace, by_scenario, found_in, entries_in, history_for, status_of, finding_text, legal_text, illegal_text, trace_text}

-- what is read once is read so
abbrev ok_or : {A E : Type 0} → A → Result A E → A
ok_or x (Ok y) = y
ok_or x (Err e) = x

one_ok : {A E : Type 0} (r : Result A E) (x y : A) → r ≡ Ok x → r ≡ Ok y → x ≡ y
one_ok r x y first second = ap (ok_or x) (sym first ∙ second)

not_both : {A E : Type 0} (r : Result A E) (x : A) (e : E) → r ≡ Ok x → r ≡ Err e → ⊥
not_both r x e first second = let same : Ok x ≡ Err e = sym first ∙ second in absurd cc

-- the laws that the verdict rests on
pub record Laws : Type 0 where
  pub legal : NoBreachIsLegal
  pub broken : BreachIsBroken
  pub whole : WholeIsWhole
  pub agree : HistoriesAgree
  pub voted : HistoriesVote
  pub told : HistoriesToldStand
  pub serial : LegalSerial

-- no trace
trace_verdict : (bytes : List ℕ) (f : TraceFault) → (268435456 < length bytes) ⊎ HasNoTrace bytes → history_of bytes ≡ Err f → IsVerdict bytes 9 [] (trace_text f)
trace_verdict bytes f cause read = record {
  cause = record {
    known = inr (inr (inr refl));
    legal = (λ is. absurd (omega (arith, is)), λ has. absurd (not_both (history_of bytes) has.history f has.read.trace read));
    scenario = (λ is. absurd (omega (arith, is)), λ has. absurd (other has cause));
    illegal = (λ is. absurd (omega (arith, is)), λ has. absurd (not_both (history_of bytes) has.history f has.read.trace read));
    trace = (λ is. cause, λ is. refl);
  };
  legal = λ is. absurd (omega (arith, is));
  scenario = λ is. absurd (omega (arith, is));
  illegal = λ is. absurd (omega (arith, is));
  trace = λ is. record { fault = f; read = read; empty = refl; says = refl };
}
  where
    other : HasNoScenario bytes → (268435456 < length bytes) ⊎ HasNoTrace bytes → ⊥
    other has (inl long) = let short : length bytes ≤ 268435456 = has.short in absurd (omega (arith, long, short))
    other has (inr gone) = not_both (scenario_of (scenario_part bytes)) gone.scenario has.fault gone.spelled has.spelled

-- no scenario
scenario_verdict : (bytes : List ℕ) (f : ScenarioFault) → length bytes ≤ 268435456 → scenario_of (scenario_part bytes) ≡ Err f → IsVerdict bytes 2 [] (fault_text f)
scenario_verdict bytes f short spelled = record {
  cause = record {
    known = inr (inl refl);
    legal = (λ is. absurd (omega (arith, is)), λ has. absurd (not_both (scenario_of (scenario_part bytes)) has.scenario f has.read.scenario spelled));
    scenario = (λ is. record { short = short; fault = f; spelled = spelled }, λ is. refl);
    illegal = (λ is. absurd (omega (arith, is)), λ has. absurd (not_both (scenario_of (scenario_part bytes)) has.scenario f has.read.scenario spelled));
    trace = (λ is. absurd (omega (arith, is)), λ has. absurd (other has));
  };
  legal = λ is. absurd (omega (arith, is));
  scenario = λ is. record { fault = f; spelled = spelled; empty = refl; says = refl };
  illegal = λ is. absurd (omega (arith, is));
  trace = λ is. absurd (omega (arith, is));
}
  where
    other : (268435456 < length bytes) ⊎ HasNoTrace bytes → ⊥
    other (inl long) = absurd (omega (arith, long, short))
    other (inr gone) = not_both (scenario_of (scenario_part bytes)) gone.scenario f gone.spelled spelled

-- where scenario and trace are read there is a scenario and a trace
read_trace : (bytes : List ℕ) (sc : Scenario) (h : List Entry) → IsRead bytes sc h → (268435456 < length bytes) ⊎ HasNoTrace bytes → ⊥
read_trace bytes sc h read (inl long) = let short : length bytes ≤ 268435456 = read.short in absurd (omega (arith, long, short))
read_trace bytes sc h read (inr gone) = not_both (history_of bytes) h gone.fault read.trace gone.read

read_scenario : (bytes : List ℕ) (sc : Scenario) (h : List Entry) → IsRead bytes sc h → HasNoScenario bytes → ⊥
read_scenario bytes sc h read gone = not_both (scenario_of (scenario_part bytes)) sc gone.fault read.scenario gone.spelled

-- a legal history
legal_verdict : (laws : Laws) (bytes : List ℕ) (sc : Scenario) (h : List Entry) → IsRead bytes sc h → first_breach sc h ≡ None →
    IsVerdict bytes 0 h (legal_text (length h) (is_whole sc h))
legal_verdict laws bytes sc h read none = record {
  cause = record {
    known = inl refl;
    legal = (λ is. record { scenario = sc; history = h; read = read; legal = legal }, λ is. refl);
    scenario = (λ is. absurd (omega (arith, is)), λ has. absurd (read_scenario bytes sc h read has));
    illegal = (λ is. absurd (omega (arith, is)), λ has. absurd (other has));
    trace = (λ is. absurd (omega (arith, is)), λ has. absurd (read_trace bytes sc h read has));
  };
  legal = λ is. record {
    scenario = sc;
    read = read;
    given = given;
    legal = legal;
    safe = record {
      agree = laws.agree sc h given legal;
      voted = laws.voted sc h given legal;
      told = laws.told sc h given legal;
      serial = laws.serial sc h given legal;
    };
    whole = is_whole sc h;
    through = laws.whole sc h;
    says = refl;
  };
  scenario = λ is. absurd (omega (arith, is));
  illegal = λ is. absurd (omega (arith, is));
  trace = λ is. absurd (omega (arith, is));
}
  where
    given : IsGiven sc
    given = given_scenario (scenario_part bytes) sc read.scenario

    legal : IsLegal sc h
    legal = (laws.legal sc h).0 none

    other : HasIllegal bytes → ⊥
    other has =
        let one : sc ≡ has.scenario = one_ok (scenario_of (scenario_part bytes)) sc has.scenario read.scenario has.read.scenario in
        let two : h ≡ has.history = one_ok (history_of bytes) h has.history read.trace has.read.trace in
        let R : Scenario → Type 0 = λ s. IsLegal s has.history in
        let Q : List Entry → Type 0 = IsLegal sc in
        has.broken (subst R one (subst Q two legal))

-- a history that is not legal
illegal_verdict : (laws : Laws) (bytes : List ℕ) (sc : Scenario) (h : List Entry) (b : Breach) → IsRead bytes sc h → first_breach sc h ≡ Some b → IsVerdict bytes 8 h (illegal_text b)
illegal_verdict laws bytes sc h b read some = record {
  cause = record {
    known = inr (inr (inl refl));
    legal = (λ is. absurd (omega (arith, is)), λ has. absurd (other has));
    scenario = (λ is. absurd (omega (arith, is)), λ has. absurd (read_scenario bytes sc h read has));
    illegal = (λ is. record { scenario = sc; history = h; read = read; broken = broken }, λ is. refl);
    trace = (λ is. absurd (omega (arith, is)), λ has. absurd (read_trace bytes sc h read has));
  };
  legal = λ is. absurd (omega (arith, is));
  scenario = λ is. absurd (omega (arith, is));
  illegal = λ is. record { scenario = sc; read = read; breach = b; broken = laws.broken sc h b some; says = refl };
  trace = λ is. absurd (omega (arith, is));
}
  where
    broken : IsLegal sc h → ⊥
    broken legal = let wrong : None ≡ Some b = sym ((laws.legal sc h).1 legal) ∙ some in absurd cc

    other : HasLegal bytes → ⊥
    other has =
        let one : has.scenario ≡ sc = one_ok (scenario_of (scenario_part bytes)) has.scenario sc has.read.scenario read.scenario in
        let two : has.history ≡ h = one_ok (history_of bytes) has.history h has.read.trace read.trace in
        let R : Scenario → Type 0 = λ s. IsLegal s h in
        let Q : List Entry → Type 0 = IsLegal has.scenario in
        broken (subst R one (subst Q two has.legal))

-- what is found in bytes
abbrev Verdict : List ℕ → Finding → Type 0
Verdict bytes f = IsVerdict bytes (status_of f) (history_for f bytes) (finding_text f)

behind_trace : (laws : Laws) (bytes : List ℕ) (sc : Scenario) (h : List Entry) → IsRead bytes sc h → (o : Option Breach) → first_breach sc h ≡ o → Verdict bytes (by_breach sc h o)
behind_trace laws bytes sc h read None is =
    let R : List Entry → Type 0 = λ l. IsVerdict bytes 0 l (legal_text (length h) (is_whole sc h)) in
    subst R (sym (ap entries_in read.trace)) (legal_verdict laws bytes sc h read is)
behind_trace laws bytes sc h read (Some b) is =
    let R : List Entry → Type 0 = λ l. IsVerdict bytes 8 l (illegal_text b) in
    subst R (sym (ap entries_in read.trace)) (illegal_verdict laws bytes sc h b read is)

behind_scenario : (laws : Laws) (bytes : List ℕ) (sc : Scenario) → length bytes ≤ 268435456 → scenario_of (scenario_part bytes) ≡ Ok sc →
    (r : Result (List Entry) TraceFault) → history_of bytes ≡ r → Verdict bytes (by_trace sc r)
behind_scenario laws bytes sc short spelled (Ok h) is =
    behind_trace laws bytes sc h (record { short = short; scenario = spelled; trace = is }) (first_breach sc h) refl
behind_scenario laws bytes sc short spelled (Err f) is =
    trace_verdict bytes f (inr (record { scenario = sc; spelled = spelled; fault = f; read = is })) is

behind_front : (laws : Laws) (bytes : List ℕ) → length bytes ≤ 268435456 → (r : Result Scenario ScenarioFault) → scenario_of (scenario_part bytes) ≡ r →
    Verdict bytes (by_scenario bytes r)
behind_front laws bytes short (Ok sc) is = behind_scenario laws bytes sc short is (history_of bytes) refl
behind_front laws bytes short (Err f) is = scenario_verdict bytes f short is

too_long : (bytes : List ℕ) → nat_le (length bytes) 268435456 ≡ false → history_of bytes ≡ Err trace.TooLong
unfolding history_of
too_long bytes is = rw is refl

-- the verdict on bytes
pub verdict_on : (laws : Laws) (bytes : List ℕ) → Verdict bytes (found_in bytes)
verdict_on laws bytes = by (nat_le (length bytes) 268435456) refl
  where
    by : (b : Bool) → nat_le (length bytes) 268435456 ≡ b → Verdict bytes (found_in bytes)
    by true is = rw is (behind_front laws bytes (leb-true (length bytes) 268435456 is) (scenario_of (scenario_part bytes)) refl)
    by false is = rw is (trace_verdict bytes trace.TooLong (inl (long is)) (too_long bytes is))
      where
        long : nat_le (length bytes) 268435456 ≡ false → 268435456 < length bytes
        long isnt = omega (arith, leb-false (length bytes) 268435456 isnt)

-- what is made of a finding is its verdict
pub verdict_by : (laws : Laws) (bytes : List ℕ) (f : Finding) (status : ℕ) (history : List Entry) (text : List ℕ) → f ≡ found_in bytes → status ≡ status_of f →
    history ≡ history_for f bytes → text ≡ finding_text f → IsVerdict bytes status history text
verdict_by laws bytes f status history text is status_is history_is says =
    let V : Finding → Type 0 = Verdict bytes in
    let S : ℕ → Type 0 = λ n. IsVerdict bytes n (history_for f bytes) (finding_text f) in
    let H : List Entry → Type 0 = λ l. IsVerdict bytes status l (finding_text f) in
    let T : List ℕ → Type 0 = IsVerdict bytes status history in
    subst T (sym says) (subst H (sym history_is) (subst S (sym status_is) (subst V (sym is) (verdict_on laws bytes))))
