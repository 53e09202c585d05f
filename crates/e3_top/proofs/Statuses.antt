-- Which statuses come for words that spell no command, and for those of each command.
use Rattle.std.proofs.Common.{◌≡◌, ◌≢◌, ◌≤◌, ◌⊎◌, inl, inr, ℕ, Bool, List, Ok, Err, refl, sym, subst, ◌∙◌, arith, zero, suc, String, Global}
use Rattle.std.specs.Prelude.{IfOk, Result}
use Rattle.e3_trace.specs.verdicts.Claims.{IsVerdict}
use Rattle.e3_top.proofs.Spelled.{run_no_gen, run_no_drill, run_no_check, gen_no_drill, gen_no_check, drill_no_check}
use Rattle.e3_top.specs.Outcomes.{HasText, IsAsked, IsTextOf}
use Rattle.e3_top.specs.Words.{IsRun, IsGen, IsDrill, IsCheck, MayEnd}
use Rattle.e3_top.specs.declared.preparing.Response.{Response}
use Rattle.e3_top.specs.declared.preparing.Stop.{Stop}
use Rattle.e3_top.specs.declared.preparing.Telling.{Telling}
use Rattle.e3_top.specs.declared.preparing.Telling.TheVariants.{Report, Summary}
use Rattle.e3_types.specs.declared.entries.Entry.{Entry}
use Rattle.e3_types.specs.declared.list.NoMemory.{NoMemory}
use Rattle.e3_types.specs.declared.scenarios.Scenario.{Scenario}
use Rattle.e3_top.specs.Commands.{IsCommand, Spell}
use Rattle.e3_top.specs.declared.commands.Command.TheVariants.{Run, Gen, Drill, Check}

-- which statuses come for words that spell no command, and for those of each command
pub may_refuse : (words : List (String Global)) → ¬ IsCommand words → MayEnd words 1
may_refuse words other = record {
  known = inl (omega arith);
  done = λ e. absurd (omega (arith, e));
  words_refused = λ e. other;
  scenario_refused = λ e. absurd (omega (arith, e));
  source_failed = λ e. absurd (omega (arith, e));
  history_full = λ e. absurd (omega (arith, e));
  illegal = λ e. absurd (omega (arith, e));
  no_trace = λ e. absurd (omega (arith, e));
  generated = λ gen. absurd (other (record { command = Gen gen.n; spelled = gen.spelled }));
  drilled = λ drill. absurd (other (record { command = Drill drill.n; spelled = drill.spelled }));
}

pub may_run : (words : List (String Global)) (status : ℕ) → IsRun words → status ≤ 6 → status ≢ 1 → MayEnd words status
may_run words status run low other = record {
  known = inl low;
  done = λ e. record { command = Run run.trace; spelled = run.spelled };
  words_refused = λ e. absurd (other e);
  scenario_refused = λ e. inl run;
  source_failed = λ e. inl run;
  history_full = λ e. inl run;
  illegal = λ e. absurd (omega (arith, e, low));
  no_trace = λ e. absurd (omega (arith, e, low));
  generated = λ gen. absurd (run_no_gen run gen);
  drilled = λ drill. absurd (run_no_drill run drill);
}

pub may_tell : (words : List (String Global)) (n status : ℕ) → Spell words (Gen n) → status ≡ 0 → MayEnd words status
may_tell words n status gen none = record {
  known = inl (omega (arith, none));
  done = λ e. record { command = Gen n; spelled = gen };
  words_refused = λ e. absurd (omega (arith, e, none));
  scenario_refused = λ e. absurd (omega (arith, e, none));
  source_failed = λ e. absurd (omega (arith, e, none));
  history_full = λ e. absurd (omega (arith, e, none));
  illegal = λ e. absurd (omega (arith, e, none));
  no_trace = λ e. absurd (omega (arith, e, none));
  generated = λ other. inl none;
  drilled = λ drill. absurd (gen_no_drill (record { n = n; spelled = gen }) drill);
}

pub may_drill : (words : List (String Global)) (n status : ℕ) → Spell words (Drill n) → (status ≡ 0) ⊎ (status ≡ 6) → MayEnd words status
may_drill words n status drill (inl none) = record {
  known = inl (omega (arith, none));
  done = λ e. record { command = Drill n; spelled = drill };
  words_refused = λ e. absurd (omega (arith, e, none));
  scenario_refused = λ e. absurd (omega (arith, e, none));
  source_failed = λ e. absurd (omega (arith, e, none));
  history_full = λ e. absurd (omega (arith, e, none));
  illegal = λ e. absurd (omega (arith, e, none));
  no_trace = λ e. absurd (omega (arith, e, none));
  generated = λ gen. absurd (gen_no_drill gen (record { n = n; spelled = drill }));
  drilled = λ other. inl none;
}
may_drill words n status drill (inr six) = record {
  known = inl (omega (arith, six));
  done = λ e. record { command = Drill n; spelled = drill };
  words_refused = λ e. absurd (omega (arith, e, six));
  scenario_refused = λ e. absurd (omega (arith, e, six));
  source_failed = λ e. absurd (omega (arith, e, six));
  history_full = λ e. inr (record { n = n; spelled = drill });
  illegal = λ e. absurd (omega (arith, e, six));
  no_trace = λ e. absurd (omega (arith, e, six));
  generated = λ gen. absurd (gen_no_drill gen (record { n = n; spelled = drill }));
  drilled = λ other. inr (inr (inr six));
}

pub may_check : (words : List (String Global)) (status : ℕ) → IsCheck words → (status ≡ 0) ⊎ (status ≡ 2) ⊎ (status ≡ 8) ⊎ (status ≡ 9) → MayEnd words status
may_check words status check is = record {
  known = known is;
  done = λ e. record { command = Check; spelled = check.spelled };
  words_refused = λ e. absurd (other 1 (λ f. omega (arith, f)) (λ f. omega (arith, f)) (λ f. omega (arith, f)) (λ f. omega (arith, f)) e);
  scenario_refused = λ e. inr check;
  source_failed = λ e. inr check;
  history_full = λ e. absurd (other 6 (λ f. omega (arith, f)) (λ f. omega (arith, f)) (λ f. omega (arith, f)) (λ f. omega (arith, f)) e);
  illegal = λ e. check;
  no_trace = λ e. check;
  generated = λ gen. absurd (gen_no_check gen check);
  drilled = λ drill. absurd (drill_no_check drill check);
}
  where
    known : (status ≡ 0) ⊎ (status ≡ 2) ⊎ (status ≡ 8) ⊎ (status ≡ 9) → (status ≤ 6) ⊎ (status ≡ 8) ⊎ (status ≡ 9)
    known (inl e) = inl (omega (arith, e))
    known (inr (inl e)) = inl (omega (arith, e))
    known (inr (inr e)) = inr e

    other : (n : ℕ) → n ≢ 0 → n ≢ 2 → n ≢ 8 → n ≢ 9 → status ≢ n
    other n not_0 not_2 not_8 not_9 e = by is
      where
        by : (status ≡ 0) ⊎ (status ≡ 2) ⊎ (status ≡ 8) ⊎ (status ≡ 9) → ⊥
        by (inl f) = not_0 (sym e ∙ f)
        by (inr (inl f)) = not_2 (sym e ∙ f)
        by (inr (inr (inl f))) = not_8 (sym e ∙ f)
        by (inr (inr (inr f))) = not_9 (sym e ∙ f)

-- the source may fail where the words read it
pub may_lose : (words : List (String Global)) → IsRun words ⊎ IsCheck words → MayEnd words 3
may_lose words reads = record {
  known = inl (omega arith);
  done = λ e. absurd (omega (arith, e));
  words_refused = λ e. absurd (omega (arith, e));
  scenario_refused = λ e. reads;
  source_failed = λ e. reads;
  history_full = λ e. absurd (omega (arith, e));
  illegal = λ e. absurd (omega (arith, e));
  no_trace = λ e. absurd (omega (arith, e));
  generated = λ gen. absurd (by_gen reads gen);
  drilled = λ drill. absurd (by_drill reads drill);
}
  where
    by_gen : IsRun words ⊎ IsCheck words → ¬ IsGen words
    by_gen (inl run) gen = run_no_gen run gen
    by_gen (inr check) gen = gen_no_check gen check

    by_drill : IsRun words ⊎ IsCheck words → ¬ IsDrill words
    by_drill (inl run) drill = run_no_drill run drill
    by_drill (inr check) drill = drill_no_check drill check

-- the sink may fail, and memory may run out, with all words
pub may_fail : (words : List (String Global)) → MayEnd words 4
may_fail words = record {
  known = inl (omega arith);
  done = λ e. absurd (omega (arith, e));
  words_refused = λ e. absurd (omega (arith, e));
  scenario_refused = λ e. absurd (omega (arith, e));
  source_failed = λ e. absurd (omega (arith, e));
  history_full = λ e. absurd (omega (arith, e));
  illegal = λ e. absurd (omega (arith, e));
  no_trace = λ e. absurd (omega (arith, e));
  generated = λ gen. inr (inl refl);
  drilled = λ drill. inr (inl refl);
}

pub may_want : (words : List (String Global)) → MayEnd words 5
may_want words = record {
  known = inl (omega arith);
  done = λ e. absurd (omega (arith, e));
  words_refused = λ e. absurd (omega (arith, e));
  scenario_refused = λ e. absurd (omega (arith, e));
  source_failed = λ e. absurd (omega (arith, e));
  history_full = λ e. absurd (omega (arith, e));
  illegal = λ e. absurd (omega (arith, e));
  no_trace = λ e. absurd (omega (arith, e));
  generated = λ gen. inr (inr refl);
  drilled = λ drill. inr (inr (inl refl));
}

-- the status of a text that is due, or of a sink that failed
pub may_finish : (words : List (String Global)) (status due : ℕ) → MayEnd words due → (status ≡ due) ⊎ (status ≡ 4) → MayEnd words status
may_finish words status due may (inl same) = subst (λ (s : ℕ). MayEnd words s) (sym same) may
may_finish words status due may (inr four) = subst (λ (s : ℕ). MayEnd words s) (sym four) (may_fail words)

-- where the sink does not fail
pub drill_completes : (words : List (String Global)) (status : ℕ) {P : Type 0} → MayEnd words status → (status ≡ 4 → P) → IsDrill words → ¬ P → (status ≡ 0) ⊎ (status ≡ 5) ⊎ (status ≡ 6)
drill_completes words status {P} may rose drill calm = by (may.drilled drill)
  where
    by : (status ≡ 0) ⊎ (status ≡ 4) ⊎ (status ≡ 5) ⊎ (status ≡ 6) → (status ≡ 0) ⊎ (status ≡ 5) ⊎ (status ≡ 6)
    by (inl e) = inl e
    by (inr (inl e)) = absurd (calm (rose e))
    by (inr (inr (inl e))) = inr (inl e)
    by (inr (inr (inr e))) = inr (inr e)

pub gen_completes : (words : List (String Global)) (status : ℕ) {P : Type 0} → MayEnd words status → (status ≡ 4 → P) → IsGen words → ¬ P → (status ≡ 0) ⊎ (status ≡ 5)
gen_completes words status {P} may rose gen calm = by (may.generated gen)
  where
    by : (status ≡ 0) ⊎ (status ≡ 4) ⊎ (status ≡ 5) → (status ≡ 0) ⊎ (status ≡ 5)
    by (inl e) = inl e
    by (inr (inl e)) = absurd (calm (rose e))
    by (inr (inr e)) = inr e

pub run_completes : (words : List (String Global)) (status : ℕ) {P : Type 0} → MayEnd words status → HasText status ⊎ (status ≡ 4) → (status ≡ 4 → P) → IsRun words → ¬ P → (status ≡ 0) ⊎ (status ≡ 5) ⊎ (status ≡ 2) ⊎ (status ≡ 6)
run_completes words status {P} may known rose run calm = by known
  where
    small : (s : ℕ) → status ≡ s → s ≤ 2 → (status ≡ 0) ⊎ (status ≡ 5) ⊎ (status ≡ 2) ⊎ (status ≡ 6)
    small zero e low = inl e
    small (suc zero) e low = absurd (may.words_refused e (record { command = Run run.trace; spelled = run.spelled }))
    small (suc (suc zero)) e low = inr (inr (inl e))
    small (suc (suc (suc s))) e low = absurd (omega (arith, low))

    by : HasText status ⊎ (status ≡ 4) → (status ≡ 0) ⊎ (status ≡ 5) ⊎ (status ≡ 2) ⊎ (status ≡ 6)
    by (inl (inl low)) = small status refl low
    by (inl (inr (inl e))) = inr (inr (inr e))
    by (inl (inr (inr (inl e)))) = absurd (run_no_check run (may.illegal e))
    by (inl (inr (inr (inr e)))) = absurd (run_no_check run (may.no_trace e))
    by (inr e) = absurd (calm (rose e))

pub check_completes : (words : List (String Global)) (status : ℕ) {P : Type 0} → MayEnd words status → HasText status ⊎ (status ≡ 4) → (status ≡ 4 → P) → IsCheck words → ¬ P →
    (status ≡ 0) ⊎ (status ≡ 5) ⊎ (status ≡ 2) ⊎ (status ≡ 8) ⊎ (status ≡ 9)
check_completes words status {P} may known rose check calm = by known
  where
    small : (s : ℕ) → status ≡ s → s ≤ 2 → (status ≡ 0) ⊎ (status ≡ 5) ⊎ (status ≡ 2) ⊎ (status ≡ 8) ⊎ (status ≡ 9)
    small zero e low = inl e
    small (suc zero) e low = absurd (may.words_refused e (record { command = Check; spelled = check.spelled }))
    small (suc (suc zero)) e low = inr (inr (inl e))
    small (suc (suc (suc s))) e low = absurd (omega (arith, low))

    played : IsRun words ⊎ IsDrill words → ⊥
    played (inl run) = run_no_check run check
    played (inr drill) = drill_no_check drill check

    by : HasText status ⊎ (status ≡ 4) → (status ≡ 0) ⊎ (status ≡ 5) ⊎ (status ≡ 2) ⊎ (status ≡ 8) ⊎ (status ≡ 9)
    by (inl (inl low)) = small status refl low
    by (inl (inr (inl e))) = absurd (played (may.history_full e))
    by (inl (inr (inr e))) = inr (inr (inr e))
    by (inr e) = absurd (calm (rose e))

-- the statuses of a text that was made
pub refused_may : (words : List (String Global)) (r : Result Response Stop) (text : Result (List ℕ) NoMemory) → ¬ IsCommand words → IfOk r (λ due. (due.status ≡ 1) × (text ≡ Ok due.text)) → IfOk r (λ due. MayEnd words due.status)
refused_may words (Err stop) text other made = tt
refused_may words (Ok due) text other made = subst (λ (s : ℕ). MayEnd words s) (sym made.0) (may_refuse words other)

pub told_may : (words : List (String Global)) (n : ℕ) (r : Result Response Stop) (text : Result (List ℕ) NoMemory) → Spell words (Gen n) → IfOk r (λ due. (due.status ≡ 0) × (text ≡ Ok due.text)) → IfOk r (λ due. MayEnd words due.status)
told_may words n (Err stop) text gen made = tt
told_may words n (Ok due) text gen made = may_tell words n due.status gen made.0

pub fault_may : (words : List (String Global)) (trace : Bool) (r : Result Response Stop) (text : Result (List ℕ) NoMemory) → Spell words (Run trace) → IfOk r (λ due. (due.status ≡ 2) × (text ≡ Ok due.text)) → IfOk r (λ due. MayEnd words due.status)
fault_may words trace (Err stop) text run made = tt
fault_may words trace (Ok due) text run made =
    let two = made.0 in may_run words due.status (record { trace = trace; spelled = run }) (omega (arith, two)) (λ e. omega (arith, e, two))

pub played_may : (words : List (String Global)) (bytes : List ℕ) (telling : Telling) (sc : Scenario) (most : ℕ) (h : List Entry) (told : List ℕ) (r : Result Response Stop) → IsAsked words bytes telling sc →
    IfOk r (λ due. IsTextOf sc most h told due.status due.text) → IfOk r (λ due. MayEnd words due.status)
played_may words bytes telling sc most h told (Err stop) asked made = tt
played_may words bytes (Report trace) sc most h told (Ok due) asked (inl done) =
    let zero = done.0 in may_run words due.status (record { trace = trace; spelled = asked.0 }) (omega (arith, zero)) (λ e. omega (arith, e, zero))
played_may words bytes (Report trace) sc most h told (Ok due) asked (inr full) =
    let six = full.0 in may_run words due.status (record { trace = trace; spelled = asked.0 }) (omega (arith, six)) (λ e. omega (arith, e, six))
played_may words bytes (Summary n) sc most h told (Ok due) asked (inl done) = may_drill words n due.status asked.0 (inl done.0)
played_may words bytes (Summary n) sc most h told (Ok due) asked (inr full) = may_drill words n due.status asked.0 (inr full.0)

pub judged_may : (words : List (String Global)) (bytes : List ℕ) (status : ℕ) (h : List Entry) (text : List ℕ) → Spell words Check → IsVerdict bytes status h text → MayEnd words status
judged_may words bytes status h text check verdict = may_check words status (record { spelled = check }) verdict.cause.known
