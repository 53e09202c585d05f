-- What a run over a legal history keeps, and which text is due.
use Rattle.std.proofs.Common.{◌≡◌, ◌≢◌, ◌≤◌, ◌<◌, ◌⊎◌, inl, inr, ℕ, Bool, true, false, List, [], length, Option, Ok, Err, refl, sym, subst, ◌∙◌, arith, nat_le, String, Global}
use Rattle.std.specs.Io.KnownBytes.{IsAtEnd}
use Rattle.std.specs.Prelude.{IfOk, Result}
use Rattle.e3_types.specs.declared.list.NoMemory.{NoMemory}
use Rattle.e3_top.specs.declared.preparing.Response.{Response}
use Rattle.e3_top.specs.declared.preparing.Stop.{Stop}
use Rattle.e3_top.specs.declared.preparing.Telling.{Telling}
use Rattle.e3_top.specs.declared.preparing.Telling.TheVariants.{Report, Summary}
use Rattle.std.proofs.lemmas.Bool.{leb-true}
use Rattle.e3_disk.specs.Meaning.{Meaning}
use Rattle.e3_laws.proofs.agreement.Histories.{given_agrees, given_voted}
use Rattle.e3_laws.proofs.agreement.Standing.{given_stands}
use Rattle.e3_fleet.specs.Over.{AreOver}
use Rattle.e3_laws.specs.rounds.Commits.{CommitsEnd}
use Rattle.e3_laws.specs.rounds.Rounds.{RoundsEnd}
use Rattle.e3_laws.specs.serial.Claims.{LegalSerial}
use Rattle.e3_gen.specs.Generated.{generated, generated_scenario}
use Rattle.e3_report.specs.Report.{report_of}
use Rattle.e3_report.specs.Summary.{summary_of}
use Rattle.e3_scenario.specs.Faults.{fault_text}
use Rattle.e3_scenario.specs.Scenarios.{scenario_of}
use Rattle.e3_scenario.specs.declared.faults.ScenarioFault.{ScenarioFault}
use Rattle.e3_scenario.specs.declared.faults.ScenarioFault.TheVariants as fault
use Rattle.e3_top.specs.Outcomes.{IsAsked, IsOutcome, IsRunOf, IsTextOf, NothingHappened, Plays, Succeeds, told_of}
use Rattle.e3_top.specs.Ends.{IsPrepared}
use Rattle.e3_top.proofs.Spelled.{run_no_check, run_no_drill, run_no_gen, gen_no_check, plays_no_check}
use Rattle.e3_top.specs.Words.{IsRun, refused_words}
use Rattle.e3_top.specs.Commands.{IsCommand, Spell}
use Rattle.e3_top.specs.declared.commands.Command.TheVariants.{Run, Gen, Drill, Check}
use Rattle.e3_types.specs.declared.entries.Entry.{Entry}
use Rattle.e3_types.specs.declared.scenarios.Scenario.{Scenario}
use Rattle.e3_world.specs.Given.{IsGiven}
use Rattle.e3_world.specs.Legal.{IsLegal, IsWhole}

-- a legal history of a given scenario is safe, its recovery rounds are bounded, and its commit rounds commit
pub run_of : {D : Type 0} (meaning : Meaning D) (before now : List D) → LegalSerial → RoundsEnd → CommitsEnd → (sc : Scenario) (most : ℕ) (h : List Entry) → most ≤ 2000000 → IsGiven sc → IsLegal sc h → length h ≤ most →
    AreOver meaning sc h before now → IsRunOf meaning before now sc most h
run_of meaning before now one ends commits sc most h bound given legal few over = record {
  given = given;
  legal = legal;
  few = few;
  safe = record {
    agree = given_agrees sc h given legal;
    voted = given_voted sc h given legal;
    told = given_stands sc h given legal;
    serial = one sc h given legal;
  };
  rounds = λ r s up. ends sc h r given legal (omega (arith, few, bound)) s up;
  commits = λ t s. commits sc h t given legal s;
  over = over;
}

-- a run that went through its scenario is done
pub done_run : {D : Type 0} (meaning : Meaning D) (before now : List D) (words : List (String Global)) (trace : Bool) (bytes : List ℕ) (sc : Scenario) (most : ℕ) (h : List Entry) (text : List ℕ) →
    Spell words (Run trace) → scenario_of bytes ≡ Ok sc → IsRunOf meaning before now sc most h → IsWhole sc h → text ≡ report_of sc h trace → Succeeds meaning before now words bytes most h text
done_run meaning before now words trace bytes sc most h text run spelled safe whole says = inl (record {
  run = record { trace = trace; spelled = run };
  scenario = sc;
  spelled = spelled;
  whole = whole;
  safe = safe;
  reported = says;
})

-- a drill that went through its scenario is done
pub done_drill : {D : Type 0} (meaning : Meaning D) (before now : List D) (words : List (String Global)) (n : ℕ) (bytes : List ℕ) (sc : Scenario) (most : ℕ) (h : List Entry) (text : List ℕ) →
    Spell words (Drill n) → bytes ≡ [] → sc ≡ generated_scenario n → IsRunOf meaning before now sc most h → IsWhole sc h → text ≡ summary_of n sc h → Succeeds meaning before now words bytes most h text
done_drill meaning before now words n bytes sc most h text drill unread same safe whole says = inr (inl (record {
  drill = record { n = n; spelled = drill };
  unread = unread;
  whole = subst (λ (x : Scenario). IsWhole x h) same whole;
  safe = subst (λ (x : Scenario). IsRunOf meaning before now x most h) same safe;
  reported = subst (λ (x : Scenario). text ≡ summary_of n x h) same says;
}))

-- the text of a scenario that was played is due: what is told of a history that went through it, or the line of a full history
pub played_text : {D : Type 0} (meaning : Meaning D) (before now : List D) (words : List (String Global)) (bytes : List ℕ) (sc : Scenario) (most status : ℕ) (h : List Entry) (told text : List ℕ) →
    Plays words bytes sc → IsRunOf meaning before now sc most h → (IsWhole sc h → text ≡ told → Succeeds meaning before now words bytes most h text) → IsTextOf sc most h told status text →
    IsOutcome meaning before now words bytes most status h text
played_text meaning before now words bytes sc most status h told text plays safe succeeds (inl done) = record {
  known = let zero = done.0 in inl (omega (arith, zero));
  done = λ e. succeeds done.1 done.2;
  words_refused = λ e. absurd (let zero = done.0 in omega (arith, e, zero));
  scenario_refused = λ e. absurd (let zero = done.0 in omega (arith, e, zero));
  history_full = λ e. absurd (let zero = done.0 in omega (arith, e, zero));
  illegal = λ e. absurd (let zero = done.0 in omega (arith, e, zero));
  no_trace = λ e. absurd (let zero = done.0 in omega (arith, e, zero));
  checked = λ check. absurd (plays_no_check plays check);
}
played_text meaning before now words bytes sc most status h told text plays safe succeeds (inr full) = record {
  known = inr (inl full.0);
  done = λ e. absurd (let six = full.0 in omega (arith, e, six));
  words_refused = λ e. absurd (let six = full.0 in omega (arith, e, six));
  scenario_refused = λ e. absurd (let six = full.0 in omega (arith, e, six));
  history_full = λ e. record {
    scenario = sc;
    plays = plays;
    full = full.1.full;
    owed = full.1.owed;
    unfinished = full.1.unfinished;
    safe = safe;
    says = full.2;
  };
  illegal = λ e. absurd (let six = full.0 in omega (arith, e, six));
  no_trace = λ e. absurd (let six = full.0 in omega (arith, e, six));
  checked = λ check. absurd (plays_no_check plays check);
}

-- the scenario of which the words ask to be told is the one that is played
pub asked_plays : (words : List (String Global)) (bytes : List ℕ) (telling : Telling) (sc : Scenario) → IsAsked words bytes telling sc → Plays words bytes sc
asked_plays words bytes (Report trace) sc asked = inl (record { trace = trace; spelled = asked.0 }, asked.1)
asked_plays words bytes (Summary n) sc asked = inr (record { drill = record { n = n; spelled = asked.0 }; unread = asked.1; same = asked.2 })

-- so it is where it was made, for what the words ask to be told
pub played_due : {D : Type 0} (meaning : Meaning D) (before now : List D) (words : List (String Global)) (bytes : List ℕ) (telling : Telling) (sc : Scenario) (most : ℕ) (h : List Entry) (r : Result Response Stop) →
    IsAsked words bytes telling sc → IsRunOf meaning before now sc most h → IfOk r (λ due. IsTextOf sc most h (told_of telling sc h) due.status due.text) →
    IfOk r (λ due. IsOutcome meaning before now words bytes most due.status h due.text)
played_due meaning before now words bytes telling sc most h (Err fault) asked safe made = tt
played_due meaning before now words bytes (Report trace) sc most h (Ok due) asked safe made =
    played_text meaning before now words bytes sc most due.status h (report_of sc h trace) due.text (asked_plays words bytes (Report trace) sc asked) safe
    (done_run meaning before now words trace bytes sc most h due.text asked.0 asked.1 safe) made
played_due meaning before now words bytes (Summary n) sc most h (Ok due) asked safe made =
    played_text meaning before now words bytes sc most due.status h (summary_of n sc h) due.text (asked_plays words bytes (Summary n) sc asked) safe
    (done_drill meaning before now words n bytes sc most h due.text asked.0 asked.1 asked.2 safe) made

-- the line for other words is due
pub refused_run : {D : Type 0} (meaning : Meaning D) (before now : List D) (words : List (String Global)) (most : ℕ) (h : List Entry) (text : List ℕ) → ¬ IsCommand words → NothingHappened before now h →
    text ≡ refused_words → IsOutcome meaning before now words [] most 1 h text
refused_run meaning before now words most h text other nothing says = record {
  known = inl (omega arith);
  done = λ e. absurd (omega (arith, e));
  words_refused = λ e. record { no_command = other; unread = refl; empty = nothing.0; untouched = nothing.1; says = says };
  scenario_refused = λ e. absurd (omega (arith, e));
  history_full = λ e. absurd (omega (arith, e));
  illegal = λ e. absurd (omega (arith, e));
  no_trace = λ e. absurd (omega (arith, e));
  checked = λ check. absurd (other (record { command = Check; spelled = check.spelled }));
}

-- the text of a generated scenario is due
pub told_run : {D : Type 0} (meaning : Meaning D) (before now : List D) (words : List (String Global)) (n most : ℕ) (h : List Entry) (text : List ℕ) → Spell words (Gen n) → NothingHappened before now h →
    text ≡ generated n → IsOutcome meaning before now words [] most 0 h text
told_run meaning before now words n most h text gen nothing says = record {
  known = inl (omega arith);
  done = λ e. inr (inr (inl (record { gen = record { n = n; spelled = gen }; unread = refl; empty = nothing.0; untouched = nothing.1; says = says })));
  words_refused = λ e. absurd (omega (arith, e));
  scenario_refused = λ e. absurd (omega (arith, e));
  history_full = λ e. absurd (omega (arith, e));
  illegal = λ e. absurd (omega (arith, e));
  no_trace = λ e. absurd (omega (arith, e));
  checked = λ check. absurd (gen_no_check (record { n = n; spelled = gen }) check);
}

-- the line of a fault is due
pub no_scenario : {D : Type 0} (meaning : Meaning D) (before now : List D) (words : List (String Global)) (bytes : List ℕ) (most : ℕ) (fault : ScenarioFault) (h : List Entry) (text : List ℕ) → IsRun words →
    scenario_of bytes ≡ Err fault → NothingHappened before now h → text ≡ fault_text fault → IsOutcome meaning before now words bytes most 2 h text
no_scenario meaning before now words bytes most fault h text run spelled nothing says = record {
  known = inl (omega arith);
  done = λ e. absurd (omega (arith, e));
  words_refused = λ e. absurd (omega (arith, e));
  scenario_refused = λ e. inl (record { run = run; fault = fault; spelled = spelled; empty = nothing.0; untouched = nothing.1; says = says });
  history_full = λ e. absurd (omega (arith, e));
  illegal = λ e. absurd (omega (arith, e));
  no_trace = λ e. absurd (omega (arith, e));
  checked = λ check. absurd (run_no_check run check);
}

-- bytes that spell a scenario are fewer than a run takes at most
few_bytes : (bytes : List ℕ) (sc : Scenario) → scenario_of bytes ≡ Ok sc → length bytes < 4194305
few_bytes bytes sc spelled = by (nat_le (length bytes) 4194304) refl
  where
    by : (b : Bool) → nat_le (length bytes) 4194304 ≡ b → length bytes < 4194305
    by true is = let low = leb-true (length bytes) 4194304 is in omega (arith, low)
    by false is = absurd (let long : scenario_of bytes ≡ Err fault.TooLong = rw is refl in cc)

-- where the text was written the status is that of the text
same_status : {P : Type 0} {status due : ℕ} → (status ≢ 4 → (status ≡ due) × P) → status ≢ 4 → due ≡ status
same_status written other = sym (written other).0

-- a run that is done has read all of its source
done_drained : {D : Type 0} {meaning : Meaning D} {before now : List D} {words : List (String Global)} {bytes text : List ℕ} {most : ℕ} {history : List Entry} → IsRun words →
    Succeeds meaning before now words bytes most history text → length bytes < 4194305
done_drained {bytes = bytes} run (inl done) = few_bytes bytes done.scenario done.spelled
done_drained run (inr (inl drilled)) = absurd (run_no_drill run drilled.drill)
done_drained run (inr (inr (inl told))) = absurd (run_no_gen run told.gen)
done_drained run (inr (inr (inr checked))) = absurd (run_no_check run checked.check)

plays_drained : {words : List (String Global)} (bytes : List ℕ) (sc : Scenario) → IsRun words → Plays words bytes sc → length bytes < 4194305
plays_drained bytes sc run (inl spelled) = few_bytes bytes sc spelled.1
plays_drained bytes sc run (inr drill) = absurd (run_no_drill run drill.drill)

-- with 0 and 6 nothing of a run's source is left
pub drained_run : {D : Type 0} {meaning : Meaning D} {before now : List D} {P : Type 0} {words : List (String Global)} {had left : Option (List ℕ)} {most due : ℕ} {history : List Entry} {text : List ℕ} (status : ℕ) →
    IsPrepared meaning before now words had left most due history text → (status ≢ 4 → (status ≡ due) × P) → IsRun words → (status ≡ 0) ⊎ (status ≡ 6) → IsAtEnd left
drained_run status prepared written run (inl e) =
    let done = prepared.due.done (same_status written (λ four. omega (arith, e, four)) ∙ e) in
    prepared.read.to_end (Run run.trace) run.spelled (done_drained run done)
drained_run status prepared written run (inr e) =
    let full = prepared.due.history_full (same_status written (λ four. omega (arith, e, four)) ∙ e) in
    prepared.read.to_end (Run run.trace) run.spelled (plays_drained prepared.bytes full.scenario run full.plays)

-- what holds of a value that came with Ok
pub of_ok : {T E : Type 0} {x : T} (P : T → Type 0) (r : Result T E) → r ≡ Ok x → IfOk r P → P x
of_ok {T} {E} P r is holds = subst (λ (q : Result T E). IfOk q P) is holds

-- the text of a history that went through its scenario, where it was made
pub told_text : (sc : Scenario) (most : ℕ) (h : List Entry) (told : List ℕ) (r : Result Response Stop) (text : Result (List ℕ) NoMemory) → IsWhole sc h → IfOk text (λ t. t ≡ told) →
    IfOk r (λ due. (due.status ≡ 0) × (text ≡ Ok due.text)) → IfOk r (λ due. IsTextOf sc most h told due.status due.text)
told_text sc most h told (Err stop) text whole says made = tt
told_text sc most h told (Ok due) text whole says made = inl (made.0, whole, of_ok (λ t. t ≡ told) text made.1 says)

-- the line for other words, where it was made
pub refused_due : {D : Type 0} (meaning : Meaning D) (before now : List D) (words : List (String Global)) (most : ℕ) (h : List Entry) (r : Result Response Stop) (text : Result (List ℕ) NoMemory) → ¬ IsCommand words → NothingHappened before now h →
    IfOk text (λ line. line ≡ refused_words) → IfOk r (λ due. (due.status ≡ 1) × (text ≡ Ok due.text)) →
    IfOk r (λ due. IsOutcome meaning before now words [] most due.status h due.text)
refused_due meaning before now words most h (Err fault) text other nothing says made = tt
refused_due meaning before now words most h (Ok due) text other nothing says made =
    subst (λ (n : ℕ). IsOutcome meaning before now words [] most n h due.text) (sym made.0) (refused_run meaning before now words most h due.text other nothing (of_ok (λ line. line ≡ refused_words) text made.1 says))

-- the text of a generated scenario, where it was made
pub told_due : {D : Type 0} (meaning : Meaning D) (before now : List D) (words : List (String Global)) (n most : ℕ) (h : List Entry) (r : Result Response Stop) (text : Result (List ℕ) NoMemory) → Spell words (Gen n) → NothingHappened before now h →
    IfOk text (λ t. t ≡ generated n) → IfOk r (λ due. (due.status ≡ 0) × (text ≡ Ok due.text)) →
    IfOk r (λ due. IsOutcome meaning before now words [] most due.status h due.text)
told_due meaning before now words n most h (Err fault) text gen nothing says made = tt
told_due meaning before now words n most h (Ok due) text gen nothing says made =
    subst (λ (s : ℕ). IsOutcome meaning before now words [] most s h due.text) (sym made.0) (told_run meaning before now words n most h due.text gen nothing (of_ok (λ t. t ≡ generated n) text made.1 says))

-- the line of a fault, where it was made
pub fault_due : {D : Type 0} (meaning : Meaning D) (before now : List D) (words : List (String Global)) (trace : Bool) (bytes : List ℕ) (f : ScenarioFault) (most : ℕ) (h : List Entry) (r : Result Response Stop) (text : Result (List ℕ) NoMemory) →
    Spell words (Run trace) → (f ≡ fault.NoMemory) ⊎ (scenario_of bytes ≡ Err f) → NothingHappened before now h → IfOk text (λ line. (f ≢ fault.NoMemory) × (line ≡ fault_text f)) →
    IfOk r (λ due. (due.status ≡ 2) × (text ≡ Ok due.text)) → IfOk r (λ due. IsOutcome meaning before now words bytes most due.status h due.text)
fault_due meaning before now words trace bytes f most h (Err stop) text run cause nothing says made = tt
fault_due meaning before now words trace bytes f most h (Ok due) text run cause nothing says made = by cause
  where
    line : (f ≢ fault.NoMemory) × (due.text ≡ fault_text f)
    line = of_ok (λ line. (f ≢ fault.NoMemory) × (line ≡ fault_text f)) text made.1 says

    by : (f ≡ fault.NoMemory) ⊎ (scenario_of bytes ≡ Err f) → IsOutcome meaning before now words bytes most due.status h due.text
    by (inl e) = absurd (line.0 e)
    by (inr spelled) = subst (λ (n : ℕ). IsOutcome meaning before now words bytes most n h due.text) (sym made.0)
        (no_scenario meaning before now words bytes most f h due.text (record { trace = trace; spelled = run }) spelled nothing line.1)
