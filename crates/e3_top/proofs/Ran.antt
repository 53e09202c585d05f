-- What came of a run, by what was prepared and what was written of it.
use Rattle.std.proofs.Common.{◌≡◌, ◌≢◌, ◌≤◌, ◌<◌, ◌⊎◌, inl, inr, ℕ, List, length, take, Option, sym, subst, ◌∙◌, arith, String, Global}
use Rattle.std.specs.Io.KnownBytes.{Appends}
use Rattle.e3_disk.specs.Meaning.{Meaning}
use Rattle.e3_outside.specs.Faults.{HasFailed}
use Rattle.e3_top.proofs.Runs.{drained_run}
use Rattle.e3_top.proofs.Spelled.{idle_no_check, idle_no_run}
use Rattle.e3_top.proofs.Statuses.{check_completes, drill_completes, gen_completes, may_finish, run_completes}
use Rattle.e3_top.proofs.Verdicts.{drained_verdict}
use Rattle.e3_top.specs.Outcomes.{HasText, IsOutcome, NothingHappened}
use Rattle.e3_top.specs.Ends.{IsCutShort, IsPrepared, SourceFails}
use Rattle.e3_top.specs.Ran.{Around, HasRun}
use Rattle.e3_top.specs.Words.{IsCheck, IsDrill, IsGen, IsRun, MayEnd}
use Rattle.e3_types.specs.declared.entries.Entry.{Entry}

-- a status with a text is neither of those without
text_not : (status n : ℕ) → 2 < n → n ≢ 6 → n ≢ 8 → n ≢ 9 → HasText status → status ≢ n
text_not status n more not_6 not_8 not_9 (inl low) e = omega (arith, more, low, e)
text_not status n more not_6 not_8 not_9 (inr (inl six)) e = not_6 (sym e ∙ six)
text_not status n more not_6 not_8 not_9 (inr (inr (inl eight))) e = not_8 (sym e ∙ eight)
text_not status n more not_6 not_8 not_9 (inr (inr (inr nine))) e = not_9 (sym e ∙ nine)

-- the text that is due was written, all or a front of it
pub ran_to_the_sink : {D S K : Type 0} (meaning : Meaning D) (left : S → Option (List ℕ)) (source_faults : S → ℕ)
    (written : K → Option (List ℕ)) (sink_faults : K → ℕ) (words : List (String Global)) (most : ℕ) (was now : Around D S K) (due status : ℕ) (h : List Entry) (text : List ℕ) →
    IsPrepared meaning was.disks now.disks words (left was.source) (left now.source) most due h text → MayEnd words due →
    (status ≢ 4 → (status ≡ due) × Appends (written was.sink) (written now.sink) text) →
    (status ≡ 4 → HasFailed (sink_faults was.sink) (sink_faults now.sink) × ((count : ℕ) × (count < length text) × Appends (written was.sink) (written now.sink) (take count text))) →
    HasText status ⊎ (status ≡ 4) → (status ≡ due) ⊎ (status ≡ 4) →
    (IsGen words → NothingHappened was.disks now.disks h) → (IsCheck words → now.disks ≡ was.disks) → (¬ IsRun words → ¬ IsCheck words → now.source ≡ was.source) →
    source_faults was.source ≤ source_faults now.source → sink_faults was.sink ≤ sink_faults now.sink →
    HasRun meaning left source_faults written sink_faults words most was now status h
ran_to_the_sink meaning left source_faults written sink_faults words most was now due status h text prepared may wrote failed known same told untouched unread rises sinks = record {
  finished = λ has. record {
    bytes = prepared.bytes;
    read = prepared.read;
    text = text;
    due = subst (λ (s : ℕ). IsOutcome meaning was.disks now.disks words prepared.bytes most s h text) (sym (wrote (no_fault has)).0) prepared.due;
    written = (wrote (no_fault has)).1;
  };
  source_failed = λ e. absurd (never_3 known e);
  sink_failed = λ e. record {
    counted = (failed e).0;
    bytes = prepared.bytes;
    read = prepared.read;
    text = text;
    status = due;
    due = prepared.due;
    count = (failed e).1.0;
    short = (failed e).1.1;
    written = (failed e).1.2;
  };
  no_memory = λ e. absurd (never_5 known e);
  complete_run = λ run whole calm. run_completes words status ends known (λ e. (failed e).0) run calm;
  complete_drill = λ drill calm. drill_completes words status ends (λ e. (failed e).0) drill calm;
  complete_gen = λ gen calm. gen_completes words status ends (λ e. (failed e).0) gen calm;
  complete_check = λ check whole calm. check_completes words status ends known (λ e. (failed e).0) check calm;
  statuses = ends;
  told = told;
  untouched = untouched;
  unread = unread;
  not_read = λ idle. unread (idle_no_run idle) (idle_no_check idle);
  drained = drained_run status prepared wrote;
  drained_check = drained_verdict status prepared wrote;
  source_counts = rises;
  sink_counts = sinks;
}
  where
    ends : MayEnd words status
    ends = may_finish words status due may same

    no_fault : HasText status → status ≢ 4
    no_fault = text_not status 4 (omega arith) (λ f. omega (arith, f)) (λ f. omega (arith, f)) (λ f. omega (arith, f))

    never_3 : HasText status ⊎ (status ≡ 4) → status ≢ 3
    never_3 (inl has) e = text_not status 3 (omega arith) (λ f. omega (arith, f)) (λ f. omega (arith, f)) (λ f. omega (arith, f)) has e
    never_3 (inr four) e = omega (arith, four, e)

    never_5 : HasText status ⊎ (status ≡ 4) → status ≢ 5
    never_5 (inl has) e = text_not status 5 (omega arith) (λ f. omega (arith, f)) (λ f. omega (arith, f)) (λ f. omega (arith, f)) has e
    never_5 (inr four) e = omega (arith, four, e)

-- a status that has no text: the source failed, or memory ran out, and the sink is as it was
pub ran_without_text : {D S K : Type 0} (meaning : Meaning D) (left : S → Option (List ℕ)) (source_faults : S → ℕ)
    (written : K → Option (List ℕ)) (sink_faults : K → ℕ) (words : List (String Global)) (most : ℕ) (was now : Around D S K) (status : ℕ) (h : List Entry) →
    (status ≡ 3) ⊎ (status ≡ 5) → MayEnd words status →
    (status ≡ 3 → SourceFails was.disks now.disks words (left was.source) (left now.source) (source_faults was.source) (source_faults now.source) h) →
    (status ≡ 5 → IsCutShort meaning was.disks now.disks words (left was.source) (left now.source) most h) → now.sink ≡ was.sink →
    (IsGen words → NothingHappened was.disks now.disks h) → (IsCheck words → now.disks ≡ was.disks) → (¬ IsRun words → ¬ IsCheck words → now.source ≡ was.source) →
    source_faults was.source ≤ source_faults now.source →
    HasRun meaning left source_faults written sink_faults words most was now status h
ran_without_text meaning left source_faults written sink_faults words most was now status h which may lost short same told untouched unread rises = record {
  finished = λ has. absurd (has_none which has);
  source_failed = λ e. (lost e, same);
  sink_failed = λ four. absurd (other 4 (λ f. omega (arith, f)) (λ f. omega (arith, f)) which four);
  no_memory = λ e. (short e, same);
  complete_run = λ run whole calm. inr (inl (memory which whole));
  complete_drill = λ drill calm. inr (inl (only_memory which (λ e. no_reads (may.source_failed e) (inr drill))));
  complete_gen = λ gen calm. inr (only_memory which (λ e. no_reads (may.source_failed e) (inl gen)));
  complete_check = λ check whole calm. inr (inl (memory which whole));
  statuses = may;
  told = told;
  untouched = untouched;
  unread = unread;
  not_read = λ idle. unread (idle_no_run idle) (idle_no_check idle);
  drained = λ run is. absurd (drains which is);
  drained_check = λ check is. absurd (drains_check which is);
  source_counts = rises;
  sink_counts = subst (λ (k : _). sink_faults was.sink ≤ sink_faults k) (sym same) (omega arith);
}
  where
    other : (n : ℕ) → n ≢ 3 → n ≢ 5 → (status ≡ 3) ⊎ (status ≡ 5) → status ≢ n
    other n not_3 not_5 (inl e) f = not_3 (sym f ∙ e)
    other n not_3 not_5 (inr e) f = not_5 (sym f ∙ e)

    has_none : (status ≡ 3) ⊎ (status ≡ 5) → ¬ HasText status
    has_none (inl e) has = text_not status 3 (omega arith) (λ f. omega (arith, f)) (λ f. omega (arith, f)) (λ f. omega (arith, f)) has e
    has_none (inr e) has = text_not status 5 (omega arith) (λ f. omega (arith, f)) (λ f. omega (arith, f)) (λ f. omega (arith, f)) has e

    memory : (status ≡ 3) ⊎ (status ≡ 5) → ¬ HasFailed (source_faults was.source) (source_faults now.source) → status ≡ 5
    memory (inl e) whole = absurd (whole (lost e).counted)
    memory (inr e) whole = e

    only_memory : (status ≡ 3) ⊎ (status ≡ 5) → status ≢ 3 → status ≡ 5
    only_memory (inl e) not_3 = absurd (not_3 e)
    only_memory (inr e) not_3 = e

    no_reads : IsRun words ⊎ IsCheck words → ¬ (IsGen words ⊎ IsDrill words)
    no_reads (inl run) idle = idle_no_run idle run
    no_reads (inr check) idle = idle_no_check idle check

    drains : (status ≡ 3) ⊎ (status ≡ 5) → ¬ ((status ≡ 0) ⊎ (status ≡ 6))
    drains w (inl e) = other 0 (λ f. omega (arith, f)) (λ f. omega (arith, f)) w e
    drains w (inr e) = other 6 (λ f. omega (arith, f)) (λ f. omega (arith, f)) w e

    drains_check : (status ≡ 3) ⊎ (status ≡ 5) → ¬ ((status ≡ 0) ⊎ (status ≡ 2) ⊎ (status ≡ 8))
    drains_check w (inl e) = other 0 (λ f. omega (arith, f)) (λ f. omega (arith, f)) w e
    drains_check w (inr (inl e)) = other 2 (λ f. omega (arith, f)) (λ f. omega (arith, f)) w e
    drains_check w (inr (inr e)) = other 8 (λ f. omega (arith, f)) (λ f. omega (arith, f)) w e

-- the same of an equal history and equal disks
pub ran_alike : {D S K : Type 0} (meaning : Meaning D) (left : S → Option (List ℕ)) (source_faults : S → ℕ)
    (written : K → Option (List ℕ)) (sink_faults : K → ℕ) (words : List (String Global)) (most : ℕ) (was : Around D S K) (source : S) (sink : K) (made disks : List D) (status : ℕ) (h k : List Entry) →
    disks ≡ made → k ≡ h → HasRun meaning left source_faults written sink_faults words most was (record { disks = made; source = source; sink = sink }) status h →
    HasRun meaning left source_faults written sink_faults words most was (record { disks = disks; source = source; sink = sink }) status k
ran_alike {D} meaning left source_faults written sink_faults words most was source sink made disks status h k disks_are history_is ran =
    subst (λ (x : List Entry). HasRun meaning left source_faults written sink_faults words most was (record { disks = disks; source = source; sink = sink }) status x) (sym history_is)
    (subst (λ (x : List D). HasRun meaning left source_faults written sink_faults words most was (record { disks = x; source = source; sink = sink }) status h) (sym disks_are) ran)
