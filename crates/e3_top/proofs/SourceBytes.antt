-- What of the source was taken, and what is prepared or cut short behind it.
use Rattle.std.proofs.Common.{◌≡◌, ◌≤◌, ◌<◌, ◌⊎◌, inl, inr, ℕ, List, [], length, Option, Some, None, Ok, Err, refl, sym, subst, arith, String, Global}
use Rattle.std.specs.Io.KnownBytes.{Consumes, IsAtEnd}
use Rattle.std.specs.Prelude.{IfErr, IfOk, Result}
use Rattle.e3_disk.specs.Meaning.{Meaning}
use Rattle.e3_outside.specs.Faults.{HasFailed}
use Rattle.e3_top.proofs.Spelled.{same_most}
use Rattle.e3_top.specs.Outcomes.{IsOutcome, NothingHappened}
use Rattle.e3_top.specs.Ends.{IsCutShort, IsResponse, IsHistoryOf, IsPrepared, IsRead, IsReady, IsTaken, SourceFails}
use Rattle.e3_top.specs.Words.{IsRun, IsCheck, most_bytes}
use Rattle.e3_top.specs.declared.preparing.Response.{Response}
use Rattle.e3_top.specs.declared.preparing.Stop.{Stop}
use Rattle.e3_top.specs.declared.preparing.Stop.TheVariants as stop
use Rattle.e3_types.specs.declared.entries.Entry.{Entry}
use Rattle.e3_top.specs.Commands.{IsCommand, Spell}
use Rattle.e3_top.specs.declared.commands.Command.{Command}

-- what was taken for a command is what the words may take
pub taken_for : (words : List (String Global)) (had left : Option (List ℕ)) (bytes : List ℕ) (c : Command) → Spell words c → Consumes had left bytes → length bytes ≤ most_bytes c →
    IsTaken words had left bytes
taken_for words had left bytes c spelled taken few = record {
  taken = taken;
  few = λ d other. subst (λ (n : ℕ). length bytes ≤ n) (same_most words c d spelled other) few;
  none = λ other. absurd (other (record { command = c; spelled = spelled }));
}

pub read_for : (words : List (String Global)) (had left : Option (List ℕ)) (bytes : List ℕ) (c : Command) → Spell words c → Consumes had left bytes → length bytes ≤ most_bytes c →
    (length bytes < most_bytes c → IsAtEnd left) → IsRead words had left bytes
read_for words had left bytes c spelled taken few to_end = record {
  taken = taken_for words had left bytes c spelled taken few;
  to_end = λ d other less. to_end (subst (λ (n : ℕ). length bytes < n) (same_most words d c other spelled) less);
}

-- no byte is taken
none_taken : (had : Option (List ℕ)) → Consumes had had []
none_taken None = tt
none_taken (Some bytes) = refl

-- no byte is within what any words take
none_within : (words : List (String Global)) (had : Option (List ℕ)) → IsTaken words had had []
none_within words had = record { taken = none_taken had; few = λ c spelled. omega arith; none = λ other. refl }

-- a command that takes no byte has read what it reads
pub idle_read : (words : List (String Global)) (had : Option (List ℕ)) (c : Command) → Spell words c → most_bytes c ≡ 0 → IsRead words had had []
idle_read words had c spelled idle = record {
  taken = none_within words had;
  to_end = λ d other less. absurd (let e = same_most words d c other spelled in omega (arith, e, idle, less));
}

-- so have words that spell no command
pub other_read : (words : List (String Global)) (had : Option (List ℕ)) → ¬ IsCommand words → IsRead words had had []
other_read words had other = record {
  taken = none_within words had;
  to_end = λ c spelled less. absurd (other (record { command = c; spelled = spelled }));
}

-- what is due for bytes that were read is prepared
prepared_of : {D : Type 0} (meaning : Meaning D) (before now : List D) (words : List (String Global)) (had left : Option (List ℕ)) (bytes : List ℕ) (most : ℕ) (h : List Entry) (r : Result Response Stop) →
    IsRead words had left bytes → IfOk r (λ due. IsOutcome meaning before now words bytes most due.status h due.text) →
    IfOk r (λ due. IsPrepared meaning before now words had left most due.status h due.text)
prepared_of meaning before now words had left bytes most h (Err stop) read due = tt
prepared_of meaning before now words had left bytes most h (Ok made) read due = record { bytes = bytes; read = read; due = due }

-- where memory ran out behind the bytes that were read
cut_behind : {D : Type 0} (meaning : Meaning D) (before now : List D) (words : List (String Global)) (had left : Option (List ℕ)) (bytes : List ℕ) (most : ℕ) (h : List Entry) →
    IsRead words had left bytes → NothingHappened before now h ⊎ IsHistoryOf meaning before now words bytes most h → IsCutShort meaning before now words had left most h
cut_behind meaning before now words had left bytes most h read (inl nothing) = record { bytes = bytes; taken = read.taken; happened = inl nothing }
cut_behind meaning before now words had left bytes most h read (inr history) = record { bytes = bytes; taken = read.taken; happened = inr (read, history) }

-- where it ran out before anything happened
pub cut_before : {D : Type 0} (meaning : Meaning D) (before now : List D) (words : List (String Global)) (had left : Option (List ℕ)) (most : ℕ) (h : List Entry) (c : Command) → Spell words c →
    ((bytes : List ℕ) × (length bytes ≤ most_bytes c) × Consumes had left bytes) → NothingHappened before now h → IsCutShort meaning before now words had left most h
cut_before meaning before now words had left most h c spelled some nothing = record {
  bytes = some.0;
  taken = taken_for words had left some.0 c spelled some.2 some.1;
  happened = inl nothing;
}

-- where the source failed
pub fails_reading : {D : Type 0} (before now : List D) (words : List (String Global)) (had left : Option (List ℕ)) (faults_before faults_now : ℕ) (h : List Entry) (c : Command) → Spell words c → IsRun words ⊎ IsCheck words →
    ((bytes : List ℕ) × (length bytes < most_bytes c) × Consumes had left bytes) → HasFailed faults_before faults_now → NothingHappened before now h →
    SourceFails before now words had left faults_before faults_now h
fails_reading before now words had left faults_before faults_now h c spelled reads some rose nothing = record {
  reads = reads;
  counted = rose;
  bytes = some.0;
  taken = some.2;
  few = λ d other. subst (λ (n : ℕ). length some.0 < n) (same_most words c d spelled other) some.1;
  empty = nothing.0;
  untouched = nothing.1;
}

-- nothing is due but that memory ran out before anything happened
pub wants_memory : {D : Type 0} (meaning : Meaning D) (before now : List D) (words : List (String Global)) (bytes : List ℕ) (most : ℕ) (h : List Entry) (r : Result Response Stop) →
    r ≡ Err stop.NoMemory → NothingHappened before now h → IsResponse meaning before now words bytes most r h
wants_memory meaning before now words bytes most h r e nothing =
    subst (λ (q : Result Response Stop). IsResponse meaning before now words bytes most q h) (sym e) (record { outcome = tt; status = tt; only_memory = refl; cut_short = λ f. inl nothing })

-- where nothing but memory was lacking the source did not fail
not_lost : (r : Result Response Stop) → IfErr r (λ s. s ≡ stop.NoMemory) → r ≡ Err stop.SourceFailed → ⊥
not_lost r only e = let same : stop.SourceFailed ≡ stop.NoMemory = subst (λ (q : Result Response Stop). IfErr q (λ s. s ≡ stop.NoMemory)) e only in cc

-- what is due for bytes that were read is ready
pub ready_of : {D S : Type 0} (meaning : Meaning D) (left : S → Option (List ℕ)) (faults : S → ℕ) (before after : List D) (words : List (String Global)) (was now : S) (bytes : List ℕ) (most : ℕ) (h : List Entry) (r : Result Response Stop) →
    IsRead words (left was) (left now) bytes → IsResponse meaning before after words bytes most r h → faults was ≤ faults now →
    IsReady meaning left faults before after words was now most r h
ready_of meaning left faults before after words was now bytes most h r read due counts = record {
  prepared = prepared_of meaning before after words (left was) (left now) bytes most h r read due.outcome;
  status = due.status;
  source_failed = λ e. absurd (not_lost r due.only_memory e);
  no_memory = λ e. cut_behind meaning before after words (left was) (left now) bytes most h read (due.cut_short e);
  never_falls = counts;
}

-- where the source failed, and where memory ran out before anything happened
pub lost_ready : {D S : Type 0} (meaning : Meaning D) (left : S → Option (List ℕ)) (faults : S → ℕ) (before after : List D) (words : List (String Global)) (was now : S) (most : ℕ) (h : List Entry) (r : Result Response Stop) →
    r ≡ Err stop.SourceFailed → SourceFails before after words (left was) (left now) (faults was) (faults now) h → faults was ≤ faults now →
    IsReady meaning left faults before after words was now most r h
lost_ready meaning left faults before after words was now most h r e fails counts =
    subst (λ (q : Result Response Stop). IsReady meaning left faults before after words was now most q h) (sym e) (record {
      prepared = tt;
      status = tt;
      source_failed = λ f. fails;
      no_memory = λ f. absurd (let other = f in cc);
      never_falls = counts;
    })

pub wanting_ready : {D S : Type 0} (meaning : Meaning D) (left : S → Option (List ℕ)) (faults : S → ℕ) (before after : List D) (words : List (String Global)) (was now : S) (most : ℕ) (h : List Entry) (r : Result Response Stop) →
    r ≡ Err stop.NoMemory → IsCutShort meaning before after words (left was) (left now) most h → faults was ≤ faults now →
    IsReady meaning left faults before after words was now most r h
wanting_ready meaning left faults before after words was now most h r e cut counts =
    subst (λ (q : Result Response Stop). IsReady meaning left faults before after words was now most q h) (sym e) (record {
      prepared = tt;
      status = tt;
      source_failed = λ f. absurd (let other = f in cc);
      no_memory = λ f. cut;
      never_falls = counts;
    })
