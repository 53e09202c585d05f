-- How a run ends: what it took from its source, what it wrote to its sink, and what its history and its disks are.
use Rattle.std.specs.Prelude.{◌≡◌, ◌≤◌, ◌<◌, ◌⊎◌, ℕ, List, [], take, length, Option, Result, Err, IfOk, IfErr, String}
use Rattle.std.specs.Io.KnownBytes.{Appends, Consumes, IsAtEnd}
use Rattle.std.specs.declared.alloc.Global.{Global}
use Rattle.e3_disk.specs.Meaning.{Meaning}
use Rattle.e3_outside.specs.Faults.{HasFailed}
use Rattle.e3_top.specs.Outcomes.{IsOutcome, IsRunOf, NothingHappened, Plays}
use Rattle.e3_top.specs.Words.{IsRun, IsCheck, MayEnd, most_bytes}
use Rattle.e3_top.specs.declared.preparing.Response.{Response}
use Rattle.e3_top.specs.declared.preparing.Stop.{Stop}
use Rattle.e3_top.specs.declared.preparing.Stop.TheVariants as stop
use Rattle.e3_types.specs.declared.entries.Entry.{Entry}
use Rattle.e3_types.specs.declared.scenarios.Scenario.{Scenario}
use Rattle.e3_top.specs.Commands.{IsCommand, Spell}
use Rattle.e3_top.specs.declared.commands.Command.{Command}

-- These bytes were taken from the source, which had `had` left and has `left` left now: no more than the command takes at
-- most, and none for other words.
pub record IsTaken (words : List (String Global)) (had left : Option (List ℕ)) (bytes : List ℕ) : Type 0 where
  pub taken : Consumes had left bytes
  pub few : (command : Command) → Spell words command → length bytes ≤ most_bytes command
  pub none : ¬ IsCommand words → bytes ≡ []

-- They were taken, and fewer than the most of the command only at the source's end.
pub record IsRead (words : List (String Global)) (had left : Option (List ℕ)) (bytes : List ℕ) : Type 0 where
  pub taken : IsTaken words had left bytes
  pub to_end : (command : Command) → Spell words command → length bytes < most_bytes command → IsAtEnd left

-- The run ended with status 0, 1, 2, 6, 8 or 9: all of the text that is due was written, and nothing else.
pub record Finishes {D : Type 0} (meaning : Meaning D) (disks_before disks_now : List D)
    (words : List (String Global)) (had left written_before written_now : Option (List ℕ)) (most status : ℕ) (history : List Entry) : Type 0 where
  pub bytes : List ℕ
  pub read : IsRead words had left bytes
  pub text : List ℕ
  pub due : IsOutcome meaning disks_before disks_now words bytes most status history text
  pub written : Appends written_before written_now text

-- The sink failed in this call: a front of the text of 0, 1, 2, 6, 8 or 9 was written.
pub record SinkFails {D : Type 0} (meaning : Meaning D) (disks_before disks_now : List D)
    (words : List (String Global)) (had left written_before written_now : Option (List ℕ)) (faults_before faults_now most : ℕ) (history : List Entry) : Type 0 where
  pub counted : HasFailed faults_before faults_now
  pub bytes : List ℕ
  pub read : IsRead words had left bytes
  pub text : List ℕ
  pub status : ℕ
  pub due : IsOutcome meaning disks_before disks_now words bytes most status history text
  pub count : ℕ
  pub short : count < length text
  pub written : Appends written_before written_now (take count text)

-- The source failed in this call. What was taken before is less than the most that the command takes.
pub record SourceFails {D : Type 0} (disks_before disks_now : List D)
    (words : List (String Global)) (had left : Option (List ℕ)) (faults_before faults_now : ℕ) (history : List Entry) : Type 0 where
  pub reads : IsRun words ⊎ IsCheck words
  pub counted : HasFailed faults_before faults_now
  pub bytes : List ℕ
  pub taken : Consumes had left bytes
  pub few : (command : Command) → Spell words command → length bytes < most_bytes command
  pub empty : history ≡ []
  pub untouched : disks_now ≡ disks_before

-- the history is one of the scenario that is played
pub record IsHistoryOf {D : Type 0} (meaning : Meaning D) (disks_before disks_now : List D)
    (words : List (String Global)) (bytes : List ℕ) (most : ℕ) (history : List Entry) : Type 0 where
  pub scenario : Scenario
  pub plays : Plays words bytes scenario
  pub safe : IsRunOf meaning disks_before disks_now scenario most history

-- Memory ran out. Nothing had happened yet, or the words ask for a run or a drill, all was read, and as far as it goes the
-- history is one of the scenario that is played.
pub record IsCutShort {D : Type 0} (meaning : Meaning D) (disks_before disks_now : List D)
    (words : List (String Global)) (had left : Option (List ℕ)) (most : ℕ) (history : List Entry) : Type 0 where
  pub bytes : List ℕ
  pub taken : IsTaken words had left bytes
  pub happened : NothingHappened disks_before disks_now history
      ⊎ (IsRead words had left bytes × IsHistoryOf meaning disks_before disks_now words bytes most history)

-- The response to the bytes that were read: a text, with a status that the words may end with; or memory ran out, where nothing
-- had happened yet, or the history is one of the scenario that is played.
pub record IsResponse {D : Type 0} (meaning : Meaning D) (disks_before disks_now : List D)
    (words : List (String Global)) (bytes : List ℕ) (most : ℕ) (due : Result Response Stop) (history : List Entry) : Type 0 where
  pub outcome : IfOk due (λ d. IsOutcome meaning disks_before disks_now words bytes most d.status history d.text)
  pub status : IfOk due (λ d. MayEnd words d.status)
  pub only_memory : IfErr due (λ e. e ≡ stop.NoMemory)
  pub cut_short : due ≡ Err stop.NoMemory →
      NothingHappened disks_before disks_now history ⊎ IsHistoryOf meaning disks_before disks_now words bytes most history

-- All is read and made, and this text is due with this status.
pub record IsPrepared {D : Type 0} (meaning : Meaning D) (disks_before disks_now : List D)
    (words : List (String Global)) (had left : Option (List ℕ)) (most status : ℕ) (history : List Entry) (text : List ℕ) : Type 0 where
  pub bytes : List ℕ
  pub read : IsRead words had left bytes
  pub due : IsOutcome meaning disks_before disks_now words bytes most status history text

-- All that the words ask for is done but the writing of a text: one is due, or it is said why there is none. Of a source `left` is
-- what it has yet to give, and it counts its faults.
pub record IsReady {D S : Type 0} (meaning : Meaning D) (left : S → Option (List ℕ)) (faults : S → ℕ) (disks_before disks_now : List D)
    (words : List (String Global)) (was now : S) (most : ℕ) (due : Result Response Stop) (history : List Entry) : Type 0 where
  pub prepared : IfOk due (λ d. IsPrepared meaning disks_before disks_now words (left was) (left now) most d.status history d.text)
  pub status : IfOk due (λ d. MayEnd words d.status)
  pub source_failed : due ≡ Err stop.SourceFailed → SourceFails disks_before disks_now words (left was) (left now) (faults was) (faults now) history
  pub no_memory : due ≡ Err stop.NoMemory → IsCutShort meaning disks_before disks_now words (left was) (left now) most history
  pub never_falls : faults was ≤ faults now
