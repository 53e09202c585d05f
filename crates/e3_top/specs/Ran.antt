-- What came of a run: what each status says, those with a text in one field, and what holds whatever the status is.
use Rattle.std.specs.Prelude.{◌≡◌, ◌≤◌, ◌⊎◌, ℕ, List, Option, String}
use Rattle.std.specs.Io.KnownBytes.{IsAtEnd}
use Rattle.std.specs.declared.alloc.Global.{Global}
use Rattle.e3_disk.specs.Meaning.{Meaning}
use Rattle.e3_outside.specs.Faults.{HasFailed}
use Rattle.e3_top.specs.Outcomes.{HasText, NothingHappened}
use Rattle.e3_top.specs.Ends.{Finishes, IsCutShort, SinkFails, SourceFails}
use Rattle.e3_top.specs.Words.{IsCheck, IsDrill, IsGen, IsRun, MayEnd}
use Rattle.e3_types.specs.declared.entries.Entry.{Entry}

-- what a run stands among: its disks, that of site 1 first, its source and its sink
pub record Around (D S K : Type 0) : Type 0 where
  pub disks : List D
  pub source : S
  pub sink : K

-- The run of these words ended so. Of a source `left` is what it has yet to give, of a sink `written` what it was given; both
-- count their faults. The history has `most` entries at most.
pub record HasRun {D S K : Type 0} (meaning : Meaning D) (left : S → Option (List ℕ)) (source_faults : S → ℕ)
    (written : K → Option (List ℕ)) (sink_faults : K → ℕ) (words : List (String Global)) (most : ℕ) (was now : Around D S K) (status : ℕ) (history : List Entry) : Type 0 where
  -- 0, 1, 2, 6, 8 and 9: the text that words, bytes and history give was written, all of it and nothing else. Where anything
  -- happened, each disk of a site stands for the site's log, and its numbers tell how often it failed, was armed and was cut.
  pub finished : HasText status →
      Finishes meaning was.disks now.disks words (left was.source) (left now.source) (written was.sink) (written now.sink) most status history
  -- 3 only where the source's count of faults rose; nothing is written, and no disk is touched
  pub source_failed : status ≡ 3 →
      SourceFails was.disks now.disks words (left was.source) (left now.source) (source_faults was.source) (source_faults now.source) history × (now.sink ≡ was.sink)
  -- 4 only where the sink's count of faults rose; a front of the text of 0, 1, 2, 6, 8 or 9 was written
  pub sink_failed : status ≡ 4 →
      SinkFails meaning was.disks now.disks words (left was.source) (left now.source) (written was.sink) (written now.sink) (sink_faults was.sink) (sink_faults now.sink) most history
  -- 5 is free; the history is legal and safe as far as it goes, and nothing is written
  pub no_memory : status ≡ 5 →
      IsCutShort meaning was.disks now.disks words (left was.source) (left now.source) most history × (now.sink ≡ was.sink)
  -- A run, and no fault of source or sink: it is done, or memory ran out, unless the bytes spell no scenario, or the history
  -- is full.
  pub complete_run : IsRun words → ¬ HasFailed (source_faults was.source) (source_faults now.source) → ¬ HasFailed (sink_faults was.sink) (sink_faults now.sink) →
      (status ≡ 0) ⊎ (status ≡ 5) ⊎ (status ≡ 2) ⊎ (status ≡ 6)
  -- a drill, and no fault of the sink: it is done, or memory ran out, unless the history is full
  pub complete_drill : IsDrill words → ¬ HasFailed (sink_faults was.sink) (sink_faults now.sink) → (status ≡ 0) ⊎ (status ≡ 5) ⊎ (status ≡ 6)
  -- a generated scenario, and no fault of the sink: it is told, or memory ran out
  pub complete_gen : IsGen words → ¬ HasFailed (sink_faults was.sink) (sink_faults now.sink) → (status ≡ 0) ⊎ (status ≡ 5)
  -- a verdict, and no fault of source or sink: it is given, or memory ran out
  pub complete_check : IsCheck words → ¬ HasFailed (source_faults was.source) (source_faults now.source) → ¬ HasFailed (sink_faults was.sink) (sink_faults now.sink) →
      (status ≡ 0) ⊎ (status ≡ 5) ⊎ (status ≡ 2) ⊎ (status ≡ 8) ⊎ (status ≡ 9)
  -- there is no other status, and each comes only for words that may have it
  pub statuses : MayEnd words status
  -- with a generated scenario nothing happens, whatever the status is
  pub told : IsGen words → NothingHappened was.disks now.disks history
  -- a verdict touches no disk, whatever the status is
  pub untouched : IsCheck words → now.disks ≡ was.disks
  -- Only a run and a verdict touch the source: nothing of it is left for a run with 0 and 6, and for a verdict with 0, 2 and 8.
  -- Neither a generated scenario nor a drill reads it.
  pub unread : ¬ IsRun words → ¬ IsCheck words → now.source ≡ was.source
  pub not_read : IsGen words ⊎ IsDrill words → now.source ≡ was.source
  pub drained : IsRun words → (status ≡ 0) ⊎ (status ≡ 6) → IsAtEnd (left now.source)
  pub drained_check : IsCheck words → (status ≡ 0) ⊎ (status ≡ 2) ⊎ (status ≡ 8) → IsAtEnd (left now.source)
  -- the counts of faults never fall
  pub source_counts : source_faults was.source ≤ source_faults now.source
  pub sink_counts : sink_faults was.sink ≤ sink_faults now.sink
