-- The text that words, bytes and history give, with the status that a run ends with when it is written.
use Rattle.std.specs.Prelude.{◌≡◌, ◌≤◌, ◌⊎◌, ℕ, List, [], String, Ok, Err, length}
use Rattle.std.specs.declared.alloc.Global.{Global}
use Rattle.e3_trace.specs.verdicts.Claims.{IsVerdict}
use Rattle.e3_disk.specs.Meaning.{Meaning}
use Rattle.e3_fleet.specs.Over.{AreBlank, AreOver}
use Rattle.e3_gen.specs.Generated.{generated, generated_scenario}
use Rattle.e3_laws.specs.rounds.Commits.{CommitRoundsEnd}
use Rattle.e3_laws.specs.rounds.Rounds.{RoundsAreBounded}
use Rattle.e3_report.specs.Report.{report_of}
use Rattle.e3_report.specs.Summary.{summary_of}
use Rattle.e3_play.specs.Delivered.{IsFull, IsOwed}
use Rattle.e3_scenario.specs.Faults.{fault_text}
use Rattle.e3_scenario.specs.Scenarios.{scenario_of}
use Rattle.e3_scenario.specs.declared.faults.ScenarioFault.{ScenarioFault}
use Rattle.e3_top.specs.Words.{IsRun, IsGen, IsDrill, IsCheck, refused_words, refused_history_full}
use Rattle.e3_top.specs.declared.preparing.Telling.{Telling}
use Rattle.e3_top.specs.declared.preparing.Telling.TheVariants.{Report, Summary}
use Rattle.e3_top.specs.Commands.{IsCommand, Spell}
use Rattle.e3_top.specs.declared.commands.Command.TheVariants.{Run, Drill}
use Rattle.e3_types.specs.declared.entries.Entry.{Entry}
use Rattle.e3_types.specs.declared.scenarios.Scenario.{Scenario}
use Rattle.e3_world.specs.Legal.{IsLegal, IsWhole}
use Rattle.e3_world.specs.Given.{IsGiven}
use Rattle.e3_world.specs.Safe.{IsSafe}

-- A history of this scenario, which keeps the rules: legal, so that every law on legal histories applies, and with so many
-- entries at most. It is safe: no two decisions of a transaction differ; where a commit stands every site of the transaction
-- has its vote before it; a decision that was told stands in its site's log, and in that of each legal history that goes on;
-- and there is one order of the committed transactions, by their last votes: run one after the other they give each site's
-- table, over those that its own log commits, and each committed read that was told. Each recovery round in which no member
-- fell ends in few entries. A commit that nothing disturbs, at sites that are fit to vote yes, commits at all of them in few
-- entries. And what the disks came to over it.
pub record IsRunOf {D : Type 0} (meaning : Meaning D) (disks_before disks_now : List D)
    (sc : Scenario) (most : ℕ) (history : List Entry) : Type 0 where
  pub given : IsGiven sc
  pub legal : IsLegal sc history
  pub few : length history ≤ most
  pub safe : IsSafe sc history
  pub rounds : RoundsAreBounded sc history
  pub commits : CommitRoundsEnd sc history
  pub over : AreOver meaning sc history disks_before disks_now

-- the disks that a command is carried out over: sixteen, one for each site that there may be, and each blank
pub record AreSixteenBlank {D : Type 0} (meaning : Meaning D) (disks : List D) : Type 0 where
  pub sixteen : length disks ≡ 16
  pub blank : AreBlank meaning disks

-- nothing happened: the history is empty, and the disks are as they were
abbrev pub NothingHappened : {D : Type 0} → List D → List D → List Entry → Type 0
NothingHappened disks_before disks_now history = (history ≡ []) × (disks_now ≡ disks_before)

-- A run is done: the bytes spell a scenario, the history is one of it and went through all of it, and the text is its report, with the
-- trace where the words ask for it.
pub record IsDone {D : Type 0} (meaning : Meaning D) (disks_before disks_now : List D)
    (words : List (String Global)) (bytes : List ℕ) (most : ℕ) (history : List Entry) (text : List ℕ) : Type 0 where
  pub run : IsRun words
  pub scenario : Scenario
  pub spelled : scenario_of bytes ≡ Ok scenario
  pub whole : IsWhole scenario history
  pub safe : IsRunOf meaning disks_before disks_now scenario most history
  pub reported : text ≡ report_of scenario history run.trace

-- A drill is done: the history is one of the generated scenario of its number and went through all of it, and the text is
-- its summary. Nothing is read.
pub record IsDrilled {D : Type 0} (meaning : Meaning D) (disks_before disks_now : List D)
    (words : List (String Global)) (bytes : List ℕ) (most : ℕ) (history : List Entry) (text : List ℕ) : Type 0 where
  pub drill : IsDrill words
  pub unread : bytes ≡ []
  pub whole : IsWhole (generated_scenario drill.n) history
  pub safe : IsRunOf meaning disks_before disks_now (generated_scenario drill.n) most history
  pub reported : text ≡ summary_of drill.n (generated_scenario drill.n) history

-- A generated scenario is told: the text is that of its number. Nothing is read, and nothing happens.
pub record IsTold {D : Type 0} (disks_before disks_now : List D)
    (words : List (String Global)) (bytes : List ℕ) (history : List Entry) (text : List ℕ) : Type 0 where
  pub gen : IsGen words
  pub unread : bytes ≡ []
  pub empty : history ≡ []
  pub untouched : disks_now ≡ disks_before
  pub says : text ≡ generated gen.n

-- A verdict is given: the status, the history and the text are those of the verdict on the bytes, and nothing is played.
pub record IsChecked {D : Type 0} (disks_before disks_now : List D)
    (words : List (String Global)) (bytes : List ℕ) (status : ℕ) (history : List Entry) (text : List ℕ) : Type 0 where
  pub check : IsCheck words
  pub untouched : disks_now ≡ disks_before
  pub verdict : IsVerdict bytes status history text

-- what the words ask for is done
abbrev pub Succeeds : {D : Type 0} → Meaning D → List D → List D → List (String Global) → List ℕ → ℕ → List Entry → List ℕ → Type 0
Succeeds meaning disks_before disks_now words bytes most history text =
    IsDone meaning disks_before disks_now words bytes most history text
    ⊎ IsDrilled meaning disks_before disks_now words bytes most history text
    ⊎ IsTold disks_before disks_now words bytes history text
    ⊎ IsChecked disks_before disks_now words bytes 0 history text

-- Refused words: nothing is read, and nothing happens.
pub record IsRefusedWords {D : Type 0} (disks_before disks_now : List D)
    (words : List (String Global)) (bytes : List ℕ) (history : List Entry) (text : List ℕ) : Type 0 where
  pub no_command : ¬ IsCommand words
  pub unread : bytes ≡ []
  pub empty : history ≡ []
  pub untouched : disks_now ≡ disks_before
  pub says : text ≡ refused_words

-- No scenario: the bytes have a fault, the text is its line, and nothing happens.
pub record IsNoScenario {D : Type 0} (disks_before disks_now : List D)
    (words : List (String Global)) (bytes : List ℕ) (history : List Entry) (text : List ℕ) : Type 0 where
  pub run : IsRun words
  pub fault : ScenarioFault
  pub spelled : scenario_of bytes ≡ Err fault
  pub empty : history ≡ []
  pub untouched : disks_now ≡ disks_before
  pub says : text ≡ fault_text fault

-- the drill of a number plays its generated scenario, and nothing is read
pub record IsDrillOf (words : List (String Global)) (bytes : List ℕ) (scenario : Scenario) : Type 0 where
  pub drill : IsDrill words
  pub unread : bytes ≡ []
  pub same : scenario ≡ generated_scenario drill.n

-- the scenario that is played: the one that the bytes spell, or that of a drill
abbrev pub Plays : List (String Global) → List ℕ → Scenario → Type 0
Plays words bytes scenario = (IsRun words × (scenario_of bytes ≡ Ok scenario)) ⊎ IsDrillOf words bytes scenario

-- what is told of a scenario that was played to its end
abbrev pub told_of : Telling → Scenario → List Entry → List ℕ
told_of (Report trace) scenario history = report_of scenario history trace
told_of (Summary n) scenario history = summary_of n scenario history

-- The words ask for this of the scenario: for a report where the bytes spell it, and for a summary where it is the generated one
-- of the number, and nothing is read.
abbrev pub IsAsked : List (String Global) → List ℕ → Telling → Scenario → Type 0
IsAsked words bytes (Report trace) scenario = Spell words (Run trace) × (scenario_of bytes ≡ Ok scenario)
IsAsked words bytes (Summary n) scenario = Spell words (Drill n) × (bytes ≡ []) × (scenario ≡ generated_scenario n)

-- A full history: it has as many entries as it may have, and a further one is due, so it went not through all of the scenario.
pub record IsFullHistory {D : Type 0} (meaning : Meaning D) (disks_before disks_now : List D)
    (words : List (String Global)) (bytes : List ℕ) (most : ℕ) (history : List Entry) (text : List ℕ) : Type 0 where
  pub scenario : Scenario
  pub plays : Plays words bytes scenario
  pub full : length history ≡ most
  pub owed : IsOwed scenario history
  pub unfinished : ¬ IsWhole scenario history
  pub safe : IsRunOf meaning disks_before disks_now scenario most history
  pub says : text ≡ refused_history_full

-- The text of a scenario that was played, and its status: what is told where the history went through all of it, and the
-- line of a full history where it did not.
abbrev pub IsTextOf : Scenario → ℕ → List Entry → List ℕ → ℕ → List ℕ → Type 0
IsTextOf sc most history told status text =
    ((status ≡ 0) × IsWhole sc history × (text ≡ told))
    ⊎ ((status ≡ 6) × IsFull sc history most × (text ≡ refused_history_full))

-- the status is one with a text: 0, 1, 2, 6, 8 or 9
abbrev pub HasText : ℕ → Type 0
HasText status = (status ≤ 2) ⊎ (status ≡ 6) ⊎ (status ≡ 8) ⊎ (status ≡ 9)

-- The text is due, with status 0, 1, 2, 6, 8 or 9, and each says what it is that of. For the words `check` it is that of the
-- verdict on the bytes, and so is the status; 8, of an illegal history, and 9, of no trace, come for these words alone.
pub record IsOutcome {D : Type 0} (meaning : Meaning D) (disks_before disks_now : List D)
    (words : List (String Global)) (bytes : List ℕ) (most status : ℕ) (history : List Entry) (text : List ℕ) : Type 0 where
  pub known : HasText status
  pub done : status ≡ 0 → Succeeds meaning disks_before disks_now words bytes most history text
  pub words_refused : status ≡ 1 → IsRefusedWords disks_before disks_now words bytes history text
  pub scenario_refused : status ≡ 2 → IsNoScenario disks_before disks_now words bytes history text ⊎ IsChecked disks_before disks_now words bytes status history text
  pub history_full : status ≡ 6 → IsFullHistory meaning disks_before disks_now words bytes most history text
  pub illegal : status ≡ 8 → IsChecked disks_before disks_now words bytes 8 history text
  pub no_trace : status ≡ 9 → IsChecked disks_before disks_now words bytes 9 history text
  pub checked : IsCheck words → IsChecked disks_before disks_now words bytes status history text
