-- What a recovery step leaves, and what is reported of its rounds.
use Rattle.std.specs.Prelude.{◌≡◌, ◌==◌, ◌&&◌, ◌++◌, ◌∷◌, [], ℕ, Bool, true, false, List, if◌then◌else◌, drop, length, fold, Option, Some, None}
use Rattle.std.specs.List.{list_any}
use Rattle.e3_laws.specs.rounds.Queues.{falls}
use Rattle.e3_laws.specs.rounds.Rounds.{RoundEnds, ToldVerdict, verdicts_told}
use Rattle.e3_play.specs.declared.reporting.RoundReport.{RoundReport}
use Rattle.e3_play.specs.Rounds.{AfterRound}
use Rattle.e3_types.specs.declared.entries.Entry.{Entry}
use Rattle.e3_types.specs.declared.scenarios.Scenario.{Scenario}
use Rattle.e3_types.specs.declared.verdicts.Verdict.{Verdict}
use Rattle.e3_types.specs.Sets.{has_site}
use Rattle.e3_world.specs.Items.{RecoveryRound, due_round, since_line, to_line}
use Rattle.e3_world.specs.Packets.{pending}
use Rattle.e3_world.specs.Progress.{Delivering}

-- A recovery step went through all its rounds, each in its turn, and nothing is pending. That the rounds are those of the
-- step, in ascending order of their transactions, each by its elector, is what makes the history legal.
pub record IsRecovered (sc : Scenario) (start history : List Entry) : Type 0 where
  pub same_line : to_line history ≡ start
  pub delivering : Delivering sc history
  pub made : due_round sc history ≡ None
  pub settled : pending sc history ≡ []

-- the entry is a fall of one of these sites
abbrev pub is_fall_of : List ℕ → Entry → Bool
is_fall_of sites e = falls e.act && has_site sites e.owner

-- one of these sites falls in these entries
abbrev pub one_falls : List ℕ → List Entry → Bool
one_falls sites entries = list_any (is_fall_of sites) entries

-- a verdict that is told stands for those before it
abbrev pub later : Option Verdict → Verdict → Option Verdict
later was verdict = Some verdict

-- the verdict, where this site told it; else the one before
abbrev pub later_of : ℕ → Option Verdict → ToldVerdict → Option Verdict
later_of site was told = if told.site == site then Some told.verdict else was

-- the verdict on a round's transaction that its elector tells in these entries, if it tells one: the last
abbrev pub verdict_of : RecoveryRound → List Entry → Option Verdict
verdict_of r entries = fold (later_of r.elector) None (verdicts_told r.txn entries)

-- what is reported of a round that entered what is behind `before`
pub record IsReport (before after : List Entry) (r : RecoveryRound) (report : RoundReport) : Type 0 where
  pub txn : report.txn ≡ r.txn
  pub told : report.verdict ≡ verdict_of r (drop (length before) after)

-- A round had its turn in a recovery step, and this is reported of it. It was made, or its elector was down; the entries from
-- `before` to `after` are what it entered. The verdict is the one that its elector told in them. There is none only where a member fell
-- in the step, before the round's end. Where none fell, the round ends in few entries as bounded recovery says: its elector
-- alone told a verdict, and it is Block exactly where the group is no quorum and nobody in it had decided; else all have.
pub record IsTurn (sc : Scenario) (before after : List Entry) (r : RecoveryRound) (report : RoundReport) : Type 0 where
  pub turn : AfterRound sc before r after
  pub entered : List Entry
  pub is : after ≡ before ++ entered
  pub txn : report.txn ≡ r.txn
  pub told : report.verdict ≡ verdict_of r entered
  pub silent : report.verdict ≡ None → one_falls r.members (since_line after) ≡ true
  pub ends : one_falls r.members (since_line after) ≡ false → RoundEnds sc before entered r

-- each of these rounds had its turn, one after the other, and these are their reports
abbrev pub HadTurns : Scenario → List Entry → List Entry → List RecoveryRound → List RoundReport → Type 0
HadTurns sc before after [] [] = after ≡ before
HadTurns sc before after (r ∷ rounds) (report ∷ reports) =
    (next : List Entry) × IsTurn sc before next r report × HadTurns sc next after rounds reports
HadTurns sc before after _ _ = ⊥
