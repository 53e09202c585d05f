-- What an elector decides from the reports of its group.
use Rattle.std.specs.Prelude.{◌*◌, ◌==◌, ◌||◌, if◌then◌else◌, ℕ, nat_le, max, Bool, not, List, fold, map}
use Rattle.std.specs.List.{list_any, list_all}
use Rattle.e3_types.specs.declared.verdicts.SiteReport.{SiteReport}
use Rattle.e3_types.specs.declared.transactions.State.{State}
use Rattle.e3_types.specs.declared.transactions.State.TheVariants.{Pc, C, A}
use Rattle.e3_types.specs.declared.verdicts.Verdict.{Verdict}
use Rattle.e3_types.specs.declared.verdicts.Verdict.TheVariants as verdict
use Rattle.e3_types.specs.Quorums.{weight_of}
use Rattle.e3_types.specs.Same.{same_state}

-- some site reports this state
abbrev pub reports_state : State → List SiteReport → Bool
reports_state st reports = list_any (λ r. same_state r.state st) reports

-- the greatest attempt that is reported
abbrev pub greatest_attempt : List SiteReport → ℕ
greatest_attempt reports = fold (λ n r. max n r.attempt) 0 reports

-- The first that applies: somebody aborted; somebody committed; the reporters, with weight `have` of `total`, are no
-- quorum; all whose attempt is the greatest are pre-committed; else pre-abort.
abbrev pub verdict_by : ℕ → ℕ → List SiteReport → Verdict
verdict_by have total reports =
    if reports_state A reports then verdict.Abort
    else if reports_state C reports then verdict.Commit
    else if nat_le (2 * have) total then verdict.Block have total
    else if list_all (λ r. not (r.attempt == greatest_attempt reports) || same_state r.state Pc) reports then verdict.PreCommit
    else verdict.PreAbort

-- the verdict over the reports of sites of a transaction with these sites
abbrev pub verdict_of : List ℕ → List ℕ → List SiteReport → Verdict
verdict_of weights sites reports =
    verdict_by (weight_of weights (map (λ r. r.site) reports)) (weight_of weights sites) reports
