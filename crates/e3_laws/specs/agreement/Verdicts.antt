-- What the verdict over reports gives a site that leads an election: just what the rules ask for.
use Rattle.std.specs.Prelude.{◌≡◌, ◌<◌, ◌≤◌, ◌*◌, ℕ, List, map}
use Rattle.e3_types.specs.declared.transactions.Dir.{Dir}
use Rattle.e3_types.specs.declared.transactions.Dir.TheVariants.{Abort, Commit}
use Rattle.e3_types.specs.declared.transactions.State.{State}
use Rattle.e3_types.specs.declared.transactions.State.TheVariants.{Q, W, Pc, Pa, C, A}
use Rattle.e3_types.specs.declared.verdicts.SiteReport.{SiteReport}
use Rattle.e3_types.specs.declared.verdicts.Verdict.{Verdict}
use Rattle.e3_types.specs.declared.verdicts.Verdict.TheVariants as verdict
use Rattle.e3_types.specs.Quorums.{weight_of}
use Rattle.e3_laws.specs.agreement.Logs.{IsIn, Status, Idle, Waiting, Prepared, Final}
use Rattle.e3_laws.specs.agreement.Rules.{Reply, AsksFor}

-- how a site in this state stands
abbrev pub status_in : State → Status
status_in Q = Idle
status_in W = Waiting
status_in Pc = Prepared Commit
status_in Pa = Prepared Abort
status_in C = Final Commit
status_in A = Final Abort

-- the reply that a report is
abbrev pub reply_of : SiteReport → Reply
reply_of r = record { site = r.site; stood = status_in r.state; tried = r.attempt }

-- a reply with the greatest attempt asks for the direction
pub record TopAsks (replies : List Reply) (d : Dir) : Type 0 where
  pub top : Reply
  pub top_in : IsIn top replies
  pub greatest : (r : Reply) → IsIn r replies → r.tried ≤ top.tried
  pub asks : AsksFor top.stood d

-- a site replied that it has decided so
abbrev pub FinalIn : List Reply → Dir → Type 0
FinalIn replies d = (r : Reply) × IsIn r replies × (r.stood ≡ Final d)

-- those who report have more than half of the weight
abbrev pub HaveMost : List ℕ → List ℕ → List SiteReport → Type 0
HaveMost weights sites reports = weight_of weights sites < 2 * weight_of weights (map (λ r. r.site) reports)

-- what stands behind a verdict: who decides was told so by a site; who attempts has a quorum, whose greatest attempt
-- asks for it
abbrev pub Rules : List ℕ → List ℕ → List SiteReport → Verdict → Type 0
Rules weights sites reports verdict.Abort = FinalIn (map reply_of reports) Abort
Rules weights sites reports verdict.Commit = FinalIn (map reply_of reports) Commit
Rules weights sites reports verdict.PreCommit = HaveMost weights sites reports × TopAsks (map reply_of reports) Commit
Rules weights sites reports verdict.PreAbort = HaveMost weights sites reports × TopAsks (map reply_of reports) Abort
Rules weights sites reports (verdict.Block have total) = Unit {0}
