-- What holds of each situation that can come about, of each list of marks that may be made, and of verdicts.
use Rattle.std.specs.Prelude.{◌≡◌, ◌<◌, ◌++◌, ◌∷◌, ℕ, List, Some}
use Rattle.e3_types.specs.declared.transactions.Dir.{Dir}
use Rattle.e3_types.specs.declared.transactions.Dir.TheVariants.{Commit}
use Rattle.e3_types.specs.declared.transactions.Txn.{Txn}
use Rattle.e3_types.specs.declared.verdicts.SiteReport.{SiteReport}
use Rattle.e3_types.specs.Verdicts.{verdict_of}
use Rattle.e3_laws.specs.agreement.Logs.{IsIn, Vote, Attempt, Decision}
use Rattle.e3_laws.specs.agreement.Rules.{Party, Overlaps, Situation, Letter, Moves, Reachable}
use Rattle.e3_laws.specs.agreement.Invariant.{Invariant, Majority}
use Rattle.e3_laws.specs.agreement.Marks.{Mark, log_of, sent_of, Allowed, said}
use Rattle.e3_laws.specs.agreement.Verdicts.{Rules}
use Rattle.e3_laws.specs.agreement.Weights.{party_of}

-- the invariant holds wherever the moves lead
abbrev pub InvariantHolds : Type 0
InvariantHolds = (g : Party) (s : Situation) → Overlaps g → Reachable g s → Invariant g s

-- no two sites decide apart
abbrev pub DecisionsAgree : Type 0
DecisionsAgree = (g : Party) (s : Situation) → Overlaps g → Reachable g s →
    (x y : ℕ) (d e : Dir) → IsIn (Decision d) (s.log x) → IsIn (Decision e) (s.log y) → d ≡ e

-- every member voted before the first site commits: in the situation before the move that writes the commit
abbrev pub VotesComeFirst : Type 0
VotesComeFirst = (g : Party) (before after : Situation) → Overlaps g → Reachable g before → Moves g before after →
    (x y : ℕ) → IsIn (Decision Commit) (after.log x) → IsIn y g.members → IsIn Vote (before.log y)

-- the attempts of one number have one direction
abbrev pub OneDirection : Type 0
OneDirection = (g : Party) (s : Situation) → Overlaps g → Reachable g s →
    (x y n : ℕ) (d e : Dir) → IsIn (Attempt n d) (s.log x) → IsIn (Attempt n e) (s.log y) → d ≡ e

-- what a quorum attempted, each greater number attempts
abbrev pub QuorumBinds : Type 0
QuorumBinds = (g : Party) (s : Situation) → Overlaps g → Reachable g s →
    (n m x : ℕ) (d e : Dir) → Majority g s n d → n < m → IsIn (Attempt m e) (s.log x) → e ≡ d

-- any two groups of more than half of the weight of a transaction's sites share a site
abbrev pub MajoritiesMeet : Type 0
MajoritiesMeet = (weights : List ℕ) (t : Txn) → Overlaps (party_of weights t)

-- no two sites decide apart, after marks that may be made
abbrev pub MarksAgree : Type 0
MarksAgree = (g : Party) (marks : List Mark) → Overlaps g → Allowed g marks →
    (x y : ℕ) (d e : Dir) → IsIn (Decision d) (log_of x marks) → IsIn (Decision e) (log_of y marks) → d ≡ e

-- a commit has every vote, with the mark that writes it and before any other
abbrev pub MarksVote : Type 0
MarksVote = (g : Party) (before rest : List Mark) → Overlaps g → Allowed g (before ++ rest) →
    (x y : ℕ) → IsIn (Decision Commit) (log_of x before) → IsIn y g.members → IsIn Vote (log_of y before)

-- a decision that a letter says is in its sender's log with the mark that sends it, and ever after
abbrev pub MarksTell : Type 0
MarksTell = (g : Party) (before rest : List Mark) → Overlaps g → Allowed g (before ++ rest) →
    (p : Letter) (d : Dir) → IsIn p (sent_of before) → said p.word ≡ Some d →
    IsIn (Decision d) (log_of p.source before) × IsIn (Decision d) (log_of p.source (before ++ rest))

-- the verdict over a report or more is what the rules of attempts and decisions ask for
abbrev pub VerdictsKeepRules : Type 0
VerdictsKeepRules = (weights sites : List ℕ) (first : SiteReport) (others : List SiteReport) →
    Rules weights sites (first ∷ others) (verdict_of weights sites (first ∷ others))
