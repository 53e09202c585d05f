-- What every situation keeps, and agreement follows from.
use Rattle.std.specs.Prelude.{◌≡◌, ◌<◌, ◌≤◌, ◌⊎◌, ℕ, true, List}
use Rattle.e3_types.specs.declared.transactions.Dir.{Dir}
use Rattle.e3_types.specs.declared.transactions.Dir.TheVariants.{Abort, Commit}
use Rattle.e3_laws.specs.agreement.Logs.{IsIn, Vote, Join, Attempt, Decision, attempt, below, Orderly, Backs}
use Rattle.e3_laws.specs.agreement.Rules.{Party, Overlaps, Situation, Letter, Word, Yes, No, Elected, Report, Pre, Ack, Decide, Other}

-- what a letter from x to y shows of the log of x
abbrev pub Shows : Situation → ℕ → ℕ → Word → Type 0
Shows s x y Yes = IsIn Vote (s.log x)
Shows s x y No = IsIn (Decision Abort) (s.log x)
Shows s x y (Elected n) = IsIn (Join n x) (s.log x)
Shows s x y (Report n st a) = IsIn (Join n y) (s.log x) × (a ≡ below (s.log x) n) × Backs st a (s.log x)
Shows s x y (Pre n d) = IsIn (Attempt n d) (s.log x)
Shows s x y (Ack n d) = IsIn (Attempt n d) (s.log x)
Shows s x y (Decide d) = IsIn (Decision d) (s.log x)
Shows s x y Other = Unit {0}

-- some log has the attempt
abbrev pub Somewhere : Situation → ℕ → Dir → Type 0
Somewhere s n d = (x : ℕ) × IsIn (Attempt n d) (s.log x)

-- Why n is attempted with this direction: a quorum joined it for one leader, which attempted it, and top is at least
-- each number below n that one of them attempted. It was attempted with this direction; or it is 0, and the direction is
-- to abort.
pub record Support (g : Party) (s : Situation) (n : ℕ) (d : Dir) : Type 0 where
  pub leader : ℕ
  pub group : List ℕ
  pub enough : g.quorum group ≡ true
  pub led : IsIn (Attempt n d) (s.log leader)
  pub joined : (y : ℕ) → IsIn y group → IsIn (Join n leader) (s.log y)
  pub top : ℕ
  pub top_below : top < n
  pub greatest : (y : ℕ) → IsIn y group → below (s.log y) n ≤ top
  pub follows : ((top ≡ 0) × (d ≡ Abort)) ⊎ Somewhere s top d

-- a quorum attempted n with this direction
pub record Majority (g : Party) (s : Situation) (n : ℕ) (d : Dir) : Type 0 where
  pub group : List ℕ
  pub enough : g.quorum group ≡ true
  pub all : (y : ℕ) → IsIn y group → IsIn (Attempt n d) (s.log y)

-- every member voted
abbrev pub AllVoted : Party → Situation → Type 0
AllVoted g s = (y : ℕ) → IsIn y g.members → IsIn Vote (s.log y)

-- what an attempt to commit rests on: every vote, and the coordinator's attempt
abbrev pub Voted : Party → Situation → Type 0
Voted g s = AllVoted g s × IsIn (Attempt 1 Commit) (s.log g.coordinator)

-- why there is a decision: a quorum attempted it; a site without a vote aborted; the coordinator aborted without an
-- attempt
pub data Reason (g : Party) (s : Situation) (d : Dir) : Type 0 where
  ByMajority : (n : ℕ) → Majority g s n d → Reason g s d
  ByRefusal : d ≡ Abort → (y : ℕ) → IsIn y g.members → IsIn (Decision Abort) (s.log y) → (IsIn Vote (s.log y) → ⊥) → Reason g s d
  ByCallingOff : d ≡ Abort → IsIn (Decision Abort) (s.log g.coordinator) → attempt (s.log g.coordinator) ≡ 0 → Reason g s d

-- all of it
pub record Invariant (g : Party) (s : Situation) : Type 0 where
  pub shared : Overlaps g
  pub orderly : (x : ℕ) → Orderly (s.log x)
  pub letters : (p : Letter) → IsIn p s.sent → Shows s p.source p.target p.word
  pub support : (x n : ℕ) (d : Dir) → 2 ≤ n → IsIn (Attempt n d) (s.log x) → Support g s n d
  pub voted : (x n : ℕ) → IsIn (Attempt n Commit) (s.log x) → Voted g s
  pub reason : (x : ℕ) (d : Dir) → IsIn (Decision d) (s.log x) → Reason g s d
