-- What one site's log says of one transaction, and what is read off it. The newest note stands first.
use Rattle.std.specs.Prelude.{◌≡◌, ◌<◌, ◌≤◌, ◌==◌, ◌⊎◌, ◌∷◌, [], if◌then◌else◌, ℕ, nat_lt, max, List}
use Rattle.e3_types.specs.declared.transactions.Dir.{Dir}
use Rattle.e3_types.specs.declared.transactions.Dir.TheVariants.{Commit}

-- the list has x
abbrev pub IsIn : {X : Type 0} → X → List X → Type 0
IsIn x [] = ⊥
IsIn x (y ∷ ys) = (x ≡ y) ⊎ IsIn x ys

-- A note: a record of the transaction. A join has its number and its leader, which is the site that was elected; an
-- attempt has its number and its direction.
pub data Note : Type 0 where
  Vote : Note
  Join : ℕ → ℕ → Note
  Attempt : ℕ → Dir → Note
  Decision : Dir → Note

-- How a site stands: it has not voted, it voted, it attempted a direction last, or it decided.
pub data Status : Type 0 where
  Idle : Status
  Waiting : Status
  Prepared : Dir → Status
  Final : Dir → Status

-- the greatest number joined, else 1
abbrev pub elected : List Note → ℕ
elected [] = 1
elected (Join n e ∷ l) = max n (elected l)
elected (r ∷ l) = elected l

-- the greatest number attempted, else 0
abbrev pub attempt : List Note → ℕ
attempt [] = 0
attempt (Attempt n d ∷ l) = max n (attempt l)
attempt (r ∷ l) = attempt l

-- the greatest number below n that was attempted, else 0
abbrev pub below : List Note → ℕ → ℕ
below [] n = 0
below (Attempt m d ∷ l) n = if nat_lt m n then max m (below l n) else below l n
below (r ∷ l) n = below l n

-- the status is that of the last note that is no join
abbrev pub status : List Note → Status
status [] = Idle
status (Vote ∷ l) = Waiting
status (Join n e ∷ l) = status l
status (Attempt n d ∷ l) = Prepared d
status (Decision d ∷ l) = Final d

-- the notes before the last join of number n
abbrev pub before_join : ℕ → List Note → List Note
before_join n [] = []
before_join n (Join m e ∷ l) = if m == n then l else before_join n l
before_join n (r ∷ l) = before_join n l

-- no decision stands
abbrev pub Undecided : List Note → Type 0
Undecided l = (d : Dir) → status l ≡ Final d → ⊥

-- when an attempt may stand behind these notes
pub record FitsAttempt (n : ℕ) (d : Dir) (l : List Note) : Type 0 where
  pub open_yet : Undecided l
  pub current : n ≡ elected l
  pub fresh : attempt l < n
  pub first_commits : n ≡ 1 → d ≡ Commit
  pub first_voted : n ≡ 1 → IsIn Vote l

-- when a decision may stand behind these notes
pub record FitsDecision (d : Dir) (l : List Note) : Type 0 where
  pub open_yet : Undecided l
  pub voted : d ≡ Commit → IsIn Vote l

-- the note may stand behind these: a vote stands first, and the numbers of the joins rise
abbrev pub Fits : Note → List Note → Type 0
Fits Vote l = l ≡ []
Fits (Join n e) l = elected l < n
Fits (Attempt n d) l = FitsAttempt n d l
Fits (Decision d) l = FitsDecision d l

-- each note fitted when it was written
abbrev pub Orderly : List Note → Type 0
Orderly [] = Unit {0}
Orderly (r ∷ l) = Fits r l × Orderly l

-- what a report of this status and this attempt says of the notes it was made from
abbrev pub Backs : Status → ℕ → List Note → Type 0
Backs Idle a l = a ≡ 0
Backs Waiting a l = (a ≡ 0) × IsIn Vote l
Backs (Prepared d) a l = (1 ≤ a) × IsIn (Attempt a d) l
Backs (Final d) a l = IsIn (Decision d) l
