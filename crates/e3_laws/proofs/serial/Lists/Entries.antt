-- One order over plain lists: what each record of all logs counts for the order, in the order of their places.
use Rattle.std.specs.Prelude.{◌≡◌, ◌⊎◌, ◌<◌, ◌==◌, ◌&&◌, ◌||◌, ◌∷◌, [], cond, ℕ, zero, suc, Bool, true, false, List, filter}
use Rattle.e3_types.specs.declared.transactions.Answer.{Answer}
use Rattle.e3_types.specs.declared.transactions.Answer.TheVariants.{Value}
use Rattle.e3_types.specs.declared.transactions.NumOp.{NumOp}
use Rattle.e3_types.specs.declared.transactions.Op.{Op}
use Rattle.e3_types.specs.declared.transactions.Op.TheVariants.{Read, Write}
use Rattle.e3_types.specs.declared.transactions.Txn.{Txn}
use Rattle.e3_types.specs.Same.{same_txn, same_numbers}
use Rattle.e3_world.specs.Logs.{key_of}

abbrev pub Name : Type 0
Name = List ℕ

-- the test of two transactions, the one of a record first
abbrev pub same : Txn → Txn → Bool
same u t = same_txn t u

-- the test of two names, that of an operation first
abbrev pub same_name : Name → Name → Bool
same_name m n = same_numbers n m

-- the values of one site's keys, by name
abbrev pub Rows : Type 0
Rows = Name → Answer

-- all sites' rows, by site and name
abbrev pub AllRows : Type 0
AllRows = ℕ → Rows

module _ {A : Type 0} where
  -- x is a member of the list
  abbrev pub In : A → List A → Type 0
  In x [] = ⊥
  In x (y ∷ ys) = (y ≡ x) ⊎ In x ys

  -- x stands at place i
  abbrev pub At : List A → ℕ → A → Type 0
  At [] i x = ⊥
  At (y ∷ ys) zero x = y ≡ x
  At (y ∷ ys) (suc i) x = At ys i x

  -- each member is before every later one
  abbrev pub Sorted : (A → A → Type 0) → List A → Type 0
  Sorted before [] = Unit {0}
  Sorted before (x ∷ xs) = ((y : A) → In y xs → before x y) × Sorted before xs

-- t is a member
abbrev pub has : Txn → List Txn → Bool
has t [] = false
has t (u ∷ us) = same u t || has t us

-- the name of an operation's key
abbrev pub name_of : Op → Name
name_of op = (key_of op).name

-- whether the operation takes its key for itself
abbrev pub changes : Op → Bool
changes (Read key) = false
changes (Write key val) = true

-- the key's value after the operation
abbrev pub effect : Op → Answer → Answer
effect (Read key) old = old
effect (Write key val) old = Value val

-- the value of the name n, at first v, after these operations
abbrev pub through : List NumOp → Name → Answer → Answer
through [] n v = v
through (d ∷ ds) n v = through ds n (cond (same_name (name_of d.op) n) (effect d.op v) v)

-- whether one of these operations changes the name n
abbrev pub writes : Name → List NumOp → Bool
writes n [] = false
writes n (d ∷ ds) = (same_name (name_of d.op) n && changes d.op) || writes n ds

-- two operations on one name, of which one changes it
pub record Clash (a b : Op) : Type 0 where
  pub same_name : name_of a ≡ name_of b
  pub one_changes : (changes a ≡ true) ⊎ (changes b ≡ true)

pub record Conflict (xs ys : List NumOp) : Type 0 where
  pub one : NumOp
  pub other : NumOp
  pub one_in : In one xs
  pub other_in : In other ys
  pub clash : Clash one.op other.op

-- a record of a site's log: a vote with its operations, a decision (true: commit), or one that does not count
pub data Entry : Type 0 where
  Vote : ℕ → Txn → List NumOp → Entry
  Decide : ℕ → Txn → Bool → Entry
  Other : Entry

-- the transactions that the log of s commits, in the order of its decisions
abbrev pub commits : ℕ → List Entry → List Txn
commits s [] = []
commits s (Vote y t ds ∷ rest) = commits s rest
commits s (Decide y t false ∷ rest) = commits s rest
commits s (Decide y t true ∷ rest) = cond (y == s) (t ∷ commits s rest) (commits s rest)
commits s (Other ∷ rest) = commits s rest

-- whether some log commits t
abbrev pub committed : Txn → List Entry → Bool
committed t [] = false
committed t (Vote y u ds ∷ rest) = committed t rest
committed t (Decide y u false ∷ rest) = committed t rest
committed t (Decide y u true ∷ rest) = same u t || committed t rest
committed t (Other ∷ rest) = committed t rest

abbrev pub has_vote : Txn → List Entry → Bool
has_vote t [] = false
has_vote t (Vote y u ds ∷ rest) = same u t || has_vote t rest
has_vote t (Decide y u c ∷ rest) = has_vote t rest
has_vote t (Other ∷ rest) = has_vote t rest

-- the transactions with a vote, each at its last one
abbrev pub voters : List Entry → List Txn
voters [] = []
voters (Vote y t ds ∷ rest) = cond (has_vote t rest) (voters rest) (t ∷ voters rest)
voters (Decide y t c ∷ rest) = voters rest
voters (Other ∷ rest) = voters rest

-- the committed transactions, in the order of their last votes
abbrev pub order : List Entry → List Txn
order all = filter (λ t. committed t all) (voters all)

-- the operations of t's vote at s
abbrev pub vote_ops : ℕ → Txn → List Entry → List NumOp
vote_ops s t [] = []
vote_ops s t (Vote y u ds ∷ rest) = cond (y == s && same u t) ds (vote_ops s t rest)
vote_ops s t (Decide y u c ∷ rest) = vote_ops s t rest
vote_ops s t (Other ∷ rest) = vote_ops s t rest

-- the value of the name n at s after these transactions, one after the other
abbrev pub after : ℕ → List Entry → Name → List Txn → Answer → Answer
after s all n [] v = v
after s all n (t ∷ ts) v = after s all n ts (through (vote_ops s t all) n v)

-- the table of s: its rows at birth with the writes of what its log commits, in the order of its decisions
abbrev pub table : ℕ → Rows → List Entry → Rows
table s birth all n = after s all n (commits s all) (birth n)

-- one transaction on all sites' rows: at each site the operations of its vote there
abbrev pub run : List Entry → Txn → AllRows → AllRows
run all t rows s n = through (vote_ops s t all) n (rows s n)

abbrev pub replay : List Entry → List Txn → AllRows → AllRows
replay all [] rows = rows
replay all (t ∷ ts) rows = replay all ts (run all t rows)

-- u has a vote behind all votes of t
pub record Behind (all : List Entry) (t u : Txn) : Type 0 where
  pub place : ℕ
  pub site : ℕ
  pub ops : List NumOp
  pub vote : At all place (Vote site u ops)
  pub behind : (i y : ℕ) (ds : List NumOp) → At all i (Vote y t ds) → i < place

-- what is known of the logs
pub record Logs (sites : Txn → List ℕ) (all : List Entry) : Type 0 where
  -- one vote and one decision of a transaction in a log, the vote first
  pub one_vote : (i j s : ℕ) (t : Txn) (a b : List NumOp) → At all i (Vote s t a) → At all j (Vote s t b) → i ≡ j
  pub one_decision : (i j s : ℕ) (t : Txn) (a b : Bool) → At all i (Decide s t a) → At all j (Decide s t b) → i ≡ j
  pub vote_first : (i j s : ℕ) (t : Txn) (a : List NumOp) (b : Bool) → At all i (Vote s t a) → At all j (Decide s t b) → i < j
  pub commit_voted : (i s : ℕ) (t : Txn) → At all i (Decide s t true) → (j : ℕ) × (a : List NumOp) × At all j (Vote s t a)
  pub vote_site : (i s : ℕ) (t : Txn) (a : List NumOp) → At all i (Vote s t a) → In s (sites t)
  -- no two decisions of a transaction differ
  pub agree : (i j s y : ℕ) (t : Txn) (a b : Bool) → At all i (Decide s t a) → At all j (Decide y t b) → a ≡ b
  -- a commit stands behind a vote of each site
  pub voted : (i s : ℕ) (t : Txn) (y : ℕ) → At all i (Decide s t true) → In y (sites t) → (j : ℕ) × (a : List NumOp) × (j < i) × At all j (Vote y t a)
  -- of two conflicting votes in a log the earlier is decided before the later
  pub decided : (i j s : ℕ) (t u : Txn) (a b : List NumOp) → At all i (Vote s t a) → At all j (Vote s u b) → i < j → Conflict a b → (k : ℕ) × (c : Bool) × (k < j) × At all k (Decide s t c)

-- the writers of the name n at s among these transactions
abbrev pub writers : ℕ → Name → List Entry → List Txn → List Txn
writers s n all ts = filter (λ t. writes n (vote_ops s t all)) ts

-- those of these transactions that the log of s commits
abbrev pub committed_at : ℕ → List Entry → List Txn → List Txn
committed_at s all ts = filter (λ t. has t (commits s all)) ts
