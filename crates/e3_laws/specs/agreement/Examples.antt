-- Marks that decide: three sites of weight 1, the first of which coordinates.
use Rattle.std.specs.Prelude.{◌≡◌, ◌++◌, ◌∷◌, [], ℕ, List}
use Rattle.e3_types.specs.declared.transactions.Dir.TheVariants.{Abort, Commit}
use Rattle.e3_laws.specs.agreement.Logs.{Note, Vote, Join, Attempt, Decision, Waiting}
use Rattle.e3_laws.specs.agreement.Rules.{Party, Letter, letter, Yes, Elected, Report, Pre, Ack, Decide}
use Rattle.e3_laws.specs.agreement.Marks.{Mark, log_of, Allowed}
use Rattle.e3_laws.specs.agreement.Weights.{party_of}

-- the sites 1, 2 and 3
abbrev pub three : Party
three = party_of (1 ∷ 1 ∷ 1 ∷ []) (record { site = 1; inc = 1; seq = 1; sites = 1 ∷ 2 ∷ 3 ∷ [] })

-- a mark with one note
abbrev pub mark : ℕ → Note → List Letter → Mark
mark x r sends = record { site = x; notes = r ∷ []; sends = sends }

-- all vote, and the coordinator attempts to commit
abbrev pub attempts : List Mark
attempts =
    mark 1 Vote []
    ∷ mark 2 Vote (letter 2 1 Yes ∷ [])
    ∷ mark 3 Vote (letter 3 1 Yes ∷ [])
    ∷ mark 1 (Attempt 1 Commit) (letter 1 2 (Pre 1 Commit) ∷ letter 1 3 (Pre 1 Commit) ∷ [])
    ∷ []

-- with the second site it is a quorum, and commits; the third site commits when it is told
abbrev pub commits : List Mark
commits =
    attempts
    ++ mark 2 (Attempt 1 Commit) (letter 2 1 (Ack 1 Commit) ∷ [])
    ∷ mark 1 (Decision Commit) (letter 1 2 (Decide Commit) ∷ letter 1 3 (Decide Commit) ∷ [])
    ∷ mark 3 (Decision Commit) []
    ∷ []

-- the coordinator is lost instead: the third site is elected, neither it nor the second one has attempted, and both
-- attempt to abort; the coordinator aborts when it is told, in spite of its attempt
abbrev pub recovers : List Mark
recovers =
    attempts
    ++ mark 3 (Join 2 3) (letter 3 2 (Elected 2) ∷ [])
    ∷ mark 2 (Join 2 3) (letter 2 3 (Report 2 Waiting 0) ∷ [])
    ∷ mark 3 (Attempt 2 Abort) (letter 3 2 (Pre 2 Abort) ∷ [])
    ∷ mark 2 (Attempt 2 Abort) (letter 2 3 (Ack 2 Abort) ∷ [])
    ∷ mark 3 (Decision Abort) (letter 3 1 (Decide Abort) ∷ letter 3 2 (Decide Abort) ∷ [])
    ∷ mark 1 (Decision Abort) []
    ∷ []

-- the rules allow the commit
abbrev pub CommitIsAllowed : Type 0
CommitIsAllowed =
    Allowed three commits
    × (log_of 1 commits ≡ Decision Commit ∷ Attempt 1 Commit ∷ Vote ∷ [])
    × (log_of 3 commits ≡ Decision Commit ∷ Vote ∷ [])

-- and the recovery
abbrev pub RecoveryIsAllowed : Type 0
RecoveryIsAllowed =
    Allowed three recovers
    × (log_of 1 recovers ≡ Decision Abort ∷ Attempt 1 Commit ∷ Vote ∷ [])
    × (log_of 2 recovers ≡ Attempt 2 Abort ∷ Join 2 3 ∷ Vote ∷ [])
