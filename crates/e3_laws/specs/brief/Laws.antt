-- The laws of briefs.
use Rattle.std.specs.Prelude.{◌≡◌, ◌++◌, [], ℕ, false, List}
use Rattle.e3_types.specs.declared.records.Record.{Record}
use Rattle.e3_types.specs.declared.transactions.Txn.{Txn}
use Rattle.e3_world.specs.Logs.{is_undecided, voted_ops}
use Rattle.e3_world.specs.Orderly.{IsOrderly}
use Rattle.e3_laws.specs.brief.Alike.{ReadAlike, StandAlike}
use Rattle.e3_world.specs.Brief.{brief}

-- the brief of a brief is that brief
abbrev pub BriefsAreBrief : Type 0
BriefsAreBrief = (site : ℕ) (l : List Record) → IsOrderly site l → brief (brief l) ≡ brief l

-- behind the brief of a log the same records may stand as behind the log, and the brief of both is the same
abbrev pub BriefsGoOn : Type 0
BriefsGoOn = (site : ℕ) (l more : List Record) → IsOrderly site (l ++ more) → brief (brief l ++ more) ≡ brief (l ++ more)

abbrev pub BriefsAreOrderly : Type 0
BriefsAreOrderly = (site : ℕ) (l more : List Record) → IsOrderly site (l ++ more) → IsOrderly site (brief l ++ more)

-- a log reads as its brief does, also with more records behind both
abbrev pub BriefsReadAlike : Type 0
BriefsReadAlike = (site : ℕ) (l more : List Record) → IsOrderly site (l ++ more) → ReadAlike (l ++ more) (brief l ++ more)

-- logs with the same brief read alike
abbrev pub SameBriefsReadAlike : Type 0
SameBriefsReadAlike = (site : ℕ) (a b : List Record) → IsOrderly site a → IsOrderly site b → brief a ≡ brief b → ReadAlike a b

-- logs that read alike have the same brief, orderly or not
abbrev pub AlikeHaveSameBrief : Type 0
AlikeHaveSameBrief = (a b : List Record) → ReadAlike a b → brief a ≡ brief b

-- logs that read alike stand alike
abbrev pub AlikeStandAlike : Type 0
AlikeStandAlike = (a b : List Record) → ReadAlike a b → StandAlike a b

-- what a brief leaves out: the operations of a decided transaction's vote
abbrev pub BriefsForget : Type 0
BriefsForget = (site : ℕ) (l : List Record) (t : Txn) → IsOrderly site l → is_undecided t l ≡ false → voted_ops t (brief l) ≡ []

-- only the empty log has an empty brief
abbrev pub BriefsAreNotEmpty : Type 0
BriefsAreNotEmpty = (site : ℕ) (l : List Record) → IsOrderly site l → brief l ≡ [] → l ≡ []
