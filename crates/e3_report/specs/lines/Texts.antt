-- The words of which the lines of a report are made.
use Rattle.std.specs.Prelude.{◌++◌, ◌∷◌, [], ℕ, List, Bool, true, false, codes}
use Rattle.std.specs.Fmt.{decimal}
use Rattle.std.specs.List.{flat_map}
use Rattle.e3_types.specs.declared.scenarios.Leave.{Leave}
use Rattle.e3_types.specs.declared.scenarios.Leave.TheVariants as leave
use Rattle.e3_types.specs.declared.transactions.Dir.{Dir}
use Rattle.e3_types.specs.declared.transactions.Dir.TheVariants.{Abort, Commit}
use Rattle.e3_types.specs.declared.transactions.Key.{Key}
use Rattle.e3_types.specs.declared.transactions.State.{State}
use Rattle.e3_types.specs.declared.transactions.State.TheVariants.{Q, W, Pc, Pa, C, A}
use Rattle.e3_types.specs.declared.transactions.Txn.{Txn}

-- the end of a line: a line feed
unfoldable pub line_end : List ℕ
line_end = codes "\n"

-- a number with a comma before it
unfoldable pub after_comma : ℕ → List ℕ
after_comma n = codes "," ++ decimal n

-- numbers with commas between them and no spaces: `1,2,3`
abbrev pub commas : List ℕ → List ℕ
commas [] = []
commas (n ∷ more) = decimal n ++ flat_map after_comma more

-- a set of sites: its numbers in ascending order, with commas
unfoldable pub sites_text : List ℕ → List ℕ
sites_text sites = commas sites

-- a part of the network with a bar before it
unfoldable pub after_bar : List ℕ → List ℕ
after_bar part = codes "|" ++ sites_text part

-- the parts of the network with bars between them: `1,2|3`
abbrev pub parts_text : List (List ℕ) → List ℕ
parts_text [] = []
parts_text (part ∷ more) = sites_text part ++ flat_map after_bar more

-- a transaction: its coordinator, the coordinator's incarnation, and the number of its begin there: `1.1.1`
unfoldable pub txn_text : Txn → List ℕ
txn_text t = decimal t.site ++ codes "." ++ decimal t.inc ++ codes "." ++ decimal t.seq

-- a key: its site, a point, and its name: `1.x`
unfoldable pub key_text : Key → List ℕ
key_text key = decimal key.site ++ codes "." ++ key.name

-- a direction
unfoldable pub dir_text : Dir → List ℕ
dir_text Abort = codes "abort"
dir_text Commit = codes "commit"

-- a state: not voted, voted, attempted to commit, attempted to abort, committed, aborted
unfoldable pub state_text : State → List ℕ
state_text Q = codes "q"
state_text W = codes "w"
state_text Pc = codes "pc"
state_text Pa = codes "pa"
state_text C = codes "c"
state_text A = codes "a"

-- what a stop leaves of what is being written: nothing, the first half, all, or one byte throughout
unfoldable pub leave_text : Leave → List ℕ
leave_text leave.None = codes "none"
leave_text leave.Half = codes "half"
leave_text leave.All = codes "all"
leave_text (leave.Junk byte) = codes "junk " ++ decimal byte

-- ` kept` where an open frame turned out to be in the log, else nothing
unfoldable pub kept_text : Bool → List ℕ
kept_text true = codes " kept"
kept_text false = []
