-- What steps tell: how it is read behind what earlier lines tell.
use Rattle.std.specs.Prelude.{ℕ, List, codes, bytes_eq, Some, None, option_and_then, if◌then◌else◌}
use Rattle.e3_types.specs.declared.entries.Refusal.{Refusal}
use Rattle.e3_types.specs.declared.entries.Refusal.TheVariants as refusal
use Rattle.e3_types.specs.declared.entries.Told.{Told}
use Rattle.e3_types.specs.declared.entries.Told.TheVariants as told
use Rattle.e3_types.specs.declared.transactions.Dir.TheVariants.{Abort, Commit}
use Rattle.e3_types.specs.declared.transactions.Txn.{Txn}
use Rattle.e3_types.specs.declared.verdicts.Verdict.{Verdict}
use Rattle.e3_types.specs.declared.verdicts.Verdict.TheVariants as verdict
use Rattle.e3_trace.specs.Cuts.{cut, Form, made_of, pair_of, behind, begins}
use Rattle.e3_report.specs.lines.Marks.{space}
use Rattle.e3_trace.specs.Fields.{Known, TxnName, u32_of, u64_of, sites_of, dir_of, state_of, answer_of, txn_name_of, txn_from, named, txn_of}

-- two numbers with `of` between them
unfoldable pub of_of : Form (ℕ × ℕ)
of_of text = pair_of space u64_of (behind (codes "of") u64_of) text

-- the blocked group of so much weight of so much
abbrev pub block_from : ℕ × ℕ → Verdict
block_from p = verdict.Block p.0 p.1

-- what an elector concludes
unfoldable pub verdict_of : Form Verdict
verdict_of text =
    if bytes_eq text (codes "abort") then Some verdict.Abort
    else if bytes_eq text (codes "commit") then Some verdict.Commit
    else if bytes_eq text (codes "pre-commit") then Some verdict.PreCommit
    else if bytes_eq text (codes "pre-abort") then Some verdict.PreAbort
    else made_of block_from (behind (codes "block") of_of) text

-- `SITE HAD NOW`
abbrev pub doom_of : Form (ℕ × (ℕ × ℕ))
doom_of = pair_of space u32_of (pair_of space u32_of u32_of)

-- the refusal for the sake of a site that lost its part
abbrev pub doomed_from : ℕ × (ℕ × ℕ) → Refusal
doomed_from p = refusal.Doomed p.0 p.1.0 p.1.1

-- why a call is refused, with more than one word
unfoldable pub refusal_by : Known → List ℕ → Form Refusal
refusal_by known verb text =
    if bytes_eq verb (codes "busy") then made_of refusal.Busy u32_of text
    else if bytes_eq verb (codes "over") then made_of refusal.Over dir_of text
    else if bytes_eq verb (codes "died") then made_of refusal.Died (txn_of known) text
    else if bytes_eq verb (codes "doomed") then made_of doomed_from doom_of text
    else if bytes_eq verb (codes "too-late") then made_of refusal.TooLate u32_of text
    else None

-- why a call is refused
unfoldable pub refusal_of : Known → Form Refusal
refusal_of known text =
    if bytes_eq text (codes "no-transaction") then Some refusal.NoTxn
    else option_and_then (λ p. refusal_by known p.0 p.1) (cut space text)

-- what is told of a transaction, of this verb
unfoldable pub event_by : Known → Txn → List ℕ → Form Told
event_by known t verb text =
    if bytes_eq verb (codes "op") then made_of (λ p. told.Op t p.0 p.1) (pair_of space u32_of answer_of) text
    else if bytes_eq verb (codes "died") then made_of (λ older. told.Died t older) (behind (codes "for") (txn_of known)) text
    else if bytes_eq verb (codes "doomed") then made_of (λ p. told.Doomed t p.0 p.1.0 p.1.1) doom_of text
    else if bytes_eq verb (codes "refused") then made_of (λ why. told.Refused t why) (refusal_of known) text
    else if bytes_eq verb (codes "kept") then made_of (λ state. told.Kept t state) state_of text
    else if bytes_eq verb (codes "election") then made_of (λ p. told.Verdict t p.0 p.1) (pair_of space u32_of verdict_of) text
    else None

-- what is told of a transaction that was begun before
unfoldable pub event_of : Known → Txn → Form Told
event_of known t text =
    if bytes_eq text (codes "committed") then Some (told.Ended t Commit)
    else if bytes_eq text (codes "aborted") then Some (told.Ended t Abort)
    else option_and_then (λ p. event_by known t p.0 p.1) (cut space text)

-- that a transaction of this name began: `began SITES`
unfoldable pub began_of : TxnName → Form Told
began_of name text = made_of (λ sites. told.Began (txn_from name sites)) (behind (codes "began") sites_of) text

-- what is told of a transaction of this name, which begins here or was begun before
unfoldable pub told_by : Known → TxnName → Form Told
told_by known name text =
    if begins (codes "began") text then began_of name text
    else option_and_then (λ t. event_of known t text) (named known name)

-- what a step tells: the transaction's name, and what is told of it
unfoldable pub told_of : Known → Form Told
told_of known text = option_and_then (λ p. option_and_then (λ name. told_by known name p.1) (txn_name_of p.0)) (cut space text)
