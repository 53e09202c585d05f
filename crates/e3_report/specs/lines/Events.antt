-- The lines of what happens at a site: what its steps tell, and its falls, rises, failed rises, misses and cuts.
use Rattle.std.specs.Prelude.{◌++◌, [], List, ℕ, Bool, codes}
use Rattle.std.specs.Fmt.{decimal}
use Rattle.std.specs.List.{flat_map}
use Rattle.e3_types.specs.declared.entries.Act.{Act}
use Rattle.e3_types.specs.declared.entries.Act.TheVariants.{Step, Fall, Rise, RiseFall, Miss, Cut}
use Rattle.e3_types.specs.declared.entries.Entry.{Entry}
use Rattle.e3_types.specs.declared.entries.Refusal.{Refusal}
use Rattle.e3_types.specs.declared.entries.Refusal.TheVariants as refusal
use Rattle.e3_types.specs.declared.entries.Told.{Told}
use Rattle.e3_types.specs.declared.entries.Told.TheVariants as told
use Rattle.e3_types.specs.declared.entries.Why.{Why}
use Rattle.e3_types.specs.declared.entries.Why.TheVariants.{Fault, Full}
use Rattle.e3_types.specs.declared.transactions.Answer.{Answer}
use Rattle.e3_types.specs.declared.transactions.Answer.TheVariants.{Absent, Value, Written}
use Rattle.e3_types.specs.declared.transactions.Dir.{Dir}
use Rattle.e3_types.specs.declared.transactions.Dir.TheVariants.{Abort, Commit}
use Rattle.e3_types.specs.declared.transactions.State.{State}
use Rattle.e3_types.specs.declared.transactions.Txn.{Txn}
use Rattle.e3_types.specs.declared.verdicts.Verdict.{Verdict}
use Rattle.e3_types.specs.declared.verdicts.Verdict.TheVariants as verdict
use Rattle.e3_report.specs.lines.Texts.{line_end, sites_text, txn_text, dir_text, state_text, kept_text}

-- an operation's answer: `written`, `absent`, or `value VALUE`; an empty value leaves the space before it
unfoldable pub answer_text : Answer → List ℕ
answer_text Written = codes "written"
answer_text Absent = codes "absent"
answer_text (Value val) = codes "value " ++ val

-- how a transaction ended: `committed` or `aborted`
unfoldable pub ended_text : Dir → List ℕ
ended_text Commit = codes "committed"
ended_text Abort = codes "aborted"

-- a site that lost its part: the site, the incarnation that it had, and the one that it has: `SITE HAD NOW`
unfoldable pub doom_text : ℕ → ℕ → ℕ → List ℕ
doom_text site had now = codes "doomed " ++ decimal site ++ codes " " ++ decimal had ++ codes " " ++ decimal now

-- why a call is refused
unfoldable pub refusal_text : Refusal → List ℕ
refusal_text refusal.NoTxn = codes "no-transaction"
refusal_text (refusal.Busy op) = codes "busy " ++ decimal op
refusal_text (refusal.Over dir) = codes "over " ++ dir_text dir
refusal_text (refusal.Died older) = codes "died " ++ txn_text older
refusal_text (refusal.Doomed site had now) = doom_text site had now
refusal_text (refusal.TooLate attempt) = codes "too-late " ++ decimal attempt

-- a blocked group: the weight that it has of the weight of all, `block HAVE of TOTAL`
unfoldable pub block_text : ℕ → ℕ → List ℕ
block_text have total = codes "block " ++ decimal have ++ codes " of " ++ decimal total

-- what an elector concludes
unfoldable pub verdict_text : Verdict → List ℕ
verdict_text verdict.Abort = codes "abort"
verdict_text verdict.Commit = codes "commit"
verdict_text verdict.PreCommit = codes "pre-commit"
verdict_text verdict.PreAbort = codes "pre-abort"
verdict_text (verdict.Block have total) = block_text have total

-- `op N` and the answer
unfoldable pub op_text : ℕ → Answer → List ℕ
op_text n answer = codes "op " ++ decimal n ++ codes " " ++ answer_text answer

-- `election N` and the verdict
unfoldable pub election_text : ℕ → Verdict → List ℕ
election_text n v = codes "election " ++ decimal n ++ codes " " ++ verdict_text v

-- `began SITES`
unfoldable pub began_text : List ℕ → List ℕ
began_text sites = codes "began " ++ sites_text sites

-- `died for OLDER`
unfoldable pub died_text : Txn → List ℕ
died_text older = codes "died for " ++ txn_text older

-- `refused ` and the reason
unfoldable pub refused_text : Refusal → List ℕ
refused_text why = codes "refused " ++ refusal_text why

-- `kept STATE`
unfoldable pub kept_state_text : State → List ℕ
kept_state_text state = codes "kept " ++ state_text state

-- what is told of a transaction
unfoldable pub told_of : Told → List ℕ
told_of (told.Began t) = began_text t.sites
told_of (told.Op t n answer) = op_text n answer
told_of (told.Ended t dir) = ended_text dir
told_of (told.Died t older) = died_text older
told_of (told.Doomed t site had now) = doom_text site had now
told_of (told.Refused t why) = refused_text why
told_of (told.Kept t state) = kept_state_text state
told_of (told.Verdict t n v) = election_text n v

-- the transaction of which an event tells
abbrev pub of_txn : Told → Txn
of_txn (told.Began t) = t
of_txn (told.Op t n answer) = t
of_txn (told.Ended t dir) = t
of_txn (told.Died t older) = t
of_txn (told.Doomed t site had now) = t
of_txn (told.Refused t why) = t
of_txn (told.Kept t state) = t
of_txn (told.Verdict t n v) = t

-- why a site fell: `fault`, or `full NEED of ROOM`
unfoldable pub why_text : Why → List ℕ
why_text Fault = codes "fault"
why_text (Full need room) = codes "full " ++ decimal need ++ codes " of " ++ decimal room

-- the site before its event: `S: `
unfoldable pub at_site : ℕ → List ℕ
at_site site = decimal site ++ codes ": "

-- a line of one word: `S: WORD`
unfoldable pub word_line : ℕ → List ℕ → List ℕ
word_line site word = at_site site ++ word ++ line_end

-- what a step tells: `T `, and what is told of the transaction T
unfoldable pub told_text : Told → List ℕ
told_text event = txn_text (of_txn event) ++ codes " " ++ told_of event

-- the line of what a step of a site tells: `S: `, and what is told
unfoldable pub told_line : ℕ → Told → List ℕ
told_line site event = at_site site ++ told_text event ++ line_end

-- a rise with its incarnation: `S: rose INC`, and ` kept` where an open frame was kept
unfoldable pub rise_line : ℕ → ℕ → Bool → List ℕ
rise_line site inc kept = at_site site ++ codes "rose " ++ decimal inc ++ kept_text kept ++ line_end

-- `rise failed INC WHY`
unfoldable pub failure_text : ℕ → Why → List ℕ
failure_text inc why = codes "rise failed " ++ decimal inc ++ codes " " ++ why_text why

-- a rise that failed: `S: rise failed INC WHY`, and ` kept` where an open frame was kept
unfoldable pub failed_rise_line : ℕ → ℕ → Why → Bool → List ℕ
failed_rise_line site inc why kept = at_site site ++ failure_text inc why ++ kept_text kept ++ line_end

-- a fall: `S: fell WHY`
unfoldable pub fall_line : ℕ → Why → List ℕ
fall_line site why = at_site site ++ codes "fell " ++ why_text why ++ line_end

-- the lines of an entry of a site; the driver's entries have none
unfoldable pub act_lines : ℕ → Act → List ℕ
act_lines site (Step i records outs events) = flat_map (told_line site) events
act_lines site (Fall inputs records why) = fall_line site why
act_lines site (Rise kept inc) = rise_line site inc kept
act_lines site (RiseFall kept inc why) = failed_rise_line site inc why kept
act_lines site Miss = word_line site (codes "missed")
act_lines site Cut = word_line site (codes "cut")
act_lines site _ = []

-- the lines of an entry
abbrev pub entry_lines : Entry → List ℕ
entry_lines e = act_lines e.owner e.act
