-- A transaction as its coordinator keeps it for the client: its operations, and what a call or an answer comes to.
use Rattle.std.specs.Prelude.{◌==◌, ◌&&◌, ◌||◌, ◌≡◌, ◌∷◌, [], if◌then◌else◌, ℕ, zero, suc, Bool, false, not, List, fold, Option, Some, None, is_none, slice_get, slice_set, ◌-◌, Result, MatchResult}
use Rattle.e3_types.specs.declared.entries.Refusal.{Refusal}
use Rattle.e3_types.specs.declared.entries.Refusal.TheVariants.{Busy, Died, Doomed as DoomedFor, Over, TooLate}
use Rattle.e3_types.specs.declared.transactions.Dir.{Dir}
use Rattle.e3_types.specs.declared.transactions.Dir.TheVariants.{Abort, Commit}
use Rattle.e3_types.specs.declared.transactions.State.{State}
use Rattle.e3_types.specs.declared.transactions.State.TheVariants.{Q, C, A}
use Rattle.e3_types.specs.declared.transactions.Txn.{Txn}
use Rattle.e3_world.specs.declared.lives.Expected.{Expected}
use Rattle.e3_client.specs.declared.client.Issued.{Issued}
use Rattle.e3_client.specs.declared.client.Heard.{Heard}
use Rattle.e3_client.specs.declared.client.Heard.TheVariants.{Taken, Stale, Doomed}

-- the operations that were issued, the n-th has number n; and the reason that is kept, if the transaction was ended for one
pub record Kept : Type 0 where
  pub txn : Txn
  pub ops : List Issued
  pub why : Option Refusal

-- the number of the first operation that is unanswered, where the first of these has this number
abbrev pub unanswered_from : ℕ → List Issued → Option ℕ
unanswered_from n [] = None
unanswered_from n (op ∷ ops) = if is_none op.answered then Some n else unanswered_from (suc n) ops

-- the number of the operation that is unanswered, if one is
abbrev pub unanswered : List Issued → Option ℕ
unanswered ops = unanswered_from 1 ops

-- what is expected of a site behind one more operation: an answer counts, under the incarnation that it came with
abbrev pub expected_with : ℕ → Expected → Issued → Expected
expected_with site was op = if op.site == site then by op.answered else was
  where
    by : Option ℕ → Expected
    by None = was
    by (Some inc) = record { inc = inc; count = suc was.count }

-- the incarnation under which a site answered, and the number of its answers; 0 and 0 where there are none
abbrev pub expected : ℕ → List Issued → Expected
expected site ops = fold (expected_with site) (record { inc = 0; count = 0 }) ops

-- the operation, if there is one, was issued to the site
abbrev pub is_of : ℕ → Option Issued → Bool
is_of site None = false
is_of site (Some op) = op.site == site

-- the operation of this number was issued to the site
abbrev pub is_issued_to : ℕ → ℕ → List Issued → Bool
is_issued_to site zero ops = false
is_issued_to site (suc n) ops = is_of site (slice_get ops n)

-- the number is the one that is awaited
abbrev pub is_awaited : ℕ → Option ℕ → Bool
is_awaited n None = false
is_awaited n (Some m) = n == m

-- the answer is one to the unanswered operation, by the site to which that was issued
abbrev pub is_awaited_from : ℕ → ℕ → List Issued → Bool
is_awaited_from site n ops = is_awaited n (unanswered ops) && is_issued_to site n ops

-- what an answer of a site under an incarnation comes to
abbrev pub heard_of : ℕ → ℕ → ℕ → List Issued → Heard
heard_of site n inc ops =
    if not (is_awaited_from site n ops) then Stale
    else if (expected site ops).count == 0 || (expected site ops).inc == inc then Taken
    else Doomed site (expected site ops).inc inc

-- the operations where the n-th was issued to this site and is answered under this incarnation
abbrev pub with_answer : ℕ → ℕ → ℕ → List Issued → List Issued
with_answer site n inc ops = slice_set ops (n - 1) (record { site = site; answered = Some inc })

-- the refusal of a call on a transaction that is decided: that a request died or that it was doomed, where it was aborted
-- for that, else that it is over
abbrev pub refuse_decided : Dir → Option Refusal → Option Refusal
refuse_decided Abort (Some (Died older)) = Some (Died older)
refuse_decided Abort (Some (DoomedFor site had now)) = Some (DoomedFor site had now)
refuse_decided dir why = Some (Over dir)

-- the refusal of an operation or a commit where no operation is unanswered: that it is too late
abbrev pub late : State → ℕ → Option Refusal
late Q attempt = None
late st attempt = Some (TooLate attempt)

-- the refusal of an operation or a commit of a transaction that is undecided: that an operation is unanswered, else that it is
-- too late
abbrev pub busy_or : State → ℕ → Option ℕ → Option Refusal
busy_or st attempt (Some n) = Some (Busy n)
busy_or st attempt None = late st attempt

-- the refusal of a cancel of a transaction that is undecided
abbrev pub late_if : ℕ → Option Refusal
late_if attempt = if attempt == 0 then None else Some (TooLate attempt)

-- the refusal of an operation or a commit, in this state after this attempt, if it is refused: that it is decided, else
-- that an operation is unanswered, else that it is too late
abbrev pub refuse : State → ℕ → Kept → Option Refusal
refuse state attempt k = by state
  where
    by : State → Option Refusal
    by C = refuse_decided Commit k.why
    by A = refuse_decided Abort k.why
    by st = busy_or st attempt (unanswered k.ops)

-- the refusal of a cancel, if it is refused
abbrev pub refuse_cancel : State → ℕ → Kept → Option Refusal
refuse_cancel state attempt k = by state
  where
    by : State → Option Refusal
    by C = refuse_decided Commit k.why
    by A = refuse_decided Abort k.why
    by _ = late_if attempt

-- a call goes where there is no refusal, and where there is one that is its error
abbrev pub GoesUnless : Option Refusal → Result (Unit {0}) Refusal → Type 0
GoesUnless refusal answer = MatchResult answer (λ u. refusal ≡ None) (λ why. refusal ≡ Some why)

-- the reason that is kept, with a new one
abbrev pub or_kept : Option Refusal → Refusal → Option Refusal
or_kept None new = Some new
or_kept (Some why) new = Some why
