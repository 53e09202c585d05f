-- Each input makes the same of a step at two places that are alike.
use Rattle.std.proofs.Common.{◌≡◌, ◌==◌, ◌∷◌, [], ℕ, suc, Bool, true, false, List, Option, Some, None, refl, sym, ap, ◌∙◌, if◌then◌else◌, fold, length}
use Rattle.e3_types.specs.declared.entries.Input.{Input}
use Rattle.e3_types.specs.declared.entries.Input.TheVariants as input
use Rattle.e3_types.specs.declared.entries.Refusal.{Refusal}
use Rattle.e3_types.specs.declared.entries.Refusal.TheVariants as refusal
use Rattle.e3_types.specs.declared.entries.Told.TheVariants as told
use Rattle.e3_types.specs.declared.messages.Message.TheVariants as msg
use Rattle.e3_types.specs.declared.transactions.Dir.{Dir}
use Rattle.e3_types.specs.declared.transactions.Dir.TheVariants.{Abort, Commit}
use Rattle.e3_types.specs.declared.transactions.State.{State}
use Rattle.e3_types.specs.declared.transactions.State.TheVariants.{Q, W, Pc, Pa, C, A}
use Rattle.e3_types.specs.declared.transactions.Txn.{Txn}
use Rattle.e3_types.specs.Sets.{others}
use Rattle.e3_world.specs.Gatherings.{Election}
use Rattle.e3_world.specs.declared.lives.Expected.{Expected}
use Rattle.e3_world.specs.declared.lives.Made.{Made}
use Rattle.e3_world.specs.ElectionRules.{and_join}
use Rattle.e3_world.specs.Elections.{begun, next_call}
use Rattle.e3_world.specs.Logs.{decision, key_of}
use Rattle.e3_world.specs.Making.{and_attempt, and_cast, and_send, and_tell, and_vote, attempt_now, elected_now, log_now, may_abort, state_now}
use Rattle.e3_world.specs.Operations.{kept_reason, unanswered}
use Rattle.e3_world.specs.Steps.{and_ask, on_commit, on_elect, on_expire, on_input, or_refused, refuse, refuse_late}
use Rattle.e3_laws.proofs.brief.Alike.Pairs.{Pair, SameTable, attempt_same, elected_same, may_abort_same, notes_now, one, other, state_same}
use Rattle.e3_laws.proofs.brief.Alike.Rules.{abort_same, attempted_same, decide_same, join_same, message_same, vote_same}
use Rattle.e3_laws.proofs.brief.Alike.Elections.{call_twins}
use Rattle.e3_laws.proofs.brief.Alike.Twins.{begins_twins, expected_twins, issued_twins, left, reason_twins, right, unanswered_twins}

-- the refusal of an input whose transaction is not in q
late_same : (p : Pair) (t : Txn) (made : Made) → refuse_late (one p) t made ≡ refuse_late (other p) t made
late_same p t made = by (state_now (one p) t made) refl (sym (state_same p t made))
  where
    late : Some (refusal.TooLate (attempt_now (one p) t made)) ≡ Some (refusal.TooLate (attempt_now (other p) t made))
    late = ap (λ (n : ℕ). Some (refusal.TooLate n)) (attempt_same p t made)

    by : (st : State) → state_now (one p) t made ≡ st → state_now (other p) t made ≡ state_now (one p) t made → refuse_late (one p) t made ≡ refuse_late (other p) t made
    by Q here back = let there : state_now (other p) t made ≡ Q = back ∙ here in rw (here, there) refl
    by W here back = let there : state_now (other p) t made ≡ W = back ∙ here in rw (here, there) late
    by Pc here back = let there : state_now (other p) t made ≡ Pc = back ∙ here in rw (here, there) late
    by Pa here back = let there : state_now (other p) t made ≡ Pa = back ∙ here in rw (here, there) late
    by C here back = let there : state_now (other p) t made ≡ C = back ∙ here in rw (here, there) late
    by A here back = let there : state_now (other p) t made ≡ A = back ∙ here in rw (here, there) late

-- the refusal of an input
refuse_same : (p : Pair) (t : Txn) (cancels : Bool) (made : Made) → refuse (one p) t cancels made ≡ refuse (other p) t cancels made
refuse_same p t cancels made = by (decision t (log_now (one p) made)) refl (sym ((notes_now p made).decided t))
  where
    busy : (o : Option ℕ) → decision t (log_now (one p) made) ≡ None → decision t (log_now (other p) made) ≡ None → (t.inc == p.inc) ≡ true
        → unanswered t (log_now (one p) made) (left p.steps) ≡ o → unanswered t (log_now (other p) made) (right p.steps) ≡ o
        → refuse (one p) t false made ≡ refuse (other p) t false made
    busy None here there now is also = rw (here, there, now, is, also) (late_same p t made)
    busy (Some n) here there now is also = rw (here, there, now, is, also) refl

    undecided : (c : Bool) (b : Bool) → decision t (log_now (one p) made) ≡ None → decision t (log_now (other p) made) ≡ None → (t.inc == p.inc) ≡ b
        → refuse (one p) t c made ≡ refuse (other p) t c made
    undecided c false here there now = rw (here, there, now) refl
    undecided true true here there now = rw (here, there, now) (λ i. if attempt_same p t made i == 0 then None else Some (refusal.TooLate (attempt_same p t made i)))
    undecided false true here there now = busy (unanswered t (log_now (one p) made) (left p.steps)) here there now refl
        (sym (unanswered_twins t (log_now (one p) made) (log_now (other p) made) (notes_now p made) p.steps))

    over : (dir : Dir) (why : List Refusal) → decision t (log_now (one p) made) ≡ Some dir → decision t (log_now (other p) made) ≡ Some dir
        → kept_reason t (left p.steps) ≡ why → kept_reason t (right p.steps) ≡ why → refuse (one p) t cancels made ≡ refuse (other p) t cancels made
    over dir [] here there is also = rw (here, there, is, also) refl
    over dir (why ∷ more) here there is also = rw (here, there, is, also) refl

    by : (d : Option Dir) → decision t (log_now (one p) made) ≡ d → decision t (log_now (other p) made) ≡ decision t (log_now (one p) made)
        → refuse (one p) t cancels made ≡ refuse (other p) t cancels made
    by None here back = undecided cancels (t.inc == p.inc) here (back ∙ here) refl
    by (Some dir) here back = over dir (kept_reason t (left p.steps)) here (back ∙ here) refl (sym (reason_twins t p.steps))

-- a commit
asked_same : (p : Pair) (t : Txn) (ss : List ℕ) (made : Made) → fold (and_ask (one p) t) made ss ≡ fold (and_ask (other p) t) made ss
asked_same p t [] made = refl
asked_same p t (s ∷ ss) made =
    ap (λ (e : Expected). fold (and_ask (one p) t) (and_send (one p) s (msg.VoteReq t e.inc e.count) made) ss) (expected_twins p.site p.inc t s p.steps)
    ∙ asked_same p t ss (and_ask (other p) t made s)

commit_same : (p : Pair) (t : Txn) (made : Made) → on_commit (one p) t made ≡ on_commit (other p) t made
commit_same p t made = by (elected_now (one p) t made == 1) refl (ap (λ (n : ℕ). n == 1) (sym (elected_same p t made)))
  where
    alone : (ss : List ℕ) → others p.site t.sites ≡ ss → (elected_now (one p) t made == 1) ≡ true → (elected_now (other p) t made == 1) ≡ true
        → on_commit (one p) t made ≡ on_commit (other p) t made
    alone [] is here there = rw (here, there, is)
        (ap (λ (m : Made). and_attempt (one p) t 1 Commit t.sites m) (vote_same p t made) ∙ attempted_same p t 1 Commit t.sites (and_vote (other p) t made))
    alone (s ∷ ss) is here there = rw (here, there, is)
        (ap (λ (m : Made). fold (and_ask (one p) t) m (s ∷ ss)) (vote_same p t made) ∙ asked_same p t (s ∷ ss) (and_vote (other p) t made))

    by : (b : Bool) → (elected_now (one p) t made == 1) ≡ b → (elected_now (other p) t made == 1) ≡ (elected_now (one p) t made == 1)
        → on_commit (one p) t made ≡ on_commit (other p) t made
    by true here back = alone (others p.site t.sites) refl here (back ∙ here)
    by false here back = let there : (elected_now (other p) t made == 1) ≡ false = back ∙ here in rw (here, there) (abort_same p t made)

-- an expiry
expire_same : (p : Pair) (t : Txn) (made : Made) → on_expire (one p) t made ≡ on_expire (other p) t made
expire_same p t made = by (may_abort (one p) t made) refl (sym (may_abort_same p t made))
  where
    stays : (st : State) → may_abort (one p) t made ≡ false → may_abort (other p) t made ≡ false → state_now (one p) t made ≡ st → state_now (other p) t made ≡ st
        → on_expire (one p) t made ≡ on_expire (other p) t made
    stays Q is also here there = rw (is, also, here, there) (decide_same p t Abort made)
    stays W is also here there = rw (is, also, here, there) refl
    stays Pc is also here there = rw (is, also, here, there) refl
    stays Pa is also here there = rw (is, also, here, there) refl
    stays C is also here there = rw (is, also, here, there) refl
    stays A is also here there = rw (is, also, here, there) refl

    by : (b : Bool) → may_abort (one p) t made ≡ b → may_abort (other p) t made ≡ may_abort (one p) t made → on_expire (one p) t made ≡ on_expire (other p) t made
    by true is back = let also : may_abort (other p) t made ≡ true = back ∙ is in rw (is, also) (abort_same p t made)
    by false is back = stays (state_now (one p) t made) is (back ∙ is) refl (sym (state_same p t made))

-- an elect
elect_same : (p : Pair) (t : Txn) (group : List ℕ) (made : Made) → on_elect (one p) t group made ≡ on_elect (other p) t group made
elect_same p t group made =
    ap (λ (e : Election). and_join (one p) t e (and_cast (one p) group (msg.Ask t e.call) made)) elections
    ∙ join_same p t (begun p.site (next_call p.inc (right p.steps)) group (elected_now (other p) t made))
    (and_cast (other p) group (msg.Ask t (next_call p.inc (right p.steps))) made)
  where
    elections : begun p.site (next_call p.inc (left p.steps)) group (elected_now (one p) t made) ≡ begun p.site (next_call p.inc (right p.steps)) group (elected_now (other p) t made)
    elections = λ i. begun p.site (call_twins p.inc p.steps i) group (elected_same p t made i)

-- each input
pub input_same : (p : Pair) (i : Input) (made : Made) → SameTable p made.records → on_input (one p) i made ≡ on_input (other p) i made
input_same p (input.Begin sites) made table =
    ap (λ (n : ℕ). and_tell (told.Began (record { site = p.site; inc = p.inc; seq = suc n; sites = sites })) made) (begins_twins p.steps)
input_same p (input.Do t op) made table = λ i.
    or_refused t (refuse_same p t false made i)
    (and_send (one p) (key_of op).site (msg.Do t (suc (length (issued_twins t p.steps i))) op) made)
input_same p (input.Commit t) made table = λ i. or_refused t (refuse_same p t false made i) (commit_same p t made i)
input_same p (input.Cancel t) made table = λ i. or_refused t (refuse_same p t true made i) (abort_same p t made i)
input_same p (input.Expire t) made table = expire_same p t made
input_same p (input.Elect t group) made table = elect_same p t group made
input_same p (input.Deliver packet) made table = message_same p packet.«from» packet.msg made table
