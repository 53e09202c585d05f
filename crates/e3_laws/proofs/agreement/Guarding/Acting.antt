-- A step that tells a verdict to attempt records the attempt.
use Rattle.std.proofs.Common.{◌≡◌, ◌⊎◌, inl, inr, ◌==◌, ◌&&◌, ◌∷◌, ◌++◌, [], ◌≤◌, ℕ, suc, Bool, true, false, List, Option, Some, None, refl, ap, sym, subst, ◌∙◌, arith, if◌then◌else◌, fold, nat_lt, nat_le}
use Rattle.std.specs.List.{list_all}
use Rattle.e3_types.specs.declared.entries.Input.{Input}
use Rattle.e3_types.specs.declared.entries.Input.TheVariants as input
use Rattle.e3_types.specs.declared.entries.Refusal.{Refusal}
use Rattle.e3_types.specs.declared.messages.Message.{Message}
use Rattle.e3_types.specs.declared.messages.Message.TheVariants as msg
use Rattle.e3_types.specs.declared.messages.Packet.{Packet}
use Rattle.e3_types.specs.declared.records.Record.TheVariants as log
use Rattle.e3_types.specs.declared.transactions.Call.{Call}
use Rattle.e3_types.specs.declared.transactions.Dir.{Dir}
use Rattle.e3_types.specs.declared.transactions.Dir.TheVariants.{Abort, Commit}
use Rattle.e3_types.specs.declared.transactions.State.{State}
use Rattle.e3_types.specs.declared.transactions.State.TheVariants.{W}
use Rattle.e3_types.specs.declared.transactions.Txn.{Txn}
use Rattle.e3_types.specs.declared.verdicts.SiteReport.{SiteReport}
use Rattle.e3_types.specs.declared.verdicts.Verdict.{Verdict}
use Rattle.e3_types.specs.declared.verdicts.Verdict.TheVariants as verdict
use Rattle.e3_types.specs.Same.{same_txn, same_state}
use Rattle.e3_types.specs.Sets.{is_within, others}
use Rattle.e3_types.specs.Verdicts.{verdict_of}
use Rattle.e3_world.specs.declared.lives.At.{At}
use Rattle.e3_world.specs.declared.lives.Made.{Made}
use Rattle.e3_world.specs.AttemptRules.{on_pre}
use Rattle.e3_world.specs.ElectionRules.{and_join, and_verdict, on_elected, on_last, on_report}
use Rattle.e3_world.specs.Elections.{all_heard, all_reported, begun, election_in_progress, greatest_heard, hear, next_call, take_report}
use Rattle.e3_world.specs.Gatherings.{Election}
use Rattle.e3_world.specs.Making.{nothing, open_now, elected_now, attempt_now, state_now, is_coordinator, may_decide, steps_now, and_record, and_tell, and_send, and_cast, and_decide, and_attempt, and_vote}
use Rattle.e3_world.specs.Messages.{on_message}
use Rattle.e3_world.specs.Sound.{txn_in}
use Rattle.e3_world.specs.Steps.{and_ask, on_commit, on_elect, on_input, or_refused, refuse, step_at}
use Rattle.e3_world.specs.VoteRules.{on_yes}
use Rattle.e3_world.specs.Votes.{yes_votes}
use Rattle.e3_laws.specs.agreement.Logs.{IsIn}
use Rattle.e3_laws.specs.agreement.Rows.{Here, MayTake, Stands}
use Rattle.e3_laws.proofs.agreement.Protocol.Reached.{in_parts}
use Rattle.e3_laws.proofs.steps.Each.{each-of}
use Rattle.e3_laws.proofs.steps.Keeping.{AnyRecord}
use Rattle.e3_laws.proofs.steps.Rules.{behind_join}
use Rattle.e3_laws.proofs.steps.Tests.{same_is, same_self}
use Rattle.std.proofs.lemmas.Bool.{and_parts, leb-true}
use Rattle.e3_types.specs.declared.entries.Told.{Told}
use Rattle.e3_types.specs.declared.entries.Told.TheVariants as told
use Rattle.e3_world.specs.Elections.{begun, next_call}
use Rattle.e3_world.specs.Making.{is_present, may_attempt, go_on}
use Rattle.e3_types.specs.Quorums.{is_quorum}
use Rattle.e3_laws.specs.agreement.Guards.{IsLastReport, IsToAttempt, own_report}
use Rattle.e3_laws.specs.agreement.Asked.{attempt_verdict}
use Rattle.e3_laws.proofs.agreement.Guarding.Calm.{Adds, is_plain, is_plain_message}
use Rattle.e3_laws.proofs.agreement.Guarding.Quiet.{Quiet, IsOther, is_silent_of, silent_all, quiet_plain, quiet_other, quiet_step, step_adds}
use Rattle.e3_laws.proofs.agreement.Refinement.Elections.{cast_records}
use Rattle.e3_laws.proofs.agreement.Refinement.Lists.{in_left, in_right}
use Rattle.std.proofs.Common.{◌<◌, append-nil, append_assoc}
use Rattle.e3_laws.proofs.steps.Adding.{Preserves, keep_cast, keep_choice}
use Rattle.e3_laws.proofs.steps.Lists.{one_more}
use Rattle.e3_laws.proofs.steps.Whatever.{AnySent}

-- behind what was told comes no verdict over the transaction
record More (t : Txn) (was made : Made) : Type 0 where
  events : List Told
  told : made.told ≡ was.told ++ events
  silent : list_all (is_silent_of t) events ≡ true

more_itself : (t : Txn) (made : Made) → More t made made
more_itself t made = record { events = []; told = sym (append-nil made.told); silent = refl }

more_kept : (a : At) (t : Txn) (was : Made) → Preserves a AnyRecord (λ e. is_silent_of t e ≡ true) AnySent (More t was)
more_kept a t was = record {
  records = λ r made any k. record { events = k.events; told = k.told; silent = k.silent };
  tells = λ e made silent k. record {
    events = k.events ++ e ∷ [];
    told = ap (λ l. l ++ e ∷ []) k.told ∙ append_assoc was.told k.events (e ∷ []);
    silent = one_more (is_silent_of t) k.events e k.silent silent;
  };
  sends = sent;
}
  where
    sent : (to : ℕ) (m : Message) (made : Made) → AnySent to m → More t was made → More t was (and_send a to m made)
    sent to m made any k = by (to == a.site) refl
      where
        by : (b : Bool) → (to == a.site) ≡ b → More t was (and_send a to m made)
        by true is = rw is (record { events = k.events; told = k.told; silent = k.silent })
        by false is = rw is (record { events = k.events; told = k.told; silent = k.silent })

more_cast : (a : At) (t : Txn) (was made : Made) (sites : List ℕ) (m : Message) → More t was made → More t was (and_cast a sites m made)
more_cast a t was made sites m k = keep_cast (more_kept a t was) sites m made (each-of (λ s. (s == a.site) ≡ false → AnySent s m) (λ s apart. tt) sites) k

more_decide : (a : At) (t : Txn) (was made : Made) (dir : Dir) → More t was made → More t was (and_decide a t dir made)
more_decide a t was made dir k = by (is_coordinator a t && is_present a t) refl
  where
    noted : More t was (and_record (log.Decision t dir) made)
    noted = (more_kept a t was).records (log.Decision t dir) made tt k

    by : (b : Bool) → (is_coordinator a t && is_present a t) ≡ b → More t was (and_decide a t dir made)
    by true is = rw is ((more_kept a t was).tells (told.Ended t dir) (and_record (log.Decision t dir) made) refl noted)
    by false is = rw is noted

more_attempt : (a : At) (t : Txn) (was made : Made) (n : ℕ) (dir : Dir) (to : List ℕ) → More t was made → More t was (and_attempt a t n dir to made)
more_attempt a t was made n dir to k = by (may_attempt a t n made) refl
  where
    tried : Made
    tried = and_record (log.Attempt t n dir) made

    noted : More t was tried
    noted = (more_kept a t was).records (log.Attempt t n dir) made tt k

    on : (b : Bool) → is_quorum a.weights (a.site ∷ []) t.sites ≡ b → More t was (go_on a t n dir to tried)
    on true is = rw is (more_cast a t was (and_decide a t dir tried) to (msg.Decide t dir) (more_decide a t was tried dir noted))
    on false is = rw is (more_cast a t was tried to (msg.Pre t n dir) noted)

    by : (b : Bool) → may_attempt a t n made ≡ b → More t was (and_attempt a t n dir to made)
    by true is = rw is (on (is_quorum a.weights (a.site ∷ []) t.sites) refl)
    by false is = rw is k

-- what tells no verdict
more_asks : (a : At) (t : Txn) (was : Made) (sites : List ℕ) (made : Made) → More t was made → More t was (fold (and_ask a t) made sites)
more_asks a t was [] made k = k
more_asks a t was (s ∷ sites) made k = more_asks a t was sites (and_ask a t made s) ((more_kept a t was).sends s _ made tt k)

more_commit : (a : At) (t : Txn) → More t nothing (on_commit a t nothing)
more_commit a t = by (elected_now a t nothing == 1) refl
  where
    voted : More t nothing (and_vote a t nothing)
    voted = (more_kept a t nothing).records _ nothing tt (more_itself t nothing)

    alone : (l : List ℕ) → others a.site t.sites ≡ l → (elected_now a t nothing == 1) ≡ true → More t nothing (on_commit a t nothing)
    alone [] none one = rw (one, none) (more_attempt a t nothing (and_vote a t nothing) 1 Commit t.sites voted)
    alone (s ∷ ss) some one = rw (one, some) (more_asks a t nothing (s ∷ ss) (and_vote a t nothing) voted)

    by : (b : Bool) → (elected_now a t nothing == 1) ≡ b → More t nothing (on_commit a t nothing)
    by true one = alone (others a.site t.sites) refl one
    by false late = rw late (more_cast a t nothing (and_decide a t Abort nothing) t.sites (msg.Decide t Abort) (more_decide a t nothing nothing Abort (more_itself t nothing)))

more_refused : (a : At) (t : Txn) (made : Made) → More t nothing made → More t nothing (or_refused t (refuse a t false nothing) made)
more_refused a t made k = by (refuse a t false nothing) refl
  where
    by : (o : Option Refusal) → refuse a t false nothing ≡ o → More t nothing (or_refused t (refuse a t false nothing) made)
    by None is = rw is k
    by (Some why) is = rw is ((more_kept a t nothing).tells (told.Refused t why) nothing refl (more_itself t nothing))

more_yes : (a : At) (t : Txn) → More t nothing (on_yes a t nothing)
more_yes a t = by (is_coordinator a t && same_state (state_now a t nothing) W && elected_now a t nothing == 1) refl
  where
    counted : (o : Option (List ℕ)) → yes_votes t (steps_now a nothing) ≡ o → (is_coordinator a t && same_state (state_now a t nothing) W && elected_now a t nothing == 1) ≡ true → More t nothing (on_yes a t nothing)
    counted None votes is = rw (is, votes) (more_itself t nothing)
    counted (Some came) votes is =
        rw (is, votes) (keep_choice (more_kept a t nothing) (is_within (others a.site t.sites) came) (and_attempt a t 1 Commit t.sites nothing) nothing (more_attempt a t nothing nothing 1 Commit t.sites (more_itself t nothing)) (more_itself t nothing))

    by : (b : Bool) → (is_coordinator a t && same_state (state_now a t nothing) W && elected_now a t nothing == 1) ≡ b → More t nothing (on_yes a t nothing)
    by true is = counted (yes_votes t (steps_now a nothing)) refl is
    by false is = rw is (more_itself t nothing)

more_pre : (a : At) (t : Txn) (f k : ℕ) (dir : Dir) → More t nothing (on_pre a f t k dir nothing)
more_pre a t f k dir = by (open_now a t nothing && elected_now a t nothing == k) refl
  where
    tried : More t nothing (and_record (log.Attempt t k dir) nothing)
    tried = (more_kept a t nothing).records (log.Attempt t k dir) nothing tt (more_itself t nothing)

    by : (b : Bool) → (open_now a t nothing && elected_now a t nothing == k) ≡ b → More t nothing (on_pre a f t k dir nothing)
    by true is = rw is ((more_kept a t nothing).sends f (msg.Ack t k dir) (if attempt_now a t nothing == k then nothing else and_record (log.Attempt t k dir) nothing) tt
        (keep_choice (more_kept a t nothing) (attempt_now a t nothing == k) nothing (and_record (log.Attempt t k dir) nothing) (more_itself t nothing) tried))
    by false is = rw is (more_itself t nothing)

more_elected : (a : At) (t : Txn) (f k : ℕ) → More t nothing (on_elected a f t k nothing)
more_elected a t f k = by (nat_lt (elected_now a t nothing) k) refl
  where
    by : (b : Bool) → nat_lt (elected_now a t nothing) k ≡ b → More t nothing (on_elected a f t k nothing)
    by true is = rw is ((more_kept a t nothing).sends f (msg.Report t k (state_now a t nothing) (attempt_now a t nothing)) (and_record (log.Join t k) nothing) tt
        ((more_kept a t nothing).records (log.Join t k) nothing tt (more_itself t nothing)))
    by false is = rw is (more_itself t nothing)

-- a verdict is told once
more_verdict : (a : At) (t : Txn) (n : ℕ) (group : List ℕ) (reports : List SiteReport) (made : Made) →
    More t (and_tell (told.Verdict t n (verdict_of a.weights t.sites reports)) made) (and_verdict a t n group reports made)
more_verdict a t n group reports made = by (verdict_of a.weights t.sites reports) refl
  where
    decided : (v : Verdict) (dir : Dir) → More t (and_tell (told.Verdict t n v) made)
        (and_cast a group (msg.Decide t dir) (if may_decide a t dir (and_tell (told.Verdict t n v) made) then and_decide a t dir (and_tell (told.Verdict t n v) made) else and_tell (told.Verdict t n v) made))
    decided v dir =
        more_cast a t (and_tell (told.Verdict t n v) made) _ group (msg.Decide t dir)
        (keep_choice (more_kept a t (and_tell (told.Verdict t n v) made)) (may_decide a t dir (and_tell (told.Verdict t n v) made)) (and_decide a t dir (and_tell (told.Verdict t n v) made)) (and_tell (told.Verdict t n v) made)
        (more_decide a t (and_tell (told.Verdict t n v) made) (and_tell (told.Verdict t n v) made) dir (more_itself t (and_tell (told.Verdict t n v) made))) (more_itself t (and_tell (told.Verdict t n v) made)))

    tried : (v : Verdict) (dir : Dir) → More t (and_tell (told.Verdict t n v) made) (and_attempt a t n dir group (and_tell (told.Verdict t n v) made))
    tried v dir = more_attempt a t (and_tell (told.Verdict t n v) made) (and_tell (told.Verdict t n v) made) n dir group (more_itself t (and_tell (told.Verdict t n v) made))

    by : (v : Verdict) → verdict_of a.weights t.sites reports ≡ v → More t (and_tell (told.Verdict t n (verdict_of a.weights t.sites reports)) made) (and_verdict a t n group reports made)
    by verdict.Abort is = rw is (decided verdict.Abort Abort)
    by verdict.Commit is = rw is (decided verdict.Commit Commit)
    by verdict.PreCommit is = rw is (tried verdict.PreCommit Commit)
    by verdict.PreAbort is = rw is (tried verdict.PreAbort Abort)
    by (verdict.Block have total) is = rw is (more_itself t (and_tell (told.Verdict t n (verdict.Block have total)) made))

none_in : (t : Txn) (n : ℕ) (v : Verdict) (es : List Told) → list_all (is_silent_of t) es ≡ true → IsIn (told.Verdict t n v) es → ⊥
none_in t n v [] all k = k
none_in t n v (e ∷ es) all (inl same) =
    let quiet : is_silent_of t e ≡ true = (and_parts (is_silent_of t e) (list_all (is_silent_of t) es) all).0 in
    let tells : is_silent_of t e ≡ false = ap (is_silent_of t) (sym same) ∙ rw (same_self t) refl in
    let clash : true ≡ false = sym quiet ∙ tells in
    cc
none_in t n v (e ∷ es) all (inr k) = none_in t n v es (and_parts (is_silent_of t e) (list_all (is_silent_of t) es) all).1 k

-- the attempt that may be recorded is recorded
pub attempt_in : (a : At) (t : Txn) (n : ℕ) (dir : Dir) (to : List ℕ) (made : Made) → may_attempt a t n made ≡ true → IsIn (log.Attempt t n dir) (and_attempt a t n dir to made).records
attempt_in a t n dir to made may = rw may (on (is_quorum a.weights (a.site ∷ []) t.sites) refl)
  where
    tried : Made
    tried = and_record (log.Attempt t n dir) made

    has : IsIn (log.Attempt t n dir) tried.records
    has = in_right (log.Attempt t n dir) made.records (log.Attempt t n dir ∷ []) (inl refl)

    ended : (b : Bool) → (is_coordinator a t && is_present a t) ≡ b → IsIn (log.Attempt t n dir) (and_decide a t dir tried).records
    ended true is = rw is (in_left (log.Attempt t n dir) tried.records (log.Decision t dir ∷ []) has)
    ended false is = rw is (in_left (log.Attempt t n dir) tried.records (log.Decision t dir ∷ []) has)

    on : (b : Bool) → is_quorum a.weights (a.site ∷ []) t.sites ≡ b → IsIn (log.Attempt t n dir) (go_on a t n dir to tried).records
    on true is = rw is (subst (λ z. IsIn (log.Attempt t n dir) z) (sym (cast_records a to (msg.Decide t dir) (and_decide a t dir tried))) (ended (is_coordinator a t && is_present a t) refl))
    on false is = rw is (subst (λ z. IsIn (log.Attempt t n dir) z) (sym (cast_records a to (msg.Pre t n dir) tried)) has)

to_attempt : (dir : Dir) (v : Verdict) → attempt_verdict dir ≡ v → IsToAttempt v
to_attempt Commit v is = inl (sym is)
to_attempt Abort v is = inr (sym is)

-- the guards that have to hold
pub record Holds (h : Here) : Type 0 where
  pub last : (n : ℕ) (e : Election) → IsLastReport h.at h.txn n e → IsToAttempt (verdict_of h.at.weights h.txn.sites e.reports) → may_attempt h.at h.txn n nothing ≡ true
  pub alone : (n : ℕ) → elected_now h.at h.txn nothing < n → IsToAttempt (verdict_of h.at.weights h.txn.sites (own_report h.at h.txn ∷ [])) →
      may_attempt h.at h.txn n (and_record (log.Join h.txn n) nothing) ≡ true

-- a step that tells the verdict attempts
abbrev pub Acts : Here → Type 0
Acts h = (n : ℕ) (dir : Dir) → IsIn (told.Verdict h.txn n (attempt_verdict dir)) (step_at h.at).told → IsIn (log.Attempt h.txn n dir) (step_at h.at).records

quiet_acts : (h : Here) → Quiet h.txn (step_at h.at) → Acts h
quiet_acts h q n dir k = absurd (none_in h.txn n (attempt_verdict dir) (step_at h.at).told q.told k)

silent_acts : (h : Here) (made : Made) → Stands h → MayTake h.at.site h.at.input → on_input h.at h.at.input nothing ≡ made → More h.txn nothing made → Acts h
silent_acts h made s fits is more n dir k = absurd (by (in_parts (told.Verdict h.txn n (attempt_verdict dir)) made.told x.events (subst (λ z. IsIn (told.Verdict h.txn n (attempt_verdict dir)) z) x.told k)))
  where
    x : Adds made (step_at h.at)
    x = step_adds h made s fits is

    by : IsIn (told.Verdict h.txn n (attempt_verdict dir)) made.told ⊎ IsIn (told.Verdict h.txn n (attempt_verdict dir)) x.events → ⊥
    by (inl j) = none_in h.txn n (attempt_verdict dir) more.events more.silent (subst (λ z. IsIn (told.Verdict h.txn n (attempt_verdict dir)) z) more.told j)
    by (inr j) = none_in h.txn n (attempt_verdict dir) x.events (silent_all h.txn x.events x.silent) j

-- a step that comes to a verdict
verdict_acts : (h : Here) (m : ℕ) (group : List ℕ) (reports : List SiteReport) (made : Made) → Stands h → MayTake h.at.site h.at.input → on_input h.at h.at.input nothing ≡ and_verdict h.at h.txn m group reports made →
    More h.txn nothing made → (IsToAttempt (verdict_of h.at.weights h.txn.sites reports) → may_attempt h.at h.txn m made ≡ true) → Acts h
verdict_acts h m group reports made s fits is silent may n dir k = by (in_parts attempt_verdictld now.told x.events (subst (λ z. IsIn attempt_verdictld z) x.told k))
  where
    a : At
    a = h.at

    t : Txn
    t = h.txn

    v : Verdict
    v = verdict_of a.weights t.sites reports

    now : Made
    now = and_verdict a t m group reports made

    attempt_verdictld : Told
    attempt_verdictld = told.Verdict t n (attempt_verdict dir)

    x : Adds now (step_at a)
    x = step_adds h now s fits is

    more : More t (and_tell (told.Verdict t m v) made) now
    more = more_verdict a t m group reports made

    acts : (d : Dir) → v ≡ attempt_verdict d → IsIn (log.Attempt t m d) now.records
    acts Commit to = rw to (attempt_in a t m Commit group (and_tell (told.Verdict t m verdict.PreCommit) made) (may (inl to)))
    acts Abort to = rw to (attempt_in a t m Abort group (and_tell (told.Verdict t m verdict.PreAbort) made) (may (inr to)))

    same_told : (p : ℕ) (w : Verdict) (q : ℕ) (z : Verdict) → told.Verdict t p w ≡ told.Verdict t q z → (p ≡ q) × (w ≡ z)
    same_told p w q z same = (cc, cc)

    first : IsIn attempt_verdictld made.told ⊎ IsIn attempt_verdictld (told.Verdict t m v ∷ []) → IsIn (log.Attempt t n dir) (step_at a).records
    first (inl j) = absurd (none_in t n (attempt_verdict dir) silent.events silent.silent (subst (λ z. IsIn attempt_verdictld z) silent.told j))
    first (inr (inl same)) =
        let p = same_told n (attempt_verdict dir) m v same in
        let has : IsIn (log.Attempt t m dir) now.records = acts dir (sym p.1) in
        subst (λ z. IsIn (log.Attempt t n dir) z) (sym x.records) (in_left (log.Attempt t n dir) now.records x.more (subst (λ z. IsIn (log.Attempt t z dir) now.records) (sym p.0) has))
    first (inr (inr j)) = absurd j

    told_now : IsIn attempt_verdictld (made.told ++ told.Verdict t m v ∷ []) ⊎ IsIn attempt_verdictld more.events → IsIn (log.Attempt t n dir) (step_at a).records
    told_now (inl j) = first (in_parts attempt_verdictld made.told (told.Verdict t m v ∷ []) j)
    told_now (inr j) = absurd (none_in t n (attempt_verdict dir) more.events more.silent j)

    by : IsIn attempt_verdictld now.told ⊎ IsIn attempt_verdictld x.events → IsIn (log.Attempt t n dir) (step_at a).records
    by (inl j) = told_now (in_parts attempt_verdictld (made.told ++ told.Verdict t m v ∷ []) more.events (subst (λ z. IsIn attempt_verdictld z) more.told j))
    by (inr j) = absurd (none_in t n (attempt_verdict dir) x.events (silent_all t x.events x.silent) j)

-- packets tell nothing
cast_told : (a : At) (t : Txn) (sites : List ℕ) (m : Message) (made : Made) → More t nothing made → More t nothing (and_cast a sites m made)
cast_told a t sites m made k = more_cast a t nothing made sites m k

-- the guard sees only what was recorded
same_guard : (a : At) (t : Txn) (n : ℕ) (one other : Made) → one.records ≡ other.records → may_attempt a t n one ≡ may_attempt a t n other
same_guard a t n one other same = ap (λ rs. may_attempt a t n (record { records = rs; outs = []; told = []; own = [] })) same

-- the whole group was heard
join_acts : (h : Here) (x : Election) (made : Made) → Holds h → Stands h → MayTake h.at.site h.at.input → made.records ≡ [] → More h.txn nothing made → on_input h.at h.at.input nothing ≡ and_join h.at h.txn x made → Acts h
join_acts h x made guards s fits bare silent is = by (all_heard x && nat_lt (greatest_heard x) 4294967295 && nat_le (elected_now h.at h.txn made) (greatest_heard x)) refl
  where
    a : At
    a = h.at

    t : Txn
    t = h.txn

    top : ℕ
    top = suc (greatest_heard x)

    report : SiteReport
    report = record { site = a.site; state = state_now a t made; attempt = attempt_now a t made }

    called : Made
    called = and_cast a x.group (msg.Elected t top) (and_record (log.Join t top) made)

    noted : called.records ≡ (and_record (log.Join t top) nothing).records
    noted = cast_records a x.group (msg.Elected t top) (and_record (log.Join t top) made) ∙ ap (λ rs. rs ++ log.Join t top ∷ []) bare

    said : More t nothing called
    said = cast_told a t x.group (msg.Elected t top) (and_record (log.Join t top) made) ((more_kept a t nothing).records (log.Join t top) made tt silent)

    own : report ≡ own_report a t
    own = ap (λ rs. let r : SiteReport = record { site = a.site; state = state_now a t (record { records = rs; outs = []; told = []; own = [] }); attempt = attempt_now a t (record { records = rs; outs = []; told = []; own = [] }) } in r) bare

    below : nat_le (elected_now a t made) (greatest_heard x) ≡ true → elected_now a t nothing < top
    below low =
        let most : elected_now a t made ≤ greatest_heard x = leb-true (elected_now a t made) (greatest_heard x) low in
        let same : elected_now a t made ≡ elected_now a t nothing = ap (λ rs. elected_now a t (record { records = rs; outs = []; told = []; own = [] })) bare in
        omega (arith, most, same)

    alone : (l : List ℕ) → others a.site x.group ≡ l → nat_le (elected_now a t made) (greatest_heard x) ≡ true → and_join a t x made ≡ behind_join a t top x report l called → Acts h
    alone [] none low joins =
        verdict_acts h top x.group (report ∷ []) called s fits (is ∙ joins) said
        (λ to. same_guard a t top called (and_record (log.Join t top) nothing) noted ∙ guards.alone top (below low) (subst (λ r. IsToAttempt (verdict_of a.weights t.sites (r ∷ []))) own to))
    alone (y ∷ ys) some low joins = silent_acts h called s fits (is ∙ joins) said

    by : (b : Bool) → (all_heard x && nat_lt (greatest_heard x) 4294967295 && nat_le (elected_now a t made) (greatest_heard x)) ≡ b → Acts h
    by true test =
        alone (others a.site x.group) refl (and_parts (all_heard x && nat_lt (greatest_heard x) 4294967295) (nat_le (elected_now a t made) (greatest_heard x)) test).1
        (let joins : and_join a t x made ≡ behind_join a t top x report (others a.site x.group) called = rw test refl in joins)
    by false test = silent_acts h made s fits (is ∙ (let idle : and_join a t x made ≡ made = rw test refl in idle)) silent

-- an answer to a call
last_acts : (h : Here) (f : ℕ) (call : Call) (k : ℕ) → Holds h → Stands h → MayTake h.at.site h.at.input → on_input h.at h.at.input nothing ≡ on_last h.at f h.txn call k nothing → Acts h
last_acts h f call k guards s fits is = by (election_in_progress h.at.site h.at.life.inc h.txn h.at.life.steps) refl
  where
    idle : on_last h.at f h.txn call k nothing ≡ nothing → Acts h
    idle none = silent_acts h nothing s fits (is ∙ none) (more_itself h.txn nothing)

    heard : (e : Election) (o : Option Election) → election_in_progress h.at.site h.at.life.inc h.txn h.at.life.steps ≡ Some e → hear e f call k ≡ o → Acts h
    heard e None here took = idle (rw (here, took) refl)
    heard e (Some x) here took =
        join_acts h x nothing guards s fits refl (more_itself h.txn nothing) (is ∙ (let joins : on_last h.at f h.txn call k nothing ≡ and_join h.at h.txn x nothing = rw (here, took) refl in joins))

    by : (o : Option Election) → election_in_progress h.at.site h.at.life.inc h.txn h.at.life.steps ≡ o → Acts h
    by None here = idle (rw here refl)
    by (Some e) here = heard e (hear e f call k) here refl

-- a new election
elect_acts : (h : Here) (group : List ℕ) → Holds h → Stands h → MayTake h.at.site h.at.input → on_input h.at h.at.input nothing ≡ on_elect h.at h.txn group nothing → Acts h
elect_acts h group guards s fits is =
    join_acts h e (and_cast h.at group (msg.Ask h.txn e.call) nothing) guards s fits (cast_records h.at group (msg.Ask h.txn e.call) nothing)
    (cast_told h.at h.txn group (msg.Ask h.txn e.call) nothing (more_itself h.txn nothing)) is
  where
    e : Election
    e = begun h.at.site (next_call h.at.life.inc h.at.life.steps) group (elected_now h.at h.txn nothing)

-- a report
report_acts : (h : Here) (packet : Packet) (k : ℕ) (st : State) (attempt : ℕ) → Holds h → Stands h → MayTake h.at.site h.at.input → h.at.input ≡ input.Deliver packet → packet.msg ≡ msg.Report h.txn k st attempt →
    on_input h.at h.at.input nothing ≡ on_report h.at h.txn k (record { site = packet.«from»; state = st; attempt = attempt }) nothing → Acts h
report_acts h packet k st attempt guards s fits taken says is = by (election_in_progress h.at.site h.at.life.inc h.txn h.at.life.steps) refl
  where
    r : SiteReport
    r = record { site = packet.«from»; state = st; attempt = attempt }

    idle : on_report h.at h.txn k r nothing ≡ nothing → Acts h
    idle none = silent_acts h nothing s fits (is ∙ none) (more_itself h.txn nothing)

    counts : (e x : Election) → election_in_progress h.at.site h.at.life.inc h.txn h.at.life.steps ≡ Some e → take_report e k r ≡ Some x → (b : Bool) → all_reported x ≡ b → Acts h
    counts e x here took true all =
        verdict_acts h k x.group x.reports nothing s fits
        (is ∙ (let concludes : on_report h.at h.txn k r nothing ≡ and_verdict h.at h.txn k x.group x.reports nothing =
        rw (here, took) (let choice : (if all_reported x then and_verdict h.at h.txn k x.group x.reports nothing else nothing) ≡ and_verdict h.at h.txn k x.group x.reports nothing = rw all refl in choice) in concludes))
        (more_itself h.txn nothing)
        (λ to. guards.last k x (record { packet = packet; taken = taken; state = st; attempt = attempt; reports = says; was = e; in_progress = here; counts = took; complete = all }) to)
    counts e x here took false all =
        idle (rw (here, took) (let choice : (if all_reported x then and_verdict h.at h.txn k x.group x.reports nothing else nothing) ≡ nothing = rw all refl in choice))

    takes : (e : Election) (o : Option Election) → election_in_progress h.at.site h.at.life.inc h.txn h.at.life.steps ≡ Some e → take_report e k r ≡ o → Acts h
    takes e None here took = idle (rw (here, took) refl)
    takes e (Some x) here took = counts e x here took (all_reported x) refl

    by : (o : Option Election) → election_in_progress h.at.site h.at.life.inc h.txn h.at.life.steps ≡ o → Acts h
    by None here = idle (rw here refl)
    by (Some e) here = takes e (take_report e k r) here refl

-- whatever the site takes
pub step_acts : (h : Here) → Holds h → Stands h → MayTake h.at.site h.at.input → Acts h
step_acts h guards s fits = by h.at.input refl
  where
    t : Txn
    t = h.txn

    plain : (i : Input) → h.at.input ≡ i → is_plain i ≡ true → Acts h
    plain i is none = quiet_acts h (quiet_plain h s fits (ap is_plain is ∙ none))

    other : (i : Input) → h.at.input ≡ i → is_plain i ≡ false → IsOther t i → Acts h
    other i is tried apart = quiet_acts h (quiet_step h (on_input h.at i nothing) s fits (ap (λ z. on_input h.at z nothing) is) (quiet_other h.at t i tried apart))

    commits : (u : Txn) → h.at.input ≡ input.Commit u → (b : Bool) → same_txn t u ≡ b → Acts h
    commits u is true same =
        silent_acts h (on_input h.at (input.Commit t) nothing) s fits (ap (λ i. on_input h.at i nothing) (is ∙ ap input.Commit (sym (same_is t u same))))
        (more_refused h.at t (on_commit h.at t nothing) (more_commit h.at t))
    commits u is false apart = other (input.Commit u) is refl apart

    elects : (u : Txn) (group : List ℕ) → h.at.input ≡ input.Elect u group → (b : Bool) → same_txn t u ≡ b → Acts h
    elects u group is true same = elect_acts h group guards s fits (ap (λ i. on_input h.at i nothing) (is ∙ ap (λ v. input.Elect v group) (sym (same_is t u same))))
    elects u group is false apart = other (input.Elect u group) is refl apart

    message : (packet : Packet) → h.at.input ≡ input.Deliver packet → (z : Message) → packet.msg ≡ z → Acts h
    message packet is z says = of_message z says
      where
        calm : (z : Message) → packet.msg ≡ z → is_plain_message z ≡ true → Acts h
        calm z says none = plain (input.Deliver packet) is (ap is_plain_message says ∙ none)

        pick : (u : Txn) (z : Message) → packet.msg ≡ z → is_plain_message z ≡ false → same_txn t (txn_in z) ≡ same_txn t u → (same_txn t u ≡ true → Acts h) → (b : Bool) → same_txn t u ≡ b → Acts h
        pick u z says tried of mine true same = mine same
        pick u z says tried of mine false apart = other (input.Deliver packet) is (ap is_plain_message says ∙ tried) (ap (λ (w : Message). same_txn t (txn_in w)) says ∙ of ∙ apart)

        takes : (z : Message) → packet.msg ≡ z → on_input h.at h.at.input nothing ≡ on_message h.at packet.«from» z nothing
        takes z says = ap (λ i. on_input h.at i nothing) is ∙ ap (λ y. on_message h.at packet.«from» y nothing) says

        of_message : (z : Message) → packet.msg ≡ z → Acts h
        of_message (msg.Do u k op) says = calm (msg.Do u k op) says refl
        of_message (msg.Done u k inc answer) says = calm (msg.Done u k inc answer) says refl
        of_message (msg.Died u k older) says = calm (msg.Died u k older) says refl
        of_message (msg.Ask u call) says = calm (msg.Ask u call) says refl
        of_message (msg.VoteReq u inc count) says = calm (msg.VoteReq u inc count) says refl
        of_message (msg.Vote u false) says = calm (msg.Vote u false) says refl
        of_message (msg.Ack u k dir) says = calm (msg.Ack u k dir) says refl
        of_message (msg.Decide u dir) says = calm (msg.Decide u dir) says refl
        of_message (msg.LastElected u call k) says =
            pick u (msg.LastElected u call k) says refl refl
            (λ same. last_acts h packet.«from» call k guards s fits (takes (msg.LastElected t call k) (says ∙ ap (λ v. msg.LastElected v call k) (sym (same_is t u same))))) (same_txn t u) refl
        of_message (msg.Elected u k) says =
            pick u (msg.Elected u k) says refl refl
            (λ same. silent_acts h (on_elected h.at packet.«from» t k nothing) s fits (takes (msg.Elected t k) (says ∙ ap (λ v. msg.Elected v k) (sym (same_is t u same)))) (more_elected h.at t packet.«from» k)) (same_txn t u) refl
        of_message (msg.Report u k st attempt) says =
            pick u (msg.Report u k st attempt) says refl refl
            (λ same. (let word : packet.msg ≡ msg.Report t k st attempt = says ∙ ap (λ v. msg.Report v k st attempt) (sym (same_is t u same)) in
            report_acts h packet k st attempt guards s fits is word (takes (msg.Report t k st attempt) word))) (same_txn t u) refl
        of_message (msg.Vote u true) says =
            pick u (msg.Vote u true) says refl refl
            (λ same. silent_acts h (on_yes h.at t nothing) s fits (takes (msg.Vote t true) (says ∙ ap (λ v. msg.Vote v true) (sym (same_is t u same)))) (more_yes h.at t)) (same_txn t u) refl
        of_message (msg.Pre u k dir) says =
            pick u (msg.Pre u k dir) says refl refl
            (λ same. silent_acts h (on_pre h.at packet.«from» t k dir nothing) s fits (takes (msg.Pre t k dir) (says ∙ ap (λ v. msg.Pre v k dir) (sym (same_is t u same)))) (more_pre h.at t packet.«from» k dir)) (same_txn t u) refl

    by : (i : Input) → h.at.input ≡ i → Acts h
    by (input.Begin sites) is = plain (input.Begin sites) is refl
    by (input.Do u op) is = plain (input.Do u op) is refl
    by (input.Cancel u) is = plain (input.Cancel u) is refl
    by (input.Expire u) is = plain (input.Expire u) is refl
    by (input.Commit u) is = commits u is (same_txn t u) refl
    by (input.Elect u group) is = elects u group is (same_txn t u) refl
    by (input.Deliver packet) is = message packet is packet.msg refl
