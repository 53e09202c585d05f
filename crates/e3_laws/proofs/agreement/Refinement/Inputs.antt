-- What a coordinator does with a begin, an operation, a commit and a cancel, and any site with an expiry.
use Rattle.std.proofs.Common.{◌≡◌, inl, inr, ◌∷◌, [], ◌==◌, ℕ, suc, Bool, true, false, List, length, fold, Option, Some, None, refl, sym, ap, subst, ◌∙◌, eqb-true}
use Rattle.std.specs.Prelude.{count_by}
use Rattle.e3_types.specs.declared.entries.Refusal.{Refusal}
use Rattle.e3_types.specs.declared.entries.Refusal.TheVariants as refusal
use Rattle.e3_types.specs.declared.entries.Told.TheVariants as told
use Rattle.e3_types.specs.declared.messages.Message.TheVariants as msg
use Rattle.e3_types.specs.declared.transactions.Dir.{Dir}
use Rattle.e3_types.specs.declared.transactions.Dir.TheVariants.{Abort, Commit}
use Rattle.e3_types.specs.declared.transactions.Op.{Op}
use Rattle.e3_types.specs.declared.transactions.State.{State}
use Rattle.e3_types.specs.declared.transactions.State.TheVariants.{Q, W, Pc, Pa, C, A}
use Rattle.e3_types.specs.declared.transactions.Txn.{Txn}
use Rattle.e3_types.specs.Same.{same_txn}
use Rattle.e3_types.specs.Sets.{has_site, others}
use Rattle.e3_world.specs.declared.lives.At.{At}
use Rattle.e3_world.specs.declared.lives.Expected.{Expected}
use Rattle.e3_world.specs.declared.lives.Made.{Made}
use Rattle.e3_world.specs.Logs.{decision, key_of}
use Rattle.e3_world.specs.Making.{nothing, log_now, state_now, elected_now, attempt_now, is_present, may_abort, and_send, and_abort, and_vote}
use Rattle.e3_world.specs.Operations.{issued, unanswered, kept_reason, expected}
use Rattle.e3_world.specs.Steps.{refuse, refuse_late, or_refused, is_begin, on_begin, and_ask, on_commit, on_expire}
use Rattle.e3_laws.specs.agreement.Logs.{IsIn}
use Rattle.e3_laws.specs.agreement.Rules.{Other, MovesOn, CallsOff, MayDecide}
use Rattle.e3_laws.specs.agreement.Rows.{Here, party, notes_now, Stands, Good}
use Rattle.e3_laws.proofs.agreement.Refinement.Lists.{in_others, same_from, has_from_in}
use Rattle.e3_laws.proofs.agreement.Refinement.Sites.{others_in, within_self}
use Rattle.e3_laws.proofs.agreement.Refinement.Readings.{open_is}
use Rattle.e3_laws.proofs.agreement.Refinement.Makers.{MayLeave, keep_tell, keep_send}
use Rattle.e3_laws.proofs.agreement.Refinement.Tests.{of_txn, reads_now, attempt_means, may_abort_means, may_refuse}
use Rattle.e3_laws.proofs.agreement.Refinement.Deciding.{only_word, keep_abort, keep_decide}
use Rattle.e3_laws.proofs.agreement.Refinement.Votes.{keep_vote, vote_stands, vote_now_waits}
use Rattle.e3_laws.proofs.agreement.Refinement.Attempts.{keep_attempt}
use Rattle.e3_laws.proofs.steps.Tests.{same_is}

pub good_nothing : (h : Here) → Good h nothing
good_nothing h = record { notes = tt; outs = λ p k. absurd k; from_here = λ p k. absurd k; sends = λ p k. absurd k; own = refl; joins = λ n is. absurd (let none : None ≡ Some n = is in cc) }

pub row_begin : (h : Here) (sites : List ℕ) → Good h (on_begin h.at sites nothing)
row_begin h sites = keep_tell h nothing (told.Began (record { site = h.at.site; inc = h.at.life.inc; seq = suc (count_by is_begin h.at.life.steps); sites = sites })) (good_nothing h)

refused : (h : Here) (u : Txn) (o : Option Refusal) (made : Made) → (o ≡ None → Good h made) → Good h (or_refused u o made)
refused h u (Some why) made else_good = keep_tell h nothing (told.Refused u why) (good_nothing h)
refused h u None made else_good = else_good refl

pub row_issue : (h : Here) (u : Txn) (op : Op) → has_site u.sites h.at.site ≡ true → has_site u.sites (key_of op).site ≡ true
    → Good h (or_refused u (refuse h.at u false nothing) (and_send h.at (key_of op).site (msg.Do u (suc (length (issued u h.at.life.steps))) op) nothing))
row_issue h u op member there =
    refused h u (refuse h.at u false nothing) (and_send h.at (key_of op).site (msg.Do u (suc (length (issued u h.at.life.steps))) op) nothing)
    (λ granted. keep_send h nothing (key_of op).site (msg.Do u (suc (length (issued u h.at.life.steps))) op) (good_nothing h) (λ q. subst (λ z. has_site u.sites z ≡ true) (eqb-true (key_of op).site h.at.site q) there)
    (only_word (λ w. MayLeave h (notes_now h nothing) (key_of op).site w) (same_txn h.txn u) Other
    (λ q. (tt, λ n. subst (λ (v : Txn). (has_site v.sites h.at.site ≡ true) × (has_site v.sites (key_of op).site ≡ true)) (sym (same_is h.txn u q)) (member, there)))))

-- what is not refused is in q
refuse_idle : (a : At) (u : Txn) → refuse a u false nothing ≡ None → state_now a u nothing ≡ Q
refuse_idle a u granted = by (decision u (log_now a nothing)) (kept_reason u a.life.steps) refl refl
  where
    busy : (o : Option ℕ) → unanswered u (log_now a nothing) a.life.steps ≡ o → decision u (log_now a nothing) ≡ None → is_present a u ≡ true → state_now a u nothing ≡ Q
    busy (Some n) waits is here = absurd (let refused : refuse a u false nothing ≡ Some (refusal.Busy n) = rw (is, here, waits) refl in cc)
    busy None waits is here = late (state_now a u nothing) refl
      where
        too_late : refuse_late a u nothing ≡ Some (refusal.TooLate (attempt_now a u nothing)) → state_now a u nothing ≡ Q
        too_late late = absurd (let refused : refuse a u false nothing ≡ Some (refusal.TooLate (attempt_now a u nothing)) = rw (is, here, waits) late in cc)

        late : (st : State) → state_now a u nothing ≡ st → state_now a u nothing ≡ Q
        late Q state = state
        late W state = too_late (rw state refl)
        late Pc state = too_late (rw state refl)
        late Pa state = too_late (rw state refl)
        late C state = too_late (rw state refl)
        late A state = too_late (rw state refl)

    undecided : (b : Bool) → is_present a u ≡ b → decision u (log_now a nothing) ≡ None → state_now a u nothing ≡ Q
    undecided true here is = busy (unanswered u (log_now a nothing) a.life.steps) refl is here
    undecided false here is = absurd (let refused : refuse a u false nothing ≡ Some refusal.NoTxn = rw (is, here) refl in cc)

    by : (d : Option Dir) (l : List Refusal) → decision u (log_now a nothing) ≡ d → kept_reason u a.life.steps ≡ l → state_now a u nothing ≡ Q
    by None l is why = undecided (is_present a u) refl is
    by (Some dir) [] is why = absurd (let refused : refuse a u false nothing ≡ Some (refusal.Over dir) = rw (is, why) refl in cc)
    by (Some dir) (w ∷ more) is why = absurd (let refused : refuse a u false nothing ≡ Some w = rw (is, why) refl in cc)

-- what is not refused for a cancel is undecided, without an attempt
refuse_free : (a : At) (u : Txn) → refuse a u true nothing ≡ None → (decision u (log_now a nothing) ≡ None) × (attempt_now a u nothing ≡ 0)
refuse_free a u granted = by (decision u (log_now a nothing)) (kept_reason u a.life.steps) refl refl
  where
    tried : (b : Bool) → (attempt_now a u nothing == 0) ≡ b → decision u (log_now a nothing) ≡ None → is_present a u ≡ true → (decision u (log_now a nothing) ≡ None) × (attempt_now a u nothing ≡ 0)
    tried true zero is here = (is, eqb-true (attempt_now a u nothing) 0 zero)
    tried false zero is here = absurd (let refused : refuse a u true nothing ≡ Some (refusal.TooLate (attempt_now a u nothing)) = rw (is, here, zero) refl in cc)

    undecided : (b : Bool) → is_present a u ≡ b → decision u (log_now a nothing) ≡ None → (decision u (log_now a nothing) ≡ None) × (attempt_now a u nothing ≡ 0)
    undecided true here is = tried (attempt_now a u nothing == 0) refl is here
    undecided false here is = absurd (let refused : refuse a u true nothing ≡ Some refusal.NoTxn = rw (is, here) refl in cc)

    by : (d : Option Dir) (l : List Refusal) → decision u (log_now a nothing) ≡ d → kept_reason u a.life.steps ≡ l → (decision u (log_now a nothing) ≡ None) × (attempt_now a u nothing ≡ 0)
    by None l is why = undecided (is_present a u) refl is
    by (Some dir) [] is why = absurd (let refused : refuse a u true nothing ≡ Some (refusal.Over dir) = rw (is, why) refl in cc)
    by (Some dir) (w ∷ more) is why = absurd (let refused : refuse a u true nothing ≡ Some w = rw (is, why) refl in cc)

-- other sites are asked for their votes
keep_asks : (h : Here) (u : Txn) (sites : List ℕ) (made : Made) → has_site u.sites h.at.site ≡ true → ((y : ℕ) → IsIn y sites → IsIn y u.sites × (y ≡ h.at.site → ⊥)) → Good h made → Good h (fold (and_ask h.at u) made sites)
keep_asks h u [] made member away good = good
keep_asks h u (s ∷ sites) made member away good =
    let e : Expected = expected h.at.site h.at.life.inc u h.at.life.steps s in
    keep_asks h u sites (and_ask h.at u made s) member (λ y k. away y (inr k))
    (keep_send h made s (msg.VoteReq u e.inc e.count) good (λ q. absurd ((away s (inl refl)).1 (eqb-true s h.at.site q)))
    (only_word (λ w. MayLeave h (notes_now h made) s w) (same_txn h.txn u) Other
    (λ q. (tt, λ n. subst (λ (v : Txn). (has_site v.sites h.at.site ≡ true) × (has_site v.sites s ≡ true)) (sym (same_is h.txn u q)) (member, has_from_in s u.sites (away s (inl refl)).0)))))

row_commit : (h : Here) (u : Txn) → Stands h → has_site u.sites h.at.site ≡ true → u.site ≡ h.at.site → state_now h.at u nothing ≡ Q → Good h (on_commit h.at u nothing)
row_commit h u s member coordinates idle = by (elected_now h.at u nothing == 1) refl
  where
    voted : (elected_now h.at u nothing == 1) ≡ true → Good h (and_vote h.at u nothing)
    voted one = keep_vote h nothing u s (good_nothing h) idle one

    first : (elected_now h.at u nothing == 1) ≡ true → others h.at.site u.sites ≡ [] → h.txn ≡ u → MovesOn (party h) h.before.sent (notes_now h (and_vote h.at u nothing)) h.at.site 1 Commit
    first one none same = inl (record {
      here = sym coordinates ∙ sym (ap (λ (v : Txn). v.site) same);
      one = refl;
      commits = refl;
      waits = vote_now_waits h nothing u same;
      votes = λ y m ne. absurd (subst (λ (l : List ℕ). IsIn y l) none (in_others h.at.site y u.sites (subst (λ (v : Txn). IsIn y v.sites) same m) ne));
    })

    asks : (elected_now h.at u nothing == 1) ≡ true → (l : List ℕ) → others h.at.site u.sites ≡ l → Good h (on_commit h.at u nothing)
    asks one [] is =
        rw (one, is) (keep_attempt h (and_vote h.at u nothing) u 1 Commit u.sites s (voted one) (λ same. member) (λ same. within_self u.sites) (first one is) (λ same e. vote_stands h nothing u (same_from h.txn u same)))
    asks one (y ∷ ys) is =
        rw (one, is) (keep_asks h u (y ∷ ys) (and_vote h.at u nothing) member
        (λ z k. others_in h.at.site z u.sites (subst (λ (l : List ℕ). IsIn z l) (sym is) k)) (voted one))

    by : (b : Bool) → (elected_now h.at u nothing == 1) ≡ b → Good h (on_commit h.at u nothing)
    by true one = asks one (others h.at.site u.sites) refl
    by false one = rw one (keep_abort h nothing u (good_nothing h) (may_refuse h nothing u s (λ same. member) idle))

pub row_commits : (h : Here) (u : Txn) → Stands h → has_site u.sites h.at.site ≡ true → u.site ≡ h.at.site → Good h (or_refused u (refuse h.at u false nothing) (on_commit h.at u nothing))
row_commits h u s member coordinates = refused h u (refuse h.at u false nothing) (on_commit h.at u nothing) (λ granted. row_commit h u s member coordinates (refuse_idle h.at u granted))

pub row_cancel : (h : Here) (u : Txn) → Stands h → u.site ≡ h.at.site → Good h (or_refused u (refuse h.at u true nothing) (and_abort h.at u nothing))
row_cancel h u s coordinates = refused h u (refuse h.at u true nothing) (and_abort h.at u nothing) (λ granted. keep_abort h nothing u (good_nothing h) (may granted))
  where
    may : refuse h.at u true nothing ≡ None → h.txn ≡ u → MayDecide (party h) h.before.sent (notes_now h nothing) h.at.site Abort
    may granted same =
        let free = refuse_free h.at u granted in record {
          open_yet = open_is (notes_now h nothing) (sym (reads_now h nothing s).decides ∙ of_txn h u (λ v. decision v (log_now h.at nothing) ≡ None) same free.0);
          voted = λ e. cc;
          cause = CallsOff (sym coordinates ∙ sym (ap (λ (v : Txn). v.site) same)) refl (sym (attempt_means h nothing u s same) ∙ free.1);
        }

pub row_expire : (h : Here) (u : Txn) → Stands h → has_site u.sites h.at.site ≡ true → Good h (on_expire h.at u nothing)
row_expire h u s member = by (may_abort h.at u nothing) (state_now h.at u nothing) refl refl
  where
    by : (b : Bool) (st : State) → may_abort h.at u nothing ≡ b → state_now h.at u nothing ≡ st → Good h (on_expire h.at u nothing)
    by true st may is = rw may (keep_abort h nothing u (good_nothing h) (may_abort_means h nothing u s may))
    by false Q may is = rw (may, is) (keep_decide h nothing u Abort (good_nothing h) (may_refuse h nothing u s (λ same. member) is))
    by false W may is = rw (may, is) (keep_tell h nothing (told.Kept u W) (good_nothing h))
    by false Pc may is = rw (may, is) (keep_tell h nothing (told.Kept u Pc) (good_nothing h))
    by false Pa may is = rw (may, is) (keep_tell h nothing (told.Kept u Pa) (good_nothing h))
    by false C may is = rw (may, is) (keep_tell h nothing (told.Kept u C) (good_nothing h))
    by false A may is = rw (may, is) (keep_tell h nothing (told.Kept u A) (good_nothing h))
