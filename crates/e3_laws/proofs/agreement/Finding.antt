-- Decisions that are read off a log stand in it, and those that a state, a refusal or a verdict says.
use Rattle.std.proofs.Common.{◌≡◌, ◌⊎◌, inl, inr, ◌∷◌, [], ◌++◌, ◌==◌, ℕ, Bool, true, false, List, map, Option, Some, None, refl, sym, ap, subst, ◌∙◌, if◌then◌else◌}
use Rattle.std.specs.List.{flat_map}
use Rattle.std.proofs.lemmas.Bool.{and_cases}
use Rattle.e3_types.specs.declared.entries.Refusal.{Refusal}
use Rattle.e3_types.specs.declared.entries.Refusal.TheVariants as refusal
use Rattle.e3_types.specs.declared.entries.Told.{Told}
use Rattle.e3_types.specs.declared.entries.Told.TheVariants as told
use Rattle.e3_types.specs.declared.records.Record.{Record}
use Rattle.e3_types.specs.declared.records.Record.TheVariants as log
use Rattle.e3_types.specs.declared.transactions.Dir.{Dir}
use Rattle.e3_types.specs.declared.transactions.Dir.TheVariants.{Abort, Commit}
use Rattle.e3_types.specs.declared.transactions.State.{State}
use Rattle.e3_types.specs.declared.transactions.State.TheVariants.{Q, W, Pc, Pa, C, A}
use Rattle.e3_types.specs.declared.transactions.Txn.{Txn}
use Rattle.e3_types.specs.declared.verdicts.SiteReport.{SiteReport}
use Rattle.e3_types.specs.Same.{same_txn}
use Rattle.e3_types.specs.Sets.{has_site}
use Rattle.e3_world.specs.declared.lives.At.{At}
use Rattle.e3_world.specs.declared.lives.Moment.{Moment}
use Rattle.e3_world.specs.Logs.{decision, attempted, has_voted, state_of}
use Rattle.e3_world.specs.Making.{nothing, log_now, state_now, attempt_now, open_now, is_present, may_decide}
use Rattle.e3_world.specs.Operations.{unanswered, reason_in, kept_reason}
use Rattle.e3_world.specs.Safe.{Said, says, said_state, said_refusal}
use Rattle.e3_world.specs.Steps.{refuse, refuse_late}
use Rattle.e3_laws.specs.agreement.Logs.{IsIn, Vote, Decision, Final, status, attempt, before_join, Backs}
use Rattle.e3_laws.specs.agreement.Rules.{Report, Reply, Replied, letter}
use Rattle.e3_laws.specs.agreement.Verdicts.{status_in, reply_of, FinalIn}
use Rattle.e3_laws.proofs.agreement.Protocol.Agree.{agrees, all_voted}
use Rattle.e3_laws.proofs.agreement.Protocol.Logs.{before_join_backs}
use Rattle.e3_laws.proofs.agreement.Protocol.Shares.{in_from_has}
use Rattle.e3_laws.specs.agreement.Rows.{Here, party, own_log, Stands}
use Rattle.e3_laws.proofs.agreement.Refinement.Lists.{in_map, in_flat_map}
use Rattle.e3_laws.proofs.agreement.Refinement.Readings.{has_from_vote, decision_in}
use Rattle.e3_laws.proofs.agreement.Refinement.Tests.{reads_now}
use Rattle.e3_laws.proofs.agreement.Refinement.Gathered.{Reported}
use Rattle.e3_laws.proofs.agreement.Saying.{Stood, AllStood, one_said}
use Rattle.e3_laws.proofs.steps.Tests.{some_is, same_is}
use Rattle.e3_laws.proofs.agreement.Refinement.Telling.{decision_found}

-- the decision of a transaction that is read off a log stands in it
pub found : (t : Txn) (d : Dir) (rs : List Record) → decision t rs ≡ Some d → IsIn (log.Decision t d) rs
found t d rs is = go (decision_found t d rs None is)
  where
    go : (None ≡ Some d) ⊎ IsIn (log.Decision t d) rs → IsIn (log.Decision t d) rs
    go (inl e) = cc
    go (inr k) = k

-- a state says no decision but the one of the log
pub state_said : (t : Txn) (rs : List Record) (s : Said) → IsIn s (said_state t (state_of t rs)) → Stood rs s
state_said t rs s = by (decision t rs) (attempted t rs) (has_voted t rs) refl refl refl
  where
    by : (d e : Option Dir) (v : Bool) → decision t rs ≡ d → attempted t rs ≡ e → has_voted t rs ≡ v → IsIn s (said_state t (state_of t rs)) → Stood rs s
    by (Some Commit) e v is tries votes = rw is (one_said rs t Commit (found t Commit rs is) s)
    by (Some Abort) e v is tries votes = rw is (one_said rs t Abort (found t Abort rs is) s)
    by None (Some Commit) v is tries votes = rw (is, tries) (λ k. absurd k)
    by None (Some Abort) v is tries votes = rw (is, tries) (λ k. absurd k)
    by None None true is tries votes = rw (is, tries, votes) (λ k. absurd k)
    by None None false is tries votes = rw (is, tries, votes) (λ k. absurd k)

-- who stands as decided has the decision
pub final_found : (t : Txn) (rs : List Record) (d : Dir) → status_in (state_of t rs) ≡ Final d → IsIn (log.Decision t d) rs
final_found t rs d = by (decision t rs) (attempted t rs) (has_voted t rs) refl refl refl
  where
    by : (o e : Option Dir) (v : Bool) → decision t rs ≡ o → attempted t rs ≡ e → has_voted t rs ≡ v → status_in (state_of t rs) ≡ Final d → IsIn (log.Decision t d) rs
    by (Some Commit) e v is tries votes = rw is (λ q. (let way : Commit ≡ d = cc in subst (λ z. IsIn (log.Decision t z) rs) way (found t Commit rs is)))
    by (Some Abort) e v is tries votes = rw is (λ q. (let way : Abort ≡ d = cc in subst (λ z. IsIn (log.Decision t z) rs) way (found t Abort rs is)))
    by None (Some Commit) v is tries votes = rw (is, tries) (λ q. cc)
    by None (Some Abort) v is tries votes = rw (is, tries) (λ q. cc)
    by None None true is tries votes = rw (is, tries, votes) (λ q. cc)
    by None None false is tries votes = rw (is, tries, votes) (λ q. cc)

-- what the earlier steps of the incarnation told stands in the log
abbrev pub Keeps : At → Type 0
Keeps a = (m : Moment) → IsIn m a.life.steps → (e : Told) → IsIn e m.told → AllStood a.life.log e

-- the reason that is kept was told
reason_said : (a : At) (u : Txn) → Keeps a → (why : Refusal) → IsIn why (kept_reason u a.life.steps) → (s : Said) → IsIn s (said_refusal u why) → Stood a.life.log s
reason_said a u keeps why k s says_it =
    let m = in_flat_map (λ (m : Moment). flat_map (reason_in u) m.told) why a.life.steps k in
    let e = in_flat_map (reason_in u) why m.0.told m.2 in
    by e.0 (keeps m.0 m.1 e.0 e.1) e.2
  where
    told_so : (v : Txn) (r : Refusal) (b : Bool) → said_refusal u r ≡ says u Abort → same_txn u v ≡ b → ((q : Said) → IsIn q (says v Abort) → Stood a.life.log q) → IsIn why (if b then r ∷ [] else []) → Stood a.life.log s
    told_so v r true one is all (inl same) =
        all s (subst (λ (w : Txn). IsIn s (says w Abort)) (same_is u v is) (subst (λ z. IsIn s z) one (subst (λ (w : Refusal). IsIn s (said_refusal u w)) same says_it)))
    told_so v r true one is all (inr none) = absurd none
    told_so v r false one is all none = absurd none

    by : (e : Told) → AllStood a.life.log e → IsIn why (reason_in u e) → Stood a.life.log s
    by (told.Died v older) all j = told_so v (refusal.Died older) (same_txn u v) refl refl all j
    by (told.Doomed v site had now) all j = told_so v (refusal.Doomed site had now) (same_txn u v) refl refl all j
    by e all j = absurd j

-- what a refusal says stands in the log
pub refused_said : (a : At) (u : Txn) (cancels : Bool) → Keeps a → (why : Refusal) → refuse a u cancels nothing ≡ Some why → AllStood (log_now a nothing) (told.Refused u why)
refused_said a u cancels keeps = by (decision u (log_now a nothing)) (kept_reason u a.life.steps) refl refl
  where
    Fine : Option Refusal → Type 0
    Fine o = (why : Refusal) → o ≡ Some why → AllStood (log_now a nothing) (told.Refused u why)

    none_said : Fine None
    none_said why is = cc

    plain : (w : Refusal) → said_refusal u w ≡ [] → Fine (Some w)
    plain w none why is s k =
        let same : w ≡ why = cc in
        absurd (subst (λ z. IsIn s z) none (subst (λ (v : Refusal). IsIn s (said_refusal u v)) (sym same) k))

    late : (st : State) → state_now a u nothing ≡ st → Fine (refuse_late a u nothing)
    late Q is = rw is none_said
    late W is = rw is (plain (refusal.TooLate (attempt_now a u nothing)) refl)
    late Pc is = rw is (plain (refusal.TooLate (attempt_now a u nothing)) refl)
    late Pa is = rw is (plain (refusal.TooLate (attempt_now a u nothing)) refl)
    late C is = rw is (plain (refusal.TooLate (attempt_now a u nothing)) refl)
    late A is = rw is (plain (refusal.TooLate (attempt_now a u nothing)) refl)

    busy : (o : Option ℕ) → unanswered u (log_now a nothing) a.life.steps ≡ o → decision u (log_now a nothing) ≡ None → is_present a u ≡ true → Fine (refuse a u false nothing)
    busy (Some n) waits is here = rw (is, here, waits) (plain (refusal.Busy n) refl)
    busy None waits is here = rw (is, here, waits) (late (state_now a u nothing) refl)

    tried : (b : Bool) → (attempt_now a u nothing == 0) ≡ b → decision u (log_now a nothing) ≡ None → is_present a u ≡ true → Fine (refuse a u true nothing)
    tried true zero is here = rw (is, here, zero) none_said
    tried false zero is here = rw (is, here, zero) (plain (refusal.TooLate (attempt_now a u nothing)) refl)

    undecided : (c b : Bool) → is_present a u ≡ b → decision u (log_now a nothing) ≡ None → Fine (refuse a u c nothing)
    undecided c false here is = rw (is, here) (plain refusal.NoTxn refl)
    undecided true true here is = tried (attempt_now a u nothing == 0) refl is here
    undecided false true here is = busy (unanswered u (log_now a nothing) a.life.steps) refl is here

    by : (d : Option Dir) (l : List Refusal) → decision u (log_now a nothing) ≡ d → kept_reason u a.life.steps ≡ l → Fine (refuse a u cancels nothing)
    by None l is kept = undecided cancels (is_present a u) refl is
    by (Some dir) [] is kept = rw (is, kept) over
      where
        over : Fine (Some (refusal.Over dir))
        over why same s k =
            let this : refusal.Over dir ≡ why = cc in
            one_said (log_now a nothing) u dir (found u dir (log_now a nothing) is) s (subst (λ (w : Refusal). IsIn s (said_refusal u w)) (sym this) k)
    by (Some dir) (w ∷ more) is kept = rw (is, kept) reason
      where
        reason : Fine (Some w)
        reason why same s k =
            let this : w ≡ why = cc in
            let old : Stood a.life.log s = reason_said a u keeps w (subst (λ z. IsIn w z) (sym kept) (inl refl)) s (subst (λ (v : Refusal). IsIn s (said_refusal u v)) (sym this) k) in
            in_left_nil (log.Decision s.txn s.dir) a.life.log old
          where
            in_left_nil : (x : Record) (xs : List Record) → IsIn x xs → IsIn x (xs ++ [])
            in_left_nil x [] h = absurd h
            in_left_nil x (z ∷ zs) (inl e) = inl e
            in_left_nil x (z ∷ zs) (inr h) = inr (in_left_nil x zs h)

-- a reply with a final state rests on a decision in some log
pub final_somewhere : (h : Here) (n : ℕ) (d : Dir) (r : Reply) → Stands h → Replied h.before.sent (own_log h) h.at.site n r → r.stood ≡ Final d → (y : ℕ) × IsIn (Decision d) (h.before.log y)
final_somewhere h n d r s (inl came) is =
    (r.site, subst (λ z. Backs z r.tried (h.before.log r.site)) is (s.kept.letters (letter r.site h.at.site (Report n r.stood r.tried)) came).2)
final_somewhere h n d r s (inr own) is =
    let state : status (before_join n (own_log h)) ≡ Final d = sym (ap (λ (z : Reply). z.stood) own) ∙ is in
    (h.at.site, subst (λ z. Backs z (attempt (before_join n (own_log h))) (own_log h)) state (before_join_backs n (own_log h) (s.kept.orderly h.at.site)))

-- where a decision that another site made may not be recorded, it is recorded already
pub stands_already : (h : Here) (d : Dir) → Stands h → has_site h.txn.sites h.at.site ≡ true → (y : ℕ) × IsIn (Decision d) (h.before.log y) → may_decide h.at h.txn d nothing ≡ false
    → IsIn (log.Decision h.txn d) (log_now h.at nothing)
stands_already h d s member there no_more = by d there no_more
  where
    shut : (d : Dir) → (y : ℕ) × IsIn (Decision d) (h.before.log y) → open_now h.at h.txn nothing ≡ false → IsIn (log.Decision h.txn d) (log_now h.at nothing)
    shut d there is =
        let own = some_is (decision h.txn (log_now h.at nothing)) is in
        let noted : IsIn (Decision own.0) (own_log h) = decision_in own.0 (own_log h) (sym (reads_now h nothing s).decides ∙ own.1) in
        subst (λ z. IsIn (log.Decision h.txn z) (log_now h.at nothing)) (agrees (party h) h.before s.kept h.at.site there.0 own.0 d noted there.1)
        (found h.txn own.0 (log_now h.at nothing) own.1)

    by : (d : Dir) → (y : ℕ) × IsIn (Decision d) (h.before.log y) → may_decide h.at h.txn d nothing ≡ false → IsIn (log.Decision h.txn d) (log_now h.at nothing)
    by Abort there is = shut Abort there is
    by Commit there is = elim (and_cases (open_now h.at h.txn nothing) (has_voted h.txn (log_now h.at nothing)) is) [
      | inl closed ↦ shut Commit there closed
      | inr unvoted ↦ absurd (
          let all = all_voted (party h) h.before s.kept (s.kept.reason there.0 Commit there.1) in
          let vote : IsIn Vote (own_log h) = all.0 h.at.site (in_from_has h.at.site h.txn.sites member) in
          let has : has_voted h.txn (log_now h.at nothing) ≡ true = (reads_now h nothing s).votes ∙ has_from_vote (own_log h) vote in
          cc)
    ]

-- what a verdict over reports says as decided stands where it may not be recorded
pub verdict_stands : (h : Here) (n : ℕ) (group : List ℕ) (reports : List SiteReport) (d : Dir) → Stands h → has_site h.txn.sites h.at.site ≡ true → Reported h (own_log h) group n reports
    → FinalIn (map reply_of reports) d → may_decide h.at h.txn d nothing ≡ false → IsIn (log.Decision h.txn d) (log_now h.at nothing)
verdict_stands h n group reports d s member ok final shut =
    let f = in_map reply_of final.0 reports final.1 in
    let replied : Replied h.before.sent (own_log h) h.at.site n final.0 = subst (λ (z : Reply). Replied h.before.sent (own_log h) h.at.site n z) (sym f.2) (ok.replied f.0 f.1) in
    stands_already h d s member (final_somewhere h n d final.0 s replied final.2) shut
