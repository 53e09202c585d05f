-- A site that joins its own election, and one that takes a report.
use Rattle.std.proofs.Common.{◌≡◌, ◌⊎◌, inl, inr, ◌∷◌, [], ◌++◌, ◌==◌, ◌&&◌, ◌<◌, ◌≤◌, ℕ, suc, Bool, true, false, List, Option, Some, None, refl, sym, ap, subst, ◌∙◌, arith, if◌then◌else◌, eq-eqb, nat_lt}
use Rattle.std.specs.Prelude.{nat_le}
use Rattle.std.proofs.lemmas.Bool.{and_parts, leb-true, cond-true}
use Rattle.e3_types.specs.declared.messages.Message.{Message}
use Rattle.e3_types.specs.declared.messages.Message.TheVariants as msg
use Rattle.e3_types.specs.declared.records.Record.TheVariants as log
use Rattle.e3_types.specs.declared.transactions.Call.{Call}
use Rattle.e3_types.specs.declared.transactions.Txn.{Txn}
use Rattle.e3_types.specs.declared.verdicts.SiteReport.{SiteReport}
use Rattle.e3_types.specs.Same.{same_txn}
use Rattle.e3_types.specs.Sets.{has_site, is_within, others}
use Rattle.e3_world.specs.Gatherings.{Election}
use Rattle.e3_world.specs.declared.lives.At.{At}
use Rattle.e3_world.specs.declared.lives.Made.{Made}
use Rattle.e3_world.specs.ElectionRules.{and_verdict, and_join, on_last, on_report}
use Rattle.e3_world.specs.Elections.{all_heard, all_reported, greatest_heard, begun, hear, take_report, election_in_progress, next_call}
use Rattle.e3_world.specs.Making.{nothing, state_now, elected_now, attempt_now, and_record, and_cast}
use Rattle.e3_world.specs.Steps.{on_elect}
use Rattle.e3_laws.specs.agreement.Logs.{IsIn, Note, Join, elected, attempt, status, before_join, Orderly}
use Rattle.e3_laws.specs.agreement.Rules.{Other, Elected, Report, Came, Replied, own_reply}
use Rattle.e3_laws.specs.agreement.Verdicts.{status_in, reply_of}
use Rattle.e3_laws.specs.agreement.Rows.{Here, leader, own_log, notes_now, Stands, Good}
use Rattle.e3_laws.proofs.agreement.Refinement.Lists.{has_from_in}
use Rattle.e3_laws.proofs.agreement.Refinement.Sites.{within_in}
use Rattle.e3_laws.proofs.agreement.Refinement.Makers.{MayLeave, keep_cast}
use Rattle.e3_laws.proofs.agreement.Refinement.Tests.{of_txn, reads_now, elected_means, attempt_means, stands_as}
use Rattle.e3_laws.proofs.agreement.Refinement.Deciding.{only_word}
use Rattle.e3_laws.proofs.agreement.Refinement.Attempts.{keep_join, join_now_is}
use Rattle.e3_laws.proofs.agreement.Refinement.Gathered.{Reported, ElectionStands, ElectionOk, NumberedOk, hear_ok, take_ok, election_stands}
use Rattle.e3_laws.proofs.agreement.Refinement.Inputs.{good_nothing}
use Rattle.e3_laws.proofs.agreement.Refinement.Verdicts.{AtVerdict, row_verdict}
use Rattle.e3_laws.proofs.steps.Rules.{behind_join}
use Rattle.e3_laws.proofs.steps.Tests.{same_is}

-- messages record nothing
pub cast_records : (a : At) (sites : List ℕ) (m : Message) (made : Made) → (and_cast a sites m made).records ≡ made.records
cast_records a [] m made = refl
cast_records a (s ∷ sites) m made = by (λ more. cast_records a sites m more) (s == a.site) refl
  where
    by : ((more : Made) → (and_cast a sites m more).records ≡ more.records) → (b : Bool) → (s == a.site) ≡ b → (and_cast a (s ∷ sites) m made).records ≡ made.records
    by rest true is = rw is (rest made)
    by rest false is = rw (is, is) (rest (record made { outs = made.outs ++ record { number = 0; «from» = a.site; to = s; msg = m } ∷ [] }))

pub cast_now : (h : Here) (sites : List ℕ) (m : Message) (made : Made) → notes_now h (and_cast h.at sites m made) ≡ notes_now h made
cast_now h sites m made = ap (λ rs. notes_now h (record made { records = rs })) (cast_records h.at sites m made)

at_own : (h : Here) (n : ℕ) → Stands h → AtVerdict h (own_log h) n
at_own h n s = record { ordered = s.kept.orderly h.at.site; from_log = λ r k. inl k; to_log = λ r k. k }

at_join : (h : Here) (n : ℕ) → Stands h → elected (own_log h) < n → AtVerdict h (Join n h.at.site ∷ own_log h) n
at_join h n s low = record { ordered = (low, s.kept.orderly h.at.site); from_log = from_log; to_log = λ r k. inr k }
  where
    from_log : (r : Note) → IsIn r (Join n h.at.site ∷ own_log h) → IsIn r (own_log h) ⊎ (r ≡ Join n h.at.site)
    from_log r (inl e) = inr e
    from_log r (inr k) = inl k

-- a report to the elector
pub row_report : (h : Here) (u : Txn) (n : ℕ) (r : SiteReport) → Stands h → (h.txn ≡ u → has_site u.sites h.at.site ≡ true)
    → (h.txn ≡ u → Came h.before.sent r.site h.at.site (Report n (status_in r.state) r.attempt)) → Good h (on_report h.at u n r nothing)
row_report h u n r s member came = by (election_in_progress a.site a.life.inc u a.life.steps) refl
  where
    a : At
    a = h.at

    stands : (e : Election) → election_in_progress a.site a.life.inc u a.life.steps ≡ Some e → h.txn ≡ u → NumberedOk h n (take_report e n r)
    stands e is same =
        let ok : ElectionOk h (Some e) = subst (λ o. ElectionOk h o) (of_txn h u (λ v. election_in_progress a.site a.life.inc v a.life.steps ≡ Some e) same is) (election_stands h s) in
        take_ok h e n r ok (came same)

    concludes : (e : Election) → (h.txn ≡ u → ElectionStands h e × (e.number ≡ Some n)) → (b : Bool) → Good h (if b then and_verdict a u n e.group e.reports nothing else nothing)
    concludes e ok true =
        row_verdict h nothing u n e.group e.reports s (good_nothing h) member
        (λ same. subst (λ (v : Txn). is_within e.group v.sites ≡ true) same (ok same).0.within)
        (λ same. at_own h n s)
        (λ same. (ok same).0.reports n (ok same).1)
    concludes e ok false = good_nothing h

    takes : (e : Election) → election_in_progress a.site a.life.inc u a.life.steps ≡ Some e → (o : Option Election) → take_report e n r ≡ o → Good h (on_report a u n r nothing)
    takes e is None took = rw (is, took) (good_nothing h)
    takes e is (Some x) took = rw (is, took) (concludes x (λ same. subst (λ o. NumberedOk h n o) took (stands e is same)) (all_reported x))

    by : (o : Option Election) → election_in_progress a.site a.life.inc u a.life.steps ≡ o → Good h (on_report a u n r nothing)
    by None is = rw is (good_nothing h)
    by (Some e) is = takes e is (take_report e n r) refl

-- the whole group was heard: the site joins its own election, and alone it concludes at once
pub row_join : (h : Here) (made : Made) (u : Txn) (e : Election) → Stands h → Good h made → made.records ≡ [] → leader h ≡ h.at.site → (h.txn ≡ u → has_site u.sites h.at.site ≡ true)
    → (h.txn ≡ u → ElectionStands h e) → Good h (and_join h.at u e made)
row_join h made u e s good bare led member ok = by (all_heard e && nat_lt (greatest_heard e) 4294967295 && nat_le (elected_now a u made) (greatest_heard e)) refl
  where
    a : At
    a = h.at

    n : ℕ
    n = suc (greatest_heard e)

    report : SiteReport
    report = record { site = a.site; state = state_now a u made; attempt = attempt_now a u made }

    joined : Made
    joined = and_record (log.Join u n) made

    called : Made
    called = and_cast a e.group (msg.Elected u n) joined

    still : notes_now h made ≡ own_log h
    still = ap (λ rs. notes_now h (record made { records = rs })) bare

    rises : nat_le (elected_now a u made) (greatest_heard e) ≡ true → h.txn ≡ u → elected (notes_now h made) < n
    rises low same =
        let most : elected_now a u made ≤ greatest_heard e = leb-true (elected_now a u made) (greatest_heard e) low in
        omega (arith, most, elected_means h made u s same)

    now : h.txn ≡ u → notes_now h joined ≡ Join n a.site ∷ own_log h
    now same = join_now_is h made u n same ∙ ap (λ z. Join n z ∷ notes_now h made) led ∙ ap (λ z. Join n a.site ∷ z) still

    joined_good : nat_le (elected_now a u made) (greatest_heard e) ≡ true → Good h joined
    joined_good low = keep_join h made u n s good bare (rises low) (λ same. inl led)

    called_good : nat_le (elected_now a u made) (greatest_heard e) ≡ true → Good h called
    called_good low =
        keep_cast h e.group (msg.Elected u n) joined (joined_good low)
        (λ to k. only_word (λ w. MayLeave h (notes_now h joined) to w) (same_txn h.txn u) (Elected n)
        (λ q. (
          subst (λ l. IsIn (Join n a.site) l) (sym (now (same_is h.txn u q))) (inl refl),
          λ m. (of_txn h u (λ v. has_site v.sites a.site ≡ true) (same_is h.txn u q) (member (same_is h.txn u q)), has_from_in to h.txn.sites (within_in e.group h.txn.sites (ok (same_is h.txn u q)).within to k)),
        )))

    called_now : h.txn ≡ u → notes_now h called ≡ Join n a.site ∷ own_log h
    called_now same = cast_now h e.group (msg.Elected u n) joined ∙ now same

    own : h.txn ≡ u → reply_of report ≡ own_reply (Join n a.site ∷ own_log h) a.site n
    own same =
        let back : before_join n (Join n a.site ∷ own_log h) ≡ own_log h = cond-true (n == n) (own_log h) (before_join n (own_log h)) (eq-eqb n n refl) in
        let ordered : Orderly (notes_now h made) = subst Orderly (sym still) (s.kept.orderly a.site) in
        let state : status_in (state_now a u made) ≡ status (before_join n (Join n a.site ∷ own_log h)) =
        subst (λ v. status_in (state_now a v made) ≡ status (notes_now h made)) same (stands_as h.txn _ (notes_now h made) (reads_now h made s) ordered) ∙ ap status still ∙ sym (ap status back) in
        let number : attempt_now a u made ≡ attempt (before_join n (Join n a.site ∷ own_log h)) = attempt_means h made u s same ∙ ap attempt still ∙ sym (ap attempt back) in
        λ i. record { site = a.site; stood = state i; tried = number i }

    reported : h.txn ≡ u → Reported h (Join n a.site ∷ own_log h) e.group n (report ∷ [])
    reported same = record {
      joined = inl refl;
      replied = only;
      apart = refl;
      among = ap (λ b. b && true) (ok same).own;
    }
      where
        only : (r : SiteReport) → IsIn r (report ∷ []) → Replied h.before.sent (Join n a.site ∷ own_log h) a.site n (reply_of r)
        only r (inl q) = subst (λ (z : SiteReport). Replied h.before.sent (Join n a.site ∷ own_log h) a.site n (reply_of z)) (sym q) (inr (own same))
        only r (inr q) = absurd q

    alone : nat_le (elected_now a u made) (greatest_heard e) ≡ true → (l : List ℕ) → Good h (behind_join a u n e report l called)
    alone low [] =
        row_verdict h called u n e.group (report ∷ []) s (called_good low) member
        (λ same. subst (λ (v : Txn). is_within e.group v.sites ≡ true) same (ok same).within)
        (λ same. subst (λ l. AtVerdict h l n) (sym (called_now same)) (at_join h n s (subst (λ l. elected l < n) still (rises low same))))
        (λ same. subst (λ l. Reported h l e.group n (report ∷ [])) (sym (called_now same)) (reported same))
    alone low (y ∷ ys) = called_good low

    by : (b : Bool) → (all_heard e && nat_lt (greatest_heard e) 4294967295 && nat_le (elected_now a u made) (greatest_heard e)) ≡ b → Good h (and_join a u e made)
    by true test = rw test (alone (and_parts (all_heard e && nat_lt (greatest_heard e) 4294967295) (nat_le (elected_now a u made) (greatest_heard e)) test).1 (others a.site e.group))
    by false test = rw test good

-- an answer to the call of the election in progress
pub row_last : (h : Here) (f : ℕ) (u : Txn) (call : Call) (number : ℕ) → Stands h → leader h ≡ h.at.site → (h.txn ≡ u → has_site u.sites h.at.site ≡ true) → Good h (on_last h.at f u call number nothing)
row_last h f u call number s led member = by (election_in_progress a.site a.life.inc u a.life.steps) refl
  where
    a : At
    a = h.at

    stands : (e : Election) → election_in_progress a.site a.life.inc u a.life.steps ≡ Some e → h.txn ≡ u → ElectionOk h (hear e f call number)
    stands e is same =
        let ok : ElectionOk h (Some e) = subst (λ o. ElectionOk h o) (of_txn h u (λ v. election_in_progress a.site a.life.inc v a.life.steps ≡ Some e) same is) (election_stands h s) in
        hear_ok h e f call number ok

    hears : (e : Election) → election_in_progress a.site a.life.inc u a.life.steps ≡ Some e → (o : Option Election) → hear e f call number ≡ o → Good h (on_last a f u call number nothing)
    hears e is None heard = rw (is, heard) (good_nothing h)
    hears e is (Some x) heard =
        rw (is, heard) (row_join h nothing u x s (good_nothing h) refl led member (λ same. subst (λ o. ElectionOk h o) heard (stands e is same)))

    by : (o : Option Election) → election_in_progress a.site a.life.inc u a.life.steps ≡ o → Good h (on_last a f u call number nothing)
    by None is = rw is (good_nothing h)
    by (Some e) is = hears e is (hear e f call number) refl

-- an elect: a new election of a group of the transaction's sites, this one among them
pub row_elect : (h : Here) (u : Txn) (group : List ℕ) → Stands h → leader h ≡ h.at.site → has_site u.sites h.at.site ≡ true → has_site group h.at.site ≡ true
    → is_within group u.sites ≡ true → Good h (on_elect h.at u group nothing)
row_elect h u group s led member own within = row_join h asked u e s asked_good (cast_records h.at group (msg.Ask u e.call) nothing) led (λ same. member) stands
  where
    e : Election
    e = begun h.at.site (next_call h.at.life.inc h.at.life.steps) group (elected_now h.at u nothing)

    asked : Made
    asked = and_cast h.at group (msg.Ask u e.call) nothing

    asked_good : Good h asked
    asked_good = keep_cast h group (msg.Ask u e.call) nothing (good_nothing h)
        (λ to k. only_word (λ w. MayLeave h (notes_now h nothing) to w) (same_txn h.txn u) Other
        (λ q. (tt, λ n. subst (λ (v : Txn). (has_site v.sites h.at.site ≡ true) × (has_site v.sites to ≡ true)) (sym (same_is h.txn u q)) (member, has_from_in to u.sites (within_in group u.sites within to k)))))

    stands : h.txn ≡ u → ElectionStands h e
    stands same = record {
      within = subst (λ (v : Txn). is_within group v.sites ≡ true) (sym same) within;
      own = own;
      reports = λ n number. absurd (let none : None ≡ Some n = number in cc);
    }
