-- A site with all reports of its election: what the verdict asks for keeps the rules.
use Rattle.std.proofs.Common.{◌≡◌, ◌⊎◌, inl, inr, ◌∷◌, [], ◌*◌, ◌<◌, ℕ, Bool, true, false, List, map, refl, sym, ap, subst, ◌∙◌, arith, if◌then◌else◌}
use Rattle.std.specs.Prelude.{nat_le}
use Rattle.std.proofs.lemmas.Bool.{and_parts, and_cases, cond_both, leb-false, lt-ltb}
use Rattle.e3_types.specs.declared.entries.Told.TheVariants as told
use Rattle.e3_types.specs.declared.messages.Message.TheVariants as msg
use Rattle.e3_types.specs.declared.transactions.Dir.{Dir}
use Rattle.e3_types.specs.declared.transactions.Dir.TheVariants.{Abort, Commit}
use Rattle.e3_types.specs.declared.transactions.Txn.{Txn}
use Rattle.e3_types.specs.declared.verdicts.SiteReport.{SiteReport}
use Rattle.e3_types.specs.declared.verdicts.Verdict.{Verdict}
use Rattle.e3_types.specs.declared.verdicts.Verdict.TheVariants as verdict
use Rattle.e3_types.specs.Quorums.{weight_of, is_quorum}
use Rattle.e3_types.specs.Sets.{has_site, is_within}
use Rattle.e3_types.specs.Verdicts.{verdict_of}
use Rattle.e3_world.specs.declared.lives.At.{At}
use Rattle.e3_world.specs.declared.lives.Made.{Made}
use Rattle.e3_world.specs.ElectionRules.{and_verdict}
use Rattle.e3_world.specs.Logs.{decision, has_voted}
use Rattle.e3_world.specs.Making.{log_now, open_now, may_decide, and_tell, and_cast, and_decide, and_attempt}
use Rattle.e3_laws.specs.agreement.Invariant.{Voted}
use Rattle.e3_laws.specs.agreement.Logs.{IsIn, Note, Vote, Join, Attempt, Decision, Status, Idle, Waiting, Prepared, Final, status, attempt, before_join, Undecided, Orderly, Backs}
use Rattle.e3_laws.specs.agreement.Rules.{Leads, Came, Report, Reply, Replied, repliers, AsksFor, Cause, IsReported, letter}
use Rattle.e3_laws.specs.agreement.Verdicts.{reply_of, TopAsks, FinalIn, HaveMost, Rules}
use Rattle.e3_laws.specs.agreement.Weights.{is_majority}
use Rattle.e3_laws.proofs.agreement.Protocol.Agree.{agrees, all_voted}
use Rattle.e3_laws.proofs.agreement.Protocol.Logs.{final_is, before_join_backs}
use Rattle.e3_laws.proofs.agreement.Protocol.Ruled.{verdicts_rule}
use Rattle.e3_laws.proofs.agreement.Protocol.Shares.{in_from_has}
use Rattle.e3_laws.specs.agreement.Rows.{Here, party, own_log, notes_now, Stands, Good}
use Rattle.e3_laws.proofs.agreement.Refinement.Lists.{in_map}
use Rattle.e3_laws.proofs.agreement.Refinement.Sites.{within_trans}
use Rattle.e3_laws.proofs.agreement.Refinement.Readings.{has_from_vote, decision_in}
use Rattle.e3_laws.proofs.agreement.Refinement.Makers.{keep_tell}
use Rattle.e3_laws.proofs.agreement.Refinement.Tests.{of_txn, reads_now, open_means, may_decide_means}
use Rattle.e3_laws.proofs.agreement.Refinement.Deciding.{keep_decide, decide_stands, keep_say_decide}
use Rattle.e3_laws.proofs.agreement.Refinement.Attempts.{keep_attempt}
use Rattle.e3_laws.proofs.agreement.Refinement.Gathered.{reporters, Reported}
use Rattle.e3_laws.proofs.steps.Tests.{some_is, same_is}

-- the notes at a verdict are those before the step, perhaps with the site's own join
pub record AtVerdict (h : Here) (l : List Note) (n : ℕ) : Type 0 where
  pub ordered : Orderly l
  pub from_log : (r : Note) → IsIn r l → IsIn r (own_log h) ⊎ (r ≡ Join n h.at.site)
  pub to_log : (r : Note) → IsIn r (own_log h) → IsIn r l

-- also where there is no report
pub rules_of : (weights sites : List ℕ) (reports : List SiteReport) → Rules weights sites reports (verdict_of weights sites reports)
rules_of weights sites (r ∷ rs) = verdicts_rule weights sites r rs
rules_of weights sites [] =
    cond_both (nat_le (2 * weight_of weights []) (weight_of weights sites)) (verdict.Block (weight_of weights []) (weight_of weights sites)) verdict.PreCommit (Rules weights sites [])
    (λ e. tt)
    (λ e. absurd (let low : weight_of weights sites < 2 * weight_of weights [] = leb-false (2 * weight_of weights []) (weight_of weights sites) e in omega (arith, low)))

-- what a reply with a final state rests on: a decision in some log
final_somewhere : (h : Here) (l : List Note) (n : ℕ) (d : Dir) (r : Reply) → Stands h → AtVerdict h l n → Replied h.before.sent l h.at.site n r → r.stood ≡ Final d
    → (y : ℕ) × IsIn (Decision d) (h.before.log y)
final_somewhere h l n d r s at (inl came) is =
    (r.site, subst (λ z. Backs z r.tried (h.before.log r.site)) is (s.kept.letters (letter r.site h.at.site (Report n r.stood r.tried)) came).2)
final_somewhere h l n d r s at (inr own) is = (h.at.site, go (at.from_log (Decision d) stands))
  where
    state : status (before_join n l) ≡ Final d
    state = sym (ap (λ (z : Reply). z.stood) own) ∙ is

    stands : IsIn (Decision d) l
    stands = subst (λ z. Backs z (attempt (before_join n l)) l) state (before_join_backs n l at.ordered)

    go : IsIn (Decision d) (own_log h) ⊎ (Decision d ≡ Join n h.at.site) → IsIn (Decision d) (own_log h)
    go (inl k) = k
    go (inr e) = cc

-- a decision of the site is the one that is said elsewhere
same_decision : (h : Here) (l : List Note) (n : ℕ) (d e : Dir) → Stands h → AtVerdict h l n → (y : ℕ) × IsIn (Decision d) (h.before.log y) → IsIn (Decision e) l → IsIn (Decision d) l
same_decision h l n d e s at there here = go (at.from_log (Decision e) here)
  where
    go : IsIn (Decision e) (own_log h) ⊎ (Decision e ≡ Join n h.at.site) → IsIn (Decision d) l
    go (inl k) = subst (λ z. IsIn (Decision z) l) (agrees (party h) h.before s.kept h.at.site there.0 e d k there.1) here
    go (inr p) = cc

-- a commit somewhere has this site's vote
voted_here : (h : Here) (l : List Note) (n : ℕ) → Stands h → AtVerdict h l n → has_site h.txn.sites h.at.site ≡ true → Voted (party h) h.before → IsIn Vote l
voted_here h l n s at member voted = at.to_log Vote (voted.0 h.at.site (in_from_has h.at.site h.txn.sites member))

-- where the decision may not be recorded, it stands already
stands_already : (h : Here) (made : Made) (u : Txn) (n : ℕ) (d : Dir) → Stands h → h.txn ≡ u → AtVerdict h (notes_now h made) n → has_site h.txn.sites h.at.site ≡ true
    → (y : ℕ) × IsIn (Decision d) (h.before.log y) → may_decide h.at u d made ≡ false → IsIn (Decision d) (notes_now h made)
stands_already h made u n d s same at member there no_more = by d there no_more
  where
    shut : (d : Dir) → (y : ℕ) × IsIn (Decision d) (h.before.log y) → open_now h.at u made ≡ false → IsIn (Decision d) (notes_now h made)
    shut d there is =
        let own = some_is (decision h.txn (log_now h.at made)) (of_txn h u (λ v. open_now h.at v made ≡ false) same is) in
        same_decision h (notes_now h made) n d own.0 s at there (decision_in own.0 (notes_now h made) (sym (reads_now h made s).decides ∙ own.1))

    by : (d : Dir) → (y : ℕ) × IsIn (Decision d) (h.before.log y) → may_decide h.at u d made ≡ false → IsIn (Decision d) (notes_now h made)
    by Abort there is = shut Abort there is
    by Commit there is = elim (and_cases (open_now h.at u made) (has_voted u (log_now h.at made)) is) [
      | inl closed ↦ shut Commit there closed
      | inr unvoted ↦ absurd (
          let vote : IsIn Vote (notes_now h made) = voted_here h (notes_now h made) n s at member (all_voted (party h) h.before s.kept (s.kept.reason there.0 Commit there.1)) in
          let has : has_voted h.txn (log_now h.at made) ≡ true = (reads_now h made s).votes ∙ has_from_vote (notes_now h made) vote in
          let hasnt : has_voted h.txn (log_now h.at made) ≡ false = of_txn h u (λ v. has_voted v (log_now h.at made) ≡ false) same unvoted in
          cc)
    ]

-- the cause of a decision that is reported
reported_cause : (h : Here) (l : List Note) (n : ℕ) (d : Dir) (r : Reply) → AtVerdict h l n → Undecided l → Replied h.before.sent l h.at.site n r → r.stood ≡ Final d
    → Cause (party h) h.before.sent l h.at.site d
reported_cause h l n d r at free (inl came) is = IsReported r.site n r.tried (subst (λ z. Came h.before.sent r.site h.at.site (Report n z r.tried)) is came)
reported_cause h l n d r at free (inr own) is =
    let state : status (before_join n l) ≡ Final d = sym (ap (λ (z : Reply). z.stood) own) ∙ is in
    let stands : IsIn (Decision d) l = subst (λ z. Backs z (attempt (before_join n l)) l) state (before_join_backs n l at.ordered) in
    absurd (free d (final_is d l at.ordered stands))

-- each reply was made
all_replied : (h : Here) (l : List Note) (group : List ℕ) (n : ℕ) (reports : List SiteReport) → Reported h l group n reports
    → (r : Reply) → IsIn r (map reply_of reports) → Replied h.before.sent l h.at.site n r
all_replied h l group n reports ok r k =
    let f = in_map reply_of r reports k in
    subst (λ (z : Reply). Replied h.before.sent l h.at.site n z) (sym f.2) (ok.replied f.0 f.1)

sites_of_replies : (reports : List SiteReport) → repliers (map reply_of reports) ≡ reporters reports
sites_of_replies [] = refl
sites_of_replies (r ∷ rs) = ap (λ z. r.site ∷ z) (sites_of_replies rs)

-- the site leads its election where most of the weight reported
leads_with : (h : Here) (l : List Note) (group : List ℕ) (n : ℕ) (d : Dir) (reports : List SiteReport) → Reported h l group n reports → is_within group h.txn.sites ≡ true
    → HaveMost h.at.weights h.txn.sites reports → TopAsks (map reply_of reports) d → Leads (party h) h.before.sent l h.at.site n d
leads_with h l group n d reports ok inside most asks = record {
  joined = ok.joined;
  replies = map reply_of reports;
  enough = subst (λ z. is_majority h.at.weights h.txn.sites z ≡ true) (sym (sites_of_replies reports)) enough;
  replied = all_replied h l group n reports ok;
  top = asks.top;
  top_in = asks.top_in;
  greatest = asks.greatest;
  asks = asks.asks;
}
  where
    enough : is_majority h.at.weights h.txn.sites (reporters reports) ≡ true
    enough =
        let among : is_within (reporters reports) h.txn.sites ≡ true = within_trans (reporters reports) group h.txn.sites ok.among inside in
        let weighs : is_quorum h.at.weights (reporters reports) h.txn.sites ≡ true = lt-ltb (weight_of h.at.weights h.txn.sites) (2 * weight_of h.at.weights (reporters reports)) most in
        rw (among, ok.apart, weighs) refl

-- who leads to a commit has voted
leads_voted : (h : Here) (l : List Note) (n : ℕ) → Stands h → AtVerdict h l n → has_site h.txn.sites h.at.site ≡ true → (r : Reply) → Replied h.before.sent l h.at.site n r → AsksFor r.stood Commit → IsIn Vote l
leads_voted h l n s at member r replied asks = by r.stood refl asks
  where
    attempted : r.stood ≡ Prepared Commit → Replied h.before.sent l h.at.site n r → (y : ℕ) × IsIn (Attempt r.tried Commit) (h.before.log y)
    attempted is (inl came) =
        (r.site, (subst (λ z. Backs z r.tried (h.before.log r.site)) is (s.kept.letters (letter r.site h.at.site (Report n r.stood r.tried)) came).2).1)
    attempted is (inr own) = (h.at.site, go (at.from_log (Attempt r.tried Commit) stands))
      where
        state : status (before_join n l) ≡ Prepared Commit
        state = sym (ap (λ (z : Reply). z.stood) own) ∙ is

        number : attempt (before_join n l) ≡ r.tried
        number = sym (ap (λ (z : Reply). z.tried) own)

        stands : IsIn (Attempt r.tried Commit) l
        stands = (subst (λ k. Backs (Prepared Commit) k l) number (subst (λ z. Backs z (attempt (before_join n l)) l) state (before_join_backs n l at.ordered))).1

        go : IsIn (Attempt r.tried Commit) (own_log h) ⊎ (Attempt r.tried Commit ≡ Join n h.at.site) → IsIn (Attempt r.tried Commit) (own_log h)
        go (inl k) = k
        go (inr e) = cc

    by : (st : Status) → r.stood ≡ st → AsksFor st Commit → IsIn Vote l
    by Idle is k = cc
    by Waiting is k = cc
    by (Final e) is k = absurd k
    by (Prepared Abort) is k = cc
    by (Prepared Commit) is k = let there = attempted is replied in voted_here h l n s at member (s.kept.voted there.0 r.tried there.1)

-- the verdict over the reports of the whole group
pub row_verdict : (h : Here) (made : Made) (u : Txn) (n : ℕ) (group : List ℕ) (reports : List SiteReport) → Stands h → Good h made → (h.txn ≡ u → has_site u.sites h.at.site ≡ true)
    → (h.txn ≡ u → is_within group u.sites ≡ true) → (h.txn ≡ u → AtVerdict h (notes_now h made) n) → (h.txn ≡ u → Reported h (notes_now h made) group n reports)
    → Good h (and_verdict h.at u n group reports made)
row_verdict h made u n group reports s good member inside at ok = by (verdict_of a.weights u.sites reports) refl (rules_of a.weights u.sites reports)
  where
    a : At
    a = h.at

    more : Verdict → Made
    more v = and_tell (told.Verdict u n v) made

    more_good : (v : Verdict) → Good h (more v)
    more_good v = keep_tell h made (told.Verdict u n v) good

    mine : h.txn ≡ u → has_site h.txn.sites h.at.site ≡ true
    mine same = of_txn h u (λ v. has_site v.sites h.at.site ≡ true) same (member same)

    decided_row : (d : Dir) (v : Verdict) → FinalIn (map reply_of reports) d → (b : Bool) → may_decide a u d (more v) ≡ b
        → Good h (and_cast a group (msg.Decide u d) (if b then and_decide a u d (more v) else more v))
    decided_row d v final true may =
        keep_say_decide h (and_decide a u d (more v)) u d group
        (keep_decide h (more v) u d (more_good v) (λ same. may_decide_means h (more v) u d s same may
        (reported_cause h (notes_now h made) n d final.0 (at same) (open_yet same d may) (all_replied h (notes_now h made) group n reports (ok same) final.0 final.1) final.2)))
        (λ is. decide_stands h (more v) u d is)
      where
        open_yet : h.txn ≡ u → (d : Dir) → may_decide a u d (more v) ≡ true → Undecided (notes_now h made)
        open_yet same Abort may = open_means h made u s same may
        open_yet same Commit may = open_means h made u s same (and_parts (open_now a u made) (has_voted u (log_now a made)) may).0
    decided_row d v final false may =
        keep_say_decide h (more v) u d group (more_good v)
        (λ is. let same : h.txn ≡ u = same_is h.txn u is in
        stands_already h (more v) u n d s same (at same) (mine same)
        (final_somewhere h (notes_now h made) n d final.0 s (at same) (all_replied h (notes_now h made) group n reports (ok same) final.0 final.1) final.2) may)

    prepared_row : (d : Dir) (v : Verdict) → HaveMost a.weights u.sites reports → TopAsks (map reply_of reports) d → Good h (and_attempt a u n d group (more v))
    prepared_row d v most asks =
        keep_attempt h (more v) u n d group s (more_good v) member inside
        (λ same. inr (inl (leads_with h (notes_now h made) group n d reports (ok same) (of_txn h u (λ w. is_within group w.sites ≡ true) same (inside same))
        (of_txn h u (λ w. HaveMost a.weights w.sites reports) same most) asks)))
        (λ same e. leads_voted h (notes_now h made) n s (at same) (mine same) asks.top (all_replied h (notes_now h made) group n reports (ok same) asks.top asks.top_in)
        (subst (λ z. AsksFor asks.top.stood z) e asks.asks))

    by : (v : Verdict) → verdict_of a.weights u.sites reports ≡ v → Rules a.weights u.sites reports (verdict_of a.weights u.sites reports) → Good h (and_verdict a u n group reports made)
    by verdict.Abort is rules =
        let final : FinalIn (map reply_of reports) Abort = subst (λ v. Rules a.weights u.sites reports v) is rules in
        rw is (decided_row Abort verdict.Abort final (may_decide a u Abort (more verdict.Abort)) refl)
    by verdict.Commit is rules =
        let final : FinalIn (map reply_of reports) Commit = subst (λ v. Rules a.weights u.sites reports v) is rules in
        rw is (decided_row Commit verdict.Commit final (may_decide a u Commit (more verdict.Commit)) refl)
    by verdict.PreCommit is rules =
        let k : HaveMost a.weights u.sites reports × TopAsks (map reply_of reports) Commit = subst (λ v. Rules a.weights u.sites reports v) is rules in
        rw is (prepared_row Commit verdict.PreCommit k.0 k.1)
    by verdict.PreAbort is rules =
        let k : HaveMost a.weights u.sites reports × TopAsks (map reply_of reports) Abort = subst (λ v. Rules a.weights u.sites reports v) is rules in
        rw is (prepared_row Abort verdict.PreAbort k.0 k.1)
    by (verdict.Block have total) is rules = rw is (more_good (verdict.Block have total))
