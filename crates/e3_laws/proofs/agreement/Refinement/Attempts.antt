-- Attempts: one that a site goes on with, and one that it is asked for.
use Rattle.std.proofs.Common.{◌≡◌, ◌⊎◌, inl, inr, ◌∷◌, [], ◌==◌, ◌&&◌, ◌<◌, ℕ, Bool, true, false, List, refl, sym, ap, subst, ◌∙◌, arith, if◌then◌else◌, eqb-true, eq-eqb, nat_lt}
use Rattle.std.proofs.lemmas.Bool.{and_parts, ltb-true, cases_lt}
use Rattle.e3_types.specs.declared.messages.Message.TheVariants as msg
use Rattle.e3_types.specs.declared.records.Record.TheVariants as log
use Rattle.e3_types.specs.declared.transactions.Dir.{Dir}
use Rattle.e3_types.specs.declared.transactions.Dir.TheVariants.{Commit}
use Rattle.e3_types.specs.declared.transactions.Txn.{Txn}
use Rattle.e3_types.specs.Quorums.{is_quorum}
use Rattle.e3_types.specs.Same.{same_txn}
use Rattle.e3_types.specs.Sets.{is_within, has_site}
use Rattle.e3_world.specs.declared.lives.Made.{Made}
use Rattle.e3_world.specs.AttemptRules.{on_pre}
use Rattle.e3_world.specs.ElectionRules.{on_elected}
use Rattle.e3_world.specs.Making.{state_now, open_now, elected_now, attempt_now, may_attempt, and_record, and_send, and_attempt, go_on}
use Rattle.e3_laws.specs.agreement.Logs.{IsIn, Note, Vote, Join, Attempt, elected, attempt, status, before_join, Orderly}
use Rattle.e3_laws.specs.agreement.Rules.{Elected, Report, Pre, Ack, MovesOn, Came, MayAttempt, MayDecide, HasWon, MayWrite, MayAcknowledge, MayReport}
use Rattle.e3_laws.specs.agreement.Verdicts.{status_in}
use Rattle.e3_laws.specs.agreement.Weights.{is_majority}
use Rattle.e3_laws.proofs.agreement.Protocol.Logs.{elected_some, attempt-elected}
use Rattle.e3_laws.proofs.agreement.Protocol.Shares.{in_from_has}
use Rattle.std.proofs.lemmas.Bool.{cond-true}
use Rattle.e3_laws.specs.agreement.Marks.{behind}
use Rattle.e3_laws.specs.agreement.Rows.{Here, party, leader, notes_now, Stands, Good}
use Rattle.e3_laws.proofs.agreement.Refinement.Lists.{has_from_in, same_from, only_one}
use Rattle.e3_laws.proofs.agreement.Refinement.Sites.{within_in}
use Rattle.e3_laws.proofs.agreement.Refinement.Makers.{MayLeave, now_push, first_stays, first_join, keep_record, keep_send, keep_cast}
use Rattle.e3_laws.proofs.agreement.Refinement.Tests.{of_txn, open_means, elected_means, attempt_means, attempt_in, stands_as, reads_now}
use Rattle.e3_laws.proofs.agreement.Refinement.Deciding.{only_word, keep_decide_cast}
use Rattle.e3_laws.proofs.steps.Tests.{same_is}

-- the notes behind an attempt of the transaction
pub attempt_now_is : (h : Here) (made : Made) (u : Txn) (n : ℕ) (d : Dir) → h.txn ≡ u → notes_now h (and_record (log.Attempt u n d) made) ≡ Attempt n d ∷ notes_now h made
attempt_now_is h made u n d same = now_push h made (log.Attempt u n d) ∙ by (same_txn h.txn u) (same_from h.txn u same)
  where
    by : (b : Bool) → b ≡ true → behind (notes_now h made) (if b then Attempt n d ∷ [] else []) ≡ Attempt n d ∷ notes_now h made
    by true is = refl
    by false is = cc

-- an attempt whose note may be written
keep_try : (h : Here) (made : Made) (u : Txn) (n : ℕ) (d : Dir) → Stands h → Good h made
    → (h.txn ≡ u → MayAttempt (party h) h.before.sent (notes_now h made) h.at.site n d) → Good h (and_record (log.Attempt u n d) made)
keep_try h made u n d s good may =
    keep_record h made (log.Attempt u n d) good (first_stays h made.records (log.Attempt u n d) refl)
    (only_one (λ k. MayWrite (party h) h.before.sent (notes_now h made) h.at.site k) (same_txn h.txn u) (Attempt n d) (λ is. may (same_is h.txn u is)))

-- a site that is a quorum alone wins by its own attempt
alone_wins : (h : Here) (l : List Note) (n : ℕ) (d : Dir) → has_site h.txn.sites h.at.site ≡ true → is_quorum h.at.weights (h.at.site ∷ []) h.txn.sites ≡ true
    → (d ≡ Commit → IsIn Vote l) → MayDecide (party h) h.before.sent (Attempt n d ∷ l) h.at.site d
alone_wins h l n d member most voted = record {
  open_yet = λ e q. cc;
  voted = λ e. inr (voted e);
  cause = HasWon (record { number = n; group = h.at.site ∷ []; enough = enough; acks = acks });
}
  where
    enough : is_majority h.at.weights h.txn.sites (h.at.site ∷ []) ≡ true
    enough = rw (member, most) refl

    acks : (y : ℕ) → IsIn y (h.at.site ∷ []) → ((y ≡ h.at.site) × IsIn (Attempt n d) (Attempt n d ∷ l)) ⊎ Came h.before.sent y h.at.site (Ack n d)
    acks y (inl e) = inl (e, inl refl)
    acks y (inr e) = absurd e

-- an attempt of the site's own round, which decides at once where the site is a quorum
pub keep_attempt : (h : Here) (made : Made) (u : Txn) (n : ℕ) (d : Dir) (to : List ℕ) → Stands h → Good h made → (h.txn ≡ u → has_site u.sites h.at.site ≡ true)
    → (h.txn ≡ u → is_within to u.sites ≡ true) → (h.txn ≡ u → MovesOn (party h) h.before.sent (notes_now h made) h.at.site n d) → (h.txn ≡ u → d ≡ Commit → IsIn Vote (notes_now h made))
    → Good h (and_attempt h.at u n d to made)
keep_attempt h made u n d to s good member inside cause voted = by (may_attempt h.at u n made) refl
  where
    tried : Made
    tried = and_record (log.Attempt u n d) made

    pair : (z : ℕ) → IsIn z to → h.txn ≡ u → (has_site h.txn.sites h.at.site ≡ true) × (has_site h.txn.sites z ≡ true)
    pair z k same = subst (λ (v : Txn). (has_site v.sites h.at.site ≡ true) × (has_site v.sites z ≡ true)) (sym same) (member same, has_from_in z u.sites (within_in to u.sites (inside same) z k))

    may : may_attempt h.at u n made ≡ true → h.txn ≡ u → MayAttempt (party h) h.before.sent (notes_now h made) h.at.site n d
    may is same =
        let p = and_parts (open_now h.at u made && elected_now h.at u made == n) (nat_lt (attempt_now h.at u made) n) is in
        let q = and_parts (open_now h.at u made) (elected_now h.at u made == n) p.0 in
        let number : elected_now h.at u made ≡ n = eqb-true (elected_now h.at u made) n q.1 in
        let low : attempt_now h.at u made < n = ltb-true (attempt_now h.at u made) n p.1 in
        record {
          open_yet = open_means h made u s same q.0;
          current = sym number ∙ elected_means h made u s same;
          fresh = subst (λ k. k < n) (attempt_means h made u s same) low;
          cause = cause same;
        }

    on : may_attempt h.at u n made ≡ true → (b : Bool) → is_quorum h.at.weights (h.at.site ∷ []) u.sites ≡ b → Good h (go_on h.at u n d to tried)
    on is true most =
        rw most (keep_decide_cast h tried u d to (keep_try h made u n d s good (may is))
        (λ same. subst (λ l. MayDecide (party h) h.before.sent l h.at.site d) (sym (attempt_now_is h made u n d same))
        (alone_wins h (notes_now h made) n d (of_txn h u (λ v. has_site v.sites h.at.site ≡ true) same (member same))
        (of_txn h u (λ v. is_quorum h.at.weights (h.at.site ∷ []) v.sites ≡ true) same most) (voted same))))
    on is false most =
        rw most (keep_cast h to (msg.Pre u n d) tried (keep_try h made u n d s good (may is))
        (λ z k. only_word (λ w. MayLeave h (notes_now h tried) z w) (same_txn h.txn u) (Pre n d)
        (λ q. (subst (λ l. IsIn (Attempt n d) l) (sym (attempt_now_is h made u n d (same_is h.txn u q))) (inl refl), λ n. pair z k (same_is h.txn u q)))))

    by : (b : Bool) → may_attempt h.at u n made ≡ b → Good h (and_attempt h.at u n d to made)
    by true is = rw is (on is (is_quorum h.at.weights (h.at.site ∷ []) u.sites) refl)
    by false is = rw is good

-- an attempt that is asked for
pub row_pre : (h : Here) (made : Made) (f : ℕ) (u : Txn) (n : ℕ) (d : Dir) → Stands h → Good h made → Orderly (notes_now h made) → (f == h.at.site) ≡ false
    → (h.txn ≡ u → (has_site u.sites h.at.site ≡ true) × (has_site u.sites f ≡ true)) → (h.txn ≡ u → Came h.before.sent f h.at.site (Pre n d)) → Good h (on_pre h.at f u n d made)
row_pre h made f u n d s good ordered away both came = by (open_now h.at u made && elected_now h.at u made == n) refl
  where
    pair : h.txn ≡ u → (has_site h.txn.sites h.at.site ≡ true) × (has_site h.txn.sites f ≡ true)
    pair same = subst (λ (v : Txn). (has_site v.sites h.at.site ≡ true) × (has_site v.sites f ≡ true)) (sym same) (both same)

    number : (open_now h.at u made && elected_now h.at u made == n) ≡ true → h.txn ≡ u → n ≡ elected (notes_now h made)
    number is same =
        let p = and_parts (open_now h.at u made) (elected_now h.at u made == n) is in
        sym (eqb-true (elected_now h.at u made) n p.1) ∙ elected_means h made u s same

    again : (open_now h.at u made && elected_now h.at u made == n) ≡ true → (attempt_now h.at u made == n) ≡ true → h.txn ≡ u
        → MayAcknowledge h.before.sent (notes_now h made) h.at.site f n d
    again is at same =
        let reached : attempt (notes_now h made) ≡ n = sym (attempt_means h made u s same) ∙ eqb-true (attempt_now h.at u made) n at in
        let some = attempt_in (notes_now h made) (omega (arith, reached, number is same, elected_some (notes_now h made))) in
        record { came = came same; made = some.0; stands = subst (λ k. IsIn (Attempt k some.0) (notes_now h made)) reached some.1 }

    may : (open_now h.at u made && elected_now h.at u made == n) ≡ true → (attempt_now h.at u made == n) ≡ false → h.txn ≡ u
        → MayAttempt (party h) h.before.sent (notes_now h made) h.at.site n d
    may is at same =
        let p = and_parts (open_now h.at u made) (elected_now h.at u made == n) is in
        let most = attempt-elected (notes_now h made) ordered in
        let other : attempt (notes_now h made) ≡ n → ⊥ = λ e. (let q : (attempt_now h.at u made == n) ≡ true = eq-eqb (attempt_now h.at u made) n (attempt_means h made u s same ∙ e) in cc) in
        record {
          open_yet = open_means h made u s same p.0;
          current = number is same;
          fresh = elim (cases_lt (attempt (notes_now h made)) n) [ inl lt ↦ lt | inr le ↦ absurd (other (omega (arith, le, most, number is same))) ];
          cause = inr (inr (record { member = in_from_has h.at.site h.txn.sites (pair same).0; asker = f; came = came same }));
        }

    tries : (open_now h.at u made && elected_now h.at u made == n) ≡ true → (c : Bool) → (attempt_now h.at u made == n) ≡ c
        → Good h (and_send h.at f (msg.Ack u n d) (if c then made else and_record (log.Attempt u n d) made))
    tries is true at =
        keep_send h made f (msg.Ack u n d) good (λ q. cc)
        (only_word (λ w. MayLeave h (notes_now h made) f w) (same_txn h.txn u) (Ack n d) (λ q. (again is at (same_is h.txn u q), λ n. pair (same_is h.txn u q))))
    tries is false at =
        keep_send h (and_record (log.Attempt u n d) made) f (msg.Ack u n d) (keep_try h made u n d s good (may is at)) (λ q. cc)
        (only_word (λ w. MayLeave h (notes_now h (and_record (log.Attempt u n d) made)) f w) (same_txn h.txn u) (Ack n d)
        (λ q. (
          record {
            came = came (same_is h.txn u q);
            made = d;
            stands = subst (λ l. IsIn (Attempt n d) l) (sym (attempt_now_is h made u n d (same_is h.txn u q))) (inl refl);
          },
          λ n. pair (same_is h.txn u q),
        )))

    by : (b : Bool) → (open_now h.at u made && elected_now h.at u made == n) ≡ b → Good h (on_pre h.at f u n d made)
    by true is = rw is (tries is (attempt_now h.at u made == n) refl)
    by false is = rw is good

-- the notes behind a join of the transaction
pub join_now_is : (h : Here) (made : Made) (u : Txn) (n : ℕ) → h.txn ≡ u → notes_now h (and_record (log.Join u n) made) ≡ Join n (leader h) ∷ notes_now h made
join_now_is h made u n same = now_push h made (log.Join u n) ∙ by (same_txn h.txn u) (same_from h.txn u same)
  where
    by : (b : Bool) → b ≡ true → behind (notes_now h made) (if b then Join n (leader h) ∷ [] else []) ≡ Join n (leader h) ∷ notes_now h made
    by true is = refl
    by false is = cc

-- a join that may be written
pub keep_join : (h : Here) (made : Made) (u : Txn) (n : ℕ) → Stands h → Good h made → made.records ≡ [] → (h.txn ≡ u → elected (notes_now h made) < n)
    → (h.txn ≡ u → (leader h ≡ h.at.site) ⊎ Came h.before.sent (leader h) h.at.site (Elected n)) → Good h (and_record (log.Join u n) made)
keep_join h made u n s good bare rises led =
    keep_record h made (log.Join u n) good (λ first. first_join h made.records u n bare)
    (only_one (λ k. MayWrite (party h) h.before.sent (notes_now h made) h.at.site k) (same_txn h.txn u) (Join n (leader h))
    (λ is. record { greater = rises (same_is h.txn u is); leader = led (same_is h.txn u is) }))

-- a greater number of another site's election
pub row_elected : (h : Here) (made : Made) (f : ℕ) (u : Txn) (n : ℕ) → Stands h → Good h made → made.records ≡ [] → Orderly (notes_now h made) → (f == h.at.site) ≡ false → leader h ≡ f
    → (h.txn ≡ u → (has_site u.sites h.at.site ≡ true) × (has_site u.sites f ≡ true))
    → (h.txn ≡ u → Came h.before.sent f h.at.site (Elected n)) → Good h (on_elected h.at f u n made)
row_elected h made f u n s good bare ordered away led both came = by (nat_lt (elected_now h.at u made) n) refl
  where
    joined : Made
    joined = and_record (log.Join u n) made

    pair : h.txn ≡ u → (has_site h.txn.sites h.at.site ≡ true) × (has_site h.txn.sites f ≡ true)
    pair same = subst (λ (v : Txn). (has_site v.sites h.at.site ≡ true) × (has_site v.sites f ≡ true)) (sym same) (both same)

    report : h.txn ≡ u → MayReport (notes_now h joined) f n (status_in (state_now h.at u made)) (attempt_now h.at u made)
    report same =
        let now : notes_now h joined ≡ Join n f ∷ notes_now h made = join_now_is h made u n same ∙ ap (λ e. Join n e ∷ notes_now h made) led in
        let back : before_join n (Join n f ∷ notes_now h made) ≡ notes_now h made =
        cond-true (n == n) (notes_now h made) (before_join n (notes_now h made)) (eq-eqb n n refl) in
        let state : status_in (state_now h.at u made) ≡ status (notes_now h made) =
        subst (λ v. status_in (state_now h.at v made) ≡ status (notes_now h made)) same (stands_as h.txn _ (notes_now h made) (reads_now h made s) ordered) in
        subst (λ l. MayReport l f n (status_in (state_now h.at u made)) (attempt_now h.at u made)) (sym now) (record {
          joined = inl refl;
          says = state ∙ sym (ap status back);
          tried = attempt_means h made u s same ∙ sym (ap attempt back);
        })

    by : (b : Bool) → nat_lt (elected_now h.at u made) n ≡ b → Good h (on_elected h.at f u n made)
    by true is =
        let low : elected_now h.at u made < n = ltb-true (elected_now h.at u made) n is in
        rw is (keep_send h joined f (msg.Report u n (state_now h.at u made) (attempt_now h.at u made))
        (keep_join h made u n s good bare (λ same. subst (λ k. k < n) (elected_means h made u s same) low)
        (λ same. inr (subst (λ z. Came h.before.sent z h.at.site (Elected n)) (sym led) (came same))))
        (λ q. cc)
        (only_word (λ w. MayLeave h (notes_now h joined) f w) (same_txn h.txn u) (Report n (status_in (state_now h.at u made)) (attempt_now h.at u made))
        (λ q. (report (same_is h.txn u q), λ n. pair (same_is h.txn u q)))))
    by false is = rw is good
