-- What a site does when it is asked for its vote.
use Rattle.std.proofs.Common.{◌≡◌, inl, ◌∷◌, [], ◌==◌, ℕ, Bool, true, false, refl, sym, ap, subst, ◌∙◌, if◌then◌else◌, eqb-true, map}
use Rattle.e3_types.specs.declared.messages.Message.TheVariants as msg
use Rattle.e3_types.specs.declared.records.Record.TheVariants as log
use Rattle.e3_types.specs.declared.transactions.Dir.TheVariants.{Abort}
use Rattle.e3_types.specs.declared.transactions.State.{State}
use Rattle.e3_types.specs.declared.transactions.State.TheVariants.{Q, W, Pc, Pa, C, A}
use Rattle.e3_types.specs.declared.transactions.Txn.{Txn}
use Rattle.e3_types.specs.Same.{same_txn}
use Rattle.e3_types.specs.Sets.{has_site}
use Rattle.e3_world.specs.declared.lives.Made.{Made}
use Rattle.e3_world.specs.Making.{state_now, elected_now, and_send, and_decide, and_vote}
use Rattle.e3_world.specs.Operations.{done}
use Rattle.e3_world.specs.VoteRules.{vote_rule, on_vote_req}
use Rattle.e3_laws.specs.agreement.Logs.{IsIn, Vote, Waiting, status}
use Rattle.e3_laws.specs.agreement.Rules.{Yes, No, MayWrite}
use Rattle.e3_laws.specs.agreement.Marks.{behind}
use Rattle.e3_laws.specs.agreement.Rows.{Here, party, notes_now, Stands, Good}
use Rattle.e3_laws.proofs.agreement.Refinement.Lists.{same_from, only_one}
use Rattle.e3_laws.proofs.agreement.Refinement.Readings.{idle_is, vote_is}
use Rattle.e3_laws.proofs.agreement.Refinement.Makers.{MayLeave, now_push, first_stays, keep_record, keep_send}
use Rattle.e3_laws.proofs.agreement.Refinement.Tests.{state_means, elected_means, may_refuse}
use Rattle.e3_laws.proofs.agreement.Refinement.Deciding.{only_word, keep_decide, decide_stands}
use Rattle.e3_laws.proofs.agreement.Refinement.Operations.{keep_no}
use Rattle.e3_laws.proofs.steps.Tests.{same_is}

-- a site in q that joined no election may vote
pub keep_vote : (h : Here) (made : Made) (u : Txn) → Stands h → Good h made → state_now h.at u made ≡ Q → (elected_now h.at u made == 1) ≡ true → Good h (and_vote h.at u made)
keep_vote h made u s good is one =
    keep_record h made (log.Vote u (map (λ p. record { n = p.n; op = p.op }) (done h.at.site u h.at.life.steps))) good
    (first_stays h made.records (log.Vote u (map (λ p. record { n = p.n; op = p.op }) (done h.at.site u h.at.life.steps))) refl)
    (only_one (λ n. MayWrite (party h) h.before.sent (notes_now h made) h.at.site n) (same_txn h.txn u) Vote (λ q. may (same_is h.txn u q)))
  where
    may : h.txn ≡ u → MayWrite (party h) h.before.sent (notes_now h made) h.at.site Vote
    may same =
        let k = state_means h made u s same Q is in
        (idle_is (notes_now h made) k.0 k.1 k.2, sym (elected_means h made u s same) ∙ eqb-true (elected_now h.at u made) 1 one)

pub vote_stands : (h : Here) (made : Made) (u : Txn) → same_txn h.txn u ≡ true → IsIn Vote (notes_now h (and_vote h.at u made))
vote_stands h made u is =
    subst (λ l. IsIn Vote l) (sym (now_push h made (log.Vote u (map (λ p. record { n = p.n; op = p.op }) (done h.at.site u h.at.life.steps))))) (by (same_txn h.txn u) is)
  where
    by : (b : Bool) → b ≡ true → IsIn Vote (behind (notes_now h made) (if b then Vote ∷ [] else []))
    by true is = inl refl
    by false is = cc

-- a site that has just voted waits
pub vote_now_waits : (h : Here) (made : Made) (u : Txn) → h.txn ≡ u → status (notes_now h (and_vote h.at u made)) ≡ Waiting
vote_now_waits h made u same =
    ap status (now_push h made (log.Vote u (map (λ p. record { n = p.n; op = p.op }) (done h.at.site u h.at.life.steps)))) ∙ by (same_txn h.txn u) (same_from h.txn u same)
  where
    by : (b : Bool) → b ≡ true → status (behind (notes_now h made) (if b then Vote ∷ [] else [])) ≡ Waiting
    by true is = refl
    by false is = cc

pub row_vote_req : (h : Here) (made : Made) (f : ℕ) (u : Txn) (inc count : ℕ) → Stands h → Good h made → (f == h.at.site) ≡ false → (h.txn ≡ u → (has_site u.sites h.at.site ≡ true) × (has_site u.sites f ≡ true))
    → Good h (on_vote_req h.at f u inc count made)
row_vote_req h made f u inc count s good away both = by (state_now h.at u made) (elected_now h.at u made == 1) refl refl
  where
    member : h.txn ≡ u → has_site u.sites h.at.site ≡ true
    member same = (both same).0

    pair : h.txn ≡ u → (has_site h.txn.sites h.at.site ≡ true) × (has_site h.txn.sites f ≡ true)
    pair same = subst (λ (v : Txn). (has_site v.sites h.at.site ≡ true) × (has_site v.sites f ≡ true)) (sym same) (both same)

    yes_again : state_now h.at u made ≡ W → Good h (and_send h.at f (msg.Vote u true) made)
    yes_again is =
        keep_send h made f (msg.Vote u true) good (λ q. cc)
        (only_word (λ w. MayLeave h (notes_now h made) f w) (same_txn h.txn u) Yes
        (λ q. (vote_is (notes_now h made) (state_means h made u s (same_is h.txn u q) W is).2, λ n. pair (same_is h.txn u q))))

    say : (b : Bool) → state_now h.at u made ≡ Q → (elected_now h.at u made == 1) ≡ true → vote_rule h.at u inc count made ≡ b → Good h (on_vote_req h.at f u inc count made)
    say true is one rule =
        rw (is, one, rule) (keep_send h (and_vote h.at u made) f (msg.Vote u true) (keep_vote h made u s good is one) (λ q. cc)
        (only_word (λ w. MayLeave h (notes_now h (and_vote h.at u made)) f w) (same_txn h.txn u) Yes (λ q. (vote_stands h made u q, λ n. pair (same_is h.txn u q)))))
    say false is one rule =
        rw (is, one, rule) (keep_send h (and_decide h.at u Abort made) f (msg.Vote u false) (keep_decide h made u Abort good (may_refuse h made u s member is)) (λ q. refl)
        (only_word (λ w. MayLeave h (notes_now h (and_decide h.at u Abort made)) f w) (same_txn h.txn u) No (λ q. (decide_stands h made u Abort q, λ n. cc))))

    by : (st : State) (b : Bool) → state_now h.at u made ≡ st → (elected_now h.at u made == 1) ≡ b → Good h (on_vote_req h.at f u inc count made)
    by A b is one = rw is (keep_no h made f u s good is)
    by W true is one = rw (is, one) (yes_again is)
    by Q true is one = say (vote_rule h.at u inc count made) is one refl
    by W false is one = rw (is, one) good
    by Q false is one = rw (is, one) good
    by Pc b is one = rw is good
    by Pa b is one = rw is good
    by C b is one = rw is good
