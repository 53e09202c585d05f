-- What the tests of a step say of the transaction's notes.
use Rattle.std.proofs.Common.{◌≡◌, ◌⊎◌, inl, inr, ◌∷◌, [], ◌==◌, ◌&&◌, ◌<◌, ◌≤◌, Bool, true, false, List, Option, Some, None, refl, sym, ap, subst, ◌∙◌, arith, max, eqb-true}
use Rattle.std.specs.Prelude.{is_none}
use Rattle.std.proofs.lemmas.Bool.{and_parts, cases_lt}
use Rattle.e3_types.specs.declared.transactions.Dir.{Dir}
use Rattle.e3_types.specs.declared.transactions.Dir.TheVariants.{Abort, Commit}
use Rattle.e3_types.specs.declared.transactions.State.{State}
use Rattle.e3_types.specs.declared.transactions.State.TheVariants.{Q, W, Pc, Pa, C, A}
use Rattle.e3_types.specs.declared.transactions.Txn.{Txn}
use Rattle.e3_types.specs.declared.records.Record.{Record}
use Rattle.e3_types.specs.Sets.{has_site}
use Rattle.e3_world.specs.declared.lives.Made.{Made}
use Rattle.e3_world.specs.Logs.{decision, attempted, has_voted, state_of}
use Rattle.e3_world.specs.Making.{log_now, state_now, open_now, elected_now, attempt_now, is_coordinator, may_abort, may_decide}
use Rattle.e3_laws.specs.agreement.Logs.{IsIn, Note, Vote, Join, Attempt, Decision, Prepared, elected, attempt, status, Undecided, Orderly}
use Rattle.e3_laws.specs.agreement.Rules.{Refuses, CallsOff, MayDecide, Cause}
use Rattle.e3_laws.specs.agreement.Verdicts.{status_in}
use Rattle.e3_laws.proofs.agreement.Protocol.Logs.{final_is}
use Rattle.e3_laws.proofs.agreement.Protocol.Shares.{in_from_has}
use Rattle.e3_laws.specs.agreement.Views.{decided, tried, has_vote}
use Rattle.e3_laws.specs.agreement.Rows.{Here, party, leader, own_log, notes_now, Reads, Stands}
use Rattle.e3_laws.proofs.agreement.Refinement.Readings.{reads_more, open_is, vote_is, decision_in, idle_is, waiting_is}

-- the notes with those of the step are those of the log with its records
pub reads_now : (h : Here) (made : Made) → Stands h → Reads h.txn (log_now h.at made) (notes_now h made)
reads_now h made s = reads_more h.txn (leader h) h.at.life.log (own_log h) made.records s.reads

-- what a state says of the notes
abbrev pub StateSays : State → List Note → Type 0
StateSays Q l = (decided l ≡ None) × (tried l ≡ None) × (has_vote l ≡ false)
StateSays W l = (decided l ≡ None) × (tried l ≡ None) × (has_vote l ≡ true)
StateSays Pc l = (decided l ≡ None) × (tried l ≡ Some Commit)
StateSays Pa l = (decided l ≡ None) × (tried l ≡ Some Abort)
StateSays C l = decided l ≡ Some Commit
StateSays A l = decided l ≡ Some Abort

state_says_now : (t : Txn) (rs : List Record) (l : List Note) → Reads t rs l → StateSays (state_of t rs) l
state_says_now t rs l k = by (decision t rs) (attempted t rs) (has_voted t rs) refl refl refl
  where
    by : (d e : Option Dir) (v : Bool) → decision t rs ≡ d → attempted t rs ≡ e → has_voted t rs ≡ v → StateSays (state_of t rs) l
    by (Some Commit) e v is tries votes = rw is (sym k.decides ∙ is)
    by (Some Abort) e v is tries votes = rw is (sym k.decides ∙ is)
    by None (Some Commit) v is tries votes = rw (is, tries) (sym k.decides ∙ is, sym k.tries ∙ tries)
    by None (Some Abort) v is tries votes = rw (is, tries) (sym k.decides ∙ is, sym k.tries ∙ tries)
    by None None true is tries votes = rw (is, tries, votes) (sym k.decides ∙ is, sym k.tries ∙ tries, sym k.votes ∙ votes)
    by None None false is tries votes = rw (is, tries, votes) (sym k.decides ∙ is, sym k.tries ∙ tries, sym k.votes ∙ votes)

pub state_says : (t : Txn) (rs : List Record) (l : List Note) → Reads t rs l → (st : State) → state_of t rs ≡ st → StateSays st l
state_says t rs l k st is = subst (λ (z : State). StateSays z l) is (state_says_now t rs l k)

prepared_is : (d : Dir) (l : List Note) → Orderly l → decided l ≡ None → tried l ≡ Some d → status l ≡ Prepared d
prepared_is d [] o free is = cc
prepared_is d (Vote ∷ l) o free is = let none : tried l ≡ None = ap tried o.0 in cc
prepared_is d (Join n e ∷ l) o free is = prepared_is d l o.1 free is
prepared_is d (Attempt n e ∷ l) o free is = let q : e ≡ d = cc in ap Prepared q
prepared_is d (Decision e ∷ l) o free is = cc

-- the state of a log that is in order is how its site stands
status_is : (l : List Note) → Orderly l → (st : State) → StateSays st l → status_in st ≡ status l
status_is l o Q k = sym (idle_is l k.0 k.1 k.2)
status_is l o W k = sym (waiting_is l k.0 k.1 k.2)
status_is l o Pc k = sym (prepared_is Commit l o k.0 k.1)
status_is l o Pa k = sym (prepared_is Abort l o k.0 k.1)
status_is l o C k = sym (final_is Commit l o (decision_in Commit l k))
status_is l o A k = sym (final_is Abort l o (decision_in Abort l k))

pub stands_as : (t : Txn) (rs : List Record) (l : List Note) → Reads t rs l → Orderly l → status_in (state_of t rs) ≡ status l
stands_as t rs l k o = status_is l o (state_of t rs) (state_says_now t rs l k)

none_is : {X : Type 0} (o : Option X) → is_none o ≡ true → o ≡ None
none_is None is = refl
none_is (Some x) is = absurd cc

-- the transaction in question, where it is another's name
pub of_txn : (h : Here) (u : Txn) (P : Txn → Type 0) → h.txn ≡ u → P u → P h.txn
of_txn h u P same p = subst P (sym same) p

pub open_means : (h : Here) (made : Made) (u : Txn) → Stands h → h.txn ≡ u → open_now h.at u made ≡ true → Undecided (notes_now h made)
open_means h made u s same is =
    open_is (notes_now h made) (sym (reads_now h made s).decides ∙ none_is (decision h.txn (log_now h.at made)) (of_txn h u (λ v. open_now h.at v made ≡ true) same is))

pub elected_means : (h : Here) (made : Made) (u : Txn) → Stands h → h.txn ≡ u → elected_now h.at u made ≡ elected (notes_now h made)
elected_means h made u s same = subst (λ v. elected_now h.at v made ≡ elected (notes_now h made)) same (reads_now h made s).elects

pub attempt_means : (h : Here) (made : Made) (u : Txn) → Stands h → h.txn ≡ u → attempt_now h.at u made ≡ attempt (notes_now h made)
attempt_means h made u s same = subst (λ v. attempt_now h.at v made ≡ attempt (notes_now h made)) same (reads_now h made s).attempts

pub state_means : (h : Here) (made : Made) (u : Txn) → Stands h → h.txn ≡ u → (st : State) → state_now h.at u made ≡ st → StateSays st (notes_now h made)
state_means h made u s same st is =
    state_says h.txn (log_now h.at made) (notes_now h made) (reads_now h made s) st (of_txn h u (λ v. state_now h.at v made ≡ st) same is)

pub voted_means : (h : Here) (made : Made) (u : Txn) → Stands h → h.txn ≡ u → has_voted u (log_now h.at made) ≡ true → IsIn Vote (notes_now h made)
voted_means h made u s same is =
    vote_is (notes_now h made) (sym (reads_now h made s).votes ∙ of_txn h u (λ v. has_voted v (log_now h.at made) ≡ true) same is)

-- a decision that may be made, for a cause
pub may_decide_means : (h : Here) (made : Made) (u : Txn) (d : Dir) → Stands h → h.txn ≡ u → may_decide h.at u d made ≡ true
    → Cause (party h) h.before.sent (notes_now h made) h.at.site d → MayDecide (party h) h.before.sent (notes_now h made) h.at.site d
may_decide_means h made u Abort s same is cause = record { open_yet = open_means h made u s same is; voted = λ e. cc; cause = cause }
may_decide_means h made u Commit s same is cause =
    let p = and_parts (open_now h.at u made) (has_voted u (log_now h.at made)) is in
    record { open_yet = open_means h made u s same p.0; voted = λ e. voted_means h made u s same p.1; cause = cause }

-- the coordinator may abort
pub may_abort_means : (h : Here) (made : Made) (u : Txn) → Stands h → may_abort h.at u made ≡ true → h.txn ≡ u
    → MayDecide (party h) h.before.sent (notes_now h made) h.at.site Abort
may_abort_means h made u s is same =
    let p = and_parts (is_coordinator h.at u && open_now h.at u made) (attempt_now h.at u made == 0) is in
    let q = and_parts (is_coordinator h.at u) (open_now h.at u made) p.0 in
    let here : u.site ≡ h.at.site = eqb-true u.site h.at.site q.0 in
    let zero : attempt_now h.at u made ≡ 0 = eqb-true (attempt_now h.at u made) 0 p.1 in
    record {
      open_yet = open_means h made u s same q.1;
      voted = λ e. cc;
      cause = CallsOff (sym here ∙ sym (ap (λ (v : Txn). v.site) same)) refl (sym (attempt_means h made u s same) ∙ zero);
    }

-- a site in q may abort
pub may_refuse : (h : Here) (made : Made) (u : Txn) → Stands h → (h.txn ≡ u → has_site u.sites h.at.site ≡ true) → state_now h.at u made ≡ Q → h.txn ≡ u
    → MayDecide (party h) h.before.sent (notes_now h made) h.at.site Abort
may_refuse h made u s member is same =
    let k = state_means h made u s same Q is in
    record {
      open_yet = open_is (notes_now h made) k.0;
      voted = λ e. cc;
      cause = Refuses (subst (λ (v : Txn). IsIn h.at.site v.sites) (sym same) (in_from_has h.at.site u.sites (member same))) refl (idle_is (notes_now h made) k.0 k.1 k.2);
    }

-- some attempt has the greatest number
pub attempt_in : (l : List Note) → 1 ≤ attempt l → (d : Dir) × IsIn (Attempt (attempt l) d) l
attempt_in [] h = absurd (omega arith)
attempt_in (Vote ∷ l) h = let t = attempt_in l h in (t.0, inr t.1)
attempt_in (Join n e ∷ l) h = let t = attempt_in l h in (t.0, inr t.1)
attempt_in (Decision d ∷ l) h = let t = attempt_in l h in (t.0, inr t.1)
attempt_in (Attempt n d ∷ l) h = go (cases_lt (attempt l) n) (λ low. attempt_in l low)
  where
    go : (attempt l < n) ⊎ (n ≤ attempt l) → (1 ≤ attempt l → (e : Dir) × IsIn (Attempt (attempt l) e) l) → (e : Dir) × IsIn (Attempt (max n (attempt l)) e) (Attempt n d ∷ l)
    go (inl lt) rest = let same : max n (attempt l) ≡ n = omega arith in (d, inl (ap (λ k. Attempt k d) same))
    go (inr le) rest =
        let same : attempt l ≡ max n (attempt l) = omega arith in
        let t = rest (omega arith) in
        (t.0, inr (subst (λ k. IsIn (Attempt k t.0) l) same t.1))
