-- The test of a record over those before it is what a log asks of it.
use Rattle.std.proofs.Common.{◌≡◌, ◌≢◌, ◌<◌, ◌≤◌, ◌==◌, ◌||◌, ◌∷◌, [], ℕ, suc, Bool, true, false, not, List, length, nat_lt, nat_le, refl, sym, ap, ◌∙◌, arith, eq-eqb}
use Rattle.std.proofs.lemmas.Bool.{and_parts, and_from, false≢true, eqb-true, ne_eqb, ltb-true, lt-ltb, leb-true, le-leb}
use Rattle.std.proofs.lemmas.Grind.{common_steps}
use Rattle.e3_types.specs.declared.records.Record.{Record}
use Rattle.e3_types.specs.declared.records.Record.TheVariants as log
use Rattle.e3_types.specs.declared.transactions.Dir.{Dir}
use Rattle.e3_types.specs.declared.transactions.Dir.TheVariants.{Abort, Commit}
use Rattle.e3_types.specs.declared.transactions.NumOp.{NumOp}
use Rattle.e3_types.specs.declared.transactions.Row.{Row}
use Rattle.e3_types.specs.declared.transactions.State.{State}
use Rattle.e3_types.specs.declared.transactions.State.TheVariants.{Q, W, Pc, Pa, C, A}
use Rattle.e3_types.specs.declared.transactions.Txn.{Txn}
use Rattle.e3_types.specs.Same.{same_dir, same_state}
use Rattle.e3_types.specs.Sets.{has_site}
use Rattle.e3_world.specs.Logs.{last_elected, state_of, logged_inc}
use Rattle.e3_world.specs.Orderly.{IsBirth, IsVote, IsJoin, IsAttempt, IsDecision, is_among, MayFollow, IsInc}
use Rattle.e3_site.specs.Orderly.{is_weighed, is_birth, is_next_inc, is_first_vote, is_next_join, is_next_attempt, is_first_decision, is_orderly_next}

-- a list is empty where its length is 0
empty-length : (xs : List Record) → (length xs == 0) ≡ true → xs ≡ []
empty-length [] h = refl
empty-length (x ∷ xs) h = let n : length (x ∷ xs) ≡ 0 = eqb-true (length (x ∷ xs)) 0 h in absurd (omega arith)

some-length : (xs : List Record) → not (length xs == 0) ≡ true → xs ≢ []
some-length [] h = absurd (false≢true h)
some-length (x ∷ xs) h = λ e. let n : suc (length xs) ≡ 0 = ap length e in omega arith

length-some : (xs : List Record) → xs ≢ [] → not (length xs == 0) ≡ true
length-some [] h = absurd (h refl)
length-some (x ∷ xs) h = let n : length (x ∷ xs) ≢ 0 = omega arith in ap not (ne_eqb (length (x ∷ xs)) 0 n)

-- a site with a weight is among the sites with weights
among-weighed : (site : ℕ) (weights : List ℕ) → is_among site weights (site ∷ []) ≡ is_weighed weights site
among-weighed site weights = by (is_weighed weights site) refl
  where
    self : has_site (site ∷ []) site ≡ true
    self = rw (eq-eqb site site refl) refl

    by : (b : Bool) → is_weighed weights site ≡ b → is_among site weights (site ∷ []) ≡ b
    by true is = rw (self, is) refl
    by false is = rw (self, is) refl

quiet : (st : State) → same_state st Q ≡ true → st ≡ Q
quiet Q h = refl
quiet W h = absurd (false≢true h)
quiet Pc h = absurd (false≢true h)
quiet Pa h = absurd (false≢true h)
quiet C h = absurd (false≢true h)
quiet A h = absurd (false≢true h)

commits : (d : Dir) → same_dir d Commit ≡ true → d ≡ Commit
commits Commit h = refl
commits Abort h = absurd (false≢true h)

-- an implication of tests
if-so : (a b : Bool) → (not a || b) ≡ true → a ≡ true → b ≡ true
if-so true b h is = h
if-so false b h is = absurd (false≢true is)

so-if : (a b : Bool) → (a ≡ true → b ≡ true) → (not a || b) ≡ true
so-if true b h = h refl
so-if false b h = refl

lt-from : (m n : ℕ) → nat_lt m n ≡ true → m < n
lt-from m n h = ltb-true m n h

lt-to : (m n : ℕ) → m < n → nat_lt m n ≡ true
lt-to m n h = lt-ltb m n h

le-from : (m n : ℕ) → nat_le m n ≡ true → m ≤ n
le-from m n h = leb-true m n h

le-to : (m n : ℕ) → m ≤ n → nat_le m n ≡ true
le-to m n h = le-leb m n h

birth-follows : (site : ℕ) (before : List Record) (format number : ℕ) (weights : List ℕ) (rows : List Row) →
    is_birth site before format number weights rows ≡ true → IsBirth site before format number weights rows
birth-follows site before format number weights rows h =
    let all = and_parts _ _ h in
    let weighed = and_parts _ _ all.0 in
    let known = and_parts _ _ weighed.0 in
    let own = and_parts _ _ known.0 in
    let first = and_parts _ _ own.0 in
    let few = and_parts _ _ weighed.1 in
    record {
      first = empty-length before first.0;
      one = eqb-true format 1 first.1;
      of_site = eqb-true number site own.1;
      known = among-weighed site weights ∙ known.1;
      few = le-from _ _ few.0;
      weighed = few.1;
      ascending = all.1;
    }

follows-birth : (site : ℕ) (before : List Record) (format number : ℕ) (weights : List ℕ) (rows : List Row) →
    IsBirth site before format number weights rows → is_birth site before format number weights rows ≡ true
follows-birth site before format number weights rows b =
    let first : (length before == 0) ≡ true = rw b.first refl in
    and_from _ _ (and_from _ _ (and_from _ _ (and_from _ _ (and_from _ _ first (eq-eqb format 1 b.one)) (eq-eqb number site b.of_site))
    (sym (among-weighed site weights) ∙ b.known)) (and_from _ _ (le-to _ _ b.few) b.weighed)) b.ascending

-- a later incarnation is one more than the last, and the first is any
next-inc : (n inc : ℕ) → (n == 0 || inc == suc n) ≡ true → 1 ≤ n → inc ≡ suc n
next-inc n inc h some = by (n == 0) refl h
  where
    by : (b : Bool) → (n == 0) ≡ b → (b || inc == suc n) ≡ true → inc ≡ suc n
    by true is k = absurd (let none : n ≡ 0 = eqb-true n 0 is in omega (arith, none, some))
    by false is k = eqb-true inc (suc n) k

inc-next : (n inc : ℕ) → (n ≡ 0 → 1 ≤ inc) → (1 ≤ n → inc ≡ suc n) → (0 < inc) × ((n == 0 || inc == suc n) ≡ true)
inc-next n inc first next = by (n == 0) refl
  where
    by : (b : Bool) → (n == 0) ≡ b → (0 < inc) × ((n == 0 || inc == suc n) ≡ true)
    by true is = (first (eqb-true n 0 is), rw is refl)
    by false is =
        let some : 1 ≤ n = grind (arith, common_steps, is) in
        let e : inc ≡ suc n = next some in
        (omega (arith, e), rw is (eq-eqb inc (suc n) e))

inc-follows : (before : List Record) (inc : ℕ) → is_next_inc before inc ≡ true → IsInc before inc
inc-follows before inc h =
    let all = and_parts _ _ h in
    let both = and_parts _ _ all.0 in
    record {
      born = some-length before both.0;
      first = λ none. lt-from 0 inc both.1;
      next = λ some. next-inc (logged_inc before) inc all.1 some;
    }

follows-inc : (before : List Record) (inc : ℕ) → IsInc before inc → is_next_inc before inc ≡ true
follows-inc before inc i =
    let is = inc-next (logged_inc before) inc i.first i.next in
    and_from _ _ (and_from _ _ (length-some before i.born) (lt-to 0 inc is.0)) is.1

vote-follows : (site : ℕ) (before : List Record) (t : Txn) (ops : List NumOp) →
    is_first_vote site before t ops ≡ true → IsVote site before t ops
vote-follows site before t ops h =
    let all = and_parts _ _ h in
    let numbered = and_parts _ _ all.0 in
    let elected = and_parts _ _ numbered.0 in
    let known = and_parts _ _ elected.0 in
    let few = and_parts _ _ numbered.1 in
    record {
      known = known.0;
      fresh = quiet (state_of t before) known.1;
      not_joined = eqb-true (last_elected t before) 1 elected.1;
      ascending = few.0;
      few = few.1;
      free = all.1;
    }

follows-vote : (site : ℕ) (before : List Record) (t : Txn) (ops : List NumOp) →
    IsVote site before t ops → is_first_vote site before t ops ≡ true
follows-vote site before t ops v =
    let fresh : same_state (state_of t before) Q ≡ true = ap (λ st. same_state st Q) v.fresh in
    and_from _ _ (and_from _ _ (and_from _ _ (and_from _ _ v.known fresh) (eq-eqb (last_elected t before) 1 v.not_joined))
    (and_from _ _ v.ascending v.few)) v.free

join-follows : (site : ℕ) (before : List Record) (t : Txn) (n : ℕ) → is_next_join site before t n ≡ true → IsJoin site before t n
join-follows site before t n h =
    let both = and_parts _ _ h in
    record { known = both.0; rises = lt-from _ _ both.1 }

follows-join : (site : ℕ) (before : List Record) (t : Txn) (n : ℕ) → IsJoin site before t n → is_next_join site before t n ≡ true
follows-join site before t n j = and_from _ _ j.known (lt-to _ _ j.rises)

attempt-follows : (site : ℕ) (before : List Record) (t : Txn) (n : ℕ) (d : Dir) →
    is_next_attempt site before t n d ≡ true → IsAttempt site before t n d
attempt-follows site before t n d h =
    let all = and_parts _ _ h in
    let rises = and_parts _ _ all.0 in
    let elected = and_parts _ _ rises.0 in
    let known = and_parts _ _ elected.0 in
    record {
      known = known.0;
      undecided = known.1;
      elected = eqb-true n (last_elected t before) elected.1;
      rises = lt-from _ _ rises.1;
      first = λ one.
          let both = and_parts _ _ (if-so (n == 1) _ all.1 (eq-eqb n 1 one)) in
          (both.0, commits d both.1);
    }

follows-attempt : (site : ℕ) (before : List Record) (t : Txn) (n : ℕ) (d : Dir) →
    IsAttempt site before t n d → is_next_attempt site before t n d ≡ true
follows-attempt site before t n d a =
    and_from _ _ (and_from _ _ (and_from _ _ (and_from _ _ a.known a.undecided) (eq-eqb n (last_elected t before) a.elected)) (lt-to _ _ a.rises))
    (so-if (n == 1) _ (λ one.
    let both = a.first (eqb-true n 1 one) in
    and_from _ _ both.0 (ap (λ (x : Dir). same_dir x Commit) both.1)))

decision-follows : (site : ℕ) (before : List Record) (t : Txn) (d : Dir) → is_first_decision site before t d ≡ true → IsDecision site before t d
decision-follows site before t d h =
    let all = and_parts _ _ h in
    let known = and_parts _ _ all.0 in
    record {
      known = known.0;
      undecided = known.1;
      voted = λ is. if-so (same_dir d Commit) _ all.1 (ap (λ (x : Dir). same_dir x Commit) is);
    }

follows-decision : (site : ℕ) (before : List Record) (t : Txn) (d : Dir) → IsDecision site before t d → is_first_decision site before t d ≡ true
follows-decision site before t d i =
    and_from _ _ (and_from _ _ i.known i.undecided) (so-if (same_dir d Commit) _ (λ is. i.voted (commits d is)))

-- a record that passes the test may follow
pub follows : (site : ℕ) (before : List Record) (r : Record) → is_orderly_next site before r ≡ true → MayFollow site before r
follows site before (log.Birth format number weights rows) = birth-follows site before format number weights rows
follows site before (log.Inc inc) = inc-follows before inc
follows site before (log.Vote t ops) = vote-follows site before t ops
follows site before (log.Join t n) = join-follows site before t n
follows site before (log.Attempt t n dir) = attempt-follows site before t n dir
follows site before (log.Decision t dir) = decision-follows site before t dir

-- a record that may follow passes the test
pub passes : (site : ℕ) (before : List Record) (r : Record) → MayFollow site before r → is_orderly_next site before r ≡ true
passes site before (log.Birth format number weights rows) = follows-birth site before format number weights rows
passes site before (log.Inc inc) = follows-inc before inc
passes site before (log.Vote t ops) = follows-vote site before t ops
passes site before (log.Join t n) = follows-join site before t n
passes site before (log.Attempt t n dir) = follows-attempt site before t n dir
passes site before (log.Decision t dir) = follows-decision site before t dir
