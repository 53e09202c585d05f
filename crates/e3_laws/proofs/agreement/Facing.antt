-- What notes say of the records of a log, and what the order of notes says of the order of records.
use Rattle.std.proofs.Common.{◌==◌, ◌≡◌, ◌⊎◌, inl, inr, ◌∷◌, [], ◌++◌, ◌<◌, ◌≤◌, ℕ, Bool, true, false, List, refl, sym, ap, subst, ◌∙◌, arith, if◌then◌else◌, max}
use Rattle.std.proofs.lemmas.Bool.{cases_lt, cond-true, cond-false, false_from_ne_true, eqb-true, eq-eqb}
use Rattle.e3_types.specs.declared.records.Record.{Record}
use Rattle.e3_types.specs.declared.records.Record.TheVariants as log
use Rattle.e3_types.specs.declared.transactions.Dir.{Dir}
use Rattle.e3_types.specs.declared.transactions.NumOp.{NumOp}
use Rattle.e3_types.specs.declared.transactions.Txn.{Txn}
use Rattle.e3_types.specs.Same.{same_txn}
use Rattle.e3_world.specs.Logs.{last_elected, last_attempt, has_voted}
use Rattle.e3_laws.specs.agreement.Logs.{IsIn, Note, Vote, Join, Attempt, Decision, elected, before_join, Fits, FitsAttempt, Orderly}
use Rattle.e3_laws.proofs.agreement.Protocol.Logs.{attempt-elected, attempt_bound, join_bound, final_is}
use Rattle.e3_laws.specs.agreement.Marks.{behind}
use Rattle.e3_laws.specs.agreement.Rows.{Reads}
use Rattle.e3_laws.specs.agreement.Views.{note_of, notes_of}
use Rattle.e3_laws.proofs.agreement.Refinement.Following.{start_ok}
use Rattle.e3_laws.proofs.agreement.Refinement.Lists.{in_left, in_right, in_flat_map, only_one, same_from}
use Rattle.e3_laws.proofs.agreement.Refinement.Readings.{reads_more, has_from_vote, orderly_front}
use Rattle.e3_laws.proofs.agreement.Erasing.{face, face_split}
use Rattle.e3_laws.proofs.steps.Tests.{same_is}
use Rattle.e3_laws.proofs.agreement.Protocol.Reached.{in_behind}

in_behind_cases : (x : Note) (l ns : List Note) → IsIn x (behind l ns) → IsIn x l ⊎ IsIn x ns
in_behind_cases x l [] k = inl k
in_behind_cases x l (n ∷ ns) k = by (in_behind_cases x (n ∷ l) ns k)
  where
    by : IsIn x (n ∷ l) ⊎ IsIn x ns → IsIn x l ⊎ IsIn x (n ∷ ns)
    by (inl (inl e)) = inr (inl e)
    by (inl (inr q)) = inl q
    by (inr q) = inr (inr q)

in_behind_new : (x : Note) (l ns : List Note) → IsIn x ns → IsIn x (behind l ns)
in_behind_new x l [] k = absurd k
in_behind_new x l (n ∷ ns) (inl e) = in_behind x (n ∷ l) ns (inl e)
in_behind_new x l (n ∷ ns) (inr k) = in_behind_new x (n ∷ l) ns k

-- a note of a log is one of its records
from_face : (t : Txn) (x : Note) (rs : List Record) → IsIn x (face t rs) → (r : Record) × IsIn r rs × IsIn x (note_of t 0 r)
from_face t x rs k = by (in_behind_cases x [] (notes_of t 0 rs) k)
  where
    by : IsIn x [] ⊎ IsIn x (notes_of t 0 rs) → (r : Record) × IsIn r rs × IsIn x (note_of t 0 r)
    by (inl q) = absurd q
    by (inr q) = in_flat_map (note_of t 0) x rs q

-- and the other way
in_notes : (t : Txn) (x : Note) (r : Record) (rs : List Record) → IsIn r rs → IsIn x (note_of t 0 r) → IsIn x (notes_of t 0 rs)
in_notes t x r [] k j = absurd k
in_notes t x r (q ∷ rs) (inl e) j = in_left x (note_of t 0 q) (notes_of t 0 rs) (subst (λ (z : Record). IsIn x (note_of t 0 z)) e j)
in_notes t x r (q ∷ rs) (inr k) j = in_right x (note_of t 0 q) (notes_of t 0 rs) (in_notes t x r rs k j)

one_note : (t : Txn) (x : Note) → IsIn x (if same_txn t t then x ∷ [] else [])
one_note t x = by (same_txn t t) (same_from t t refl)
  where
    by : (b : Bool) → b ≡ true → IsIn x (if b then x ∷ [] else [])
    by true is = inl refl
    by false is = cc

pub vote_to : (t : Txn) (ops : List NumOp) (rs : List Record) → IsIn (log.Vote t ops) rs → IsIn Vote (face t rs)
vote_to t ops rs k = in_behind_new Vote [] (notes_of t 0 rs) (in_notes t Vote (log.Vote t ops) rs k (one_note t Vote))

pub join_to : (t : Txn) (n : ℕ) (rs : List Record) → IsIn (log.Join t n) rs → IsIn (Join n 0) (face t rs)
join_to t n rs k = in_behind_new (Join n 0) [] (notes_of t 0 rs) (in_notes t (Join n 0) (log.Join t n) rs k (one_note t (Join n 0)))

pub attempt_to : (t : Txn) (n : ℕ) (d : Dir) (rs : List Record) → IsIn (log.Attempt t n d) rs → IsIn (Attempt n d) (face t rs)
attempt_to t n d rs k = in_behind_new (Attempt n d) [] (notes_of t 0 rs) (in_notes t (Attempt n d) (log.Attempt t n d) rs k (one_note t (Attempt n d)))

pub decision_to : (t : Txn) (d : Dir) (rs : List Record) → IsIn (log.Decision t d) rs → IsIn (Decision d) (face t rs)
decision_to t d rs k = in_behind_new (Decision d) [] (notes_of t 0 rs) (in_notes t (Decision d) (log.Decision t d) rs k (one_note t (Decision d)))

-- the record that a note is
abbrev IsRecord : Txn → Note → Record → Type 0
IsRecord t Vote r = (ops : List NumOp) × (r ≡ log.Vote t ops)
IsRecord t (Join n e) r = r ≡ log.Join t n
IsRecord t (Attempt n d) r = r ≡ log.Attempt t n d
IsRecord t (Decision d) r = r ≡ log.Decision t d

record_of : (t : Txn) (r : Record) (x : Note) → IsIn x (note_of t 0 r) → IsRecord t x r
record_of t (log.Vote u ops) x k = only_one (λ z. IsRecord t z (log.Vote u ops)) (same_txn t u) Vote (λ is. (ops, ap (λ v. log.Vote v ops) (sym (same_is t u is)))) x k
record_of t (log.Join u n) x k = only_one (λ z. IsRecord t z (log.Join u n)) (same_txn t u) (Join n 0) (λ is. ap (λ v. log.Join v n) (sym (same_is t u is))) x k
record_of t (log.Attempt u n d) x k = only_one (λ z. IsRecord t z (log.Attempt u n d)) (same_txn t u) (Attempt n d) (λ is. ap (λ v. log.Attempt v n d) (sym (same_is t u is))) x k
record_of t (log.Decision u d) x k = only_one (λ z. IsRecord t z (log.Decision u d)) (same_txn t u) (Decision d) (λ is. ap (λ v. log.Decision v d) (sym (same_is t u is))) x k
record_of t (log.Birth format site weights rows) x k = absurd k
record_of t (log.Inc inc) x k = absurd k

pub vote_from : (t : Txn) (rs : List Record) → IsIn Vote (face t rs) → (ops : List NumOp) × IsIn (log.Vote t ops) rs
vote_from t rs k =
    let f = from_face t Vote rs k in
    let r : (ops : List NumOp) × (f.0 ≡ log.Vote t ops) = record_of t f.0 Vote f.2 in
    (r.0, subst (λ (z : Record). IsIn z rs) r.1 f.1)

pub join_from : (t : Txn) (n e : ℕ) (rs : List Record) → IsIn (Join n e) (face t rs) → IsIn (log.Join t n) rs
join_from t n e rs k =
    let f = from_face t (Join n e) rs k in
    let r : f.0 ≡ log.Join t n = record_of t f.0 (Join n e) f.2 in
    subst (λ (z : Record). IsIn z rs) r f.1

pub attempt_from : (t : Txn) (n : ℕ) (d : Dir) (rs : List Record) → IsIn (Attempt n d) (face t rs) → IsIn (log.Attempt t n d) rs
attempt_from t n d rs k =
    let f = from_face t (Attempt n d) rs k in
    let r : f.0 ≡ log.Attempt t n d = record_of t f.0 (Attempt n d) f.2 in
    subst (λ (z : Record). IsIn z rs) r f.1

pub decision_from : (t : Txn) (d : Dir) (rs : List Record) → IsIn (Decision d) (face t rs) → IsIn (log.Decision t d) rs
decision_from t d rs k =
    let f = from_face t (Decision d) rs k in
    let r : f.0 ≡ log.Decision t d = record_of t f.0 (Decision d) f.2 in
    subst (λ (z : Record). IsIn z rs) r f.1

-- what is read off records is read off their notes
pub reads_face : (t : Txn) (rs : List Record) → Reads t rs (face t rs)
reads_face t rs = reads_more t 0 [] [] rs ((start_ok (record { weights = []; rows = []; luck = 0; loss = 0; repeat = 0; steps = [] }) t).sites 0).reads

-- the note of a record fits behind those of the records before it
pub fits_at : (t : Txn) (rs before : List Record) (r : Record) (after : List Record) (x : Note) → note_of t 0 r ≡ x ∷ [] → Orderly (face t rs) → rs ≡ before ++ r ∷ after
    → Fits x (face t before) × Orderly (face t before)
fits_at t rs before r after x one o is =
    let whole : Orderly (behind (behind (face t before) (note_of t 0 r)) (notes_of t 0 after)) = subst Orderly (ap (face t) is ∙ face_split t before r after) o in
    let front : Orderly (behind (face t before) (note_of t 0 r)) = orderly_front (behind (face t before) (note_of t 0 r)) (notes_of t 0 after) whole in
    let this : Orderly (x ∷ face t before) = subst (λ ns. Orderly (behind (face t before) ns)) one front in
    (this.0, this.1)

pub note_is : (t : Txn) (x : Note) → (if same_txn t t then x ∷ [] else []) ≡ x ∷ []
note_is t x = cond-true (same_txn t t) (x ∷ []) [] (same_from t t refl)

-- numbers that are joined rise
pub join_fits : (t : Txn) (rs before : List Record) (n : ℕ) (after : List Record) → Orderly (face t rs) → rs ≡ before ++ log.Join t n ∷ after → last_elected t before < n
join_fits t rs before n after o is =
    let f : elected (face t before) < n = (fits_at t rs before (log.Join t n) after (Join n 0) (note_is t (Join n 0)) o is).0 in
    subst (λ z. z < n) (sym (reads_face t before).elects) f

-- the last number that was joined is 1, or the join stands
elected_in : (l : List Note) → (elected l ≡ 1) ⊎ ((e : ℕ) × IsIn (Join (elected l) e) l)
elected_in [] = inl refl
elected_in (Vote ∷ l) = elim (elected_in l) [ inl one ↦ inl one | inr t ↦ inr (t.0, inr t.1) ]
elected_in (Attempt n d ∷ l) = elim (elected_in l) [ inl one ↦ inl one | inr t ↦ inr (t.0, inr t.1) ]
elected_in (Decision d ∷ l) = elim (elected_in l) [ inl one ↦ inl one | inr t ↦ inr (t.0, inr t.1) ]
elected_in (Join n e ∷ l) = by (cases_lt (elected l) n) (elected_in l)
  where
    by : (elected l < n) ⊎ (n ≤ elected l) → (elected l ≡ 1) ⊎ ((f : ℕ) × IsIn (Join (elected l) f) l) → (max n (elected l) ≡ 1) ⊎ ((f : ℕ) × IsIn (Join (max n (elected l)) f) (Join n e ∷ l))
    by (inl lt) k = let now : max n (elected l) ≡ n = omega (arith, lt) in inr (e, inl (ap (λ z. Join z e) now))
    by (inr le) (inl one) = inl (omega (arith, le, one))
    by (inr le) (inr t) = let now : max n (elected l) ≡ elected l = omega (arith, le) in inr (t.0, inr (subst (λ z. IsIn (Join z t.0) l) (sym now) t.1))

-- an attempt is of the last number that was joined, or of 1
pub attempt_fits : (t : Txn) (rs before : List Record) (n : ℕ) (d : Dir) (after : List Record) → Orderly (face t rs) → rs ≡ before ++ log.Attempt t n d ∷ after
    → (last_elected t before ≡ n) × (last_attempt t before < n) × ((n ≡ 1) ⊎ IsIn (log.Join t n) before)
attempt_fits t rs before n d after o is =
    let f : FitsAttempt n d (face t before) = (fits_at t rs before (log.Attempt t n d) after (Attempt n d) (note_is t (Attempt n d)) o is).0 in
    let r = reads_face t before in (
      r.elects ∙ sym f.current,
      subst (λ z. z < n) (sym r.attempts) f.fresh,
      by f.current (elected_in (face t before)),
    )
  where
    by : n ≡ elected (face t before) → (elected (face t before) ≡ 1) ⊎ ((e : ℕ) × IsIn (Join (elected (face t before)) e) (face t before)) → (n ≡ 1) ⊎ IsIn (log.Join t n) before
    by same (inl one) = inl (same ∙ one)
    by same (inr k) = inr (join_from t n k.0 before (subst (λ z. IsIn (Join z k.0) (face t before)) (sym same) k.1))

pub attempts_below : (t : Txn) (rs : List Record) → Orderly (face t rs) → last_attempt t rs ≤ last_elected t rs
attempts_below t rs o = let r = reads_face t rs in omega (arith, r.attempts, r.elects, attempt-elected (face t rs) o)

-- behind a decision there is no vote, and no attempt
no_vote_behind : (d : Dir) (l ns : List Note) → Orderly (behind l ns) → IsIn (Decision d) l → IsIn Vote ns → ⊥
no_vote_behind d l [] o k v = v
no_vote_behind d l (n ∷ ns) o k (inl e) =
    let first : Orderly (Vote ∷ l) = subst (λ (z : Note). Orderly (z ∷ l)) (sym e) (orderly_front (n ∷ l) ns o) in
    subst (λ z. IsIn (Decision d) z) first.0 k
no_vote_behind d l (n ∷ ns) o k (inr v) = no_vote_behind d (n ∷ l) ns o (inr k) v

no_attempt_behind : (d : Dir) (m : ℕ) (e : Dir) (l ns : List Note) → Orderly (behind l ns) → IsIn (Decision d) l → IsIn (Attempt m e) ns → ⊥
no_attempt_behind d m e l [] o k v = v
no_attempt_behind d m e l (n ∷ ns) o k (inl p) =
    let first : Orderly (Attempt m e ∷ l) = subst (λ (z : Note). Orderly (z ∷ l)) (sym p) (orderly_front (n ∷ l) ns o) in
    first.0.open_yet d (final_is d l first.1 k)
no_attempt_behind d m e l (n ∷ ns) o k (inr v) = no_attempt_behind d m e (n ∷ l) ns o (inr k) v

decision_behind : (t : Txn) (rs before : List Record) (d : Dir) (after : List Record) → rs ≡ before ++ log.Decision t d ∷ after → face t rs ≡ behind (Decision d ∷ face t before) (notes_of t 0 after)
decision_behind t rs before d after is =
    ap (face t) is ∙ face_split t before (log.Decision t d) after ∙ ap (λ ns. behind (behind (face t before) ns) (notes_of t 0 after)) (note_is t (Decision d))

-- the vote of a decided site stands before its decision
pub vote_before : (t : Txn) (rs before : List Record) (d : Dir) (after : List Record) → Orderly (face t rs) → rs ≡ before ++ log.Decision t d ∷ after → IsIn Vote (face t rs) → has_voted t before ≡ true
vote_before t rs before d after o is k =
    (reads_face t before).votes ∙ has_from_vote (face t before) (by (in_behind_cases Vote (Decision d ∷ face t before) (notes_of t 0 after) (subst (λ l. IsIn Vote l) whole k)))
  where
    whole : face t rs ≡ behind (Decision d ∷ face t before) (notes_of t 0 after)
    whole = decision_behind t rs before d after is

    by : IsIn Vote (Decision d ∷ face t before) ⊎ IsIn Vote (notes_of t 0 after) → IsIn Vote (face t before)
    by (inl (inl e)) = cc
    by (inl (inr q)) = q
    by (inr q) = absurd (no_vote_behind d (Decision d ∷ face t before) (notes_of t 0 after) (subst Orderly whole o) (inl refl) q)

-- and so does its attempt
pub attempt_before : (t : Txn) (rs before : List Record) (d : Dir) (after : List Record) (n : ℕ) (e : Dir) → Orderly (face t rs) → rs ≡ before ++ log.Decision t d ∷ after
    → IsIn (Attempt n e) (face t rs) → n ≤ last_attempt t before
attempt_before t rs before d after n e o is k =
    let most = attempt_bound n e (face t before) (by (in_behind_cases (Attempt n e) (Decision d ∷ face t before) (notes_of t 0 after) (subst (λ l. IsIn (Attempt n e) l) whole k))) in
    omega (arith, most, (reads_face t before).attempts)
  where
    whole : face t rs ≡ behind (Decision d ∷ face t before) (notes_of t 0 after)
    whole = decision_behind t rs before d after is

    by : IsIn (Attempt n e) (Decision d ∷ face t before) ⊎ IsIn (Attempt n e) (notes_of t 0 after) → IsIn (Attempt n e) (face t before)
    by (inl (inl p)) = cc
    by (inl (inr q)) = q
    by (inr q) = absurd (no_attempt_behind d n e (Decision d ∷ face t before) (notes_of t 0 after) (subst Orderly whole o) (inl refl) q)

-- notes more leave what stood before a join
pub join_stays : (n e : ℕ) (l ns : List Note) → Orderly (behind l ns) → IsIn (Join n e) l → before_join n (behind l ns) ≡ before_join n l
join_stays n e l [] o k = refl
join_stays n e l (r ∷ ns) o k = join_stays n e (r ∷ l) ns o (inr k) ∙ one r (orderly_front (r ∷ l) ns o)
  where
    one : (r : Note) → Orderly (r ∷ l) → before_join n (r ∷ l) ≡ before_join n l
    one Vote first = refl
    one (Attempt m d) first = refl
    one (Decision d) first = refl
    one (Join m f) first =
        cond-false (m == n) l (before_join n l) (false_from_ne_true (m == n) (λ q. let same : m ≡ n = eqb-true m n q in absurd (omega (arith, first.0, join_bound n e l k))))

-- what stood before a join in the notes is what stands before it in the log
pub before_is : (t : Txn) (rs before : List Record) (n : ℕ) (after : List Record) → Orderly (face t rs) → rs ≡ before ++ log.Join t n ∷ after → before_join n (face t rs) ≡ face t before
before_is t rs before n after o is =
    let whole : face t rs ≡ behind (Join n 0 ∷ face t before) (notes_of t 0 after) =
    ap (face t) is ∙ face_split t before (log.Join t n) after ∙ ap (λ ns. behind (behind (face t before) ns) (notes_of t 0 after)) (note_is t (Join n 0)) in
    ap (before_join n) whole ∙ join_stays n 0 (Join n 0 ∷ face t before) (notes_of t 0 after) (subst Orderly whole o) (inl refl)
    ∙ cond-true (n == n) (face t before) (before_join n (face t before)) (eq-eqb n n refl)

-- where an element of a list stands
pub split_at : {X : Type 0} (x : X) (xs : List X) → IsIn x xs → (before after : List X) × (xs ≡ before ++ x ∷ after)
split_at x [] k = absurd k
split_at x (y ∷ ys) (inl e) = ([], ys, ap (λ z. z ∷ ys) (sym e))
split_at x (y ∷ ys) (inr k) = let t = split_at x ys k in (y ∷ t.0, t.1, ap (λ z. y ∷ z) t.2)
