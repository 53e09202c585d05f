-- The notes of a site in a trail are the records of its log, but for the leaders of the joins.
use Rattle.std.proofs.Common.{◌≡◌, inl, inr, ◌∷◌, [], ◌++◌, ◌==◌, ◌<◌, ℕ, Bool, true, false, List, fold, map, refl, sym, ap, subst, ◌∙◌, if◌then◌else◌, max}
use Rattle.std.proofs.lemmas.Bool.{cond-true, cond-false}
use Rattle.std.proofs.lemmas.List.Concat.{flat_map-append}
use Rattle.std.proofs.lemmas.List.{map-append}
use Rattle.std.proofs.lemmas.List.Sums.{fold-append}
use Rattle.e3_types.specs.declared.entries.Input.{Input}
use Rattle.e3_types.specs.declared.records.Record.{Record}
use Rattle.e3_types.specs.declared.records.Record.TheVariants as log
use Rattle.e3_types.specs.declared.scenarios.Scenario.{Scenario}
use Rattle.e3_types.specs.declared.transactions.Txn.{Txn}
use Rattle.e3_types.specs.Same.{same_txn}
use Rattle.e3_world.specs.Moves.{Did, Stepped, Silent, Rose, Move, moves_at, recorded, rise_records, log_by}
use Rattle.e3_world.specs.Sound.{step_move, records_in_turn}
use Rattle.e3_laws.specs.agreement.Logs.{IsIn, Note, Vote, Join, Attempt, Decision, elected, attempt, status, before_join, Fits, Orderly}
use Rattle.e3_laws.specs.agreement.Marks.{behind, log_of}
use Rattle.e3_laws.specs.agreement.Marks.{log_by as noted_by}
use Rattle.e3_laws.specs.agreement.Trails.{silent_marks, marks_in, marks_after, marks_of, IsMadeMove, MadeAfter, IsMade}
use Rattle.e3_laws.specs.agreement.Views.{note_of, notes_of, leader_of}
use Rattle.e3_laws.proofs.agreement.Refinement.Readings.{behind-append}

-- the note without its leader
abbrev pub erase : Note → Note
erase (Join n e) = Join n 0
erase r = r

-- the notes that records are, without leaders
abbrev pub face : Txn → List Record → List Note
face t records = behind [] (notes_of t 0 records)

behind_erased : (l ns : List Note) → map erase (behind l ns) ≡ behind (map erase l) (map erase ns)
behind_erased l [] = refl
behind_erased l (n ∷ ns) = behind_erased (n ∷ l) ns

note_erased : (t : Txn) (e : ℕ) (r : Record) → map erase (note_of t e r) ≡ note_of t 0 r
note_erased t e (log.Vote u ops) = go (same_txn t u)
  where
    go : (b : Bool) → map erase (if b then Vote ∷ [] else []) ≡ (if b then Vote ∷ [] else [])
    go true = refl
    go false = refl
note_erased t e (log.Join u n) = go (same_txn t u)
  where
    go : (b : Bool) → map erase (if b then Join n e ∷ [] else []) ≡ (if b then Join n 0 ∷ [] else [])
    go true = refl
    go false = refl
note_erased t e (log.Attempt u n d) = go (same_txn t u)
  where
    go : (b : Bool) → map erase (if b then Attempt n d ∷ [] else []) ≡ (if b then Attempt n d ∷ [] else [])
    go true = refl
    go false = refl
note_erased t e (log.Decision u d) = go (same_txn t u)
  where
    go : (b : Bool) → map erase (if b then Decision d ∷ [] else []) ≡ (if b then Decision d ∷ [] else [])
    go true = refl
    go false = refl
note_erased t e (log.Birth format site weights rows) = refl
note_erased t e (log.Inc inc) = refl

notes_erased : (t : Txn) (e : ℕ) (rs : List Record) → map erase (notes_of t e rs) ≡ notes_of t 0 rs
notes_erased t e [] = refl
notes_erased t e (r ∷ rs) = map-append erase (note_of t e r) (notes_of t e rs) ∙ ap (λ z. z ++ map erase (notes_of t e rs)) (note_erased t e r) ∙ ap (λ z. note_of t 0 r ++ z) (notes_erased t e rs)

-- notes behind others, without their leaders
behind_face : (t : Txn) (e : ℕ) (l : List Note) (rs : List Record) → map erase (behind l (notes_of t e rs)) ≡ behind (map erase l) (notes_of t 0 rs)
behind_face t e l rs = behind_erased l (notes_of t e rs) ∙ ap (behind (map erase l)) (notes_erased t e rs)

behind_more : (t : Txn) (l : List Note) (xs ys : List Record) → behind (behind l (notes_of t 0 xs)) (notes_of t 0 ys) ≡ behind l (notes_of t 0 (xs ++ ys))
behind_more t l xs ys = sym (behind-append l (notes_of t 0 xs) (notes_of t 0 ys)) ∙ ap (behind l) (sym (flat_map-append (note_of t 0) xs ys))

-- the notes of a split log
pub face_split : (t : Txn) (before : List Record) (r : Record) (after : List Record) → face t (before ++ r ∷ after) ≡ behind (behind (face t before) (note_of t 0 r)) (notes_of t 0 after)
face_split t before r after = sym (behind_more t [] before (r ∷ after)) ∙ behind-append (face t before) (note_of t 0 r) (notes_of t 0 after)

-- the marks of inputs whose steps nobody saw
silent_here : (sc : Scenario) (t : Txn) (x site : ℕ) (mine : List Move) (inputs : List Input) (l : List Note) → (site == x) ≡ true
    → map erase (fold (noted_by x) l (silent_marks sc t site mine inputs)) ≡ behind (map erase l) (notes_of t 0 (records_in_turn sc site mine inputs))
silent_here sc t x site mine [] l is = refl
silent_here sc t x site mine (i ∷ inputs) l is =
    let rs : List Record = recorded (step_move sc site mine i) in
    let e : ℕ = leader_of site i in
    let later : List Move = mine ++ step_move sc site mine i ∷ [] in
    ap (λ z. map erase (fold (noted_by x) z (silent_marks sc t site later inputs))) (cond-true (site == x) (behind l (notes_of t e rs)) l is)
    ∙ silent_here sc t x site later inputs (behind l (notes_of t e rs)) is
    ∙ ap (λ z. behind z (notes_of t 0 (records_in_turn sc site later inputs))) (behind_face t e l rs)
    ∙ behind_more t (map erase l) rs (records_in_turn sc site later inputs)

silent_there : (sc : Scenario) (t : Txn) (x site : ℕ) (mine : List Move) (inputs : List Input) (l : List Note) → (site == x) ≡ false → fold (noted_by x) l (silent_marks sc t site mine inputs) ≡ l
silent_there sc t x site mine [] l is = refl
silent_there sc t x site mine (i ∷ inputs) l is =
    let rs : List Record = recorded (step_move sc site mine i) in
    let later : List Move = mine ++ step_move sc site mine i ∷ [] in
    ap (λ z. fold (noted_by x) z (silent_marks sc t site later inputs)) (cond-false (site == x) (behind l (notes_of t (leader_of site i) rs)) l is)
    ∙ silent_there sc t x site later inputs l is

-- a rise writes nothing of a transaction
rise_face : (sc : Scenario) (t : Txn) (site inc : ℕ) (was records : List Record) (l : List Note) → records ≡ rise_records sc site inc was → map erase l ≡ behind (map erase l) (notes_of t 0 records)
rise_face sc t site inc was records l is = ap (behind (map erase l)) (sym (ap (notes_of t 0) is ∙ none was))
  where
    none : (was : List Record) → notes_of t 0 (rise_records sc site inc was) ≡ []
    none [] = refl
    none (r ∷ rs) = refl

move_here : (sc : Scenario) (t : Txn) (x site : ℕ) (before : List Move) (d : Did) (l : List Note) → IsMadeMove sc before (record { site = site; did = d }) → (site == x) ≡ true
    → map erase (fold (noted_by x) l (marks_in sc t before (record { site = site; did = d }))) ≡ behind (map erase l) (notes_of t 0 (recorded (record { site = site; did = d })))
move_here sc t x site before (Stepped s) l made is =
    let e : ℕ = leader_of site s.input in
    ap (map erase) (cond-true (site == x) (behind l (notes_of t e s.records)) l is) ∙ behind_face t e l s.records
move_here sc t x site before (Silent [] records) l made is = rise_face sc t site made.0 (log_by (moves_at site before)) records l made.1
move_here sc t x site before (Silent (i ∷ inputs) records) l made is =
    silent_here sc t x site (moves_at site before) (i ∷ inputs) l is ∙ ap (λ z. behind (map erase l) (notes_of t 0 z)) (sym made.made)
move_here sc t x site before (Rose inc records) l made is = rise_face sc t site inc (log_by (moves_at site before)) records l made

move_there : (sc : Scenario) (t : Txn) (x site : ℕ) (before : List Move) (d : Did) (l : List Note) → (site == x) ≡ false → fold (noted_by x) l (marks_in sc t before (record { site = site; did = d })) ≡ l
move_there sc t x site before (Stepped s) l is = cond-false (site == x) (behind l (notes_of t (leader_of site s.input) s.records)) l is
move_there sc t x site before (Silent inputs records) l is = silent_there sc t x site (moves_at site before) inputs l is
move_there sc t x site before (Rose inc records) l is = refl

face_after : (sc : Scenario) (t : Txn) (x : ℕ) (before rest : List Move) (l : List Note) → MadeAfter sc before rest
    → map erase (fold (noted_by x) l (marks_after sc t before rest)) ≡ behind (map erase l) (notes_of t 0 (log_by (moves_at x rest)))
face_after sc t x before [] l made = refl
face_after sc t x before (m ∷ rest) l made =
    ap (map erase) (fold-append (noted_by x) l (marks_in sc t before m) (marks_after sc t (before ++ m ∷ []) rest))
    ∙ by (face_after sc t x (before ++ m ∷ []) rest (fold (noted_by x) l (marks_in sc t before m)) made.1) (m.site == x) refl
  where
    first : List Note
    first = fold (noted_by x) l (marks_in sc t before m)

    by : map erase (fold (noted_by x) first (marks_after sc t (before ++ m ∷ []) rest)) ≡ behind (map erase first) (notes_of t 0 (log_by (moves_at x rest)))
        → (b : Bool) → (m.site == x) ≡ b → map erase (fold (noted_by x) first (marks_after sc t (before ++ m ∷ []) rest)) ≡ behind (map erase l) (notes_of t 0 (log_by (moves_at x (m ∷ rest))))
    by later true is =
        later ∙ ap (λ z. behind z (notes_of t 0 (log_by (moves_at x rest)))) (move_here sc t x m.site before m.did l made.0 is)
        ∙ behind_more t (map erase l) (recorded m) (log_by (moves_at x rest))
        ∙ ap (λ z. behind (map erase l) (notes_of t 0 (log_by z))) (sym (cond-true (m.site == x) (m ∷ moves_at x rest) (moves_at x rest) is))
    by later false is =
        later ∙ ap (λ z. behind (map erase z) (notes_of t 0 (log_by (moves_at x rest)))) (move_there sc t x m.site before m.did l is)
        ∙ ap (λ z. behind (map erase l) (notes_of t 0 (log_by z))) (sym (cond-false (m.site == x) (m ∷ moves_at x rest) (moves_at x rest) is))

-- the notes of a site without their leaders are what the records of its log say
pub faces : (sc : Scenario) (t : Txn) (x : ℕ) (trail : List Move) → IsMade sc trail → map erase (log_of x (marks_of sc t trail)) ≡ face t (log_by (moves_at x trail))
faces sc t x trail made = face_after sc t x [] trail [] made

-- the readings of notes do not see leaders
pub elected_erased : (l : List Note) → elected (map erase l) ≡ elected l
elected_erased [] = refl
elected_erased (Join n e ∷ l) = ap (λ z. max n z) (elected_erased l)
elected_erased (Vote ∷ l) = elected_erased l
elected_erased (Attempt n d ∷ l) = elected_erased l
elected_erased (Decision d ∷ l) = elected_erased l

pub attempt_erased : (l : List Note) → attempt (map erase l) ≡ attempt l
attempt_erased [] = refl
attempt_erased (Attempt n d ∷ l) = ap (λ z. max n z) (attempt_erased l)
attempt_erased (Vote ∷ l) = attempt_erased l
attempt_erased (Join n e ∷ l) = attempt_erased l
attempt_erased (Decision d ∷ l) = attempt_erased l

pub status_erased : (l : List Note) → status (map erase l) ≡ status l
status_erased [] = refl
status_erased (Join n e ∷ l) = status_erased l
status_erased (Vote ∷ l) = refl
status_erased (Attempt n d ∷ l) = refl
status_erased (Decision d ∷ l) = refl

pub before_erased : (n : ℕ) (l : List Note) → before_join n (map erase l) ≡ map erase (before_join n l)
before_erased n [] = refl
before_erased n (Vote ∷ l) = before_erased n l
before_erased n (Attempt m d ∷ l) = before_erased n l
before_erased n (Decision d ∷ l) = before_erased n l
before_erased n (Join m e ∷ l) = go (m == n) (before_erased n l)
  where
    go : (b : Bool) → before_join n (map erase l) ≡ map erase (before_join n l) → (if b then map erase l else before_join n (map erase l)) ≡ map erase (if b then l else before_join n l)
    go true rest = refl
    go false rest = rest

pub in_erased : (r : Note) (l : List Note) → IsIn r l → IsIn (erase r) (map erase l)
in_erased r [] k = absurd k
in_erased r (q ∷ l) (inl e) = inl (ap erase e)
in_erased r (q ∷ l) (inr k) = inr (in_erased r l k)

-- and so do the rules of what may stand behind what
fits_erased : (r : Note) (l : List Note) → Fits r l → Fits (erase r) (map erase l)
fits_erased Vote l f = ap (map erase) f
fits_erased (Join n e) l f = subst (λ z. z < n) (sym (elected_erased l)) f
fits_erased (Attempt n d) l f = record {
  open_yet = λ e q. f.open_yet e (sym (status_erased l) ∙ q);
  current = f.current ∙ sym (elected_erased l);
  fresh = subst (λ z. z < n) (sym (attempt_erased l)) f.fresh;
  first_commits = f.first_commits;
  first_voted = λ q. in_erased Vote l (f.first_voted q);
}
fits_erased (Decision d) l f = record { open_yet = λ e q. f.open_yet e (sym (status_erased l) ∙ q); voted = λ q. in_erased Vote l (f.voted q) }

pub orderly_erased : (l : List Note) → Orderly l → Orderly (map erase l)
orderly_erased [] o = o
orderly_erased (r ∷ l) o = (fits_erased r l o.0, orderly_erased l o.1)

-- a join without its leader is one of some leader
pub join_led : (n : ℕ) (l : List Note) → IsIn (Join n 0) (map erase l) → (e : ℕ) × IsIn (Join n e) l
join_led n [] k = absurd k
join_led n (Join m e ∷ l) (inl p) = let same : n ≡ m = cc in (e, inl (ap (λ z. Join z e) same))
join_led n (Join m e ∷ l) (inr k) = let t = join_led n l k in (t.0, inr t.1)
join_led n (Vote ∷ l) (inl p) = cc
join_led n (Vote ∷ l) (inr k) = let t = join_led n l k in (t.0, inr t.1)
join_led n (Attempt m d ∷ l) (inl p) = cc
join_led n (Attempt m d ∷ l) (inr k) = let t = join_led n l k in (t.0, inr t.1)
join_led n (Decision d ∷ l) (inl p) = cc
join_led n (Decision d ∷ l) (inr k) = let t = join_led n l k in (t.0, inr t.1)
