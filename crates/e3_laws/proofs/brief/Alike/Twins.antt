-- Two lives that made the same steps over logs that say the same of each transaction: what is read off the steps is the same.
use Rattle.std.proofs.Common.{◌≡◌, ◌+◌, ◌==◌, ◌&&◌, ◌||◌, ◌++◌, ◌∷◌, [], ℕ, zero, suc, Bool, true, false, not, List, Option, Some, None, refl, sym, ap, ◌∙◌, if◌then◌else◌, cond, fold, map, filter, length}
use Rattle.std.specs.List.{flat_map, list_any, count_by}
use Rattle.std.proofs.lemmas.List.{map-append}
use Rattle.std.proofs.lemmas.Grind.{flat_map-append}
use Rattle.e3_types.specs.declared.entries.Input.{Input}
use Rattle.e3_types.specs.declared.entries.Input.TheVariants as input
use Rattle.e3_types.specs.declared.entries.Told.{Told}
use Rattle.e3_types.specs.declared.messages.Packet.{Packet}
use Rattle.e3_types.specs.declared.records.Record.{Record}
use Rattle.e3_types.specs.declared.transactions.Answer.{Answer}
use Rattle.e3_types.specs.declared.transactions.Op.{Op}
use Rattle.e3_types.specs.declared.transactions.State.TheVariants.{Q}
use Rattle.e3_types.specs.declared.transactions.Txn.{Txn}
use Rattle.e3_types.specs.Same.{same_state, same_txn}
use Rattle.e3_world.specs.declared.lives.Asked.{Asked}
use Rattle.e3_world.specs.declared.lives.Moment.{Moment}
use Rattle.e3_world.specs.declared.lives.Performed.{Performed}
use Rattle.e3_world.specs.declared.lives.SiteStep.{SiteStep}
use Rattle.e3_world.specs.Elections.{is_elect}
use Rattle.e3_world.specs.Items.{began_in}
use Rattle.e3_world.specs.Logs.{key_of, lock_on}
use Rattle.e3_world.specs.Operations.{and_arrived, answer_sent, answer_told, answers, arrivals, arrived_by, done, done_locks, expected, expected_by, is_answered, issued, issued_in, kept_reason, op_told, performed_by, reason_in, same_asked, taken_up, tells_op, unanswered, waiting}
use Rattle.e3_world.specs.Steps.{is_begin}
use Rattle.e3_world.specs.Votes.{yes_by, yes_votes}
use Rattle.e3_laws.proofs.brief.Alike.Notes.{NotesAlike, notes_open, notes_state}

-- a step of both, and the two logs before it
pub record Twin : Type 0 where
  pub before : List Record
  pub other : List Record
  pub same : NotesAlike before other
  pub step : SiteStep

abbrev pub moment : List Record → SiteStep → Moment
moment before s = record { before = before; input = s.input; records = s.records; outs = s.outs; told = s.told }

-- the steps of the one, and those of the other
abbrev pub left : List Twin → List Moment
left ts = map (λ (t : Twin). moment t.before t.step) ts

abbrev pub right : List Twin → List Moment
right ts = map (λ (t : Twin). moment t.other t.step) ts

-- what is the same of each step is the same of all
pub fold_twins : {B : Type 0} (f : B → Moment → B) → ((t : Twin) (b : B) → f b (moment t.before t.step) ≡ f b (moment t.other t.step)) → (b : B) (ts : List Twin) → fold f b (left ts) ≡ fold f b (right ts)
fold_twins f same b [] = refl
fold_twins f same b (t ∷ ts) = ap (λ c. fold f c (left ts)) (same t b) ∙ fold_twins f same (f b (moment t.other t.step)) ts

pub flat_twins : {A : Type 0} (f : Moment → List A) → ((t : Twin) → f (moment t.before t.step) ≡ f (moment t.other t.step)) → (ts : List Twin) → flat_map f (left ts) ≡ flat_map f (right ts)
flat_twins f same [] = refl
flat_twins f same (t ∷ ts) = λ i. same t i ++ flat_twins f same ts i

pub any_twins : (f : Moment → Bool) → ((t : Twin) → f (moment t.before t.step) ≡ f (moment t.other t.step)) → (ts : List Twin) → list_any f (left ts) ≡ list_any f (right ts)
any_twins f same [] = refl
any_twins f same (t ∷ ts) = λ i. same t i || any_twins f same ts i

-- the same, with one more step
pub one_more : {A : Type 0} (f : List Moment → A) → ((ts : List Twin) → f (left ts) ≡ f (right ts)) → (ts : List Twin) (w : Twin)
    → f (left ts ++ moment w.before w.step ∷ []) ≡ f (right ts ++ moment w.other w.step ∷ [])
one_more f same ts w =
    ap f (sym (map-append (λ (t : Twin). moment t.before t.step) ts (w ∷ [])))
    ∙ same (ts ++ w ∷ [])
    ∙ ap f (map-append (λ (t : Twin). moment t.other t.step) ts (w ∷ []))

pub issued_twins : (t : Txn) (ts : List Twin) → issued t (left ts) ≡ issued t (right ts)
issued_twins t ts = flat_twins (λ (m : Moment). issued_in t m.input m.told) (λ w. refl) ts

pub answers_twins : (a : Asked) (ts : List Twin) → answers a (left ts) ≡ answers a (right ts)
answers_twins a ts = flat_twins (λ (m : Moment). flat_map (answer_told a) m.told ++ flat_map (answer_sent a) m.outs) (λ w. refl) ts

pub told_twins : (t : Txn) (n : ℕ) (ts : List Twin) → op_told t n (left ts) ≡ op_told t n (right ts)
told_twins t n ts = any_twins (λ (m : Moment). list_any (tells_op t n) m.told) (λ w. refl) ts

pub reason_twins : (t : Txn) (ts : List Twin) → kept_reason t (left ts) ≡ kept_reason t (right ts)
reason_twins t ts = flat_twins (λ (m : Moment). flat_map (reason_in t) m.told) (λ w. refl) ts

pub began_twins : (ts : List Twin) → flat_map (λ (m : Moment). flat_map began_in m.told) (left ts) ≡ flat_map (λ (m : Moment). flat_map began_in m.told) (right ts)
began_twins ts = flat_twins (λ (m : Moment). flat_map began_in m.told) (λ w. refl) ts

pub yes_twins : (t : Txn) (ts : List Twin) → yes_votes t (left ts) ≡ yes_votes t (right ts)
yes_twins t ts = fold_twins (yes_by t) (λ w b. refl) None ts

count_twins : (f : Moment → Bool) → ((t : Twin) → f (moment t.before t.step) ≡ f (moment t.other t.step)) → (ts : List Twin) → count_by f (left ts) ≡ count_by f (right ts)
count_twins f same ts = fold_twins (λ (n : ℕ) (m : Moment). n + cond (f m) 1 0) (λ w n. ap (λ (b : Bool). n + cond b 1 0) (same w)) 0 ts

pub begins_twins : (ts : List Twin) → count_by is_begin (left ts) ≡ count_by is_begin (right ts)
begins_twins ts = count_twins is_begin (λ w. refl) ts

pub elects_twins : (ts : List Twin) → count_by is_elect (left ts) ≡ count_by is_elect (right ts)
elects_twins ts = count_twins is_elect (λ w. refl) ts

-- the operation that a step takes up
abbrev step_with : Input → List Record → List Packet → List Told → SiteStep
step_with i rs outs events = record { input = i; records = rs; outs = outs; told = events }

taken_same : (site : ℕ) (ms ks : List Moment) → ((t : Txn) → issued t ms ≡ issued t ks) → (u v : List Record) (i : Input) (rs : List Record) (outs : List Packet) (events : List Told)
    → taken_up site ms (moment u (step_with i rs outs events)) ≡ taken_up site ks (moment v (step_with i rs outs events))
taken_same site ms ks same u v (input.Do t op) rs outs events = by (issued_in t (input.Do t op) events) refl
  where
    by : (l : List Op) → issued_in t (input.Do t op) events ≡ l
        → taken_up site ms (moment u (step_with (input.Do t op) rs outs events)) ≡ taken_up site ks (moment v (step_with (input.Do t op) rs outs events))
    by [] is = rw is refl
    by (o ∷ os) is = rw is (λ j. if (key_of op).site == site then Some (record { txn = t; n = suc (length (same t j)); op = op }) else None)
taken_same site ms ks same u v i rs outs events = refl

taken_twin : (site : ℕ) (ms ks : List Moment) → ((t : Txn) → issued t ms ≡ issued t ks) → (w : Twin)
    → taken_up site ms (moment w.before w.step) ≡ taken_up site ks (moment w.other w.step)
taken_twin site ms ks same w = taken_same site ms ks same w.before w.other w.step.input w.step.records w.step.outs w.step.told

-- what comes to a site
fresh_twin : (asked : List Asked) (w : Twin) (o : Option Asked) → and_arrived asked (moment w.before w.step) o ≡ and_arrived asked (moment w.other w.step) o
fresh_twin asked w None = refl
fresh_twin asked w (Some a) = λ j. if same_state (notes_state w.before w.other w.same a.txn j) Q && not (list_any (same_asked a) asked) then asked ++ a ∷ [] else asked

issued_push : (ms ks : List Moment) (w : Twin) → ((t : Txn) → issued t ms ≡ issued t ks) → (t : Txn)
    → issued t (ms ++ moment w.before w.step ∷ []) ≡ issued t (ks ++ moment w.other w.step ∷ [])
issued_push ms ks w same t =
    flat_map-append (λ (m : Moment). issued_in t m.input m.told) ms (moment w.before w.step ∷ [])
    ∙ ap (λ (l : List Op). l ++ (issued_in t w.step.input w.step.told ++ [])) (same t)
    ∙ sym (flat_map-append (λ (m : Moment). issued_in t m.input m.told) ks (moment w.other w.step ∷ []))

arrived_same : (site : ℕ) (ms ks : List Moment) → ((t : Txn) → issued t ms ≡ issued t ks) → (asked : List Asked) (ts : List Twin)
    → (fold (arrived_by site) (record { steps = ms; asked = asked }) (left ts)).asked ≡ (fold (arrived_by site) (record { steps = ks; asked = asked }) (right ts)).asked
arrived_same site ms ks same asked [] = refl
arrived_same site ms ks same asked (w ∷ ts) =
    arrived_same site (ms ++ moment w.before w.step ∷ []) (ks ++ moment w.other w.step ∷ []) (issued_push ms ks w same)
    (and_arrived asked (moment w.before w.step) (taken_up site ms (moment w.before w.step))) ts
    ∙ ap (λ (q : List Asked). (fold (arrived_by site) (record { steps = ks ++ moment w.other w.step ∷ []; asked = q }) (right ts)).asked)
    (ap (and_arrived asked (moment w.before w.step)) (taken_twin site ms ks same w) ∙ fresh_twin asked w (taken_up site ks (moment w.other w.step)))

pub arrivals_twins : (site : ℕ) (ts : List Twin) → arrivals site (left ts) ≡ arrivals site (right ts)
arrivals_twins site ts = arrived_same site [] [] (λ t. refl) [] ts

pub answered_twins : (ts : List Twin) (a : Asked) → is_answered (left ts) a ≡ is_answered (right ts) a
answered_twins ts a = by (answers a (left ts)) refl
  where
    by : (l : List Answer) → answers a (left ts) ≡ l → is_answered (left ts) a ≡ is_answered (right ts) a
    by [] is = let other : answers a (right ts) ≡ [] = sym (answers_twins a ts) ∙ is in rw (is, other) refl
    by (x ∷ xs) is = let other : answers a (right ts) ≡ x ∷ xs = sym (answers_twins a ts) ∙ is in rw (is, other) refl

performed_twins : (ts : List Twin) (a : Asked) → performed_by (left ts) a ≡ performed_by (right ts) a
performed_twins ts a = by (answers a (left ts)) refl
  where
    by : (l : List Answer) → answers a (left ts) ≡ l → performed_by (left ts) a ≡ performed_by (right ts) a
    by [] is = let other : answers a (right ts) ≡ [] = sym (answers_twins a ts) ∙ is in rw (is, other) refl
    by (x ∷ xs) is = let other : answers a (right ts) ≡ x ∷ xs = sym (answers_twins a ts) ∙ is in rw (is, other) refl

pub done_twins : (site : ℕ) (t : Txn) (ts : List Twin) → done site t (left ts) ≡ done site t (right ts)
done_twins site t ts = λ j. flat_map (λ (a : Asked). performed_twins ts a j) (filter (λ (a : Asked). same_txn t a.txn) (arrivals_twins site ts j))

pub waiting_twins : (site : ℕ) (x y : List Record) → NotesAlike x y → (ts : List Twin) → waiting site x (left ts) ≡ waiting site y (right ts)
waiting_twins site x y s ts = λ j. filter (λ (a : Asked). notes_open x y s a.txn j && not (answered_twins ts a j)) (arrivals_twins site ts j)

pub done_locks_twins : (site : ℕ) (name : List ℕ) (x y : List Record) → NotesAlike x y → (ts : List Twin) → done_locks site name x (left ts) ≡ done_locks site name y (right ts)
done_locks_twins site name x y s ts = λ j.
    flat_map (λ (a : Asked). lock_on name a.txn a.op)
    (filter (λ (a : Asked). notes_open x y s a.txn j && answered_twins ts a j) (arrivals_twins site ts j))

pub unanswered_twins : (t : Txn) (x y : List Record) → NotesAlike x y → (ts : List Twin) → unanswered t x (left ts) ≡ unanswered t y (right ts)
unanswered_twins t x y s ts = by (length (issued t (left ts))) refl
  where
    many : length (issued t (left ts)) ≡ length (issued t (right ts))
    many = ap (λ (l : List Op). length l) (issued_twins t ts)

    by : (n : ℕ) → length (issued t (left ts)) ≡ n → unanswered t x (left ts) ≡ unanswered t y (right ts)
    by zero is = let other : length (issued t (right ts)) ≡ zero = sym many ∙ is in rw (is, other) refl
    by (suc n) is =
        let other : length (issued t (right ts)) ≡ suc n = sym many ∙ is in
        rw (is, other) (λ j. if notes_open x y s t j && not (told_twins t (suc n) ts j) then Some (suc n) else None)

pub expected_twins : (own inc : ℕ) (t : Txn) (site : ℕ) (ts : List Twin) → expected own inc t (left ts) site ≡ expected own inc t (right ts) site
expected_twins own inc t site ts = by (own == site) refl
  where
    mine : (own == site) ≡ true → (l : List Performed) → done own t (left ts) ≡ l → expected own inc t (left ts) site ≡ expected own inc t (right ts) site
    mine is [] here = let there : done own t (right ts) ≡ [] = sym (done_twins own t ts) ∙ here in rw (is, here, there) refl
    mine is (p ∷ ps) here = let there : done own t (right ts) ≡ p ∷ ps = sym (done_twins own t ts) ∙ here in rw (is, here, there) refl

    by : (b : Bool) → (own == site) ≡ b → expected own inc t (left ts) site ≡ expected own inc t (right ts) site
    by true is = mine is (done own t (left ts)) refl
    by false is = rw is (fold_twins (expected_by t site) (λ w b. refl) (record { inc = 0; count = 0 }) ts)
