-- What came to a site, and which of it was answered, with one more step.
use Rattle.std.proofs.Common.{◌≡◌, ◌⊎◌, inl, inr, ◌==◌, ◌&&◌, ◌||◌, ◌++◌, ◌∷◌, [], ℕ, ◌<◌, ◌≤◌, Bool, true, false, cond, List, Some, length, filter, refl, sym, subst, ap, ◌∙◌, append-nil, arith}
use Rattle.std.specs.List.{list_any, flat_map}
use Rattle.std.proofs.lemmas.Bool.{true≢false}
use Rattle.std.proofs.lemmas.Grind.{flat_map-append}
use Rattle.std.proofs.lemmas.List.Folds.{list_any-append}
use Rattle.e3_types.specs.declared.entries.Told.{Told}
use Rattle.e3_types.specs.declared.entries.Told.TheVariants as told
use Rattle.e3_types.specs.declared.transactions.Answer.{Answer}
use Rattle.e3_types.specs.declared.transactions.Txn.{Txn}
use Rattle.e3_types.specs.Same.{same_txn}
use Rattle.e3_world.specs.declared.lives.Asked.{Asked}
use Rattle.e3_world.specs.declared.lives.Moment.{Moment}
use Rattle.e3_world.specs.Logs.{key_of}
use Rattle.e3_world.specs.Operations.{issued, nth_op, taken_up, Arrived, and_arrived, arrived_by, arrivals, answer_told, answer_sent, answers, is_answered, performed_by, tells_op, op_told}
use Rattle.e3_laws.proofs.serial.Lists.Entries.{In}
use Rattle.e3_laws.proofs.serial.Lists.Members.{in_append}
use Rattle.e3_laws.proofs.steps.Lists.{fold_last}
use Rattle.e3_laws.proofs.steps.Tests.{or_false}
use Rattle.e3_laws.proofs.steps.Operations.Tracing.{fold_steps}

pub arrivals_push : (site : ℕ) (steps : List Moment) (m : Moment) → arrivals site (steps ++ m ∷ []) ≡ and_arrived (arrivals site steps) m (taken_up site steps m)
arrivals_push site steps m =
    ap (λ (w : Arrived). w.asked) (fold_last (arrived_by site) (record { steps = []; asked = [] }) steps m)
    ∙ ap (λ l. and_arrived (arrivals site steps) m (taken_up site l m)) (fold_steps site (record { steps = []; asked = [] }) steps)

pub answers_push : (q : Asked) (steps : List Moment) (m : Moment) → answers q (steps ++ m ∷ []) ≡ answers q steps ++ (flat_map (answer_told q) m.told ++ flat_map (answer_sent q) m.outs)
answers_push q steps m =
    flat_map-append (λ m. flat_map (answer_told q) m.told ++ flat_map (answer_sent q) m.outs) steps (m ∷ [])
    ∙ ap (λ l. answers q steps ++ l) (append-nil (flat_map (answer_told q) m.told ++ flat_map (answer_sent q) m.outs))

pub told_push : (t : Txn) (n : ℕ) (steps : List Moment) (m : Moment) → op_told t n (steps ++ m ∷ []) ≡ (op_told t n steps || list_any (tells_op t n) m.told)
told_push t n steps m = list_any-append (λ x. list_any (tells_op t n) x.told) steps (m ∷ []) ∙ ap (λ b. op_told t n steps || b) (or_false (list_any (tells_op t n) m.told))

-- a list of answers that is not empty
pub answered_from : (steps : List Moment) (q : Asked) (answer : Answer) (more : List Answer) → answers q steps ≡ answer ∷ more → is_answered steps q ≡ true
answered_from steps q answer more is = rw is refl

pub answered_first : (steps : List Moment) (q : Asked) → is_answered steps q ≡ true → (answer : Answer) × (more : List Answer) × (answers q steps ≡ answer ∷ more)
answered_first steps q h = by (answers q steps) refl
  where
    by : (l : List Answer) → answers q steps ≡ l → (answer : Answer) × (more : List Answer) × (answers q steps ≡ answer ∷ more)
    by [] is = absurd (let now : is_answered steps q ≡ false = rw is refl in true≢false (sym h ∙ now))
    by (x ∷ xs) is = (x, xs, is)

pub unanswered_none : (steps : List Moment) (q : Asked) → is_answered steps q ≡ false → answers q steps ≡ []
unanswered_none steps q h = by (answers q steps) refl
  where
    by : (l : List Answer) → answers q steps ≡ l → answers q steps ≡ []
    by [] is = is
    by (x ∷ xs) is = absurd (let now : is_answered steps q ≡ true = rw is refl in true≢false (sym now ∙ h))

pub answered_more : (steps : List Moment) (m : Moment) (q : Asked) → is_answered steps q ≡ true → is_answered (steps ++ m ∷ []) q ≡ true
answered_more steps m q h =
    let f = answered_first steps q h in
    answered_from (steps ++ m ∷ []) q f.0 (f.1 ++ (flat_map (answer_told q) m.told ++ flat_map (answer_sent q) m.outs))
    (answers_push q steps m ∙ ap (λ l. l ++ (flat_map (answer_told q) m.told ++ flat_map (answer_sent q) m.outs)) f.2)

-- what an operation that was answered performed stays
pub performed_more : (steps : List Moment) (m : Moment) (q : Asked) → is_answered steps q ≡ true → performed_by (steps ++ m ∷ []) q ≡ performed_by steps q
performed_more steps m q h =
    let f = answered_first steps q h in
    let g : answers q (steps ++ m ∷ []) ≡ f.0 ∷ (f.1 ++ (flat_map (answer_told q) m.told ++ flat_map (answer_sent q) m.outs)) =
    answers_push q steps m ∙ ap (λ l. l ++ (flat_map (answer_told q) m.told ++ flat_map (answer_sent q) m.outs)) f.2 in
    rw (g, f.2) refl

-- an operation that was told is answered
pub told_answers : (q : Asked) (l : List Told) → list_any (tells_op q.txn q.n) l ≡ true → (answer : Answer) × (more : List Answer) × (flat_map (answer_told q) l ≡ answer ∷ more)
told_answers q [] h = absurd (true≢false (sym h))
told_answers q (told.Op t n answer ∷ l) h = by (q.n == n && same_txn q.txn t) refl h (told_answers q l)
  where
    by : (b : Bool) → (q.n == n && same_txn q.txn t) ≡ b → (b || list_any (tells_op q.txn q.n) l) ≡ true →
        (list_any (tells_op q.txn q.n) l ≡ true → (answer : Answer) × (more : List Answer) × (flat_map (answer_told q) l ≡ answer ∷ more)) →
        (x : Answer) × (more : List Answer) × (cond b (answer ∷ []) [] ++ flat_map (answer_told q) l ≡ x ∷ more)
    by true is k ih = (answer, flat_map (answer_told q) l, refl)
    by false is k ih = ih k
told_answers q (told.Began t ∷ l) h = told_answers q l h
told_answers q (told.Ended t dir ∷ l) h = told_answers q l h
told_answers q (told.Died t older ∷ l) h = told_answers q l h
told_answers q (told.Doomed t site had now ∷ l) h = told_answers q l h
told_answers q (told.Refused t why ∷ l) h = told_answers q l h
told_answers q (told.Verdict t n v ∷ l) h = told_answers q l h
told_answers q (told.Kept t st ∷ l) h = told_answers q l h

pub op_told_answered : (q : Asked) (steps : List Moment) → op_told q.txn q.n steps ≡ true → is_answered steps q ≡ true
op_told_answered q steps h = let r = go steps h in answered_from steps q r.0 r.1 r.2
  where
    go : (steps : List Moment) → op_told q.txn q.n steps ≡ true → (answer : Answer) × (more : List Answer) × (answers q steps ≡ answer ∷ more)
    go [] h = absurd (true≢false (sym h))
    go (m ∷ steps) h = by (list_any (tells_op q.txn q.n) m.told) refl h (go steps)
      where
        by : (b : Bool) → list_any (tells_op q.txn q.n) m.told ≡ b → (b || op_told q.txn q.n steps) ≡ true →
            (op_told q.txn q.n steps ≡ true → (answer : Answer) × (more : List Answer) × (answers q steps ≡ answer ∷ more)) →
            (answer : Answer) × (more : List Answer) × (answers q (m ∷ steps) ≡ answer ∷ more)
        by true is k ih =
            let f = told_answers q m.told is in
            (f.0, (f.1 ++ flat_map (answer_sent q) m.outs) ++ answers q steps, ap (λ l. (l ++ flat_map (answer_sent q) m.outs) ++ answers q steps) f.2)
        by false is k ih =
            let f = ih k in
            first (flat_map (answer_told q) m.told ++ flat_map (answer_sent q) m.outs) f.0 f.1 f.2
          where
            first : (l : List Answer) (x : Answer) (xs : List Answer) → answers q steps ≡ x ∷ xs → (answer : Answer) × (more : List Answer) × (l ++ answers q steps ≡ answer ∷ more)
            first [] x xs e = (x, xs, e)
            first (y ∷ ys) x xs e = (y, ys ++ answers q steps, refl)

-- Operations of a transaction that stand one by one: their numbers ascend, and all but the last were answered.
abbrev pub InTurn : List Moment → List Asked → Type 0
InTurn steps [] = Unit {0}
InTurn steps (q ∷ qs) = ((r : Asked) → In r qs → (is_answered steps q ≡ true) × (q.n < r.n)) × InTurn steps qs

pub turn_push : (steps : List Moment) (qs : List Asked) (x : Asked) → InTurn steps qs → ((q : Asked) → In q qs → (is_answered steps q ≡ true) × (q.n < x.n)) → InTurn steps (qs ++ x ∷ [])
turn_push steps [] x all last = ((λ r k. absurd k), tt)
turn_push steps (q ∷ qs) x all last = ((λ r k. go r (in_append qs (x ∷ []) r k)), turn_push steps qs x all.1 (λ r k. last r (inr k)))
  where
    go : (r : Asked) → In r qs ⊎ In r (x ∷ []) → (is_answered steps q ≡ true) × (q.n < r.n)
    go r (inl k) = all.0 r k
    go r (inr (inl e)) = subst (λ z. (is_answered steps q ≡ true) × (q.n < z.n)) e (last q (inl refl))
    go r (inr (inr k)) = absurd k

pub turn_more : (steps : List Moment) (m : Moment) (qs : List Asked) → InTurn steps qs → InTurn (steps ++ m ∷ []) qs
turn_more steps m [] all = tt
turn_more steps m (q ∷ qs) all = ((λ r k. (let z = all.0 r k in (answered_more steps m q z.0, z.1))), turn_more steps m qs all.1)

-- two that have one number are one
pub turn_same : (steps : List Moment) (qs : List Asked) (q r : Asked) → InTurn steps qs → In q qs → In r qs → q.n ≡ r.n → q ≡ r
turn_same steps [] q r all h k e = absurd h
turn_same steps (x ∷ qs) q r all (inl a) (inl b) e = sym a ∙ b
turn_same steps (x ∷ qs) q r all (inl a) (inr b) e = absurd (let less = (all.0 r b).1 in let same : x.n ≡ q.n = ap (λ (z : Asked). z.n) a in omega arith)
turn_same steps (x ∷ qs) q r all (inr a) (inl b) e = absurd (let less = (all.0 q a).1 in let same : x.n ≡ r.n = ap (λ (z : Asked). z.n) b in omega arith)
turn_same steps (x ∷ qs) q r all (inr a) (inr b) e = turn_same steps qs q r all.1 a b e

-- the operations of one transaction
abbrev pub of_txn : Txn → List Asked → List Asked
of_txn t qs = filter (λ a. same_txn t a.txn) qs

-- What a site that is up keeps of operations: those of a transaction come one by one, with keys of the site; those of its
-- own transactions are the ones that it issued, each but the last of which it told.
pub record Steady (site : ℕ) (steps : List Moment) : Type 0 where
  pub turns : (t : Txn) → InTurn steps (of_txn t (arrivals site steps))
  pub here : (q : Asked) → In q (arrivals site steps) → ((key_of q.op).site ≡ site) × (1 ≤ q.n)
  pub nth : (q : Asked) → In q (arrivals site steps) → q.txn.site ≡ site → nth_op q.n (issued q.txn steps) ≡ Some q.op
  pub told : (t : Txn) (m : ℕ) → 1 ≤ m → m < length (issued t steps) → op_told t m steps ≡ true
