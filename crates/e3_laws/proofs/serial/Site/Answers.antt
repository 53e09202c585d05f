-- Answers that were given are those of the table with the transaction's own writes before them.
use Rattle.std.proofs.Common.{◌≡◌, ◌⊎◌, inl, inr, ◌++◌, ◌∷◌, [], ℕ, Bool, true, false, List, fold, refl, sym, subst, ap, ◌∙◌, if◌then◌else◌, append-nil, append_assoc}
use Rattle.std.specs.List.{flat_map, AllByRecursion as Each}
use Rattle.std.proofs.lemmas.Bool.{true≢false, false_from_ne_true}
use Rattle.std.proofs.lemmas.Grind.{flat_map-append}
use Rattle.e3_types.specs.declared.records.Record.{Record}
use Rattle.e3_types.specs.declared.records.Record.TheVariants as log
use Rattle.e3_types.specs.declared.transactions.Answer.{Answer}
use Rattle.e3_types.specs.declared.transactions.Dir.TheVariants.{Abort, Commit}
use Rattle.e3_types.specs.declared.transactions.NumOp.{NumOp}
use Rattle.e3_types.specs.declared.transactions.Op.{Op}
use Rattle.e3_types.specs.declared.transactions.Op.TheVariants.{Read, Write}
use Rattle.e3_types.specs.declared.transactions.Txn.{Txn}
use Rattle.e3_types.specs.Locks.{front}
use Rattle.e3_types.specs.Same.{same_txn}
use Rattle.e3_world.specs.declared.lives.Asked.{Asked}
use Rattle.e3_world.specs.declared.lives.At.{At}
use Rattle.e3_world.specs.declared.lives.Made.{Made}
use Rattle.e3_world.specs.declared.lives.Moment.{Moment}
use Rattle.e3_world.specs.declared.lives.Performed.{Performed}
use Rattle.e3_world.specs.Logs.{is_undecided, voted_ops, ops_of_vote, table_of, table_by, install_op, row_value}
use Rattle.e3_world.specs.Making.{nothing, log_now, own_write}
use Rattle.e3_world.specs.Operations.{arrivals, answers, is_answered, performed_by}
use Rattle.e3_laws.proofs.serial.Step.Rules.{IsNote, Ruled, Start, Notes, Decides, Votes, Tells, Says, Asks, Issues}
use Rattle.e3_laws.proofs.serial.Lists.Entries.{through, writes, In, name_of, changes}
use Rattle.e3_laws.proofs.serial.Lists.Members.{in_append, in_back}
use Rattle.e3_laws.proofs.serial.Step.Walk.{log_record}
use Rattle.e3_laws.proofs.serial.Step.Arrivals.{performed_more, InTurn, of_txn}
use Rattle.e3_laws.proofs.serial.Step.Stepping.{in_flat}
use Rattle.e3_laws.proofs.serial.Lists.Facts.{decided_not}
use Rattle.e3_laws.proofs.serial.Site.Holding.{Holds, ByDone, ByVote}
use Rattle.e3_laws.proofs.serial.Site.Recording.{ops_done, ruled_made, vote_done}
use Rattle.e3_laws.proofs.serial.Lists.Members.{in_split}
use Rattle.e3_laws.proofs.serial.Lists.Values.{untouched, writes_in}
use Rattle.e3_laws.proofs.serial.Lists.Tables.{installed_ops}
use Rattle.e3_laws.proofs.steps.Lists.{fold_last}
use Rattle.e3_laws.proofs.steps.Adding.{idle_open}
use Rattle.e3_laws.proofs.steps.Tests.{same_is}
use Rattle.e3_laws.proofs.steps.Undecided.{open_before}

-- the value of a name in a log's table
abbrev pub rows_in : List Record → List ℕ → Answer
rows_in records name = row_value name (table_of records)

-- the answer is the table's, with the writes among what the transaction did before
abbrev pub AnswerFits : (List ℕ → Answer) → List Performed → Performed → Type 0
AnswerFits rows front p = by p.op
  where
    by : Op → Type 0
    by (Read key) = p.answer ≡ fold (own_write key.name) (rows key.name) front
    by (Write key val) = Unit {0}

-- so are all that were answered of these operations
abbrev pub RightAt : (List ℕ → Answer) → List Moment → List Performed → List Asked → Type 0
RightAt rows steps front [] = Unit {0}
RightAt rows steps front (q ∷ qs) = Each (AnswerFits rows front) (performed_by steps q) × RightAt rows steps (front ++ performed_by steps q) qs

-- so are all that were answered of an undecided transaction
abbrev pub Right : ℕ → List Record → List Moment → Type 0
Right site records steps = (t : Txn) → is_undecided t records ≡ true → RightAt (rows_in records) steps [] (of_txn t (arrivals site steps))

-- tables with one more record
table_with : (all more : List Record) (rs : List Record) (rows : List _) → ((u : Txn) → In (log.Decision u Commit) rs → voted_ops u more ≡ voted_ops u all) →
    fold (table_by more) rows rs ≡ fold (table_by all) rows rs
table_with all more [] rows h = refl
table_with all more (log.Decision u Commit ∷ rs) rows h =
    table_with all more rs (fold install_op rows (voted_ops u more)) (λ v k. h v (inr k))
    ∙ ap (λ ops. fold (table_by all) (fold install_op rows ops) rs) (h u (inl refl))
table_with all more (log.Decision u Abort ∷ rs) rows h = table_with all more rs rows (λ v k. h v (inr k))
table_with all more (log.Vote u ops ∷ rs) rows h = table_with all more rs rows (λ v k. h v (inr k))
table_with all more (log.Birth f n w born ∷ rs) rows h = table_with all more rs born (λ v k. h v (inr k))
table_with all more (log.Inc n ∷ rs) rows h = table_with all more rs rows (λ v k. h v (inr k))
table_with all more (log.Join u n ∷ rs) rows h = table_with all more rs rows (λ v k. h v (inr k))
table_with all more (log.Attempt u n d ∷ rs) rows h = table_with all more rs rows (λ v k. h v (inr k))

ops_push : (t : Txn) (rs : List Record) (r : Record) → voted_ops t (rs ++ r ∷ []) ≡ voted_ops t rs ++ ops_of_vote t r
ops_push t rs r = flat_map-append (ops_of_vote t) rs (r ∷ []) ∙ ap (λ l. voted_ops t rs ++ l) (append-nil (ops_of_vote t r))

ops_same : (t : Txn) (rs : List Record) (r : Record) → ops_of_vote t r ≡ [] → voted_ops t (rs ++ r ∷ []) ≡ voted_ops t rs
ops_same t rs r e = ops_push t rs r ∙ ap (λ l. voted_ops t rs ++ l) e ∙ append-nil (voted_ops t rs)

-- a note leaves the table
pub table_note : (rs : List Record) (r : Record) → IsNote r → table_of (rs ++ r ∷ []) ≡ table_of rs
table_note rs r note = by r note
  where
    by : (r : Record) → IsNote r → table_of (rs ++ r ∷ []) ≡ table_of rs
    by (log.Join u n) note = fold_last (table_by (rs ++ log.Join u n ∷ [])) [] rs (log.Join u n) ∙ table_with rs (rs ++ log.Join u n ∷ []) rs [] (λ v k. ops_same v rs (log.Join u n) refl)
    by (log.Attempt u n d) note = fold_last (table_by (rs ++ log.Attempt u n d ∷ [])) [] rs (log.Attempt u n d) ∙ table_with rs (rs ++ log.Attempt u n d ∷ []) rs [] (λ v k. ops_same v rs (log.Attempt u n d) refl)
    by (log.Vote u ops) note = absurd note
    by (log.Decision u d) note = absurd note
    by (log.Birth f n w rows) note = absurd note
    by (log.Inc n) note = absurd note

pub table_inc : (rs : List Record) (n : ℕ) → table_of (rs ++ log.Inc n ∷ []) ≡ table_of rs
table_inc rs n = fold_last (table_by (rs ++ log.Inc n ∷ [])) [] rs (log.Inc n) ∙ table_with rs (rs ++ log.Inc n ∷ []) rs [] (λ v k. ops_same v rs (log.Inc n) refl)

-- a vote of an undecided transaction leaves the table
pub table_vote : (rs : List Record) (t : Txn) (ops : List NumOp) → is_undecided t rs ≡ true → table_of (rs ++ log.Vote t ops ∷ []) ≡ table_of rs
table_vote rs t ops open_yet =
    fold_last (table_by (rs ++ log.Vote t ops ∷ [])) [] rs (log.Vote t ops)
    ∙ table_with rs (rs ++ log.Vote t ops ∷ []) rs [] (λ v k. ops_same v rs (log.Vote t ops) (other v k))
  where
    other : (v : Txn) → In (log.Decision v Commit) rs → ops_of_vote v (log.Vote t ops) ≡ []
    other v k = subst (λ b. (if b then ops else []) ≡ []) (sym (false_from_ne_true (same_txn v t) (λ e.
        true≢false (sym (subst (λ z. is_undecided z rs ≡ true) (sym (same_is v t e)) open_yet) ∙ decided_not v Commit rs k)))) refl

-- an abort leaves the table, and a commit installs the vote's writes
pub table_abort : (rs : List Record) (t : Txn) → table_of (rs ++ log.Decision t Abort ∷ []) ≡ table_of rs
table_abort rs t = fold_last (table_by (rs ++ log.Decision t Abort ∷ [])) [] rs (log.Decision t Abort) ∙ table_with rs (rs ++ log.Decision t Abort ∷ []) rs [] (λ v k. ops_same v rs (log.Decision t Abort) refl)

pub table_commit : (rs : List Record) (t : Txn) (name : List ℕ) → rows_in (rs ++ log.Decision t Commit ∷ []) name ≡ through (voted_ops t rs) name (rows_in rs name)
table_commit rs t name =
    ap (row_value name) (fold_last (table_by more) [] rs (log.Decision t Commit)
    ∙ ap (λ rows. fold install_op rows (voted_ops t more)) (table_with rs more rs [] (λ v k. ops_same v rs (log.Decision t Commit) refl))
    ∙ ap (λ ops. fold install_op (table_of rs) ops) (ops_same t rs (log.Decision t Commit) refl))
    ∙ installed_ops name (voted_ops t rs) (table_of rs)
  where
    more : List Record
    more = rs ++ log.Decision t Commit ∷ []

-- an operation of a transaction's votes is in one of them
pub voted_in : (t : Txn) (rs : List Record) (o : NumOp) → In o (voted_ops t rs) → (ops : List NumOp) × In (log.Vote t ops) rs × In o ops
voted_in t rs o h = let r = in_flat (ops_of_vote t) rs o h in by r.0 r.1 r.2
  where
    voted : (u : Txn) (ops : List NumOp) → In (log.Vote u ops) rs → (b : Bool) → same_txn t u ≡ b → In o (if b then ops else []) → (ops : List NumOp) × In (log.Vote t ops) rs × In o ops
    voted u ops k true same m = (ops, subst (λ z. In (log.Vote z ops) rs) (sym (same_is t u same)) k, m)
    voted u ops k false same m = absurd m

    by : (r : Record) → In r rs → In o (ops_of_vote t r) → (ops : List NumOp) × In (log.Vote t ops) rs × In o ops
    by (log.Vote u ops) k m = voted u ops k (same_txn t u) refl m
    by (log.Birth f n w rows) k m = absurd m
    by (log.Inc n) k m = absurd m
    by (log.Join u n) k m = absurd m
    by (log.Attempt u n d) k m = absurd m
    by (log.Decision u d) k m = absurd m

-- a name that nobody else may write keeps its value through a rule
pub ruled_table : (a : At) (t : Txn) (name : List ℕ) →
    ((u : Txn) (op : Op) → is_undecided u a.life.log ≡ true → Holds a.site a.life.log a.life.steps u op → (t ≡ u → ⊥) → name_of op ≡ name → changes op ≡ true → ⊥) →
    (made : Made) → Ruled a made → is_undecided t (log_now a made) ≡ true → rows_in (log_now a made) name ≡ rows_in a.life.log name
ruled_table a t name free _ Start still = ap (λ l. rows_in l name) (append-nil a.life.log)
ruled_table a t name free _ (Notes r made note k) still =
    let still' = subst (λ l. is_undecided t l ≡ true) (log_record a r made) still in
    ap (λ l. rows_in l name) (log_record a r made) ∙ ap (row_value name) (table_note (log_now a made) r note)
    ∙ ruled_table a t name free made k (open_before t (log_now a made) (r ∷ []) still')
ruled_table a t name free _ (Votes u idle cause) still =
    ap (λ l. rows_in l name) (log_record a (log.Vote u (ops_done a u)) nothing) ∙ ap (row_value name) (table_vote (log_now a nothing) u (ops_done a u) (idle_open u (log_now a nothing) idle))
    ∙ ap (λ l. rows_in l name) (append-nil a.life.log)
ruled_table a t name free _ (Decides u Abort made open_yet k) still =
    let r : Record = log.Decision u Abort in
    let still' = subst (λ l. is_undecided t l ≡ true) (log_record a r made) still in
    ap (λ l. rows_in l name) (log_record a r made) ∙ ap (row_value name) (table_abort (log_now a made) u)
    ∙ ruled_table a t name free made k (open_before t (log_now a made) (r ∷ []) still')
ruled_table a t name free _ (Decides u Commit made open_yet k) still =
    ap (λ l. rows_in l name) (log_record a (log.Decision u Commit) made) ∙ table_commit (log_now a made) u name
    ∙ untouched name (voted_ops u (log_now a made)) (rows_in (log_now a made) name) none
    ∙ ruled_table a t name free made k (open_before t (log_now a made) (log.Decision u Commit ∷ []) (subst (λ l. is_undecided t l ≡ true) (log_record a (log.Decision u Commit) made) still))
  where
    differ : t ≡ u → ⊥
    differ e = true≢false (sym still ∙ ap (is_undecided t) (log_record a (log.Decision u Commit) made)
        ∙ decided_not t Commit (log_now a made ++ log.Decision u Commit ∷ []) (in_back (log_now a made) (log.Decision u Commit ∷ []) (log.Decision t Commit) (inl (ap (λ z. log.Decision z Commit) (sym e)))))

    held : (ops : List NumOp) (o : NumOp) → In (log.Vote u ops) a.life.log ⊎ In (log.Vote u ops) made.records → In o ops → Holds a.site a.life.log a.life.steps u o.op
    held ops o (inl old) m = ByVote ops o old m refl
    held ops o (inr new) m =
        let r = in_split made.records (log.Vote u ops) new in
        let d = vote_done a r.0 u ops (ruled_made a made k r.0 r.1 (log.Vote u ops) r.2) o m in
        ByDone d.0 d.1 d.2 d.3 d.4

    none : writes name (voted_ops u (log_now a made)) ≡ false
    none = false_from_ne_true _ (λ y.
        (let w = writes_in name (voted_ops u (log_now a made)) y in
        let v = voted_in u (log_now a made) w.one w.one_in in
        free u w.one.op (open_before u a.life.log made.records open_yet) (held v.0 w.one (in_append a.life.log made.records (log.Vote u v.0) v.1) v.2) differ w.name w.change))
ruled_table a t name free _ (Tells e made news k) still = ruled_table a t name free made k still
ruled_table a t name free _ (Says to m made away word k) still =
    let e = Rattle.e3_laws.proofs.serial.Step.Stepping.sent_records a to m made in
    ap (λ l. rows_in (a.life.log ++ l) name) e ∙ ruled_table a t name free made k (subst (λ l. is_undecided t (a.life.log ++ l) ≡ true) e still)
ruled_table a t name free _ (Asks to u made away commits voted k) still =
    let e = Rattle.e3_laws.proofs.serial.Step.Stepping.sent_records a to _ made in
    ap (λ l. rows_in (a.life.log ++ l) name) e ∙ ruled_table a t name free made k (subst (λ l. is_undecided t (a.life.log ++ l) ≡ true) e still)
ruled_table a t name free _ (Issues to u op away takes allowed) still =
    ap (λ l. rows_in (a.life.log ++ l) name) (Rattle.e3_laws.proofs.serial.Step.Stepping.sent_records a to _ nothing) ∙ ap (λ l. rows_in l name) (append-nil a.life.log)

-- one more operation, that was not answered
pub right_push : (rows : List ℕ → Answer) (steps : List Moment) (front : List Performed) (qs : List Asked) (x : Asked) → performed_by steps x ≡ [] → RightAt rows steps front qs → RightAt rows steps front (qs ++ x ∷ [])
right_push rows steps front [] x none h = (subst (λ l. Each (AnswerFits rows front) l) (sym none) tt, tt)
right_push rows steps front (q ∷ qs) x none h = (h.0, right_push rows steps (front ++ performed_by steps q) qs x none h.1)

fits_rows : (rows other : List ℕ → Answer) (front : List Performed) (p : Performed) → other (name_of p.op) ≡ rows (name_of p.op) → AnswerFits rows front p → AnswerFits other front p
fits_rows rows other front p same h = by p.op same h
  where
    by : (op : Op) → other (name_of op) ≡ rows (name_of op) → AnswerFits rows front (record p { op = op }) → AnswerFits other front (record p { op = op })
    by (Read key) e k = k ∙ ap (λ z. fold (own_write key.name) z front) (sym e)
    by (Write key val) e k = tt

-- what was performed, by one operation
pub performed_one : (steps : List Moment) (q : Asked) → (performed_by steps q ≡ []) ⊎ ((v : Answer) × (more : List Answer) × (answers q steps ≡ v ∷ more) × (performed_by steps q ≡ record { n = q.n; op = q.op; answer = v } ∷ []))
performed_one steps q = by (answers q steps) refl
  where
    by : (l : List Answer) → answers q steps ≡ l → (performed_by steps q ≡ []) ⊎ ((v : Answer) × (more : List Answer) × (answers q steps ≡ v ∷ more) × (performed_by steps q ≡ record { n = q.n; op = q.op; answer = v } ∷ []))
    by [] is = inl (rw is refl)
    by (v ∷ more) is = inr (v, more, is, (rw is refl))

-- what holds of answers goes on with one more step, where the names asked keep their values, and what is new fits
pub right_walk : (rows other : List ℕ → Answer) (steps : List Moment) (m : Moment) (all init qs : List Asked) → all ≡ init ++ qs → InTurn steps qs →
    ((q : Asked) → In q qs → is_answered steps q ≡ true → other (name_of q.op) ≡ rows (name_of q.op)) →
    ((before : List Asked) (q : Asked) (v : Answer) (more : List Answer) → all ≡ before ++ q ∷ [] → is_answered steps q ≡ false → answers q (steps ++ m ∷ []) ≡ v ∷ more →
    AnswerFits other (flat_map (performed_by steps) before) (record { n = q.n; op = q.op; answer = v })) →
    RightAt rows steps (flat_map (performed_by steps) init) qs → RightAt other (steps ++ m ∷ []) (flat_map (performed_by steps) init) qs
right_walk rows other steps m all init [] split turn same new h = tt
right_walk rows other steps m all init (q ∷ qs) split turn same new h =
    by (is_answered steps q) refl
    (λ rest. right_walk rows other steps m all (init ++ q ∷ []) qs (split ∙ sym (append_assoc init (q ∷ []) qs)) turn.1 (λ r k. same r (inr k)) new rest)
  where
    front : List Performed
    front = flat_map (performed_by steps) init

    grown : flat_map (performed_by steps) (init ++ q ∷ []) ≡ flat_map (performed_by steps) init ++ performed_by steps q
    grown = flat_map-append (performed_by steps) init (q ∷ []) ∙ ap (λ l. flat_map (performed_by steps) init ++ l) (append-nil (performed_by steps q))

    old : is_answered steps q ≡ true → Each (AnswerFits rows (flat_map (performed_by steps) init)) (performed_by steps q) → Each (AnswerFits other (flat_map (performed_by steps) init)) (performed_by steps q)
    old y k = elim (performed_one steps q) [
      | inl none ↦ subst (λ l. Each (AnswerFits other (flat_map (performed_by steps) init)) l) (sym none) tt
      | inr some ↦ (
          let p : Performed = record { n = q.n; op = q.op; answer = some.0 } in
          subst (λ l. Each (AnswerFits other (flat_map (performed_by steps) init)) l) (sym some.3)
          (fits_rows rows other (flat_map (performed_by steps) init) p (same q (inl refl) y) (subst (λ l. Each (AnswerFits rows (flat_map (performed_by steps) init)) l) some.3 k).0, tt))
    ]

    last : is_answered steps q ≡ false → qs ≡ []
    last none = go qs (λ r k. true≢false (sym (turn.0 r k).0 ∙ none))
      where
        go : (l : List Asked) → ((r : Asked) → In r l → ⊥) → l ≡ []
        go [] f = refl
        go (r ∷ l) f = absurd (f r (inl refl))

    fresh : is_answered steps q ≡ false → Each (AnswerFits other (flat_map (performed_by steps) init)) (performed_by (steps ++ m ∷ []) q)
    fresh none = elim (performed_one (steps ++ m ∷ []) q) [
      | inl e ↦ subst (λ l. Each (AnswerFits other (flat_map (performed_by steps) init)) l) (sym e) tt
      | inr some ↦ subst (λ l. Each (AnswerFits other (flat_map (performed_by steps) init)) l) (sym some.3)
          (new init q some.0 some.1 (split ∙ ap (λ l. init ++ q ∷ l) (last none)) none some.2, tt)
    ]

    by : (b : Bool) → is_answered steps q ≡ b →
        (RightAt rows steps (flat_map (performed_by steps) (init ++ q ∷ [])) qs → RightAt other (steps ++ m ∷ []) (flat_map (performed_by steps) (init ++ q ∷ [])) qs) →
        RightAt other (steps ++ m ∷ []) (flat_map (performed_by steps) init) (q ∷ qs)
    by true y go =
        let e : performed_by (steps ++ m ∷ []) q ≡ performed_by steps q = performed_more steps m q y in (
          subst (λ l. Each (AnswerFits other (flat_map (performed_by steps) init)) l) (sym e) (old y h.0),
          subst (λ l. RightAt other (steps ++ m ∷ []) l qs) (grown ∙ ap (λ l. flat_map (performed_by steps) init ++ l) (sym e))
              (go (subst (λ l. RightAt rows steps l qs) (sym grown) h.1)),
        )
    by false none go = (fresh none, subst (λ l. RightAt other (steps ++ m ∷ []) (flat_map (performed_by steps) init ++ performed_by (steps ++ m ∷ []) q) l) (sym (last none)) tt)
