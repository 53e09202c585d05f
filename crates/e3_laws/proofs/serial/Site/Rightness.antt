-- Answers that were given stay those of the table, with one more step of the site.
use Rattle.std.proofs.Common.{◌≡◌, ◌⊎◌, inl, inr, ◌==◌, ◌++◌, ◌∷◌, [], ℕ, Bool, true, false, not, List, Option, Some, None, fold, refl, sym, subst, ap, ◌∙◌, if◌then◌else◌, append-nil, eq-eqb}
use Rattle.std.specs.List.{list_any, flat_map}
use Rattle.std.proofs.lemmas.Bool.{and_parts, and_from, true≢false}
use Rattle.std.proofs.lemmas.Grind.{flat_map-append}
use Rattle.e3_types.specs.declared.messages.Message.TheVariants as msg
use Rattle.e3_types.specs.declared.transactions.Answer.{Answer}
use Rattle.e3_types.specs.declared.transactions.Key.{Key}
use Rattle.e3_types.specs.declared.transactions.Op.{Op}
use Rattle.e3_types.specs.declared.transactions.Op.TheVariants.{Read, Write}
use Rattle.e3_types.specs.declared.transactions.State.TheVariants.{Q}
use Rattle.e3_types.specs.declared.transactions.Txn.{Txn}
use Rattle.e3_types.specs.Locks.{front}
use Rattle.e3_types.specs.Same.{same_txn, same_state}
use Rattle.e3_laws.proofs.agreement.Refinement.Lists.{same_from}
use Rattle.e3_world.specs.declared.lives.Asked.{Asked}
use Rattle.e3_world.specs.declared.lives.At.{At}
use Rattle.e3_world.specs.declared.lives.Made.{Made}
use Rattle.e3_world.specs.declared.lives.Moment.{Moment}
use Rattle.e3_world.specs.Logs.{state_of, is_undecided, table_of, row_value}
use Rattle.e3_world.specs.Making.{nothing, log_now, steps_now, and_send, own_write, answer_now, and_do, and_grant}
use Rattle.e3_world.specs.Operations.{is_refusal, taken_up, same_asked, is_fresh, and_arrived, arrivals, answers, is_answered, performed_by, done}
use Rattle.e3_world.specs.Sound.{Fits}
use Rattle.e3_world.specs.Steps.{step_at}
use Rattle.e3_laws.proofs.serial.Step.Rules.{Rule, Otherwise, Hears, Locks, Repeats, Shaped}
use Rattle.e3_laws.proofs.serial.Lists.Entries.{In, name_of, changes}
use Rattle.e3_laws.proofs.serial.Lists.Members.{in_back, in_filter}
use Rattle.e3_laws.proofs.serial.Lists.Replaying.{filter-append}
use Rattle.e3_laws.proofs.serial.Step.Shapes.{FromAway}
use Rattle.e3_laws.proofs.serial.Step.Arrivals.{arrivals_push, answered_from, performed_more, InTurn, of_txn, Steady}
use Rattle.e3_laws.proofs.serial.Step.Steadying.{in_any, turns_before}
use Rattle.e3_laws.proofs.serial.Step.Stepping.{moment, so_far, is_moment, grants_keep, shaped_calm, so_far_calm, arrivals_so_far, Why, ByLock, ByGrant, new_why, sent_records}
use Rattle.e3_laws.proofs.serial.Step.Knowing.{Known, fresh_unanswered}
use Rattle.e3_laws.proofs.serial.Site.Holding.{Holds, ByDone, Apart}
use Rattle.e3_laws.proofs.serial.Site.Recording.{shaped_records, lock_records}
use Rattle.e3_laws.proofs.serial.Site.Answers.{rows_in, AnswerFits, RightAt, Right, ruled_table, right_push, performed_one, right_walk}
use Rattle.e3_laws.proofs.steps.Tests.{same_is}
use Rattle.e3_laws.proofs.steps.Undecided.{open_before}

fold_both : {X Y : Type 0} (f : Y → X → Y) (y : Y) (xs ys : List X) → fold f y (xs ++ ys) ≡ fold f (fold f y xs) ys
fold_both f y [] ys = refl
fold_both f y (x ∷ xs) ys = fold_both f (f y x) xs ys

-- operations that were answered before a step performed the same with it
performed_front : (steps : List Moment) (m : Moment) (qs : List Asked) → ((q : Asked) → In q qs → is_answered steps q ≡ true) → flat_map (performed_by (steps ++ m ∷ [])) qs ≡ flat_map (performed_by steps) qs
performed_front steps m [] h = refl
performed_front steps m (q ∷ qs) h = λ i. performed_more steps m q (h q (inl refl)) i ++ performed_front steps m qs (λ r k. h r (inr k)) i

turn_front : (steps : List Moment) (before : List Asked) (q : Asked) → InTurn steps (before ++ q ∷ []) → (r : Asked) → In r before → is_answered steps r ≡ true
turn_front steps [] q turn r h = absurd h
turn_front steps (x ∷ before) q turn r (inl e) = subst (λ z. is_answered steps z ≡ true) e (turn.0 q (in_back before (q ∷ []) q (inl refl))).0
turn_front steps (x ∷ before) q turn r (inr k) = turn_front steps before q turn.1 r k

-- a read counts for no later one
own_read : (steps : List Moment) (q : Asked) (key : Key) (name : List ℕ) (v : Answer) → q.op ≡ Read key → fold (own_write name) v (performed_by steps q) ≡ v
own_read steps q key name v is = elim (performed_one steps q) [
  | inl none ↦ ap (λ l. fold (own_write name) v l) none
  | inr some ↦ ap (λ l. fold (own_write name) v l) some.3 ∙ ap (λ o. own_write name v (record { n = q.n; op = o; answer = some.0 })) is
]

-- the arrivals of a step are those before it, or one more
arrivals_cases : (a : At) (m : Moment) → (arrivals a.site (a.life.steps ++ m ∷ []) ≡ arrivals a.site a.life.steps) ⊎ ((x : Asked) × (arrivals a.site (a.life.steps ++ m ∷ []) ≡ arrivals a.site a.life.steps ++ x ∷ []) × (is_fresh (arrivals a.site a.life.steps) m x ≡ true))
arrivals_cases a m = by (taken_up a.site a.life.steps m) (arrivals_push a.site a.life.steps m)
  where
    by : (o : Option Asked) → arrivals a.site (a.life.steps ++ m ∷ []) ≡ and_arrived (arrivals a.site a.life.steps) m o →
        (arrivals a.site (a.life.steps ++ m ∷ []) ≡ arrivals a.site a.life.steps) ⊎ ((x : Asked) × (arrivals a.site (a.life.steps ++ m ∷ []) ≡ arrivals a.site a.life.steps ++ x ∷ []) × (is_fresh (arrivals a.site a.life.steps) m x ≡ true))
    by None e = inl e
    by (Some x) e = go (is_fresh (arrivals a.site a.life.steps) m x) refl e
      where
        go : (b : Bool) → is_fresh (arrivals a.site a.life.steps) m x ≡ b → arrivals a.site (a.life.steps ++ m ∷ []) ≡ (if b then arrivals a.site a.life.steps ++ x ∷ [] else arrivals a.site a.life.steps) →
            (arrivals a.site (a.life.steps ++ m ∷ []) ≡ arrivals a.site a.life.steps) ⊎ ((x : Asked) × (arrivals a.site (a.life.steps ++ m ∷ []) ≡ arrivals a.site a.life.steps ++ x ∷ []) × (is_fresh (arrivals a.site a.life.steps) m x ≡ true))
        go true f k = inr (x, k, f)
        go false f k = inl k

module _ (weights : List ℕ) (a : At) (steady : Steady a.site a.life.steps) (fits : Fits weights a.site a.life a.input) (away : FromAway a.site a.input) (known : Known a.site a.life.steps)
    (apart : Apart a.site a.life.log a.life.steps) (right : Right a.site a.life.log a.life.steps) where
  -- what was right of a transaction is right of its arrivals with this step
  pub right_arrivals : (t : Txn) → is_undecided t a.life.log ≡ true → RightAt (rows_in a.life.log) a.life.steps [] (of_txn t (arrivals a.site (a.life.steps ++ moment a ∷ [])))
  right_arrivals t still = by (arrivals_cases a (moment a))
    where
      more : (x : Asked) → performed_by a.life.steps x ≡ [] → (b : Bool) → RightAt (rows_in a.life.log) a.life.steps [] (of_txn t (arrivals a.site a.life.steps) ++ (if b then x ∷ [] else []))
      more x none true = right_push (rows_in a.life.log) a.life.steps [] (of_txn t (arrivals a.site a.life.steps)) x none (right t still)
      more x none false = subst (λ l. RightAt (rows_in a.life.log) a.life.steps [] l) (sym (append-nil (of_txn t (arrivals a.site a.life.steps)))) (right t still)

      absent : (x : Asked) → is_fresh (arrivals a.site a.life.steps) (moment a) x ≡ true → In x (arrivals a.site a.life.steps) → ⊥
      absent x fresh k = true≢false (sym (and_parts (same_state (state_of x.txn a.life.log) Q) (not (list_any (same_asked x) (arrivals a.site a.life.steps))) fresh).1 ∙ ap not (in_any (same_asked x) (arrivals a.site a.life.steps) x k
          (and_from (x.n == x.n) (same_txn x.txn x.txn) (eq-eqb x.n x.n refl) (same_from x.txn x.txn refl))))

      none_of : (x : Asked) → is_answered a.life.steps x ≡ false → performed_by a.life.steps x ≡ []
      none_of x none = elim (performed_one a.life.steps x) [
        | inl e ↦ e
        | inr some ↦ absurd (true≢false (sym (answered_from a.life.steps x some.0 some.1 some.2) ∙ none))
      ]

      new : (x : Asked) → arrivals a.site (a.life.steps ++ moment a ∷ []) ≡ arrivals a.site a.life.steps ++ x ∷ [] → is_fresh (arrivals a.site a.life.steps) (moment a) x ≡ true → performed_by a.life.steps x ≡ []
      new x e fresh = elim (fresh_unanswered weights a steady fits away known x (subst (λ l. In x l) (sym e) (in_back (arrivals a.site a.life.steps) (x ∷ []) x (inl refl)))) [
        | inl old ↦ absurd (absent x fresh old)
        | inr none ↦ none_of x none
      ]

      by : (arrivals a.site (a.life.steps ++ moment a ∷ []) ≡ arrivals a.site a.life.steps) ⊎ ((x : Asked) × (arrivals a.site (a.life.steps ++ moment a ∷ []) ≡ arrivals a.site a.life.steps ++ x ∷ []) × (is_fresh (arrivals a.site a.life.steps) (moment a) x ≡ true)) →
          RightAt (rows_in a.life.log) a.life.steps [] (of_txn t (arrivals a.site (a.life.steps ++ moment a ∷ [])))
      by (inl e) = subst (λ l. RightAt (rows_in a.life.log) a.life.steps [] (of_txn t l)) (sym e) (right t still)
      by (inr x) = subst (λ l. RightAt (rows_in a.life.log) a.life.steps [] l)
          (sym (filter-append (λ q. same_txn t q.txn) (arrivals a.site a.life.steps) (x.0 ∷ [])) ∙ ap (λ l. of_txn t l) (sym x.1)) (more x.0 (new x.0 x.1 x.2) (same_txn t x.0.txn))

  module _ (s : Shaped a (step_at a)) where
    now_log : a.life.log ++ (step_at a).records ≡ log_now a s.rule
    now_log = ap (λ l. a.life.log ++ l) (shaped_records a (step_at a) s)

    -- what an undecided transaction has read keeps its value
    old_rows : (t : Txn) → is_undecided t (a.life.log ++ (step_at a).records) ≡ true → (q : Asked) → In q (arrivals a.site a.life.steps) → is_answered a.life.steps q ≡ true → q.txn ≡ t →
        rows_in (a.life.log ++ (step_at a).records) (name_of q.op) ≡ rows_in a.life.log (name_of q.op)
    old_rows t still q h y same = ap (λ l. rows_in l (name_of q.op)) now_log ∙ by s.rule s.ruled (subst (λ l. is_undecided t l ≡ true) now_log still)
      where
        free : (u : Txn) (op : Op) → is_undecided u a.life.log ≡ true → Holds a.site a.life.log a.life.steps u op → (t ≡ u → ⊥) → name_of op ≡ name_of q.op → changes op ≡ true → ⊥
        free u op open_yet holds differ name change =
            apart t u q.op op (open_before t a.life.log (step_at a).records still) open_yet (ByDone q h y same refl) holds differ (record { same_name = sym name; one_changes = inr change })

        none : (made : Made) → made.records ≡ [] → rows_in (log_now a made) (name_of q.op) ≡ rows_in a.life.log (name_of q.op)
        none made e = ap (λ l. rows_in (a.life.log ++ l) (name_of q.op)) e ∙ ap (λ l. rows_in l (name_of q.op)) (append-nil a.life.log)

        by : (rule : Made) → Rule a rule → is_undecided t (log_now a rule) ≡ true → rows_in (log_now a rule) (name_of q.op) ≡ rows_in a.life.log (name_of q.op)
        by _ (Otherwise made k) open_yet = ruled_table a t (name_of q.op) free made k open_yet
        by _ (Hears u n v k) open_yet = ap (λ l. rows_in l (name_of q.op)) (append-nil a.life.log)
        by _ (Locks u n op k) open_yet = none (and_do a u n op nothing) (lock_records a u n op)
        by _ (Repeats u n v k) open_yet = none (and_send a u.site (msg.Done u n a.life.inc v) nothing) (sent_records a u.site (msg.Done u n a.life.inc v) nothing)

    -- what a read finds as the step stands
    reading : (made : Made) → list_any is_refusal made.told ≡ false → log_now a made ≡ a.life.log ++ (step_at a).records → (before : List Asked) (q : Asked) (key : Key) → q.op ≡ Read key →
        of_txn q.txn (arrivals a.site (a.life.steps ++ moment a ∷ [])) ≡ before ++ q ∷ [] →
        fold (own_write key.name) (row_value key.name (table_of (log_now a made))) (done a.site q.txn (steps_now a made))
        ≡ fold (own_write key.name) (rows_in (a.life.log ++ (step_at a).records) key.name) (flat_map (performed_by a.life.steps) before)
    reading made still now before q key is split =
        ap (λ l. fold (own_write key.name) (row_value key.name (table_of l)) (done a.site q.txn (steps_now a made))) now
        ∙ ap (λ l. fold (own_write key.name) (rows_in (a.life.log ++ (step_at a).records) key.name) (flat_map (performed_by (steps_now a made)) l))
        (ap (λ l. of_txn q.txn l) (sym (arrivals_so_far a made still (shaped_calm a (step_at a) s))) ∙ split)
        ∙ ap (λ l. fold (own_write key.name) (rows_in (a.life.log ++ (step_at a).records) key.name) l)
        (flat_map-append (performed_by (steps_now a made)) before (q ∷ [])
        ∙ ap (λ l. l ++ flat_map (performed_by (steps_now a made)) (q ∷ [])) (performed_front a.life.steps (so_far a made) before turn)
        ∙ ap (λ l. flat_map (performed_by a.life.steps) before ++ l) (append-nil (performed_by (steps_now a made) q)))
        ∙ fold_both (own_write key.name) (rows_in (a.life.log ++ (step_at a).records) key.name) (flat_map (performed_by a.life.steps) before) (performed_by (steps_now a made) q)
        ∙ own_read (steps_now a made) q key key.name (fold (own_write key.name) (rows_in (a.life.log ++ (step_at a).records) key.name) (flat_map (performed_by a.life.steps) before)) is
      where
        turn : (r : Asked) → In r before → is_answered a.life.steps r ≡ true
        turn = turn_front a.life.steps before q (subst (λ l. InTurn a.life.steps l) split (turns_before weights a (moment a) (is_moment a) steady fits q.txn))

    -- an answer that the step gives first to a read is the one that the read finds
    pub why_value : (before : List Asked) (q : Asked) (v : Answer) → of_txn q.txn (arrivals a.site (a.life.steps ++ moment a ∷ [])) ≡ before ++ q ∷ [] → (key : Key) → q.op ≡ Read key → Why a s.rule q v →
        v ≡ fold (own_write key.name) (rows_in (a.life.log ++ (step_at a).records) key.name) (flat_map (performed_by a.life.steps) before)
    why_value before q v split key e (ByLock l x rule) =
        x ∙ ap (λ o. answer_now a q.txn o nothing) e
        ∙ reading nothing refl (ap (λ l. a.life.log ++ l) (sym (shaped_records a (step_at a) s ∙ ap (λ (z : Made). z.records) rule ∙ lock_records a q.txn q.n q.op))) before q key e split
    why_value before q v split key e (ByGrant front after part x some ruled) =
        let kept = grants_keep a front s.rule in
        x ∙ ap (λ o. answer_now a q.txn o (fold (and_grant a) s.rule front)) e
        ∙ reading (fold (and_grant a) s.rule front) (ap (λ l. list_any is_refusal l) kept.1 ∙ so_far_calm a s.rule s.ruled)
        (ap (λ l. a.life.log ++ l) kept.0 ∙ sym now_log) before q key e split

    new_fits : (t : Txn) (before : List Asked) (q : Asked) (v : Answer) (more : List Answer) → of_txn t (arrivals a.site (a.life.steps ++ moment a ∷ [])) ≡ before ++ q ∷ [] → is_answered a.life.steps q ≡ false →
        answers q (a.life.steps ++ moment a ∷ []) ≡ v ∷ more → AnswerFits (rows_in (a.life.log ++ (step_at a).records)) (flat_map (performed_by a.life.steps) before) (record { n = q.n; op = q.op; answer = v })
    new_fits t before q v more split none is = by q.op refl
      where
        member : In q (arrivals a.site (a.life.steps ++ moment a ∷ [])) × (same_txn t q.txn ≡ true)
        member = in_filter (λ x. same_txn t x.txn) (arrivals a.site (a.life.steps ++ moment a ∷ [])) q (subst (λ l. In q l) (sym split) (in_back before (q ∷ []) q (inl refl)))

        split' : of_txn q.txn (arrivals a.site (a.life.steps ++ moment a ∷ [])) ≡ before ++ q ∷ []
        split' = ap (λ u. of_txn u (arrivals a.site (a.life.steps ++ moment a ∷ []))) (sym (same_is t q.txn member.1)) ∙ split

        by : (op : Op) → q.op ≡ op → AnswerFits (rows_in (a.life.log ++ (step_at a).records)) (flat_map (performed_by a.life.steps) before) (record { n = q.n; op = q.op; answer = v })
        by (Read key) e = subst (λ o. AnswerFits (rows_in (a.life.log ++ (step_at a).records)) (flat_map (performed_by a.life.steps) before) (record { n = q.n; op = o; answer = v })) (sym e)
            (why_value before q v split' key e (new_why weights a steady fits away s q v more member.0 none is))
        by (Write key val) e = subst (λ o. AnswerFits (rows_in (a.life.log ++ (step_at a).records)) (flat_map (performed_by a.life.steps) before) (record { n = q.n; op = o; answer = v })) (sym e) tt

    pub right_shaped : Right a.site (a.life.log ++ (step_at a).records) (a.life.steps ++ moment a ∷ [])
    right_shaped t still =
        right_walk (rows_in a.life.log) (rows_in (a.life.log ++ (step_at a).records)) a.life.steps (moment a) (of_txn t (arrivals a.site (a.life.steps ++ moment a ∷ []))) []
        (of_txn t (arrivals a.site (a.life.steps ++ moment a ∷ []))) refl (turns_before weights a (moment a) (is_moment a) steady fits t)
        (λ q h y. (let m = in_filter (λ x. same_txn t x.txn) (arrivals a.site (a.life.steps ++ moment a ∷ [])) q h in
        elim (fresh_unanswered weights a steady fits away known q m.0) [
          | inl old ↦ old_rows t still q old y (sym (same_is t q.txn m.1))
          | inr none ↦ absurd (true≢false (sym y ∙ none))
        ]))
        (λ before q v more split none is. new_fits t before q v more split none is)
        (right_arrivals t (open_before t a.life.log (step_at a).records still))
