-- At a site that is up whoever waits is older than all whom it waits for, and stays so with one more step.
use Rattle.std.proofs.Common.{◌≡◌, ◌⊎◌, inl, inr, ◌==◌, ◌&&◌, ◌++◌, ◌∷◌, [], ℕ, Bool, true, false, not, List, Option, Some, None, map, refl, sym, subst, ap, ◌∙◌, if◌then◌else◌, append-nil, eq-eqb}
use Rattle.std.specs.List.{list_any, flat_map}
use Rattle.std.proofs.lemmas.Bool.{and_parts, and_from, true≢false, false_from_ne_true}
use Rattle.e3_types.specs.declared.locks.Grant.TheVariants.{Waits}
use Rattle.e3_types.specs.declared.locks.Lock.{Lock}
use Rattle.e3_types.specs.declared.records.Record.{Record}
use Rattle.e3_types.specs.declared.transactions.Op.{Op}
use Rattle.e3_types.specs.declared.transactions.State.TheVariants.{Q}
use Rattle.e3_types.specs.declared.transactions.Txn.{Txn}
use Rattle.e3_types.specs.Locks.{covers, is_covered}
use Rattle.e3_types.specs.Same.{same_txn, same_state, is_older}
use Rattle.e3_laws.proofs.agreement.Refinement.Lists.{same_from}
use Rattle.e3_world.specs.declared.lives.Asked.{Asked}
use Rattle.e3_world.specs.declared.lives.At.{At}
use Rattle.e3_world.specs.declared.lives.Life.{Life}
use Rattle.e3_world.specs.declared.lives.Made.{Made}
use Rattle.e3_world.specs.declared.lives.Moment.{Moment}
use Rattle.e3_world.specs.Logs.{state_of, is_undecided, mode_of}
use Rattle.e3_world.specs.Making.{nothing, log_now, steps_now, grants_after}
use Rattle.e3_world.specs.Moves.{unnumbered}
use Rattle.e3_world.specs.Operations.{taken_up, same_asked, is_fresh, and_arrived, arrivals, answer_told, answer_sent, answers, is_answered, waiting, holders}
use Rattle.e3_world.specs.Sound.{Fits}
use Rattle.e3_world.specs.Steps.{step_at}
use Rattle.e3_laws.proofs.serial.Step.Rules.{Locking, Shaped}
use Rattle.e3_laws.proofs.serial.Lists.Entries.{In, Sorted, Clash, name_of}
use Rattle.e3_laws.proofs.serial.Lists.Members.{in_front, in_back, filter_in, sorted_change, sorted_push, sorted_filter}
use Rattle.e3_laws.proofs.serial.Step.Shapes.{FromAway, step_shape}
use Rattle.e3_laws.proofs.serial.Step.Arrivals.{arrivals_push, answers_push, answered_more, unanswered_none}
use Rattle.e3_laws.proofs.serial.Step.Steadying.{any_in, in_any, arrived_in, arrivals_stay}
use Rattle.e3_laws.proofs.serial.Step.Stepping.{moment, so_far, is_moment, shaped_calm, arrivals_calm, waits_parts, granted_waits}
use Rattle.e3_laws.proofs.serial.Step.Knowing.{refused_answers, fresh_unanswered}
use Rattle.e3_laws.proofs.serial.Site.Holding.{Holds, lock_of, held_lock, held_for, turn_clash, granted_apart, cover_clash}
use Rattle.e3_laws.proofs.serial.Site.Recording.{shaped_records}
use Rattle.e3_laws.proofs.serial.Site.Keeping.{Keeps, next}
use Rattle.e3_laws.proofs.serial.Waits.Clashing.{clash_opposes, waits_older, held_free, in_queue}
use Rattle.e3_laws.proofs.serial.Waits.Taking.{IsNew, takes, holders_of, waiting_now, queue_of, grant_of, waits_granted, waits_quiet}
use Rattle.e3_laws.proofs.serial.Waits.Holders.{HoldsNow, Old, NewLock, NewGrant, quiet_holds, classify, answered_so_far}
use Rattle.e3_laws.proofs.serial.Waits.Granting.{granted_or_behind}
use Rattle.e3_laws.proofs.steps.Tests.{same_is}
use Rattle.e3_laws.proofs.agreement.Protocol.Ruled.{same_means}
use Rattle.e3_laws.proofs.steps.Undecided.{open_before as undecided_before}

-- the operation waits, if it is among the arrivals
abbrev pub Open : List Record → List Moment → Asked → Type 0
Open records steps q = (is_undecided q.txn records ≡ true) × (is_answered steps q ≡ false)

-- where both wait and clash, the second is of the older transaction
abbrev pub Younger : List Record → List Moment → Asked → Asked → Type 0
Younger records steps x q = Open records steps x → Open records steps q → (q.txn ≡ x.txn → ⊥) → Clash q.op x.op → is_older q.txn x.txn ≡ true

-- whoever waits is older than the others that hold a lock against it, and than those that wait ahead against it
pub record EldersWait (site : ℕ) (life : Life) : Type 0 where
  pub holders : (q : Asked) → In q (arrivals site life.steps) → Open life.log life.steps q → (u : Txn) (other : Op) → is_undecided u life.log ≡ true →
      Holds site life.log life.steps u other → (q.txn ≡ u → ⊥) → Clash q.op other → is_older q.txn u ≡ true
  pub ahead : Sorted (Younger life.log life.steps) (arrivals site life.steps)

-- at a site without steps nobody waits
pub elders_start : (site : ℕ) (life : Life) → life.steps ≡ [] → EldersWait site life
elders_start site life none = record {
  holders = λ q h o u other x y differ c. absurd (subst (λ l. In q (arrivals site l)) none h);
  ahead = subst (λ l. Sorted (Younger life.log l) (arrivals site l)) (sym none) tt;
}

-- the log and the steps behind the step at a place
abbrev pub log_behind : At → List Record
log_behind a = a.life.log ++ (step_at a).records

abbrev pub steps_behind : At → List Moment
steps_behind a = a.life.steps ++ moment a ∷ []

module _ (weights : List ℕ) (a : At) (k : Keeps a.site a.life) (fits : Fits weights a.site a.life a.input) (away : FromAway a.site a.input) where
  -- what waits behind a step waited before it, if it had come
  open_before : (q : Asked) → Open (log_behind a) (steps_behind a) q → Open a.life.log a.life.steps q
  open_before q o = (
    undecided_before q.txn a.life.log (step_at a).records o.0,
    false_from_ne_true (is_answered a.life.steps q) (λ y. true≢false (sym (answered_more a.life.steps (moment a) q y) ∙ o.1)),
  )

  -- the step takes the operation up, and it did not come before
  abbrev Taken : Asked → Type 0
  Taken q = (taken_up a.site a.life.steps (moment a) ≡ Some q) × (is_fresh (arrivals a.site a.life.steps) (moment a) q ≡ true)

  arrived : (q : Asked) → In q (arrivals a.site (steps_behind a)) → In q (arrivals a.site a.life.steps) ⊎ Taken q
  arrived q h = elim (arrived_in (arrivals a.site a.life.steps) (moment a) (taken_up a.site a.life.steps (moment a)) q (subst (λ l. In q l) (arrivals_push a.site a.life.steps (moment a)) h)) [
    | inl old ↦ inl old
    | inr new ↦ inr (new.0, new.1)
  ]

  unlike : (q : Asked) → Taken q → (x : Asked) → In x (arrivals a.site a.life.steps) → same_asked q x ≡ true → ⊥
  unlike q new x h same =
      let p = and_parts (same_state (state_of q.txn a.life.log) Q) (not (list_any (same_asked q) (arrivals a.site a.life.steps))) new.1 in
      true≢false (sym p.1 ∙ ap not (in_any (same_asked q) (arrivals a.site a.life.steps) x h same))

  absent : (q : Asked) → Taken q → In q (arrivals a.site a.life.steps) → ⊥
  absent q new h = unlike q new q h (and_from (q.n == q.n) (same_txn q.txn q.txn) (eq-eqb q.n q.n refl) (same_from q.txn q.txn refl))

  is_new : (q : Asked) → Taken q → IsNew a q
  is_new q new = record {
    idle = ap (state_of q.txn) (append-nil a.life.log)
        ∙ same_means (state_of q.txn a.life.log) Q (and_parts (same_state (state_of q.txn a.life.log) Q) (not (list_any (same_asked q) (arrivals a.site a.life.steps))) new.1).0;
    unanswered = unanswered_none a.life.steps q (elim (fresh_unanswered weights a k.steady fits away k.known q here) [ inl old ↦ absurd (absent q new old) | inr none ↦ none ]);
    absent = false_from_ne_true (list_any (same_asked q) (waiting_now a)) (λ y.
        (let x = any_in (same_asked q) (waiting_now a) y in
        unlike q new x.0 (waits_parts a.site (log_now a nothing) a.life.steps x.0 x.1).0 x.2));
  }
    where
      here : In q (arrivals a.site (steps_behind a))
      here = subst (λ l. In q l)
          (sym (arrivals_push a.site a.life.steps (moment a) ∙ ap (λ o. and_arrived (arrivals a.site a.life.steps) (moment a) o) new.0 ∙ (rw new.1 refl)))
          (in_back (arrivals a.site a.life.steps) (q ∷ []) q (inl refl))

  -- an operation that is taken up and waits is one that the lock rule lets wait
  new_waits : (q : Asked) → Taken q → Open (log_behind a) (steps_behind a) q → grant_of a q ≡ Waits
  new_waits q new o = waits_granted weights a fits q (takes a away (moment a) (is_moment a) q new.0) (is_new q new) o.0 o.1

  new_quiet : (q : Asked) → Taken q → grant_of a q ≡ Waits → step_at a ≡ nothing
  new_quiet q new grant = waits_quiet weights a fits q (takes a away (moment a) (is_moment a) q new.0) (is_new q new) grant

  older_by : (q : Asked) → grant_of a q ≡ Waits → (u : Txn) (other : Op) → (q.txn ≡ u → ⊥) → Clash q.op other →
      In (lock_of u other) (holders_of a q.op ++ queue_of a q.op) → is_older q.txn u ≡ true
  older_by q grant u other differ c h =
      waits_older (lock_of q.txn q.op) (holders_of a q.op) (queue_of a q.op) grant (lock_of u other) h
      (clash_opposes q.txn u q.op other differ c)

  -- it is older than the holders that are against it
  new_holders : (q : Asked) → grant_of a q ≡ Waits → (u : Txn) (other : Op) → is_undecided u a.life.log ≡ true → Holds a.site a.life.log a.life.steps u other → (q.txn ≡ u → ⊥) → Clash q.op other →
      is_older q.txn u ≡ true
  new_holders q grant u other still holds differ c = older_by q grant u other differ c
      (in_front (holders_of a q.op) (queue_of a q.op) (lock_of u other)
      (subst (λ l. In (lock_of u other) (holders a.site (name_of q.op) l a.life.steps)) (sym (append-nil a.life.log))
      (subst (λ n. In (lock_of u other) (holders a.site n a.life.log a.life.steps)) (sym c.same_name) (held_lock a.site a.life.log a.life.steps u other still holds))))

  still_waiting : (q : Asked) → In q (arrivals a.site a.life.steps) → Open a.life.log a.life.steps q → In q (waiting_now a)
  still_waiting q h o = filter_in (λ x. is_undecided x.txn (log_now a nothing) && not (is_answered a.life.steps x)) (arrivals a.site a.life.steps) q h
      (and_from (is_undecided q.txn (log_now a nothing)) (not (is_answered a.life.steps q)) (ap (is_undecided q.txn) (append-nil a.life.log) ∙ o.0) (ap not o.1))

  -- and than those that wait already
  new_ahead : (q : Asked) → grant_of a q ≡ Waits → (x : Asked) → In x (arrivals a.site a.life.steps) → Open a.life.log a.life.steps x → (q.txn ≡ x.txn → ⊥) → Clash q.op x.op →
      is_older q.txn x.txn ≡ true
  new_ahead q grant x h o differ c = older_by q grant x.txn x.op differ c
      (in_back (holders_of a q.op) (queue_of a q.op) (lock_of x.txn x.op)
      (in_queue (name_of q.op) (waiting_now a) x (still_waiting x h o) (sym c.same_name)))

  module _ (w : EldersWait a.site a.life) where
    -- a request that gets its lock has it already, or opposes none that waits
    lock_older : (r : Asked) → Locking a r.txn r.n r.op → (q : Asked) → In q (arrivals a.site a.life.steps) → Open a.life.log a.life.steps q → (q.txn ≡ r.txn → ⊥) → Clash q.op r.op →
        is_older q.txn r.txn ≡ true
    lock_older r l q h o differ c = elim (held_free (lock_of r.txn r.op) (holders_of a r.op) (queue_of a r.op) l.held) [
      | inl own ↦ covered own
      | inr free ↦ absurd (true≢false (sym (clash_opposes r.txn q.txn r.op q.op (λ e. differ (sym e)) (turn_clash q.op r.op c))
          ∙ free (lock_of q.txn q.op) (in_back (holders_of a r.op) (queue_of a r.op) (lock_of q.txn q.op)
          (in_queue (name_of r.op) (waiting_now a) q (still_waiting q h o) c.same_name))))
    ]
      where
        covered : is_covered (lock_of r.txn r.op) (holders_of a r.op) ≡ true → is_older q.txn r.txn ≡ true
        covered own =
            let p = any_in (λ (l : Lock). same_txn l.txn r.txn && covers l.mode (mode_of r.op)) (holders_of a r.op) own in
            let t = and_parts (same_txn p.0.txn r.txn) (covers p.0.mode (mode_of r.op)) p.2 in
            let f = held_for a.site (name_of r.op) a.life.log a.life.steps p.0 (subst (λ l. In p.0 (holders a.site (name_of r.op) l a.life.steps)) (append-nil a.life.log) p.1) in
            let mine : p.0.txn ≡ r.txn = same_is p.0.txn r.txn t.0 in
            w.holders q h o r.txn f.op (subst (λ z. is_undecided z a.life.log ≡ true) mine f.undecided) (subst (λ z. Holds a.site a.life.log a.life.steps z f.op) mine f.holds) differ
            (turn_clash f.op q.op (cover_clash r.op f.op q.op f.name_is (subst (λ m. covers m (mode_of r.op) ≡ true) (sym f.mode_is) t.1) (turn_clash q.op r.op c)))

    -- who stands ahead of whom, with what the step takes up
    abbrev Behind : Asked → Asked → Type 0
    Behind x q = Younger a.life.log a.life.steps x q ⊎ (In q (arrivals a.site a.life.steps) → ⊥)

    behind_sorted : Sorted Behind (arrivals a.site (steps_behind a))
    behind_sorted = subst (λ l. Sorted Behind l) (sym (arrivals_push a.site a.life.steps (moment a))) (by (taken_up a.site a.life.steps (moment a)) refl)
      where
        old : Sorted Behind (arrivals a.site a.life.steps)
        old = sorted_change (Younger a.life.log a.life.steps) Behind (arrivals a.site a.life.steps) (λ x q h g r. inl r) w.ahead

        by : (o : Option Asked) → taken_up a.site a.life.steps (moment a) ≡ o → Sorted Behind (and_arrived (arrivals a.site a.life.steps) (moment a) o)
        by None is = old
        by (Some q) is = fresh (is_fresh (arrivals a.site a.life.steps) (moment a) q) refl
          where
            fresh : (b : Bool) → is_fresh (arrivals a.site a.life.steps) (moment a) q ≡ b → Sorted Behind (if b then arrivals a.site a.life.steps ++ q ∷ [] else arrivals a.site a.life.steps)
            fresh true f = sorted_push Behind (arrivals a.site a.life.steps) q old (λ x h. inr (absent q (is, f)))
            fresh false f = old

    -- a request that is granted stood ahead of those that still wait
    grant_older : (s : Shaped a (step_at a)) (r : Asked) → In r (grants_after a s.rule) → (q : Asked) → In q (arrivals a.site a.life.steps) →
        Open (log_behind a) (steps_behind a) q → (q.txn ≡ r.txn → ⊥) → Clash q.op r.op → is_older q.txn r.txn ≡ true
    grant_older s r g q h o differ c =
        elim (granted_or_behind Behind a s.rule q r sorted waits g c.same_name) [
          | inl granted ↦ absurd (granted_apart a s.rule q r granted g differ c)
          | inr behind ↦ elim behind [
            | inl younger ↦ younger open_r (open_before q o) differ c
            | inr none ↦ absurd (none h)
          ]
        ]
      where
        same : arrivals a.site (steps_behind a) ≡ arrivals a.site (steps_now a s.rule)
        same = arrivals_calm a s.rule s.ruled (shaped_calm a (step_at a) s)

        sorted : Sorted Behind (waiting a.site (log_now a s.rule) (steps_now a s.rule))
        sorted = sorted_filter Behind (λ x. is_undecided x.txn (log_now a s.rule) && not (is_answered (steps_now a s.rule) x)) (arrivals a.site (steps_now a s.rule))
            (subst (λ l. Sorted Behind l) same behind_sorted)

        waits : In q (waiting a.site (log_now a s.rule) (steps_now a s.rule))
        waits = filter_in (λ x. is_undecided x.txn (log_now a s.rule) && not (is_answered (steps_now a s.rule) x)) (arrivals a.site (steps_now a s.rule)) q
            (subst (λ l. In q l) same (arrivals_stay a.site a.life.steps (moment a) q h))
            (and_from (is_undecided q.txn (log_now a s.rule)) (not (is_answered (steps_now a s.rule) q))
            (subst (λ l. is_undecided q.txn (a.life.log ++ l) ≡ true) (shaped_records a (step_at a) s) o.0)
            (ap not (false_from_ne_true (is_answered (steps_now a s.rule) q) (λ y. true≢false (sym (answered_so_far a s q y) ∙ o.1)))))

        open_r : Open a.life.log a.life.steps r
        open_r =
            let p = waits_parts a.site (log_now a s.rule) (steps_now a s.rule) r (granted_waits a s.rule r g) in (
              undecided_before r.txn a.life.log s.rule.records p.1,
              false_from_ne_true (is_answered a.life.steps r) (λ y. true≢false (sym (answered_more a.life.steps (so_far a s.rule) r y) ∙ p.2)),
            )

    -- what waited already is older than all who hold a lock against it now
    old_holders : (s : Shaped a (step_at a)) (q : Asked) → In q (arrivals a.site a.life.steps) → Open (log_behind a) (steps_behind a) q →
        (u : Txn) (other : Op) → is_undecided u a.life.log ≡ true → HoldsNow a s.rule u other → (q.txn ≡ u → ⊥) → Clash q.op other → is_older q.txn u ≡ true
    old_holders s q h o u other still (Old holds) differ c = w.holders q h (open_before q o) u other still holds differ c
    old_holders s q h o u other still (NewLock r l same is) differ c =
        subst (λ z. is_older q.txn z ≡ true) same (lock_older r l q h (open_before q o) (λ e. differ (e ∙ same)) (subst (λ z. Clash q.op z) (sym is) c))
    old_holders s q h o u other still (NewGrant r g some same is) differ c =
        subst (λ z. is_older q.txn z ≡ true) same (grant_older s r g q h o (λ e. differ (e ∙ same)) (subst (λ z. Clash q.op z) (sym is) c))

    quiet_answers : step_at a ≡ nothing → (q : Asked) → answers q (steps_behind a) ≡ answers q a.life.steps
    quiet_answers none q =
        answers_push q a.life.steps (moment a)
        ∙ ap (λ (m : Made). answers q a.life.steps ++ (flat_map (answer_told q) m.told ++ flat_map (answer_sent q) (map unnumbered m.outs))) none
        ∙ append-nil (answers q a.life.steps)

    push_holders : (q : Asked) → In q (arrivals a.site (steps_behind a)) → Open (log_behind a) (steps_behind a) q →
        (u : Txn) (other : Op) → is_undecided u (log_behind a) ≡ true → Holds a.site (log_behind a) (steps_behind a) u other →
        (q.txn ≡ u → ⊥) → Clash q.op other → is_older q.txn u ≡ true
    push_holders q h o u other still holds differ c = by (arrived q h)
      where
        before : is_undecided u a.life.log ≡ true
        before = undecided_before u a.life.log (step_at a).records still

        by : In q (arrivals a.site a.life.steps) ⊎ Taken q → is_older q.txn u ≡ true
        by (inl old) = elim (step_shape a away) [
          | inl refused ↦ w.holders q old (open_before q o) u other before (quiet_holds weights a k.steady fits away k.known refused.records (refused_answers a refused) u other holds) differ c
          | inr s ↦ old_holders s q old o u other before (classify weights a k.steady fits away k.known s u other holds) differ c
        ]
        by (inr new) =
            let grant = new_waits q new o in
            let none = new_quiet q new grant in
            new_holders q grant u other before (quiet_holds weights a k.steady fits away k.known (ap (λ (m : Made). m.records) none) (quiet_answers none) u other holds) differ c

    push_ahead : Sorted (Younger (log_behind a) (steps_behind a)) (arrivals a.site (steps_behind a))
    push_ahead = subst (λ l. Sorted (Younger (log_behind a) (steps_behind a)) l) (sym (arrivals_push a.site a.life.steps (moment a)))
        (by (taken_up a.site a.life.steps (moment a)) refl)
      where
        old : Sorted (Younger (log_behind a) (steps_behind a)) (arrivals a.site a.life.steps)
        old = sorted_change (Younger a.life.log a.life.steps) (Younger (log_behind a) (steps_behind a)) (arrivals a.site a.life.steps)
            (λ x q h g r open_x open_q. r (open_before x open_x) (open_before q open_q)) w.ahead

        by : (o : Option Asked) → taken_up a.site a.life.steps (moment a) ≡ o → Sorted (Younger (log_behind a) (steps_behind a)) (and_arrived (arrivals a.site a.life.steps) (moment a) o)
        by None is = old
        by (Some q) is = fresh (is_fresh (arrivals a.site a.life.steps) (moment a) q) refl
          where
            fresh : (b : Bool) → is_fresh (arrivals a.site a.life.steps) (moment a) q ≡ b →
                Sorted (Younger (log_behind a) (steps_behind a)) (if b then arrivals a.site a.life.steps ++ q ∷ [] else arrivals a.site a.life.steps)
            fresh true f = sorted_push (Younger (log_behind a) (steps_behind a)) (arrivals a.site a.life.steps) q old
                (λ x h open_x open_q differ c. new_ahead q (new_waits q (is, f) open_q) x h (open_before x open_x) differ c)
            fresh false f = old

    -- with one more step
    pub elders_push : EldersWait a.site (next a)
    elders_push = record { holders = push_holders; ahead = push_ahead }
