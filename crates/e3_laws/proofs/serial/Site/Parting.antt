-- Locks that conflict stay apart with one more step.
use Rattle.std.proofs.Common.{◌≡◌, ◌⊎◌, inl, inr, ◌++◌, ◌∷◌, [], ℕ, Bool, true, false, List, refl, sym, subst, ap, ◌∙◌, append-nil}
use Rattle.std.specs.List.{list_any}
use Rattle.std.proofs.lemmas.Bool.{true≢false}
use Rattle.e3_types.specs.declared.locks.Grant.TheVariants.{Held}
use Rattle.e3_types.specs.declared.records.Record.TheVariants as log
use Rattle.e3_types.specs.declared.transactions.Answer.{Answer}
use Rattle.e3_types.specs.declared.transactions.Op.{Op}
use Rattle.e3_types.specs.declared.transactions.Txn.{Txn}
use Rattle.e3_types.specs.Locks.{lock_grant}
use Rattle.e3_world.specs.declared.lives.Asked.{Asked}
use Rattle.e3_world.specs.declared.lives.At.{At}
use Rattle.e3_world.specs.declared.lives.Made.{Made}
use Rattle.e3_world.specs.Logs.{is_undecided, key_of}
use Rattle.e3_world.specs.Making.{nothing, log_now, steps_now, grants_after, decides}
use Rattle.e3_world.specs.Operations.{arrivals, is_answered, waiting, holders, queue}
use Rattle.e3_world.specs.Sound.{Fits}
use Rattle.e3_world.specs.Steps.{step_at}
use Rattle.e3_laws.proofs.serial.Step.Rules.{Locking, Shaped}
use Rattle.e3_laws.proofs.serial.Lists.Entries.{In, Clash}
use Rattle.e3_laws.proofs.serial.Lists.Members.{in_append, in_front, in_back}
use Rattle.e3_laws.proofs.serial.Step.Shapes.{FromAway}
use Rattle.e3_laws.proofs.serial.Step.Arrivals.{answered_first, answered_more, Steady}
use Rattle.e3_laws.proofs.serial.Step.Steadying.{some_inj, arrivals_stay}
use Rattle.e3_laws.proofs.serial.Step.Stepping.{moment, so_far, shaped_calm, comes_taken, Why, ByLock, ByGrant, new_why}
use Rattle.e3_laws.proofs.serial.Step.Knowing.{Known, fresh_unanswered}
use Rattle.e3_laws.proofs.serial.Site.Holding.{Holds, ByDone, ByVote, lock_of, Apart, turn_clash, lock_free, granted_free, granted_apart}
use Rattle.e3_laws.proofs.serial.Lists.Members.{in_split}
use Rattle.e3_laws.proofs.serial.Site.Recording.{rule_made, shaped_records, lock_records, vote_done}
use Rattle.e3_laws.proofs.steps.Adding.{idle_open}
use Rattle.e3_laws.proofs.steps.Undecided.{open_before}

-- what is held behind a step: what was held before, or what got its lock in the step
data HoldsNow (a : At) (rule : Made) (t : Txn) (op : Op) : Type 0 where
  Old : Holds a.site a.life.log a.life.steps t op → HoldsNow a rule t op
  NewLock : (q : Asked) → Locking a q.txn q.n q.op → rule.records ≡ [] → q.txn ≡ t → q.op ≡ op → HoldsNow a rule t op
  NewGrant : (q : Asked) → In q (grants_after a rule) → list_any decides rule.records ≡ true → q.txn ≡ t → q.op ≡ op → HoldsNow a rule t op

module _ (weights : List ℕ) (a : At) (steady : Steady a.site a.life.steps) (fits : Fits weights a.site a.life a.input) (away : FromAway a.site a.input) (known : Known a.site a.life.steps)
    (apart : Apart a.site a.life.log a.life.steps) (s : Shaped a (step_at a)) where
  classify : (t : Txn) (op : Op) → Holds a.site (a.life.log ++ (step_at a).records) (a.life.steps ++ moment a ∷ []) t op → HoldsNow a s.rule t op
  classify t op (ByDone q h y same is) = by (is_answered a.life.steps q) refl
    where
      old : In q (arrivals a.site a.life.steps) ⊎ (is_answered a.life.steps q ≡ false) → is_answered a.life.steps q ≡ true → HoldsNow a s.rule t op
      old (inl k) y = Old (ByDone q k y same is)
      old (inr none) y = absurd (true≢false (sym y ∙ none))

      why : (v : Answer) → Why a s.rule q v → HoldsNow a s.rule t op
      why v (ByLock l x e) = NewLock q l (ap (λ (z : Made). z.records) e ∙ lock_records a q.txn q.n q.op) same is
      why v (ByGrant before after split x some ruled) = NewGrant q (subst (λ l. In q l) (sym split) (in_back before (q ∷ after) q (inl refl))) some same is

      by : (b : Bool) → is_answered a.life.steps q ≡ b → HoldsNow a s.rule t op
      by true e = old (fresh_unanswered weights a steady fits away known q h) e
      by false e = let f = answered_first (a.life.steps ++ moment a ∷ []) q y in why f.0 (new_why weights a steady fits away s q f.0 f.1 h e f.2)
  classify t op (ByVote ops o h k is) = by (in_append a.life.log (step_at a).records (log.Vote t ops) h)
    where
      by : In (log.Vote t ops) a.life.log ⊎ In (log.Vote t ops) (step_at a).records → HoldsNow a s.rule t op
      by (inl old) = Old (ByVote ops o old k is)
      by (inr new) =
          let r = in_split s.rule.records (log.Vote t ops) (subst (λ l. In (log.Vote t ops) l) (shaped_records a (step_at a) s) new) in
          let d = vote_done a r.0 t ops (rule_made a s.rule s.ruled r.0 r.1 (log.Vote t ops) r.2) o k in
          Old (ByDone d.0 d.1 d.2 d.3 (d.4 ∙ is))

  now_log : a.life.log ++ (step_at a).records ≡ log_now a s.rule
  now_log = ap (λ l. a.life.log ++ l) (shaped_records a (step_at a) s)

  -- what was held before is held as the rule stands
  old_holds : (t : Txn) (op : Op) → Holds a.site a.life.log a.life.steps t op → Holds a.site (log_now a s.rule) (steps_now a s.rule) t op
  old_holds t op (ByDone q h y same is) = ByDone q (arrivals_stay a.site a.life.steps (so_far a s.rule) q h) (answered_more a.life.steps (so_far a s.rule) q y) same is
  old_holds t op (ByVote ops o h k is) = ByVote ops o (in_front a.life.log s.rule.records (log.Vote t ops) h) k is

  -- an operation that gets its lock is free of what was held
  new_lock : (q : Asked) (u : Txn) (other : Op) → Locking a q.txn q.n q.op → is_undecided u a.life.log ≡ true → Holds a.site a.life.log a.life.steps u other → (q.txn ≡ u → ⊥) → Clash q.op other → ⊥
  new_lock q u other l open_yet holds differ c =
      lock_free a.site a.life.log a.life.steps (queue (key_of q.op).name (waiting a.site a.life.log a.life.steps)) q.txn q.op apart
      (subst (λ z. is_undecided q.txn z ≡ true) (append-nil a.life.log) (idle_open q.txn (log_now a nothing) l.idle))
      (subst (λ z. lock_grant (lock_of q.txn q.op) (holders a.site (key_of q.op).name z a.life.steps) (queue (key_of q.op).name (waiting a.site z a.life.steps)) ≡ Held) (append-nil a.life.log) l.held)
      u other open_yet holds differ c

  new_grant : (q : Asked) (u : Txn) (other : Op) → In q (grants_after a s.rule) → is_undecided u (a.life.log ++ (step_at a).records) ≡ true → Holds a.site a.life.log a.life.steps u other →
      (q.txn ≡ u → ⊥) → Clash q.op other → ⊥
  new_grant q u other h open_yet holds differ c =
      granted_free a s.rule q h u other (subst (λ l. is_undecided u l ≡ true) now_log open_yet) (old_holds u other holds) differ c

  same_lock : (q r : Asked) → Locking a q.txn q.n q.op → Locking a r.txn r.n r.op → q.txn ≡ r.txn
  same_lock q r l k =
      let calm = shaped_calm a (step_at a) s in
      ap (λ (z : Asked). z.txn) (some_inj (record { txn = q.txn; n = q.n; op = q.op }) (record { txn = r.txn; n = r.n; op = r.op })
      (sym (comes_taken a q.txn q.n q.op calm l.comes) ∙ comes_taken a r.txn r.n r.op calm k.comes))

  no_decision : s.rule.records ≡ [] → list_any decides s.rule.records ≡ true → ⊥
  no_decision none some = true≢false (sym some ∙ ap (λ l. list_any decides l) none)

  apart_now : (t u : Txn) (op other : Op) → is_undecided t (a.life.log ++ (step_at a).records) ≡ true → is_undecided u (a.life.log ++ (step_at a).records) ≡ true →
      HoldsNow a s.rule t op → HoldsNow a s.rule u other → (t ≡ u → ⊥) → Clash op other → ⊥
  apart_now t u op other x y (Old h) (Old k) differ c =
      apart t u op other (open_before t a.life.log (step_at a).records x) (open_before u a.life.log (step_at a).records y) h k differ c
  apart_now t u op other x y (NewLock q l none same is) (Old k) differ c =
      new_lock q u other l (open_before u a.life.log (step_at a).records y) k (λ e. differ (sym same ∙ e)) (subst (λ z. Clash z other) (sym is) c)
  apart_now t u op other x y (Old h) (NewLock q l none same is) differ c =
      new_lock q t op l (open_before t a.life.log (step_at a).records x) h (λ e. differ (sym e ∙ same)) (subst (λ z. Clash z op) (sym is) (turn_clash op other c))
  apart_now t u op other x y (NewLock q l none same is) (NewLock r k none' same' is') differ c = differ (sym same ∙ same_lock q r l k ∙ same')
  apart_now t u op other x y (NewLock q l none same is) (NewGrant r k some same' is') differ c = no_decision none some
  apart_now t u op other x y (NewGrant q k some same is) (NewLock r l none same' is') differ c = no_decision none some
  apart_now t u op other x y (NewGrant q h some same is) (Old k) differ c = new_grant q u other h y k (λ e. differ (sym same ∙ e)) (subst (λ z. Clash z other) (sym is) c)
  apart_now t u op other x y (Old h) (NewGrant q k some same is) differ c = new_grant q t op k x h (λ e. differ (sym e ∙ same)) (subst (λ z. Clash z op) (sym is) (turn_clash op other c))
  apart_now t u op other x y (NewGrant q h some same is) (NewGrant r k some' same' is') differ c =
      granted_apart a s.rule q r h k (λ e. differ (sym same ∙ e ∙ same')) (subst (λ z. Clash z r.op) (sym is) (subst (λ z. Clash op z) (sym is') c))

  pub apart_push : Apart a.site (a.life.log ++ (step_at a).records) (a.life.steps ++ moment a ∷ [])
  apart_push t u op other x y h k differ c = apart_now t u op other x y (classify t op h) (classify u other k) differ c
