-- Who holds locks behind a step: those who held them before, a request that got its lock, and those that a decision granted.
use Rattle.std.proofs.Common.{◌≡◌, ◌⊎◌, inl, inr, ◌==◌, ◌++◌, ◌∷◌, [], ℕ, Bool, true, false, List, fold, map, drop, refl, sym, subst, ap, ◌∙◌}
use Rattle.std.specs.List.{list_any, flat_map}
use Rattle.std.proofs.lemmas.Bool.{true≢false}
use Rattle.std.proofs.lemmas.Grind.{flat_map-append}
use Rattle.e3_types.specs.declared.messages.Message.{Message}
use Rattle.e3_types.specs.declared.messages.Packet.{Packet}
use Rattle.e3_types.specs.declared.records.Record.TheVariants as log
use Rattle.e3_types.specs.declared.transactions.Answer.{Answer}
use Rattle.e3_types.specs.declared.transactions.Op.{Op}
use Rattle.e3_types.specs.declared.transactions.Txn.{Txn}
use Rattle.e3_world.specs.declared.lives.Asked.{Asked}
use Rattle.e3_world.specs.declared.lives.At.{At}
use Rattle.e3_world.specs.declared.lives.Made.{Made}
use Rattle.e3_world.specs.Making.{steps_now, and_send, grants_after, decides, and_grant, and_grants}
use Rattle.e3_world.specs.Moves.{unnumbered}
use Rattle.e3_world.specs.Operations.{arrivals, answer_told, answer_sent, answers, is_answered}
use Rattle.e3_world.specs.Sound.{Fits}
use Rattle.e3_world.specs.Steps.{step_at}
use Rattle.e3_laws.proofs.serial.Step.Rules.{Locking, Shaped}
use Rattle.e3_laws.proofs.serial.Lists.Entries.{In}
use Rattle.e3_laws.proofs.serial.Lists.Members.{in_append, in_front, in_back, in_split}
use Rattle.e3_laws.proofs.serial.Step.Shapes.{FromAway}
use Rattle.e3_laws.proofs.serial.Step.Arrivals.{answers_push, answered_from, answered_first, Steady}
use Rattle.e3_laws.proofs.serial.Step.Stepping.{moment, so_far, grants_made, in_flat, Why, ByLock, ByGrant, new_why}
use Rattle.e3_laws.proofs.serial.Step.Knowing.{Known, fresh_unanswered}
use Rattle.e3_laws.proofs.serial.Site.Holding.{Holds, ByDone, ByVote, in_flat_from}
use Rattle.e3_laws.proofs.serial.Site.Recording.{rule_made, shaped_records, vote_done}
use Rattle.e3_laws.proofs.serial.Waits.Taking.{answered_some}

-- what is held behind a step: what was held before, or what got its lock in the step
pub data HoldsNow (a : At) (rule : Made) (t : Txn) (op : Op) : Type 0 where
  Old : Holds a.site a.life.log a.life.steps t op → HoldsNow a rule t op
  NewLock : (q : Asked) → Locking a q.txn q.n q.op → q.txn ≡ t → q.op ≡ op → HoldsNow a rule t op
  NewGrant : (q : Asked) → In q (grants_after a rule) → list_any decides rule.records ≡ true → q.txn ≡ t → q.op ≡ op → HoldsNow a rule t op

module _ (weights : List ℕ) (a : At) (steady : Steady a.site a.life.steps) (fits : Fits weights a.site a.life a.input) (away : FromAway a.site a.input) (known : Known a.site a.life.steps) where
  -- a step that records nothing and answers nothing leaves what is held
  pub quiet_holds : (step_at a).records ≡ [] → ((q : Asked) → answers q (a.life.steps ++ moment a ∷ []) ≡ answers q a.life.steps) → (t : Txn) (op : Op) →
      Holds a.site (a.life.log ++ (step_at a).records) (a.life.steps ++ moment a ∷ []) t op → Holds a.site a.life.log a.life.steps t op
  quiet_holds none same t op (ByDone q h y is of) = elim (fresh_unanswered weights a steady fits away known q h) [
    | inl old ↦ ByDone q old before is of
    | inr none_yet ↦ absurd (true≢false (sym before ∙ none_yet))
  ]
    where
      before : is_answered a.life.steps q ≡ true
      before = let f = answered_first (a.life.steps ++ moment a ∷ []) q y in answered_from a.life.steps q f.0 f.1 (sym (same q) ∙ f.2)
  quiet_holds none same t op (ByVote ops o h k is) = by (in_append a.life.log (step_at a).records (log.Vote t ops) h)
    where
      by : In (log.Vote t ops) a.life.log ⊎ In (log.Vote t ops) (step_at a).records → Holds a.site a.life.log a.life.steps t op
      by (inl old) = ByVote ops o old k is
      by (inr new) = absurd (subst (λ l. In (log.Vote t ops) l) none new)

  module _ (s : Shaped a (step_at a)) where
    -- who holds a lock behind a step
    pub classify : (t : Txn) (op : Op) → Holds a.site (a.life.log ++ (step_at a).records) (a.life.steps ++ moment a ∷ []) t op → HoldsNow a s.rule t op
    classify t op (ByDone q h y same is) = by (is_answered a.life.steps q) refl
      where
        old : In q (arrivals a.site a.life.steps) ⊎ (is_answered a.life.steps q ≡ false) → is_answered a.life.steps q ≡ true → HoldsNow a s.rule t op
        old (inl k) y = Old (ByDone q k y same is)
        old (inr none) y = absurd (true≢false (sym y ∙ none))

        why : (v : Answer) → Why a s.rule q v → HoldsNow a s.rule t op
        why v (ByLock l x e) = NewLock q l same is
        why v (ByGrant before after split x some ruled) = NewGrant q (subst (λ l. In q l) (sym split) (in_back before (q ∷ after) q (inl refl))) some same is

        by : (b : Bool) → is_answered a.life.steps q ≡ b → HoldsNow a s.rule t op
        by true e = old (fresh_unanswered weights a steady fits away known q h) e
        by false e = let f = answered_first (a.life.steps ++ moment a ∷ []) q y in why f.0 (new_why weights a steady fits away s q f.0 f.1 h e f.2)
    classify t op (ByVote ops o h k is) = by (in_append a.life.log (step_at a).records (log.Vote t ops) h)
      where
        by : In (log.Vote t ops) a.life.log ⊎ In (log.Vote t ops) (step_at a).records → HoldsNow a s.rule t op
        by (inl old) = Old (ByVote ops o old k is)
        by (inr new) =
            let r = in_split s.rule.records (log.Vote t ops) (subst (λ l. In (log.Vote t ops) l) (shaped_records a (step_at a) s) new) in
            let d = vote_done a r.0 t ops (rule_made a s.rule s.ruled r.0 r.1 (log.Vote t ops) r.2) o k in
            Old (ByDone d.0 d.1 d.2 d.3 (d.4 ∙ is))

-- what a rule sends, its step sends
send_outs : (a : At) (to : ℕ) (m : Message) (made : Made) (p : Packet) → In p made.outs → In p (and_send a to m made).outs
send_outs a to m made p h = by (to == a.site) refl
  where
    by : (b : Bool) → (to == a.site) ≡ b → In p (and_send a to m made).outs
    by true is = rw is h
    by false is = rw is (in_front made.outs (record { number = 0; «from» = a.site; to = to; msg = m } ∷ []) p h)

granted_outs : (a : At) (qs : List Asked) (made : Made) (p : Packet) → In p made.outs → In p (fold (and_grant a) made qs).outs
granted_outs a [] made p h = h
granted_outs a (q ∷ qs) made p h = granted_outs a qs (and_grant a made q) p (send_outs a q.txn.site _ made p h)

grants_outs : (a : At) (made : Made) (p : Packet) → In p made.outs → In p (and_grants a 0 made).outs
grants_outs a made p h = by (list_any decides (drop 0 made.records)) refl
  where
    by : (b : Bool) → list_any decides (drop 0 made.records) ≡ b → In p (and_grants a 0 made).outs
    by true is = rw is (granted_outs a (grants_after a made) made p h)
    by false is = rw is h

in_unnumbered : (ps : List Packet) (p : Packet) → In p ps → In (unnumbered p) (map unnumbered ps)
in_unnumbered [] p h = absurd h
in_unnumbered (x ∷ ps) p (inl e) = inl (ap unnumbered e)
in_unnumbered (x ∷ ps) p (inr h) = inr (in_unnumbered ps p h)

-- what a rule has answered, its step has answered
pub answered_so_far : (a : At) (s : Shaped a (step_at a)) (q : Asked) → is_answered (steps_now a s.rule) q ≡ true → is_answered (a.life.steps ++ moment a ∷ []) q ≡ true
answered_so_far a s q h =
    let f = answered_first (steps_now a s.rule) q h in
    answered_some (a.life.steps ++ moment a ∷ []) q f.0
    (subst (λ l. In f.0 l) (sym (answers_push q a.life.steps (moment a)))
    (shown f.0 (subst (λ l. In f.0 l) (answers_push q a.life.steps (so_far a s.rule)) (subst (λ l. In f.0 l) (sym f.2) (inl refl)))))
  where
    tells : (v : Answer) → In v (flat_map (answer_told q) s.rule.told) → In v (flat_map (answer_told q) (step_at a).told)
    tells v k = subst (λ l. In v (flat_map (answer_told q) l)) (sym (s.told ∙ ap (λ l. l ++ s.events) (grants_made a s.rule).1))
        (subst (λ l. In v l) (sym (flat_map-append (answer_told q) s.rule.told s.events)) (in_front (flat_map (answer_told q) s.rule.told) (flat_map (answer_told q) s.events) v k))

    sends : (v : Answer) → In v (flat_map (answer_sent q) s.rule.outs) → In v (flat_map (answer_sent q) (map unnumbered (step_at a).outs))
    sends v k =
        let p = in_flat (answer_sent q) s.rule.outs v k in
        in_flat_from (answer_sent q) (map unnumbered (step_at a).outs) (unnumbered p.0) v
        (in_unnumbered (step_at a).outs p.0 (subst (λ l. In p.0 l) (sym s.outs) (grants_outs a s.rule p.0 p.1))) p.2

    now : (v : Answer) → In v (flat_map (answer_told q) s.rule.told) ⊎ In v (flat_map (answer_sent q) s.rule.outs) →
        In v (answers q a.life.steps ++ (flat_map (answer_told q) (step_at a).told ++ flat_map (answer_sent q) (map unnumbered (step_at a).outs)))
    now v (inl k) = in_back (answers q a.life.steps) _ v (in_front (flat_map (answer_told q) (step_at a).told) (flat_map (answer_sent q) (map unnumbered (step_at a).outs)) v (tells v k))
    now v (inr k) = in_back (answers q a.life.steps) _ v (in_back (flat_map (answer_told q) (step_at a).told) (flat_map (answer_sent q) (map unnumbered (step_at a).outs)) v (sends v k))

    shown : (v : Answer) → In v (answers q a.life.steps ++ (flat_map (answer_told q) s.rule.told ++ flat_map (answer_sent q) s.rule.outs)) →
        In v (answers q a.life.steps ++ (flat_map (answer_told q) (step_at a).told ++ flat_map (answer_sent q) (map unnumbered (step_at a).outs)))
    shown v k = elim (in_append (answers q a.life.steps) (flat_map (answer_told q) s.rule.told ++ flat_map (answer_sent q) s.rule.outs) v k) [
      | inl old ↦ in_front (answers q a.life.steps) _ v old
      | inr new ↦ now v (in_append (flat_map (answer_told q) s.rule.told) (flat_map (answer_sent q) s.rule.outs) v new)
    ]
