-- What sites said of operations stands behind an entry that is no step.
use Rattle.std.proofs.Common.{◌≡◌, ◌++◌, ◌∷◌, [], ℕ, ◌≤◌, ◌<◌, Bool, true, false, List, None, refl, sym, subst, ap, ◌∙◌, inl, inr, ◌⊎◌, arith, append-nil, length}
use Rattle.std.specs.Prelude.{Contains}
use Rattle.std.specs.List.{list_any}
use Rattle.e3_types.specs.declared.entries.Entry.{Entry}
use Rattle.e3_types.specs.declared.messages.Packet.{Packet}
use Rattle.e3_types.specs.declared.scenarios.Scenario.{Scenario}
use Rattle.e3_types.specs.declared.transactions.Txn.{Txn}
use Rattle.e3_world.specs.declared.lives.Asked.{Asked}
use Rattle.e3_world.specs.declared.lives.Moment.{Moment}
use Rattle.e3_world.specs.declared.names.Bound.{Bound}
use Rattle.e3_world.specs.Items.{is_delivery, taken_at, is_up_at, recover_group}
use Rattle.e3_world.specs.Logs.{key_of, logged_inc}
use Rattle.e3_world.specs.Moves.{log_of}
use Rattle.e3_world.specs.Operations.{issued, op_told, is_answered}
use Rattle.e3_world.specs.Packets.{sent, outs_of, pending, present_items}
use Rattle.e3_laws.proofs.steps.Suits.Turns.{AsksNone}
use Rattle.e3_laws.proofs.steps.Operations.Tracing.{was_delivered}
use Rattle.e3_laws.proofs.steps.Sound.Clocks.{AdvanceAt, more_at}
use Rattle.e3_laws.proofs.steps.Operations.Freshness.{Fresh, bound_in, life_in, IsKnown}
use Rattle.e3_laws.proofs.steps.Operations.Pending.{pending_push}
use Rattle.e3_laws.proofs.steps.Operations.Talks.{SentDo, Pends, SentDone, HasOp, WasHeard, HasAnswered, IsGone, Talks}

-- a transaction that is bound is of an incarnation that its site's log has
pub known_low : (sc : Scenario) (h : List Entry) (t : Txn) → Fresh sc h → IsKnown (bound_in sc h) t → t.inc ≤ logged_inc (log_of sc h t.site)
known_low sc h t was known = let P : Txn → Type 0 = λ u. u.inc ≤ logged_inc (log_of sc h u.site) in subst P known.2 (was.incs known.0 known.1)

module _ (sc : Scenario) (h : List Entry) (e : Entry) (fresh : Fresh sc h) (was : Talks sc h) (adv : (s : ℕ) → AdvanceAt sc h e s)
    (same_sent : sent (h ++ e ∷ []) ≡ sent h) (same_bound : bound_in sc (h ++ e ∷ []) ≡ bound_in sc h) (nothing : (s : ℕ) → more_at sc h e s ≡ [])
    (out : outs_of e.act ≡ []) where
  do_back : (t : Txn) (n y : ℕ) → SentDo (h ++ e ∷ []) t n y → SentDo h t n y
  do_back t n y d = record { packet = d.packet; has = (let P : List Packet → Type 0 = λ l. Contains l d.packet in subst P same_sent d.has); op = d.op; says = d.says; there = d.there }

  done_back : (t : Txn) (n y : ℕ) → SentDone (h ++ e ∷ []) t n y → SentDone h t n y
  done_back t n y d = record { packet = d.packet; has = (let P : List Packet → Type 0 = λ l. Contains l d.packet in subst P same_sent d.has); answer = d.answer; own = d.own }

  do_on : (t : Txn) (n y : ℕ) → SentDo h t n y → SentDo (h ++ e ∷ []) t n y
  do_on t n y d = record { packet = d.packet; has = (let P : List Packet → Type 0 = λ l. Contains l d.packet in subst P (sym same_sent) d.has); op = d.op; says = d.says; there = d.there }

  done_on : (t : Txn) (n y : ℕ) → SentDone h t n y → SentDone (h ++ e ∷ []) t n y
  done_on t n y d = record { packet = d.packet; has = (let P : List Packet → Type 0 = λ l. Contains l d.packet in subst P (sym same_sent) d.has); answer = d.answer; own = d.own }

  pends_back : (t : Txn) (n : ℕ) → Pends sc (h ++ e ∷ []) t n → Pends sc h t n
  pends_back t n p = elim (pending_push sc h e p.packet p.has) [
    | inl old ↦ record { packet = p.packet; has = old; op = p.op; says = p.says }
    | inr new ↦ (let P : List Packet → Type 0 = λ l. Contains l p.packet in let none : Contains [] p.packet = subst P out new in absurd (omega (arith, none.1)))
  ]

  on_steps : (s : ℕ) → (life_in sc (h ++ e ∷ []) s).steps ≡ (life_in sc h s).steps ++ more_at sc h e s → (life_in sc (h ++ e ∷ []) s).steps ≡ (life_in sc h s).steps
  on_steps s is = is ∙ ap (λ l. (life_in sc h s).steps ++ l) (nothing s) ∙ append-nil (life_in sc h s).steps

  quiet_nth : (t : Txn) (n y : ℕ) → SentDo (h ++ e ∷ []) t n y → is_up_at (h ++ e ∷ []) t.site ≡ true → t.inc ≡ (life_in sc (h ++ e ∷ []) t.site).inc →
      HasOp (issued t (life_in sc (h ++ e ∷ []) t.site).steps) n y
  quiet_nth t n y d up same = elim ((adv t.site).advances.lives up) [
    | inl on ↦ (let P : List Moment → Type 0 = λ l. HasOp (issued t l) n y in subst P (sym (on_steps t.site on.2)) (was.nth t n y (do_back t n y d) on.0 (same ∙ on.1)))
    | inr new ↦ (let low : t.inc ≤ logged_inc (log_of sc h t.site) = known_low sc h t fresh (was.known t n y (do_back t n y d)) in
        let above : logged_inc (log_of sc h t.site) < (life_in sc (h ++ e ∷ []) t.site).inc = new.0 in absurd (omega (arith, low, above, same)))
  ]

  quiet_told : (t : Txn) (s m : ℕ) → is_up_at (h ++ e ∷ []) s ≡ true → 1 ≤ m → m < length (issued t (life_in sc (h ++ e ∷ []) s).steps) →
      op_told t m (life_in sc (h ++ e ∷ []) s).steps ≡ true
  quiet_told t s m up low high = elim ((adv s).advances.lives up) [
    | inl on ↦ (let P : List Moment → Type 0 = λ l. m < length (issued t l) → op_told t m l ≡ true in
        subst P (sym (on_steps s on.2)) (λ less. was.told t s m on.0 low less) high)
    | inr new ↦ (let P : List Moment → Type 0 = λ l. m < length (issued t l) in let none : m < length (issued t []) = subst P new.1 high in absurd (omega (arith, none)))
  ]

  quiet_heard : (t : Txn) (m s : ℕ) → is_up_at (h ++ e ∷ []) s ≡ true → op_told t m (life_in sc (h ++ e ∷ []) s).steps ≡ true →
      WasHeard (h ++ e ∷ []) t m s (issued t (life_in sc (h ++ e ∷ []) s).steps)
  quiet_heard t m s up told = elim ((adv s).advances.lives up) [
    | inl on ↦ (let P : List Moment → Type 0 = λ l. op_told t m l ≡ true in
        let Q : List Moment → Type 0 = λ l. WasHeard (h ++ e ∷ []) t m s (issued t l) in
        let w : WasHeard h t m s (issued t (life_in sc h s).steps) = was.heard t m s on.0 (subst P (on_steps s on.2) told) in
        subst Q (sym (on_steps s on.2)) (
          w.0,
          w.1,
          elim w.2 [
            | inl own ↦ inl own
            | inr done ↦ inr (done_on t m (key_of w.0).site done)
          ],
        ))
    | inr new ↦ (let P : List Moment → Type 0 = λ l. op_told t m l ≡ true in let none : op_told t m [] ≡ true = subst P new.1 told in absurd cc)
  ]

  quiet_took : (t : Txn) (m y : ℕ) → is_up_at (h ++ e ∷ []) y ≡ true → was_delivered t m (life_in sc (h ++ e ∷ []) y).steps ≡ true → SentDo (h ++ e ∷ []) t m y
  quiet_took t m y up came = elim ((adv y).advances.lives up) [
    | inl on ↦ (let P : List Moment → Type 0 = λ l. was_delivered t m l ≡ true in do_on t m y (was.took t m y on.0 (subst P (on_steps y on.2) came)))
    | inr new ↦ (let P : List Moment → Type 0 = λ l. was_delivered t m l ≡ true in let none : was_delivered t m [] ≡ true = subst P new.1 came in absurd cc)
  ]

  quiet_done : ((s : ℕ) → is_up_at h s ≡ false → is_up_at (h ++ e ∷ []) s ≡ true → pending sc h ≡ []) → (q : Asked) (y : ℕ) → SentDone (h ++ e ∷ []) q.txn q.n y →
      HasAnswered sc (h ++ e ∷ []) y q ⊎ IsGone sc (h ++ e ∷ []) y q
  quiet_done calm q y d = by (is_up_at (h ++ e ∷ []) y) refl
    where
      by : (b : Bool) → is_up_at (h ++ e ∷ []) y ≡ b → HasAnswered sc (h ++ e ∷ []) y q ⊎ IsGone sc (h ++ e ∷ []) y q
      by false down = inl (λ up. absurd (let both : true ≡ false = sym up ∙ down in cc))
      by true up = elim ((adv y).advances.lives up) [
        | inl on ↦ elim (was.done q y (done_back q.txn q.n y d)) [
          | inl answered ↦ inl (λ is. let P : List Moment → Type 0 = λ l. is_answered l q ≡ true in subst P (sym (on_steps y on.2)) (answered on.0))
          | inr gone ↦ inr (
            (λ is. let P : List Moment → Type 0 = λ l. was_delivered q.txn q.n l ≡ false in subst P (sym (on_steps y on.2)) (gone.0 on.0)),
            (λ p. gone.1 (pends_back q.txn q.n p)),
          )
        ]
        | inr new ↦ inr (
          (λ is. let P : List Moment → Type 0 = λ l. was_delivered q.txn q.n l ≡ false in subst P (sym new.1) refl),
          (λ p. let old : Pends sc h q.txn q.n = pends_back q.txn q.n p in
              let P : List Packet → Type 0 = λ l. Contains l old.packet in
              let none : Contains [] old.packet = subst P (calm y new.2 up) old.has in omega (arith, none.1)),
        )
      ]

  quiet_unheard : ((t : Txn) (n : ℕ) → Pends sc (h ++ e ∷ []) t n → list_any is_delivery (taken_at (h ++ e ∷ []) t.site) ≡ false → is_up_at (h ++ e ∷ []) t.site ≡ true →
      list_any is_delivery (taken_at h t.site) ≡ false) → (t : Txn) (n : ℕ) → Pends sc (h ++ e ∷ []) t n → is_up_at (h ++ e ∷ []) t.site ≡ true →
      t.inc ≡ (life_in sc (h ++ e ∷ []) t.site).inc → list_any is_delivery (taken_at (h ++ e ∷ []) t.site) ≡ false → op_told t n (life_in sc (h ++ e ∷ []) t.site).steps ≡ false
  quiet_unheard none t n p up same deliver = elim ((adv t.site).advances.lives up) [
    | inl on ↦ (let P : List Moment → Type 0 = λ l. op_told t n l ≡ false in
        subst P (sym (on_steps t.site on.2)) (was.unheard t n (pends_back t n p) on.0 (same ∙ on.1) (none t n p deliver up)))
    | inr new ↦ (let P : List Moment → Type 0 = λ l. op_told t n l ≡ false in subst P (sym new.1) refl)
  ]

  pub quiet_talks : ((s : ℕ) → is_up_at h s ≡ false → is_up_at (h ++ e ∷ []) s ≡ true → pending sc h ≡ []) →
      ((t : Txn) (n : ℕ) → Pends sc (h ++ e ∷ []) t n → list_any is_delivery (taken_at (h ++ e ∷ []) t.site) ≡ false → is_up_at (h ++ e ∷ []) t.site ≡ true →
      list_any is_delivery (taken_at h t.site) ≡ false) →
      (AsksNone (present_items sc (h ++ e ∷ [])) → recover_group (present_items sc (h ++ e ∷ [])) ≡ None → pending sc (h ++ e ∷ []) ≡ []) → Talks sc (h ++ e ∷ [])
  quiet_talks calm none rest = record {
    known = λ t n y d. (let P : List Bound → Type 0 = λ l. IsKnown l t in subst P (sym same_bound) (was.known t n y (do_back t n y d)));
    nth = quiet_nth;
    told = quiet_told;
    heard = quiet_heard;
    took = quiet_took;
    asked = λ t m y d. do_on t m y (was.asked t m y (done_back t m y d));
    done = quiet_done calm;
    last = λ t n m y p d. was.last t n m y (pends_back t n p) (do_back t m y d);
    unheard = quiet_unheard none;
    before = λ t n m y z first second less. done_on t m z (was.before t n m y z (do_back t n y first) (do_back t m z second) less);
    high = λ t n y d. was.high t n y (do_back t n y d);
    rest = rest;
  }
