-- What sites said of operations stands behind each entry that is no step.
use Rattle.std.proofs.Common.{◌≡◌, ◌==◌, ◌++◌, ◌∷◌, [], ℕ, zero, suc, Bool, true, false, List, None, refl, sym, subst, ap, ◌∙◌, inl, inr, arith, append-nil}
use Rattle.std.specs.Prelude.{Contains}
use Rattle.std.specs.List.{list_any}
use Rattle.std.proofs.lemmas.Bool.{and_parts, or_parts}
use Rattle.std.proofs.lemmas.List.Folds.{list_any-append}
use Rattle.e3_types.specs.declared.entries.Act.TheVariants.{Line}
use Rattle.e3_types.specs.declared.entries.Entry.{Entry}
use Rattle.e3_types.specs.declared.messages.Packet.{Packet}
use Rattle.e3_types.specs.declared.scenarios.Item.{Item}
use Rattle.e3_types.specs.declared.scenarios.Item.TheVariants as item
use Rattle.e3_types.specs.declared.scenarios.Scenario.{Scenario}
use Rattle.e3_world.specs.Given.{IsGiven}
use Rattle.e3_world.specs.Items.{is_delivery, taken_at, inputs_of, is_up_at, recover_group}
use Rattle.e3_world.specs.Legal.{may_rise, is_through, is_made}
use Rattle.e3_world.specs.Moves.{Past, own_entries, past_of}
use Rattle.e3_world.specs.Packets.{sent, outs_of, pending, lines, is_line, present_items, step_items}
use Rattle.e3_world.specs.Progress.{up_behind}
use Rattle.e3_world.proofs.Readings.{taken_same, taken_other, up_same, up_other}
use Rattle.e3_laws.proofs.steps.Suits.Turns.{AsksNone, present_push, rises, rising_none}
use Rattle.e3_laws.proofs.steps.Sound.Clocks.{AdvanceAt, moments_of}
use Rattle.e3_laws.proofs.steps.Operations.Freshness.{Fresh, bound_in, still_more}
use Rattle.e3_laws.proofs.steps.Operations.Pending.{pending_push, none_in}
use Rattle.e3_laws.proofs.steps.Operations.Talks.{Talks}
use Rattle.e3_laws.proofs.steps.Operations.Silence.{quiet_talks}
use Rattle.e3_laws.proofs.steps.Moving.{sent_push}
use Rattle.e3_laws.proofs.steps.Items.{is_empty, through_at}

-- where nothing is pending and nothing is sent nothing is pending
none_pending : (sc : Scenario) (h : List Entry) (e : Entry) → outs_of e.act ≡ [] → pending sc h ≡ [] → pending sc (h ++ e ∷ []) ≡ []
none_pending sc h e out none = none_in (pending sc (h ++ e ∷ [])) (λ p has. elim (pending_push sc h e p has) [
  | inl old ↦ empty p (pending sc h) none old
  | inr new ↦ empty p (outs_of e.act) out new
])
  where
    empty : (p : Packet) (l : List Packet) → l ≡ [] → Contains l p → ⊥
    empty p l is has = let P : List Packet → Type 0 = λ x. Contains x p in let no : Contains [] p = subst P is has in omega (arith, no.1)

no_delivery : (h : List Entry) (e : Entry) (s : ℕ) → is_line e ≡ false → list_any is_delivery (taken_at (h ++ e ∷ []) s) ≡ false → list_any is_delivery (taken_at h s) ≡ false
no_delivery h e s stays none = by (e.owner == s) refl
  where
    by : (b : Bool) → (e.owner == s) ≡ b → list_any is_delivery (taken_at h s) ≡ false
    by true is = (or_parts (list_any is_delivery (taken_at h s)) (list_any is_delivery (inputs_of e.act))
        (sym (ap (list_any is_delivery) (taken_same h e s stays is) ∙ list_any-append is_delivery (taken_at h s) (inputs_of e.act)) ∙ none)).0
    by false is = ap (list_any is_delivery) (sym (taken_other h e s stays is)) ∙ none

-- an entry that is neither a line nor a step, behind which a site is up that was down only where nothing is pending
pub quiet_on : (sc : Scenario) (h : List Entry) (e : Entry) → Fresh sc h → Talks sc h → ((s : ℕ) → AdvanceAt sc h e s) → is_line e ≡ false → outs_of e.act ≡ [] →
    bound_in sc (h ++ e ∷ []) ≡ bound_in sc h → ((w : Past) → moments_of w e.act ≡ []) →
    ((was : Bool) → was ≡ false → up_behind was e.act ≡ true → pending sc h ≡ []) → Talks sc (h ++ e ∷ [])
quiet_on sc h e fresh was adv stays out bound still calm = quiet_talks sc h e fresh was adv
    (sent_push h e ∙ ap (λ l. sent h ++ l) out ∙ append-nil (sent h)) bound
    (λ s. still_more (e.owner == s) (moments_of (past_of sc s (own_entries s h)) e.act) (still (past_of sc s (own_entries s h)))) out
    (λ s down up. calm_at s (e.owner == s) refl down up)
    (λ t n p none up. no_delivery h e t.site stays none)
    (λ asks recovers. none_pending sc h e out (was.rest
    (let P : List Item → Type 0 = AsksNone in subst P (present_push sc h e stays) asks)
    (ap recover_group (sym (present_push sc h e stays)) ∙ recovers)))
  where
    calm_at : (s : ℕ) (b : Bool) → (e.owner == s) ≡ b → is_up_at h s ≡ false → is_up_at (h ++ e ∷ []) s ≡ true → pending sc h ≡ []
    calm_at s true is down up = calm (is_up_at h s) down (sym (up_same h e s is) ∙ up)
    calm_at s false is down up = absurd (let both : true ≡ false = sym up ∙ up_other h e s is ∙ down in cc)

restart_still : (sc : Scenario) (h : List Entry) (s n : ℕ) (items : List Item) → rises sc h s (suc n) items ≡ true → recover_group items ≡ None
restart_still sc h s n (item.Restart site ∷ items) may = refl
restart_still sc h s n [] may = refl
restart_still sc h s n (it ∷ items) may = absurd cc

-- where a site may rise nothing recovers
rising_still : (sc : Scenario) (h : List Entry) (s : ℕ) → may_rise sc h s ≡ true → recover_group (present_items sc h) ≡ None
rising_still sc h s may = by (lines h) refl
  where
    by : (n : ℕ) → lines h ≡ n → recover_group (present_items sc h) ≡ None
    by zero is = ap (λ n. recover_group (step_items sc n)) is
    by (suc n) is = restart_still sc h s n (present_items sc h) (let P : ℕ → Type 0 = λ n. rises sc h s n (present_items sc h) ≡ true in subst P is may)

-- where a site may rise nothing is pending
pub rising_calm : (sc : Scenario) (h : List Entry) (s : ℕ) → IsGiven sc → Talks sc h → may_rise sc h s ≡ true → pending sc h ≡ []
rising_calm sc h s given was may = was.rest (rising_none sc h s given may) (rising_still sc h s may)

empty_none : (ps : List Packet) → is_empty ps ≡ true → ps ≡ []
empty_none [] is = refl
empty_none (p ∷ ps) is = absurd cc

-- where all is through nothing is pending
through_calm : (sc : Scenario) (h : List Entry) → Talks sc h → is_through sc h ≡ true → pending sc h ≡ []
through_calm sc h was through = by (lines h) refl
  where
    by : (n : ℕ) → lines h ≡ n → pending sc h ≡ []
    by zero none = let P : List Item → Type 0 = AsksNone in
        was.rest (subst P (sym (ap (step_items sc) none)) (λ k l. refl)) (ap (λ n. recover_group (step_items sc n)) none)
    by (suc n) some = empty_none (pending sc h) (and_parts (is_empty (pending sc h)) (is_made sc h)
        (let P : ℕ → Type 0 = λ n. through_at sc h n ≡ true in subst P some through)).0

-- a line
pub line_on : (sc : Scenario) (h : List Entry) (number : ℕ) → Fresh sc h → Talks sc h → ((s : ℕ) → AdvanceAt sc h (record { owner = 0; act = Line number }) s) →
    is_through sc h ≡ true → bound_in sc (h ++ record { owner = 0; act = Line number } ∷ []) ≡ bound_in sc h → Talks sc (h ++ record { owner = 0; act = Line number } ∷ [])
line_on sc h number fresh was adv through bound = quiet_talks sc h e fresh was adv
    (sent_push h e ∙ append-nil (sent h)) bound (λ s. still_more (0 == s) [] refl) refl
    (λ s down up. calm) (λ t n p none up. absurd (let P : List Packet → Type 0 = λ l. Contains l p.packet in
    let no : Contains [] p.packet = subst P (none_pending sc h e refl calm) p.has in omega (arith, no.1)))
    (λ asks recovers. none_pending sc h e refl calm)
  where
    e : Entry
    e = record { owner = 0; act = Line number }

    calm : pending sc h ≡ []
    calm = through_calm sc h was through
