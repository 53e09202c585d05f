-- What sites said of operations stands behind a step, by what a step may issue, answer and tell.
use Rattle.std.proofs.Common.{◌≡◌, ◌==◌, ◌||◌, ◌+◌, ◌++◌, ◌∷◌, [], ℕ, suc, ◌≤◌, ◌<◌, Bool, true, false, List, Some, None, refl, sym, subst, ap, ◌∙◌, inl, inr, ◌⊎◌, arith, append-nil, length, eqb-true}
use Rattle.std.specs.Prelude.{slice_get, Contains}
use Rattle.std.specs.List.{list_any, flat_map, AllByRecursion as Each}
use Rattle.std.proofs.lemmas.Bool.{eqb-false, or_cases, or_left, or_parts, or_from, cases_lt, false_from_ne_true}
use Rattle.std.proofs.lemmas.Grind.{flat_map-append}
use Rattle.std.proofs.lemmas.Option.{same_Some}
use Rattle.std.proofs.lemmas.List.{length-append}
use Rattle.std.proofs.lemmas.List.Folds.{list_any-append}
use Rattle.e3_types.specs.declared.entries.Entry.{Entry}
use Rattle.e3_types.specs.declared.entries.Input.{Input}
use Rattle.e3_types.specs.declared.entries.Input.TheVariants as input
use Rattle.e3_types.specs.declared.messages.Message.TheVariants as msg
use Rattle.e3_types.specs.declared.messages.Packet.{Packet}
use Rattle.e3_types.specs.declared.scenarios.Item.{Item}
use Rattle.e3_types.specs.declared.scenarios.Scenario.{Scenario}
use Rattle.e3_types.specs.declared.transactions.Answer.{Answer}
use Rattle.e3_types.specs.declared.transactions.Op.{Op}
use Rattle.e3_types.specs.declared.transactions.Txn.{Txn}
use Rattle.e3_world.specs.declared.lives.Asked.{Asked}
use Rattle.e3_world.specs.declared.lives.Life.{Life}
use Rattle.e3_world.specs.declared.lives.Moment.{Moment}
use Rattle.e3_world.specs.Items.{is_delivery, taken_at, inputs_at, turn_of, is_up_at, recover_group}
use Rattle.e3_world.specs.Legal.{IsDue, IsNextItem, IsDelivery}
use Rattle.e3_world.specs.Logs.{key_of}
use Rattle.e3_world.specs.Operations.{issued, issued_in, nth_op, op_told, tells_op, is_answered, answers, answer_told, answer_sent}
use Rattle.e3_world.specs.Packets.{sent, pending, present_items}
use Rattle.e3_world.proofs.InTrail.{pending_sent}
use Rattle.e3_laws.specs.steps.Bounds.{GoesBetween}
use Rattle.e3_laws.proofs.steps.Suits.Turns.{AsksNone, none_at, due_recovers}
use Rattle.e3_laws.proofs.steps.Operations.Tracing.{IsAnswer, was_delivered, is_do}
use Rattle.e3_laws.proofs.steps.Operations.Freshness.{bound_in, life_in, IsKnown}
use Rattle.e3_laws.proofs.steps.Operations.Issuing.{told_push, issued_push, nth_more, nth_low, nth_next}
use Rattle.e3_laws.proofs.steps.Operations.Talks.{SentDo, Pends, SentDone, HasOp, WasHeard, HasAnswered, IsGone, Talks, FromHome, from_home, pends_sent}
use Rattle.e3_laws.proofs.steps.Tests.{or_false}

-- an operation that the step issues
pub record Issue (sc : Scenario) (h : List Entry) (site : ℕ) (i : Input) (m : Moment) (t : Txn) (n : ℕ) (op : Op) : Type 0 where
  pub takes : i ≡ input.Do t op
  pub next : n ≡ suc (length (issued t (life_in sc h site).steps))
  pub home : t.site ≡ site
  pub present : t.inc ≡ (life_in sc h site).inc
  pub answered : (k : ℕ) → 1 ≤ k → k ≡ length (issued t (life_in sc h site).steps) → op_told t k (life_in sc h site).steps ≡ true
  pub grows : issued_in t m.input m.told ≡ op ∷ []

-- a packet that the step sends
pub record News (sc : Scenario) (h : List Entry) (site : ℕ) (i : Input) (m : Moment) (packet : Packet) : Type 0 where
  pub own : packet.«from» ≡ site
  pub asks : (t : Txn) (n : ℕ) (op : Op) → packet.msg ≡ msg.Do t n op → Issue sc h site i m t n op × (packet.to ≡ (key_of op).site)
  pub answers : (t : Txn) (n : ℕ) → IsAnswer t n packet → (was_delivered t n (life_in sc h site).steps || is_do t n m.input) ≡ true
  pub shows : (q : Asked) → IsAnswer q.txn q.n packet → is_answered ((life_in sc h site).steps ++ m ∷ []) q ≡ true

-- an answer that the step tells
pub record Telling (sc : Scenario) (h : List Entry) (site : ℕ) (i : Input) (m : Moment) (t : Txn) (n : ℕ) : Type 0 where
  pub op : Op
  pub nth : nth_op n (issued t ((life_in sc h site).steps ++ m ∷ [])) ≡ Some op
  pub heard : ((key_of op).site ≡ site) ⊎ ((is_delivery i ≡ true) × SentDone h t n (key_of op).site)

-- a step of a site, from one history to the next
pub record Stepping (sc : Scenario) (h k : List Entry) (site : ℕ) (i : Input) (m : Moment) : Type 0 where
  pub up : is_up_at h site ≡ true
  pub due : IsDue sc h site i
  pub goes : Each (GoesBetween sc.weights) (sent k)
  pub others : (s : ℕ) → (site == s) ≡ false → life_in sc k s ≡ life_in sc h s
  pub ups : (s : ℕ) → is_up_at k s ≡ is_up_at h s
  pub inc : (life_in sc k site).inc ≡ (life_in sc h site).inc
  pub steps : (life_in sc k site).steps ≡ (life_in sc h site).steps ++ m ∷ []
  pub keeps : (p : Packet) → Contains (sent h) p → Contains (sent k) p
  pub sends : (p : Packet) → Contains (sent k) p → Contains (sent h) p ⊎ News sc h site i m p
  pub pends : (p : Packet) → Contains (pending sc k) p → Contains (pending sc h) p ⊎ News sc h site i m p
  pub bound : (t : Txn) → IsKnown (bound_in sc h) t → IsKnown (bound_in sc k) t
  pub issues : (t : Txn) → (issued_in t m.input m.told ≡ []) ⊎ ((n : ℕ) × (op : Op) × Issue sc h site i m t n op)
  pub tells : (t : Txn) (n : ℕ) → list_any (tells_op t n) m.told ≡ true → Telling sc h site i m t n
  pub takes : (t : Txn) (n : ℕ) → is_do t n m.input ≡ true → (p : Packet) × (op : Op) × (i ≡ input.Deliver p) × (p.msg ≡ msg.Do t n op)
  pub taken : taken_at k site ≡ taken_at h site ++ i ∷ []
  pub taken_others : (s : ℕ) → (site == s) ≡ false → taken_at k s ≡ taken_at h s
  pub items : present_items sc k ≡ present_items sc h
  pub few : (t : Txn) (op : Op) → i ≡ input.Do t op → length (issued t (life_in sc h site).steps) < 64
  pub knows : (t : Txn) (op : Op) → i ≡ input.Do t op → IsKnown (bound_in sc h) t

-- the step sends the operation to a site
abbrev pub IssuesTo : Scenario → List Entry → ℕ → Input → Moment → Txn → ℕ → ℕ → Type 0
IssuesTo sc h site i m t n y = (op : Op) × Issue sc h site i m t n op × ((key_of op).site ≡ y)

apart : {P : Type 0} (b : Bool) → b ≡ true → b ≡ false → P
apart b up down = absurd (let both : true ≡ false = sym up ∙ down in cc)

-- where nothing is asked of a site and nothing is pending no input is due
not_due : (sc : Scenario) (h : List Entry) (site : ℕ) (i : Input) → inputs_at sc h site ≡ [] → recover_group (present_items sc h) ≡ None → pending sc h ≡ [] →
    IsDue sc h site i → ⊥
not_due sc h site i none recovers calm due = by i due
  where
    next : (j : Input) → IsNextItem sc h site j → ⊥
    next j is = let P : List Input → Type 0 = λ l. slice_get l (turn_of h site) ≡ Some j in let has : slice_get [] (turn_of h site) ≡ Some j = subst P none is.next in absurd cc

    by : (j : Input) → IsDue sc h site j → ⊥
    by (input.Deliver p) is = let P : List Packet → Type 0 = λ l. Contains l p in let has : Contains [] p = subst P calm is.is_pending in omega (arith, has.1)
    by (input.Elect t group) (inl is) = next (input.Elect t group) is
    by (input.Elect t group) (inr is) = let some : _ = due_recovers sc h (record { txn = t; members = group; elector = site }) is.due in
        let both : None ≡ Some some.0 = sym recovers ∙ some.1 in absurd cc
    by j is = next j is

-- there is an answer
abbrev pub any_answer : List Answer → Bool
any_answer [] = false
any_answer (answer ∷ more) = true

pub any_left : (xs ys : List Answer) → any_answer xs ≡ true → any_answer (xs ++ ys) ≡ true
any_left [] ys some = absurd cc
any_left (x ∷ xs) ys some = refl

pub any_right : (xs ys : List Answer) → any_answer ys ≡ true → any_answer (xs ++ ys) ≡ true
any_right [] ys some = some
any_right (x ∷ xs) ys some = refl

-- what was answered stays so
answered_more : (steps : List Moment) (m : Moment) (q : Asked) → is_answered steps q ≡ true → is_answered (steps ++ m ∷ []) q ≡ true
answered_more steps m q is =
    ap any_answer (flat_map-append (λ x. flat_map (answer_told q) x.told ++ flat_map (answer_sent q) x.outs) steps (m ∷ []))
    ∙ any_left (answers q steps) (answers q (m ∷ [])) is

delivered_push : (t : Txn) (n : ℕ) (steps : List Moment) (m : Moment) → was_delivered t n (steps ++ m ∷ []) ≡ (was_delivered t n steps || is_do t n m.input)
delivered_push t n steps m = list_any-append (λ x. is_do t n x.input) steps (m ∷ []) ∙ ap (λ b. was_delivered t n steps || b) (or_false (is_do t n m.input))

module _ (sc : Scenario) (h k : List Entry) (site : ℕ) (i : Input) (m : Moment) (step : Stepping sc h k site i m) (was : Talks sc h) where
  do_on : (t : Txn) (n y : ℕ) → SentDo h t n y → SentDo k t n y
  do_on t n y d = record { packet = d.packet; has = step.keeps d.packet d.has; op = d.op; says = d.says; there = d.there }

  done_on : (t : Txn) (n y : ℕ) → SentDone h t n y → SentDone k t n y
  done_on t n y d = record { packet = d.packet; has = step.keeps d.packet d.has; answer = d.answer; own = d.own }

  do_cases : (t : Txn) (n y : ℕ) → SentDo k t n y → SentDo h t n y ⊎ IssuesTo sc h site i m t n y
  do_cases t n y d = elim (step.sends d.packet d.has) [
    | inl old ↦ inl (record { packet = d.packet; has = old; op = d.op; says = d.says; there = d.there })
    | inr new ↦ (let this : _ = new.asks t n d.op d.says in inr (d.op, this.0, sym this.1 ∙ d.there))
  ]

  pend_cases : (t : Txn) (n : ℕ) (p : Pends sc k t n) → Pends sc h t n ⊎ IssuesTo sc h site i m t n p.packet.to
  pend_cases t n p = elim (step.pends p.packet p.has) [
    | inl old ↦ inl (record { packet = p.packet; has = old; op = p.op; says = p.says })
    | inr new ↦ (let this : _ = new.asks t n p.op p.says in inr (p.op, this.0, sym this.1))
  ]

  home_of : (t : Txn) (n y : ℕ) (d : SentDo k t n y) → FromHome d.packet t n
  home_of t n y d = from_home sc k d.packet t n d.op step.goes d.has d.says

  -- an operation that went out before is one of those issued
  low_number : (t : Txn) (n y c : ℕ) (op : Op) → Issue sc h site i m t c op → SentDo h t n y → HasOp (issued t (life_in sc h site).steps) n y
  low_number t n y c op new d =
      let P : ℕ → Type 0 = λ s. is_up_at h s ≡ true → t.inc ≡ (life_in sc h s).inc → HasOp (issued t (life_in sc h s).steps) n y in
      subst P new.home (was.nth t n y d) step.up new.present

  all_told : (t : Txn) (c : ℕ) (op : Op) → Issue sc h site i m t c op → (n : ℕ) → 1 ≤ n → n ≤ length (issued t (life_in sc h site).steps) →
      op_told t n (life_in sc h site).steps ≡ true
  all_told t c op new n low most = elim (cases_lt n (length (issued t (life_in sc h site).steps))) [
    | inl less ↦ was.told t site n step.up low less
    | inr high ↦ new.answered n low (omega (arith, most, high))
  ]

  item_first : (t : Txn) (op : Op) → i ≡ input.Do t op → list_any is_delivery (taken_at h site) ≡ false
  item_first t op takes = let P : Input → Type 0 = IsDue sc h site in let next : IsNextItem sc h site (input.Do t op) = subst P takes step.due in next.no_delivery

  -- an operation is issued where none of its transaction is on its way
  none_pends : (t : Txn) (n c : ℕ) (op : Op) → Issue sc h site i m t c op → Pends sc h t n → ⊥
  none_pends t n c op new p =
      let d : SentDo h t n p.packet.to = pends_sent sc h t n p in
      let has : HasOp (issued t (life_in sc h site).steps) n p.packet.to = low_number t n p.packet.to c op new d in
      let low : 1 ≤ n = (home_of t n p.packet.to (do_on t n p.packet.to d)).low in
      let P : ℕ → Type 0 = λ s. is_up_at h s ≡ true → t.inc ≡ (life_in sc h s).inc → list_any is_delivery (taken_at h s) ≡ false → op_told t n (life_in sc h s).steps ≡ false in
      apart (op_told t n (life_in sc h site).steps) (all_told t c op new n low (nth_low n (issued t (life_in sc h site).steps) has.0 has.1))
      (subst P new.home (was.unheard t n p) step.up new.present (item_first t op new.takes))

  own_nth : (t : Txn) (n y : ℕ) → t.site ≡ site → SentDo k t n y → t.inc ≡ (life_in sc h site).inc → HasOp (issued t ((life_in sc h site).steps ++ m ∷ [])) n y
  own_nth t n y home d same =
      let Q : List Op → Type 0 = λ l. HasOp l n y in
      subst Q (sym (issued_push t (life_in sc h site).steps m)) (elim (do_cases t n y d) [
        | inl old ↦ (let P : ℕ → Type 0 = λ s. is_up_at h s ≡ true → t.inc ≡ (life_in sc h s).inc → HasOp (issued t (life_in sc h s).steps) n y in
            let has : HasOp (issued t (life_in sc h site).steps) n y = subst P home (was.nth t n y old) step.up same in
            (has.0, nth_more n (issued t (life_in sc h site).steps) (issued_in t m.input m.told) has.0 has.1, has.2))
        | inr new ↦ (
          new.0,
          ap (λ l. nth_op n (issued t (life_in sc h site).steps ++ l)) new.1.grows
              ∙ ap (λ x. nth_op x (issued t (life_in sc h site).steps ++ new.0 ∷ [])) new.1.next ∙ nth_next (issued t (life_in sc h site).steps) new.0,
          new.2,
        )
      ])

  nth_on : (t : Txn) (n y : ℕ) → SentDo k t n y → is_up_at k t.site ≡ true → t.inc ≡ (life_in sc k t.site).inc → HasOp (issued t (life_in sc k t.site).steps) n y
  nth_on t n y d up same = by (site == t.site) refl
    where
      by : (b : Bool) → (site == t.site) ≡ b → HasOp (issued t (life_in sc k t.site).steps) n y
      by false is = elim (do_cases t n y d) [
        | inl old ↦ (let P : Life → Type 0 = λ l. t.inc ≡ l.inc → HasOp (issued t l.steps) n y in
            subst P (sym (step.others t.site is)) (was.nth t n y old (sym (step.ups t.site) ∙ up)) same)
        | inr new ↦ absurd (eqb-false site t.site is (sym new.1.home))
      ]
      by true is =
          let home : site ≡ t.site = eqb-true site t.site is in
          let P : ℕ → Type 0 = λ s. t.inc ≡ (life_in sc k s).inc → HasOp (issued t (life_in sc k s).steps) n y in
          let Q : List Moment → Type 0 = λ l. HasOp (issued t l) n y in
          subst P home (λ now. subst Q (sym step.steps) (own_nth t n y (sym home) d (now ∙ step.inc))) same

  told_on : (t : Txn) (s c : ℕ) → is_up_at k s ≡ true → 1 ≤ c → c < length (issued t (life_in sc k s).steps) → op_told t c (life_in sc k s).steps ≡ true
  told_on t s c up low less = by (site == s) refl
    where
      mine : c < length (issued t ((life_in sc h site).steps ++ m ∷ [])) → op_told t c ((life_in sc h site).steps ++ m ∷ []) ≡ true
      mine few = told_push t c (life_in sc h site).steps m ∙ or_left _ _ (elim (step.issues t) [
        | inl none ↦ was.told t site c step.up low (
            let same : length (issued t ((life_in sc h site).steps ++ m ∷ [])) ≡ length (issued t (life_in sc h site).steps) =
            ap length (issued_push t (life_in sc h site).steps m ∙ ap (λ l. issued t (life_in sc h site).steps ++ l) none ∙ append-nil (issued t (life_in sc h site).steps)) in
            omega (arith, few, same))
        | inr new ↦ all_told t new.0 new.1 new.2 c low (
            let one : length (issued t ((life_in sc h site).steps ++ m ∷ [])) ≡ length (issued t (life_in sc h site).steps) + length (new.1 ∷ []) =
            ap length (issued_push t (life_in sc h site).steps m ∙ ap (λ l. issued t (life_in sc h site).steps ++ l) new.2.grows) ∙ length-append (issued t (life_in sc h site).steps) (new.1 ∷ []) in
            omega (arith, few, one))
      ])

      by : (b : Bool) → (site == s) ≡ b → op_told t c (life_in sc k s).steps ≡ true
      by false is = let P : Life → Type 0 = λ l. c < length (issued t l.steps) → op_told t c l.steps ≡ true in
          subst P (sym (step.others s is)) (was.told t s c (sym (step.ups s) ∙ up) low) less
      by true is = let P : ℕ → Type 0 = λ x. c < length (issued t (life_in sc k x).steps) → op_told t c (life_in sc k x).steps ≡ true in
          let Q : List Moment → Type 0 = λ l. c < length (issued t l) → op_told t c l ≡ true in
          subst P (eqb-true site s is) (subst Q (sym step.steps) mine) less

  lift_heard : (t : Txn) (c s : ℕ) (ops : List Op) → WasHeard h t c s ops → WasHeard k t c s ops
  lift_heard t c s ops w = (
    w.0,
    w.1,
    elim w.2 [
      | inl own ↦ inl own
      | inr done ↦ inr (done_on t c (key_of w.0).site done)
    ],
  )

  heard_on : (t : Txn) (c s : ℕ) → is_up_at k s ≡ true → op_told t c (life_in sc k s).steps ≡ true → WasHeard k t c s (issued t (life_in sc k s).steps)
  heard_on t c s up told = by (site == s) refl
    where
      mine : op_told t c ((life_in sc h site).steps ++ m ∷ []) ≡ true → WasHeard k t c site (issued t ((life_in sc h site).steps ++ m ∷ []))
      mine some = elim (or_cases (op_told t c (life_in sc h site).steps) (list_any (tells_op t c) m.told) (sym (told_push t c (life_in sc h site).steps m) ∙ some)) [
        | inl old ↦ (let w : WasHeard k t c site (issued t (life_in sc h site).steps) = lift_heard t c site (issued t (life_in sc h site).steps) (was.heard t c site step.up old) in
            let Q : List Op → Type 0 = λ l. WasHeard k t c site l in
            subst Q (sym (issued_push t (life_in sc h site).steps m)) (w.0, nth_more c (issued t (life_in sc h site).steps) (issued_in t m.input m.told) w.0 w.1, w.2))
        | inr new ↦ (let this : Telling sc h site i m t c = step.tells t c new in (
          this.op,
          this.nth,
          elim this.heard [
            | inl own ↦ inl own
            | inr far ↦ inr (done_on t c (key_of this.op).site far.1)
          ],
        ))
      ]

      by : (b : Bool) → (site == s) ≡ b → WasHeard k t c s (issued t (life_in sc k s).steps)
      by false is = let P : Life → Type 0 = λ l. op_told t c l.steps ≡ true → WasHeard k t c s (issued t l.steps) in
          subst P (sym (step.others s is)) (λ some. lift_heard t c s (issued t (life_in sc h s).steps) (was.heard t c s (sym (step.ups s) ∙ up) some)) told
      by true is = let P : ℕ → Type 0 = λ x. op_told t c (life_in sc k x).steps ≡ true → WasHeard k t c x (issued t (life_in sc k x).steps) in
          let Q : List Moment → Type 0 = λ l. op_told t c l ≡ true → WasHeard k t c site (issued t l) in
          subst P (eqb-true site s is) (subst Q (sym step.steps) mine) told

  -- an operation that the step delivers was on its way
  pub now_pends : (t : Txn) (n : ℕ) → is_do t n m.input ≡ true → (p : Pends sc h t n) × (p.packet.to ≡ site)
  now_pends t n now =
      let this : _ = step.takes t n now in
      let P : Input → Type 0 = IsDue sc h site in
      let due : IsDelivery sc h site this.0 = subst P this.2 step.due in
      (record { packet = this.0; has = due.is_pending; op = this.1; says = this.3 }, due.to)

  came_here : (t : Txn) (n : ℕ) → (was_delivered t n (life_in sc h site).steps || is_do t n m.input) ≡ true → SentDo k t n site
  came_here t n some = elim (or_cases (was_delivered t n (life_in sc h site).steps) (is_do t n m.input) some) [
    | inl old ↦ do_on t n site (was.took t n site step.up old)
    | inr now ↦ (let p : _ = now_pends t n now in let P : ℕ → Type 0 = SentDo k t n in subst P p.1 (do_on t n p.0.packet.to (pends_sent sc h t n p.0)))
  ]

  took_on : (t : Txn) (n y : ℕ) → is_up_at k y ≡ true → was_delivered t n (life_in sc k y).steps ≡ true → SentDo k t n y
  took_on t n y up came = by (site == y) refl
    where
      by : (b : Bool) → (site == y) ≡ b → SentDo k t n y
      by false is = let P : Life → Type 0 = λ l. was_delivered t n l.steps ≡ true → SentDo k t n y in
          subst P (sym (step.others y is)) (λ some. do_on t n y (was.took t n y (sym (step.ups y) ∙ up) some)) came
      by true is = let P : ℕ → Type 0 = λ x. was_delivered t n (life_in sc k x).steps ≡ true → SentDo k t n x in
          let Q : List Moment → Type 0 = λ l. was_delivered t n l ≡ true → SentDo k t n site in
          subst P (eqb-true site y is) (subst Q (sym step.steps) (λ some. came_here t n (sym (delivered_push t n (life_in sc h site).steps m) ∙ some))) came

  asked_on : (t : Txn) (n y : ℕ) → SentDone k t n y → SentDo k t n y
  asked_on t n y d = elim (step.sends d.packet d.has) [
    | inl old ↦ do_on t n y (was.asked t n y (record { packet = d.packet; has = old; answer = d.answer; own = d.own }))
    | inr new ↦ (let P : ℕ → Type 0 = SentDo k t n in subst P (sym new.own ∙ d.own) (came_here t n (new.answers t n d.answer)))
  ]

  answered_on : (q : Asked) (y : ℕ) → HasAnswered sc h y q → HasAnswered sc k y q
  answered_on q y answered up = by (site == y) refl
    where
      by : (b : Bool) → (site == y) ≡ b → is_answered (life_in sc k y).steps q ≡ true
      by false is = let P : Life → Type 0 = λ l. is_answered l.steps q ≡ true in subst P (sym (step.others y is)) (answered (sym (step.ups y) ∙ up))
      by true is = let P : ℕ → Type 0 = λ x. HasAnswered sc h x q → is_answered (life_in sc k x).steps q ≡ true in
          let Q : List Moment → Type 0 = λ l. is_answered l q ≡ true in
          subst P (eqb-true site y is) (λ before. subst Q (sym step.steps) (answered_more (life_in sc h site).steps m q (before step.up))) answered

  gone_on : (q : Asked) (y : ℕ) → SentDone h q.txn q.n y → IsGone sc h y q → IsGone sc k y q
  gone_on q y d gone = (
    (λ up. by (site == y) refl up),
    (λ p. elim (pend_cases q.txn q.n p) [
      | inl old ↦ gone.1 old
      | inr new ↦ (let has : HasOp (issued q.txn (life_in sc h site).steps) q.n y = low_number q.txn q.n y q.n new.0 new.1 (was.asked q.txn q.n y d) in
          let low : q.n ≤ length (issued q.txn (life_in sc h site).steps) = nth_low q.n (issued q.txn (life_in sc h site).steps) has.0 has.1 in
          let next : q.n ≡ suc (length (issued q.txn (life_in sc h site).steps)) = new.1.next in omega (arith, low, next))
    ]),
  )
    where
      by : (b : Bool) → (site == y) ≡ b → is_up_at k y ≡ true → was_delivered q.txn q.n (life_in sc k y).steps ≡ false
      by false is up = let P : Life → Type 0 = λ l. was_delivered q.txn q.n l.steps ≡ false in subst P (sym (step.others y is)) (gone.0 (sym (step.ups y) ∙ up))
      by true is up = let P : ℕ → Type 0 = λ x. (is_up_at h x ≡ true → was_delivered q.txn q.n (life_in sc h x).steps ≡ false) → was_delivered q.txn q.n (life_in sc k x).steps ≡ false in
          let Q : List Moment → Type 0 = λ l. was_delivered q.txn q.n l ≡ false in
          subst P (eqb-true site y is) (λ before. subst Q (sym step.steps) (delivered_push q.txn q.n (life_in sc h site).steps m
          ∙ or_from (was_delivered q.txn q.n (life_in sc h site).steps) (is_do q.txn q.n m.input) (before step.up)
          (false_from_ne_true (is_do q.txn q.n m.input) (λ now. gone.1 (now_pends q.txn q.n now).0)))) gone.0

  done_cases : (q : Asked) (y : ℕ) → SentDone k q.txn q.n y → HasAnswered sc k y q ⊎ IsGone sc k y q
  done_cases q y d = elim (step.sends d.packet d.has) [
    | inl old ↦ (let before : SentDone h q.txn q.n y = record { packet = d.packet; has = old; answer = d.answer; own = d.own } in elim (was.done q y before) [
      | inl answered ↦ inl (answered_on q y answered)
      | inr gone ↦ inr (gone_on q y before gone)
    ])
    | inr new ↦ inl (λ up. let P : ℕ → Type 0 = λ x. is_answered (life_in sc k x).steps q ≡ true in
        let Q : List Moment → Type 0 = λ l. is_answered l q ≡ true in
        subst P (sym new.own ∙ d.own) (subst Q (sym step.steps) (new.shows q d.answer)))
  ]

  last_on : (t : Txn) (n c y : ℕ) → Pends sc k t n → SentDo k t c y → c ≤ n
  last_on t n c y p d = elim (pend_cases t n p) [
    | inl old ↦ elim (do_cases t c y d) [
      | inl older ↦ was.last t n c y old older
      | inr new ↦ absurd (none_pends t n c new.0 new.1 old)
    ]
    | inr new ↦ elim (do_cases t c y d) [
      | inl older ↦ (let has : HasOp (issued t (life_in sc h site).steps) c y = low_number t c y n new.0 new.1 older in
          let low : c ≤ length (issued t (life_in sc h site).steps) = nth_low c (issued t (life_in sc h site).steps) has.0 has.1 in
          let next : n ≡ suc (length (issued t (life_in sc h site).steps)) = new.1.next in omega (arith, low, next))
      | inr other ↦ (let next : n ≡ suc (length (issued t (life_in sc h site).steps)) = new.1.next in
          let same : c ≡ suc (length (issued t (life_in sc h site).steps)) = other.1.next in omega (arith, next, same))
    ]
  ]

  -- what the step tells is no answer to an operation that is on its way
  tells_none : (t : Txn) (n : ℕ) → Pends sc k t n → t.site ≡ site → t.inc ≡ (life_in sc h site).inc → is_delivery i ≡ false → list_any (tells_op t n) m.told ≡ false
  tells_none t n p home now item = false_from_ne_true (list_any (tells_op t n) m.told) (λ told. clash (step.tells t n told))
    where
      clash : Telling sc h site i m t n → ⊥
      clash this = elim this.heard [
        | inl own ↦ (let d : SentDo k t n p.packet.to = pends_sent sc k t n p in
            let has : HasOp (issued t ((life_in sc h site).steps ++ m ∷ [])) n p.packet.to = own_nth t n p.packet.to home d now in
            let same : has.0 ≡ this.op = same_Some has.0 this.op (sym has.1 ∙ this.nth) in
            eqb-false t.site p.packet.to (from_home sc k p.packet t n p.op step.goes (pending_sent sc k p.packet p.has) p.says).other (home ∙ sym own ∙ ap (λ o. (key_of o).site) (sym same) ∙ has.2))
        | inr far ↦ apart (is_delivery i) far.0 item
      ]

  unheard_on : (t : Txn) (n : ℕ) → Pends sc k t n → is_up_at k t.site ≡ true → t.inc ≡ (life_in sc k t.site).inc →
      list_any is_delivery (taken_at k t.site) ≡ false → op_told t n (life_in sc k t.site).steps ≡ false
  unheard_on t n p up same none = by (site == t.site) refl
    where
      before : t.site ≡ site → t.inc ≡ (life_in sc h site).inc → list_any is_delivery (taken_at h site) ≡ false → op_told t n (life_in sc h site).steps ≡ false
      before home now free = elim (pend_cases t n p) [
        | inl old ↦ (let P : ℕ → Type 0 = λ s. is_up_at h s ≡ true → t.inc ≡ (life_in sc h s).inc → list_any is_delivery (taken_at h s) ≡ false → op_told t n (life_in sc h s).steps ≡ false in
            subst P home (was.unheard t n old) step.up now free)
        | inr new ↦ false_from_ne_true (op_told t n (life_in sc h site).steps) (λ told.
            let w : WasHeard h t n site (issued t (life_in sc h site).steps) = was.heard t n site step.up told in
            let low : n ≤ length (issued t (life_in sc h site).steps) = nth_low n (issued t (life_in sc h site).steps) w.0 w.1 in
            let next : n ≡ suc (length (issued t (life_in sc h site).steps)) = new.1.next in omega (arith, low, next))
      ]

      mine : t.site ≡ site → t.inc ≡ (life_in sc h site).inc → list_any is_delivery (taken_at k site) ≡ false → op_told t n ((life_in sc h site).steps ++ m ∷ []) ≡ false
      mine home now free =
          let parts : _ = or_parts (list_any is_delivery (taken_at h site)) (is_delivery i)
          (sym (ap (list_any is_delivery) step.taken ∙ list_any-append is_delivery (taken_at h site) (i ∷ []) ∙ ap (λ b. list_any is_delivery (taken_at h site) || b) (or_false (is_delivery i))) ∙ free) in
          told_push t n (life_in sc h site).steps m
          ∙ or_from (op_told t n (life_in sc h site).steps) (list_any (tells_op t n) m.told) (before home now parts.0) (tells_none t n p home now parts.1)

      by : (b : Bool) → (site == t.site) ≡ b → op_told t n (life_in sc k t.site).steps ≡ false
      by false is = elim (pend_cases t n p) [
        | inl old ↦ (let P : Life → Type 0 = λ l. t.inc ≡ l.inc → op_told t n l.steps ≡ false in
            subst P (sym (step.others t.site is)) (λ now. was.unheard t n old (sym (step.ups t.site) ∙ up) now (ap (list_any is_delivery) (sym (step.taken_others t.site is)) ∙ none)) same)
        | inr new ↦ absurd (eqb-false site t.site is (sym new.1.home))
      ]
      by true is =
          let home : site ≡ t.site = eqb-true site t.site is in
          let P : ℕ → Type 0 = λ s. t.inc ≡ (life_in sc k s).inc → list_any is_delivery (taken_at k s) ≡ false → op_told t n (life_in sc k s).steps ≡ false in
          let Q : List Moment → Type 0 = λ l. op_told t n l ≡ false in
          subst P home (λ now free. subst Q (sym step.steps) (mine (sym home) (now ∙ step.inc) free)) same none

  -- all operations before one that is issued were answered
  settled : (t : Txn) (n c z : ℕ) (op : Op) → Issue sc h site i m t n op → SentDo h t c z → SentDone k t c z
  settled t n c z op new d =
      let has : HasOp (issued t (life_in sc h site).steps) c z = low_number t c z n op new d in
      let home : FromHome d.packet t c = from_home sc k d.packet t c d.op step.goes (step.keeps d.packet d.has) d.says in
      let low : 1 ≤ c = home.low in
      let w : WasHeard h t c site (issued t (life_in sc h site).steps) = was.heard t c site step.up (all_told t n op new c low (nth_low c (issued t (life_in sc h site).steps) has.0 has.1)) in
      let same : has.0 ≡ w.0 = same_Some has.0 w.0 (sym has.1 ∙ w.1) in
      let there : (key_of w.0).site ≡ z = ap (λ o. (key_of o).site) (sym same) ∙ has.2 in
      elim w.2 [
        | inl own ↦ absurd (eqb-false t.site d.packet.to home.other (new.home ∙ sym own ∙ there ∙ sym d.there))
        | inr done ↦ (let P : ℕ → Type 0 = SentDone k t c in subst P there (done_on t c (key_of w.0).site done))
      ]

  before_on : (t : Txn) (n c y z : ℕ) → SentDo k t n y → SentDo k t c z → c < n → SentDone k t c z
  before_on t n c y z first second less = elim (do_cases t n y first) [
    | inl old ↦ elim (do_cases t c z second) [
      | inl older ↦ done_on t c z (was.before t n c y z old older less)
      | inr new ↦ absurd (let has : HasOp (issued t (life_in sc h site).steps) n y = low_number t n y c new.0 new.1 old in
          let low : n ≤ length (issued t (life_in sc h site).steps) = nth_low n (issued t (life_in sc h site).steps) has.0 has.1 in
          let next : c ≡ suc (length (issued t (life_in sc h site).steps)) = new.1.next in omega (arith, low, next, less))
    ]
    | inr new ↦ elim (do_cases t c z second) [
      | inl older ↦ settled t n c z new.0 new.1 older
      | inr other ↦ absurd (let next : n ≡ suc (length (issued t (life_in sc h site).steps)) = new.1.next in
          let same : c ≡ suc (length (issued t (life_in sc h site).steps)) = other.1.next in omega (arith, next, same, less))
    ]
  ]

  rest_on : AsksNone (present_items sc k) → recover_group (present_items sc k) ≡ None → pending sc k ≡ []
  rest_on asks recovers =
      let P : List Item → Type 0 = AsksNone in
      let before : AsksNone (present_items sc h) = subst P step.items asks in
      let none : recover_group (present_items sc h) ≡ None = ap recover_group (sym step.items) ∙ recovers in
      absurd (not_due sc h site i (none_at sc h site before) none (was.rest before none) step.due)

  known_on : (t : Txn) (n y : ℕ) → SentDo k t n y → IsKnown (bound_in sc k) t
  known_on t n y d = elim (do_cases t n y d) [
    | inl old ↦ step.bound t (was.known t n y old)
    | inr new ↦ step.bound t (step.knows t new.0 new.1.takes)
  ]

  high_on : (t : Txn) (n y : ℕ) → SentDo k t n y → n ≤ 64
  high_on t n y d = elim (do_cases t n y d) [
    | inl old ↦ was.high t n y old
    | inr new ↦ (let few : length (issued t (life_in sc h site).steps) < 64 = step.few t new.0 new.1.takes in
        let next : n ≡ suc (length (issued t (life_in sc h site).steps)) = new.1.next in omega (arith, few, next))
  ]

  pub stepped_talks : Talks sc k
  stepped_talks = record {
    known = known_on;
    nth = nth_on;
    told = told_on;
    heard = heard_on;
    took = took_on;
    asked = asked_on;
    done = done_cases;
    last = last_on;
    unheard = unheard_on;
    before = before_on;
    high = high_on;
    rest = rest_on;
  }
