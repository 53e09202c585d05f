-- The operations of a transaction come to a site in the order of their numbers, and all but the last were answered.
use Rattle.std.proofs.Common.{◌≡◌, ◌==◌, ◌+◌, ◌++◌, ◌∷◌, [], ℕ, zero, suc, ◌≤◌, ◌<◌, Bool, true, false, not, List, Option, Some, None, refl, sym, subst, ap, ◌∙◌, inl, inr, ◌⊎◌, arith, append-nil, append_assoc, length, eqb-true, eq-eqb, if◌then◌else◌}
use Rattle.std.specs.List.{list_any, AllByRecursion as Each}
use Rattle.std.proofs.lemmas.Bool.{eqb-false, and_parts, and_from, or_parts, cases_lt, not-true}
use Rattle.std.proofs.lemmas.Grind.{fold-append}
use Rattle.std.proofs.lemmas.List.{length-append}
use Rattle.e3_types.specs.declared.entries.Act.{Act}
use Rattle.e3_types.specs.declared.entries.Act.TheVariants.{Step, Fall, Rise, RiseFall, Miss, Cut, Drop, Parts, Line}
use Rattle.e3_types.specs.declared.entries.Entry.{Entry}
use Rattle.e3_types.specs.declared.entries.Input.{Input}
use Rattle.e3_types.specs.declared.entries.Input.TheVariants as input
use Rattle.e3_types.specs.declared.entries.Told.{Told}
use Rattle.e3_types.specs.declared.messages.Message.{Message}
use Rattle.e3_types.specs.declared.messages.Message.TheVariants as msg
use Rattle.e3_types.specs.declared.messages.Packet.{Packet}
use Rattle.e3_types.specs.declared.scenarios.Scenario.{Scenario}
use Rattle.e3_types.specs.declared.transactions.Op.{Op}
use Rattle.e3_types.specs.declared.transactions.State.TheVariants.{Q}
use Rattle.e3_types.specs.declared.transactions.Txn.{Txn}
use Rattle.e3_types.specs.Same.{same_txn, same_state}
use Rattle.e3_world.specs.declared.lives.Asked.{Asked}
use Rattle.e3_world.specs.declared.lives.Life.{Life}
use Rattle.e3_world.specs.declared.lives.Moment.{Moment}
use Rattle.e3_world.specs.Given.{IsGiven}
use Rattle.e3_world.specs.Items.{is_up_at}
use Rattle.e3_world.specs.Legal.{Guard, IsLegal, LegalAfter, IsDue, entry_of}
use Rattle.e3_world.specs.Logs.{key_of, state_of}
use Rattle.e3_world.specs.Moves.{Past, own_entries, past_of}
use Rattle.e3_world.specs.Operations.{issued, issued_in, taken_up, arrived_by, and_arrived, is_fresh, same_asked, arrivals}
use Rattle.e3_world.proofs.InTrail.{pending_sent}
use Rattle.e3_laws.proofs.steps.Each.{each-push, each-weaker, IfAny, each-both}
use Rattle.e3_laws.proofs.steps.Sound.Clocks.{AdvanceAt, moments_of, guard_advance}
use Rattle.e3_laws.proofs.steps.Operations.Freshness.{life_in, still_more}
use Rattle.e3_laws.proofs.steps.Operations.Issuing.{issued_push}
use Rattle.e3_laws.proofs.steps.Operations.Lasting.{Lasts, first_lasts, guard_lasts}
use Rattle.e3_laws.proofs.steps.Operations.Speaking.{moment_of, step_facts}
use Rattle.e3_laws.proofs.steps.Operations.Stepping.{Issue, Stepping, now_pends}
use Rattle.e3_laws.proofs.steps.Operations.Talks.{SentDo, Pends, FromHome, from_home, pends_sent}
use Rattle.e3_laws.proofs.steps.Operations.Tracing.{is_do, CameIn, arrivals_came, fold_steps}
use Rattle.e3_laws.proofs.steps.Tests.{same_is, same_self}

-- of one transaction the earlier has the lower number
abbrev pub InOrder : List Asked → Type 0
InOrder [] = Unit {0}
InOrder (q ∷ qs) = Each (λ r. same_txn q.txn r.txn ≡ true → q.n < r.n) qs × InOrder qs

order_push : (qs : List Asked) (a : Asked) → InOrder qs → Each (λ q. same_txn q.txn a.txn ≡ true → q.n < a.n) qs → InOrder (qs ++ a ∷ [])
order_push [] a order this = (tt, tt)
order_push (q ∷ qs) a order this = (each-push (λ r. same_txn q.txn r.txn ≡ true → q.n < r.n) qs a order.0 this.0, order_push qs a order.1 this.1)

-- what came to a site in its present incarnation
pub record Ordered (site : ℕ) (steps : List Moment) : Type 0 where
  pub numbered : Each (λ q. (1 ≤ q.n) × (q.n ≤ 64)) (arrivals site steps)
  pub issued : Each (λ q. q.txn.site ≡ site → q.n ≤ length (issued q.txn steps)) (arrivals site steps)
  pub ascends : InOrder (arrivals site steps)

-- what holds of an operation that the step takes up
pub record TakenWell (site : ℕ) (steps : List Moment) (m : Moment) (a : Asked) : Type 0 where
  pub numbered : (1 ≤ a.n) × (a.n ≤ 64)
  pub issued : a.txn.site ≡ site → a.n ≤ length (issued a.txn (steps ++ m ∷ []))
  pub most : Each (λ q. same_txn q.txn a.txn ≡ true → q.n ≤ a.n) (arrivals site steps)

arrivals_push : (site : ℕ) (steps : List Moment) (m : Moment) → arrivals site (steps ++ m ∷ []) ≡ and_arrived (arrivals site steps) m (taken_up site steps m)
arrivals_push site steps m =
    ap (λ w. w.asked) (fold-append (arrived_by site) (record { steps = []; asked = [] }) steps (m ∷ []))
    ∙ ap (λ l. and_arrived (arrivals site steps) m (taken_up site l m)) (fold_steps site (record { steps = []; asked = [] }) steps)

issued_more : (t : Txn) (steps : List Moment) (m : Moment) → length (issued t steps) ≤ length (issued t (steps ++ m ∷ []))
issued_more t steps m =
    let both : length (issued t (steps ++ m ∷ [])) ≡ length (issued t steps) + length (issued_in t m.input m.told) =
    ap length (issued_push t steps m) ∙ length-append (issued t steps) (issued_in t m.input m.told) in omega (arith, both)

none_any : (p : Asked → Bool) (qs : List Asked) → list_any p qs ≡ false → Each (λ q. p q ≡ false) qs
none_any p [] none = tt
none_any p (q ∷ qs) none = let parts : _ = or_parts (p q) (list_any p qs) none in (parts.0, none_any p qs parts.1)

-- an operation that is new has a higher number
above : (a q : Asked) → same_asked a q ≡ false → (same_txn q.txn a.txn ≡ true → q.n ≤ a.n) → same_txn q.txn a.txn ≡ true → q.n < a.n
above a q new most same = elim (cases_lt q.n a.n) [
  | inl less ↦ less
  | inr high ↦ absurd (let low : q.n ≤ a.n = most same in
      let equal : a.n ≡ q.n = omega (arith, low, high) in
      let alike : same_txn a.txn q.txn ≡ true = (let P : Txn → Type 0 = λ t. same_txn t q.txn ≡ true in subst P (same_is q.txn a.txn same) (same_self q.txn)) in
      let both : same_asked a q ≡ true = and_from (a.n == q.n) (same_txn a.txn q.txn) (eq-eqb a.n q.n equal) alike in
      let clash : true ≡ false = sym both ∙ new in cc)
]

arrived_well : (site : ℕ) (steps : List Moment) (m : Moment) (o : Option Asked) → Ordered site steps → IfAny (TakenWell site steps m) o →
    Each (λ q. (1 ≤ q.n) × (q.n ≤ 64)) (and_arrived (arrivals site steps) m o)
    × Each (λ q. q.txn.site ≡ site → q.n ≤ length (issued q.txn (steps ++ m ∷ []))) (and_arrived (arrivals site steps) m o)
    × InOrder (and_arrived (arrivals site steps) m o)
arrived_well site steps m o was this = by o this
  where
    later : Each (λ q. q.txn.site ≡ site → q.n ≤ length (issued q.txn (steps ++ m ∷ []))) (arrivals site steps)
    later = each-weaker (λ q. q.txn.site ≡ site → q.n ≤ length (issued q.txn steps)) (λ q. q.txn.site ≡ site → q.n ≤ length (issued q.txn (steps ++ m ∷ [])))
        (λ q few home. let low : q.n ≤ length (issued q.txn steps) = few home in let more : _ = issued_more q.txn steps m in omega (arith, low, more)) (arrivals site steps) was.issued

    fresh : (a : Asked) (b : Bool) → is_fresh (arrivals site steps) m a ≡ b → TakenWell site steps m a →
        Each (λ q. (1 ≤ q.n) × (q.n ≤ 64)) (if b then arrivals site steps ++ a ∷ [] else arrivals site steps)
        × Each (λ q. q.txn.site ≡ site → q.n ≤ length (issued q.txn (steps ++ m ∷ []))) (if b then arrivals site steps ++ a ∷ [] else arrivals site steps)
        × InOrder (if b then arrivals site steps ++ a ∷ [] else arrivals site steps)
    fresh a false is well = (was.numbered, later, was.ascends)
    fresh a true is well =
        let parts : _ = and_parts (same_state (state_of a.txn m.before) Q) (not (list_any (same_asked a) (arrivals site steps))) is in
        let new : Each (λ q. same_asked a q ≡ false) (arrivals site steps) = none_any (same_asked a) (arrivals site steps) (not-true (list_any (same_asked a) (arrivals site steps)) parts.1) in (
          each-push (λ q. (1 ≤ q.n) × (q.n ≤ 64)) (arrivals site steps) a was.numbered well.numbered,
          each-push (λ q. q.txn.site ≡ site → q.n ≤ length (issued q.txn (steps ++ m ∷ []))) (arrivals site steps) a later well.issued,
          order_push (arrivals site steps) a was.ascends
              (each-weaker (λ q. (same_asked a q ≡ false) × (same_txn q.txn a.txn ≡ true → q.n ≤ a.n)) (λ q. same_txn q.txn a.txn ≡ true → q.n < a.n) (λ q is same. above a q is.0 is.1 same) (arrivals site steps)
              (each-both (λ q. same_asked a q ≡ false) (λ q. same_txn q.txn a.txn ≡ true → q.n ≤ a.n) (arrivals site steps) new well.most)),
        )

    by : (o : Option Asked) → IfAny (TakenWell site steps m) o →
        Each (λ q. (1 ≤ q.n) × (q.n ≤ 64)) (and_arrived (arrivals site steps) m o)
        × Each (λ q. q.txn.site ≡ site → q.n ≤ length (issued q.txn (steps ++ m ∷ []))) (and_arrived (arrivals site steps) m o)
        × InOrder (and_arrived (arrivals site steps) m o)
    by None this = (was.numbered, later, was.ascends)
    by (Some a) well = fresh a (is_fresh (arrivals site steps) m a) refl well

-- one more step
ordered_push : (site : ℕ) (steps : List Moment) (m : Moment) → Ordered site steps → IfAny (TakenWell site steps m) (taken_up site steps m) → Ordered site (steps ++ m ∷ [])
ordered_push site steps m was this =
    let all : _ = arrived_well site steps m (taken_up site steps m) was this in
    let P : List Asked → Type 0 = Each (λ q. (1 ≤ q.n) × (q.n ≤ 64)) in
    let R : List Asked → Type 0 = Each (λ q. q.txn.site ≡ site → q.n ≤ length (issued q.txn (steps ++ m ∷ []))) in
    record {
      numbered = subst P (sym (arrivals_push site steps m)) all.0;
      issued = subst R (sym (arrivals_push site steps m)) all.1;
      ascends = subst InOrder (sym (arrivals_push site steps m)) all.2;
    }

-- what a step takes up is delivered, or issued by it
abbrev pub TakenNow : ℕ → List Moment → Input → List Told → Asked → Type 0
TakenNow site steps i events a = (is_do a.txn a.n i ≡ true)
    ⊎ ((o : Op) × (os : List Op) × (issued_in a.txn i events ≡ o ∷ os) × (a.n ≡ suc (length (issued a.txn steps))))

took_up : (site : ℕ) (steps : List Moment) (m : Moment) → IfAny (TakenNow site steps m.input m.told) (taken_up site steps m)
took_up site steps m = by m.input refl
  where
    said : (x : Message) (p : Packet) → m.input ≡ input.Deliver p → p.msg ≡ x → IfAny (TakenNow site steps m.input m.told) (taken_up site steps m)
    said (msg.Do t n op) p is same = rw (is, same) (inl (and_from (n == n) (same_txn t t) (eq-eqb n n refl) (same_self t)))
    said x p is same = rw (is, same) tt

    issues : (t : Txn) (op : Op) (l : List Op) → m.input ≡ input.Do t op → issued_in t (input.Do t op) m.told ≡ l → IfAny (TakenNow site steps m.input m.told) (taken_up site steps m)
    issues t op [] is some = rw (is, some) tt
    issues t op (o ∷ os) is some = rw (is, some) (here ((key_of op).site == site) refl)
      where
        here : (b : Bool) → ((key_of op).site == site) ≡ b → IfAny (TakenNow site steps (input.Do t op) m.told)
            (if (key_of op).site == site then Some (record { txn = t; n = suc (length (issued t steps)); op = op }) else None)
        here true at = rw at (inr (o, os, some, refl))
        here false at = rw at tt

    by : (i : Input) → m.input ≡ i → IfAny (TakenNow site steps m.input m.told) (taken_up site steps m)
    by (input.Deliver p) is = said p.msg p is refl
    by (input.Do t op) is = issues t op (issued_in t (input.Do t op) m.told) is refl
    by i is = rw is tt

module _ (sc : Scenario) (h k : List Entry) (site : ℕ) (i : Input) (m : Moment) (step : Stepping sc h k site i m) (lasts : Lasts sc h) (was : Ordered site (life_in sc h site).steps) where
  came : Each (CameIn site (life_in sc h site).steps) (arrivals site (life_in sc h site).steps)
  came = arrivals_came sc.weights site (life_in sc h site).steps (lasts.holds.now.sites site).life.steps

  -- an operation that is delivered
  delivered_well : (a : Asked) → is_do a.txn a.n m.input ≡ true → TakenWell site (life_in sc h site).steps m a
  delivered_well a now = record {
    numbered = (home.low, lasts.talks.high a.txn a.n pend.0.packet.to (pends_sent sc h a.txn a.n pend.0));
    issued = λ own. absurd (eqb-false a.txn.site pend.0.packet.to home.other (own ∙ sym pend.1));
    most = each-weaker (CameIn site (life_in sc h site).steps) (λ q. same_txn q.txn a.txn ≡ true → q.n ≤ a.n) (λ q came same. low q came same) (arrivals site (life_in sc h site).steps) came;
  }
    where
      pend : (p : Pends sc h a.txn a.n) × (p.packet.to ≡ site)
      pend = now_pends sc h k site i m step lasts.talks a.txn a.n now

      home : FromHome pend.0.packet a.txn a.n
      home = from_home sc k pend.0.packet a.txn a.n pend.0.op step.goes (step.keeps pend.0.packet (pending_sent sc h pend.0.packet pend.0.has)) pend.0.says

      low : (q : Asked) → CameIn site (life_in sc h site).steps q → same_txn q.txn a.txn ≡ true → q.n ≤ a.n
      low q (inl own) same = absurd (eqb-false a.txn.site pend.0.packet.to home.other (ap (λ t. t.site) (sym (same_is q.txn a.txn same)) ∙ own ∙ sym pend.1))
      low q (inr before) same = let P : Txn → Type 0 = λ t. SentDo h t q.n site in
          lasts.talks.last a.txn a.n q.n site pend.0 (subst P (same_is q.txn a.txn same) (lasts.talks.took q.txn q.n site step.up before))

  -- an operation on a key of its coordinator
  issued_well : (a : Asked) (n : ℕ) (op : Op) → Issue sc h site i m a.txn n op → a.n ≡ suc (length (issued a.txn (life_in sc h site).steps)) → TakenWell site (life_in sc h site).steps m a
  issued_well a n op new next = record {
    numbered = (omega (arith, next), (let few : length (issued a.txn (life_in sc h site).steps) < 64 = step.few a.txn op new.takes in omega (arith, next, few)));
    issued = λ own. (let one : length (issued a.txn ((life_in sc h site).steps ++ m ∷ [])) ≡ length (issued a.txn (life_in sc h site).steps) + length (op ∷ []) =
        ap length (issued_push a.txn (life_in sc h site).steps m ∙ ap (λ l. issued a.txn (life_in sc h site).steps ++ l) new.grows) ∙ length-append (issued a.txn (life_in sc h site).steps) (op ∷ []) in
        omega (arith, next, one));
    most = each-weaker (λ q. q.txn.site ≡ site → q.n ≤ length (issued q.txn (life_in sc h site).steps)) (λ q. same_txn q.txn a.txn ≡ true → q.n ≤ a.n)
        (λ q few same. (let is : q.txn ≡ a.txn = same_is q.txn a.txn same in
        let low : q.n ≤ length (issued q.txn (life_in sc h site).steps) = few (ap (λ t. t.site) is ∙ new.home) in
        let equal : _ = ap (λ t. length (issued t (life_in sc h site).steps)) is in omega (arith, low, equal, next)))
        (arrivals site (life_in sc h site).steps) was.issued;
  }

  taken_well : (o : Option Asked) → IfAny (TakenNow site (life_in sc h site).steps m.input m.told) o → IfAny (TakenWell site (life_in sc h site).steps m) o
  taken_well None this = tt
  taken_well (Some a) (inl now) = delivered_well a now
  taken_well (Some a) (inr issue) = elim (step.issues a.txn) [
    | inl none ↦ absurd (let both : [] ≡ issue.0 ∷ issue.1 = sym none ∙ issue.2 in cc)
    | inr new ↦ issued_well a new.0 new.1 new.2 issue.3
  ]

  stepped_order : Ordered site ((life_in sc h site).steps ++ m ∷ [])
  stepped_order = ordered_push site (life_in sc h site).steps m was
      (taken_well (taken_up site (life_in sc h site).steps m) (took_up site (life_in sc h site).steps m))

-- in a history
abbrev pub AllOrdered : Scenario → List Entry → Type 0
AllOrdered sc h = (s : ℕ) → is_up_at h s ≡ true → Ordered s (life_in sc h s).steps

none_ordered : (site : ℕ) → Ordered site []
none_ordered site = record { numbered = tt; issued = tt; ascends = tt }

quiet_ordered : (sc : Scenario) (h : List Entry) (e : Entry) → AllOrdered sc h → ((s : ℕ) → AdvanceAt sc h e s) → ((w : Past) → moments_of w e.act ≡ []) → AllOrdered sc (h ++ e ∷ [])
quiet_ordered sc h e was adv still s up = elim ((adv s).advances.lives up) [
  | inl on ↦ (let P : List Moment → Type 0 = Ordered s in
      subst P (sym (on.2 ∙ ap (λ l. (life_in sc h s).steps ++ l) (still_more (e.owner == s) (moments_of (past_of sc s (own_entries s h)) e.act) (still (past_of sc s (own_entries s h)))) ∙ append-nil (life_in sc h s).steps)) (was s on.0))
  | inr new ↦ (let P : List Moment → Type 0 = Ordered s in subst P (sym new.1) (none_ordered s))
]

step_ordered : (sc : Scenario) (h : List Entry) (site : ℕ) (i : Input) → IsGiven sc → Lasts sc h → is_up_at h site ≡ true → IsDue sc h site i → AllOrdered sc h → AllOrdered sc (h ++ entry_of sc h site i ∷ [])
step_ordered sc h site i given lasts up due was s now = by (site == s) refl
  where
    step : Stepping sc h (h ++ entry_of sc h site i ∷ []) site i (moment_of sc h site i)
    step = step_facts sc h site i given lasts.holds lasts.fresh up due

    by : (b : Bool) → (site == s) ≡ b → Ordered s (life_in sc (h ++ entry_of sc h site i ∷ []) s).steps
    by true is = let P : ℕ → Type 0 = λ x. Ordered x (life_in sc (h ++ entry_of sc h site i ∷ []) x).steps in
        let R : List Moment → Type 0 = Ordered site in
        subst P (eqb-true site s is) (subst R (sym step.steps) (stepped_order sc h (h ++ entry_of sc h site i ∷ []) site i (moment_of sc h site i) step lasts (was site up)))
    by false is = let P : Life → Type 0 = λ l. Ordered s l.steps in subst P (sym (step.others s is)) (was s (sym (step.ups s) ∙ now))

guard_ordered : (sc : Scenario) (h : List Entry) (owner : ℕ) (act : Act) → IsGiven sc → Lasts sc h → Guard sc h (record { owner = owner; act = act }) →
    ((s : ℕ) → AdvanceAt sc h (record { owner = owner; act = act }) s) → AllOrdered sc h → AllOrdered sc (h ++ record { owner = owner; act = act } ∷ [])
guard_ordered sc h zero (Line number) given lasts guard adv was = quiet_ordered sc h (record { owner = 0; act = Line number }) was adv (λ w. refl)
guard_ordered sc h zero (Parts parts) given lasts guard adv was = quiet_ordered sc h (record { owner = 0; act = Parts parts }) was adv (λ w. refl)
guard_ordered sc h zero (Drop number) given lasts guard adv was = quiet_ordered sc h (record { owner = 0; act = Drop number }) was adv (λ w. refl)
guard_ordered sc h zero act given lasts guard adv was = absurd guard
guard_ordered sc h (suc s) (Step i records outs events) given lasts guard adv was =
    let P : Entry → Type 0 = λ e. AllOrdered sc (h ++ e ∷ []) in
    subst P (sym guard.made) (step_ordered sc h (suc s) i given lasts guard.up guard.due was)
guard_ordered sc h (suc s) (Fall inputs records why) given lasts guard adv was = quiet_ordered sc h (record { owner = suc s; act = Fall inputs records why }) was adv (λ w. refl)
guard_ordered sc h (suc s) Cut given lasts guard adv was = quiet_ordered sc h (record { owner = suc s; act = Cut }) was adv (λ w. refl)
guard_ordered sc h (suc s) (Rise kept inc) given lasts guard adv was = quiet_ordered sc h (record { owner = suc s; act = Rise kept inc }) was adv (λ w. refl)
guard_ordered sc h (suc s) (RiseFall kept inc why) given lasts guard adv was = quiet_ordered sc h (record { owner = suc s; act = RiseFall kept inc why }) was adv (λ w. refl)
guard_ordered sc h (suc s) Miss given lasts guard adv was = quiet_ordered sc h (record { owner = suc s; act = Miss }) was adv (λ w. refl)
guard_ordered sc h (suc s) act given lasts guard adv was = absurd guard

-- a history so far, and that what came to its sites is in order
pub record Orders (sc : Scenario) (h : List Entry) : Type 0 where
  pub lasts : Lasts sc h
  pub ordered : AllOrdered sc h

after_ordered : (sc : Scenario) (before rest : List Entry) → IsGiven sc → Orders sc before → LegalAfter sc before rest → Orders sc (before ++ rest)
after_ordered sc before [] given was legal = let P : List Entry → Type 0 = Orders sc in subst P (sym (append-nil before)) was
after_ordered sc before (e ∷ rest) given was legal = let P : List Entry → Type 0 = Orders sc in
    subst P (append_assoc before (e ∷ []) rest) (after_ordered sc (before ++ e ∷ []) rest given (record {
      lasts = guard_lasts sc before e given was.lasts legal.0;
      ordered = guard_ordered sc before e.owner e.act given was.lasts legal.0 (guard_advance sc before e.owner e.act given was.lasts.holds was.lasts.fresh.clocks legal.0) was.ordered;
    }) legal.1)

pub legal_ordered : (sc : Scenario) (h : List Entry) → IsGiven sc → IsLegal sc h → Orders sc h
legal_ordered sc h given legal = after_ordered sc [] h given (record { lasts = first_lasts sc; ordered = λ s up. none_ordered s }) legal
