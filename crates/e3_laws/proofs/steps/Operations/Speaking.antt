-- What a step of a legal history issues, answers and tells.
use Rattle.std.proofs.Common.{◌≡◌, ◌==◌, ◌&&◌, ◌++◌, ◌∷◌, [], ℕ, zero, suc, Bool, true, false, List, Option, Some, None, refl, sym, subst, ap, ◌∙◌, inl, inr, ◌⊎◌, arith, length, map, eqb-true, eq-eqb, if◌then◌else◌}
use Rattle.std.specs.Prelude.{Contains}
use Rattle.std.specs.List.{list_any, flat_map, AllByRecursion as Each}
use Rattle.std.proofs.lemmas.Bool.{eqb-false, and_parts}
use Rattle.std.proofs.lemmas.Grind.{flat_map-append}
use Rattle.std.proofs.lemmas.List.Elements.{Contains-append_left, Contains-append_cases}
use Rattle.e3_types.specs.declared.entries.Entry.{Entry}
use Rattle.e3_types.specs.declared.entries.Input.{Input}
use Rattle.e3_types.specs.declared.entries.Input.TheVariants as input
use Rattle.e3_types.specs.declared.entries.Refusal.{Refusal}
use Rattle.e3_types.specs.declared.entries.Told.{Told}
use Rattle.e3_types.specs.declared.entries.Told.TheVariants as told
use Rattle.e3_types.specs.declared.messages.Message.{Message}
use Rattle.e3_types.specs.declared.messages.Message.TheVariants as msg
use Rattle.e3_types.specs.declared.messages.Packet.{Packet}
use Rattle.e3_types.specs.declared.scenarios.Scenario.{Scenario}
use Rattle.e3_types.specs.declared.transactions.Op.{Op}
use Rattle.e3_types.specs.declared.transactions.Txn.{Txn}
use Rattle.e3_types.specs.Same.{same_txn}
use Rattle.e3_world.specs.declared.lives.Asked.{Asked}
use Rattle.e3_world.specs.declared.lives.At.{At}
use Rattle.e3_world.specs.declared.lives.Made.{Made}
use Rattle.e3_world.specs.declared.lives.Moment.{Moment}
use Rattle.e3_world.specs.declared.names.Bound.{Bound}
use Rattle.e3_world.specs.Given.{IsGiven}
use Rattle.e3_world.specs.Items.{is_delivery, is_up_at}
use Rattle.e3_world.specs.Legal.{IsDue, IsDelivery, numbered, made_by, entry_of}
use Rattle.e3_world.specs.Lives.{incarnation_of, life_at}
use Rattle.e3_world.specs.Logs.{key_of}
use Rattle.e3_world.specs.Making.{nothing, and_send, and_grants}
use Rattle.e3_world.specs.Moves.{past_of, moves_of, unnumbered, unnumbered_input}
use Rattle.e3_world.specs.Operations.{issued, issued_in, nth_op, tells_op, is_answered, answers, answer_told, answer_sent}
use Rattle.e3_world.specs.Packets.{sent, outs_of}
use Rattle.e3_world.specs.Steps.{refuse, or_refused, settle}
use Rattle.e3_world.proofs.InTrail.{pending_sent}
use Rattle.e3_world.proofs.Readings.{own_other, taken_same, taken_other, up_same, up_other}
use Rattle.e3_laws.specs.steps.Bounds.{Suits}
use Rattle.e3_laws.proofs.steps.Suits.Binding.{binding_push}
use Rattle.e3_laws.proofs.steps.Each.{each-at, each-both}
use Rattle.e3_laws.proofs.steps.Suits.Keeping.{Goes, Keeps}
use Rattle.e3_laws.proofs.steps.Suits.Inputs.{place, step_keeps}
use Rattle.e3_laws.proofs.steps.Suits.Turns.{present_push}
use Rattle.e3_laws.proofs.steps.Suits.Suiting.{due_input_suits}
use Rattle.e3_laws.proofs.steps.Suits.Holding.{Holds, step_holds}
use Rattle.e3_laws.proofs.steps.Operations.Tracing.{IsAnswer, is_do, IsGrounded, Issues, Answers, Traces, Says, none_refused, same_issued, issued_now}
use Rattle.e3_laws.proofs.steps.Sound.Clocks.{AdvanceAt, due_says, step_advance, stepped_inc, more_at}
use Rattle.e3_laws.proofs.steps.Operations.Freshness.{Fresh, bound_in, life_in, IsKnown, binds_more, due_known, few_due}
use Rattle.e3_laws.proofs.steps.Operations.Pending.{pending_push}
use Rattle.e3_laws.proofs.steps.Operations.Issuing.{issued_push, Allows, allows, told_answers}
use Rattle.e3_laws.proofs.steps.Operations.Stepping.{Issue, News, Telling, Stepping, any_answer, any_left, any_right}
use Rattle.e3_laws.proofs.steps.Tests.{same_is, same_self}
use Rattle.e3_laws.proofs.steps.Moving.{sent_push}
use Rattle.e3_laws.proofs.steps.Items.{binding}

-- the step of a site, as its life keeps it
abbrev pub moment_of : Scenario → List Entry → ℕ → Input → Moment
moment_of sc h site i = record {
  before = (life_in sc h site).log;
  input = unnumbered_input i;
  records = (made_by sc h site i).records;
  outs = map unnumbered (numbered (suc (length (sent h))) (made_by sc h site i).outs);
  told = (made_by sc h site i).told;
}

-- where it is made
abbrev pub place_in : Scenario → List Entry → ℕ → Input → At
place_in sc h site i = place sc.weights site (incarnation_of (moves_of sc h site)) i

unnumbered_do : (i : Input) (t : Txn) (op : Op) → unnumbered_input i ≡ input.Do t op → i ≡ input.Do t op
unnumbered_do (input.Deliver p) t op is = absurd cc
unnumbered_do i t op is = is

abbrev packet_or : Packet → Input → Packet
packet_or other (input.Deliver p) = p
packet_or other i = other

unnumbered_deliver : (i : Input) (packet : Packet) → unnumbered_input i ≡ input.Deliver packet → (p : Packet) × (i ≡ input.Deliver p) × (unnumbered p ≡ packet)
unnumbered_deliver (input.Deliver p) packet is = (p, refl, ap (packet_or packet) is)
unnumbered_deliver i packet is = absurd cc

do_packet : (t : Txn) (n : ℕ) (i : Input) → is_do t n (unnumbered_input i) ≡ true → (p : Packet) × (op : Op) × (i ≡ input.Deliver p) × (p.msg ≡ msg.Do t n op)
do_packet t n (input.Deliver p) is = by p.msg refl is
  where
    by : (x : Message) → p.msg ≡ x → is_do t n (input.Deliver (record { number = 0; «from» = p.«from»; to = p.to; msg = x })) ≡ true →
        (packet : Packet) × (op : Op) × (input.Deliver p ≡ input.Deliver packet) × (packet.msg ≡ msg.Do t n op)
    by (msg.Do u k op) same some =
        let parts : _ = and_parts (n == k) (same_txn t u) some in
        (p, op, refl, same ∙ ap (λ x. msg.Do x k op) (sym (same_is t u parts.1)) ∙ ap (λ x. msg.Do t x op) (sym (eqb-true n k parts.0)))
    by x same some = absurd cc
do_packet t n i is = absurd cc

numbered_each : (P : Packet → Type 0) → ((p : Packet) (n : ℕ) → P p → P (record p { number = n })) → (n : ℕ) (ps : List Packet) → Each P ps → Each P (numbered n ps)
numbered_each P any n [] all = tt
numbered_each P any n (p ∷ ps) all = (any p n all.0, numbered_each P any (suc n) ps all.1)

answer_one : (q : Asked) (p : Packet) → IsAnswer q.txn q.n p → any_answer (answer_sent q (unnumbered p)) ≡ true
answer_one q p is = rw (is.2, eq-eqb q.n q.n refl, same_self q.txn) refl

sent_any : (q : Asked) (ps : List Packet) (p : Packet) → Contains ps p → IsAnswer q.txn q.n p → any_answer (flat_map (answer_sent q) (map unnumbered ps)) ≡ true
sent_any q [] p has is = absurd (omega (arith, has.1))
sent_any q (x ∷ ps) p (zero, low, same) is = any_left (answer_sent q (unnumbered x)) (flat_map (answer_sent q) (map unnumbered ps))
    (let P : Packet → Type 0 = λ z. any_answer (answer_sent q (unnumbered z)) ≡ true in subst P (sym same) (answer_one q p is))
sent_any q (x ∷ ps) p (suc k, low, same) is = any_right (answer_sent q (unnumbered x)) (flat_map (answer_sent q) (map unnumbered ps)) (sent_any q ps p (k, omega (arith, low), same) is)

answered_now : (steps : List Moment) (m : Moment) (ps : List Packet) (q : Asked) (p : Packet) → m.outs ≡ map unnumbered ps → Contains ps p → IsAnswer q.txn q.n p →
    is_answered (steps ++ m ∷ []) q ≡ true
answered_now steps m ps q p outs has is =
    ap any_answer (flat_map-append (λ x. flat_map (answer_told q) x.told ++ flat_map (answer_sent q) x.outs) steps (m ∷ []))
    ∙ any_right (answers q steps) (answers q (m ∷ []))
    (any_left (flat_map (answer_told q) m.told ++ flat_map (answer_sent q) m.outs) []
    (any_right (flat_map (answer_told q) m.told) (flat_map (answer_sent q) m.outs)
    (let P : List Packet → Type 0 = λ l. any_answer (flat_map (answer_sent q) l) ≡ true in subst P (sym outs) (sent_any q ps p has is))))

one_issued : (t : Txn) (op : Op) → issued_in t (input.Do t op) [] ≡ op ∷ []
one_issued t op = rw (same_self t) refl

-- an operation that is sent is issued by the step
sent_issue : (sc : Scenario) (h : List Entry) (site : ℕ) (i : Input) (to : ℕ) (t : Txn) (n : ℕ) (op : Op) → Suits sc.weights site i → Traces (place_in sc h site i) (made_by sc h site i) →
    Issues (place_in sc h site i) to t n op → Issue sc h site i (moment_of sc h site i) t n op
sent_issue sc h site i to t n op fit traces said = record {
  takes = unnumbered_do i t op said.takes;
  next = said.next;
  home = (let P : Input → Type 0 = Suits sc.weights site in let suits : Suits sc.weights site (input.Do t op) = subst P (unnumbered_do i t op said.takes) fit in suits.1);
  present = may.present;
  answered = may.answered;
  grows = same_issued t (unnumbered_input i) (made_by sc h site i).told (none_refused (place_in sc h site i) (made_by sc h site i).told traces.told)
      ∙ ap (λ j. issued_in t j []) said.takes ∙ one_issued t op;
}
  where
    may : Allows (place_in sc h site i) t
    may = allows (place_in sc h site i) t said.allowed

-- a packet that is sent
packet_news : (sc : Scenario) (h : List Entry) (site : ℕ) (i : Input) (p : Packet) → Suits sc.weights site i → Traces (place_in sc h site i) (made_by sc h site i) →
    Goes sc.weights site p → IsGrounded (place_in sc h site i) p.to p.msg → Contains (numbered (suc (length (sent h))) (made_by sc h site i).outs) p →
    News sc h site i (moment_of sc h site i) p
packet_news sc h site i p fit traces goes said has = record {
  own = goes.own;
  asks = λ t n op says. let P : Message → Type 0 = IsGrounded (place_in sc h site i) p.to in
      let is : Issues (place_in sc h site i) p.to t n op = subst P says said in (sent_issue sc h site i p.to t n op fit traces is, is.there);
  answers = λ t n is. let P : Message → Type 0 = IsGrounded (place_in sc h site i) p.to in
      let came : IsGrounded (place_in sc h site i) p.to (msg.Done t n is.0 is.1) = subst P is.2 said in elim came.0 [
        | inl home ↦ absurd (eqb-false p.«from» p.to goes.between.other (goes.own ∙ sym home ∙ sym came.1))
        | inr here ↦ here
      ];
  shows = λ q is. answered_now (life_in sc h site).steps (moment_of sc h site i) (numbered (suc (length (sent h))) (made_by sc h site i).outs) q p refl has is;
}

-- the packets that a step sends
news_of : (sc : Scenario) (h : List Entry) (site : ℕ) (i : Input) (p : Packet) → Suits sc.weights site i → Keeps (place_in sc h site i) (made_by sc h site i) →
    Says (place_in sc h site i) (made_by sc h site i) → Contains (numbered (suc (length (sent h))) (made_by sc h site i).outs) p →
    News sc h site i (moment_of sc h site i) p
news_of sc h site i p fit keeps (inl refuses) has =
    let P : List Packet → Type 0 = λ l. Contains (numbered (suc (length (sent h))) l) p in
    let none : Contains [] p = subst P refuses.outs has in absurd (omega (arith, none.1))
news_of sc h site i p fit keeps (inr traces) has =
    let P : Packet → Type 0 = λ x. Goes sc.weights site x × IsGrounded (place_in sc h site i) x.to x.msg in
    let is : P p = each-at P (numbered (suc (length (sent h))) (made_by sc h site i).outs) p
    (numbered_each P (λ x n y. (record { own = y.0.own; between = record { heard = y.0.between.heard; other = y.0.between.other } }, y.1)) (suc (length (sent h))) (made_by sc h site i).outs
    (each-both (Goes sc.weights site) (λ x. IsGrounded (place_in sc h site i) x.to x.msg) (made_by sc h site i).outs keeps.outs traces.outs)) has in
    packet_news sc h site i p fit traces is.0 is.1 has

refused_none : (t : Txn) (i : Input) (events : List Told) (u : Txn) (why : Refusal) → events ≡ told.Refused u why ∷ [] → issued_in t i events ≡ []
refused_none t (input.Do u op) events v why is = ap (issued_in t (input.Do u op)) is ∙ by (same_txn t u)
  where
    by : (b : Bool) → (if b && false then op ∷ [] else []) ≡ []
    by true = refl
    by false = refl
refused_none t i events v why is = refl

-- what a Do input issues
do_issues : (sc : Scenario) (h : List Entry) (site : ℕ) (u : Txn) (op : Op) → Suits sc.weights site (input.Do u op) → Traces (place_in sc h site (input.Do u op)) (made_by sc h site (input.Do u op)) →
    (issued_in u (input.Do u op) (made_by sc h site (input.Do u op)).told ≡ []) ⊎ ((n : ℕ) × (o : Op) × Issue sc h site (input.Do u op) (moment_of sc h site (input.Do u op)) u n o)
do_issues sc h site u op fit traces = by (refuse a u false nothing) refl
  where
    a : At
    a = place_in sc h site (input.Do u op)

    by : (o : Option Refusal) → refuse (place_in sc h site (input.Do u op)) u false nothing ≡ o →
        (issued_in u (input.Do u op) (made_by sc h site (input.Do u op)).told ≡ []) ⊎ ((n : ℕ) × (o : Op) × Issue sc h site (input.Do u op) (moment_of sc h site (input.Do u op)) u n o)
    by (Some why) is = inl (refused_none u (input.Do u op) (made_by sc h site (input.Do u op)).told u why
        (ap (λ o. (settle 3 a (and_grants a 0 (or_refused u o (and_send a (key_of op).site (msg.Do u (suc (length (issued u a.life.steps))) op) nothing)))).told) is))
    by None is = inr (
      suc (length (issued u (life_in sc h site).steps)),
      op,
      sent_issue sc h site (input.Do u op) (key_of op).site u (suc (length (issued u (life_in sc h site).steps))) op fit traces (record { takes = refl; next = refl; allowed = is; there = refl }),
    )

issues_of : (sc : Scenario) (h : List Entry) (site : ℕ) (i : Input) (t : Txn) → Suits sc.weights site i → Says (place_in sc h site i) (made_by sc h site i) →
    (issued_in t (unnumbered_input i) (made_by sc h site i).told ≡ []) ⊎ ((n : ℕ) × (op : Op) × Issue sc h site i (moment_of sc h site i) t n op)
issues_of sc h site i t fit (inl refuses) = inl (refused_none t (unnumbered_input i) (made_by sc h site i).told refuses.told.0 refuses.told.1 refuses.told.2)
issues_of sc h site (input.Do u op) t fit (inr traces) = by (same_txn t u) refl
  where
    by : (b : Bool) → same_txn t u ≡ b →
        (issued_in t (input.Do u op) (made_by sc h site (input.Do u op)).told ≡ []) ⊎ ((n : ℕ) × (o : Op) × Issue sc h site (input.Do u op) (moment_of sc h site (input.Do u op)) t n o)
    by true is = let P : Txn → Type 0 = λ x.
        (issued_in x (input.Do u op) (made_by sc h site (input.Do u op)).told ≡ []) ⊎ ((n : ℕ) × (o : Op) × Issue sc h site (input.Do u op) (moment_of sc h site (input.Do u op)) x n o) in
        subst P (sym (same_is t u is)) (do_issues sc h site u op fit traces)
    by false is = inl (none (made_by sc h site (input.Do u op)).told)
      where
        none : (l : List Told) → issued_in t (input.Do u op) l ≡ []
        none l = rw is refl
issues_of sc h site i t fit (inr traces) = inl refl

-- what a step tells of operations
tells_of : (sc : Scenario) (h : List Entry) (site : ℕ) (i : Input) (t : Txn) (n : ℕ) → IsDue sc h site i → Says (place_in sc h site i) (made_by sc h site i) →
    list_any (tells_op t n) (made_by sc h site i).told ≡ true → Telling sc h site i (moment_of sc h site i) t n
tells_of sc h site i t n due (inl refuses) told =
    absurd (let P : List Told → Type 0 = λ l. list_any (tells_op t n) l ≡ true in let none : false ≡ true = subst P refuses.told.2 told in cc)
tells_of sc h site i t n due (inr traces) told = record {
  op = this.op;
  nth = ap (nth_op n) (issued_push t (life_in sc h site).steps (moment_of sc h site i)
      ∙ sym (issued_push t (life_in sc h site).steps (record { before = a.life.log; input = a.input; records = made.records; outs = made.outs; told = made.told }))
      ∙ issued_now (place_in sc h site i) t (made_by sc h site i) traces.told) ∙ this.nth;
  heard = elim this.heard [
    | inl home ↦ inl (this.there ∙ home)
    | inr far ↦ (let p : _ = unnumbered_deliver i far.0 far.1 in
        let P : Input → Type 0 = IsDue sc h site in
        let is_due : IsDelivery sc h site p.0 = subst P p.1 due in
        let Q : Packet → Type 0 = IsAnswer t n in
        inr (
          ap is_delivery p.1,
          record {
            packet = p.0;
            has = pending_sent sc h p.0 is_due.is_pending;
            answer = subst Q (sym p.2) far.3;
            own = ap (λ x. x.«from») p.2 ∙ far.2 ∙ sym this.there;
          },
        ))
  ];
}
  where
    a : At
    a = place_in sc h site i

    made : Made
    made = made_by sc h site i

    this : Answers (place_in sc h site i) t n
    this = told_answers (place_in sc h site i) t n (made_by sc h site i).told traces.told told

-- a step of a legal history
pub step_facts : (sc : Scenario) (h : List Entry) (site : ℕ) (i : Input) → IsGiven sc → Holds sc h → Fresh sc h → is_up_at h site ≡ true → IsDue sc h site i →
    Stepping sc h (h ++ entry_of sc h site i ∷ []) site i (moment_of sc h site i)
step_facts sc h site i given holds fresh up due = record {
  up = up;
  due = due;
  goes = (step_holds sc h site i given up due holds).now.sent;
  others = λ s is. ap (λ l. life_at (past_of sc s l).moves) (own_other s h (entry_of sc h site i) is);
  ups = λ s. ups s (site == s) refl;
  inc = stepped_inc sc h site i;
  steps = elim ((adv site).advances.lives (ups site (site == site) refl ∙ up)) [
    | inl on ↦ on.2 ∙ ap (λ l. (life_in sc h site).steps ++ l) now
    | inr new ↦ absurd (let both : true ≡ false = sym up ∙ new.2 in cc)
  ];
  keeps = λ p has. let P : List Packet → Type 0 = λ l. Contains l p in
      subst P (sym (sent_push h (entry_of sc h site i))) (Contains-append_left (sent h) (outs_of (entry_of sc h site i).act) p has);
  sends = λ p has. let P : List Packet → Type 0 = λ l. Contains l p in
      elim (Contains-append_cases (sent h) (outs_of (entry_of sc h site i).act) p (subst P (sent_push h (entry_of sc h site i)) has)) [
        | inl old ↦ inl old
        | inr new ↦ inr (news_of sc h site i p fit keeps says new)
      ];
  pends = λ p has. elim (pending_push sc h (entry_of sc h site i) p has) [
    | inl old ↦ inl old
    | inr new ↦ inr (news_of sc h site i p fit keeps says new)
  ];
  bound = λ t known. let more : _ = binds_more sc (binding sc h) (entry_of sc h site i).act site in
      let P : List Bound → Type 0 = λ l. IsKnown l t in
      subst P (sym (ap (λ w. w.bound) (binding_push sc h (entry_of sc h site i)) ∙ more.1)) (known.0, Contains-append_left (bound_in sc h) more.0 known.0 known.1, known.2);
  issues = λ t. issues_of sc h site i t fit says;
  tells = λ t n told. tells_of sc h site i t n due says told;
  takes = λ t n is. do_packet t n i is;
  taken = taken_same h (entry_of sc h site i) site refl (eq-eqb site site refl);
  taken_others = λ s is. taken_other h (entry_of sc h site i) s refl is;
  items = present_push sc h (entry_of sc h site i) refl;
  few = λ t op is. let P : Input → Type 0 = IsDue sc h site in few_due sc h site t op given fresh holds.now.took up (subst P is due);
  knows = λ t op is. let P : Input → Type 0 = IsDue sc h site in due_known sc h site (input.Do t op) (subst P is due);
}
  where
    fit : Suits sc.weights site i
    fit = due_input_suits sc h site i given holds.line.binds holds.now.sent (λ s. (holds.line.sites s).life) due

    keeps : Keeps (place_in sc h site i) (made_by sc h site i)
    keeps = step_keeps sc.weights site (incarnation_of (moves_of sc h site)) i (holds.now.sites site).life.steps fit

    says : Says (place_in sc h site i) (made_by sc h site i)
    says = due_says sc h site i given due holds

    adv : (s : ℕ) → AdvanceAt sc h (entry_of sc h site i) s
    adv = step_advance sc h site i given up due holds fresh.clocks

    now : more_at sc h (entry_of sc h site i) site ≡ moment_of sc h site i ∷ []
    now = rw (eq-eqb site site refl) refl

    ups : (s : ℕ) (b : Bool) → (site == s) ≡ b → is_up_at (h ++ entry_of sc h site i ∷ []) s ≡ is_up_at h s
    ups s true is = up_same h (entry_of sc h site i) s is
    ups s false is = up_other h (entry_of sc h site i) s is
