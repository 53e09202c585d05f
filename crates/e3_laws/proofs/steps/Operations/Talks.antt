-- What sites said to one another of operations: each number goes out once, when all before it were answered.
use Rattle.std.proofs.Common.{◌≡◌, ◌==◌, ◌&&◌, ◌||◌, ◌∷◌, [], ℕ, ◌≤◌, ◌<◌, true, false, not, List, Some, None, refl, sym, subst, ap, ◌∙◌, inl, inr, ◌⊎◌, filter, arith, length, eq-eqb, nat_lt, lt-ltb, is_none}
use Rattle.std.specs.Prelude.{slice_get, Contains}
use Rattle.std.specs.List.{list_any, list_all, AllByRecursion as Each}
use Rattle.std.proofs.lemmas.Bool.{eqb-false, and_parts, and_from, or_left, or_right, not-true, cases_lt}
use Rattle.e3_types.specs.declared.entries.Entry.{Entry}
use Rattle.e3_types.specs.declared.messages.Message.{Message}
use Rattle.e3_types.specs.declared.messages.Message.TheVariants as msg
use Rattle.e3_types.specs.declared.messages.Packet.{Packet}
use Rattle.e3_types.specs.declared.scenarios.Scenario.{Scenario}
use Rattle.e3_types.specs.declared.transactions.Answer.{Answer}
use Rattle.e3_types.specs.declared.transactions.Op.{Op}
use Rattle.e3_types.specs.declared.transactions.Txn.{Txn}
use Rattle.e3_types.specs.Same.{same_txn}
use Rattle.e3_world.specs.declared.lives.Asked.{Asked}
use Rattle.e3_world.specs.declared.lives.Life.{Life}
use Rattle.e3_world.specs.declared.lives.Moment.{Moment}
use Rattle.e3_world.specs.declared.lives.Performed.{Performed}
use Rattle.e3_world.specs.Items.{is_delivery, taken_at, is_up_at, recover_group}
use Rattle.e3_world.specs.Logs.{is_undecided, key_of}
use Rattle.e3_world.specs.Operations.{issued, nth_op, op_told, arrivals, is_answered, answers, performed_by, done, waiting}
use Rattle.e3_world.specs.Packets.{sent, pending, present_items}
use Rattle.e3_world.specs.Sound.{is_in_turn}
use Rattle.e3_world.proofs.InTrail.{pending_sent}
use Rattle.e3_laws.specs.steps.Bounds.{GoesBetween, AsksWell}
use Rattle.e3_laws.proofs.steps.Each.{each-at, each-flat, each-kept, each-weaker}
use Rattle.e3_laws.proofs.steps.Suits.Turns.{AsksNone}
use Rattle.e3_laws.proofs.steps.Suits.Holding.{Holds}
use Rattle.e3_laws.proofs.steps.Operations.Tracing.{IsAnswer, was_delivered, CameIn, arrivals_came}
use Rattle.e3_laws.proofs.steps.Operations.Freshness.{bound_in, life_in, IsKnown}
use Rattle.e3_laws.proofs.steps.Tests.{same_is}

-- the operation went to the site
pub record SentDo (h : List Entry) (t : Txn) (n site : ℕ) : Type 0 where
  pub packet : Packet
  pub has : Contains (sent h) packet
  pub op : Op
  pub says : packet.msg ≡ msg.Do t n op
  pub there : packet.to ≡ site

-- it is on its way
pub record Pends (sc : Scenario) (h : List Entry) (t : Txn) (n : ℕ) : Type 0 where
  pub packet : Packet
  pub has : Contains (pending sc h) packet
  pub op : Op
  pub says : packet.msg ≡ msg.Do t n op

-- the site sent its answer
pub record SentDone (h : List Entry) (t : Txn) (n site : ℕ) : Type 0 where
  pub packet : Packet
  pub has : Contains (sent h) packet
  pub answer : IsAnswer t n packet
  pub own : packet.«from» ≡ site

-- the operation with this number was issued, for a key of the site
abbrev pub HasOp : List Op → ℕ → ℕ → Type 0
HasOp ops n site = (op : Op) × (nth_op n ops ≡ Some op) × ((key_of op).site ≡ site)

-- the operation with this number was issued, and it is on an own key, or its site sent the answer
abbrev pub WasHeard : List Entry → Txn → ℕ → ℕ → List Op → Type 0
WasHeard h t n site ops = (op : Op) × (nth_op n ops ≡ Some op) × (((key_of op).site ≡ site) ⊎ SentDone h t n (key_of op).site)

-- the site has answered the operation in the present incarnation
abbrev pub HasAnswered : Scenario → List Entry → ℕ → Asked → Type 0
HasAnswered sc h site q = is_up_at h site ≡ true → is_answered (life_in sc h site).steps q ≡ true

-- it came not in the present incarnation, and is not on its way
abbrev pub IsGone : Scenario → List Entry → ℕ → Asked → Type 0
IsGone sc h site q = (is_up_at h site ≡ true → was_delivered q.txn q.n (life_in sc h site).steps ≡ false) × (Pends sc h q.txn q.n → ⊥)

-- what sites said of operations
pub record Talks (sc : Scenario) (h : List Entry) : Type 0 where
  pub known : (t : Txn) (n y : ℕ) → SentDo h t n y → IsKnown (bound_in sc h) t
  pub nth : (t : Txn) (n y : ℕ) → SentDo h t n y → is_up_at h t.site ≡ true → t.inc ≡ (life_in sc h t.site).inc → HasOp (issued t (life_in sc h t.site).steps) n y
  pub told : (t : Txn) (s m : ℕ) → is_up_at h s ≡ true → 1 ≤ m → m < length (issued t (life_in sc h s).steps) → op_told t m (life_in sc h s).steps ≡ true
  pub heard : (t : Txn) (m s : ℕ) → is_up_at h s ≡ true → op_told t m (life_in sc h s).steps ≡ true → WasHeard h t m s (issued t (life_in sc h s).steps)
  pub took : (t : Txn) (m y : ℕ) → is_up_at h y ≡ true → was_delivered t m (life_in sc h y).steps ≡ true → SentDo h t m y
  pub asked : (t : Txn) (m y : ℕ) → SentDone h t m y → SentDo h t m y
  pub done : (q : Asked) (y : ℕ) → SentDone h q.txn q.n y → HasAnswered sc h y q ⊎ IsGone sc h y q
  pub last : (t : Txn) (n m y : ℕ) → Pends sc h t n → SentDo h t m y → m ≤ n
  pub unheard : (t : Txn) (n : ℕ) → Pends sc h t n → is_up_at h t.site ≡ true → t.inc ≡ (life_in sc h t.site).inc →
      list_any is_delivery (taken_at h t.site) ≡ false → op_told t n (life_in sc h t.site).steps ≡ false
  pub before : (t : Txn) (n m y z : ℕ) → SentDo h t n y → SentDo h t m z → m < n → SentDone h t m z
  pub high : (t : Txn) (n y : ℕ) → SentDo h t n y → n ≤ 64
  pub rest : AsksNone (present_items sc h) → recover_group (present_items sc h) ≡ None → pending sc h ≡ []

-- a packet of an operation comes from its coordinator, and has a number
pub record FromHome (packet : Packet) (t : Txn) (n : ℕ) : Type 0 where
  pub home : packet.«from» ≡ t.site
  pub other : (t.site == packet.to) ≡ false
  pub low : 1 ≤ n

pub from_home : (sc : Scenario) (h : List Entry) (packet : Packet) (t : Txn) (n : ℕ) (op : Op) → Each (GoesBetween sc.weights) (sent h) → Contains (sent h) packet →
    packet.msg ≡ msg.Do t n op → FromHome packet t n
from_home sc h packet t n op all has says =
    let goes : GoesBetween sc.weights packet = each-at (GoesBetween sc.weights) (sent h) packet all has in
    let P : Message → Type 0 = λ m. AsksWell packet.to packet.«from» m in
    let asks : AsksWell packet.to packet.«from» (msg.Do t n op) = subst P says goes.heard.asked in
    let Q : ℕ → Type 0 = λ s. (s == packet.to) ≡ false in
    record { home = asks.0; other = subst Q asks.0 goes.other; low = asks.2 }

-- a pending operation was sent
pub pends_sent : (sc : Scenario) (h : List Entry) (t : Txn) (n : ℕ) (p : Pends sc h t n) → SentDo h t n p.packet.to
pends_sent sc h t n p = record { packet = p.packet; has = pending_sent sc h p.packet p.has; op = p.op; says = p.says; there = refl }

-- all numbers up to this one
any_or_all : (n : ℕ) (ps : List Performed) → Each (λ p. p.n ≤ n) ps → (list_any (λ p. p.n == n) ps ≡ true) ⊎ (list_all (λ p. nat_lt p.n n) ps ≡ true)
any_or_all n [] all = inr refl
any_or_all n (p ∷ ps) all = elim (any_or_all n ps all.1) [
  | inl some ↦ inl (or_right (p.n == n) _ some)
  | inr rest ↦ elim (cases_lt p.n n) [
    | inl less ↦ inr (and_from (nat_lt p.n n) _ (lt-ltb p.n n less) rest)
    | inr most ↦ inl (or_left (p.n == n) _ (eq-eqb p.n n (let high : p.n ≤ n = all.0 in omega (arith, high, most))))
  ]
]

in_turn : (n : ℕ) (ps : List Performed) (ws : List Asked) → Each (λ p. p.n ≤ n) ps → Each (λ q. q.n ≡ n) ws →
    (list_any (λ p. p.n == n) ps || list_any (λ q. q.n == n) ws || (is_none (slice_get ws 0) && list_all (λ p. nat_lt p.n n) ps)) ≡ true
in_turn n ps [] low same = elim (any_or_all n ps low) [
  | inl some ↦ or_left _ _ (or_left _ false some)
  | inr all ↦ or_right _ _ all
]
in_turn n ps (q ∷ ws) low same = or_left _ _ (or_right (list_any (λ p. p.n == n) ps) _ (or_left (q.n == n) _ (eq-eqb q.n n same.0)))

performed_low : (steps : List Moment) (n : ℕ) (q : Asked) → q.n ≤ n → Each (λ p. p.n ≤ n) (performed_by steps q)
performed_low steps n q low = by (answers q steps) refl
  where
    by : (l : List Answer) → answers q steps ≡ l → Each (λ p. p.n ≤ n) (performed_by steps q)
    by [] is = rw is tt
    by (x ∷ xs) is = rw is (low, tt)

-- an operation that is delivered comes in turn
pub comes_in_turn : (sc : Scenario) (h : List Entry) (y : ℕ) (t : Txn) (n : ℕ) → Holds sc h → Talks sc h → is_up_at h y ≡ true → (p : Pends sc h t n) → p.packet.to ≡ y →
    is_in_turn y t n (life_in sc h y) ≡ true
comes_in_turn sc h y t n holds talks up p there =
    in_turn n (done y t life.steps) (filter (λ q. same_txn t q.txn) (waiting y life.log life.steps))
    (each-flat (λ q. q.n ≤ n) (λ p. p.n ≤ n) (performed_by life.steps) (λ q low. performed_low life.steps n q low)
    (filter (λ q. same_txn t q.txn) (arrivals y life.steps))
    (each-weaker (λ q. CameIn y life.steps q × (same_txn t q.txn ≡ true)) (λ q. q.n ≤ n) (λ q is. low q is.0 is.1) (filter (λ q. same_txn t q.txn) (arrivals y life.steps))
    (each-kept (CameIn y life.steps) (λ q. same_txn t q.txn) (arrivals y life.steps) came)))
    (each-weaker (λ q. (CameIn y life.steps q × ((is_undecided q.txn life.log && not (is_answered life.steps q)) ≡ true)) × (same_txn t q.txn ≡ true)) (λ q. q.n ≡ n)
    (λ q is. same q is.0.0 is.0.1 is.1) (filter (λ q. same_txn t q.txn) (waiting y life.log life.steps))
    (each-kept (λ q. CameIn y life.steps q × ((is_undecided q.txn life.log && not (is_answered life.steps q)) ≡ true)) (λ q. same_txn t q.txn) (waiting y life.log life.steps)
    (each-kept (CameIn y life.steps) (λ q. is_undecided q.txn life.log && not (is_answered life.steps q)) (arrivals y life.steps) came)))
  where
    life : Life
    life = life_in sc h y

    came : Each (CameIn y life.steps) (arrivals y life.steps)
    came = arrivals_came sc.weights y life.steps (holds.now.sites y).life.steps

    home : FromHome p.packet t n
    home = from_home sc h p.packet t n p.op holds.now.sent (pending_sent sc h p.packet p.has) p.says

    delivered : (q : Asked) → CameIn y life.steps q → same_txn t q.txn ≡ true → was_delivered q.txn q.n life.steps ≡ true
    delivered q (inr came) same = came
    delivered q (inl own) same =
        let is : t.site ≡ y = ap (λ u. u.site) (same_is t q.txn same) ∙ own in
        absurd (eqb-false t.site p.packet.to home.other (is ∙ sym there))

    sent_q : (q : Asked) → CameIn y life.steps q → same_txn t q.txn ≡ true → SentDo h t q.n y
    sent_q q came same = let P : Txn → Type 0 = λ u. SentDo h u q.n y in
        subst P (sym (same_is t q.txn same)) (talks.took q.txn q.n y up (delivered q came same))

    low : (q : Asked) → CameIn y life.steps q → same_txn t q.txn ≡ true → q.n ≤ n
    low q came same = talks.last t n q.n y p (sent_q q came same)

    same : (q : Asked) → CameIn y life.steps q → (is_undecided q.txn life.log && not (is_answered life.steps q)) ≡ true → same_txn t q.txn ≡ true → q.n ≡ n
    same q came waits is = elim (cases_lt q.n n) [
      | inr most ↦ (let high : q.n ≤ n = low q came is in omega (arith, high, most))
      | inl less ↦ (let P : ℕ → Type 0 = λ z. SentDo h t n z in
          let Q : Txn → Type 0 = λ u. SentDone h u q.n y in
          let answer : SentDone h q.txn q.n y = subst Q (same_is t q.txn is) (talks.before t n q.n y y (subst P there (pends_sent sc h t n p)) (sent_q q came is) less) in
          let waiting_still : is_answered life.steps q ≡ false = not-true (is_answered life.steps q) (and_parts _ _ waits).1 in
          elim (talks.done q y answer) [
            | inl answered ↦ absurd (let both : true ≡ false = sym (answered up) ∙ waiting_still in cc)
            | inr gone ↦ absurd (let both : true ≡ false = sym (delivered q came is) ∙ gone.0 up in cc)
          ])
    ]
