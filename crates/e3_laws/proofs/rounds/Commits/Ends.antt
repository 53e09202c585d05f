-- The walk from behind the Commit to the end of the step, and what stands there.
use Rattle.std.proofs.Common.{◌≡◌, ◌==◌, ◌&&◌, ◌||◌, ◌+◌, ◌≤◌, ◌∷◌, ◌++◌, [], ℕ, zero, suc, Bool, true, false, not, List, Some, None, refl, ap, sym, subst, ◌∙◌, append-nil, append_assoc, length, eqb-true, true≢false, arith, inl, inr, count_by, filter_map, slice_get}
use Rattle.std.specs.List.{list_all, list_any}
use Rattle.std.proofs.lemmas.Bool.{and_parts, or_parts}
use Rattle.std.proofs.lemmas.List.Sums.{sum_by-append}
use Rattle.e3_types.specs.declared.entries.Act.{Act}
use Rattle.e3_types.specs.declared.entries.Act.TheVariants.{Step, Fall, Rise, RiseFall, Miss, Cut, Drop, Parts, Line}
use Rattle.e3_types.specs.declared.entries.Entry.{Entry}
use Rattle.e3_types.specs.declared.entries.Input.{Input}
use Rattle.e3_types.specs.declared.entries.Input.TheVariants as input
use Rattle.e3_types.specs.declared.messages.Message.{Message}
use Rattle.e3_types.specs.declared.messages.Message.TheVariants as msg
use Rattle.e3_types.specs.declared.messages.Packet.{Packet}
use Rattle.e3_types.specs.declared.scenarios.Item.TheVariants as item
use Rattle.e3_types.specs.declared.scenarios.Scenario.{Scenario}
use Rattle.e3_types.specs.declared.transactions.Txn.{Txn}
use Rattle.e3_types.specs.Quorums.{is_quorum}
use Rattle.e3_types.specs.Sets.{has_site, is_within}
use Rattle.e3_world.specs.declared.lives.Expected.{Expected}
use Rattle.e3_world.specs.declared.lives.Life.{Life}
use Rattle.e3_world.specs.Items.{input_of, inputs_at, inputs_of, inputs_to, is_delivery, is_up_at, taken_at, turn_of}
use Rattle.e3_world.specs.Legal.{IsDue, IsLegal, IsNextItem, LegalAfter, entry_of, may_rise, numbered, parts_due}
use Rattle.e3_world.specs.Lives.{life_at}
use Rattle.e3_world.specs.Moves.{log_of, moves_of, past_of, unnumbered_input}
use Rattle.e3_world.specs.Operations.{waiting}
use Rattle.e3_world.specs.Packets.{fate_of, is_line, lines, outs_of, pending, present_items, sent}
use Rattle.e3_world.proofs.Pushes.{legal_push}
use Rattle.e3_world.proofs.Readings.{own_other, taken_other, taken_same, to_push, up_other, up_same}
use Rattle.e3_world.proofs.Turns.{self}
use Rattle.e3_laws.specs.agreement.Logs.{IsIn}
use Rattle.e3_laws.proofs.agreement.Refinement.Following.{in_from_contains}
use Rattle.e3_laws.proofs.agreement.Refinement.Lists.{in_left}
use Rattle.e3_laws.proofs.agreement.Refinement.Voting.{contains_from_in}
use Rattle.e3_laws.proofs.steps.Suits.Laws.{was_sent}
use Rattle.e3_laws.proofs.rounds.Deliveries.Gathering.{life_on, moment_of}
use Rattle.e3_laws.proofs.steps.Moving.{log_on, moves_still}
use Rattle.e3_laws.proofs.rounds.Deliveries.Counted.{is_counted}
use Rattle.e3_laws.proofs.rounds.Deliveries.Forced.{some_line}
use Rattle.e3_laws.specs.rounds.Commits.{all_once, falls_at, is_entry_of, is_once, is_packet_of}
use Rattle.e3_laws.proofs.rounds.Commits.Beside.{Still, brings_none, other_packet, still_push}
use Rattle.e3_laws.proofs.rounds.Commits.Others.{stage_on, one_in}
use Rattle.e3_laws.proofs.rounds.Commits.Shapes.{is_shaped, other_not, rest_of}
use Rattle.e3_laws.proofs.rounds.Commits.Stages.{Committed, First, Ground, Second, Stage, Third, steps_at}
use Rattle.e3_types.specs.Same.{same_txn}
use Rattle.std.proofs.lemmas.Bool.{ne_eqb}
use Rattle.std.proofs.lemmas.Grind.{flat_map-append}
use Rattle.e3_world.specs.Items.{RecoveryRound, due_round}
use Rattle.e3_world.specs.Legal.{made_by}
use Rattle.e3_world.specs.Moves.{log_by}
use Rattle.e3_world.specs.Progress.{up_behind}
use Rattle.e3_world.proofs.Guards.{up_some}
use Rattle.e3_laws.proofs.rounds.Commits.Turns.{Turn}
use Rattle.e3_laws.proofs.rounds.Commits.Walk.{Behind, delivered, drop_idle, fall_idle, goes_to}
use Rattle.e3_laws.proofs.rounds.Deliveries.Walking.{items_on}

-- no site has an item left
abbrev pub NoItems : Scenario → List Entry → Type 0
NoItems sc h = (s : ℕ) → length (inputs_at sc h s) ≤ turn_of h s

get_none : (l : List Input) (n : ℕ) → length l ≤ n → slice_get l n ≡ None
get_none [] zero less = refl
get_none [] (suc n) less = refl
get_none (x ∷ l) zero less = absurd (let clash : ⊥ = omega (arith, less) in clash)
get_none (x ∷ l) (suc n) less = get_none l n (omega (arith, less))

none_next : (sc : Scenario) (h : List Entry) (s : ℕ) (i : Input) → NoItems sc h → IsNextItem sc h s i → ⊥
none_next sc h s i none next = let clash : None ≡ Some i = sym (get_none (inputs_at sc h s) (turn_of h s) (none s)) ∙ next.next in cc

pub no_items_on : (sc : Scenario) (h : List Entry) (e : Entry) → is_line e ≡ false → NoItems sc h → NoItems sc (h ++ e ∷ [])
no_items_on sc h e line none s =
    let same : length (inputs_at sc (h ++ e ∷ []) s) ≡ length (inputs_at sc h s) = ap (λ k. length (inputs_to s (filter_map (input_of sc k) (present_items sc k)))) (to_push h e line) in
    let more : turn_of h s ≤ turn_of (h ++ e ∷ []) s = by (e.owner == s) refl in
    let was : length (inputs_at sc h s) ≤ turn_of h s = none s in
    omega (arith, same, more, was)
  where
    by : (b : Bool) → (e.owner == s) ≡ b → turn_of h s ≤ turn_of (h ++ e ∷ []) s
    by true is =
        let both : turn_of (h ++ e ∷ []) s ≡ turn_of h s + count_by (λ i. not (is_delivery i)) (inputs_of e.act) = ap (count_by (λ i. not (is_delivery i))) (taken_same h e s line is) ∙ sum_by-append _ (taken_at h s) (inputs_of e.act) in
        omega (arith, both)
    by false is = let same : turn_of (h ++ e ∷ []) s ≡ turn_of h s = ap (count_by (λ i. not (is_delivery i))) (taken_other h e s line is) in omega (arith, same)

-- one entry
pub record Next (sc : Scenario) (t : Txn) (wants : ℕ → Expected) (packets : List Packet) (h : List Entry) (e : Entry) (n : ℕ) : Type 0 where
  pub m : ℕ
  pub stage : Stage sc t wants (h ++ e ∷ []) m
  pub grows : n + count_by (is_entry_of t packets) (e ∷ []) ≤ m
  pub ground : Ground sc t (h ++ e ∷ [])

one_count : (t : Txn) (packets : List Packet) (e : Entry) → count_by (is_entry_of t packets) (e ∷ []) ≤ 1
one_count t packets e = by (is_entry_of t packets e) refl
  where
    by : (b : Bool) → is_entry_of t packets e ≡ b → count_by (is_entry_of t packets) (e ∷ []) ≤ 1
    by true is = rw is (omega arith)
    by false is = rw is (omega arith)

none_of : (t : Txn) (ps : List Packet) → list_all (other_packet t) ps ≡ true → list_any (is_packet_of t) ps ≡ false
none_of t [] all = refl
none_of t (p ∷ ps) all = let parts = and_parts (other_packet t p) (list_all (other_packet t) ps) all in rw (other_not t p parts.0) (none_of t ps parts.1)

brings_shaped : (t : Txn) (wants : ℕ → Expected) (k : ℕ) (p : Packet) → is_shaped t wants k p ≡ true → brings_none (unnumbered_input (input.Deliver p)) ≡ true
brings_shaped t wants k p shaped = by p.msg refl
  where
    by : (m : Message) → p.msg ≡ m → brings_none (unnumbered_input (input.Deliver p)) ≡ true
    by (msg.Do u n op) is = absurd (let off : is_shaped t wants k p ≡ false = rw is refl in true≢false (sym shaped ∙ off))
    by m is = ap (λ x. brings_none (input.Deliver (record { number = 0; «from» = p.«from»; to = p.to; msg = x }))) is

brings_of : (sc : Scenario) (t : Txn) (wants : ℕ → Expected) (h : List Entry) (p : Packet) (n : ℕ) → Stage sc t wants h n → IsIn p (pending sc h) → brings_none (unnumbered_input (input.Deliver p)) ≡ true
brings_of sc t wants h p n (Stage.One o) has = brings_shaped t wants 1 p (one_in (is_shaped t wants 1) (pending sc h) p o.shaped has)
brings_of sc t wants h p n (Stage.Two o) has = brings_shaped t wants 2 p (one_in (is_shaped t wants 2) (pending sc h) p o.shaped has)
brings_of sc t wants h p n (Stage.Three o) has = brings_shaped t wants 3 p (one_in (is_shaped t wants 3) (pending sc h) p o.shaped has)

-- no operation waits behind a step that brings none
pub still_on : (sc : Scenario) (t : Txn) (h : List Entry) (s y : ℕ) (i : Input) → brings_none (unnumbered_input i) ≡ true → Still t y (log_of sc h y) (steps_at sc h y) →
    Still t y (log_of sc (h ++ entry_of sc h s i ∷ []) y) (steps_at sc (h ++ entry_of sc h s i ∷ []) y)
still_on sc t h s y i brings was = by (s == y) refl
  where
    by : (b : Bool) → (s == y) ≡ b → Still t y (log_of sc (h ++ entry_of sc h s i ∷ []) y) (steps_at sc (h ++ entry_of sc h s i ∷ []) y)
    by true same =
        let P : ℕ → Type 0 = λ x. Still t y (log_of sc (h ++ entry_of sc h x i ∷ []) y) (steps_at sc (h ++ entry_of sc h x i ∷ []) y) in
        let here : P y =
        ap (λ l. list_any (λ q. same_txn t q.txn) (waiting y (log_of sc (h ++ entry_of sc h y i ∷ []) y) l)) (ap (λ (x : Life). x.steps) (life_on sc h y i))
        ∙ ap (λ l. list_any (λ q. same_txn t q.txn) (waiting y l ((life_at (moves_of sc h y)).steps ++ moment_of (life_at (moves_of sc h y)) i (made_by sc h y i) ∷ []))) (log_on sc h y i)
        ∙ still_push t y (log_of sc h y) (made_by sc h y i).records (life_at (moves_of sc h y)).steps (moment_of (life_at (moves_of sc h y)) i (made_by sc h y i)) brings was in
        subst P (sym (eqb-true s y same)) here
    by false other = subst (λ m. Still t y (log_by m) (life_at m).steps) (sym (moves_still sc h s y i other)) was

pub up_on : (h : List Entry) (e : Entry) (y : ℕ) → ((b : Bool) → up_behind b e.act ≡ b) → is_up_at h y ≡ true → is_up_at (h ++ e ∷ []) y ≡ true
up_on h e y keeps up = by (e.owner == y) refl
  where
    by : (b : Bool) → (e.owner == y) ≡ b → is_up_at (h ++ e ∷ []) y ≡ true
    by true is = up_same h e y is ∙ keeps (is_up_at h y) ∙ up
    by false is = up_other h e y is ∙ up

-- a delivery
delivery : (sc : Scenario) (t : Txn) (wants : ℕ → Expected) (packets : List Packet) (h : List Entry) (p : Packet) (n : ℕ) → Turn sc t h p.to p → Stage sc t wants h n →
    Next sc t wants packets h (entry_of sc h p.to (input.Deliver p)) n
delivery sc t wants packets h p n turn stage = by (delivered sc t wants h p n turn stage)
  where
    e : Entry
    e = entry_of sc h p.to (input.Deliver p)

    ground : Ground sc t (h ++ e ∷ [])
    ground = record {
      given = turn.ground.given;
      legal = turn.legal;
      counted = is_counted sc (h ++ e ∷ []) turn.ground.given turn.legal;
      home = turn.ground.home;
      up = λ s member. up_on h e s (λ b. refl) (turn.ground.up s member);
      still = λ s member. still_on sc t h p.to s (input.Deliver p) (brings_of sc t wants h p n stage turn.has) (turn.ground.still s member);
    }

    by : Behind sc t wants h p.to p n → Next sc t wants packets h e n
    by (Behind.Own after_it) = record { m = suc n; stage = after_it; grows = (let one : count_by (is_entry_of t packets) (e ∷ []) ≤ 1 = one_count t packets e in omega (arith, one)); ground = ground }
    by (Behind.Beside none apart after_it) = record {
      m = n;
      stage = after_it;
      grows = (let none_is : count_by (is_entry_of t packets) (e ∷ []) ≡ 0 = rw (none, none_of t (outs_of e.act) apart.sends) refl in omega (arith, none_is));
      ground = ground;
    }

-- packets with one number are one
low_number : (m : ℕ) (ps : List Packet) (p : Packet) → IsIn p (numbered m ps) → m ≤ p.number
low_number m [] p has = absurd has
low_number m (q ∷ ps) p (inl e) = let is : p.number ≡ m = ap (λ (x : Packet). x.number) e in omega (arith, is)
low_number m (q ∷ ps) p (inr k) = let rest : suc m ≤ p.number = low_number (suc m) ps p k in omega (arith, rest)

one_packet : (m : ℕ) (ps : List Packet) (p q : Packet) → IsIn p (numbered m ps) → IsIn q (numbered m ps) → p.number ≡ q.number → p ≡ q
one_packet m [] p q has hasq same = absurd has
one_packet m (x ∷ ps) p q (inl e) (inl f) same = e ∙ sym f
one_packet m (x ∷ ps) p q (inl e) (inr k) same = absurd (let is : p.number ≡ m = ap (λ (z : Packet). z.number) e in let more : suc m ≤ q.number = low_number (suc m) ps q k in let clash : ⊥ = omega (arith, is, more, same) in clash)
one_packet m (x ∷ ps) p q (inr k) (inl f) same = absurd (let is : q.number ≡ m = ap (λ (z : Packet). z.number) f in let more : suc m ≤ p.number = low_number (suc m) ps p k in let clash : ⊥ = omega (arith, is, more, same) in clash)
one_packet m (x ∷ ps) p q (inr k) (inr l) same = one_packet (suc m) ps p q k l same

-- what is known of the rest of the step
pub record Way (sc : Scenario) (t : Txn) (packets : List Packet) (h more : List Entry) : Type 0 where
  pub none : NoItems sc h
  pub name : List ℕ
  pub items : present_items sc h ≡ item.Commit name ∷ []
  pub guards : LegalAfter sc h more
  pub line : list_any is_line more ≡ false
  pub falls : list_any (falls_at t.sites) more ≡ false
  pub once : all_once sc t h more ≡ true
  pub numbers : packets ≡ numbered 1 packets
  pub sub : (q : Packet) → IsIn q (sent (h ++ more)) → IsIn q packets

rises_never : (sc : Scenario) (h : List Entry) (name : List ℕ) (site : ℕ) → present_items sc h ≡ item.Commit name ∷ [] → may_rise sc h site ≡ true → ⊥
rises_never sc h name site is may =
    let at = some_line sc (lines h) (item.Commit name) [] is in
    let never : may_rise sc h site ≡ false = rw (is, at.1) refl in
    true≢false (sym may ∙ never)

due_packet : (sc : Scenario) (h : List Entry) (name : List ℕ) (s : ℕ) (i : Input) → NoItems sc h → present_items sc h ≡ item.Commit name ∷ [] → IsDue sc h s i →
    (p : Packet) × (i ≡ input.Deliver p) × IsIn p (pending sc h) × (p.to ≡ s)
due_packet sc h name s (input.Deliver p) none items due = (p, refl, in_from_contains (pending sc h) p due.is_pending, due.to)
due_packet sc h name s (input.Elect u group) none items due = elim due [
  | inl next ↦ absurd (none_next sc h s (input.Elect u group) none next)
  | inr round ↦ absurd (let r : RecoveryRound = record { txn = u; members = group; elector = s } in let no_round : due_round sc h ≡ None = rw items refl in let clash : None ≡ Some r = sym no_round ∙ round.due in cc)
]
due_packet sc h name s (input.Begin sites) none items due = absurd (none_next sc h s _ none due)
due_packet sc h name s (input.Do u op) none items due = absurd (none_next sc h s _ none due)
due_packet sc h name s (input.Commit u) none items due = absurd (none_next sc h s _ none due)
due_packet sc h name s (input.Cancel u) none items due = absurd (none_next sc h s _ none due)
due_packet sc h name s (input.Expire u) none items due = absurd (none_next sc h s _ none due)

quiet_ground : (sc : Scenario) (t : Txn) (h : List Entry) (e : Entry) → Ground sc t h → IsLegal sc (h ++ e ∷ []) → ((y : ℕ) → has_site t.sites y ≡ true → (e.owner == y) ≡ false) → Ground sc t (h ++ e ∷ [])
quiet_ground sc t h e ground legal apart = record {
  given = ground.given;
  legal = legal;
  counted = is_counted sc (h ++ e ∷ []) ground.given legal;
  home = ground.home;
  up = λ s member. up_other h e s (apart s member) ∙ ground.up s member;
  still = λ s member. subst (λ m. Still t s (log_by m) (life_at m).steps) (sym (ap (λ l. (past_of sc s l).moves) (own_other s h e (apart s member)))) (ground.still s member);
}

by_act : (sc : Scenario) (t : Txn) (wants : ℕ → Expected) (packets : List Packet) (h more : List Entry) (o : ℕ) (act : Act) (n : ℕ) → Ground sc t h → Way sc t packets h (record { owner = o; act = act } ∷ more) → Stage sc t wants h n →
    Next sc t wants packets h (record { owner = o; act = act }) n
by_act sc t wants packets h more zero (Step i records outs events) n ground way stage = absurd way.guards.0
by_act sc t wants packets h more (suc s) (Step i records outs events) n ground way stage =
    let e : Entry = record { owner = suc s; act = Step i records outs events } in
    let due = due_packet sc h way.name (suc s) i way.none way.items way.guards.0.due in
    let same : e ≡ entry_of sc h due.0.to (input.Deliver due.0) = way.guards.0.made ∙ ap (entry_of sc h (suc s)) due.1 ∙ ap (λ x. entry_of sc h x (input.Deliver due.0)) (sym due.3) in
    let legal : IsLegal sc (h ++ e ∷ []) = legal_push sc h e ground.legal way.guards.0 in
    let once : list_all (λ p. not (is_packet_of t p) || is_once (fate_of sc h p)) (outs_of e.act) ≡ true = (and_parts (list_all (λ p. not (is_packet_of t p) || is_once (fate_of sc h p)) (outs_of e.act)) (all_once sc t (h ++ e ∷ []) more) way.once).0 in
    let turn : Turn sc t h due.0.to due.0 = record {
      ground = ground;
      has = due.2;
      once = subst (λ (x : Entry). list_all (λ p. not (is_packet_of t p) || is_once (fate_of sc h p)) (outs_of x.act) ≡ true) same once;
      legal = subst (λ x. IsLegal sc (h ++ x ∷ [])) same legal;
    } in
    subst (λ x. Next sc t wants packets h x n) (sym same) (delivery sc t wants packets h due.0 n turn stage)
by_act sc t wants packets h more zero (Fall inputs records why) n ground way stage = absurd way.guards.0
by_act sc t wants packets h more (suc s) (Fall inputs records why) n ground way stage =
    let e : Entry = record { owner = suc s; act = Fall inputs records why } in
    let out : has_site t.sites (suc s) ≡ false = (or_parts (falls_at t.sites e) (list_any (falls_at t.sites) more) way.falls).0 in
    let untouched = fall_idle sc t wants h s inputs records why ground out way.guards.0.up way.guards.0.due in
    record {
      m = n;
      stage = stage_on sc t wants h (h ++ e ∷ []) n ground.home untouched stage;
      grows = omega arith;
      ground = quiet_ground sc t h e ground (legal_push sc h e ground.legal way.guards.0) (λ y member. differs y member out (suc s == y) refl);
    }
  where
    differs : (y : ℕ) → has_site t.sites y ≡ true → has_site t.sites (suc s) ≡ false → (b : Bool) → (suc s == y) ≡ b → (suc s == y) ≡ false
    differs y member out true same = absurd (true≢false (sym (ap (has_site t.sites) (eqb-true (suc s) y same) ∙ member) ∙ out))
    differs y member out false apart = apart
by_act sc t wants packets h more zero (Drop number) n ground way stage =
    let e : Entry = record { owner = 0; act = Drop number } in
    let p : Packet = way.guards.0.packet in
    let has : IsIn p (pending sc h) = in_from_contains (pending sc h) p way.guards.0.is_pending in
    let untouched = drop_idle sc t wants h number p ground has way.guards.0.is_its way.guards.0.down in
    let in_all : IsIn p packets = way.sub p (subst (λ l. IsIn p l) (sym (sent_all h (e ∷ more))) (in_left p (sent h) (sent (e ∷ more)) (in_from_contains (sent h) p (was_sent sc h p (contains_from_in (pending sc h) p has))))) in
    let none : list_any (λ q. q.number == number && is_packet_of t q) packets ≡ false = none_any packets (λ q k. dropped p q has in_all k way.guards.0.is_its way.guards.0.down (q.number == number) refl (is_packet_of t q) refl) in
    record {
      m = n;
      stage = stage_on sc t wants h (h ++ e ∷ []) n ground.home untouched stage;
      grows = (let none_is : count_by (is_entry_of t packets) (e ∷ []) ≡ 0 = rw none refl in omega (arith, none_is));
      ground = quiet_ground sc t h e ground (legal_push sc h e ground.legal way.guards.0) (λ y member. ne_eqb 0 y (λ e. let some : 1 ≤ y = up_some sc h y ground.legal (ground.up y member) in let clash : ⊥ = omega (arith, some, e) in clash));
    }
  where
    sent_all : (xs ys : List Entry) → sent (xs ++ ys) ≡ sent xs ++ sent ys
    sent_all xs ys = flat_map-append (λ e. outs_of e.act) xs ys

    none_any : (ps : List Packet) → ((q : Packet) → IsIn q ps → (q.number == number && is_packet_of t q) ≡ false) → list_any (λ q. q.number == number && is_packet_of t q) ps ≡ false
    none_any [] each = refl
    none_any (q ∷ ps) each = rw (each q (inl refl)) (none_any ps (λ x k. each x (inr k)))

    dropped : (p q : Packet) → IsIn p (pending sc h) → IsIn p packets → IsIn q packets → p.number ≡ number → is_up_at h p.to ≡ false → (b : Bool) → (q.number == number) ≡ b → (c : Bool) → is_packet_of t q ≡ c →
        (q.number == number && is_packet_of t q) ≡ false
    dropped p q has in_all k is down true same true of = absurd (
        let one : p ≡ q = one_packet 1 packets p q (subst (λ l. IsIn p l) way.numbers in_all) (subst (λ l. IsIn q l) way.numbers k) (is ∙ sym (eqb-true q.number number same)) in
        let of_p : is_packet_of t p ≡ true = ap (is_packet_of t) one ∙ of in
        true≢false (sym (ground.up p.to (goes_to sc t wants h p n ground.home stage has of_p)) ∙ down))
    dropped p q has in_all k is down true same false of = rw (same, of) refl
    dropped p q has in_all k is down false same c of = rw same refl
by_act sc t wants packets h more (suc s) (Drop number) n ground way stage = absurd way.guards.0
by_act sc t wants packets h more zero (Rise kept inc) n ground way stage = absurd way.guards.0
by_act sc t wants packets h more (suc s) (Rise kept inc) n ground way stage = absurd (rises_never sc h way.name (suc s) way.items way.guards.0.rising.turn)
by_act sc t wants packets h more zero (RiseFall kept inc why) n ground way stage = absurd way.guards.0
by_act sc t wants packets h more (suc s) (RiseFall kept inc why) n ground way stage = absurd (rises_never sc h way.name (suc s) way.items way.guards.0.rising.turn)
by_act sc t wants packets h more zero Miss n ground way stage = absurd way.guards.0
by_act sc t wants packets h more (suc s) Miss n ground way stage = absurd (rises_never sc h way.name (suc s) way.items way.guards.0.turn)
by_act sc t wants packets h more zero Cut n ground way stage = absurd way.guards.0
by_act sc t wants packets h more (suc s) Cut n ground way stage = absurd (let same : item.Commit way.name ∷ [] ≡ item.Crash (suc s) ∷ [] = sym way.items ∙ way.guards.0.crash in cc)
by_act sc t wants packets h more zero (Parts parts) n ground way stage = absurd (let none : None ≡ Some parts = sym (ap (parts_due sc) way.items) ∙ way.guards.0.due in cc)
by_act sc t wants packets h more (suc s) (Parts parts) n ground way stage = absurd way.guards.0
by_act sc t wants packets h more o (Line number) n ground way stage = absurd (let off : true ≡ false = way.line in cc)

pub record Walked (sc : Scenario) (t : Txn) (wants : ℕ → Expected) (packets : List Packet) (h more : List Entry) (n : ℕ) : Type 0 where
  pub m : ℕ
  pub stage : Stage sc t wants (h ++ more) m
  pub grows : n + count_by (is_entry_of t packets) more ≤ m

pub walk : (sc : Scenario) (t : Txn) (wants : ℕ → Expected) (packets : List Packet) (h more : List Entry) (n : ℕ) → Ground sc t h → Way sc t packets h more → Stage sc t wants h n → Walked sc t wants packets h more n
walk sc t wants packets h [] n ground way stage = record { m = n; stage = subst (λ k. Stage sc t wants k n) (sym (append-nil h)) stage; grows = omega arith }
walk sc t wants packets h (e ∷ more) n ground way stage =
    let next : Next sc t wants packets h e n = by_act sc t wants packets h more e.owner e.act n ground way stage in
    let lines_are = or_parts (is_line e) (list_any is_line more) way.line in
    let rest : Walked sc t wants packets (h ++ e ∷ []) more next.m = walk sc t wants packets (h ++ e ∷ []) more next.m next.ground (record {
      none = no_items_on sc h e lines_are.0 way.none;
      name = way.name;
      items = items_on sc h e lines_are.0 ∙ way.items;
      guards = way.guards.1;
      line = lines_are.1;
      falls = (or_parts (falls_at t.sites e) (list_any (falls_at t.sites) more) way.falls).1;
      once = (and_parts (list_all (λ p. not (is_packet_of t p) || is_once (fate_of sc h p)) (outs_of e.act)) (all_once sc t (h ++ e ∷ []) more) way.once).1;
      numbers = way.numbers;
      sub = λ q k. way.sub q (subst (λ l. IsIn q (sent l)) (append_assoc h (e ∷ []) more) k);
    }) next.stage in
    record {
      m = rest.m;
      stage = subst (λ k. Stage sc t wants k rest.m) (append_assoc h (e ∷ []) more) rest.stage;
      grows = (
          let both : count_by (is_entry_of t packets) (e ∷ more) ≡ count_by (is_entry_of t packets) (e ∷ []) + count_by (is_entry_of t packets) more = sum_by-append _ (e ∷ []) more in
          let first : n + count_by (is_entry_of t packets) (e ∷ []) ≤ next.m = next.grows in
          let second : next.m + count_by (is_entry_of t packets) more ≤ rest.m = rest.grows in
          omega (arith, both, first, second));
    }

-- where nothing is pending all have committed
pub ends_committed : (sc : Scenario) (t : Txn) (wants : ℕ → Expected) (h : List Entry) (n : ℕ) → pending sc h ≡ [] →
    ((came : List ℕ) → ((y : ℕ) → has_site (rest_of t) y ≡ true → has_site came y ≡ true) → is_quorum sc.weights (t.site ∷ came) t.sites ≡ true) →
    Stage sc t wants h n → Committed sc t h t.site × ((y : ℕ) → has_site (rest_of t) y ≡ true → Committed sc t h y)
ends_committed sc t wants h n empty covers (Stage.One o) = absurd (true≢false (sym (all_within (rest_of t) (λ y has. in_came y (o.each y has))) ∙ o.leads.few))
  where
    nothing_pends : (P : Packet → Bool) → list_any P (pending sc h) ≡ true → ⊥
    nothing_pends P some = true≢false (sym some ∙ ap (list_any P) empty)

    in_came : (y : ℕ) → First sc t wants h o.came y → has_site o.came y ≡ true
    in_came y (inl fresh) = absurd (nothing_pends _ fresh.asked)
    in_came y (inr (v, inl some)) = absurd (nothing_pends _ some)
    in_came y (inr (v, inr has)) = has

    in_rest : (a b : Bool) → b ≡ true → (a || b) ≡ true
    in_rest true b is = refl
    in_rest false b is = is

    all_within : (xs : List ℕ) → ((y : ℕ) → has_site xs y ≡ true → has_site o.came y ≡ true) → is_within xs o.came ≡ true
    all_within [] each = refl
    all_within (x ∷ xs) each = rw (each x (rw (self x) refl)) (all_within xs (λ y has. each y (in_rest (x == y) (has_site xs y) has)))
ends_committed sc t wants h n empty covers (Stage.Two o) = absurd (true≢false (sym (covers o.round.acked (λ y has. in_acked y (o.each y has))) ∙ o.leads.few))
  where
    nothing_pends : (P : Packet → Bool) → list_any P (pending sc h) ≡ true → ⊥
    nothing_pends P some = true≢false (sym some ∙ ap (list_any P) empty)

    in_acked : (y : ℕ) → Second sc t h o.round.acked y → has_site o.round.acked y ≡ true
    in_acked y (v, inl some) = absurd (nothing_pends _ some)
    in_acked y (v, inr (inl some)) = absurd (nothing_pends _ some)
    in_acked y (v, inr (inr has)) = has
ends_committed sc t wants h n empty covers (Stage.Three o) = (o.leads, λ y has. over y (o.each y has))
  where
    over : (y : ℕ) → Third sc t h y → Committed sc t h y
    over y (inl (v, some)) = absurd (true≢false (sym some ∙ ap (list_any _) empty))
    over y (inr is) = is
