-- Each entry of the step behind its Commit, and the whole walk to its end.
use Rattle.std.proofs.Common.{◌≡◌, ◌==◌, ◌||◌, ◌+◌, ◌≤◌, ◌∷◌, ◌++◌, [], ℕ, suc, Bool, true, false, not, List, refl, ap, sym, subst, ◌∙◌, if◌then◌else◌, length, eqb-true, eq-eqb, true≢false, arith, count_by}
use Rattle.std.specs.List.{list_all}
use Rattle.std.proofs.lemmas.Bool.{ne_eqb}
use Rattle.std.proofs.lemmas.List.Elements.{Contains-append_right}
use Rattle.std.proofs.lemmas.List.Sums.{sum_by-append}
use Rattle.e3_types.specs.declared.entries.Act.TheVariants.{Fall, Drop}
use Rattle.e3_types.specs.declared.entries.Entry.{Entry}
use Rattle.e3_types.specs.declared.entries.Input.{Input}
use Rattle.e3_types.specs.declared.entries.Input.TheVariants as input
use Rattle.e3_types.specs.declared.entries.Why.{Why}
use Rattle.e3_types.specs.declared.messages.Packet.{Packet}
use Rattle.e3_types.specs.declared.records.Record.{Record}
use Rattle.e3_types.specs.declared.scenarios.Scenario.{Scenario}
use Rattle.e3_types.specs.declared.transactions.Txn.{Txn}
use Rattle.e3_types.specs.Sets.{has_site}
use Rattle.e3_world.specs.declared.lives.Expected.{Expected}
use Rattle.e3_world.specs.Given.{IsGiven}
use Rattle.e3_world.specs.Items.{is_delivery, is_up_at}
use Rattle.e3_world.specs.Legal.{AreDue, IsDue, IsLegal, entry_of, made_by}
use Rattle.e3_world.specs.Moves.{moves_of, past_of, unnumbered_input}
use Rattle.e3_world.specs.Packets.{outs_of, pending, sent, taken_by, takes_input}
use Rattle.e3_world.proofs.Guards.{guard_step, up_some}
use Rattle.e3_world.proofs.Pushes.{legal_push}
use Rattle.e3_world.proofs.Readings.{own_other, up_same}
use Rattle.e3_world.proofs.Turns.{self}
use Rattle.e3_net.proofs.Pushing.{sent_push}
use Rattle.e3_laws.specs.agreement.Logs.{IsIn}
use Rattle.e3_laws.specs.agreement.Rows.{MayTake}
use Rattle.e3_laws.proofs.agreement.Refinement.Following.{in_from_contains}
use Rattle.e3_laws.proofs.agreement.Refinement.Lists.{in_right}
use Rattle.e3_laws.proofs.agreement.Fitting.{given_fit}
use Rattle.e3_laws.proofs.agreement.Histories.{due_taken, legal_made}
use Rattle.e3_laws.proofs.agreement.Telling.{sends_own}
use Rattle.e3_world.specs.declared.lives.Made.{Made}
use Rattle.e3_world.specs.Lives.{incarnation_of}
use Rattle.e3_world.specs.Moves.{moves_at, trail_of}
use Rattle.e3_world.specs.Sound.{WasSent}
use Rattle.e3_world.specs.Steps.{step_of}
use Rattle.e3_world.specs.Packets.{fate_of}
use Rattle.e3_world.proofs.Pushes.{step_unnumbered}
use Rattle.e3_world.proofs.Trails.{trail_moves}
use Rattle.e3_laws.specs.rounds.Commits.{is_once}
use Rattle.e3_laws.proofs.rounds.Commits.Beside.{other_packet}
use Rattle.e3_laws.proofs.rounds.Commits.Packets.{total}
use Rattle.e3_laws.proofs.rounds.Commits.Others.{all_in}
use Rattle.e3_laws.proofs.rounds.Commits.Turns.{turn_round}
use Rattle.e3_laws.proofs.rounds.Deliveries.Counted.{sent_away}
use Rattle.e3_laws.proofs.rounds.Tail.{pending_all}
use Rattle.e3_laws.specs.rounds.Commits.{is_packet_of}
use Rattle.e3_laws.proofs.rounds.Commits.Home.{Home, ack_three, ack_two, voice_one, voice_three, voice_two}
use Rattle.e3_laws.proofs.rounds.Commits.Others.{Apart, Untouched, one_in, other_on, stage_on}
use Rattle.e3_laws.proofs.rounds.Commits.Packets.{another, load_on, pending_stays}
use Rattle.e3_laws.proofs.rounds.Commits.Shapes.{Kind, is_shaped, kind_of, other_not, rest_of, weighs, weight_of}
use Rattle.e3_laws.proofs.rounds.Commits.Sites.{end_three, prepare_three, prepare_two, request_one, request_three, request_two}
use Rattle.e3_laws.proofs.rounds.Commits.Stages.{Ground, Stage, StageOne, StageThree, StageTwo, carries_same, weight}
use Rattle.e3_laws.proofs.rounds.Commits.Turns.{Turn, after, gathers_same, member_of, tries_same}
use Rattle.e3_laws.proofs.agreement.Standing.{numbered_from}

-- a delivery of one of the transaction's packets
reframe : (sc : Scenario) (t : Txn) (wants : ℕ → Expected) (h : List Entry) (p : Packet) (n : ℕ) → p.to ≡ t.site → Stage sc t wants (after sc h t.site p) n → Stage sc t wants (after sc h p.to p) n
reframe sc t wants h p n to stage = subst (λ s. Stage sc t wants (after sc h s p) n) (sym to) stage

home_of : (sc : Scenario) (t : Txn) (h : List Entry) (p : Packet) → Turn sc t h p.to p → p.to ≡ t.site → has_site (rest_of t) p.«from» ≡ true → Home sc t h p
home_of sc t h p turn to here = record { turn = subst (λ s. Turn sc t h s p) to turn; to = to; here = here }

-- what a delivery leaves
pub data Behind (sc : Scenario) (t : Txn) (wants : ℕ → Expected) (h : List Entry) (s : ℕ) (p : Packet) (n : ℕ) : Type 0 where
  Own : Stage sc t wants (after sc h s p) (suc n) → Behind sc t wants h s p n
  Beside : is_packet_of t p ≡ false → Apart sc t wants h s p → Stage sc t wants (after sc h s p) n → Behind sc t wants h s p n

beside : (sc : Scenario) (t : Txn) (wants : ℕ → Expected) (h : List Entry) (p : Packet) (n : ℕ) → Turn sc t h p.to p → other_packet t p ≡ true → Stage sc t wants h n → Behind sc t wants h p.to p n
beside sc t wants h p n turn other stage =
    let apart = other_on sc t wants h p.to p turn other in
    Behind.Beside (other_not t p other) apart (stage_on sc t wants h (after sc h p.to p) n turn.ground.home apart.untouched stage)

in_one : (sc : Scenario) (t : Txn) (wants : ℕ → Expected) (h : List Entry) (p : Packet) (n : ℕ) → Turn sc t h p.to p → StageOne sc t wants h n → Kind t wants 1 p → Behind sc t wants h p.to p n
in_one sc t wants h p n turn o (Kind.Request is sender here) = Behind.Own (request_one sc t wants h p n (record { turn = turn; here = here; sender = sender }) is o)
in_one sc t wants h p n turn o (Kind.Voice is to here) = Behind.Own (reframe sc t wants h p (suc n) to (voice_one sc t wants h p n (home_of sc t h p turn to here) is o))
in_one sc t wants h p n turn o (Kind.Preparing is sender here late) = absurd cc
in_one sc t wants h p n turn o (Kind.Acking is to here late) = absurd cc
in_one sc t wants h p n turn o (Kind.Ending is sender here late) = absurd cc
in_one sc t wants h p n turn o (Kind.Other other) = beside sc t wants h p n turn other (Stage.One o)

in_two : (sc : Scenario) (t : Txn) (wants : ℕ → Expected) (h : List Entry) (p : Packet) (n : ℕ) → Turn sc t h p.to p → StageTwo sc t wants h n → Kind t wants 2 p → Behind sc t wants h p.to p n
in_two sc t wants h p n turn o (Kind.Request is sender here) = Behind.Own (request_two sc t wants h p n (record { turn = turn; here = here; sender = sender }) is o)
in_two sc t wants h p n turn o (Kind.Voice is to here) = Behind.Own (reframe sc t wants h p (suc n) to (voice_two sc t wants h p n (home_of sc t h p turn to here) is o))
in_two sc t wants h p n turn o (Kind.Preparing is sender here late) = Behind.Own (prepare_two sc t wants h p n (record { turn = turn; here = here; sender = sender }) is o)
in_two sc t wants h p n turn o (Kind.Acking is to here late) = Behind.Own (reframe sc t wants h p (suc n) to (ack_two sc t wants h p n (home_of sc t h p turn to here) is o))
in_two sc t wants h p n turn o (Kind.Ending is sender here late) = absurd cc
in_two sc t wants h p n turn o (Kind.Other other) = beside sc t wants h p n turn other (Stage.Two o)

in_three : (sc : Scenario) (t : Txn) (wants : ℕ → Expected) (h : List Entry) (p : Packet) (n : ℕ) → Turn sc t h p.to p → StageThree sc t wants h n → Kind t wants 3 p → Behind sc t wants h p.to p n
in_three sc t wants h p n turn o (Kind.Request is sender here) = Behind.Own (request_three sc t wants h p n (record { turn = turn; here = here; sender = sender }) is o)
in_three sc t wants h p n turn o (Kind.Voice is to here) = Behind.Own (reframe sc t wants h p (suc n) to (voice_three sc t wants h p n (home_of sc t h p turn to here) is o))
in_three sc t wants h p n turn o (Kind.Preparing is sender here late) = Behind.Own (prepare_three sc t wants h p n (record { turn = turn; here = here; sender = sender }) is o)
in_three sc t wants h p n turn o (Kind.Acking is to here late) = Behind.Own (reframe sc t wants h p (suc n) to (ack_three sc t wants h p n (home_of sc t h p turn to here) is o))
in_three sc t wants h p n turn o (Kind.Ending is sender here late) = Behind.Own (end_three sc t wants h p n (record { turn = turn; here = here; sender = sender }) is o)
in_three sc t wants h p n turn o (Kind.Other other) = beside sc t wants h p n turn other (Stage.Three o)

pub delivered : (sc : Scenario) (t : Txn) (wants : ℕ → Expected) (h : List Entry) (p : Packet) (n : ℕ) → Turn sc t h p.to p → Stage sc t wants h n → Behind sc t wants h p.to p n
delivered sc t wants h p n turn (Stage.One o) = in_one sc t wants h p n turn o (kind_of t wants 1 p (one_in (is_shaped t wants 1) (pending sc h) p o.shaped turn.has))
delivered sc t wants h p n turn (Stage.Two o) = in_two sc t wants h p n turn o (kind_of t wants 2 p (one_in (is_shaped t wants 2) (pending sc h) p o.shaped turn.has))
delivered sc t wants h p n turn (Stage.Three o) = in_three sc t wants h p n turn o (kind_of t wants 3 p (one_in (is_shaped t wants 3) (pending sc h) p o.shaped turn.has))

-- the transaction's packets that are pending go to its sites
goes_in : (t : Txn) (wants : ℕ → Expected) (k : ℕ) (p : Packet) → has_site t.sites t.site ≡ true → is_packet_of t p ≡ true → Kind t wants k p → has_site t.sites p.to ≡ true
goes_in t wants k p home of (Kind.Request is sender here) = member_of t p.to here
goes_in t wants k p home of (Kind.Voice is to here) = ap (has_site t.sites) to ∙ home
goes_in t wants k p home of (Kind.Preparing is sender here late) = member_of t p.to here
goes_in t wants k p home of (Kind.Acking is to here late) = ap (has_site t.sites) to ∙ home
goes_in t wants k p home of (Kind.Ending is sender here late) = member_of t p.to here
goes_in t wants k p home of (Kind.Other other) = absurd (true≢false (sym of ∙ other_not t p other))

pub goes_to : (sc : Scenario) (t : Txn) (wants : ℕ → Expected) (h : List Entry) (p : Packet) (n : ℕ) → has_site t.sites t.site ≡ true → Stage sc t wants h n → IsIn p (pending sc h) → is_packet_of t p ≡ true →
    has_site t.sites p.to ≡ true
goes_to sc t wants h p n home (Stage.One o) has of = goes_in t wants 1 p home of (kind_of t wants 1 p (one_in (is_shaped t wants 1) (pending sc h) p o.shaped has))
goes_to sc t wants h p n home (Stage.Two o) has of = goes_in t wants 2 p home of (kind_of t wants 2 p (one_in (is_shaped t wants 2) (pending sc h) p o.shaped has))
goes_to sc t wants h p n home (Stage.Three o) has of = goes_in t wants 3 p home of (kind_of t wants 3 p (one_in (is_shaped t wants 3) (pending sc h) p o.shaped has))

-- an entry that sends nothing and is at none of the transaction's sites
idle : (sc : Scenario) (t : Txn) (wants : ℕ → Expected) (h : List Entry) (e : Entry) → outs_of e.act ≡ [] → ((y : ℕ) → has_site t.sites y ≡ true → (e.owner == y) ≡ false) → has_site t.sites t.site ≡ true →
    ((q : Packet) → IsIn q (pending sc h) → has_site t.sites q.to ≡ true → (taken_by q.number e.act == 0) ≡ true) → Untouched sc t wants h (h ++ e ∷ [])
idle sc t wants h e none apart home untaken = record {
  carries = λ y member. carries_same sc t h (h ++ e ∷ []) y (same y member);
  gathers = λ came g. gathers_same sc t h (h ++ e ∷ []) came (same t.site home) g;
  tries = λ r g. tries_same sc t h (h ++ e ∷ []) r (same t.site home) g;
  keeps = λ P of to. pending_stays P sc h e (all_in (λ q. not (P q) || taken_by q.number e.act == 0) (pending sc h) (λ q k. choose P q (P q) refl k (to q k)));
  shaped = λ j all. pending_all (is_shaped t wants j) sc h e all (ap (list_all (is_shaped t wants j)) none);
  lighter = (
      let on : weight sc t (h ++ e ∷ []) ≤ weight sc t h + total (weight_of t) (outs_of e.act) =
      load_on (weight_of t) (is_packet_of t) sc h e (ap (list_all (λ p. not (is_packet_of t p) || is_once (fate_of sc h p))) none) (weighs t).alone in
      let nothing_is : total (weight_of t) (outs_of e.act) ≡ 0 = ap (total (weight_of t)) none in
      omega (arith, on, nothing_is));
}
  where
    same : (y : ℕ) → has_site t.sites y ≡ true → moves_of sc (h ++ e ∷ []) y ≡ moves_of sc h y
    same y member = ap (λ l. (past_of sc y l).moves) (own_other y h e (apart y member))

    choose : (P : Packet → Bool) (q : Packet) → (b : Bool) → P q ≡ b → IsIn q (pending sc h) → (P q ≡ true → has_site t.sites q.to ≡ true) → (not (P q) || taken_by q.number e.act == 0) ≡ true
    choose P q true holds k to = rw holds (untaken q k (to holds))
    choose P q false fails k to = rw fails refl

-- what a fall takes goes to its site
abbrev Leaves : ℕ → ℕ → Packet → Bool
Leaves x n q = not (q.to == x) || (if n == q.number then 1 else 0) == 0

sent_own : (sc : Scenario) (h : List Entry) (site : ℕ) (i : Input) → IsGiven sc → IsLegal sc h → IsDue sc h site i → (is_delivery i ≡ false → MayTake site i) →
    (p : Packet) → IsIn p (made_by sc h site i).outs → p.«from» ≡ site
sent_own sc h site i given legal due fits =
    subst (λ z. (p : Packet) → IsIn p (step_of sc.weights site (incarnation_of z) i).outs → p.«from» ≡ site) (trail_moves sc site h)
    (subst (λ (m : Made). (p : Packet) → IsIn p m.outs → p.«from» ≡ site) (step_unnumbered sc.weights site (incarnation_of (moves_at site (trail_of sc h))) i)
    (sends_own sc (trail_of sc h) site (unnumbered_input i) (legal_made sc h legal (given_fit sc h given legal)) taken_is.0 taken_is.1 some_txn))
  where
    taken_is : MayTake site (unnumbered_input i) × WasSent (trail_of sc h) (unnumbered_input i)
    taken_is = due_taken sc h site i due fits

    some_txn : Txn
    some_txn = record { site = 0; inc = 0; seq = 0; sites = [] }

takes_none : (sc : Scenario) (h : List Entry) (site n : ℕ) (i : Input) → list_all (Leaves site n) (pending sc h) ≡ true → IsDue sc h site i → takes_input n i ≡ false
takes_none sc h site n (input.Deliver p) all due =
    let leaves : Leaves site n p ≡ true = one_in (Leaves site n) (pending sc h) p all (in_from_contains (pending sc h) p due.is_pending) in
    let at : (p.to == site) ≡ true = eq-eqb p.to site due.to in
    let zero_is : ((if n == p.number then 1 else 0) == 0) ≡ true = ap (λ b. not b || (if n == p.number then 1 else 0) == 0) (sym at) ∙ leaves in
    by (n == p.number) refl zero_is
  where
    by : (b : Bool) → (n == p.number) ≡ b → ((if n == p.number then 1 else 0) == 0) ≡ true → (p.number == n) ≡ false
    by true is zero_is = absurd (true≢false (sym zero_is ∙ ap (λ b. (if b then 1 else 0) == 0) is))
    by false is zero_is = turn_round n p.number is
takes_none sc h site n (input.Begin sites) all due = refl
takes_none sc h site n (input.Do t op) all due = refl
takes_none sc h site n (input.Commit t) all due = refl
takes_none sc h site n (input.Cancel t) all due = refl
takes_none sc h site n (input.Expire t) all due = refl
takes_none sc h site n (input.Elect t group) all due = refl

step_leaves : (sc : Scenario) (h : List Entry) (site n : ℕ) (i : Input) → IsGiven sc → IsLegal sc h → IsLegal sc (h ++ entry_of sc h site i ∷ []) → IsDue sc h site i →
    list_all (Leaves site n) (pending sc h) ≡ true → list_all (Leaves site n) (pending sc (h ++ entry_of sc h site i ∷ [])) ≡ true
step_leaves sc h site n i given legal legal_then due all = pending_all (Leaves site n) sc h e all (all_in (Leaves site n) (outs_of e.act) each)
  where
    e : Entry
    e = entry_of sc h site i

    fits : is_delivery i ≡ false → MayTake site i
    fits no_packet = given_fit sc (h ++ e ∷ []) given legal_then e (Contains-append_right h (e ∷ []) e (0, omega arith, refl)) i (0, omega arith, refl) no_packet

    each : (p : Packet) → IsIn p (outs_of e.act) → Leaves site n p ≡ true
    each p k =
        let q = numbered_from (suc (length (sent h))) (made_by sc h site i).outs p k in
        let mine : p.«from» ≡ site = q.2 ∙ sent_own sc h site i given legal due fits q.0 q.1 in
        let away : (p.to == p.«from») ≡ false = sent_away sc (h ++ e ∷ []) p given legal_then (subst (λ l. IsIn p l) (sym (sent_push h e)) (in_right p (sent h) (outs_of e.act) k)) in
        let other : (p.to == site) ≡ false = ap (λ s. p.to == s) (sym mine) ∙ away in
        rw other refl

fall_leaves : (sc : Scenario) (h : List Entry) (s n : ℕ) (inputs : List Input) → IsGiven sc → IsLegal sc h → is_up_at h (suc s) ≡ true →
    list_all (Leaves (suc s) n) (pending sc h) ≡ true → AreDue sc h (suc s) inputs → count_by (takes_input n) inputs ≡ 0
fall_leaves sc h s n [] given legal up all due = refl
fall_leaves sc h s n (i ∷ inputs) given legal up all due =
    let e : Entry = entry_of sc h (suc s) i in
    let then_legal : IsLegal sc (h ++ e ∷ []) = legal_push sc h e legal (guard_step sc h (suc s) i (omega arith) up due.0) in
    let then_up : is_up_at (h ++ e ∷ []) (suc s) ≡ true = up_same h e (suc s) (self (suc s)) ∙ up in
    let rest : count_by (takes_input n) inputs ≡ 0 = fall_leaves sc (h ++ e ∷ []) s n inputs given then_legal then_up (step_leaves sc h (suc s) n i given legal then_legal due.0 all) due.1 in
    let one : count_by (takes_input n) (i ∷ []) ≡ 0 = rw (takes_none sc h (suc s) n i all due.0) refl in
    let both : count_by (takes_input n) (i ∷ inputs) ≡ count_by (takes_input n) (i ∷ []) + count_by (takes_input n) inputs = sum_by-append _ (i ∷ []) inputs in
    omega (arith, one, rest, both)

pub fall_idle : (sc : Scenario) (t : Txn) (wants : ℕ → Expected) (h : List Entry) (s : ℕ) (inputs : List Input) (records : List Record) (why : Why) → Ground sc t h → has_site t.sites (suc s) ≡ false →
    is_up_at h (suc s) ≡ true → AreDue sc h (suc s) inputs → Untouched sc t wants h (h ++ record { owner = suc s; act = Fall inputs records why } ∷ [])
fall_idle sc t wants h s inputs records why ground out up due =
    idle sc t wants h (record { owner = suc s; act = Fall inputs records why }) refl (λ y member. differs y member (suc s == y) refl) ground.home
    (λ q k member. ap (λ n. n == 0) (fall_leaves sc h s q.number inputs ground.given ground.legal up (another (λ z. z.to == suc s) sc h q ground.counted k (turn_round (suc s) q.to (differs q.to member (suc s == q.to) refl))) due))
  where
    differs : (y : ℕ) → has_site t.sites y ≡ true → (b : Bool) → (suc s == y) ≡ b → (suc s == y) ≡ false
    differs y member true same = absurd (true≢false (sym (ap (has_site t.sites) (eqb-true (suc s) y same) ∙ member) ∙ out))
    differs y member false apart = apart

pub drop_idle : (sc : Scenario) (t : Txn) (wants : ℕ → Expected) (h : List Entry) (number : ℕ) (p : Packet) → Ground sc t h → IsIn p (pending sc h) → p.number ≡ number → is_up_at h p.to ≡ false →
    Untouched sc t wants h (h ++ record { owner = 0; act = Drop number } ∷ [])
drop_idle sc t wants h number p ground has is down =
    idle sc t wants h (record { owner = 0; act = Drop number }) refl (λ y member. ne_eqb 0 y (λ e. let some : 1 ≤ y = up_some sc h y ground.legal (ground.up y member) in let clash : ⊥ = omega (arith, some, e) in clash)) ground.home untaken
  where
    out : has_site t.sites p.to ≡ false
    out = by (has_site t.sites p.to) refl
      where
        by : (b : Bool) → has_site t.sites p.to ≡ b → has_site t.sites p.to ≡ false
        by true member = absurd (true≢false (sym (ground.up p.to member) ∙ down))
        by false member = member

    untaken : (q : Packet) → IsIn q (pending sc h) → has_site t.sites q.to ≡ true → (taken_by q.number (Drop number) == 0) ≡ true
    untaken q k member =
        let all : list_all (λ z. not (has_site t.sites z.to) || (if p.number == z.number then 1 else 0) == 0) (pending sc h) ≡ true = another (λ z. has_site t.sites z.to) sc h p ground.counted has out in
        let here : (not (has_site t.sites q.to) || (if p.number == q.number then 1 else 0) == 0) ≡ true = one_in (λ z. not (has_site t.sites z.to) || (if p.number == z.number then 1 else 0) == 0) (pending sc h) q all k in
        ap (λ m. (if m == q.number then 1 else 0) == 0) (sym is) ∙ ap (λ b. not b || (if p.number == q.number then 1 else 0) == 0) (sym member) ∙ here
