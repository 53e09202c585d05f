-- A fall over a delivery, also behind items: the packet was pending before the items, since these send packets of their own
-- site alone, and a site takes none of its own.
use Rattle.std.proofs.Common.{◌≡◌, ◌≤◌, ◌+◌, ◌-◌, ◌==◌, ◌∷◌, ◌++◌, [], ℕ, zero, suc, true, false, List, length, refl, sym, ap, subst, ◌∙◌, arith, map, count_by, eq-eqb, true≢false}
use Rattle.std.specs.Prelude.{Contains}
use Rattle.std.specs.List.{list_all, list_any, AllByRecursion as Each}
use Rattle.std.proofs.lemmas.Bool.{and_parts}
use Rattle.std.proofs.lemmas.List.{map-append}
use Rattle.std.proofs.lemmas.List.Elements.{recursion_from_All, All-contains_itself}
use Rattle.e3_types.specs.declared.entries.Entry.{Entry}
use Rattle.e3_types.specs.declared.entries.Input.{Input}
use Rattle.e3_types.specs.declared.entries.Input.TheVariants as input
use Rattle.e3_types.specs.declared.messages.Packet.{Packet}
use Rattle.e3_types.specs.declared.scenarios.Scenario.{Scenario}
use Rattle.e3_world.specs.Fate.{copies_of}
use Rattle.e3_world.specs.Given.{IsGiven}
use Rattle.e3_world.specs.Items.{is_delivery, is_up_at}
use Rattle.e3_world.specs.Legal.{AreDue, IsDue, IsLegal, entry_of, made_by, numbered}
use Rattle.e3_world.specs.Lives.{incarnation_of}
use Rattle.e3_world.specs.Moves.{moves_of}
use Rattle.e3_world.specs.Packets.{fate_of, pending, sent, taken, takes_input}
use Rattle.e3_world.proofs.Guards.{guard_step}
use Rattle.e3_world.proofs.Pushes.{legal_push}
use Rattle.e3_world.proofs.Readings.{up_same}
use Rattle.e3_net.specs.declared.waiting.Waiting.{Waiting}
use Rattle.e3_net.specs.Stands.{given, waiting_of, without}
use Rattle.e3_net.specs.Traffic.{wait}
use Rattle.e3_net.proofs.Copies.{without_none}
use Rattle.e3_net.proofs.Pushing.{pending_waits, waiting_live, waiting_push}
use Rattle.e3_net.proofs.Taking.{away_by, one_more}
use Rattle.e3_laws.proofs.steps.Each.{each-append, each-at, each-weaker}
use Rattle.e3_laws.proofs.steps.Suits.Laws.{inputs_suit}
use Rattle.e3_laws.proofs.local.Measure.Sources.{sends_own}

-- the packet comes from the site
abbrev IsFrom : ℕ → Packet → Type 0
IsFrom site q = (q.«from» == site) ≡ true

-- what a step makes pending
numbered_own : (site n : ℕ) (ps : List Packet) → list_all (λ p. p.«from» == site) ps ≡ true → list_all (λ p. p.«from» == site) (numbered n ps) ≡ true
numbered_own site n [] all = refl
numbered_own site n (p ∷ ps) all =
    let parts = and_parts (p.«from» == site) (list_all (λ p. p.«from» == site) ps) all in
    rw (parts.0, numbered_own site (suc n) ps parts.1) refl

wait_own : (site : ℕ) (p : Packet) (k : ℕ) → IsFrom site p → Each (IsFrom site) (map (λ w. w.packet) (wait p k))
wait_own site p zero is = tt
wait_own site p (suc k) is = (is, tt)

given_own : (sc : Scenario) (h : List Entry) (f : ℕ → ℕ) (site : ℕ) (ps : List Packet) → list_all (λ p. p.«from» == site) ps ≡ true →
    Each (IsFrom site) (map (λ w. w.packet) (without f (map (given sc h) ps)))
given_own sc h f site [] all = tt
given_own sc h f site (p ∷ ps) all =
    let parts = and_parts (p.«from» == site) (list_all (λ p. p.«from» == site) ps) all in
    let P : List Packet → Type 0 = λ l. Each (IsFrom site) l in
    subst P (sym (map-append (λ w. w.packet) (wait p (copies_of (fate_of sc h p) - f p.number)) (without f (map (given sc h) ps))))
    (each-append (IsFrom site) (map (λ w. w.packet) (wait p (copies_of (fate_of sc h p) - f p.number))) (map (λ w. w.packet) (without f (map (given sc h) ps)))
    (wait_own site p _ parts.0) (given_own sc h f site ps parts.1))

takes_none : (i : Input) (n : ℕ) → is_delivery i ≡ false → away_by i n ≡ 0
takes_none (input.Deliver p) n other = absurd cc
takes_none (input.Begin sites) n other = refl
takes_none (input.Do t op) n other = refl
takes_none (input.Commit t) n other = refl
takes_none (input.Cancel t) n other = refl
takes_none (input.Expire t) n other = refl
takes_none (input.Elect t group) n other = refl

-- what is pending behind an item's step, and comes from another site, was pending before
pending_before : (sc : Scenario) (h : List Entry) (site : ℕ) (i : Input) (p : Packet) → is_delivery i ≡ false → (p.«from» == site) ≡ false →
    Contains (pending sc (h ++ entry_of sc h site i ∷ [])) p → Contains (pending sc h) p
pending_before sc h site i p item other has = each-at Was (pending sc (h ++ e ∷ [])) p (subst (Each Was) (sym parts) both) has other
  where
    e : Entry
    e = entry_of sc h site i

    Was : Packet → Type 0
    Was q = (q.«from» == site) ≡ false → Contains (pending sc h) q

    new : List Waiting
    new = without (λ n. taken n (h ++ e ∷ [])) (map (given sc h) (numbered (suc (length (sent h))) (made_by sc h site i).outs))

    parts : pending sc (h ++ e ∷ []) ≡ pending sc h ++ map (λ w. w.packet) new
    parts =
        sym (pending_waits sc (h ++ e ∷ []))
        ∙ ap (map (λ w. w.packet)) (waiting_push sc h e ∙ ap (λ l. l ++ new) (without_none _ (waiting_of sc h) (waiting_live sc h) (λ n. takes_none i n item)))
        ∙ map-append (λ w. w.packet) (waiting_of sc h) new ∙ ap (λ l. l ++ map (λ w. w.packet) new) (pending_waits sc h)

    own : Each (IsFrom site) (map (λ w. w.packet) new)
    own = given_own sc h (λ n. taken n (h ++ e ∷ [])) site (numbered (suc (length (sent h))) (made_by sc h site i).outs)
        (numbered_own site (suc (length (sent h))) (made_by sc h site i).outs (sends_own sc.weights site (incarnation_of (moves_of sc h site)) i))

    both : Each Was (pending sc h ++ map (λ w. w.packet) new)
    both = each-append Was (pending sc h) (map (λ w. w.packet) new)
        (each-weaker (Contains (pending sc h)) Was (λ q is differs. is) (pending sc h) (recursion_from_All (Contains (pending sc h)) (pending sc h) (All-contains_itself (pending sc h))))
        (each-weaker (IsFrom site) Was (λ q is differs. absurd (true≢false (sym is ∙ differs))) (map (λ w. w.packet) new) own)

-- a pending packet that the inputs take
pub record Takes (sc : Scenario) (h : List Entry) (site : ℕ) (inputs : List Input) : Type 0 where
  pub packet : Packet
  pub is_pending : Contains (pending sc h) packet
  pub other : (packet.«from» == site) ≡ false
  pub taken : 1 ≤ count_by (takes_input packet.number) inputs

one_of : (p : Packet) → 1 ≤ away_by (input.Deliver p) p.number
one_of p = rw (eq-eqb p.number p.number refl) (omega arith)

-- it is also taken behind an item
behind_item : (sc : Scenario) (h : List Entry) (site : ℕ) (i : Input) (inputs : List Input) → is_delivery i ≡ false → Takes sc (h ++ entry_of sc h site i ∷ []) site inputs →
    Takes sc h site (i ∷ inputs)
behind_item sc h site i inputs item next = record {
  packet = next.packet;
  is_pending = pending_before sc h site i next.packet item next.other next.is_pending;
  other = next.other;
  taken = (let all : count_by (takes_input next.packet.number) (i ∷ inputs) ≡ away_by i next.packet.number + count_by (takes_input next.packet.number) inputs = one_more i inputs next.packet.number in
      let some : 1 ≤ count_by (takes_input next.packet.number) inputs = next.taken in
      omega (arith, all, some));
}

on : (sc : Scenario) (h : List Entry) (site : ℕ) (i : Input) → IsLegal sc h → 1 ≤ site → is_up_at h site ≡ true → IsDue sc h site i → IsLegal sc (h ++ entry_of sc h site i ∷ [])
on sc h site i legal one up due = legal_push sc h (entry_of sc h site i) legal (guard_step sc h site i one up due)

still : (sc : Scenario) (h : List Entry) (site : ℕ) (i : Input) → is_up_at h site ≡ true → is_up_at (h ++ entry_of sc h site i ∷ []) site ≡ true
still sc h site i up = up_same h (entry_of sc h site i) site (eq-eqb site site refl) ∙ up

pub fall_takes : (sc : Scenario) (h : List Entry) (site : ℕ) (inputs : List Input) → IsGiven sc → IsLegal sc h → 1 ≤ site → is_up_at h site ≡ true →
    AreDue sc h site inputs → list_any is_delivery inputs ≡ true → Takes sc h site inputs
fall_takes sc h site [] given legal one up due some = absurd cc
fall_takes sc h site (input.Deliver p ∷ inputs) given legal one up due some = record {
  packet = p;
  is_pending = due.0.is_pending;
  other = (inputs_suit sc h site (input.Deliver p) given legal due.0).1;
  taken = (let first : 1 ≤ away_by (input.Deliver p) p.number = one_of p in
      let all : count_by (takes_input p.number) (input.Deliver p ∷ inputs) ≡ away_by (input.Deliver p) p.number + count_by (takes_input p.number) inputs = one_more (input.Deliver p) inputs p.number in
      omega (arith, first, all));
}
fall_takes sc h site (input.Begin sites ∷ inputs) given legal one up due some = behind_item sc h site (input.Begin sites) inputs refl
    (fall_takes sc (h ++ entry_of sc h site (input.Begin sites) ∷ []) site inputs given (on sc h site (input.Begin sites) legal one up due.0) one (still sc h site (input.Begin sites) up) due.1 some)
fall_takes sc h site (input.Do t op ∷ inputs) given legal one up due some = behind_item sc h site (input.Do t op) inputs refl
    (fall_takes sc (h ++ entry_of sc h site (input.Do t op) ∷ []) site inputs given (on sc h site (input.Do t op) legal one up due.0) one (still sc h site (input.Do t op) up) due.1 some)
fall_takes sc h site (input.Commit t ∷ inputs) given legal one up due some = behind_item sc h site (input.Commit t) inputs refl
    (fall_takes sc (h ++ entry_of sc h site (input.Commit t) ∷ []) site inputs given (on sc h site (input.Commit t) legal one up due.0) one (still sc h site (input.Commit t) up) due.1 some)
fall_takes sc h site (input.Cancel t ∷ inputs) given legal one up due some = behind_item sc h site (input.Cancel t) inputs refl
    (fall_takes sc (h ++ entry_of sc h site (input.Cancel t) ∷ []) site inputs given (on sc h site (input.Cancel t) legal one up due.0) one (still sc h site (input.Cancel t) up) due.1 some)
fall_takes sc h site (input.Expire t ∷ inputs) given legal one up due some = behind_item sc h site (input.Expire t) inputs refl
    (fall_takes sc (h ++ entry_of sc h site (input.Expire t) ∷ []) site inputs given (on sc h site (input.Expire t) legal one up due.0) one (still sc h site (input.Expire t) up) due.1 some)
fall_takes sc h site (input.Elect t group ∷ inputs) given legal one up due some = behind_item sc h site (input.Elect t group) inputs refl
    (fall_takes sc (h ++ entry_of sc h site (input.Elect t group) ∷ []) site inputs given (on sc h site (input.Elect t group) legal one up due.0) one (still sc h site (input.Elect t group) up) due.1 some)
