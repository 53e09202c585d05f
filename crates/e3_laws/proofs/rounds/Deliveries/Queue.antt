-- What one entry of a calm step does to the queue.
use Rattle.std.proofs.Common.{◌≡◌, ◌-◌, ◌+◌, ◌<◌, ℕ, suc, Bool, true, false, List, [], ◌∷◌, ◌++◌, length, length-append, ◌∙◌, ap, sym, refl, map, filter, arith}
use Rattle.std.proofs.lemmas.Bool.{and_parts}
use Rattle.std.proofs.lemmas.List.{map-append}
use Rattle.e3_types.specs.declared.entries.Entry.{Entry}
use Rattle.e3_types.specs.declared.entries.Input.{Input}
use Rattle.e3_types.specs.declared.entries.Input.TheVariants as input
use Rattle.e3_types.specs.declared.messages.Packet.{Packet}
use Rattle.e3_types.specs.declared.scenarios.Scenario.{Scenario}
use Rattle.e3_world.specs.Fate.{copies_of, same_part}
use Rattle.e3_world.specs.Legal.{entry_of, made_by, numbered}
use Rattle.e3_world.specs.Packets.{sent, fate_of, is_calm, parts_of, present_items, taken}
use Rattle.e3_net.specs.declared.waiting.Waiting.{Waiting}
use Rattle.e3_net.specs.Traffic.{Traffic, wait}
use Rattle.e3_net.specs.Stands.{IsNext, NetStands, behind_input, given, waiting_of, without}
use Rattle.e3_net.proofs.Keeping.{stands_waits}
use Rattle.e3_net.proofs.Pushing.{numbers_on, pending_waits, sent_push, taken_push, waiting_push}
use Rattle.e3_net.proofs.Taking.{Waits, away_by, input_sent, input_takes}
use Rattle.e3_laws.specs.rounds.Claims.{DeliveryShifts, QueueBegins, QueueIsPending}
use Rattle.e3_laws.specs.rounds.Queues.{IsCounted, IsQueue, are_within, once}
use Rattle.e3_world.proofs.Turns.{self}

none_waits : (ws : List Waiting) → map (λ w. w.packet) ws ≡ [] → ws ≡ []
none_waits [] is = refl
none_waits (w ∷ ws) is = absurd cc

pub queue_begins : QueueBegins
queue_begins sc h counted none = record { counted = counted; waiting = none_waits (waiting_of sc h) (pending_waits sc h ∙ none) }

packets_once : (ps : List Packet) → map (λ w. w.packet) (map once ps) ≡ ps
packets_once [] = refl
packets_once (p ∷ ps) = ap (λ l. p ∷ l) (packets_once ps)

pub queue_is_pending : QueueIsPending
queue_is_pending sc h queue is = sym (pending_waits sc h) ∙ ap (map (λ w. w.packet)) is.waiting ∙ packets_once queue

-- the network as the history has it
abbrev net_of : Scenario → List Entry → Traffic
net_of sc h = record {
  luck = sc.luck;
  loss = sc.loss;
  repeat = sc.repeat;
  parts = parts_of sc h;
  calm = is_calm (present_items sc h);
  sent = length (sent h);
  waiting = waiting_of sc h;
}

net_stands : (sc : Scenario) (h : List Entry) → IsCounted sc h → NetStands sc h (net_of sc h)
net_stands sc h is = record {
  luck = refl;
  loss = refl;
  repeat = refl;
  parts = refl;
  calm = refl;
  count = refl;
  waiting = refl;
  numbers = is.numbers;
  untaken = is.untaken;
}

-- a packet within its part has one copy while the network is calm
one_copy : (sc : Scenario) (h : List Entry) (p : Packet) → is_calm (present_items sc h) ≡ true → same_part (parts_of sc h) p.«from» p.to ≡ true →
    copies_of (fate_of sc h p) ≡ 1
one_copy sc h p calm within = rw (within, calm) refl

new_once : (sc : Scenario) (h : List Entry) (t : ℕ → ℕ) (m : ℕ) (outs : List Packet) → is_calm (present_items sc h) ≡ true →
    are_within (parts_of sc h) outs ≡ true → ((k : ℕ) → m < k → t k ≡ 0) →
    without t (map (given sc h) (numbered (suc m) outs)) ≡ map once (numbered (suc m) outs)
new_once sc h t m [] calm within none = refl
new_once sc h t m (p ∷ ps) calm within none =
    let parts = and_parts (same_part (parts_of sc h) p.«from» p.to) (are_within (parts_of sc h) ps) within in
    let q : Packet = record p { number = suc m } in
    let zero_is : t (suc m) ≡ 0 = none (suc m) (omega arith) in
    let one : copies_of (fate_of sc h q) ≡ 1 = one_copy sc h q calm parts.0 in
    let all : copies_of (fate_of sc h q) - t (suc m) ≡ 1 = omega (arith, zero_is, one) in
    ap (λ k. wait q k ++ without t (map (given sc h) (numbered (suc (suc m)) ps))) all
    ∙ ap (λ l. once q ∷ l) (new_once sc h t (suc m) ps calm parts.1 (λ k above. none k (omega (arith, above))))

-- an entry with this input, where it leaves these packets
pub queue_entry : (sc : Scenario) (h : List Entry) (site : ℕ) (i : Input) (rest : List Packet) → IsCounted sc h → is_calm (present_items sc h) ≡ true →
    IsNext (net_of sc h) i → (behind_input (net_of sc h) i).waiting ≡ map once rest →
    are_within (parts_of sc h) (made_by sc h site i).outs ≡ true →
    IsQueue sc (h ++ entry_of sc h site i ∷ []) (rest ++ numbered (suc (length (sent h))) (made_by sc h site i).outs)
queue_entry sc h site i rest is calm next left within = record {
  counted = record {
    numbers = sent_push h e ∙ numbers_on (sent h) outs is.numbers ∙ ap (numbered 1) (sym (sent_push h e));
    untaken = λ n above. none n (let long : length (sent (h ++ e ∷ [])) ≡ length (sent h) + length new = ap length (sent_push h e) ∙ length-append (sent h) new in omega (arith, above, long));
  };
  waiting =
      waiting_push sc h e
      ∙ ap (λ l. l ++ without t (map (given sc h) new)) (input_takes (net_of sc h) i waits next ∙ left)
      ∙ ap (λ l. map once rest ++ l) (new_once sc h t (length (sent h)) outs calm within none)
      ∙ sym (map-append once rest new);
}
  where
    e : Entry
    e = entry_of sc h site i

    outs : List Packet
    outs = (made_by sc h site i).outs

    new : List Packet
    new = numbered (suc (length (sent h))) outs

    t : ℕ → ℕ
    t n = taken n (h ++ e ∷ [])

    waits : Waits (net_of sc h)
    waits = stands_waits sc h (net_of sc h) (net_stands sc h is)

    none : (n : ℕ) → length (sent h) < n → t n ≡ 0
    none n above =
        let one : taken n h ≡ 0 = is.untaken n above in
        let two : away_by i n ≡ 0 = input_sent (net_of sc h) i n waits next above in
        taken_push n h e ∙ (let both : taken n h + away_by i n ≡ 0 = omega (arith, one, two) in both)

pub delivery_shifts : DeliveryShifts
delivery_shifts sc h p ps is calm within =
    queue_entry sc h p.to (input.Deliver p) ps is.counted calm (rw (is.waiting, self p.to) refl) (rw (is.waiting, self p.to) refl) within

-- Packets to another part are split: what is sent waits where it stays in its part.
abbrev pub staying : List (List ℕ) → List Packet → List Packet
staying parts outs = filter (λ p. same_part parts p.«from» p.to) outs

new_staying : (sc : Scenario) (h : List Entry) (t : ℕ → ℕ) (m : ℕ) (outs : List Packet) → is_calm (present_items sc h) ≡ true →
    ((k : ℕ) → m < k → t k ≡ 0) →
    without t (map (given sc h) (numbered (suc m) outs)) ≡ map once (staying (parts_of sc h) (numbered (suc m) outs))
new_staying sc h t m [] calm none = refl
new_staying sc h t m (p ∷ ps) calm none =
    by (new_staying sc h t (suc m) ps calm (λ k above. none k (omega (arith, above)))) (same_part (parts_of sc h) p.«from» p.to) refl
  where
    q : Packet
    q = record p { number = suc m }

    zero_is : t (suc m) ≡ 0
    zero_is = none (suc m) (omega arith)

    by : without t (map (given sc h) (numbered (suc (suc m)) ps)) ≡ map once (staying (parts_of sc h) (numbered (suc (suc m)) ps)) →
        (b : Bool) → same_part (parts_of sc h) p.«from» p.to ≡ b →
        without t (map (given sc h) (numbered (suc m) (p ∷ ps))) ≡ map once (staying (parts_of sc h) (numbered (suc m) (p ∷ ps)))
    by rest true is =
        let one : copies_of (fate_of sc h q) ≡ 1 = one_copy sc h q calm is in
        let all : copies_of (fate_of sc h q) - t (suc m) ≡ 1 = omega (arith, zero_is, one) in
        ap (λ k. wait q k ++ without t (map (given sc h) (numbered (suc (suc m)) ps))) all
        ∙ ap (λ l. once q ∷ l) rest ∙ (let here : once q ∷ map once (staying (parts_of sc h) (numbered (suc (suc m)) ps)) ≡ map once (staying (parts_of sc h) (numbered (suc m) (p ∷ ps))) = rw is refl in here)
    by rest false is =
        let none_is : copies_of (fate_of sc h q) ≡ 0 = rw is refl in
        let all : copies_of (fate_of sc h q) - t (suc m) ≡ 0 = omega (arith, none_is) in
        ap (λ k. wait q k ++ without t (map (given sc h) (numbered (suc (suc m)) ps))) all
        ∙ rest ∙ (let here : map once (staying (parts_of sc h) (numbered (suc (suc m)) ps)) ≡ map once (staying (parts_of sc h) (numbered (suc m) (p ∷ ps))) = rw is refl in here)

-- an entry with this input in a calm step, where it leaves these packets: what it sends to other parts is lost
pub queue_entry_any : (sc : Scenario) (h : List Entry) (site : ℕ) (i : Input) (rest : List Packet) → IsCounted sc h → is_calm (present_items sc h) ≡ true →
    IsNext (net_of sc h) i → (behind_input (net_of sc h) i).waiting ≡ map once rest →
    IsQueue sc (h ++ entry_of sc h site i ∷ []) (rest ++ staying (parts_of sc h) (numbered (suc (length (sent h))) (made_by sc h site i).outs))
queue_entry_any sc h site i rest is calm next left = record {
  counted = record {
    numbers = sent_push h e ∙ numbers_on (sent h) outs is.numbers ∙ ap (numbered 1) (sym (sent_push h e));
    untaken = λ n above. none n (let long : length (sent (h ++ e ∷ [])) ≡ length (sent h) + length new = ap length (sent_push h e) ∙ length-append (sent h) new in omega (arith, above, long));
  };
  waiting =
      waiting_push sc h e
      ∙ ap (λ l. l ++ without t (map (given sc h) new)) (input_takes (net_of sc h) i waits next ∙ left)
      ∙ ap (λ l. map once rest ++ l) (new_staying sc h t (length (sent h)) outs calm none)
      ∙ sym (map-append once rest (staying (parts_of sc h) new));
}
  where
    e : Entry
    e = entry_of sc h site i

    outs : List Packet
    outs = (made_by sc h site i).outs

    new : List Packet
    new = numbered (suc (length (sent h))) outs

    t : ℕ → ℕ
    t n = taken n (h ++ e ∷ [])

    waits : Waits (net_of sc h)
    waits = stands_waits sc h (net_of sc h) (net_stands sc h is)

    none : (n : ℕ) → length (sent h) < n → t n ≡ 0
    none n above =
        let one : taken n h ≡ 0 = is.untaken n above in
        let two : away_by i n ≡ 0 = input_sent (net_of sc h) i n waits next above in
        taken_push n h e ∙ (let both : taken n h + away_by i n ≡ 0 = omega (arith, one, two) in both)

pub delivery_shifts_any : (sc : Scenario) (h : List Entry) (p : Packet) (ps : List Packet) → IsQueue sc h (p ∷ ps) → is_calm (present_items sc h) ≡ true →
    IsQueue sc (h ++ entry_of sc h p.to (input.Deliver p) ∷ []) (ps ++ staying (parts_of sc h) (numbered (suc (length (sent h))) (made_by sc h p.to (input.Deliver p)).outs))
delivery_shifts_any sc h p ps is calm =
    queue_entry_any sc h p.to (input.Deliver p) ps is.counted calm (rw (is.waiting, self p.to) refl) (rw (is.waiting, self p.to) refl)
