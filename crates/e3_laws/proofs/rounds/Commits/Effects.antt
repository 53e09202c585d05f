-- What a delivery does to the logs, the lives and the packets, by what its rule makes.
use Rattle.std.proofs.Common.{◌≡◌, ◌&&◌, ◌||◌, ◌+◌, ◌≤◌, ◌<◌, ◌∷◌, ◌++◌, [], ℕ, suc, Bool, true, false, not, List, refl, ap, ◌∙◌, length, eq-eqb, arith, if◌then◌else◌}
use Rattle.std.specs.List.{list_all, list_any}
use Rattle.std.proofs.lemmas.Bool.{and_parts, ne_eqb}
use Rattle.std.proofs.lemmas.List.Folds.{list_any-append}
use Rattle.e3_types.specs.declared.entries.Entry.{Entry}
use Rattle.e3_types.specs.declared.entries.Input.{Input}
use Rattle.e3_types.specs.declared.entries.Input.TheVariants as input
use Rattle.e3_types.specs.declared.messages.Packet.{Packet}
use Rattle.e3_types.specs.declared.scenarios.Scenario.{Scenario}
use Rattle.e3_types.specs.declared.transactions.Txn.{Txn}
use Rattle.e3_world.specs.declared.lives.Life.{Life}
use Rattle.e3_world.specs.declared.lives.Made.{Made}
use Rattle.e3_world.specs.Legal.{entry_of, made_by, numbered}
use Rattle.e3_world.specs.Lives.{life_at}
use Rattle.e3_world.specs.Making.{nothing}
use Rattle.e3_world.specs.Moves.{log_of, moves_of, unnumbered_input}
use Rattle.e3_world.specs.Packets.{fate_of, outs_of, pending, sent, taken, taken_by, takes_input}
use Rattle.e3_world.specs.Operations.{waiting}
use Rattle.e3_types.specs.Same.{same_txn}
use Rattle.e3_world.specs.Steps.{on_input}
use Rattle.e3_net.specs.Stands.{waiting_of}
use Rattle.e3_net.proofs.Pushing.{taken_push}
use Rattle.e3_laws.specs.agreement.Logs.{IsIn}
use Rattle.e3_laws.proofs.rounds.Deliveries.Gathering.{life_on, moment_of}
use Rattle.e3_laws.proofs.steps.Moving.{log_on, place, place_log}
use Rattle.e3_laws.specs.rounds.Queues.{IsCounted}
use Rattle.e3_laws.proofs.rounds.Tail.{pending_all}
use Rattle.e3_laws.specs.rounds.Commits.{is_once, is_packet_of}
use Rattle.e3_laws.proofs.rounds.Commits.Beside.{Beside, Still, brings_none, other_packet, step_of_site, still_push}
use Rattle.e3_laws.proofs.rounds.Commits.Packets.{another, load, load_off, load_on, numbered_low, pending_new, pending_stays, total}
use Rattle.e3_laws.proofs.steps.Lists.{both_all}

-- the packets of the transaction among these have one copy each
abbrev pub OnceOnly : Scenario → Txn → List Entry → Entry → Type 0
OnceOnly sc t h e = list_all (λ p. not (is_packet_of t p) || is_once (fate_of sc h p)) (outs_of e.act) ≡ true

-- a test is blind to the numbers of packets
abbrev pub Blind : (Packet → Bool) → Type 0
Blind P = (p : Packet) (n : ℕ) → P (record p { number = n }) ≡ P p

blind_all : (P : Packet → Bool) → Blind P → (n : ℕ) (ps : List Packet) → list_all P (numbered n ps) ≡ list_all P ps
blind_all P blind n [] = refl
blind_all P blind n (p ∷ ps) = ap (λ b. b && list_all P (numbered (suc n) ps)) (blind p n) ∙ ap (λ b. P p && b) (blind_all P blind (suc n) ps)

blind_any : (P : Packet → Bool) → Blind P → (n : ℕ) (ps : List Packet) → list_any P (numbered n ps) ≡ list_any P ps
blind_any P blind n [] = refl
blind_any P blind n (p ∷ ps) = ap (λ b. b || list_any P (numbered (suc n) ps)) (blind p n) ∙ ap (λ b. P p || b) (blind_any P blind (suc n) ps)

blind_total : (w : Packet → ℕ) → ((p : Packet) (n : ℕ) → w (record p { number = n }) ≡ w p) → (n : ℕ) (ps : List Packet) → total w (numbered n ps) ≡ total w ps
blind_total w blind n [] = refl
blind_total w blind n (p ∷ ps) =
    let first : w (record p { number = n }) ≡ w p = blind p n in
    let rest : total w (numbered (suc n) ps) ≡ total w ps = blind_total w blind (suc n) ps in
    omega (arith, first, rest)

total_append : (w : Packet → ℕ) (xs ys : List Packet) → total w (xs ++ ys) ≡ total w xs + total w ys
total_append w [] ys = let unnumbered : total w ys ≡ 0 + total w ys = omega arith in unnumbered
total_append w (x ∷ xs) ys = let rest : total w (xs ++ ys) ≡ total w xs + total w ys = total_append w xs ys in omega (arith, rest)

pub total_none : (w : Packet → ℕ) (P : Packet → Bool) → ((p : Packet) → P p ≡ true → w p ≡ 0) → (ps : List Packet) → list_all P ps ≡ true → total w ps ≡ 0
total_none w P none [] all = refl
total_none w P none (p ∷ ps) all =
    let parts = and_parts (P p) (list_all P ps) all in
    let first : w p ≡ 0 = none p parts.0 in
    let rest : total w ps ≡ 0 = total_none w P none ps parts.1 in
    omega (arith, first, rest)

pub weaker : (P Q : Packet → Bool) → ((p : Packet) → P p ≡ true → Q p ≡ true) → (ps : List Packet) → list_all P ps ≡ true → list_all Q ps ≡ true
weaker P Q less [] all = refl
weaker P Q less (p ∷ ps) all = let parts = and_parts (P p) (list_all P ps) all in rw (less p parts.0) (weaker P Q less ps parts.1)

any_left : (P : Packet → Bool) (xs ys : List Packet) → list_any P xs ≡ true → list_any P (xs ++ ys) ≡ true
any_left P xs ys some = list_any-append P xs ys ∙ rw some refl

-- a step with this input, of which nothing is taken that was not sent, sends these packets and others
pub record Sends (sc : Scenario) (t : Txn) (h : List Entry) (s : ℕ) (i : Input) (outs : List Packet) : Type 0 where
  pub counted : IsCounted sc h
  pub once : OnceOnly sc t h (entry_of sc h s i)
  pub low : (n : ℕ) → length (sent h) < n → takes_input n i ≡ false
  pub dones : List Packet
  pub is : (made_by sc h s i).outs ≡ outs ++ dones
  pub others : list_all (other_packet t) dones ≡ true

pub sends_all : (sc : Scenario) (t : Txn) (h : List Entry) (s : ℕ) (i : Input) (outs : List Packet) (P : Packet → Bool) → Sends sc t h s i outs → Blind P →
    list_all P outs ≡ true → ((p : Packet) → other_packet t p ≡ true → P p ≡ true) → list_all P (outs_of (entry_of sc h s i).act) ≡ true
sends_all sc t h s i outs P sends blind all less =
    blind_all P blind (suc (length (sent h))) (made_by sc h s i).outs ∙ ap (list_all P) sends.is
    ∙ both_all P outs sends.dones all (weaker (other_packet t) P less sends.dones sends.others)

pub shapes_on : (sc : Scenario) (t : Txn) (h : List Entry) (s : ℕ) (i : Input) (outs : List Packet) (P : Packet → Bool) → Sends sc t h s i outs → Blind P →
    list_all P outs ≡ true → ((p : Packet) → other_packet t p ≡ true → P p ≡ true) → list_all P (pending sc h) ≡ true →
    list_all P (pending sc (h ++ entry_of sc h s i ∷ [])) ≡ true
shapes_on sc t h s i outs P sends blind all less was = pending_all P sc h (entry_of sc h s i) was (sends_all sc t h s i outs P sends blind all less)

pub comes : (sc : Scenario) (t : Txn) (h : List Entry) (s : ℕ) (i : Input) (outs : List Packet) (P : Packet → Bool) → Sends sc t h s i outs → Blind P →
    ((p : Packet) → P p ≡ true → is_packet_of t p ≡ true) → list_any P outs ≡ true → list_any P (pending sc (h ++ entry_of sc h s i ∷ [])) ≡ true
comes sc t h s i outs P sends blind of some =
    pending_new P (is_packet_of t) sc h (entry_of sc h s i) (made_by sc h s i).outs refl free sends.once of
    (blind_any P blind (suc (length (sent h))) (made_by sc h s i).outs ∙ ap (list_any P) sends.is ∙ any_left P outs sends.dones some)
  where
    free : (k : ℕ) → length (sent h) < k → taken k (h ++ entry_of sc h s i ∷ []) ≡ 0
    free k above =
        let old : taken k h ≡ 0 = sends.counted.untaken k above in
        let new : taken_by k (entry_of sc h s i).act ≡ 0 = ap (λ b. if b then 1 else 0) (sends.low k above) in
        taken_push k h (entry_of sc h s i) ∙ (let all : taken k h + taken_by k (entry_of sc h s i).act ≡ 0 = omega (arith, old, new) in all)

-- weights that are blind to numbers, and of the transaction alone
pub record Weighs (t : Txn) (w : Packet → ℕ) : Type 0 where
  pub blind : (p : Packet) (n : ℕ) → w (record p { number = n }) ≡ w p
  pub alone : (p : Packet) → is_packet_of t p ≡ false → w p ≡ 0
  pub other : (p : Packet) → other_packet t p ≡ true → w p ≡ 0

weight_sent : (sc : Scenario) (t : Txn) (h : List Entry) (s : ℕ) (i : Input) (outs : List Packet) (w : Packet → ℕ) → Weighs t w → Sends sc t h s i outs →
    total w (outs_of (entry_of sc h s i).act) ≡ total w outs
weight_sent sc t h s i outs w weighs sends =
    blind_total w weighs.blind (suc (length (sent h))) (made_by sc h s i).outs ∙ ap (total w) sends.is ∙ total_append w outs sends.dones
    ∙ (let none : total w sends.dones ≡ 0 = total_none w (other_packet t) weighs.other sends.dones sends.others in
    let all : total w outs + total w sends.dones ≡ total w outs = omega (arith, none) in all)

pub weight_on : (sc : Scenario) (t : Txn) (h : List Entry) (s : ℕ) (i : Input) (outs : List Packet) (w : Packet → ℕ) → Weighs t w → Sends sc t h s i outs →
    load w (waiting_of sc (h ++ entry_of sc h s i ∷ [])) ≤ load w (waiting_of sc h) + total w outs
weight_on sc t h s i outs w weighs sends =
    let is : total w (outs_of (entry_of sc h s i).act) ≡ total w outs = weight_sent sc t h s i outs w weighs sends in
    let less : load w (waiting_of sc (h ++ entry_of sc h s i ∷ [])) ≤ load w (waiting_of sc h) + total w (outs_of (entry_of sc h s i).act) = load_on w (is_packet_of t) sc h (entry_of sc h s i) sends.once weighs.alone in
    omega (arith, is, less)

pub weight_off : (sc : Scenario) (t : Txn) (h : List Entry) (s : ℕ) (p : Packet) (outs : List Packet) (w : Packet → ℕ) → Weighs t w → Sends sc t h s (input.Deliver p) outs →
    IsIn p (pending sc h) →
    load w (waiting_of sc (h ++ entry_of sc h s (input.Deliver p) ∷ [])) + w p ≤ load w (waiting_of sc h) + total w outs
weight_off sc t h s p outs w weighs sends has =
    let is : total w (outs_of (entry_of sc h s (input.Deliver p)).act) ≡ total w outs = weight_sent sc t h s (input.Deliver p) outs w weighs sends in
    let one : taken_by p.number (entry_of sc h s (input.Deliver p)).act ≡ 1 = ap (λ b. if b then 1 else 0) (eq-eqb p.number p.number refl) in
    let less : load w (waiting_of sc (h ++ entry_of sc h s (input.Deliver p) ∷ [])) + w p ≤ load w (waiting_of sc h) + total w (outs_of (entry_of sc h s (input.Deliver p)).act) =
    load_off w (is_packet_of t) sc h (entry_of sc h s (input.Deliver p)) p has (omega (arith, one)) sends.once weighs.alone in
    omega (arith, is, less)

-- what is pending beside the packet that is taken stays
pub stays : (sc : Scenario) (h : List Entry) (s : ℕ) (p : Packet) (P : Packet → Bool) → IsCounted sc h → IsIn p (pending sc h) → P p ≡ false →
    list_any P (pending sc h) ≡ true → list_any P (pending sc (h ++ entry_of sc h s (input.Deliver p) ∷ [])) ≡ true
stays sc h s p P counted has fails some = pending_stays P sc h (entry_of sc h s (input.Deliver p)) (another P sc h p counted has fails) some

pub low_delivery : (sc : Scenario) (h : List Entry) (p : Packet) → IsCounted sc h → IsIn p (pending sc h) → (n : ℕ) → length (sent h) < n → takes_input n (input.Deliver p) ≡ false
low_delivery sc h p counted has n above =
    let less : p.number ≤ length (sent h) = numbered_low sc h p counted has in
    ne_eqb p.number n (λ e. let clash : ⊥ = omega (arith, less, above, e) in clash)

-- a step of a site at which no operation of the transaction waits
pub record Stepped (sc : Scenario) (t : Txn) (h : List Entry) (s : ℕ) (i : Input) (was : Made) : Type 0 where
  pub beside : Beside t (place sc h s i) was (made_by sc h s i)
  pub log : log_of sc (h ++ entry_of sc h s i ∷ []) s ≡ log_of sc h s ++ was.records
  pub still : Still t s (log_of sc (h ++ entry_of sc h s i ∷ []) s) (life_at (moves_of sc (h ++ entry_of sc h s i ∷ []) s)).steps
  pub sends : Sends sc t h s i was.outs

pub stepped : (sc : Scenario) (t : Txn) (h : List Entry) (s : ℕ) (i : Input) (was : Made) → IsCounted sc h → OnceOnly sc t h (entry_of sc h s i) →
    ((n : ℕ) → length (sent h) < n → takes_input n i ≡ false) → brings_none (unnumbered_input i) ≡ true → Still t s (log_of sc h s) (life_at (moves_of sc h s)).steps →
    on_input (place sc h s i) (unnumbered_input i) nothing ≡ was → was.own ≡ [] → Stepped sc t h s i was
stepped sc t h s i was counted once low brings still is none = record {
  beside = beside;
  log = log_on sc h s i ∙ ap (λ l. log_of sc h s ++ l) beside.records;
  still = ap (λ l. list_any (λ q. same_txn t q.txn) (waiting s (log_of sc (h ++ entry_of sc h s i ∷ []) s) l)) (ap (λ (x : Life). x.steps) (life_on sc h s i))
      ∙ ap (λ l. list_any (λ q. same_txn t q.txn) (waiting s l ((life_at (moves_of sc h s)).steps ++ moment_of (life_at (moves_of sc h s)) i (made_by sc h s i) ∷ []))) (log_on sc h s i)
      ∙ still_push t s (log_of sc h s) (made_by sc h s i).records (life_at (moves_of sc h s)).steps (moment_of (life_at (moves_of sc h s)) i (made_by sc h s i)) brings still;
  sends = record { counted = counted; once = once; low = low; dones = beside.dones; is = beside.outs; others = beside.are_others };
}
  where
    beside : Beside t (place sc h s i) was (made_by sc h s i)
    beside = step_of_site t (place sc h s i) was is none brings (ap (λ l. list_any (λ q. same_txn t q.txn) (waiting s l (life_at (moves_of sc h s)).steps)) (place_log sc h s i) ∙ still)
