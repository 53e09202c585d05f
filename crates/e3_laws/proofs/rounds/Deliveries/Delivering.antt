-- One delivery of a round, by its packet without the number: which entry comes, what its step is, and the queue behind it.
use Rattle.std.proofs.Common.{◌≡◌, ◌+◌, ℕ, suc, Bool, true, false, List, [], ◌∷◌, ◌++◌, append-nil, append_assoc, length, ◌∙◌, ap, sym, subst, refl, map, count_by, arith}
use Rattle.std.proofs.lemmas.Grind.{flat_map-append}
use Rattle.std.proofs.lemmas.List.{map-append}
use Rattle.std.proofs.lemmas.List.Sums.{sum_by-append}
use Rattle.e3_types.specs.declared.entries.Entry.{Entry}
use Rattle.e3_types.specs.declared.entries.Input.TheVariants as input
use Rattle.e3_types.specs.declared.messages.Packet.{Packet}
use Rattle.e3_types.specs.declared.scenarios.Scenario.{Scenario}
use Rattle.e3_types.specs.Sets.{has_site}
use Rattle.e3_world.specs.declared.lives.At.{At}
use Rattle.e3_world.specs.declared.lives.Made.{Made}
use Rattle.e3_world.specs.Fate.{same_part}
use Rattle.e3_world.specs.Items.{RecoveryRound}
use Rattle.e3_world.specs.Legal.{entry_of, made_by, numbered}
use Rattle.e3_world.specs.Lives.{life_at}
use Rattle.e3_world.specs.Moves.{moves_of, unnumbered}
use Rattle.e3_world.specs.Packets.{is_calm, parts_of, sent}
use Rattle.e3_world.specs.Steps.{step_at}
use Rattle.e3_laws.specs.rounds.Queues.{IsQueue, are_within}
use Rattle.e3_laws.specs.rounds.Rounds.{ToldVerdict, is_own, ends_txn, verdicts_told}
use Rattle.e3_world.proofs.Numbers.{unnumber_numbered}
use Rattle.e3_laws.proofs.rounds.Deliveries.Queue.{delivery_shifts, delivery_shifts_any, staying}
use Rattle.e3_laws.proofs.rounds.Deliveries.Walking.{Next, Rest, goes_on}

-- the place where a site takes a packet that has no number
abbrev pub taking : Scenario → List Entry → Packet → At
taking sc h q = record { weights = sc.weights; site = q.to; life = life_at (moves_of sc h q.to); input = input.Deliver q }

-- the next entry of a round whose queue begins with this packet, and what it leaves
pub record Delivery (sc : Scenario) (members : List ℕ) (h more : List Entry) (q : Packet) (rest : List Packet) : Type 0 where
  pub p : Packet
  pub same : unnumbered p ≡ q
  pub later : List Entry
  pub is : more ≡ entry_of sc h q.to (input.Deliver p) ∷ later
  pub on : Rest sc members (h ++ entry_of sc h q.to (input.Deliver p) ∷ []) later
  pub made : made_by sc h q.to (input.Deliver p) ≡ step_at (taking sc h q)
  pub shifts : (made : Made) → step_at (taking sc h q) ≡ made → are_within (parts_of sc h) made.outs ≡ true →
      (queue : List Packet) × IsQueue sc (h ++ entry_of sc h q.to (input.Deliver p) ∷ []) queue × (map unnumbered queue ≡ rest ++ map unnumbered made.outs)
  pub shifts_any : (queue : List Packet) × IsQueue sc (h ++ entry_of sc h q.to (input.Deliver p) ∷ []) queue
      × (map unnumbered queue ≡ rest ++ staying (parts_of sc h) (map unnumbered (step_at (taking sc h q)).outs))

record First (q : Packet) (rest queue : List Packet) : Type 0 where
  p : Packet
  ps : List Packet
  is : queue ≡ p ∷ ps
  first : unnumbered p ≡ q
  others : map unnumbered ps ≡ rest

first_of : (queue : List Packet) (q : Packet) (rest : List Packet) → map unnumbered queue ≡ q ∷ rest → First q rest queue
first_of [] q rest is = absurd cc
first_of (p ∷ ps) q rest is = record { p = p; ps = ps; is = refl; first = cc; others = cc }

pub unnumbered_staying : (parts : List (List ℕ)) (ps : List Packet) → map unnumbered (staying parts ps) ≡ staying parts (map unnumbered ps)
unnumbered_staying parts [] = refl
unnumbered_staying parts (p ∷ ps) = by (unnumbered_staying parts ps) (same_part parts p.«from» p.to) refl
  where
    by : map unnumbered (staying parts ps) ≡ staying parts (map unnumbered ps) → (b : Bool) → same_part parts p.«from» p.to ≡ b →
        map unnumbered (staying parts (p ∷ ps)) ≡ staying parts (map unnumbered (p ∷ ps))
    by rest true is = rw is (ap (λ l. unnumbered p ∷ l) rest)
    by rest false is = rw is rest

pub deliver : (sc : Scenario) (members : List ℕ) (h more : List Entry) (queue : List Packet) (q : Packet) (left : List Packet) →
    Rest sc members h more → IsQueue sc h queue → map unnumbered queue ≡ q ∷ left → has_site members q.to ≡ true →
    Delivery sc members h more q left
deliver sc members h more queue q left rest is_queue is member = record {
  p = first.p;
  same = first.first;
  later = next.later;
  is = next.is ∙ ap (λ (s : ℕ). entry_of sc h s (input.Deliver first.p) ∷ next.later) to;
  on = subst (λ s. Rest sc members (h ++ entry_of sc h s (input.Deliver first.p) ∷ []) next.later) to next.rest;
  made = ap (λ (x : Packet). step_at (record { weights = sc.weights; site = q.to; life = life_at (moves_of sc h q.to); input = input.Deliver x })) first.first;
  shifts = λ made step within.
      let made_is : made_by sc h q.to (input.Deliver first.p) ≡ made = ap (λ (x : Packet). step_at (record { weights = sc.weights; site = q.to; life = life_at (moves_of sc h q.to); input = input.Deliver x })) first.first ∙ step in
      let P : ℕ → Type 0 = λ s. are_within (parts_of sc h) (made_by sc h s (input.Deliver first.p)).outs ≡ true →
      IsQueue sc (h ++ entry_of sc h s (input.Deliver first.p) ∷ []) (first.ps ++ numbered (suc (length (sent h))) (made_by sc h s (input.Deliver first.p)).outs) in
      let shifted : P q.to = subst P to (delivery_shifts sc h first.p first.ps ready (ap is_calm rest.recovers)) in (
        first.ps ++ numbered (suc (length (sent h))) (made_by sc h q.to (input.Deliver first.p)).outs,
        shifted (ap (λ (x : Made). are_within (parts_of sc h) x.outs) made_is ∙ within),
        map-append unnumbered first.ps (numbered (suc (length (sent h))) (made_by sc h q.to (input.Deliver first.p)).outs)
            ∙ ap (λ l. l ++ map unnumbered (numbered (suc (length (sent h))) (made_by sc h q.to (input.Deliver first.p)).outs)) first.others
            ∙ ap (λ l. left ++ l) (unnumber_numbered (suc (length (sent h))) (made_by sc h q.to (input.Deliver first.p)).outs ∙ ap (λ (x : Made). map unnumbered x.outs) made_is),
      );
  shifts_any = (
    first.ps ++ staying (parts_of sc h) new,
    subst (λ s. IsQueue sc (h ++ entry_of sc h s (input.Deliver first.p) ∷ []) (first.ps ++ staying (parts_of sc h) (numbered (suc (length (sent h))) (made_by sc h s (input.Deliver first.p)).outs))) to
        (delivery_shifts_any sc h first.p first.ps ready (ap is_calm rest.recovers)),
    map-append unnumbered first.ps (staying (parts_of sc h) new)
        ∙ ap (λ l. l ++ map unnumbered (staying (parts_of sc h) new)) first.others
        ∙ ap (λ l. left ++ l) (unnumbered_staying (parts_of sc h) new
        ∙ ap (staying (parts_of sc h)) (unnumber_numbered (suc (length (sent h))) (made_by sc h q.to (input.Deliver first.p)).outs ∙ ap (λ (x : Made). map unnumbered x.outs) made_is)),
  );
}
  where
    first : First q left queue
    first = first_of queue q left is

    new : List Packet
    new = numbered (suc (length (sent h))) (made_by sc h q.to (input.Deliver first.p)).outs

    made_is : made_by sc h q.to (input.Deliver first.p) ≡ step_at (taking sc h q)
    made_is = ap (λ (x : Packet). step_at (record { weights = sc.weights; site = q.to; life = life_at (moves_of sc h q.to); input = input.Deliver x })) first.first

    to : first.p.to ≡ q.to
    to = ap (λ (x : Packet). x.to) first.first

    ready : IsQueue sc h (first.p ∷ first.ps)
    ready = subst (IsQueue sc h) first.is is_queue

    next : Next sc members h more first.p
    next = goes_on sc members h more first.p first.ps rest ready (subst (λ s. has_site members s ≡ true) (sym to) member)

-- The entries of a round so far: so many own ones, these verdicts told.
pub record Entered (start h : List Entry) (r : RecoveryRound) (own : ℕ) (said : List ToldVerdict) : Type 0 where
  pub round : List Entry
  pub is : h ≡ start ++ round
  pub count : count_by (is_own r) round ≡ own
  pub says : verdicts_told r.txn round ≡ said

pub entered_on : (start h : List Entry) (r : RecoveryRound) (own : ℕ) (said : List ToldVerdict) (e : Entry) → Entered start h r own said → is_own r e ≡ true → verdicts_told r.txn (e ∷ []) ≡ [] →
    Entered start (h ++ e ∷ []) r (suc own) said
entered_on start h r own said e was mine quiet = record {
  round = was.round ++ e ∷ [];
  is = ap (λ l. l ++ e ∷ []) was.is ∙ append_assoc start was.round (e ∷ []);
  count = sum_by-append _ was.round (e ∷ []) ∙ (let one : count_by (is_own r) (e ∷ []) ≡ 1 = rw mine refl in let before : count_by (is_own r) was.round ≡ own = was.count in
      let all : count_by (is_own r) was.round + count_by (is_own r) (e ∷ []) ≡ suc own = omega (arith, one, before) in all);
  says = flat_map-append _ was.round (e ∷ []) ∙ ap (λ l. verdicts_told r.txn was.round ++ l) quiet ∙ append-nil (verdicts_told r.txn was.round) ∙ was.says;
}

-- a delivery of the round's own that tells nothing
pub entered_next : (sc : Scenario) (start h more : List Entry) (q : Packet) (left : List Packet) (r : RecoveryRound) (own : ℕ) (said : List ToldVerdict) (made : Made) →
    (d : Delivery sc r.members h more q left) → Entered start h r own said → has_site r.members q.«from» ≡ true → ends_txn r.txn q.msg ≡ true →
    step_at (taking sc h q) ≡ made → made.told ≡ [] →
    Entered start (h ++ entry_of sc h q.to (input.Deliver d.p) ∷ []) r (suc own) said
entered_next sc start h more q left r own said made d was by_member of_t step none =
    entered_on start h r own said (entry_of sc h q.to (input.Deliver d.p)) was mine quiet
  where
    mine : is_own r (entry_of sc h q.to (input.Deliver d.p)) ≡ true
    mine =
        let says : ends_txn r.txn d.p.msg ≡ true = ap (λ (x : Packet). ends_txn r.txn x.msg) d.same ∙ of_t in
        let sent_by : has_site r.members d.p.«from» ≡ true = ap (λ (x : Packet). has_site r.members x.«from») d.same ∙ by_member in
        rw (sent_by, says) refl

    quiet : verdicts_told r.txn (entry_of sc h q.to (input.Deliver d.p) ∷ []) ≡ []
    quiet = let told_is : (made_by sc h q.to (input.Deliver d.p)).told ≡ [] = ap (λ (x : Made). x.told) (d.made ∙ step) ∙ none in rw told_is refl

-- it is one of the round's own
pub own_next : (sc : Scenario) (h more : List Entry) (q : Packet) (left : List Packet) (r : RecoveryRound) → (d : Delivery sc r.members h more q left) →
    has_site r.members q.«from» ≡ true → ends_txn r.txn q.msg ≡ true → is_own r (entry_of sc h q.to (input.Deliver d.p)) ≡ true
own_next sc h more q left r d by_member of_t =
    let says : ends_txn r.txn d.p.msg ≡ true = ap (λ (x : Packet). ends_txn r.txn x.msg) d.same ∙ of_t in
    let sent_by : has_site r.members d.p.«from» ≡ true = ap (λ (x : Packet). has_site r.members x.«from») d.same ∙ by_member in
    rw (sent_by, says) refl

-- an entry of the round's own that tells verdicts
pub entered_told : (start h : List Entry) (r : RecoveryRound) (own : ℕ) (said more : List ToldVerdict) (e : Entry) → Entered start h r own said → is_own r e ≡ true →
    verdicts_told r.txn (e ∷ []) ≡ more → Entered start (h ++ e ∷ []) r (suc own) (said ++ more)
entered_told start h r own said more e was mine says = record {
  round = was.round ++ e ∷ [];
  is = ap (λ l. l ++ e ∷ []) was.is ∙ append_assoc start was.round (e ∷ []);
  count = sum_by-append _ was.round (e ∷ []) ∙ (let one : count_by (is_own r) (e ∷ []) ≡ 1 = rw mine refl in let before : count_by (is_own r) was.round ≡ own = was.count in
      let all : count_by (is_own r) was.round + count_by (is_own r) (e ∷ []) ≡ suc own = omega (arith, one, before) in all);
  says = flat_map-append _ was.round (e ∷ []) ∙ ap (λ l. verdicts_told r.txn was.round ++ l) says ∙ ap (λ l. l ++ more) was.says;
}
