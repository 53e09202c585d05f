-- Packets to a site are taken by that site alone.
use Rattle.std.proofs.Common.{◌≡◌, ◌==◌, ◌-◌, ◌≤◌, inl, inr, ℕ, zero, suc, Bool, true, false, List, [], ◌∷◌, ◌++◌, append-nil, append_assoc, length, ◌∙◌, ap, sym, subst, refl, map, arith, count_by, eqb-true, eq-eqb, Option, Some}
use Rattle.std.specs.Prelude.{Contains, find, option_map, slice_get}
use Rattle.e3_types.specs.declared.entries.Act.{Act}
use Rattle.e3_types.specs.declared.entries.Act.TheVariants.{Step, Fall, Rise, RiseFall, Miss, Cut, Drop, Parts, Line}
use Rattle.e3_types.specs.declared.entries.Entry.{Entry}
use Rattle.e3_types.specs.declared.entries.Input.{Input}
use Rattle.e3_types.specs.declared.entries.Input.TheVariants as input
use Rattle.e3_types.specs.declared.messages.Packet.{Packet}
use Rattle.e3_types.specs.declared.scenarios.Scenario.{Scenario}
use Rattle.e3_world.specs.Legal.{AreDue, Guard, IsDue, IsLegal, LegalAfter, entry_of, made_by, numbered}
use Rattle.e3_world.specs.Packets.{outs_of, pending, sent, taken, taken_by, takes_input}
use Rattle.e3_laws.specs.local.Others.{AreOthers}
use Rattle.e3_laws.proofs.local.Laws.{legal_behind}
use Rattle.e3_net.specs.declared.waiting.Waiting.{Waiting}
use Rattle.e3_net.specs.Traffic.{goes_to, wait}
use Rattle.e3_net.specs.Stands.{given_after, waiting_of, without}
use Rattle.e3_net.proofs.Copies.{Live}
use Rattle.e3_net.proofs.Pushing.{numbers_on, pending_waits, sent_push, waiting_live, waiting_push}
use Rattle.e3_net.proofs.Taking.{away_by, one_more}
use Rattle.e3_laws.specs.local.Claims.{FirstIsLeast, LeastIsPending, LeastStays}
use Rattle.e3_laws.specs.local.Least.{AreOfSites, IsLeastTo}
use Rattle.e3_laws.proofs.local.Packets.{given_sent, with_copies}
use Rattle.e3_laws.proofs.steps.Packets.{Among, among, contains}

-- packets that are numbered one after the other: no two have one number
climbs : (n : ℕ) (ps : List Packet) (p : Packet) → ps ≡ numbered n ps → Among p ps → n ≤ p.number
climbs n [] p is has = absurd has
climbs n (x ∷ ps) p is (inl same) = let head : x ≡ record x { number = n } = cc in let one : x.number ≡ n = ap (λ (q : Packet). q.number) head in let two : x.number ≡ p.number = ap (λ (q : Packet). q.number) same in omega (arith, one, two)
climbs n (x ∷ ps) p is (inr more) = let tail : ps ≡ numbered (suc n) ps = cc in let rest : suc n ≤ p.number = climbs (suc n) ps p tail more in omega (arith, rest)

unique : (n : ℕ) (ps : List Packet) (p q : Packet) → ps ≡ numbered n ps → Among p ps → Among q ps → p.number ≡ q.number → p ≡ q
unique n [] p q is one two same = absurd one
unique n (x ∷ ps) p q is (inl a) (inl b) same = sym a ∙ b
unique n (x ∷ ps) p q is (inl a) (inr b) same =
    let head : x ≡ record x { number = n } = cc in let tail : ps ≡ numbered (suc n) ps = cc in
    let one : x.number ≡ n = ap (λ (r : Packet). r.number) head in let two : x.number ≡ p.number = ap (λ (r : Packet). r.number) a in
    let above : suc n ≤ q.number = climbs (suc n) ps q tail b in absurd (omega (arith, one, two, above, same))
unique n (x ∷ ps) p q is (inr a) (inl b) same =
    let head : x ≡ record x { number = n } = cc in let tail : ps ≡ numbered (suc n) ps = cc in
    let one : x.number ≡ n = ap (λ (r : Packet). r.number) head in let two : x.number ≡ q.number = ap (λ (r : Packet). r.number) b in
    let above : suc n ≤ p.number = climbs (suc n) ps p tail a in absurd (omega (arith, one, two, above, same))
unique n (x ∷ ps) p q is (inr a) (inr b) same = let tail : ps ≡ numbered (suc n) ps = cc in unique (suc n) ps p q tail a b same

-- the packets of a legal history are numbered from 1
pub outs_numbered : (sc : Scenario) (h : List Entry) (o : ℕ) (act : Act) → Guard sc h (record { owner = o; act = act }) →
    (outs : List Packet) × (outs_of act ≡ numbered (suc (length (sent h))) outs)
outs_numbered sc h zero (Step i records outs events) guard = absurd guard
outs_numbered sc h (suc s) (Step i records outs events) guard = ((made_by sc h (suc s) i).outs, ap (λ (e : Entry). outs_of e.act) guard.made)
outs_numbered sc h o (Fall inputs records why) guard = ([], refl)
outs_numbered sc h o (Rise kept inc) guard = ([], refl)
outs_numbered sc h o (RiseFall kept inc why) guard = ([], refl)
outs_numbered sc h o Miss guard = ([], refl)
outs_numbered sc h o Cut guard = ([], refl)
outs_numbered sc h o (Drop packet) guard = ([], refl)
outs_numbered sc h o (Parts parts) guard = ([], refl)
outs_numbered sc h o (Line number) guard = ([], refl)

pub numbers_push : (h : List Entry) (e : Entry) (outs : List Packet) → outs_of e.act ≡ numbered (suc (length (sent h))) outs → sent h ≡ numbered 1 (sent h) →
    sent (h ++ e ∷ []) ≡ numbered 1 (sent (h ++ e ∷ []))
numbers_push h e outs is was =
    sent_push h e ∙ ap (λ l. sent h ++ l) is ∙ numbers_on (sent h) outs was ∙ ap (numbered 1) (sym (sent_push h e ∙ ap (λ l. sent h ++ l) is))

numbers_after : (sc : Scenario) (before h : List Entry) → LegalAfter sc before h → sent before ≡ numbered 1 (sent before) → sent (before ++ h) ≡ numbered 1 (sent (before ++ h))
numbers_after sc before [] legal was = let P : List Entry → Type 0 = λ k. sent k ≡ numbered 1 (sent k) in subst P (sym (append-nil before)) was
numbers_after sc before (e ∷ h) legal was =
    let outs = outs_numbered sc before e.owner e.act legal.0 in
    let P : List Entry → Type 0 = λ k. sent k ≡ numbered 1 (sent k) in
    subst P (append_assoc before (e ∷ []) h) (numbers_after sc (before ++ e ∷ []) h legal.1 (numbers_push before e outs.0 outs.1 was))

pub legal_numbers : (sc : Scenario) (h : List Entry) → IsLegal sc h → sent h ≡ numbered 1 (sent h)
legal_numbers sc h legal = numbers_after sc [] h legal refl

-- what is pending was sent
was_sent : (sc : Scenario) (h : List Entry) (p : Packet) → Contains (pending sc h) p → Among p (sent h)
was_sent sc h p has =
    let R : List Packet → Type 0 = λ ps. Among p ps in
    let waits : Among p (map (λ w. w.packet) (waiting_of sc h)) = subst R (sym (pending_waits sc h)) (among p (pending sc h) has) in
    subst R (given_sent sc [] h) (with_copies (λ n. taken n h) p (given_after sc [] h) waits)

sent_on : (h : List Entry) (e : Entry) (p : Packet) → Among p (sent h) → Among p (sent (h ++ e ∷ []))
sent_on h e p has = let R : List Packet → Type 0 = λ ps. Among p ps in subst R (sym (sent_push h e)) (left (sent h) has)
  where
    left : (xs : List Packet) → Among p xs → Among p (xs ++ outs_of e.act)
    left [] has = absurd has
    left (x ∷ xs) (inl is) = inl is
    left (x ∷ xs) (inr more) = inr (left xs more)

-- another site does not take it
input_other : (sc : Scenario) (h : List Entry) (site other : ℕ) (p : Packet) (i : Input) → sent h ≡ numbered 1 (sent h) → Among p (sent h) → p.to ≡ site →
    (other == site) ≡ false → IsDue sc h other i → takes_input p.number i ≡ false
input_other sc h site other p (input.Begin sites) numbers has to apart due = refl
input_other sc h site other p (input.Do t op) numbers has to apart due = refl
input_other sc h site other p (input.Commit t) numbers has to apart due = refl
input_other sc h site other p (input.Cancel t) numbers has to apart due = refl
input_other sc h site other p (input.Expire t) numbers has to apart due = refl
input_other sc h site other p (input.Elect t group) numbers has to apart due = refl
input_other sc h site other p (input.Deliver q) numbers has to apart due = by (q.number == p.number) refl
  where
    by : (b : Bool) → (q.number == p.number) ≡ b → (q.number == p.number) ≡ false
    by false differs = differs
    by true same =
        let one : q ≡ p = unique 1 (sent h) q p numbers (was_sent sc h q due.is_pending) has (eqb-true q.number p.number same) in
        let at : other ≡ site = sym due.to ∙ ap (λ (r : Packet). r.to) one ∙ to in
        absurd (let yes : (other == site) ≡ true = eq-eqb other site at in let both : true ≡ false = sym yes ∙ apart in cc)

inputs_other : (sc : Scenario) (h : List Entry) (site other : ℕ) (p : Packet) (inputs : List Input) → sent h ≡ numbered 1 (sent h) → Among p (sent h) → p.to ≡ site →
    (other == site) ≡ false → AreDue sc h other inputs → count_by (takes_input p.number) inputs ≡ 0
inputs_other sc h site other p [] numbers has to apart due = refl
inputs_other sc h site other p (i ∷ inputs) numbers has to apart due =
    let e : Entry = entry_of sc h other i in
    let first : takes_input p.number i ≡ false = input_other sc h site other p i numbers has to apart due.0 in
    let rest : count_by (takes_input p.number) inputs ≡ 0 =
    inputs_other sc (h ++ e ∷ []) site other p inputs (numbers_push h e (made_by sc h other i).outs refl numbers) (sent_on h e p has) to apart due.1 in
    let all = one_more i inputs p.number in
    let none : away_by i p.number ≡ 0 = rw first refl in
    all ∙ (omega (arith, rest, none))

pub act_other : (sc : Scenario) (h : List Entry) (site o : ℕ) (act : Act) (p : Packet) → sent h ≡ numbered 1 (sent h) → Among p (sent h) → p.to ≡ site →
    (o == 0) ≡ false → (o == site) ≡ false → Guard sc h (record { owner = o; act = act }) → taken_by p.number act ≡ 0
act_other sc h site zero act p numbers has to some apart guard = absurd (let yes : (zero == 0) ≡ true = eq-eqb zero 0 refl in let both : true ≡ false = sym yes ∙ some in cc)
act_other sc h site (suc s) (Step i records outs events) p numbers has to some apart guard = rw (input_other sc h site (suc s) p i numbers has to apart guard.due) refl
act_other sc h site (suc s) (Fall inputs records why) p numbers has to some apart guard = inputs_other sc h site (suc s) p inputs numbers has to apart guard.due
act_other sc h site (suc s) (Rise kept inc) p numbers has to some apart guard = refl
act_other sc h site (suc s) (RiseFall kept inc why) p numbers has to some apart guard = refl
act_other sc h site (suc s) Miss p numbers has to some apart guard = refl
act_other sc h site (suc s) Cut p numbers has to some apart guard = refl
act_other sc h site (suc s) (Drop packet) p numbers has to some apart guard = absurd guard
act_other sc h site (suc s) (Parts parts) p numbers has to some apart guard = absurd guard
act_other sc h site (suc s) (Line number) p numbers has to some apart guard = absurd guard

-- the first packet to a site is found again where none to it is taken
abbrev pub found : ℕ → List Waiting → Option Packet
found site ws = option_map (λ w. w.packet) (find (goes_to site) ws)

wait_some : (site : ℕ) (p : Packet) (c : ℕ) (ws : List Waiting) → (p.to == site) ≡ true → 1 ≤ c → found site (wait p c ++ ws) ≡ Some p
wait_some site p zero ws here some = absurd (omega (arith, some))
wait_some site p (suc c) ws here some = rw here refl

wait_none : (site : ℕ) (p : Packet) (c : ℕ) (ws : List Waiting) → (p.to == site) ≡ false → found site (wait p c ++ ws) ≡ found site ws
wait_none site p zero ws other = refl
wait_none site p (suc c) ws other = rw other refl

find_again : (f : ℕ → ℕ) (site : ℕ) (ws new : List Waiting) (p : Packet) → Live ws → ((q : Packet) → Among q (map (λ w. w.packet) ws) → q.to ≡ site → f q.number ≡ 0) →
    found site ws ≡ Some p → found site (without f ws ++ new) ≡ Some p
find_again f site [] new p live none is = absurd cc
find_again f site (w ∷ ws) new p live none is = by (w.packet.to == site) refl (λ more. find_again f site ws new p live.1 (λ q has to. none q (inr has) to) more)
  where
    parts : without f (w ∷ ws) ++ new ≡ wait w.packet (w.copies - f w.packet.number) ++ (without f ws ++ new)
    parts = append_assoc (wait w.packet (w.copies - f w.packet.number)) (without f ws) new

    by : (b : Bool) → (w.packet.to == site) ≡ b → (found site ws ≡ Some p → found site (without f ws ++ new) ≡ Some p) → found site (without f (w ∷ ws) ++ new) ≡ Some p
    by true here more =
        let same : w.packet ≡ p = (let two : Some w.packet ≡ Some p = sym (rw here refl) ∙ is in cc) in
        let kept : f w.packet.number ≡ 0 = none w.packet (inl refl) (eqb-true w.packet.to site here) in
        let some : 1 ≤ w.copies = live.0 in
        ap (found site) parts ∙ wait_some site w.packet (w.copies - f w.packet.number) (without f ws ++ new) here (omega (arith, kept, some)) ∙ ap Some same
    by false other more =
        let there : found site ws ≡ Some p = sym (rw other refl) ∙ is in
        ap (found site) parts ∙ wait_none site w.packet (w.copies - f w.packet.number) (without f ws ++ new) other ∙ more there

find_map : (site : ℕ) (ws : List Waiting) → find (λ q. q.to == site) (map (λ w. w.packet) ws) ≡ found site ws
find_map site [] = refl
find_map site (w ∷ ws) = by (w.packet.to == site) refl (find_map site ws)
  where
    by : (b : Bool) → (w.packet.to == site) ≡ b → find (λ q. q.to == site) (map (λ w. w.packet) ws) ≡ found site ws →
        find (λ q. q.to == site) (map (λ w. w.packet) (w ∷ ws)) ≡ found site (w ∷ ws)
    by true here rest = rw here refl
    by false other rest = rw other rest

pub least_is : (sc : Scenario) (h : List Entry) (site : ℕ) → find (λ q. q.to == site) (pending sc h) ≡ found site (waiting_of sc h)
least_is sc h site = ap (find (λ q. q.to == site)) (sym (pending_waits sc h)) ∙ find_map site (waiting_of sc h)

one_stays : (sc : Scenario) (h : List Entry) (e : Entry) (site : ℕ) (p : Packet) → sent h ≡ numbered 1 (sent h) → Guard sc h e → (e.owner == 0) ≡ false → (e.owner == site) ≡ false →
    IsLeastTo sc h site p → IsLeastTo sc (h ++ e ∷ []) site p
one_stays sc h e site p numbers guard some apart is =
    least_is sc (h ++ e ∷ []) site ∙ ap (found site) (waiting_push sc h e)
    ∙ find_again (λ n. taken_by n e.act) site (waiting_of sc h) _ p (waiting_live sc h)
    (λ q has to. act_other sc h site e.owner e.act q numbers (sent_of q has) to some apart guard) (sym (least_is sc h site) ∙ is)
  where
    sent_of : (q : Packet) → Among q (map (λ w. w.packet) (waiting_of sc h)) → Among q (sent h)
    sent_of q has = let R : List Packet → Type 0 = λ ps. Among q ps in subst R (given_sent sc [] h) (with_copies (λ n. taken n h) q (given_after sc [] h) has)

all_stay : (sc : Scenario) (h more : List Entry) (site : ℕ) (p : Packet) → sent h ≡ numbered 1 (sent h) → LegalAfter sc h more → AreOthers site more → AreOfSites more →
    IsLeastTo sc h site p → IsLeastTo sc (h ++ more) site p
all_stay sc h [] site p numbers legal others sites is = let P : List Entry → Type 0 = λ k. IsLeastTo sc k site p in subst P (sym (append-nil h)) is
all_stay sc h (e ∷ more) site p numbers legal others sites is =
    let outs = outs_numbered sc h e.owner e.act legal.0 in
    let P : List Entry → Type 0 = λ k. IsLeastTo sc k site p in
    subst P (append_assoc h (e ∷ []) more)
    (all_stay sc (h ++ e ∷ []) more site p (numbers_push h e outs.0 outs.1 numbers) legal.1 others.2 sites.1
    (one_stays sc h e site p numbers legal.0 sites.0 others.0 is))

pub front : (sc : Scenario) (before h more : List Entry) → LegalAfter sc before (h ++ more) → LegalAfter sc before h
front sc before [] more legal = tt
front sc before (x ∷ h) more legal = (legal.0, front sc (before ++ x ∷ []) h more legal.1)

pub least_stays : LeastStays
least_stays sc h more site p legal others sites is =
    all_stay sc h more site p (legal_numbers sc h (front sc [] h more legal)) (legal_behind sc [] h more legal) others sites is

least_among : (site : ℕ) (ps : List Packet) (p : Packet) → find (λ q. q.to == site) ps ≡ Some p → Among p ps × (p.to ≡ site)
least_among site [] p is = absurd cc
least_among site (x ∷ ps) p is = by (x.to == site) refl (λ more. least_among site ps p more)
  where
    by : (b : Bool) → (x.to == site) ≡ b → (find (λ q. q.to == site) ps ≡ Some p → Among p ps × (p.to ≡ site)) → Among p (x ∷ ps) × (p.to ≡ site)
    by true here more =
        let same : x ≡ p = (let two : Some x ≡ Some p = sym (rw here refl) ∙ is in cc) in
        (inl same, sym (ap (λ (q : Packet). q.to) same) ∙ eqb-true x.to site here)
    by false other more = let rest = more (sym (rw other refl) ∙ is) in (inr rest.0, rest.1)

pub least_is_pending : LeastIsPending
least_is_pending sc h site p is = let both = least_among site (pending sc h) p is in (contains p (pending sc h) both.0, both.1)

first_among : (ps : List Packet) (p : Packet) → slice_get ps 0 ≡ Some p → find (λ q. q.to == p.to) ps ≡ Some p
first_among [] p is = absurd cc
first_among (x ∷ ps) p is =
    let same : x ≡ p = cc in
    let here : (x.to == p.to) ≡ true = eq-eqb x.to p.to (ap (λ (q : Packet). q.to) same) in
    (let found : find (λ (q : Packet). q.to == p.to) (x ∷ ps) ≡ Some x = rw here refl in found) ∙ ap Some same

pub first_is_least : FirstIsLeast
first_is_least sc h p is = first_among (pending sc h) p is
