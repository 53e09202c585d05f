-- The first packets to a site are taken by that site alone, one after the other.
use Rattle.std.proofs.Common.{◌≡◌, ◌==◌, ◌-◌, inl, inr, ℕ, Bool, true, false, List, [], ◌∷◌, ◌++◌, append-nil, append_assoc, length, ◌∙◌, ap, sym, subst, refl, map, arith, eqb-true, Some}
use Rattle.std.specs.Prelude.{replicate}
use Rattle.e3_types.specs.declared.entries.Entry.{Entry}
use Rattle.e3_types.specs.declared.entries.Input.{Input}
use Rattle.e3_types.specs.declared.entries.Input.TheVariants as input
use Rattle.e3_types.specs.declared.messages.Packet.{Packet}
use Rattle.e3_types.specs.declared.scenarios.Scenario.{Scenario}
use Rattle.e3_world.specs.Legal.{Guard, LegalAfter, entry_of, made_by, numbered}
use Rattle.e3_world.specs.Packets.{outs_of, sent, taken, taken_by}
use Rattle.e3_net.specs.declared.waiting.Waiting.{Waiting}
use Rattle.e3_net.specs.Traffic.{Traffic, packet_to, queue_in, takes}
use Rattle.e3_net.specs.Stands.{AreNext, given, given_after, waiting_of, without}
use Rattle.e3_net.proofs.Pushing.{waiting_climbs, waiting_live, waiting_push}
use Rattle.e3_net.proofs.Queues.{queue_append, queue_first, queue_goes, queue_less, queue_wait_here, queue_wait_other}
use Rattle.e3_net.proofs.Taking.{Waits, input_takes, input_waits}
use Rattle.e3_laws.specs.local.Claims.{FirstAreWaiting, FrontIsLeast, QueueGoesOn, QueueStays}
use Rattle.e3_laws.specs.local.Least.{AreOfSites, queue_to}
use Rattle.e3_laws.specs.local.Others.{AreOthers, AreWaiting}
use Rattle.e3_laws.proofs.local.Laws.{legal_behind}
use Rattle.e3_laws.proofs.local.Least.{act_other, front, least_is, least_is_pending, legal_numbers, numbers_push, outs_numbered}
use Rattle.e3_laws.proofs.local.Packets.{given_sent, with_copies}
use Rattle.e3_laws.proofs.steps.Packets.{Among}

-- where none of the packets to the site is away, its queue stays
queue_without : (f : ℕ → ℕ) (site : ℕ) (ws : List Waiting) → ((q : Packet) → Among q (map (λ (w : Waiting). w.packet) ws) → q.to ≡ site → f q.number ≡ 0) →
    queue_in site (without f ws) ≡ queue_in site ws
queue_without f site [] none = refl
queue_without f site (w ∷ ws) none = by (w.packet.to == site) refl (queue_without f site ws (λ q has to. none q (inr has) to))
  where
    by : (b : Bool) → (w.packet.to == site) ≡ b → queue_in site (without f ws) ≡ queue_in site ws → queue_in site (without f (w ∷ ws)) ≡ queue_in site (w ∷ ws)
    by true here rest =
        let kept : f w.packet.number ≡ 0 = none w.packet (inl refl) (eqb-true w.packet.to site here) in
        let all : w.copies - f w.packet.number ≡ w.copies = omega (arith, kept) in
        queue_wait_here site w.packet (w.copies - f w.packet.number) (without f ws) here
        ∙ ap (λ (k : ℕ). replicate k w.packet ++ queue_in site (without f ws)) all
        ∙ ap (λ (l : List Packet). replicate w.copies w.packet ++ l) rest
        ∙ sym (let q : queue_in site (w ∷ ws) ≡ replicate w.copies w.packet ++ queue_in site ws = rw here refl in q)
    by false other rest =
        queue_wait_other site w.packet (w.copies - f w.packet.number) (without f ws) other ∙ rest
        ∙ sym (let q : queue_in site (w ∷ ws) ≡ queue_in site ws = rw other refl in q)

-- what an entry sends to the site
abbrev new_to : Scenario → List Entry → Entry → ℕ → List Packet
new_to sc h e site = queue_in site (without (λ n. taken n (h ++ e ∷ [])) (map (given sc h) (outs_of e.act)))

queue_push : (sc : Scenario) (h : List Entry) (e : Entry) (site : ℕ) →
    queue_to sc (h ++ e ∷ []) site ≡ queue_in site (without (λ n. taken_by n e.act) (waiting_of sc h)) ++ new_to sc h e site
queue_push sc h e site =
    ap (queue_in site) (waiting_push sc h e)
    ∙ queue_append site (without (λ n. taken_by n e.act) (waiting_of sc h)) (without (λ n. taken n (h ++ e ∷ [])) (map (given sc h) (outs_of e.act)))

-- an entry of another site leaves it
one_leaves : (sc : Scenario) (h : List Entry) (e : Entry) (site : ℕ) → sent h ≡ numbered 1 (sent h) → Guard sc h e → (e.owner == 0) ≡ false → (e.owner == site) ≡ false →
    queue_to sc (h ++ e ∷ []) site ≡ queue_to sc h site ++ new_to sc h e site
one_leaves sc h e site numbers guard some apart =
    queue_push sc h e site
    ∙ ap (λ (l : List Packet). l ++ new_to sc h e site)
    (queue_without (λ n. taken_by n e.act) site (waiting_of sc h) (λ q has to. act_other sc h site e.owner e.act q numbers (sent_of q has) to some apart guard))
  where
    sent_of : (q : Packet) → Among q (map (λ (w : Waiting). w.packet) (waiting_of sc h)) → Among q (sent h)
    sent_of q has = let R : List Packet → Type 0 = λ ps. Among q ps in subst R (given_sent sc [] h) (with_copies (λ n. taken n h) q (given_after sc [] h) has)

all_leave : (sc : Scenario) (h more : List Entry) (site : ℕ) → sent h ≡ numbered 1 (sent h) → LegalAfter sc h more → AreOthers site more → AreOfSites more →
    (new : List Packet) × (queue_to sc (h ++ more) site ≡ queue_to sc h site ++ new)
all_leave sc h [] site numbers legal others sites =
    ([], ap (λ (l : List Entry). queue_to sc l site) (append-nil h) ∙ sym (append-nil (queue_to sc h site)))
all_leave sc h (e ∷ more) site numbers legal others sites =
    let outs = outs_numbered sc h e.owner e.act legal.0 in
    let first : List Packet = new_to sc h e site in
    let rest = all_leave sc (h ++ e ∷ []) more site (numbers_push h e outs.0 outs.1 numbers) legal.1 others.2 sites.1 in (
      first ++ rest.0,
      ap (λ (l : List Entry). queue_to sc l site) (sym (append_assoc h (e ∷ []) more)) ∙ rest.1
          ∙ ap (λ (l : List Packet). l ++ rest.0) (one_leaves sc h e site numbers legal.0 sites.0 others.0)
          ∙ append_assoc (queue_to sc h site) first rest.0,
    )

pub queue_stays : QueueStays
queue_stays sc h more site legal others sites =
    all_leave sc h more site (legal_numbers sc h (front sc [] h more legal)) (legal_behind sc [] h more legal) others sites

pub front_is_least : FrontIsLeast
front_is_least sc h site p rest is = least_is sc h site ∙ queue_first site (waiting_of sc h) p rest (waiting_live sc h) is

-- the packets of a history as a network has them, whatever its luck
abbrev net_of : Scenario → List Entry → Traffic
net_of sc h = record { luck = 0; loss = 0; repeat = 0; parts = []; calm = false; sent = length (sent h); waiting = waiting_of sc h }

waits_of : (sc : Scenario) (h : List Entry) → sent h ≡ numbered 1 (sent h) → Waits (net_of sc h)
waits_of sc h numbers = record { climbs = waiting_climbs sc h numbers; live = waiting_live sc h }

-- a step that takes the first leaves the others at the front
takes_first : (sc : Scenario) (h : List Entry) (site : ℕ) (p : Packet) (rest : List Packet) → sent h ≡ numbered 1 (sent h) → queue_to sc h site ≡ p ∷ rest →
    (new : List Packet) × (queue_to sc (h ++ entry_of sc h site (input.Deliver p) ∷ []) site ≡ rest ++ new)
takes_first sc h site p rest numbers is = (
  new_to sc h e site,
  queue_push sc h e site ∙ ap (λ (l : List Packet). l ++ new_to sc h e site) (ap (queue_in site) taken_is ∙ less),
)
  where
    e : Entry
    e = entry_of sc h site (input.Deliver p)

    to : p.to ≡ site
    to = queue_goes site (waiting_of sc h) p rest (waiting_live sc h) is

    next : packet_to p.to (net_of sc h) ≡ Some p
    next = let P : ℕ → Type 0 = λ s. packet_to s (net_of sc h) ≡ Some p in subst P (sym to) (queue_first site (waiting_of sc h) p rest (waiting_live sc h) is)

    taken_is : without (λ n. taken_by n e.act) (waiting_of sc h) ≡ (takes p.to (net_of sc h)).waiting
    taken_is = input_takes (net_of sc h) (input.Deliver p) (waits_of sc h numbers) next

    less : queue_in site (takes p.to (net_of sc h)).waiting ≡ rest
    less =
        let P : ℕ → Type 0 = λ s. queue_in site (takes s (net_of sc h)).waiting ≡ rest in
        subst P (sym to) (queue_less site (waiting_of sc h) p rest (waiting_live sc h) is)

pub queue_goes_on : QueueGoesOn
queue_goes_on sc h site p rest legal is = takes_first sc h site p rest (legal_numbers sc h legal) is

-- each is pending behind the steps before it
packets_wait : (sc : Scenario) (h : List Entry) (site : ℕ) (ps rest : List Packet) → sent h ≡ numbered 1 (sent h) → queue_to sc h site ≡ ps ++ rest →
    AreWaiting sc h site (map input.Deliver ps)
packets_wait sc h site [] rest numbers is = tt
packets_wait sc h site (p ∷ ps) rest numbers is =
    let e : Entry = entry_of sc h site (input.Deliver p) in
    let on = takes_first sc h site p (ps ++ rest) numbers is in (
      (least_is_pending sc h site p (front_is_least sc h site p (ps ++ rest) is)).0,
      packets_wait sc (h ++ e ∷ []) site ps (rest ++ on.0) (numbers_push h e (made_by sc h site (input.Deliver p)).outs refl numbers) (on.1 ∙ append_assoc ps rest on.0),
    )

pub first_are_waiting : FirstAreWaiting
first_are_waiting sc h site inputs legal are =
    subst (λ (l : List Input). AreWaiting sc h site l) (sym are.deliver) (packets_wait sc h site are.packets are.rest (legal_numbers sc h legal) are.first)

-- and the next of a network, one after the other
pub first_are_next : (net : Traffic) (site : ℕ) (ps rest : List Packet) → Waits net → queue_in site net.waiting ≡ ps ++ rest → AreNext net (map input.Deliver ps)
first_are_next net site [] rest waits is = tt
first_are_next net site (p ∷ ps) rest waits is = (next, first_are_next (takes p.to net) site ps rest (input_waits net (input.Deliver p) waits next) less)
  where
    to : p.to ≡ site
    to = queue_goes site net.waiting p (ps ++ rest) waits.live is

    next : packet_to p.to net ≡ Some p
    next = let P : ℕ → Type 0 = λ s. packet_to s net ≡ Some p in subst P (sym to) (queue_first site net.waiting p (ps ++ rest) waits.live is)

    less : queue_in site (takes p.to net).waiting ≡ ps ++ rest
    less =
        let P : ℕ → Type 0 = λ s. queue_in site (takes s net).waiting ≡ ps ++ rest in
        subst P (sym to) (queue_less site net.waiting p (ps ++ rest) waits.live is)
