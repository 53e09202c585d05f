-- The first packets to a site.
use Rattle.std.proofs.Common.{◌≡◌, ◌==◌, ◌+◌, ◌<◌, ◌≤◌, ◌⊎◌, ◌++◌, ◌∷◌, [], inl, inr, ℕ, zero, suc, Bool, true, false, List, length, leb, min, take, drop, replicate, refl, sym, ap, ◌∙◌, arith, Some}
use Rattle.std.proofs.lemmas.List.{length-take, take-append-drop}
use Rattle.std.proofs.lemmas.Bool.Decides.{leb_tells}
use Rattle.std.specs.Prelude.{None, find, option_map}
use Rattle.e3_fleet.specs.crew.Workers.{AreTheFirst, NonePending}
use Rattle.e3_laws.specs.local.Least.{IsLeastTo, queue_to}
use Rattle.e3_laws.proofs.local.Least.{least_is}
use Rattle.e3_net.proofs.Pushing.{waiting_live}
use Rattle.e3_net.proofs.Copies.{Live}
use Rattle.e3_net.specs.Stands.{waiting_of}
use Rattle.e3_net.specs.Traffic.{goes_to, queue_in}
use Rattle.e3_net.specs.declared.waiting.Waiting.{Waiting}
use Rattle.e3_types.specs.declared.entries.Entry.{Entry}
use Rattle.e3_types.specs.declared.messages.Packet.{Packet}
use Rattle.e3_types.specs.declared.scenarios.Scenario.{Scenario}
use Rattle.e3_wire.specs.Claims.{PlacesPromise}
use Rattle.e3_wire.specs.Marks.{entries_of, last_owner, most_of, places_for, scenario_of, used_of}
use Rattle.e3_wire.specs.Wires.{HasNoPlaceFor, IsPlayed, first_few, places_left}
use Rattle.e3_wire.specs.declared.marks.Mark.{Mark}
use Rattle.e3_world.specs.Items.{is_up_at}
use Rattle.e3_world.specs.Packets.{pending}

-- where no packet waits for a site, none is found
queue_none : (site : ℕ) (ws : List Waiting) → Live ws → queue_in site ws ≡ [] → option_map (λ (w : Waiting). w.packet) (find (goes_to site) ws) ≡ None
queue_none site [] live is = refl
queue_none site (w ∷ ws) live is = by (goes_to site w) refl w.copies refl (λ more. queue_none site ws live.1 more)
  where
    by : (b : Bool) → goes_to site w ≡ b → (c : ℕ) → w.copies ≡ c →
        (queue_in site ws ≡ [] → option_map (λ (x : Waiting). x.packet) (find (goes_to site) ws) ≡ None) →
        option_map (λ (x : Waiting). x.packet) (find (goes_to site) (w ∷ ws)) ≡ None
    by true here zero none more = absurd (let some : 1 ≤ w.copies = live.0 in omega (arith, some, none))
    by true here (suc c) some more = absurd
        (let whole : replicate w.copies w.packet ++ queue_in site ws ≡ [] =
        sym (let q : queue_in site (w ∷ ws) ≡ replicate w.copies w.packet ++ queue_in site ws = rw here refl in q) ∙ is in
        let parts : w.packet ∷ (replicate c w.packet ++ queue_in site ws) ≡ [] =
        sym (ap (λ (k : ℕ). replicate k w.packet ++ queue_in site ws) some) ∙ whole in cc)
    by false other c is_c more =
        let there : queue_in site ws ≡ [] = sym (let q : queue_in site (w ∷ ws) ≡ queue_in site ws = rw other refl in q) ∙ is in
        (let found : option_map (λ (x : Waiting). x.packet) (find (goes_to site) (w ∷ ws)) ≡ option_map (λ (x : Waiting). x.packet) (find (goes_to site) ws) = rw other refl in found)
        ∙ more there

pub no_least : (sc : Scenario) (h : List Entry) (site : ℕ) (p : Packet) → queue_to sc h site ≡ [] → IsLeastTo sc h site p → ⊥
no_least sc h site p none least =
    let nothing : find (λ q. q.to == site) (pending sc h) ≡ None = least_is sc h site ∙ queue_none site (waiting_of sc h) (waiting_live sc h) none in
    let both : Some p ≡ None = sym least ∙ nothing in cc

-- what was taken of the front of the queue is its front
pub are_first : (marks between : List Mark) (site n : ℕ) (few : List Packet) → few ≡ take n (queue_to (scenario_of between) (entries_of between) site) → n ≤ 8 →
    is_up_at (entries_of marks) site ≡ true → queue_to (scenario_of marks) (entries_of marks) site ≡ queue_to (scenario_of between) (entries_of between) site →
    AreTheFirst marks site few
are_first marks between site n few is low up same =
    let queue : List Packet = queue_to (scenario_of between) (entries_of between) site in
    let long : length few ≡ length (take n queue) = ap (λ (l : List Packet). length l) is in
    let least = length-take n queue in
    record {
      up = up;
      most = omega (arith, long, least, low);
      rest = drop n queue;
      queue = same ∙ sym (take-append-drop n queue) ∙ ap (λ (l : List Packet). l ++ drop n queue) (sym is);
    }

none_front : (n : ℕ) (queue : List Packet) → 1 ≤ n → take n queue ≡ [] → queue ≡ []
none_front zero queue some is = absurd (omega (arith, some))
none_front (suc n) [] some is = refl
none_front (suc n) (p ∷ queue) some is = absurd cc

-- where no packet is found, and not for want of a place, the queue is empty
queue_empty : (between : List Mark) (site most : ℕ) → 1 ≤ most → (HasNoPlaceFor between site most → ⊥) → first_few between site most ≡ [] →
    queue_to (scenario_of between) (entries_of between) site ≡ []
queue_empty between site most some left none = by (queue_to (scenario_of between) (entries_of between) site) refl (leb_tells (most_of between) (used_of between))
  where
    by : (queue : List Packet) → queue_to (scenario_of between) (entries_of between) site ≡ queue →
        ((leb (most_of between) (used_of between) ≡ true) × (most_of between ≤ used_of between)) ⊎ ((leb (most_of between) (used_of between) ≡ false) × (used_of between < most_of between)) →
        queue_to (scenario_of between) (entries_of between) site ≡ []
    by [] is room = is
    by (p ∷ queue) is (inl full) = absurd (left (some, (λ empty. (let both : p ∷ queue ≡ [] = sym is ∙ empty in cc)), full.1))
    by (p ∷ queue) is (inr less) =
        none_front (min most (places_left between)) (queue_to (scenario_of between) (entries_of between) site) (let l = less.1 in omega (arith, some, l)) none

pub none_left : (marks between : List Mark) (site most : ℕ) (few : List Packet) → few ≡ first_few between site most → 1 ≤ most → (HasNoPlaceFor between site most → ⊥) →
    queue_to (scenario_of marks) (entries_of marks) site ≡ queue_to (scenario_of between) (entries_of between) site → few ≡ [] → NonePending marks site
none_left marks between site most few is some left same empty = λ up p least.
    no_least (scenario_of marks) (entries_of marks) site p (same ∙ queue_empty between site most some left (sym is ∙ empty)) least

-- no more were found than are asked for, and than places are left
pub few_found : (between : List Mark) (site most : ℕ) (few : List Packet) → few ≡ first_few between site most → IsPlayed between →
    (length few ≤ most) × (used_of between + length few ≤ most_of between)
few_found between site most few is played =
    let queue : List Packet = queue_to (scenario_of between) (entries_of between) site in
    let long : length few ≡ length (take (min most (places_left between)) queue) = ap (λ (l : List Packet). length l) is in
    let least = length-take (min most (places_left between)) queue in
    let within = played.within in
    (omega (arith, long, least), omega (arith, long, least, within))

-- places that are promised leave the queue
pub same_queue : PlacesPromise → (between marks : List Mark) (site n : ℕ) → IsPlayed between → site ≤ last_owner between → used_of between + n ≤ most_of between →
    marks ≡ between ++ places_for site n → queue_to (scenario_of marks) (entries_of marks) site ≡ queue_to (scenario_of between) (entries_of between) site
same_queue law between marks site n played exists left is =
    let noted = (law site n between played exists left).0 in
    ap (λ (l : List Mark). queue_to (scenario_of l) (entries_of l) site) is
    ∙ ap (λ (sc : Scenario). queue_to sc (entries_of (between ++ places_for site n)) site) noted.scenario
    ∙ ap (λ (h : List Entry). queue_to (scenario_of between) h site) noted.entries
