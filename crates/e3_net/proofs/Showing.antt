-- What waits in a network that stands for a history is what is pending in it.
use Rattle.std.proofs.Common.{◌≡◌, ◌==◌, ◌<◌, ◌≤◌, ℕ, zero, suc, Bool, true, false, List, [], ◌∷◌, Some, None, ◌∙◌, ap, sym, subst, refl, map, length, arith, eqb-true, eq-eqb}
use Rattle.std.specs.Prelude.{find, option_map, slice_get, Contains}
use Rattle.std.specs.List.{slice_index_or}
use Rattle.e3_types.specs.declared.messages.Packet.{Packet}
use Rattle.e3_types.specs.declared.entries.Entry.{Entry}
use Rattle.e3_types.specs.declared.scenarios.Scenario.{Scenario}
use Rattle.e3_world.specs.Packets.{pending}
use Rattle.e3_net.specs.declared.waiting.Waiting.{Waiting}
use Rattle.e3_net.specs.Traffic.{Traffic, goes_to, packet_to}
use Rattle.e3_net.specs.Stands.{IsNext, NetStands}
use Rattle.e3_types.specs.declared.entries.Input.TheVariants.{Deliver}
use Rattle.e3_world.specs.Legal.{first_pending}
use Rattle.e3_net.specs.Claims.{FirstIsTaken, NothingPending, PendingAre, TakenIsLeast, TakenIsPending}
use Rattle.e3_net.proofs.Climbing.{Climbs}
use Rattle.e3_net.proofs.Keeping.{stands_waits}
use Rattle.e3_net.proofs.Pushing.{pending_waits}
use Rattle.e3_net.proofs.Taking.{found_of}

pub pending_are : PendingAre
pending_are sc h net was = sym (pending_waits sc h) ∙ ap (map (λ w. w.packet)) (sym was.waiting)

-- what is found is among the packets
behind : (p q : Packet) (ps : List Packet) → Contains ps p → Contains (q ∷ ps) p
behind p q ps has = let low : has.0 < length ps = has.1 in (suc has.0, omega (arith, low), has.2)

found_has : (site : ℕ) (ws : List Waiting) (w : Waiting) → find (goes_to site) ws ≡ Some w →
    Contains (map (λ w. w.packet) ws) w.packet × (w.packet.to ≡ site)
found_has site [] w found = absurd cc
found_has site (v ∷ ws) w found = by (goes_to site v) refl (found_has site ws w)
  where
    by : (b : Bool) → goes_to site v ≡ b → (find (goes_to site) ws ≡ Some w → Contains (map (λ w. w.packet) ws) w.packet × (w.packet.to ≡ site)) →
        Contains (map (λ w. w.packet) (v ∷ ws)) w.packet × (w.packet.to ≡ site)
    by true here more =
        let two : Some v ≡ Some w = sym (rw here refl) ∙ found in
        let same : v ≡ w = cc in
        subst (λ (u : Waiting). Contains (map (λ w. w.packet) (v ∷ ws)) u.packet × (u.packet.to ≡ site)) same ((0, omega arith, refl), eqb-true v.packet.to site here)
    by false other more =
        let there : Contains (map (λ w. w.packet) ws) w.packet × (w.packet.to ≡ site) = more (sym (rw other refl) ∙ found) in
        (behind w.packet v.packet (map (λ w. w.packet) ws) there.0, there.1)

pub taken_is_pending : TakenIsPending
taken_is_pending sc h net site p was is =
    let found : (w : Waiting) × (find (goes_to site) net.waiting ≡ Some w) × (w.packet ≡ p) = found_of (find (goes_to site) net.waiting) p is in
    let has : Contains (map (λ w. w.packet) net.waiting) found.0.packet × (found.0.packet.to ≡ site) = found_has site net.waiting found.0 found.1 in (
      subst (λ (q : Packet). Contains (pending sc h) q) found.2 (subst (λ (l : List Packet). Contains l found.0.packet) (sym (pending_are sc h net was)) has.0),
      subst (λ (q : Packet). q.to ≡ site) found.2 has.1,
    )

-- of those that go there it has the least number
all_above : (low : ℕ) (ws : List Waiting) (high : ℕ) → Climbs low ws high → (q : Packet) (i : ℕ) → i < length (map (λ w. w.packet) ws) →
    slice_index_or (map (λ w. w.packet) ws) i q ≡ q → low < q.number
all_above low [] high climbs q i within is = absurd (omega (arith, within))
all_above low (w ∷ ws) high climbs q zero within is = subst (λ (p : Packet). low < p.number) is climbs.0
all_above low (w ∷ ws) high climbs q (suc i) within is =
    let more : w.packet.number < q.number = all_above w.packet.number ws high climbs.2 q i (omega (arith, within)) is in
    let first : low < w.packet.number = climbs.0 in
    omega (arith, more, first)

least_found : (site low : ℕ) (ws : List Waiting) (high : ℕ) (w : Waiting) → Climbs low ws high → find (goes_to site) ws ≡ Some w →
    (q : Packet) (i : ℕ) → i < length (map (λ w. w.packet) ws) → slice_index_or (map (λ w. w.packet) ws) i q ≡ q → q.to ≡ site →
    w.packet.number ≤ q.number
least_found site low [] high w climbs found q i within is to = absurd cc
least_found site low (v ∷ ws) high w climbs found q i within is to =
    by (goes_to site v) refl i within is (λ f k. least_found site v.packet.number ws high w climbs.2 f q k)
  where
    by : (b : Bool) → goes_to site v ≡ b → (i : ℕ) → i < suc (length (map (λ w. w.packet) ws)) → slice_index_or (v.packet ∷ map (λ w. w.packet) ws) i q ≡ q →
        (find (goes_to site) ws ≡ Some w → (k : ℕ) → k < length (map (λ w. w.packet) ws) → slice_index_or (map (λ w. w.packet) ws) k q ≡ q → q.to ≡ site →
        w.packet.number ≤ q.number) → w.packet.number ≤ q.number
    by true here zero low is more =
        let two : Some v ≡ Some w = sym (rw here refl) ∙ found in
        let same : v ≡ w = cc in
        let one : w.packet.number ≡ q.number = ap (λ (u : Waiting). u.packet.number) (sym same) ∙ ap (λ (p : Packet). p.number) is in
        omega (arith, one)
    by true here (suc k) within is more =
        let two : Some v ≡ Some w = sym (rw here refl) ∙ found in
        let same : v ≡ w = cc in
        let above : v.packet.number < q.number = all_above v.packet.number ws high climbs.2 q k (omega (arith, within)) is in
        let one : w.packet.number ≡ v.packet.number = ap (λ (u : Waiting). u.packet.number) (sym same) in
        omega (arith, one, above)
    by false other zero within is more =
        let there : v.packet.to ≡ site = ap (λ (p : Packet). p.to) is ∙ to in
        let test : (v.packet.to == site) ≡ true = eq-eqb v.packet.to site there in absurd cc
    by false other (suc k) within is more = more (sym (rw other refl) ∙ found) k (omega (arith, within)) is to

pub taken_is_least : TakenIsLeast
taken_is_least sc h net site p was is q has to =
    let found : (w : Waiting) × (find (goes_to site) net.waiting ≡ Some w) × (w.packet ≡ p) = found_of (find (goes_to site) net.waiting) p is in
    let there : Contains (map (λ w. w.packet) net.waiting) q = subst (λ (l : List Packet). Contains l q) (pending_are sc h net was) has in
    subst (λ (x : Packet). x.number ≤ q.number) found.2
    (least_found site 0 net.waiting net.sent found.0 (stands_waits sc h net was).climbs found.1 q there.0 there.1 there.2 to)

-- where none is found, none of the packets goes there
none_found : (site : ℕ) (ws : List Waiting) → option_map (λ w. w.packet) (find (goes_to site) ws) ≡ None → (p : Packet) (i : ℕ) → i < length (map (λ w. w.packet) ws) →
    slice_index_or (map (λ w. w.packet) ws) i p ≡ p → p.to ≡ site → ⊥
none_found site [] none p i low is to = omega (arith, low)
none_found site (v ∷ ws) none p i low is to = by (goes_to site v) refl i low is (none_found site ws)
  where
    by : (b : Bool) → goes_to site v ≡ b → (i : ℕ) → i < suc (length (map (λ w. w.packet) ws)) → slice_index_or (v.packet ∷ map (λ w. w.packet) ws) i p ≡ p →
        (option_map (λ w. w.packet) (find (goes_to site) ws) ≡ None → (p : Packet) (i : ℕ) → i < length (map (λ w. w.packet) ws) →
        slice_index_or (map (λ w. w.packet) ws) i p ≡ p → p.to ≡ site → ⊥) → ⊥
    by true here i low is more = (let two : Some v.packet ≡ None = sym (rw here refl) ∙ none in absurd cc)
    by false other zero low is more =
        let there : v.packet.to ≡ site = ap (λ (q : Packet). q.to) is ∙ to in
        let test : (v.packet.to == site) ≡ true = eq-eqb v.packet.to site there in absurd cc
    by false other (suc k) low is more = more (sym (rw other refl) ∙ none) p k (omega (arith, low)) is to

pub nothing_pending : NothingPending
nothing_pending sc h net site was none p has to =
    let there : Contains (map (λ w. w.packet) net.waiting) p = subst (λ (l : List Packet). Contains l p) (pending_are sc h net was) has in
    none_found site net.waiting none p there.0 there.1 there.2 to

-- the first of all is the first to its receiver
first_found : (ws : List Waiting) (p : Packet) → slice_get (map (λ w. w.packet) ws) 0 ≡ Some p → option_map (λ w. w.packet) (find (goes_to p.to) ws) ≡ Some p
first_found [] p is = absurd cc
first_found (w ∷ ws) p is =
    let same : w.packet ≡ p = cc in
    let test : (w.packet.to == p.to) ≡ true = eq-eqb w.packet.to p.to (ap (λ (q : Packet). q.to) same) in
    rw test is

pub first_is_taken : FirstIsTaken
first_is_taken sc h net p was first = first_found net.waiting p (ap (λ l. slice_get l 0) (sym (pending_are sc h net was)) ∙ first)

-- what is taken for a site goes there, so it is the next delivery
pub goes_there : (net : Traffic) (site : ℕ) (p : Packet) → packet_to site net ≡ Some p → p.to ≡ site
goes_there net site p is =
    let found : (w : Waiting) × (find (goes_to site) net.waiting ≡ Some w) × (w.packet ≡ p) = found_of (find (goes_to site) net.waiting) p is in
    subst (λ (q : Packet). q.to ≡ site) found.2 (found_has site net.waiting found.0 found.1).1

pub is_next : (net : Traffic) (site : ℕ) (p : Packet) → packet_to site net ≡ Some p → IsNext net (Deliver p)
is_next net site p is = subst (λ s. packet_to s net ≡ Some p) (sym (goes_there net site p is)) is

-- the first that waits is the first that is pending
pub first_waits : (sc : Scenario) (h : List Entry) (net : Traffic) → NetStands sc h net →
    first_pending sc h ≡ option_map (λ w. w.packet) (slice_get net.waiting 0)
first_waits sc h net was = ap (λ l. slice_get l 0) (pending_are sc h net was) ∙ by net.waiting
  where
    by : (ws : List Waiting) → slice_get (map (λ w. w.packet) ws) 0 ≡ option_map (λ w. w.packet) (slice_get ws 0)
    by [] = refl
    by (w ∷ ws) = refl

-- where nothing waits nothing is pending
pub none_waits : (sc : Scenario) (h : List Entry) (net : Traffic) → NetStands sc h net → slice_get net.waiting 0 ≡ None → pending sc h ≡ []
none_waits sc h net was none = pending_are sc h net was ∙ ap (map (λ w. w.packet)) (by net.waiting none)
  where
    by : (ws : List Waiting) → slice_get ws 0 ≡ None → ws ≡ []
    by [] is = refl
    by (w ∷ ws) is = absurd cc
