-- What a node may take in one call, of what it was shown.
use Rattle.std.proofs.Common.{◌≡◌, ◌==◌, ◌||◌, ◌≤◌, ◌+◌, ◌++◌, ℕ, zero, suc, Bool, true, false, not, nat_le, List, length, map, take, drop, min, refl, sym, ap, subst, ◌∙◌, arith, eq-eqb}
use Rattle.std.proofs.lemmas.Bool.{leb-true}
use Rattle.std.proofs.lemmas.List.{length-map, length-take, take-append-drop}
use Rattle.std.proofs.lemmas.List.Elements.{All-cons, All-nil}
use Rattle.std.specs.Prelude.{All}
use Rattle.atomic_table.specs.Seated.{TableId}
use Rattle.e3_fleet.proofs.crew.Taking.{packets_may}
use Rattle.e3_fleet.specs.Fleets.{IsTaken}
use Rattle.e3_fleet.proofs.Holding.{held_last, may_put, owns_same, taken_on}
use Rattle.e3_disk.specs.Meaning.{Meaning}
use Rattle.e3_gate_runs.specs.AtOnce.{MayTakeAtOnce}
use Rattle.e3_laws.specs.local.Drafts.{MayTakeAll}
use Rattle.e3_laws.specs.local.Least.{AreFirstTo, queue_to}
use Rattle.e3_node.specs.NodeStands.{NodeStands}
use Rattle.e3_node.specs.NodeView.{NodeView}
use Rattle.e3_node.specs.Turns.{history_seen, scenario_seen}
use Rattle.e3_play.proofs.DueItems.{one_of_all, up_within}
use Rattle.e3_turn.specs.Passes.{GrewByOwners, Owns, SameOwners, seen_by}
use Rattle.e3_types.specs.declared.entries.Entry.{Entry}
use Rattle.e3_types.specs.declared.entries.Input.{Input}
use Rattle.e3_types.specs.declared.entries.Input.TheVariants as input
use Rattle.e3_types.specs.declared.messages.Packet.{Packet}
use Rattle.e3_types.specs.declared.scenarios.Scenario.{Scenario}
use Rattle.e3_wire.specs.Claims.{APass, HasNoted, HasOwner, HaveGrown, PlacesPromise}
use Rattle.e3_wire.specs.declared.marks.Mark.{Mark}
use Rattle.e3_wire.specs.declared.marks.Mark.TheVariants as mark
use Rattle.e3_wire.specs.declared.marks.Note.{Note}
use Rattle.e3_wire.specs.Marks.{belongs, entries_of, last_owner, note_of, places_for, scenario_of}
use Rattle.e3_wire.specs.Wires.{IsPlayed, first_few, places_left}
use Rattle.e3_world.specs.Items.{inputs_at, is_up_at, items_through, turn_of}
use Rattle.e3_world.specs.Legal.{IsLegal}
use Rattle.e3_world.specs.Packets.{is_calm, present_items}
use Rattle.e3_world.specs.Progress.{Through}
use Rattle.e3_world.proofs.Guards.{up_some}

-- all items are through at each site that is up
pub all_through : (sc : Scenario) (h : List Entry) → IsLegal sc h → items_through sc h ≡ true → Through sc h
all_through sc h legal all zero up = absurd (let one : 1 ≤ zero = up_some sc h zero legal up in omega (arith, one))
all_through sc h legal all (suc k) up =
    let few : suc k ≤ length sc.weights = up_within sc h (suc k) legal up in
    let one : (not (is_up_at h (suc k)) || nat_le (length (inputs_at sc h (suc k))) (turn_of h (suc k))) ≡ true =
    one_of_all (λ s. not (is_up_at h s) || nat_le (length (inputs_at sc h s)) (turn_of h s)) (length sc.weights) k (omega (arith, few)) all in
    let took : nat_le (length (inputs_at sc h (suc k))) (turn_of h (suc k)) ≡ true = sym (let same : (not (is_up_at h (suc k)) || nat_le (length (inputs_at sc h (suc k))) (turn_of h (suc k))) ≡ nat_le (length (inputs_at sc h (suc k))) (turn_of h (suc k)) = rw up refl in same) ∙ one in
    leb-true (length (inputs_at sc h (suc k))) (turn_of h (suc k)) took

-- promised places belong to their owner
owned : (last owner n : ℕ) → owner ≤ last → All (HasOwner last) (places_for owner n)
owned last owner zero low = All-nil (HasOwner last)
owned last owner (suc n) low = All-cons (HasOwner last) (mark.Place owner 0) (places_for owner n) (owner, low, eq-eqb owner owner refl) (owned last owner n low)

-- What was shown of what is shared: the first packets to a site, with a place for each, which were put back.
pub record Shown (wire : TableId) (marks : List Mark) (site : ℕ) (few : List Packet) (p : APass) : Type 0 where
  pub owns : Owns p site
  pub places : length few ≤ (note_of site (seen_by p)).places
  pub scenario : scenario_seen p ≡ scenario_of marks
  pub entries : history_seen p ≡ entries_of marks

module _ (law : PlacesPromise) (wire : TableId) (p : APass) (marks now : List Mark) (site most : ℕ) (few : List Packet)
    (taken : IsTaken wire p marks) (played : IsPlayed marks) (exists : site ≤ last_owner marks)
    (shown : few ≡ first_few marks site most) (is : now ≡ marks ++ places_for site (length few)) where
  abbrev queue : List Packet
  queue = queue_to (scenario_of marks) (entries_of marks) site

  -- no more than there are places left
  low : length few ≤ min most (places_left marks)
  low = let long : length few ≡ length (take (min most (places_left marks)) queue) = ap (λ (l : List Packet). length l) shown in
      let least = length-take (min most (places_left marks)) queue in omega (arith, long, least)

  pub few_enough : length few ≤ most
  few_enough = let l = low in omega (arith, l)

  noted : HasNoted site (record { places = (note_of site marks).places + length few; room = (note_of site marks).room }) marks (marks ++ places_for site (length few))
  noted = (law site (length few) marks played exists (let l = low in let within = played.within in omega (arith, l, within))).0

  grown : HaveGrown marks now
  grown = (places_for site (length few), is, owned (last_owner marks) site (length few) exists)

  pub taken_now : IsTaken wire p now
  taken_now = taken_on wire p marks now taken grown

  pub may_put_now : GrewByOwners belongs p now
  may_put_now = may_put wire p now taken_now

  -- behind the put
  pub shown_by : (q : APass) → SameOwners p q → seen_by q ≡ now → Shown wire marks site few q
  shown_by q same seen = record {
    owns = owns_same p q same taken.all site (let l = held_last wire p marks taken in let s = same.last in omega (arith, l, s, exists));
    places = (let P : List Mark → Type 0 = λ l. length few ≤ (note_of site l).places in
        subst P (sym (seen ∙ is)) (let own : (note_of site (marks ++ places_for site (length few))).places ≡ (note_of site marks).places + length few = ap (λ (n : Note). n.places) noted.noted in omega (arith, own)));
    scenario = ap scenario_of (seen ∙ is) ∙ noted.scenario;
    entries = ap entries_of (seen ∙ is) ∙ noted.entries;
  }

  abbrev pub rest : List Packet
  rest = drop (min most (places_left marks)) queue

  pub queue_is : queue ≡ few ++ rest
  queue_is = sym (take-append-drop (min most (places_left marks)) queue) ∙ ap (λ (l : List Packet). l ++ rest) (sym shown)

-- a list that is not empty
pub some_of : (n : ℕ) (b : Bool) → b ≡ (n == 0) → b ≡ false → 1 ≤ n
some_of zero b is full = absurd cc
some_of (suc n) b is full = omega arith

-- so they may be taken in one call
pub may_at_once : {D : Type 0} (meaning : Meaning D) (law : PlacesPromise) (wire : TableId) (p q : APass) (marks now : List Mark)
    (node : NodeView D) (site most : ℕ) (few : List Packet) (inputs : List Input) → most ≤ 8 → IsTaken wire p marks → IsPlayed marks → NodeStands meaning (scenario_of marks) (entries_of marks) node →
    site ≡ node.site → items_through (scenario_of marks) (entries_of marks) ≡ true → is_calm (present_items (scenario_of marks) (entries_of marks)) ≡ false →
    few ≡ first_few marks site most → now ≡ marks ++ places_for site (length few) → inputs ≡ map input.Deliver few → 1 ≤ length inputs →
    SameOwners p q → seen_by q ≡ now → IsPlayed (seen_by q) → MayTakeAtOnce meaning q node inputs
may_at_once meaning law wire p q marks now node site most few inputs at_most taken played stands is_site all calm shown is deliver some same seen played_on = record {
  owns = subst (λ (s : ℕ). Owns q s) is_site by.owns;
  played = played_on;
  stands = (let P : Scenario → Type 0 = λ k. NodeStands meaning k (history_seen q) node in
      let Q : List Entry → Type 0 = λ l. NodeStands meaning (scenario_of marks) l node in subst P (sym by.scenario) (subst Q (sym by.entries) stands));
  restless = (let P : Scenario → Type 0 = λ k. is_calm (present_items k (history_seen q)) ≡ false in
      let Q : List Entry → Type 0 = λ l. is_calm (present_items (scenario_of marks) l) ≡ false in subst P (sym by.scenario) (subst Q (sym by.entries) calm));
  few = (some, omega (arith, long, low_enough));
  due = λ up. (let P : Scenario → Type 0 = λ k. MayTakeAll k (history_seen q) node.site inputs in
      let Q : List Entry → Type 0 = λ l. MayTakeAll (scenario_of marks) l node.site inputs in
      let R : List Input → Type 0 = λ l. MayTakeAll (scenario_of marks) (entries_of marks) node.site l in
      let up_there : is_up_at (entries_of marks) node.site ≡ true = subst (λ (l : List Entry). is_up_at l node.site ≡ true) by.entries up in
      subst P (sym by.scenario) (subst Q (sym by.entries) (subst R (sym deliver)
      (packets_may (scenario_of marks) (entries_of marks) node.site few (rest law wire p marks now site most few taken played exists shown is) played.given played.legal stands.some up_there calm
      (all_through (scenario_of marks) (entries_of marks) played.legal all) queue_there))));
  first = λ up. (let P : Scenario → Type 0 = λ k. AreFirstTo k (history_seen q) node.site inputs in
      let Q : List Entry → Type 0 = λ l. AreFirstTo (scenario_of marks) l node.site inputs in
      subst P (sym by.scenario) (subst Q (sym by.entries) (record { packets = few; rest = rest law wire p marks now site most few taken played exists shown is; deliver = deliver; first = queue_there })));
  places = λ up. subst (λ (s : ℕ). length inputs ≤ (note_of s (seen_by q)).places) is_site (let places = by.places in omega (arith, long, places));
}
  where
    exists : site ≤ last_owner marks
    exists = let low = stands.exists in omega (arith, low, is_site)

    by : Shown wire marks site few q
    by = shown_by law wire p marks now site most few taken played exists shown is q same seen

    long : length inputs ≡ length few
    long = ap (λ (l : List Input). length l) deliver ∙ length-map few input.Deliver

    low_enough : length few ≤ 8
    low_enough = let low = few_enough law wire p marks now site most few taken played exists shown is in omega (arith, low, at_most)

    queue_there : queue_to (scenario_of marks) (entries_of marks) node.site ≡ few ++ rest law wire p marks now site most few taken played exists shown is
    queue_there = subst (λ (s : ℕ). queue_to (scenario_of marks) (entries_of marks) s ≡ few ++ rest law wire p marks now site most few taken played exists shown is) is_site
        (queue_is law wire p marks now site most few taken played exists shown is)
