-- Drops of the driver, and what they leave.
use Rattle.std.proofs.Common.{◌≡◌, ◌≢◌, ◌==◌, ◌+◌, ◌<◌, ◌≤◌, ◌++◌, ◌∷◌, [], ℕ, Bool, true, false, List, length, refl, sym, ap, subst, ◌∙◌, arith, append-nil, append_assoc, fold, Some}
use Rattle.std.specs.Prelude.{All, None, Option, find, is_some, slice_get, slice_index_or}
use Rattle.std.specs.List.{list_any}
use Rattle.std.proofs.lemmas.Bool.{ne_eqb}
use Rattle.std.proofs.lemmas.Grind.{fold-append}
use Rattle.std.proofs.lemmas.List.Elements.{All-nil, All-cons, All-head}
use Rattle.atomic_table.specs.Seated.{TableId}
use Rattle.e3_fleet.specs.crew.Crews.{HasGoneOn, IsCrew}
use Rattle.e3_fleet.specs.crew.Drops.{AreDrops, DropHadNoRoom, HasDropped}
use Rattle.e3_fleet.specs.crew.Turns.{AtStart, BehindOthers}
use Rattle.e3_fleet.specs.declared.crew.worker.Worker.{Worker}
use Rattle.e3_fleet.proofs.crew.Growing.{restless_on}
use Rattle.e3_disk.specs.Meaning.{Meaning}
use Rattle.e3_laws.specs.local.Others.{AreOthers}
use Rattle.e3_laws.proofs.local.Alike.{lines_still}
use Rattle.e3_node.specs.Claims.{NodesKeptByOthers}
use Rattle.e3_node.specs.NodeStands.{NodeStands}
use Rattle.e3_node.specs.NodeView.{NodeView, disk_of}
use Rattle.e3_node.specs.Turns.{history_seen, scenario_seen}
use Rattle.e3_play.specs.Delivered.{IsFullBefore, IsPacketDue}
use Rattle.e3_play.proofs.DuePackets.{packet_full, packet_owed}
use Rattle.e3_types.specs.declared.messages.Packet.{Packet}
use Rattle.e3_turn.specs.Passes.{GrewByOthers, IsIdle, OwnsAll, SameOwners, last_of, owners_of, seen_by}
use Rattle.e3_turn.specs.Chronicles.{IsForeign, count_of}
use Rattle.e3_types.specs.declared.entries.Act.TheVariants.{Drop}
use Rattle.e3_types.specs.declared.entries.Entry.{Entry}
use Rattle.e3_types.specs.declared.scenarios.Scenario.{Scenario}
use Rattle.e3_wire.specs.Claims.{APass, HasOwner, NothingPromised}
use Rattle.e3_wire.specs.declared.marks.Mark.{Mark}
use Rattle.e3_wire.specs.declared.marks.Mark.TheVariants as mark
use Rattle.e3_wire.specs.Marks.{NothingIsPromised, belongs, entries_of, last_owner, most_of, note_by, note_of, nothing, scenario_of, used_of}
use Rattle.e3_wire.specs.declared.marks.Note.{Note}
use Rattle.e3_wire.specs.Wires.{IsDroppedFor, IsPlayed}
use Rattle.e3_wire.proofs.Foreign.{entries_append}
use Rattle.e3_wire.proofs.Notes.{scenario_stays}
use Rattle.e3_world.specs.Items.{is_up_at}
use Rattle.e3_world.specs.Legal.{IsLegal, first_pending}
use Rattle.e3_world.specs.Packets.{is_calm, is_line, lines, pending, present_items}
use Rattle.e3_world.specs.Progress.{Delivering, Through}
use Rattle.e3_world.proofs.Readings.{up_other, up_same}
use Rattle.e3_world.proofs.Turns.{through_push}

abbrev drop_of : ℕ → Entry
drop_of number = record { owner = 0; act = Drop number }

pub dropped_none : (marks : List Mark) → HasDropped marks marks
dropped_none marks = record { drops = []; are = tt; is = sym (append-nil marks) }

drops_append : (xs ys : List Mark) → AreDrops xs → AreDrops ys → AreDrops (xs ++ ys)
drops_append [] ys first second = second
drops_append (mark.Entered e ∷ xs) ys first second = (first.0, drops_append xs ys first.1 second)
drops_append (mark.Start sc most ∷ xs) ys first second = absurd first
drops_append (mark.Place o n ∷ xs) ys first second = absurd first
drops_append (mark.Freed o ∷ xs) ys first second = absurd first

pub dropped_on : (a b c : List Mark) → HasDropped a b → HasDropped b c → HasDropped a c
dropped_on a b c first second = record {
  drops = first.drops ++ second.drops;
  are = drops_append first.drops second.drops first.are second.are;
  is = second.is ∙ ap (λ l. l ++ second.drops) first.is ∙ append_assoc a first.drops second.drops;
}

pub dropped_one : (before now : List Mark) (number : ℕ) → now ≡ before ++ mark.Entered (drop_of number) ∷ [] → HasDropped before now
dropped_one before now number is = record { drops = mark.Entered (drop_of number) ∷ []; are = ((number, refl), tt); is = is }

-- a fact that a drop leaves is left by all
all_leave : (P : List Entry → Type 0) → ((h : List Entry) (number : ℕ) → P h → P (h ++ drop_of number ∷ [])) → (drops : List Mark) (h : List Entry) → AreDrops drops → P h → P (h ++ entries_of drops)
all_leave P one [] h are was = subst P (sym (append-nil h)) was
all_leave P one (mark.Entered e ∷ drops) h are was =
    let d : ℕ = are.0.0 in
    let Q : Entry → Type 0 = λ x. P (h ++ x ∷ []) in
    subst P (append_assoc h (e ∷ []) (entries_of drops)) (all_leave P one drops (h ++ e ∷ []) are.1 (subst Q (sym are.0.1) (one h d was)))
all_leave P one (mark.Start sc most ∷ drops) h are was = absurd are
all_leave P one (mark.Place o n ∷ drops) h are was = absurd are
all_leave P one (mark.Freed o ∷ drops) h are was = absurd are

up_drop : (h : List Entry) (number s : ℕ) → is_up_at (h ++ drop_of number ∷ []) s ≡ is_up_at h s
up_drop h number s = by (0 == s) refl
  where
    by : (b : Bool) → (0 == s) ≡ b → is_up_at (h ++ drop_of number ∷ []) s ≡ is_up_at h s
    by true is = up_same h (drop_of number) s is
    by false is = up_other h (drop_of number) s is

pub dropped_entries : (before now : List Mark) → (d : HasDropped before now) → entries_of now ≡ entries_of before ++ entries_of d.drops
dropped_entries before now d = ap entries_of d.is ∙ entries_append before d.drops

pub dropped_up : (before now : List Mark) (s : ℕ) (b : Bool) → HasDropped before now → is_up_at (entries_of before) s ≡ b → is_up_at (entries_of now) s ≡ b
dropped_up before now s b d was =
    let P : List Entry → Type 0 = λ h. is_up_at h s ≡ b in
    subst P (sym (dropped_entries before now d)) (all_leave P (λ h number is. up_drop h number s ∙ is) d.drops (entries_of before) d.are was)

dropped_lines : (before now : List Mark) → HasDropped before now → lines (entries_of now) ≡ lines (entries_of before)
dropped_lines before now d =
    let P : List Entry → Type 0 = λ h. lines h ≡ lines (entries_of before) in
    subst P (sym (dropped_entries before now d)) (all_leave P (λ h number is. lines_still h (drop_of number) refl ∙ is) d.drops (entries_of before) d.are refl)

pub dropped_restless : (before now : List Mark) → IsPlayed before → HasDropped before now →
    is_calm (present_items (scenario_of before) (entries_of before)) ≡ false → is_calm (present_items (scenario_of now) (entries_of now)) ≡ false
dropped_restless before now played d calm =
    let P : Scenario → Type 0 = λ sc. is_calm (present_items sc (entries_of now)) ≡ false in
    subst P (sym (ap scenario_of d.is ∙ (scenario_stays before d.drops played).0)) (restless_on (scenario_of before) (entries_of before) (entries_of now) (dropped_lines before now d) calm)

drops_others : (s : ℕ) (drops : List Mark) → (0 == s) ≡ false → AreDrops drops → AreOthers s (entries_of drops)
drops_others s [] apart are = tt
drops_others s (mark.Entered e ∷ drops) apart are =
    let P : Entry → Type 0 = λ x. ((x.owner == s) ≡ false) × (is_line x ≡ false) in
    let here = subst P (sym are.0.1) (apart, refl) in
    (here.0, here.1, drops_others s drops apart are.1)
drops_others s (mark.Start sc most ∷ drops) apart are = absurd are
drops_others s (mark.Place o n ∷ drops) apart are = absurd are
drops_others s (mark.Freed o ∷ drops) apart are = absurd are

drops_lines : (drops : List Mark) → AreDrops drops → list_any is_line (entries_of drops) ≡ false
drops_lines [] are = refl
drops_lines (mark.Entered e ∷ drops) are = (let P : Entry → Type 0 = λ x. is_line x ≡ false in rw (subst P (sym are.0.1) refl) (drops_lines drops are.1))
drops_lines (mark.Start sc most ∷ drops) are = absurd are
drops_lines (mark.Place o n ∷ drops) are = absurd are
drops_lines (mark.Freed o ∷ drops) are = absurd are

one_note : (o : ℕ) (w : Note) (number : ℕ) → note_by o w (mark.Entered (drop_of number)) ≡ w
one_note o w number = by (0 == o) refl
  where
    by : (b : Bool) → (0 == o) ≡ b → note_by o w (mark.Entered (drop_of number)) ≡ w
    by true is = rw is refl
    by false is = rw is refl

drops_note : (o : ℕ) (w : Note) (drops : List Mark) → AreDrops drops → fold (note_by o) w drops ≡ w
drops_note o w [] are = refl
drops_note o w (mark.Entered e ∷ drops) are =
    let P : Entry → Type 0 = λ x. note_by o w (mark.Entered x) ≡ w in
    ap (λ v. fold (note_by o) v drops) (subst P (sym are.0.1) (one_note o w are.0.0)) ∙ drops_note o w drops are.1
drops_note o w (mark.Start sc most ∷ drops) are = absurd are
drops_note o w (mark.Place p n ∷ drops) are = absurd are
drops_note o w (mark.Freed p ∷ drops) are = absurd are

pub drops_owned : (last : ℕ) (drops : List Mark) → AreDrops drops → All (HasOwner last) drops
drops_owned last [] are = All-nil (HasOwner last)
drops_owned last (mark.Entered e ∷ drops) are =
    let P : Entry → Type 0 = λ x. HasOwner last (mark.Entered x) in
    All-cons (HasOwner last) (mark.Entered e) drops (subst P (sym are.0.1) (0, omega arith, refl)) (drops_owned last drops are.1)
drops_owned last (mark.Start sc most ∷ drops) are = absurd are
drops_owned last (mark.Place p n ∷ drops) are = absurd are
drops_owned last (mark.Freed p ∷ drops) are = absurd are

pub dropped_through : (before now : List Mark) → IsPlayed before → IsPlayed now → HasDropped before now → Delivering (scenario_of before) (entries_of before) →
    Delivering (scenario_of before) (entries_of now)
dropped_through before now played after d was =
    let sc : Scenario = scenario_of before in
    let P : List Entry → Type 0 = λ h. Through sc h in
    let Q : Scenario → Type 0 = λ k. IsLegal k (entries_of now) in record {
      legal = subst Q (ap scenario_of d.is ∙ (scenario_stays before d.drops played).0) after.legal;
      done = subst P (sym (dropped_entries before now d))
          (all_leave P (λ h number all. through_push sc h (drop_of number) refl (λ was up. up) all) d.drops (entries_of before) d.are was.done);
    }

-- what a pass that owns all takes is what it has seen
pub alone : (p : APass) (marks : List Mark) → OwnsAll p → GrewByOthers belongs p marks → marks ≡ seen_by p
alone p marks all grew = by grew.0 grew.1 grew.2
  where
    P : Mark → Type 0
    P m = IsForeign belongs (last_of p) (owners_of p) m

    by : (more : List Mark) → marks ≡ seen_by p ++ more → All P more → marks ≡ seen_by p
    by [] is foreign = is ∙ append-nil (seen_by p)
    by (m ∷ more) is foreign =
        let head : P m = All-head P m more foreign in
        let some = all head.0.0 head.0.1 in
        let none = head.1 head.0.0 head.0.2 in
        absurd (omega (arith, some, none))

-- so what it dropped and put back is behind what it had seen
pub came : (p q : APass) (taken put : List Mark) → OwnsAll p → GrewByOthers belongs p taken → HasDropped taken put → seen_by q ≡ put → HasDropped (seen_by p) (seen_by q)
came p q taken put all grew d is =
    let P : List Mark → Type 0 = λ l. HasDropped l (seen_by q) in
    let Q : List Mark → Type 0 = λ l. HasDropped taken l in
    subst P (alone p taken all grew) (subst Q (sym is) d)

pub same_owners : (p q r : APass) → SameOwners p q → SameOwners q r → SameOwners p r
same_owners p q r first second = record { owners = second.owners ∙ first.owners; last = second.last ∙ first.last }

module _ {D : Type 0} (meaning : Meaning D) (law : NodesKeptByOthers meaning)
    (wire : TableId) (p q : APass) (workers : List (Worker D)) (was : IsCrew meaning wire p workers)
    (d : HasDropped (seen_by p) (seen_by q)) (idle : IsIdle wire q) (same : SameOwners p q) (played : IsPlayed (seen_by q)) where
  same_scenario : scenario_seen q ≡ scenario_seen p
  same_scenario = ap scenario_of d.is ∙ (scenario_stays (seen_by p) d.drops was.played).0

  others : (i : ℕ) → AreOthers (i + 1) (entries_of d.drops)
  others i = drops_others (i + 1) d.drops (ne_eqb 0 (i + 1) (λ is. omega (arith, is))) d.are

  entries : history_seen q ≡ history_seen p ++ entries_of d.drops
  entries = dropped_entries (seen_by p) (seen_by q) d

  last_same : last_owner (seen_by q) ≡ last_owner (seen_by p)
  last_same = ap (λ (sc : Scenario). length sc.weights) same_scenario

  pub crew_dropped : IsCrew meaning wire q workers
  crew_dropped = record {
    idle = idle;
    all = λ o low. (let P : List ℕ → Type 0 = λ l. 0 < count_of o l in subst P (sym same.owners) (was.all o (let l = same.last in omega (arith, l, low))));
    last = same.last ∙ was.last;
    count = last_same ∙ was.count;
    played = played;
    restless = dropped_restless (seen_by p) (seen_by q) was.played d was.restless;
    none = λ o low. ap (λ (l : List Mark). note_of o l) d.is ∙ fold-append (note_by o) nothing (seen_by p) d.drops
        ∙ drops_note o (note_of o (seen_by p)) d.drops d.are ∙ was.none o (let l = last_same in omega (arith, l, low));
    each = λ i x low. (let rest = was.each i x low in record {
      site = rest.site;
      stands = (let P : Scenario → Type 0 = λ k. NodeStands meaning k (history_seen q) (slice_index_or workers i x).node in
          let Q : List Entry → Type 0 = λ h. NodeStands meaning (scenario_seen p) h (slice_index_or workers i x).node in
          let S : ℕ → Type 0 = λ s. AreOthers s (entries_of d.drops) in
          subst P (sym same_scenario) (subst Q (sym entries) (law (scenario_seen p) (history_seen p) (entries_of d.drops) (slice_index_or workers i x).node rest.stands
          (subst S (sym rest.site) (others i)))));
    });
  }

  pub dropped_gone_on : HasGoneOn meaning.meters (seen_by p) workers (seen_by q) workers
  dropped_gone_on = record {
    scenario = same_scenario;
    most = ap most_of d.is ∙ (scenario_stays (seen_by p) d.drops was.played).1;
    count = refl;
    grown = record { more = entries_of d.drops; entered = entries; no_line = drops_lines d.drops d.are };
    went = λ i x low. BehindOthers (history_seen p) (entries_of d.drops) (history_seen q) (meaning.meters (disk_of (slice_index_or workers i x).node.state)) AtStart (others i) entries;
  }

-- the driver's refusal, at the bound
pub drop_full : NothingPromised → (before now : List Mark) → IsPlayed before → IsPlayed now → HasDropped before now → NothingIsPromised now →
    lines (entries_of before) ≢ 0 → Delivering (scenario_of before) (entries_of before) → DropHadNoRoom now →
    IsFullBefore IsPacketDue (scenario_of before) (entries_of now) (most_of before)
drop_full nothing before now played after d none begun was had =
    let sc : scenario_of now ≡ scenario_of before = ap scenario_of d.is ∙ (scenario_stays before d.drops played).0 in
    let most : most_of now ≡ most_of before = ap most_of d.is ∙ (scenario_stays before d.drops played).1 in
    let just : used_of now ≡ length (entries_of now) = nothing now none in
    let within = after.within in
    let full = had.full in
    let P : Scenario → Type 0 = λ k. first_pending k (entries_of now) ≡ Some had.packet in
    packet_full (scenario_of before) (entries_of now) (most_of before) (omega (arith, just, within, most)) (omega (arith, just, full, most))
    (λ no_line. begun (sym (dropped_lines before now d) ∙ no_line))
    (packet_owed (scenario_of before) (entries_of now) had.packet (dropped_through before now played after d was) (subst P sc had.first))

-- what is not there is not found
pub some_first : (site : ℕ) (ps : List Packet) → (find (λ q. q.to == site) ps ≡ None → ⊥) → (q : Packet) × (slice_get ps 0 ≡ Some q)
some_first site [] found = absurd (found refl)
some_first site (x ∷ ps) found = (x, refl)

-- a packet could not be dropped
pub no_drop_room : (marks : List Mark) (site : ℕ) → (most_of marks ≤ used_of marks) × (find (λ q. q.to == site) (pending (scenario_of marks) (entries_of marks)) ≢ None) → DropHadNoRoom marks
no_drop_room marks site both =
    let first = some_first site (pending (scenario_of marks) (entries_of marks)) both.1 in
    record { full = both.0; packet = first.0; first = first.1 }

-- a history is full where a packet is pending
pub full_and_first : (marks : List Mark) (first : Option Packet) → most_of marks ≤ used_of marks → first ≡ first_pending (scenario_of marks) (entries_of marks) →
    is_some first ≡ true → DropHadNoRoom marks
full_and_first marks None full is some = absurd cc
full_and_first marks (Some packet) full is some = record { full = full; packet = packet; first = sym is }

site_some : (s : ℕ) → 1 ≤ s → (0 == s) ≡ false
site_some s some = ne_eqb 0 s (λ is. omega (arith, is, some))

-- a node stands behind drops
pub dropped_stands : {D : Type 0} (meaning : Meaning D) → NodesKeptByOthers meaning → (before now : List Mark) →
    IsPlayed before → HasDropped before now → (node : NodeView D) → NodeStands meaning (scenario_of before) (entries_of before) node →
    NodeStands meaning (scenario_of now) (entries_of now) node
dropped_stands meaning law before now played d node was =
    let P : Scenario → Type 0 = λ k. NodeStands meaning k (entries_of now) node in
    let Q : List Entry → Type 0 = λ h. NodeStands meaning (scenario_of before) h node in
    subst P (sym (ap scenario_of d.is ∙ (scenario_stays before d.drops played).0)) (subst Q (sym (dropped_entries before now d))
    (law (scenario_of before) (entries_of before) (entries_of d.drops) node was (drops_others node.site d.drops (site_some node.site was.some) d.are)))

-- one call of the wire
pub dropped_for : (site : ℕ) (number : Option ℕ) (before now : List Mark) → IsDroppedFor site number before now → HasDropped before now
dropped_for site None before now is = record { drops = []; are = tt; is = is.1 ∙ sym (append-nil before) }
dropped_for site (Some number) before now is = dropped_one before now number is.3
