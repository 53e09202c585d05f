-- A fleet goes on over one more entry.
use Rattle.std.proofs.Common.{◌≡◌, ◌≢◌, ◌==◌, inl, inr, ◌⊎◌, ◌<◌, ◌++◌, ◌∷◌, [], ℕ, suc, Bool, true, false, List, length, Some, refl, sym, ap, subst, ◌∙◌, arith, eqb-true, eq-eqb}
use Rattle.std.specs.Prelude.{slice_get, slice_set, Result, Ok, Err, OnOk, OnErr}
use Rattle.e3_disk.specs.Meaning.{Meaning}
use Rattle.e3_disk.specs.Meters.{Meters, IsCounted}
use Rattle.e3_fleet.specs.Over.{HadNoRoom, HadNoRooms}
use Rattle.e3_fleet.specs.Fleets.{FleetStands, HasKept, HaveKept, IsFleetOn, Seated}
use Rattle.e3_fleet.specs.Stops.{arm_by}
use Rattle.e3_fleet.proofs.Kept.{GoesOn, GoesWith, kept_more, kept_on}
use Rattle.e3_fleet.proofs.Places.{get_low, get_set, get_set_other, set_length}
use Rattle.e3_fleet.proofs.Rooms.{rooms_push}
use Rattle.e3_fleet.proofs.Numbers.{goes_other}
use Rattle.e3_node.specs.Claims.{NodesKept}
use Rattle.e3_node.specs.NodeStands.{NodeStands}
use Rattle.e3_node.specs.NodeView.{NodeView, disk_of}
use Rattle.e3_node.specs.SharedStands.{SharedStands}
use Rattle.e3_types.specs.declared.entries.Entry.{Entry}
use Rattle.e3_types.specs.declared.scenarios.Scenario.{Scenario}
use Rattle.e3_world.proofs.Turns.{true_not_false}
use Rattle.e3_wire.specs.Marks.{entries_of, most_of, scenario_of}
use Rattle.e3_wire.specs.declared.marks.Mark.{Mark}

-- the numbers of a node's disk
abbrev pub numbers_of : {D : Type 0} → (D → Meters) → NodeView D → Meters
numbers_of meters node = meters (disk_of node.state)

-- a node is seated in a history with an entry of another owner
seated_other : {D : Type 0} (meaning : Meaning D) → NodesKept meaning →
    (sc : Scenario) (h : List Entry) (e : Entry) (at : ℕ) (node : NodeView D) → e.owner ≢ suc at →
    Seated meaning sc h at node → Seated meaning sc (h ++ e ∷ []) at node
seated_other meaning law sc h e at node other was = record {
  site = was.site;
  stands = law sc h e node was.stands (λ same. other (same ∙ was.site));
  rooms = rooms_push sc h e (suc at) (numbers_of meaning.meters node).capacity was.rooms (λ same. absurd (other same));
}

-- the disks kept, where those of this list did not change and go on over the entry
have_kept : {D : Type 0} (meters : D → Meters) (sc : Scenario) (h : List Entry) (starts nodes : List (NodeView D)) (more : List Entry) →
    ((at : ℕ) (start node : NodeView D) → slice_get nodes at ≡ Some node → HasKept sc h (suc at) (numbers_of meters start) (numbers_of meters node) →
    HasKept sc more (suc at) (numbers_of meters start) (numbers_of meters node)) →
    HaveKept meters sc h starts nodes → HaveKept meters sc more starts nodes
have_kept meters sc h starts nodes more step was = record {
  count = was.count;
  each = λ at start node is there. step at start node there (was.each at start node is there);
}

-- an entry of the driver that arms no disk
pub driver_on : {D : Type 0} (meaning : Meaning D) → NodesKept meaning →
    ((d : D) → IsCounted (meaning.meters d)) → (was now : List Mark) (e : Entry) (nodes : List (NodeView D)) →
    FleetStands meaning was nodes → SharedStands now → scenario_of now ≡ scenario_of was → most_of now ≡ most_of was →
    e.owner ≡ 0 → ((site : ℕ) → arm_by (scenario_of was) site e ≡ []) → entries_of now ≡ entries_of was ++ e ∷ [] → IsFleetOn meaning was now nodes nodes
driver_on {D} meaning law counted was now e nodes stood stands same most driver unarmed entered = record {
  stands = record {
    shared_stands = stands;
    count = stood.count ∙ ap (λ (sc : Scenario). length sc.weights) (sym same);
    seated = λ at node there. carry at node (seated_other meaning law (scenario_of was) (entries_of was) e at node (apart at) (stood.seated at node there));
  };
  scenario = same;
  most = most;
  kept = λ starts kept. subst (λ (sc : Scenario). HaveKept meaning.meters sc (entries_of now) starts nodes) (sym same)
      (subst (λ (h : List Entry). HaveKept meaning.meters (scenario_of was) h starts nodes) (sym entered)
      (have_kept meaning.meters (scenario_of was) (entries_of was) starts nodes (entries_of was ++ e ∷ []) step kept));
}
  where
    apart : (at : ℕ) → e.owner ≢ suc at
    apart at other = omega (arith, driver, other)

    carry : (at : ℕ) (node : NodeView D) → Seated meaning (scenario_of was) (entries_of was ++ e ∷ []) at node →
        Seated meaning (scenario_of now) (entries_of now) at node
    carry at node there = subst (λ (sc : Scenario). Seated meaning sc (entries_of now) at node) (sym same)
        (subst (λ (h : List Entry). Seated meaning (scenario_of was) h at node) (sym entered) there)

    step : (at : ℕ) (start node : NodeView D) → slice_get nodes at ≡ Some node → HasKept (scenario_of was) (entries_of was) (suc at) (numbers_of meaning.meters start) (numbers_of meaning.meters node) →
        HasKept (scenario_of was) (entries_of was ++ e ∷ []) (suc at) (numbers_of meaning.meters start) (numbers_of meaning.meters node)
    step at start node there kept =
        kept_more (scenario_of was) (entries_of was) e (suc at) (numbers_of meaning.meters start) (numbers_of meaning.meters node) (numbers_of meaning.meters node) (counted (disk_of node.state))
        (goes_other (scenario_of was) (suc at) e (numbers_of meaning.meters node) (counted (disk_of node.state)) (apart at) (unarmed (suc at))) kept

-- nothing was entered, and no node changed
pub still_on : {D : Type 0} (meaning : Meaning D) (was now : List Mark) (nodes : List (NodeView D)) →
    FleetStands meaning was nodes → SharedStands now → scenario_of now ≡ scenario_of was → most_of now ≡ most_of was →
    entries_of now ≡ entries_of was → IsFleetOn meaning was now nodes nodes
still_on {D} meaning was now nodes stood stands same most entered = record {
  stands = record {
    shared_stands = stands;
    count = stood.count ∙ ap (λ (sc : Scenario). length sc.weights) (sym same);
    seated = λ at node there. subst (λ (sc : Scenario). Seated meaning sc (entries_of now) at node) (sym same)
        (subst (λ (h : List Entry). Seated meaning (scenario_of was) h at node) (sym entered) (stood.seated at node there));
  };
  scenario = same;
  most = most;
  kept = λ starts kept. subst (λ (sc : Scenario). HaveKept meaning.meters sc (entries_of now) starts nodes) (sym same)
      (subst (λ (h : List Entry). HaveKept meaning.meters (scenario_of was) h starts nodes) (sym entered) kept);
}

-- What a call that changed the node of a site entered: an entry of that site, or the line that arms its disk. It is none of
-- another site's and arms no other, it tells the truth of the disk, and the disk's numbers went with it.
pub record IsNext (sc : Scenario) (h more : List Entry) (site : ℕ) (old new : Meters) : Type 0 where
  pub e : Entry
  pub apart : (k : ℕ) → suc k ≢ site → e.owner ≢ suc k
  pub unarmed : (k : ℕ) → suc k ≢ site → arm_by sc (suc k) e ≡ []
  pub entered : more ≡ h ++ e ∷ []
  pub goes : GoesWith sc site e old new
  pub room : HadNoRoom sc h site old.capacity e.act

-- or it entered nothing
pub record IsQuiet (h more : List Entry) (old new : Meters) : Type 0 where
  pub none : more ≡ h
  pub goes : GoesOn old new

abbrev pub Went : Scenario → List Entry → List Entry → ℕ → Meters → Meters → Type 0
Went sc h more site old new = IsQuiet h more old new ⊎ IsNext sc h more site old new

-- a call of the node at a place
pub node_on : {D : Type 0} (meaning : Meaning D) → NodesKept meaning →
    ((d : D) → IsCounted (meaning.meters d)) →
    (was now : List Mark) (nodes : List (NodeView D)) (at : ℕ) (old new : NodeView D) → slice_get nodes at ≡ Some old →
    FleetStands meaning was nodes → SharedStands now → scenario_of now ≡ scenario_of was → most_of now ≡ most_of was →
    new.site ≡ old.site → NodeStands meaning (scenario_of now) (entries_of now) new →
    Went (scenario_of was) (entries_of was) (entries_of now) (suc at) (numbers_of meaning.meters old) (numbers_of meaning.meters new) →
    IsFleetOn meaning was now nodes (slice_set nodes at new)
node_on {D} meaning law counted was now nodes at old new there stood stands same most site standing went = record {
  stands = record {
    shared_stands = stands;
    count = set_length nodes at new ∙ stood.count ∙ ap (λ (sc : Scenario). length sc.weights) (sym same);
    seated = λ k node is. seat k node is (k == at) refl;
  };
  scenario = same;
  most = most;
  kept = λ starts kept. record {
    count = set_length nodes at new ∙ kept.count;
    each = λ k start node is was_node. subst (λ (sc : Scenario). HasKept sc (entries_of now) (suc k) (numbers_of meaning.meters start) (numbers_of meaning.meters node)) (sym same)
        (each starts kept k start node is was_node (k == at) refl);
  };
}
  where
    low : at < length nodes
    low = get_low nodes at old there

    here : slice_get (slice_set nodes at new) at ≡ Some new
    here = get_set nodes at new low

    far : (k : ℕ) → (k == at) ≡ false → k ≢ at
    far k is e = true_not_false (sym (eq-eqb k at e) ∙ is)

    far_site : (k : ℕ) → (k == at) ≡ false → suc k ≢ suc at
    far_site k is same = far k is (omega (arith, same))

    -- what it entered
    rooms : Went (scenario_of was) (entries_of was) (entries_of now) (suc at) (numbers_of meaning.meters old) (numbers_of meaning.meters new) →
        HadNoRooms (scenario_of was) (entries_of now) (suc at) (numbers_of meaning.meters new).capacity
    rooms (inl quiet) = subst (λ (h : List Entry). HadNoRooms (scenario_of was) h (suc at) (numbers_of meaning.meters new).capacity) (sym quiet.none)
        (subst (λ (n : ℕ). HadNoRooms (scenario_of was) (entries_of was) (suc at) n) (sym quiet.goes.goes.capacity) (stood.seated at old there).rooms)
    rooms (inr next) = subst (λ (h : List Entry). HadNoRooms (scenario_of was) h (suc at) (numbers_of meaning.meters new).capacity) (sym next.entered)
        (subst (λ (n : ℕ). HadNoRooms (scenario_of was) (entries_of was ++ next.e ∷ []) (suc at) n) (sym next.goes.goes.capacity)
        (rooms_push (scenario_of was) (entries_of was) next.e (suc at) (numbers_of meaning.meters old).capacity (stood.seated at old there).rooms (λ mine. next.room)))

    seated_new : Seated meaning (scenario_of now) (entries_of now) at new
    seated_new = record {
      site = site ∙ (stood.seated at old there).site;
      stands = standing;
      rooms = subst (λ (sc : Scenario). HadNoRooms sc (entries_of now) (suc at) (numbers_of meaning.meters new).capacity) (sym same) (rooms went);
    }

    other : (k : ℕ) (node : NodeView D) → suc k ≢ suc at → Seated meaning (scenario_of was) (entries_of was) k node →
        Went (scenario_of was) (entries_of was) (entries_of now) (suc at) (numbers_of meaning.meters old) (numbers_of meaning.meters new) →
        Seated meaning (scenario_of was) (entries_of now) k node
    other k node apart was_seated (inl quiet) = subst (λ (h : List Entry). Seated meaning (scenario_of was) h k node) (sym quiet.none) was_seated
    other k node apart was_seated (inr next) = subst (λ (h : List Entry). Seated meaning (scenario_of was) h k node) (sym next.entered)
        (seated_other meaning law (scenario_of was) (entries_of was) next.e k node (next.apart k apart) was_seated)

    seat : (k : ℕ) (node : NodeView D) → slice_get (slice_set nodes at new) k ≡ Some node → (b : Bool) → (k == at) ≡ b →
        Seated meaning (scenario_of now) (entries_of now) k node
    seat k node is true e =
        let k_at : k ≡ at = eqb-true k at e in
        let at_node : slice_get (slice_set nodes at new) at ≡ Some node = subst (λ (n : ℕ). slice_get (slice_set nodes at new) n ≡ Some node) k_at is in
        let both : Some new ≡ Some node = sym here ∙ at_node in
        let one : new ≡ node = cc in
        subst (λ (n : ℕ). Seated meaning (scenario_of now) (entries_of now) n node) (sym k_at)
        (subst (λ (z : NodeView D). Seated meaning (scenario_of now) (entries_of now) at z) one seated_new)
    seat k node is false e =
        subst (λ (sc : Scenario). Seated meaning sc (entries_of now) k node) (sym same)
        (other k node (far_site k e) (stood.seated k node (sym (get_set_other nodes at k new (far k e)) ∙ is)) went)

    -- the numbers of its disk
    kept_here : (start : NodeView D) → HasKept (scenario_of was) (entries_of was) (suc at) (numbers_of meaning.meters start) (numbers_of meaning.meters old) →
        Went (scenario_of was) (entries_of was) (entries_of now) (suc at) (numbers_of meaning.meters old) (numbers_of meaning.meters new) →
        HasKept (scenario_of was) (entries_of now) (suc at) (numbers_of meaning.meters start) (numbers_of meaning.meters new)
    kept_here start kept (inl quiet) = subst (λ (h : List Entry). HasKept (scenario_of was) h (suc at) (numbers_of meaning.meters start) (numbers_of meaning.meters new)) (sym quiet.none)
        (kept_on (scenario_of was) (entries_of was) (suc at) (numbers_of meaning.meters start) (numbers_of meaning.meters old) (numbers_of meaning.meters new) (counted (disk_of new.state)) quiet.goes kept)
    kept_here start kept (inr next) = subst (λ (h : List Entry). HasKept (scenario_of was) h (suc at) (numbers_of meaning.meters start) (numbers_of meaning.meters new)) (sym next.entered)
        (kept_more (scenario_of was) (entries_of was) next.e (suc at) (numbers_of meaning.meters start) (numbers_of meaning.meters old) (numbers_of meaning.meters new) (counted (disk_of new.state)) next.goes kept)

    -- and of the others
    kept_far : (k : ℕ) (start node : NodeView D) → suc k ≢ suc at → HasKept (scenario_of was) (entries_of was) (suc k) (numbers_of meaning.meters start) (numbers_of meaning.meters node) →
        Went (scenario_of was) (entries_of was) (entries_of now) (suc at) (numbers_of meaning.meters old) (numbers_of meaning.meters new) →
        HasKept (scenario_of was) (entries_of now) (suc k) (numbers_of meaning.meters start) (numbers_of meaning.meters node)
    kept_far k start node apart kept (inl quiet) = subst (λ (h : List Entry). HasKept (scenario_of was) h (suc k) (numbers_of meaning.meters start) (numbers_of meaning.meters node)) (sym quiet.none) kept
    kept_far k start node apart kept (inr next) = subst (λ (h : List Entry). HasKept (scenario_of was) h (suc k) (numbers_of meaning.meters start) (numbers_of meaning.meters node)) (sym next.entered)
        (kept_more (scenario_of was) (entries_of was) next.e (suc k) (numbers_of meaning.meters start) (numbers_of meaning.meters node) (numbers_of meaning.meters node) (counted (disk_of node.state))
        (goes_other (scenario_of was) (suc k) next.e (numbers_of meaning.meters node) (counted (disk_of node.state)) (next.apart k apart) (next.unarmed k apart)) kept)

    each : (starts : List (NodeView D)) → HaveKept meaning.meters (scenario_of was) (entries_of was) starts nodes → (k : ℕ) (start node : NodeView D) →
        slice_get starts k ≡ Some start → slice_get (slice_set nodes at new) k ≡ Some node → (b : Bool) → (k == at) ≡ b →
        HasKept (scenario_of was) (entries_of now) (suc k) (numbers_of meaning.meters start) (numbers_of meaning.meters node)
    each starts kept k start node is is_node true e =
        let k_at : k ≡ at = eqb-true k at e in
        let at_start : slice_get starts at ≡ Some start = subst (λ (n : ℕ). slice_get starts n ≡ Some start) k_at is in
        let at_node : slice_get (slice_set nodes at new) at ≡ Some node = subst (λ (n : ℕ). slice_get (slice_set nodes at new) n ≡ Some node) k_at is_node in
        let both : Some new ≡ Some node = sym here ∙ at_node in
        let one : new ≡ node = cc in
        subst (λ (n : ℕ). HasKept (scenario_of was) (entries_of now) (suc n) (numbers_of meaning.meters start) (numbers_of meaning.meters node)) (sym k_at)
        (subst (λ (z : NodeView D). HasKept (scenario_of was) (entries_of now) (suc at) (numbers_of meaning.meters start) (numbers_of meaning.meters z)) one
        (kept_here start (kept.each at start old at_start there) went))
    each starts kept k start node is is_node false e =
        kept_far k start node (far_site k e) (kept.each k start node is (sym (get_set_other nodes at k new (far k e)) ∙ is_node)) went

-- a call for the driver
pub driver_call : {D E : Type 0} (meaning : Meaning D) → NodesKept meaning →
    ((d : D) → IsCounted (meaning.meters d)) →
    (was now : List Mark) (e : Entry) (nodes : List (NodeView D)) (answer : Result (Unit {0}) E) →
    FleetStands meaning was nodes → SharedStands now → (scenario_of now ≡ scenario_of was) × (most_of now ≡ most_of was) → e.owner ≡ 0 →
    ((site : ℕ) → arm_by (scenario_of was) site e ≡ []) →
    OnOk answer (entries_of now ≡ entries_of was ++ e ∷ []) → OnErr answer (entries_of now ≡ entries_of was) → IsFleetOn meaning was now nodes nodes
driver_call meaning law counted was now e nodes (Ok done) stood stands same driver unarmed entered kept =
    driver_on meaning law counted was now e nodes stood stands same.0 same.1 driver unarmed entered
driver_call meaning law counted was now e nodes (Err fault) stood stands same driver unarmed entered kept =
    still_on meaning was now nodes stood stands same.0 same.1 kept
