-- Rounds one after the other.
use Rattle.std.proofs.Common.{◌≡◌, ◌≢◌, ◌+◌, ◌<◌, [], ℕ, List, length, refl, sym, ap, subst, ◌∙◌, arith}
use Rattle.std.specs.Prelude.{Err, Ok, OnOk, Result, slice_index_or}
use Rattle.atomic_table.specs.Seated.{TableId}
use Rattle.e3_fleet.specs.crew.Crews.{HasGoneOn, IsCrew}
use Rattle.e3_fleet.specs.crew.Turns.{AtStart, WentOn}
use Rattle.e3_fleet.specs.declared.crew.worker.Worker.{Worker}
use Rattle.e3_fleet.proofs.crew.Turning.{went_on}
use Rattle.e3_disk.specs.Meaning.{Meaning}
use Rattle.e3_disk.specs.Meters.{Meters}
use Rattle.e3_node.specs.NodeStands.{NodeStands}
use Rattle.e3_node.specs.NodeView.{NodeView, disk_of}
use Rattle.e3_node.specs.Turns.{history_seen, scenario_seen}
use Rattle.e3_play.specs.Delivered.{IsFullBefore}
use Rattle.e3_play.specs.Settled.{StaysInStep}
use Rattle.e3_play.proofs.SameSteps.{same_step, stays_none, stays_on}
use Rattle.e3_types.specs.declared.entries.Entry.{Entry}
use Rattle.e3_types.specs.declared.scenarios.Scenario.{Scenario}
use Rattle.e3_wire.specs.Claims.{APass}
use Rattle.e3_wire.specs.declared.marks.Mark.{Mark}
use Rattle.e3_wire.specs.Marks.{entries_of, most_of, scenario_of}
use Rattle.e3_world.specs.Packets.{lines, pending}
use Rattle.e3_world.specs.Progress.{Delivering}

pub begun_on : (h now : List Entry) (sc : Scenario) → StaysInStep h now → lines h ≢ 0 → lines now ≢ 0
begun_on h now sc stays begun none = begun (sym (same_step sc h now stays).at ∙ none)

module _ {D : Type 0} (meters : D → Meters) where
  -- nothing but the items of the workers is changed
  pub gone_none : (marks : List Mark) (olds news : List (Worker D)) → length news ≡ length olds →
      ((i : ℕ) (d : Worker D) → i < length olds → (slice_index_or news i d).node ≡ (slice_index_or olds i d).node) → HasGoneOn meters marks olds marks news
  gone_none marks olds news count same = record {
    scenario = refl;
    most = refl;
    count = count;
    grown = stays_none (entries_of marks);
    went = λ i d low. (let P : NodeView D → Type 0 = λ n. WentOn (scenario_of marks) (i + 1) (entries_of marks) (meters (disk_of (slice_index_or olds i d).node.state)) (entries_of marks) (meters (disk_of n.state)) in
        subst P (sym (same i d low)) AtStart);
  }

  pub gone_further : (a b c : List Mark) (xs ys zs : List (Worker D)) → HasGoneOn meters a xs b ys → HasGoneOn meters b ys c zs → HasGoneOn meters a xs c zs
  gone_further a b c xs ys zs first second = record {
    scenario = second.scenario ∙ first.scenario;
    most = second.most ∙ first.most;
    count = second.count ∙ first.count;
    grown = stays_on (entries_of a) (entries_of b) (entries_of c) first.grown second.grown;
    went = λ i d low.
        (let low2 : i < length ys = (let n = first.count in omega (arith, n, low)) in
        let P : Scenario → Type 0 = λ sc. WentOn sc (i + 1) (entries_of b) (meters (disk_of (slice_index_or ys i d).node.state)) (entries_of c) (meters (disk_of (slice_index_or zs i d).node.state)) in
        went_on (scenario_of a) (i + 1) (entries_of a) (entries_of b) (meters (disk_of (slice_index_or xs i d).node.state)) (meters (disk_of (slice_index_or ys i d).node.state))
        (entries_of c) (meters (disk_of (slice_index_or zs i d).node.state)) (first.went i d low) (subst P first.scenario (second.went i d low2)));
  }

-- the same crew with other items
pub crew_same : {D : Type 0} (meaning : Meaning D) (wire : TableId) (p : APass) (olds news : List (Worker D)) →
    IsCrew meaning wire p olds → length news ≡ length olds →
    ((i : ℕ) (d : Worker D) → i < length olds → (slice_index_or news i d).node ≡ (slice_index_or olds i d).node) → IsCrew meaning wire p news
crew_same {D} meaning wire p olds news was count same = record {
  idle = was.idle;
  all = was.all;
  last = was.last ∙ sym count;
  count = was.count ∙ sym count;
  played = was.played;
  restless = was.restless;
  none = was.none;
  each = λ i d low.
      (let low2 : i < length olds = omega (arith, count, low) in
      let rest = was.each i d low2 in
      let P : NodeView D → Type 0 = λ n. NodeStands meaning (scenario_seen p) (history_seen p) n in record {
        site = ap (λ (n : NodeView D). n.site) (same i d low2) ∙ rest.site;
        stands = subst P (sym (same i d low2)) rest.stands;
      });
}

-- what a later round says, in the words of the first scenario
pub delivering_on : (before marks : List Mark) → scenario_of marks ≡ scenario_of before → (h : List Entry) → Delivering (scenario_of marks) h → Delivering (scenario_of before) h
delivering_on before marks same h was = let P : Scenario → Type 0 = λ sc. Delivering sc h in subst P same was

pub delivering_back : (before marks : List Mark) → scenario_of marks ≡ scenario_of before → (h : List Entry) → Delivering (scenario_of before) h → Delivering (scenario_of marks) h
delivering_back before marks same h was = let P : Scenario → Type 0 = λ sc. Delivering sc h in subst P (sym same) was

pub full_on : (owes : Scenario → List Entry → Type 0) (before marks : List Mark) → scenario_of marks ≡ scenario_of before → most_of marks ≡ most_of before → (h : List Entry) →
    IsFullBefore owes (scenario_of marks) h (most_of marks) → IsFullBefore owes (scenario_of before) h (most_of before)
full_on owes before marks same most h was =
    let P : Scenario → Type 0 = λ sc. IsFullBefore owes sc h (most_of marks) in
    let Q : ℕ → Type 0 = λ m. IsFullBefore owes (scenario_of before) h m in subst Q most (subst P same was)

pub settled_on : (before marks : List Mark) → scenario_of marks ≡ scenario_of before → (h : List Entry) → pending (scenario_of marks) h ≡ [] → pending (scenario_of before) h ≡ []
settled_on before marks same h was = let P : Scenario → Type 0 = λ sc. pending sc h ≡ [] in subst P same was

pub ok_of : {T E P : Type 0} (answer : Result T E) → P → OnOk answer P
ok_of (Ok done) was = was
ok_of (Err fault) was = tt
