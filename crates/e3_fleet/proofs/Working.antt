-- What the numbers of a site's disk came to while the workers of all sites were at work.
use Rattle.std.proofs.Common.{◌≡◌, ◌≢◌, ◌==◌, inl, inr, ◌⊎◌, ◌≤◌, ◌<◌, ◌+◌, ◌++◌, ◌∷◌, [], ℕ, suc, false, List, length, min, Some, Ok, Err, refl, sym, ap, subst, ◌∙◌, append-nil, append_assoc, arith, eq-eqb}
use Rattle.std.specs.Prelude.{slice_get, slice_index_or}
use Rattle.std.proofs.lemmas.Option.{get_or_from_slice_get, slice_get_within}
use Rattle.atomic_table.specs.Seated.{TableId}
use Rattle.e3_fleet.specs.crew.Crews.{HasGoneOn, IsCrew}
use Rattle.e3_fleet.specs.crew.Turns.{AtStart, BehindFall, BehindFallOver, BehindOthers, BehindStep, BehindSteps, IsFallBy, IsStepBy, WentOn}
use Rattle.e3_fleet.specs.declared.crew.worker.Worker.{Worker}
use Rattle.e3_disk.specs.Meaning.{Meaning}
use Rattle.e3_disk.specs.Meters.{IsCounted, Keeps, LAST, Meters, raised}
use Rattle.e3_fleet.specs.Fleets.{FleetStands, HasKept, HaveKept, IsFleetOn, Seated, nodes_of}
use Rattle.e3_fleet.specs.Over.{HadNoRooms}
use Rattle.e3_fleet.specs.Stops.{arm_by}
use Rattle.e3_fleet.proofs.Going.{Went}
use Rattle.e3_fleet.proofs.Holding.{node_there, nodes_length}
use Rattle.e3_fleet.proofs.Kept.{kept_more, kept_on}
use Rattle.e3_fleet.proofs.Owned.{input_went, takes_so}
use Rattle.e3_fleet.proofs.Places.{get_some}
use Rattle.e3_fleet.proofs.Rooms.{rooms_push}
use Rattle.e3_fleet.proofs.Together.{batch_kept, batch_rooms, fall_kept, fall_rooms}
use Rattle.e3_fleet.proofs.Numbers.{goes_other}
use Rattle.e3_laws.specs.local.Others.{AreOthers}
use Rattle.e3_node.specs.Ends.{FellOver, is_fall}
use Rattle.e3_node.specs.site_log.Ends.{IsReason}
use Rattle.e3_node.specs.NodeStands.{NodeStands}
use Rattle.e3_node.specs.NodeView.{NodeView, disk_of}
use Rattle.e3_node.specs.declared.fault.InputFault.{InputFault}
use Rattle.e3_node.specs.declared.fault.InputFault.TheVariants as input_fault
use Rattle.e3_node.proofs.Sharing.{under}
use Rattle.e3_turn.specs.Passes.{seen_by}
use Rattle.e3_types.specs.declared.entries.Act.{Act}
use Rattle.e3_types.specs.declared.entries.Act.TheVariants.{Line}
use Rattle.e3_types.specs.declared.entries.Entry.{Entry}
use Rattle.e3_types.specs.declared.entries.Input.{Input}
use Rattle.e3_types.specs.declared.entries.Why.{Why}
use Rattle.e3_types.specs.declared.scenarios.Scenario.{Scenario}
use Rattle.e3_wire.specs.Claims.{APass}
use Rattle.e3_wire.specs.Marks.{entries_of, scenario_of}
use Rattle.e3_world.specs.Legal.{made_by}
use Rattle.e3_world.specs.Moves.{log_of}
use Rattle.e3_world.specs.Packets.{is_line}
use Rattle.e3_world.proofs.Turns.{true_not_false}

-- only a line arms a disk
no_arm : (sc : Scenario) (site owner : ℕ) (act : Act) → is_line (record { owner = owner; act = act }) ≡ false → arm_by sc site (record { owner = owner; act = act }) ≡ []
no_arm sc site owner (Line number) is = absurd cc
no_arm sc site owner act is = refl

far_of : (e : Entry) (site : ℕ) → (e.owner == site) ≡ false → e.owner ≢ site
far_of e site is same = true_not_false (sym (eq-eqb e.owner site same) ∙ is)

-- entries of others leave the disk
others_keep : (sc : Scenario) (h more : List Entry) (site : ℕ) (o m : Meters) → IsCounted m → AreOthers site more → HasKept sc h site o m → HasKept sc (h ++ more) site o m
others_keep sc h [] site o m counted others was = (let P : List Entry → Type 0 = λ l. HasKept sc l site o m in subst P (sym (append-nil h)) was)
others_keep sc h (e ∷ more) site o m counted others was =
    let one : HasKept sc (h ++ e ∷ []) site o m =
    kept_more sc h e site o m m counted (goes_other sc site e m counted (far_of e site others.0) (no_arm sc site e.owner e.act others.1)) was in
    let P : List Entry → Type 0 = λ l. HasKept sc l site o m in
    subst P (append_assoc h (e ∷ []) more) (others_keep sc (h ++ e ∷ []) more site o m counted others.2 one)

others_rooms : (sc : Scenario) (h more : List Entry) (site capacity : ℕ) → AreOthers site more → HadNoRooms sc h site capacity → HadNoRooms sc (h ++ more) site capacity
others_rooms sc h [] site capacity others was = (let P : List Entry → Type 0 = λ l. HadNoRooms sc l site capacity in subst P (sym (append-nil h)) was)
others_rooms sc h (e ∷ more) site capacity others was =
    let one : HadNoRooms sc (h ++ e ∷ []) site capacity = rooms_push sc h e site capacity was (λ same. absurd (far_of e site others.0 same)) in
    let P : List Entry → Type 0 = λ l. HadNoRooms sc l site capacity in
    subst P (append_assoc h (e ∷ []) more) (others_rooms sc (h ++ e ∷ []) more site capacity others.2 one)

-- a step and a fall of the site, as a call of its node enters them
step_went : (sc : Scenario) (h now : List Entry) (site : ℕ) (i : Input) (x y : Meters) → IsCounted x → IsStepBy sc h site i now x y → Went sc h now site x y
step_went sc h now site i x y counted step =
    input_went sc h now site i x y (Ok tt) counted step.keeps step.entered (takes_so sc h site i x y (Ok tt) step.takes)
    (λ why is. absurd cc) (λ fault is no. absurd cc) (λ why is. absurd cc)

fall_went : (sc : Scenario) (h now : List Entry) (site : ℕ) (i : Input) (why : Why) (x y : Meters) → IsCounted x → IsFallBy sc h site i why now x y → Went sc h now site x y
fall_went sc h now site i why x y counted fall =
    input_went sc h now site i x y (Err (input_fault.Fell why)) counted fall.keeps tt tt
    (λ w is. (let P : Why → Type 0 = λ v. FellOver sc h site i v now in let same : why ≡ w = cc in subst P same fall.entered))
    (λ fault is no. absurd (let P : InputFault → Type 0 = λ f. is_fall f ≡ false in let same : fault ≡ input_fault.Fell why = cc in true_not_false (subst P same no)))
    (λ w is. (let P : Why → Type 0 = λ v. IsReason v (log_of sc h site) (made_by sc h site i).records x y in let same : why ≡ w = cc in subst P same fall.reason))

-- the numbers go over it
went_keeps : (sc : Scenario) (h now : List Entry) (site : ℕ) (o x y : Meters) → IsCounted y → Went sc h now site x y → HasKept sc h site o x → HasKept sc now site o y
went_keeps sc h now site o x y counted (inl quiet) was =
    (let P : List Entry → Type 0 = λ l. HasKept sc l site o y in subst P (sym quiet.none) (kept_on sc h site o x y counted quiet.goes was))
went_keeps sc h now site o x y counted (inr next) was =
    (let P : List Entry → Type 0 = λ l. HasKept sc l site o y in subst P (sym next.entered) (kept_more sc h next.e site o x y counted next.goes was))

went_rooms : (sc : Scenario) (h now : List Entry) (site : ℕ) (x y : Meters) → Went sc h now site x y → HadNoRooms sc h site x.capacity → HadNoRooms sc now site y.capacity
went_rooms sc h now site x y (inl quiet) was =
    (let P : List Entry → Type 0 = λ l. HadNoRooms sc l site y.capacity in let Q : ℕ → Type 0 = λ n. HadNoRooms sc h site n in
    subst P (sym quiet.none) (subst Q (sym quiet.goes.goes.capacity) was))
went_rooms sc h now site x y (inr next) was =
    (let P : List Entry → Type 0 = λ l. HadNoRooms sc l site y.capacity in let Q : ℕ → Type 0 = λ n. HadNoRooms sc (h ++ next.e ∷ []) site n in
    subst P (sym next.entered) (subst Q (sym next.goes.goes.capacity) (rooms_push sc h next.e site x.capacity was (λ mine. next.room))))

-- counts stay below their last values
counted_on : (x y : Meters) → IsCounted x → Keeps x y → y.faults ≤ LAST → IsCounted y
counted_on x y counted keeps low = record {
  faults = low;
  arms = same x.arms y.arms LAST keeps.arms counted.arms;
  calls = same x.calls y.calls LAST keeps.calls counted.calls;
  codes = same x.codes y.codes LAST keeps.codes counted.codes;
  cuts = same x.cuts y.cuts LAST keeps.cuts counted.cuts;
  stops = by keeps.stops;
}
  where
    same : (a b l : ℕ) → b ≡ a → a ≤ l → b ≤ l
    same a b l is less = omega (arith, is, less)

    at_most : (a b l : ℕ) → b ≡ min (a + 1) l → b ≤ l
    at_most a b l is = omega (arith, is)

    by : (y.stops ≡ x.stops) ⊎ ((y.stops ≡ raised x.stops 1) × (0 < x.calls_left) × (y.calls_left ≡ 0)) → y.stops ≤ LAST
    by (inl stays) = same x.stops y.stops LAST stays counted.stops
    by (inr came) = at_most x.stops y.stops LAST came.0

less_faults : (a b l : ℕ) → a ≤ b → b ≤ l → a ≤ l
less_faults a b l one two = omega (arith, one, two)

-- All of it, from the first numbers to the last.
record Worked (sc : Scenario) (site : ℕ) (start : List Entry) (first : Meters) (now : List Entry) (m : Meters) : Type 0 where
  counted : IsCounted m
  kept : (o : Meters) → HasKept sc start site o first → HasKept sc now site o m
  rooms : HadNoRooms sc start site first.capacity → HadNoRooms sc now site m.capacity

worked : (sc : Scenario) (site : ℕ) (start : List Entry) (first : Meters) (now : List Entry) (m : Meters) → IsCounted first → m.faults ≤ LAST → WentOn sc site start first now m →
    Worked sc site start first now m
worked sc site start first now m counted low AtStart = record { counted = counted; kept = λ o was. was; rooms = λ was. was }
worked sc site start first now m counted low (BehindOthers before more end k went others is) =
    let old = worked sc site start first before m counted low went in
    let P : Meters → List Entry → Type 0 = λ o l. HasKept sc l site o m in
    let Q : List Entry → Type 0 = λ l. HadNoRooms sc l site m.capacity in
    record {
      counted = old.counted;
      kept = λ o was. subst (P o) (sym is) (others_keep sc before more site o m old.counted others (old.kept o was));
      rooms = λ was. subst Q (sym is) (others_rooms sc before more site m.capacity others (old.rooms was));
    }
worked sc site start first now m counted low (BehindStep before end i k n went step) =
    let old = worked sc site start first before k counted (less_faults k.faults m.faults LAST step.keeps.faults low) went in
    let news : IsCounted m = counted_on k m old.counted step.keeps low in
    let more : Went sc before now site k m = step_went sc before now site i k m old.counted step in
    record {
      counted = news;
      kept = λ o was. went_keeps sc before now site o k m news more (old.kept o was);
      rooms = λ was. went_rooms sc before now site k m more (old.rooms was);
    }
worked sc site start first now m counted low (BehindFall before end i why k n went fall) =
    let old = worked sc site start first before k counted (less_faults k.faults m.faults LAST fall.keeps.faults low) went in
    let news : IsCounted m = counted_on k m old.counted fall.keeps low in
    let more : Went sc before now site k m = fall_went sc before now site i why k m old.counted fall in
    record {
      counted = news;
      kept = λ o was. went_keeps sc before now site o k m news more (old.kept o was);
      rooms = λ was. went_rooms sc before now site k m more (old.rooms was);
    }
worked sc site start first now m counted low (BehindSteps before end is k n went steps) =
    let old = worked sc site start first before k counted (less_faults k.faults m.faults LAST steps.keeps.faults low) went in
    let news : IsCounted m = counted_on k m old.counted steps.keeps low in
    record {
      counted = news;
      kept = λ o was. batch_kept sc before now site is o k m old.counted news steps (old.kept o was);
      rooms = λ was.
          (let P : ℕ → Type 0 = λ c. HadNoRooms sc now site c in
          let Q : List Entry → Type 0 = λ l. HadNoRooms sc l site k.capacity in
          subst P (sym steps.keeps.capacity) (subst Q (sym steps.entered) (batch_rooms sc before site is k.capacity (old.rooms was))));
    }
worked sc site start first now m counted low (BehindFallOver before end is why k n went fall) =
    let old = worked sc site start first before k counted (less_faults k.faults m.faults LAST fall.keeps.faults low) went in
    let news : IsCounted m = counted_on k m old.counted fall.keeps low in
    record {
      counted = news;
      kept = λ o was. fall_kept sc before now site is why o k m old.counted news fall (old.kept o was);
      rooms = λ was. fall_rooms sc before now site is why k m fall (old.rooms was);
    }

module _ {D : Type 0} (meaning : Meaning D) where
  abbrev numbers : NodeView D → Meters
  numbers node = meaning.meters (disk_of node.state)

  -- the node of the worker at a place, whatever is asked for past the end
  node_is : (ws : List (Worker D)) (at : ℕ) (node : NodeView D) → slice_get (nodes_of ws) at ≡ Some node → (d : Worker D) → (slice_index_or ws at d).node ≡ node
  node_is ws at node is d = by (get_some ws at low)
    where
      low : at < length ws
      low = let less = slice_get_within (nodes_of ws) at node is in let count = nodes_length ws in omega (arith, less, count)

      by : (w : Worker D) × (slice_get ws at ≡ Some w) → (slice_index_or ws at d).node ≡ node
      by (w, there) =
          let one : slice_index_or ws at d ≡ w = get_or_from_slice_get ws at w d there in
          let both : Some w.node ≡ Some node = sym (node_there ws at w there) ∙ is in
          let same : w.node ≡ node = cc in
          ap (λ (v : Worker D). v.node) one ∙ same

  -- a crew that worked: the fleet went on
  pub crew_on : ((d : D) → IsCounted (meaning.meters d)) → (wire : TableId) (p q : APass) (olds news : List (Worker D)) → FleetStands meaning (seen_by p) (nodes_of olds) →
      IsCrew meaning wire q news → HasGoneOn meaning.meters (seen_by p) olds (seen_by q) news →
      IsFleetOn meaning (seen_by p) (seen_by q) (nodes_of olds) (nodes_of news)
  crew_on counted wire p q olds news fleet crew on = record {
    stands = record {
      shared_stands = record { played = crew.played; within = under (seen_by q) crew.played; none = crew.none };
      count = nodes_length news ∙ sym crew.count;
      seated = λ at node there. seat at node there;
    };
    scenario = on.scenario;
    most = on.most;
    kept = λ starts kept. record {
      count = nodes_length news ∙ on.count ∙ sym (nodes_length olds) ∙ kept.count;
      each = λ at start node is there. each starts kept at start node is there;
    };
  }
    where
      sc : Scenario
      sc = scenario_of (seen_by p)

      low_of : (at : ℕ) (node : NodeView D) → slice_get (nodes_of news) at ≡ Some node → at < length olds
      low_of at node there =
          let less = slice_get_within (nodes_of news) at node there in let count = nodes_length news in let same = on.count in omega (arith, less, count, same)

      next : (at : ℕ) → at + 1 ≡ suc at
      next at = omega arith

      -- what was at the place
      was : (at : ℕ) (node : NodeView D) → slice_get (nodes_of news) at ≡ Some node → (x : NodeView D) × (slice_get (nodes_of olds) at ≡ Some x)
      was at node there = get_some (nodes_of olds) at (let less = low_of at node there in let count = nodes_length olds in omega (arith, less, count))

      all : (at : ℕ) (x y : NodeView D) → slice_get (nodes_of olds) at ≡ Some x → slice_get (nodes_of news) at ≡ Some y →
          Worked sc (suc at) (entries_of (seen_by p)) (numbers x) (entries_of (seen_by q)) (numbers y)
      all at x y there here = by (get_some olds at (low_of at y here))
        where
          by : (d : Worker D) × (slice_get olds at ≡ Some d) → Worked sc (suc at) (entries_of (seen_by p)) (numbers x) (entries_of (seen_by q)) (numbers y)
          by (d, is) =
              let P : ℕ → Type 0 = λ s. WentOn sc s (entries_of (seen_by p)) (numbers x) (entries_of (seen_by q)) (numbers y) in
              let Q : NodeView D → Type 0 = λ n. WentOn sc (at + 1) (entries_of (seen_by p)) (numbers n) (entries_of (seen_by q)) (numbers (slice_index_or news at d).node) in
              let R : NodeView D → Type 0 = λ n. WentOn sc (at + 1) (entries_of (seen_by p)) (numbers x) (entries_of (seen_by q)) (numbers n) in
              worked sc (suc at) (entries_of (seen_by p)) (numbers x) (entries_of (seen_by q)) (numbers y) (counted (disk_of x.state)) (counted (disk_of y.state)).faults
              (subst P (next at) (subst R (node_is news at y here d) (subst Q (node_is olds at x there d) (on.went at d (low_of at y here)))))

      -- the last node at its place
      stands : (at : ℕ) (node : NodeView D) → slice_get (nodes_of news) at ≡ Some node → (node.site ≡ suc at) × NodeStands meaning (scenario_of (seen_by q)) (entries_of (seen_by q)) node
      stands at node there = by (get_some olds at (low_of at node there))
        where
          by : (d : Worker D) × (slice_get olds at ≡ Some d) → (node.site ≡ suc at) × NodeStands meaning (scenario_of (seen_by q)) (entries_of (seen_by q)) node
          by (d, is) =
              let rest = crew.each at d (let less = low_of at node there in let same = on.count in omega (arith, less, same)) in
              let same : (slice_index_or news at d).node ≡ node = node_is news at node there d in
              let P : NodeView D → Type 0 = λ n. NodeStands meaning (scenario_of (seen_by q)) (entries_of (seen_by q)) n in
              (ap (λ (n : NodeView D). n.site) (sym same) ∙ rest.site ∙ next at, subst P same rest.stands)

      seat : (at : ℕ) (node : NodeView D) → slice_get (nodes_of news) at ≡ Some node → Seated meaning (scenario_of (seen_by q)) (entries_of (seen_by q)) at node
      seat at node there = by (was at node there) (stands at node there)
        where
          by : (x : NodeView D) × (slice_get (nodes_of olds) at ≡ Some x) → (node.site ≡ suc at) × NodeStands meaning (scenario_of (seen_by q)) (entries_of (seen_by q)) node →
              Seated meaning (scenario_of (seen_by q)) (entries_of (seen_by q)) at node
          by (x, old) rest =
              let P : Scenario → Type 0 = λ k. HadNoRooms k (entries_of (seen_by q)) (suc at) (numbers node).capacity in
              record { site = rest.0; stands = rest.1; rooms = subst P (sym on.scenario) ((all at x node old there).rooms (fleet.seated at x old).rooms) }

      each : (starts : List (NodeView D)) → HaveKept meaning.meters sc (entries_of (seen_by p)) starts (nodes_of olds) → (at : ℕ) (start node : NodeView D) →
          slice_get starts at ≡ Some start → slice_get (nodes_of news) at ≡ Some node →
          HasKept (scenario_of (seen_by q)) (entries_of (seen_by q)) (suc at) (meaning.meters (disk_of start.state)) (meaning.meters (disk_of node.state))
      each starts kept at start node is there = by (was at node there)
        where
          by : (x : NodeView D) × (slice_get (nodes_of olds) at ≡ Some x) →
              HasKept (scenario_of (seen_by q)) (entries_of (seen_by q)) (suc at) (meaning.meters (disk_of start.state)) (meaning.meters (disk_of node.state))
          by (x, old) =
              let P : Scenario → Type 0 = λ k. HasKept k (entries_of (seen_by q)) (suc at) (meaning.meters (disk_of start.state)) (meaning.meters (disk_of node.state)) in
              subst P (sym on.scenario) ((all at x node old there).kept (numbers start) (kept.each at start x is old))
