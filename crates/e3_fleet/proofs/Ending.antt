-- What the disks of a run came to.
use Rattle.std.proofs.Common.{◌≡◌, ◌≤◌, ◌<◌, ◌++◌, ◌∷◌, [], ℕ, suc, List, length, Some, refl, sym, ap, subst, ◌∙◌, ◌+◌, arith, length-append}
use Rattle.std.specs.Prelude.{slice_get, option_map}
use Rattle.std.proofs.lemmas.Option.{slice_get-map}
use Rattle.e3_disk.specs.Meaning.{Meaning}
use Rattle.e3_disk.specs.Meters.{Meters, IsCounted}
use Rattle.e3_fleet.specs.Over.{AreBlank, AreOver, HadNoRooms, IsFresh, IsOver}
use Rattle.e3_fleet.specs.Fleets.{AreSeated, AreUnarmed, HasKept, HaveKept, disks_of}
use Rattle.e3_fleet.proofs.Kept.{kept_start, served_start}
use Rattle.e3_fleet.proofs.Places.{get_back, get_front, get_low, get_some}
use Rattle.e3_fleet.proofs.Rooms.{rooms_empty}
use Rattle.e3_node.specs.Bodies.{DiskStands}
use Rattle.e3_node.specs.Claims.{NodesDisks}
use Rattle.e3_node.specs.NodeView.{NodeView, disk_of}
use Rattle.e3_node.proofs.Keeping.{blank_tells}
use Rattle.e3_node.proofs.Left.{tells_holds}
use Rattle.e3_types.specs.declared.entries.Entry.{Entry}
use Rattle.e3_types.specs.declared.scenarios.Scenario.{Scenario}

-- a run that never began
pub never_began : {D : Type 0} (meaning : Meaning D) → ((d : D) → IsCounted (meaning.meters d)) → (sc : Scenario) (disks : List D) →
    ((at : ℕ) (d : D) → slice_get disks at ≡ Some d → 2 ≤ (meaning.meters d).capacity) → AreBlank meaning disks → AreOver meaning sc [] disks disks
never_began {D} meaning counted sc disks halves blank = record {
  count = refl;
  sites = λ at old new low is was. (let one : old ≡ new = cc in subst (λ (d : D). IsOver meaning sc [] (suc at) old d) one (over at old (halves at old is) (blank at old is)));
  others = λ at old new far is was. (let one : new ≡ old = cc in one);
}
  where
    over : (at : ℕ) (d : D) → 2 ≤ (meaning.meters d).capacity → IsFresh meaning d → IsOver meaning sc [] (suc at) d d
    over at d least fresh = record {
      stands = record {
        holds = tells_holds sc [] (suc at) (meaning.meters d).capacity 0 (meaning.image d) (blank_tells meaning sc (suc at) d least fresh.blank);
      };
      served = served_start sc (suc at) (meaning.meters d) (counted d);
      rooms = rooms_empty sc (suc at) (meaning.meters d).capacity;
    }

disks_length : {D : Type 0} (nodes : List (NodeView D)) → length (disks_of nodes) ≡ length nodes
disks_length [] = refl
disks_length (n ∷ nodes) = ap suc (disks_length nodes)

-- a run that ended with these nodes, whose disks came back before the others
pub came_back : {D : Type 0} (meaning : Meaning D) → NodesDisks meaning →
    (sc : Scenario) (h : List Entry) (olds news : List (NodeView D)) (rest before now : List D) → length olds ≡ length sc.weights →
    AreSeated meaning sc h news → HaveKept meaning.meters sc h olds news →
    disks_of olds ++ rest ≡ before → now ≡ disks_of news ++ rest → AreOver meaning sc h before now
came_back {D} meaning law sc h olds news rest before now all seated kept was is = record {
  count = lengths;
  sites = λ at old new low there here. site at old new low there here;
  others = λ at old new far there here. other at old new far there here;
}
  where
    same : length (disks_of olds) ≡ length (disks_of news)
    same = disks_length olds ∙ sym kept.count ∙ sym (disks_length news)

    lengths : length now ≡ length before
    lengths = ap length is ∙ by (disks_of olds) (disks_of news) same ∙ ap length was
      where
        by : (xs ys : List D) → length xs ≡ length ys → length (ys ++ rest) ≡ length (xs ++ rest)
        by [] [] e = refl
        by [] (y ∷ ys) e = absurd (omega (arith, e))
        by (x ∷ xs) [] e = absurd (omega (arith, e))
        by (x ∷ xs) (y ∷ ys) e = ap suc (by xs ys (omega (arith, e)))

    disk : NodeView D → D
    disk n = disk_of n.state

    -- the disk of a node at its place
    place : (nodes : List (NodeView D)) (at : ℕ) (n : NodeView D) (d : D) → at < length nodes → slice_get nodes at ≡ Some n →
        slice_get (disks_of nodes ++ rest) at ≡ Some d → d ≡ disk_of n.state
    place nodes at n d low there here =
        let front : slice_get (disks_of nodes ++ rest) at ≡ slice_get (disks_of nodes) at =
        (let count = disks_length nodes in get_front (disks_of nodes) rest at (omega (arith, low, count))) in
        let mapped : slice_get (disks_of nodes) at ≡ option_map (λ (x : NodeView D). disk_of x.state) (slice_get nodes at) =
        slice_get-map (λ (x : NodeView D). disk_of x.state) nodes at in
        let some : slice_get (disks_of nodes) at ≡ Some (disk_of n.state) = mapped ∙ ap (option_map (λ (x : NodeView D). disk_of x.state)) there in
        let both : Some d ≡ Some (disk_of n.state) = sym here ∙ front ∙ some in cc

    one_site : (at : ℕ) (x y : NodeView D) (old new : D) → slice_get olds at ≡ Some x → slice_get news at ≡ Some y →
        old ≡ disk_of x.state → new ≡ disk_of y.state → IsOver meaning sc h (suc at) old new
    one_site at x y old new there here one two =
        subst (λ (d : D). IsOver meaning sc h (suc at) d new) (sym one)
        (subst (λ (d : D). IsOver meaning sc h (suc at) (disk_of x.state) d) (sym two) (record {
          stands = subst (λ (s : ℕ). DiskStands meaning sc h s (disk_of y.state)) (seated at y here).site (law sc h y (seated at y here).stands);
          served = (kept.each at x y there here).served;
          rooms = subst (λ (n : ℕ). HadNoRooms sc h (suc at) n) (kept.each at x y there here).served.capacity (seated at y here).rooms;
        }))

    site : (at : ℕ) (old new : D) → at < length sc.weights → slice_get before at ≡ Some old → slice_get now at ≡ Some new →
        IsOver meaning sc h (suc at) old new
    site at old new low there here =
        by (get_some olds at (omega (arith, low, all))) (let count = kept.count in get_some news at (omega (arith, low, all, count)))
      where
        by : (x : NodeView D) × (slice_get olds at ≡ Some x) → (y : NodeView D) × (slice_get news at ≡ Some y) → IsOver meaning sc h (suc at) old new
        by (x, x_at) (y, y_at) = one_site at x y old new x_at y_at
            (place olds at x old (omega (arith, low, all)) x_at (ap (λ (ds : List D). slice_get ds at) was ∙ there))
            (place news at y new (let count = kept.count in omega (arith, low, all, count)) y_at (ap (λ (ds : List D). slice_get ds at) (sym is) ∙ here))

    other : (at : ℕ) (old new : D) → length sc.weights ≤ at → slice_get before at ≡ Some old → slice_get now at ≡ Some new → new ≡ old
    other at old new far there here =
        let back : slice_get (disks_of olds ++ rest) at ≡ slice_get (disks_of news ++ rest) at =
        (let count = disks_length olds in get_back (disks_of olds) (disks_of news) rest at same (omega (arith, far, all, count))) in
        let both : Some old ≡ Some new = sym there ∙ sym (ap (λ (ds : List D). slice_get ds at) was) ∙ back ∙ sym (ap (λ (ds : List D). slice_get ds at) is) ∙ here in cc

-- nodes over the first of these disks, none of which is armed
pub unarmed : {D : Type 0} (meaning : Meaning D) (nodes : List (NodeView D)) (rest disks : List D) →
    disks_of nodes ++ rest ≡ disks → AreBlank meaning disks → AreUnarmed meaning.meters nodes
unarmed {D} meaning nodes rest disks is blank at node there = (blank at (disk_of node.state) here).unarmed
  where
    here : slice_get disks at ≡ Some (disk_of node.state)
    here = ap (λ (ds : List D). slice_get ds at) (sym is)
        ∙ (let low = get_low nodes at node there in let count = disks_length nodes in get_front (disks_of nodes) rest at (omega (arith, low, count)))
        ∙ slice_get-map (λ (x : NodeView D). disk_of x.state) nodes at ∙ ap (option_map (λ (x : NodeView D). disk_of x.state)) there

-- nodes that nothing happened to
pub have_kept_start : {D : Type 0} (meters : D → Meters) → ((d : D) → IsCounted (meters d)) → (sc : Scenario) (nodes : List (NodeView D)) →
    AreUnarmed meters nodes → HaveKept meters sc [] nodes nodes
have_kept_start {D} meters counted sc nodes off = record {
  count = refl;
  each = λ at x y is there. subst (λ (z : NodeView D). HasKept sc [] (suc at) (meters (disk_of x.state)) (meters (disk_of z.state))) (let one : x ≡ y = cc in one)
      (kept_start sc (suc at) (meters (disk_of x.state)) (counted (disk_of x.state)) (off at x is));
}

-- the disks of nodes and the others are as many as there were
pub room_left : {D : Type 0} (nodes : List (NodeView D)) (rest before : List D) (count : ℕ) → disks_of nodes ++ rest ≡ before → count ≡ length nodes →
    length rest + count ≡ length before
room_left {D} nodes rest before count is same =
    let all : length (disks_of nodes ++ rest) ≡ length before = ap length is in
    let sum : length (disks_of nodes ++ rest) ≡ length (disks_of nodes) + length rest = length-append (disks_of nodes) rest in
    let disks = disks_length nodes in omega (arith, all, sum, disks, same)
