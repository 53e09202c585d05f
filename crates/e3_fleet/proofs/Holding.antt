-- What the driver took of the wire, and the nodes of workers by their places.
use Rattle.std.proofs.Common.{◌≡◌, ◌<◌, ◌+◌, ◌++◌, ◌∷◌, [], ℕ, zero, suc, true, false, List, length, Some, refl, sym, ap, subst, ◌∙◌, append-nil, arith, take, drop}
use Rattle.std.specs.Prelude.{All, slice_get, slice_index_or, slice_set, option_map}
use Rattle.std.proofs.lemmas.List.Elements.{All-head}
use Rattle.std.proofs.lemmas.Option.{slice_get-get_or, slice_get-map}
use Rattle.atomic_table.specs.Seated.{TableId}
use Rattle.e3_fleet.specs.crew.Crews.{IsAtRest, IsCrew}
use Rattle.e3_fleet.specs.declared.crew.worker.Worker.{Worker}
use Rattle.e3_disk.specs.Meaning.{Meaning}
use Rattle.e3_fleet.specs.Fleets.{FleetIsHeld, FleetStands, IsFleetOn, IsTaken, nodes_of}
use Rattle.e3_node.specs.NodeStands.{NodeStands}
use Rattle.e3_node.specs.NodeView.{NodeView}
use Rattle.e3_node.proofs.Sharing.{no_growth}
use Rattle.e3_play.specs.Settled.{is_asking}
use Rattle.e3_play.proofs.DueItems.{asking_is_no_recovery}
use Rattle.e3_turn.specs.Chronicles.{count_of, down_from, IsForeign}
use Rattle.e3_turn.specs.Passes.{GrewByOthers, GrewByOwners, HasTurn, IsIdle, OwnsAll, SameOwners, last_of, owners_of, seen_by}
use Rattle.e3_turn.proofs.Totals.{count_of_below}
use Rattle.e3_types.specs.declared.scenarios.Scenario.{Scenario}
use Rattle.e3_wire.specs.Claims.{APass, HasOwner, HaveGrown}
use Rattle.e3_wire.specs.declared.marks.Mark.{Mark}
use Rattle.e3_wire.specs.Marks.{NothingIsPromised, belongs, entries_of, last_owner, scenario_of}
use Rattle.e3_wire.specs.Wires.{IsPlayed}
use Rattle.e3_wire.proofs.Notes.{scenario_stays}
use Rattle.e3_wire.proofs.Puts.{drivers_may_put}
use Rattle.e3_wire.proofs.Spending.{growth_adds_up}
use Rattle.e3_world.specs.Packets.{is_calm, present_items}

module _ {D : Type 0} where
  -- the node of the worker at a place
  pub node_there : (ws : List (Worker D)) (at : ℕ) (w : Worker D) → slice_get ws at ≡ Some w → slice_get (nodes_of ws) at ≡ Some w.node
  node_there ws at w is = slice_get-map (λ (v : Worker D). v.node) ws at ∙ ap (option_map (λ (v : Worker D). v.node)) is

  pub nodes_length : (ws : List (Worker D)) → length (nodes_of ws) ≡ length ws
  nodes_length [] = refl
  nodes_length (w ∷ ws) = ap suc (nodes_length ws)

  pub nodes_set : (ws : List (Worker D)) (at : ℕ) (w : Worker D) → nodes_of (slice_set ws at w) ≡ slice_set (nodes_of ws) at w.node
  nodes_set [] at w = refl
  nodes_set (v ∷ ws) zero w = refl
  nodes_set (v ∷ ws) (suc at) w = ap (λ ns. v.node ∷ ns) (nodes_set ws at w)

  pub nodes_more : (ws : List (Worker D)) (w : Worker D) → nodes_of (ws ++ w ∷ []) ≡ nodes_of ws ++ w.node ∷ []
  nodes_more [] w = refl
  nodes_more (v ∷ ws) w = ap (λ ns. v.node ∷ ns) (nodes_more ws w)

-- a call of the node of a worker
pub worker_on : {D : Type 0} (meaning : Meaning D) (was now : List Mark) (ws : List (Worker D)) (at : ℕ) (w : Worker D) →
    IsFleetOn meaning was now (nodes_of ws) (slice_set (nodes_of ws) at w.node) → IsFleetOn meaning was now (nodes_of ws) (nodes_of (slice_set ws at w))
worker_on {D} meaning was now ws at w on =
    let P : List (NodeView D) → Type 0 = λ ns. IsFleetOn meaning was now (nodes_of ws) ns in subst P (sym (nodes_set ws at w)) on

-- more owners' marks may be put behind what was taken
pub taken_on : (wire : TableId) (p : APass) (was now : List Mark) → IsTaken wire p was → HaveGrown was now → IsTaken wire p now
taken_on wire p was now t grew = record {
  turn = t.turn;
  all = t.all;
  last = t.last;
  played = t.played;
  grown = growth_adds_up (seen_by p) was now t.played t.grown grew;
}

-- a call of the driver, or of a node, which it holds still
pub held_on : {D : Type 0} (meaning : Meaning D) (wire : TableId) (p : APass) (was now : List Mark) (olds news : List (NodeView D)) →
    FleetIsHeld meaning wire p was olds → IsFleetOn meaning was now olds news → HaveGrown was now → FleetIsHeld meaning wire p now news
held_on meaning wire p was now olds news held on grew = record { fleet = on.stands; taken = taken_on wire p was now held.taken grew }

-- it may be put back
pub may_put : (wire : TableId) (p : APass) (shared : List Mark) → IsTaken wire p shared → GrewByOwners belongs p shared
may_put wire p shared t =
    let P : ℕ → Type 0 = λ n. All (HasOwner n) t.grown.0 in
    drivers_may_put p shared t.grown.0 t.all t.grown.1 (subst P (sym t.last) t.grown.2)

-- the owners that the pass has are those of the wire
pub held_last : (wire : TableId) (p : APass) (shared : List Mark) → IsTaken wire p shared → last_of p ≡ last_owner shared
held_last wire p shared t =
    t.last ∙ ap (λ (sc : Scenario). length sc.weights) (sym (ap scenario_of t.grown.1 ∙ (scenario_stays (seen_by p) t.grown.0 t.played).0))

pub owns_same : (p q : APass) → SameOwners p q → OwnsAll p → OwnsAll q
owns_same p q same all o low =
    let P : List ℕ → Type 0 = λ os. 0 < count_of o os in
    subst P (sym same.owners) (all o (let l = same.last in omega (arith, l, low)))

-- a pass that owns all sees just what it put: nobody is left who may add to it
pub nothing_added : (p : APass) (marks : List Mark) → OwnsAll p → GrewByOthers belongs p marks → marks ≡ seen_by p
nothing_added p marks all grew = by grew.0 grew.1 grew.2
  where
    by : (more : List Mark) → marks ≡ seen_by p ++ more → All (IsForeign belongs (last_of p) (owners_of p)) more → marks ≡ seen_by p
    by [] is foreign = is ∙ append-nil (seen_by p)
    by (m ∷ more) is foreign =
        let first : IsForeign belongs (last_of p) (owners_of p) m = All-head (IsForeign belongs (last_of p) (owners_of p)) m more foreign in
        let owner = first.0 in
        let has : 0 < count_of owner.0 (owners_of p) = all owner.0 owner.1 in
        let none : count_of owner.0 (owners_of p) ≡ 0 = first.1 owner.0 owner.2 in absurd (omega (arith, has, none))

-- the first pass of a wire owns all
pub owns_from : (p : APass) (n : ℕ) → owners_of p ≡ down_from n → last_of p ≡ n → OwnsAll p
owns_from p n owners last o low =
    let P : List ℕ → Type 0 = λ os. 0 < count_of o os in
    subst P (sym owners) (let one = count_of_below n o (omega (arith, last, low)) in omega (arith, one))

-- what a pass that owns all took is what it has seen
pub taken_again : (wire : TableId) (p q : APass) (shared : List Mark) → OwnsAll p → last_of p ≡ last_owner (seen_by p) → HasTurn wire q → SameOwners p q → seen_by q ≡ shared →
    GrewByOthers belongs p shared → IsPlayed shared → IsTaken wire q shared
taken_again wire p q shared all last turn same seen grew played = record {
  turn = turn;
  all = owns_same p q same all;
  last = same.last ∙ last ∙ ap last_owner (sym (nothing_added p shared all grew) ∙ sym seen);
  played = subst IsPlayed (sym seen) played;
  grown = no_growth (seen_by q) shared (sym seen);
}

-- what was put back, with the workers, is a crew
pub crew_of : {D : Type 0} (meaning : Meaning D) (wire : TableId) (p q : APass) (shared : List Mark) (ws : List (Worker D)) →
    IsTaken wire p shared → FleetStands meaning shared (nodes_of ws) → is_asking (present_items (scenario_of shared) (entries_of shared)) ≡ true →
    IsIdle wire q → SameOwners p q → seen_by q ≡ shared → IsPlayed (seen_by q) → IsCrew meaning wire q ws
crew_of {D} meaning wire p q shared ws t fleet form idle same seen played = record {
  idle = idle;
  all = owns_same p q same t.all;
  last = same.last ∙ held_last wire p shared t ∙ sym fleet.count ∙ nodes_length ws;
  count = ap last_owner seen ∙ sym fleet.count ∙ nodes_length ws;
  played = played;
  restless = (let P : List Mark → Type 0 = λ l. is_calm (present_items (scenario_of l) (entries_of l)) ≡ false in
      subst P (sym seen) (asking_is_no_recovery (present_items (scenario_of shared) (entries_of shared)) form));
  none = (let P : List Mark → Type 0 = λ l. NothingIsPromised l in subst P (sym seen) fleet.shared_stands.none);
  each = λ i d low. rest i (slice_index_or ws i d) (slice_get-get_or ws i d low);
}
  where
    rest : (i : ℕ) (w : Worker D) → slice_get ws i ≡ Some w → IsAtRest meaning (scenario_of (seen_by q)) (entries_of (seen_by q)) i w
    rest i w is =
        let seat = fleet.seated i w.node (node_there ws i w is) in
        let P : List Mark → Type 0 = λ l. NodeStands meaning (scenario_of l) (entries_of l) w.node in
        record { site = seat.site ∙ (let same : suc i ≡ i + 1 = omega arith in same); stands = subst P (sym seen) seat.stands }

-- what is told of two values, told of two others that are the same
pub told_of : (P : List Mark → List Mark → Type 0) (a b c d : List Mark) → a ≡ b → c ≡ d → P a c → P b d
told_of P a b c d one two was = (let Q : List Mark → Type 0 = λ l. P l d in let R : List Mark → Type 0 = λ l. P a l in subst Q one (subst R two was))

-- what is written over all of a list is what was written
front : {A : Type 0} (ys zs : List A) → take (length ys) (ys ++ zs) ≡ ys
front [] zs = refl
front (y ∷ ys) zs = ap (λ l. y ∷ l) (front ys zs)

pub filled : {A : Type 0} (xs ys : List A) (n : ℕ) → length ys ≡ n → take n (ys ++ drop (length ys) xs) ≡ ys
filled {A} xs ys n is = (let P : ℕ → Type 0 = λ k. take k (ys ++ drop (length ys) xs) ≡ ys in subst P is (front ys (drop (length ys) xs)))
