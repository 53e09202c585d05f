-- Items and packets of a worker.
use Rattle.std.proofs.Common.{◌≡◌, ◌||◌, ◌<◌, ◌≤◌, ◌++◌, ◌∷◌, [], inl, inr, ℕ, zero, suc, Bool, true, false, List, length, map, refl, sym, ap, subst, ◌∙◌, append_assoc, arith, eq-eqb, Some}
use Rattle.std.specs.Prelude.{Result, Ok, Err, OnOk, get_or, slice_get}
use Rattle.std.specs.List.{list_any}
use Rattle.atomic_table.specs.Seated.{TableId}
use Rattle.e3_fleet.specs.crew.Forks.{CanTake}
use Rattle.e3_fleet.specs.crew.Turns.{AreDone, HasTaken}
use Rattle.e3_fleet.specs.crew.Workers.{HasGiven, HasPass, HasTakenItems, HasTakenPackets, HasWorked, HasWorkedWith, IsPassFor, ItemHadNoRoom, Knows, NonePending, seen_of}
use Rattle.e3_fleet.specs.declared.crew.forks.Turn.{Turn}
use Rattle.e3_fleet.specs.declared.crew.forks.Turn.TheVariants as turn
use Rattle.e3_fleet.specs.declared.crew.worker.Worker.{Worker}
use Rattle.e3_fleet.proofs.crew.Growing.{alike_meanwhile, meanwhile_own, through_meanwhile}
use Rattle.e3_disk.specs.Meaning.{Meaning}
use Rattle.e3_laws.specs.local.Drafts.{MayTake, MayTakeAll}
use Rattle.e3_laws.specs.local.Least.{IsLeastTo, queue_to}
use Rattle.e3_laws.specs.local.Workers.{AtItems}
use Rattle.e3_laws.proofs.local.Due.{calm_on}
use Rattle.e3_laws.proofs.local.Least.{least_is_pending}
use Rattle.e3_laws.proofs.local.Queues.{front_is_least, queue_goes_on}
use Rattle.e3_laws.proofs.local.Working.{items_stay, next_item}
use Rattle.e3_node.specs.NodeView.{NodeView}
use Rattle.e3_node.specs.Places.{HasGivenNoneBack}
use Rattle.e3_node.specs.Turns.{Meanwhile}
use Rattle.e3_play.specs.Entering.{AfterInput, fall_of}
use Rattle.e3_play.specs.declared.sites.RunFault.{RunFault}
use Rattle.e3_play.specs.declared.sites.RunFault.TheVariants.{HistoryFull}
use Rattle.e3_types.specs.declared.entries.Entry.{Entry}
use Rattle.e3_types.specs.declared.entries.Input.{Input}
use Rattle.e3_types.specs.declared.entries.Input.TheVariants as input
use Rattle.e3_types.specs.declared.messages.Packet.{Packet}
use Rattle.e3_types.specs.declared.scenarios.Scenario.{Scenario}
use Rattle.e3_turn.specs.Passes.{seen_by}
use Rattle.e3_wire.specs.Claims.{APass}
use Rattle.e3_wire.specs.declared.marks.Mark.{Mark}
use Rattle.e3_wire.specs.declared.marks.Note.{Note}
use Rattle.e3_wire.specs.Marks.{entries_of, scenario_of}
use Rattle.e3_wire.specs.Wires.{TakesLeast}
use Rattle.e3_world.specs.Given.{IsGiven}
use Rattle.e3_world.specs.Items.{is_delivery, is_up_at, turn_of}
use Rattle.e3_wire.proofs.Claimed.{taken_is_due}
use Rattle.e3_world.specs.Legal.{IsDue, IsLegal, IsNextItem, entry_of}
use Rattle.e3_world.specs.Packets.{is_calm, present_items}
use Rattle.e3_world.specs.Progress.{Through}
use Rattle.e3_world.proofs.Guards.{guard_step}
use Rattle.e3_world.proofs.Pushes.{legal_front, legal_push}
use Rattle.e3_world.proofs.Readings.{up_same}
use Rattle.e3_world.proofs.Turns.{through}

neither : (a b : Bool) → (a || b) ≡ false → (a ≡ false) × (b ≡ false)
neither true b is = absurd cc
neither false b is = (refl, is)

-- the item at a place
pub at_index : (items : List Input) (k : ℕ) (i : Input) → k < length items → i ≡ get_or items k i → slice_get items k ≡ Some i
at_index [] k i low is = absurd (omega (arith, low))
at_index (x ∷ items) zero i low is = ap Some (sym is)
at_index (x ∷ items) (suc k) i low is = at_index items k i (omega (arith, low)) is

pub item_is_no_packet : (items : List Input) (k : ℕ) (i : Input) → list_any is_delivery items ≡ false → slice_get items k ≡ Some i → is_delivery i ≡ false
item_is_no_packet [] k i plain is = absurd cc
item_is_no_packet (x ∷ items) zero i plain is =
    let same : x ≡ i = cc in
    let P : Input → Type 0 = λ y. is_delivery y ≡ false in subst P same (neither (is_delivery x) (list_any is_delivery items) plain).0
item_is_no_packet (x ∷ items) (suc k) i plain is = item_is_no_packet items k i (neither (is_delivery x) (list_any is_delivery items) plain).1 is

-- what is no delivery takes no packet
pub takes_none : (sc : Scenario) (h : List Entry) (site : ℕ) (i : Input) → is_delivery i ≡ false → TakesLeast sc h site i
takes_none sc h site (input.Begin sites) plain = tt
takes_none sc h site (input.Do t op) plain = tt
takes_none sc h site (input.Commit t) plain = tt
takes_none sc h site (input.Cancel t) plain = tt
takes_none sc h site (input.Expire t) plain = tt
takes_none sc h site (input.Elect t group) plain = tt
takes_none sc h site (input.Deliver packet) plain = absurd cc

pub items_meanwhile : (sc : Scenario) (site : ℕ) (h now : List Entry) (items : List Input) (k : ℕ) → IsGiven sc → IsLegal sc now → Meanwhile site h now →
    AtItems sc h site items k → AtItems sc now site items k
items_meanwhile sc site h now items k given legal m at =
    let P : List Entry → Type 0 = λ l. AtItems sc l site items k in
    subst P (sym m.is) (items_stay sc site h m.others items k given (subst (IsLegal sc) m.is legal) m.of_others at)

up_meanwhile : (sc : Scenario) (site : ℕ) (h now : List Entry) → IsGiven sc → IsLegal sc now → Meanwhile site h now → is_up_at now site ≡ is_up_at h site
up_meanwhile sc site h now given legal m = (alike_meanwhile sc site h now given legal m).up

-- how far a site is, wherever others went on
pub done_meanwhile : (sc : Scenario) (site : ℕ) (h now : List Entry) (items : List Input) (k : ℕ) → IsGiven sc → IsLegal sc now → Meanwhile site h now →
    AreDone sc h site items k → AreDone sc now site items k
done_meanwhile sc site h now items k given legal m done up =
    items_meanwhile sc site h now items k given legal m (done (sym (up_meanwhile sc site h now given legal m) ∙ up))

fallen : (sc : Scenario) (met now : List Entry) (site : ℕ) (i : Input) → AfterInput sc met site i now → (is_up_at now site ≡ true) →
    now ≡ met ++ entry_of sc met site i ∷ []
fallen sc met now site i (inl stepped) up = stepped
fallen sc met now site i (inr fell) up = absurd
    (let down : is_up_at now site ≡ false = ap (λ (k : List Entry). is_up_at k site) fell.entered ∙ up_same met (fall_of sc met site i fell.why) site (eq-eqb site site refl) in cc)

-- with the next item taken, or a site that went down
pub next_done : (sc : Scenario) (site : ℕ) (items : List Input) (k : ℕ) (i : Input) (before now : List Entry) → IsGiven sc → IsLegal sc now →
    slice_get items k ≡ Some i → is_delivery i ≡ false → AreDone sc before site items k → HasTaken sc site i before now → AreDone sc now site items (suc k)
next_done sc site items k i before now given legal got plain done taken up = by (is_up_at before site) refl
  where
    by : (b : Bool) → is_up_at before site ≡ b → AtItems sc now site items (suc k)
    by true was =
        let t = taken.up was in
        let is : now ≡ t.0 ++ entry_of sc t.0 site i ∷ [] = fallen sc t.0 now site i t.2 up in
        let front : IsLegal sc t.0 = legal_front sc t.0 (entry_of sc t.0 site i ∷ []) (subst (IsLegal sc) is legal) in
        let P : List Entry → Type 0 = λ l. AtItems sc l site items (suc k) in
        subst P (sym is) (next_item sc site t.0 items k i (items_meanwhile sc site before t.0 items k given front t.1 (done was)) got plain).2
    by false was = absurd (let down : is_up_at now site ≡ false = up_meanwhile sc site before now given legal (taken.down was) ∙ was in cc)

pub item_may : (sc : Scenario) (site : ℕ) (items : List Input) (k : ℕ) (i : Input) (h : List Entry) → slice_get items k ≡ Some i → is_delivery i ≡ false →
    AreDone sc h site items k → is_up_at h site ≡ true → MayTake sc h site i
item_may sc site items k i h got plain done up = (next_item sc site h items k i (done up) got plain).1

module _ {D : Type 0} (meaning : Meaning D) where
  -- the next item is done
  pub next_given : (before marks : List Mark) (old new : NodeView D) (i : Input) (items : List Input) (k : ℕ) →
      slice_get items k ≡ Some i → is_delivery i ≡ false → Knows meaning before old →
      AreDone (scenario_of before) (entries_of before) old.site items k → HasWorked meaning before old marks new →
      HasTaken (scenario_of before) old.site i (entries_of before) (entries_of marks) →
      AreDone (scenario_of marks) (entries_of marks) new.site items (suc k)
  next_given before marks old new i items k got plain knows done worked taken =
      let P : Scenario → Type 0 = λ sc. AreDone sc (entries_of marks) new.site items (suc k) in
      let Q : ℕ → Type 0 = λ s. AreDone (scenario_of before) (entries_of marks) s items (suc k) in
      let R : Scenario → Type 0 = λ sc. IsLegal sc (entries_of marks) in
      subst P (sym worked.scenario) (subst Q (sym worked.site) (next_done (scenario_of before) old.site items k i (entries_of before) (entries_of marks)
      knows.played.given (subst R worked.scenario worked.knows.played.legal) got plain done taken))

  -- an item that was refused is due
  pub item_refused : (before marks : List Mark) (old new : NodeView D) (i : Input) (items : List Input) (k : ℕ) (answer : Result (Unit {0}) RunFault) →
      slice_get items k ≡ Some i → Knows meaning before old → AreDone (scenario_of before) (entries_of before) old.site items k →
      HasGiven meaning before old i marks new answer → answer ≡ Err HistoryFull → ItemHadNoRoom marks old.site
  item_refused before marks old new i items k (Ok done) got knows at gave is = absurd cc
  item_refused before marks old new i items k (Err fault) got knows at gave is = record {
    full = gave.full is;
    up = up_meanwhile sc old.site (entries_of before) (entries_of marks) knows.played.given legal gave.kept ∙ gave.up;
    item = i;
    due = (let P : Scenario → Type 0 = λ k. IsNextItem k (entries_of marks) old.site i in subst P (sym gave.worked.scenario) (record {
      next = ap (λ l. slice_get l (turn_of (entries_of marks) old.site)) here.asked ∙ ap (slice_get items) here.turn ∙ got;
      no_delivery = here.fresh;
    }));
  }
    where
      sc : Scenario
      sc = scenario_of before

      legal : IsLegal sc (entries_of marks)
      legal = let P : Scenario → Type 0 = λ k. IsLegal k (entries_of marks) in subst P gave.worked.scenario gave.worked.knows.played.legal

      here : AtItems sc (entries_of marks) old.site items k
      here = items_meanwhile sc old.site (entries_of before) (entries_of marks) items k knows.played.given legal gave.kept (at gave.up)

  -- all items stay through
  pub through_worked : {w : Note} (before marks : List Mark) (old new : NodeView D) → IsGiven (scenario_of before) → HasWorkedWith meaning w before old marks new →
      Through (scenario_of before) (entries_of before) → Through (scenario_of marks) (entries_of marks)
  through_worked before marks old new given worked all =
      let P : Scenario → Type 0 = λ k. Through k (entries_of marks) in
      let Q : Scenario → Type 0 = λ k. IsLegal k (entries_of marks) in
      subst P (sym worked.scenario) (through_meanwhile (scenario_of before) 0 (entries_of before) (entries_of marks) given
      (subst Q worked.scenario worked.knows.played.legal) worked.grew all)

-- the least packet may be taken
pub packet_may : (sc : Scenario) (h : List Entry) (site : ℕ) (p : Packet) → IsLeastTo sc h site p → Through sc h → MayTake sc h site (input.Deliver p)
packet_may sc h site p least all = ((least_is_pending sc h site p least).1, through sc h all)

-- and the first ones, one behind the other
pub packets_may : (sc : Scenario) (h : List Entry) (site : ℕ) (few rest : List Packet) → IsGiven sc → IsLegal sc h → 1 ≤ site → is_up_at h site ≡ true →
    is_calm (present_items sc h) ≡ false → Through sc h → queue_to sc h site ≡ few ++ rest → MayTakeAll sc h site (map input.Deliver few)
packets_may sc h site [] rest given legal some up calm all queue = tt
packets_may sc h site (p ∷ few) rest given legal some up calm all queue =
    let i : Input = input.Deliver p in
    let e : Entry = entry_of sc h site i in
    let least : IsLeastTo sc h site p = front_is_least sc h site p (few ++ rest) queue in
    let may : MayTake sc h site i = packet_may sc h site p least all in
    let due : IsDue sc h site i = taken_is_due sc h site i calm may least in
    let now : IsLegal sc (h ++ e ∷ []) = legal_push sc h e legal (guard_step sc h site i some up due) in
    let on = queue_goes_on sc h site p (few ++ rest) legal queue in (
      may,
      packets_may sc (h ++ e ∷ []) site few (rest ++ on.0) given now some (up_same h e site (eq-eqb site site refl) ∙ up) (calm_on sc h site i calm)
          (through_meanwhile sc 0 h (h ++ e ∷ []) given now (meanwhile_own h (h ++ e ∷ []) e some refl refl) all) (on.1 ∙ append_assoc few rest on.0),
    )

-- a worker that may have its turn has a pass
pub pass_to_take : {D : Type 0} (meaning : Meaning D) (wire : TableId) (w : Worker D) (t : Turn) → CanTake t meaning wire w → HasPass wire w
pass_to_take meaning wire w turn.Items can = can.pass
pass_to_take meaning wire w turn.Packets can = can.pass

-- a turn with items, once the worker has its pass again
pub took_items : {D : Type 0} (meaning : Meaning D) (wire : TableId) (before : Worker D) (marks : List Mark) (old : NodeView D)
    (items : List Input) (p : APass) (new : NodeView D) (kept : List Input) (answer : Result (Unit {0}) RunFault) → marks ≡ seen_of before → old ≡ before.node → items ≡ before.items →
    IsPassFor wire new.site p → HasWorked meaning marks old (seen_by p) new →
    OnOk answer (AreDone (scenario_of marks) (entries_of (seen_by p)) old.site items (length items)) → (answer ≡ Err HistoryFull → ItemHadNoRoom (seen_by p) old.site) →
    HasGivenNoneBack old.site marks (seen_by p) → HasTakenItems meaning wire before (record { node = new; pass = Some p; items = kept; ended = answer })
took_items {D} meaning wire before marks old items p new kept answer seen node all pass worked done full back = record {
  pass = (p, refl, pass);
  worked = (let P : List Mark → Type 0 = λ l. HasWorked meaning l before.node (seen_by p) new in
      let Q : NodeView D → Type 0 = λ n. HasWorked meaning marks n (seen_by p) new in subst P seen (subst Q node worked));
  done = (let P : List Mark → Type 0 = λ l. OnOk answer (AreDone (scenario_of l) (entries_of (seen_by p)) before.node.site before.items (length before.items)) in
      let Q : NodeView D → Type 0 = λ n. OnOk answer (AreDone (scenario_of marks) (entries_of (seen_by p)) n.site before.items (length before.items)) in
      let R : List Input → Type 0 = λ l. OnOk answer (AreDone (scenario_of marks) (entries_of (seen_by p)) old.site l (length l)) in
      subst P seen (subst Q node (subst R all done)));
  full = λ is. (let Q : NodeView D → Type 0 = λ n. ItemHadNoRoom (seen_by p) n.site in subst Q node (full is));
  none_back = (let P : List Mark → Type 0 = λ l. HasGivenNoneBack before.node.site l (seen_by p) in
      let Q : NodeView D → Type 0 = λ n. HasGivenNoneBack n.site marks (seen_by p) in subst P seen (subst Q node back));
}

-- a turn with packets, once the worker has its pass again
pub took_packets : {D : Type 0} (meaning : Meaning D) (wire : TableId) (before : Worker D) (marks : List Mark) (old : NodeView D)
    (p : APass) (new : NodeView D) (kept : List Input) (answer : Result (Unit {0}) RunFault) → marks ≡ seen_of before → old ≡ before.node →
    IsPassFor wire new.site p → HasWorked meaning marks old (seen_by p) new → OnOk answer (NonePending (seen_by p) old.site) →
    HasTakenPackets meaning wire before (record { node = new; pass = Some p; items = kept; ended = answer })
took_packets {D} meaning wire before marks old p new kept answer seen node pass worked done = record {
  pass = (p, refl, pass);
  worked = (let P : List Mark → Type 0 = λ l. HasWorked meaning l before.node (seen_by p) new in
      let Q : NodeView D → Type 0 = λ n. HasWorked meaning marks n (seen_by p) new in subst P seen (subst Q node worked));
  done = (let Q : NodeView D → Type 0 = λ n. OnOk answer (NonePending (seen_by p) n.site) in subst Q node done);
}
