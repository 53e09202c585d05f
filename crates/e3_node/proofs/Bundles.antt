-- A batch of steps: what its site, its marks and its history come to.
use Rattle.std.proofs.Common.{◌≡◌, ◌+◌, ◌-◌, ◌≤◌, ◌++◌, ◌∷◌, [], ℕ, suc, true, false, List, length, refl, sym, subst, ap, ◌∙◌, append-nil, append_assoc, length-append, map, arith}
use Rattle.std.specs.List.{flat_map}
use Rattle.std.proofs.lemmas.Grind.{flat_map-append}
use Rattle.e3_disk.specs.Meaning.{Meaning}
use Rattle.e3_laws.specs.local.Drafts.{MayTakeAll}
use Rattle.e3_laws.specs.local.Least.{AreFirstTo, AreOfSites, IsLeastTo, queue_to}
use Rattle.e3_laws.specs.local.Others.{Allows, AreOthers, numbered_on}
use Rattle.e3_laws.proofs.local.Alike.{all_on}
use Rattle.e3_laws.proofs.local.Due.{all_due, calm_on}
use Rattle.e3_laws.proofs.local.Laws.{legal_behind}
use Rattle.e3_laws.proofs.local.Queues.{first_are_waiting, front_is_least, queue_goes_on, queue_stays}
use Rattle.e3_node.specs.Batches.{unnumbered_of, unnumbered_steps, stepped}
use Rattle.e3_node.specs.Bodies.{entries_at}
use Rattle.e3_node.specs.NodeStands.{steps_at}
use Rattle.e3_node.specs.Several.{AreOf, MayEnterAll, claims_for}
use Rattle.e3_log.specs.Stands.{LogState}
use Rattle.e3_types.specs.declared.entries.Entry.{Entry}
use Rattle.e3_types.specs.declared.entries.Input.{Input}
use Rattle.e3_types.specs.declared.entries.Input.TheVariants as input
use Rattle.e3_types.specs.declared.messages.Packet.{Packet}
use Rattle.e3_types.specs.declared.records.Record.{Record}
use Rattle.e3_types.specs.declared.scenarios.Scenario.{Scenario}
use Rattle.e3_wire.specs.Marks.{AreFew, entries_of, note_of, used_by}
use Rattle.e3_wire.specs.declared.marks.Mark.{Mark}
use Rattle.e3_wire.specs.declared.marks.Mark.TheVariants as mark
use Rattle.e3_wire.specs.declared.marks.Note.{Note}
use Rattle.e3_wire.proofs.Claimed.{taken_is_due}
use Rattle.e3_wire.proofs.Foreign.{entries_append}
use Rattle.e3_wire.proofs.Notes.{entry_uses}
use Rattle.e3_wire.proofs.Spending.{used_numbered}
use Rattle.e3_world.specs.Given.{IsGiven}
use Rattle.e3_world.specs.Items.{is_up_at}
use Rattle.e3_world.specs.Legal.{AreDue, Guard, IsDue, IsLegal, entry_of, made_by, records_by}
use Rattle.e3_world.specs.Moves.{Move, log_by, log_of, moves_of, unnumbered, recorded}
use Rattle.e3_world.specs.Packets.{is_calm, present_items}
use Rattle.e3_world.specs.Sound.{step_move}
use Rattle.e3_world.proofs.Guards.{guard_step}
use Rattle.e3_world.proofs.Pushes.{legal_push}
use Rattle.e3_world.proofs.Readings.{up_same}
use Rattle.e3_world.proofs.Turns.{self}
use Rattle.e3_node.proofs.Guarding.{step_entry}
use Rattle.e3_node.proofs.Several.{enter_list, outs_in, used_all}
use Rattle.e3_node.specs.site_log.Bodies.{IsLogged}
use Rattle.e3_node.proofs.site_log.Writes.{logged_later}
use Rattle.e3_node.proofs.Pasts.{entries_on}
use Rattle.e3_node.proofs.Steps.{one_step_more, step_moves}

-- the entry of a step, once its packets have numbers
pub unnumbered_entry : (sc : Scenario) (h : List Entry) (site : ℕ) (i : Input) → numbered_on h (unnumbered_of site i (made_by sc h site i)) ≡ entry_of sc h site i
unnumbered_entry sc h site i =
    step_entry sc h site i (made_by sc h site i).records (map unnumbered (made_by sc h site i).outs) (made_by sc h site i).told refl refl refl

-- the steps are the site's, one for each input
pub unnumbered_own : (sc : Scenario) (h : List Entry) (site : ℕ) (inputs : List Input) → AreOf site (unnumbered_steps sc h site inputs)
unnumbered_own sc h site [] = tt
unnumbered_own sc h site (i ∷ inputs) = (refl, unnumbered_own sc (h ++ entry_of sc h site i ∷ []) site inputs)

pub unnumbered_length : (sc : Scenario) (h : List Entry) (site : ℕ) (inputs : List Input) → length (unnumbered_steps sc h site inputs) ≡ length inputs
unnumbered_length sc h site [] = refl
unnumbered_length sc h site (i ∷ inputs) = ap suc (unnumbered_length sc (h ++ entry_of sc h site i ∷ []) site inputs)

-- the history that they make
pub unnumbered_list : (sc : Scenario) (h : List Entry) (site : ℕ) (inputs : List Input) → enter_list h (unnumbered_steps sc h site inputs) ≡ stepped sc h site inputs
unnumbered_list sc h site [] = refl
unnumbered_list sc h site (i ∷ inputs) =
    ap (λ (x : Entry). enter_list (h ++ x ∷ []) (unnumbered_steps sc (h ++ entry_of sc h site i ∷ []) site inputs)) (unnumbered_entry sc h site i)
    ∙ unnumbered_list sc (h ++ entry_of sc h site i ∷ []) site inputs

-- they use just what was claimed for them
pub steps_use : (sc : Scenario) (h : List Entry) (site : ℕ) (inputs : List Input) (p r : ℕ) →
    used_all (record { places = p + length (unnumbered_steps sc h site inputs); room = r + outs_in (unnumbered_steps sc h site inputs) }) (unnumbered_steps sc h site inputs)
    ≡ record { places = p; room = r }
steps_use sc h site [] p r =
    let places : p + 0 ≡ p = omega arith in
    let room : r + 0 ≡ r = omega arith in
    ap (λ (n : ℕ). let w : Note = record { places = n; room = r + 0 } in w) places ∙ ap (λ (n : ℕ). let w : Note = record { places = p; room = n } in w) room
steps_use sc h site (i ∷ inputs) p r =
    let e : Entry = unnumbered_of site i (made_by sc h site i) in
    let rest : List Entry = unnumbered_steps sc (h ++ entry_of sc h site i ∷ []) site inputs in
    let outs : ℕ = length (map unnumbered (made_by sc h site i).outs) in
    let places : (p + suc (length rest)) - 1 ≡ p + length rest = omega arith in
    let room : (r + (outs + outs_in rest)) - outs ≡ r + outs_in rest = omega arith in
    ap (λ (n : ℕ). let w : Note = record { places = n; room = (r + (outs + outs_in rest)) - outs } in used_all w rest) places
    ∙ ap (λ (n : ℕ). let w : Note = record { places = p + length rest; room = n } in used_all w rest) room
    ∙ steps_use sc (h ++ entry_of sc h site i ∷ []) site inputs p r

-- the moves of the steps
abbrev pub moves_by : Scenario → List Entry → ℕ → List Input → List Move
moves_by sc h site [] = []
moves_by sc h site (i ∷ inputs) = step_move sc site (moves_of sc h site) i ∷ moves_by sc (h ++ entry_of sc h site i ∷ []) site inputs

pub stepped_moves : (sc : Scenario) (h : List Entry) (site : ℕ) (inputs : List Input) →
    moves_of sc (stepped sc h site inputs) site ≡ moves_of sc h site ++ moves_by sc h site inputs
stepped_moves sc h site [] = sym (append-nil (moves_of sc h site))
stepped_moves sc h site (i ∷ inputs) =
    let m : Move = step_move sc site (moves_of sc h site) i in
    let rest : List Move = moves_by sc (h ++ entry_of sc h site i ∷ []) site inputs in
    stepped_moves sc (h ++ entry_of sc h site i ∷ []) site inputs ∙ ap (λ (ms : List Move). ms ++ rest) (step_moves sc h site i)
    ∙ append_assoc (moves_of sc h site) (m ∷ []) rest

pub moves_recorded : (sc : Scenario) (h : List Entry) (site : ℕ) (inputs : List Input) → flat_map recorded (moves_by sc h site inputs) ≡ records_by sc h site inputs
moves_recorded sc h site [] = refl
moves_recorded sc h site (i ∷ inputs) = ap (λ (rs : List Record). (made_by sc h site i).records ++ rs) (moves_recorded sc (h ++ entry_of sc h site i ∷ []) site inputs)

-- the log behind them
pub steps_log : (sc : Scenario) (h : List Entry) (site : ℕ) (inputs : List Input) →
    log_of sc (stepped sc h site inputs) site ≡ log_of sc h site ++ records_by sc h site inputs
steps_log sc h site inputs =
    ap log_by (stepped_moves sc h site inputs) ∙ flat_map-append recorded (moves_of sc h site) (moves_by sc h site inputs)
    ∙ ap (λ (rs : List Record). log_of sc h site ++ rs) (moves_recorded sc h site inputs)

-- it has so many entries more
pub steps_entries : (sc : Scenario) (h : List Entry) (site : ℕ) (inputs : List Input) → entries_at (stepped sc h site inputs) site ≡ entries_at h site + length inputs
steps_entries sc h site [] = omega arith
steps_entries sc h site (i ∷ inputs) =
    let rest : entries_at (stepped sc (h ++ entry_of sc h site i ∷ []) site inputs) site ≡ entries_at (h ++ entry_of sc h site i ∷ []) site + length inputs =
    steps_entries sc (h ++ entry_of sc h site i ∷ []) site inputs in
    let one : entries_at (h ++ entry_of sc h site i ∷ []) site ≡ entries_at h site + 1 = entries_on h site (entry_of sc h site i) refl in
    omega (arith, rest, one)

-- behind some of them a log on a disk that was written holds it
pub steps_logged : {D : Type 0} (meaning : Meaning D) (sc : Scenario) (h : List Entry) (site : ℕ) (inputs : List Input)
    (records : List Record) (logged : ℕ) (new : LogState D) → 1 ≤ length inputs → records ≡ records_by sc h site inputs →
    IsLogged meaning site (entries_at h site + 1) (log_of sc h site ++ records) logged new →
    IsLogged meaning site (entries_at (stepped sc h site inputs) site) (log_of sc (stepped sc h site inputs) site) logged new
steps_logged meaning sc h site inputs records logged new some made wrote =
    let now : log_of sc (stepped sc h site inputs) site ≡ log_of sc h site ++ records =
    steps_log sc h site inputs ∙ ap (λ (rs : List Record). log_of sc h site ++ rs) (sym made) in
    let many = steps_entries sc h site inputs in
    let P : List Record → Type 0 = λ l. IsLogged meaning site (entries_at (stepped sc h site inputs) site) l logged new in
    subst P (sym now)
    (logged_later meaning site (entries_at h site + 1) (log_of sc h site ++ records) (entries_at (stepped sc h site inputs) site) logged new (omega (arith, many, some)) wrote)

pub stepped_long : (sc : Scenario) (h : List Entry) (site : ℕ) (inputs : List Input) → length (stepped sc h site inputs) ≡ length h + length inputs
stepped_long sc h site [] = omega arith
stepped_long sc h site (i ∷ inputs) =
    let rest = stepped_long sc (h ++ entry_of sc h site i ∷ []) site inputs in
    let one = length-append h (entry_of sc h site i ∷ []) in
    omega (arith, rest, one)

-- so many steps more
pub stepped_count : (sc : Scenario) (h : List Entry) (site : ℕ) (inputs : List Input) → steps_at (stepped sc h site inputs) site ≡ steps_at h site + length inputs
stepped_count sc h site [] = omega arith
stepped_count sc h site (i ∷ inputs) =
    let rest : steps_at (stepped sc (h ++ entry_of sc h site i ∷ []) site inputs) site ≡ steps_at (h ++ entry_of sc h site i ∷ []) site + length inputs =
    stepped_count sc (h ++ entry_of sc h site i ∷ []) site inputs in
    let one : steps_at (h ++ entry_of sc h site i ∷ []) site ≡ suc (steps_at h site) = one_step_more sc h site i in
    omega (arith, rest, one)

-- inputs that the site may take, and whose packets are the first to it, are due
pub takes_due : (sc : Scenario) (h : List Entry) (site : ℕ) (packets rest : List Packet) → IsLegal sc h → 1 ≤ site → is_up_at h site ≡ true →
    is_calm (present_items sc h) ≡ false → MayTakeAll sc h site (map input.Deliver packets) → queue_to sc h site ≡ packets ++ rest →
    AreDue sc h site (map input.Deliver packets)
takes_due sc h site [] rest legal one up calm may queue = tt
takes_due sc h site (p ∷ packets) rest legal one up calm may queue =
    let e : Entry = entry_of sc h site (input.Deliver p) in
    let least = front_is_least sc h site p (packets ++ rest) queue in
    let due : IsDue sc h site (input.Deliver p) = taken_is_due sc h site (input.Deliver p) calm may.0 least in
    let on = queue_goes_on sc h site p (packets ++ rest) legal queue in (
      due,
      takes_due sc (h ++ e ∷ []) site packets (rest ++ on.0) (legal_push sc h e legal (guard_step sc h site (input.Deliver p) one up due)) one
          (up_same h e site (self site) ∙ up) (calm_on sc h site (input.Deliver p) calm) may.1 (on.1 ∙ append_assoc packets rest on.0),
    )

pub all_due_first : (sc : Scenario) (h : List Entry) (site : ℕ) (inputs : List Input) → IsLegal sc h → 1 ≤ site → is_up_at h site ≡ true →
    is_calm (present_items sc h) ≡ false → MayTakeAll sc h site inputs → AreFirstTo sc h site inputs → AreDue sc h site inputs
all_due_first sc h site inputs legal one up calm may first =
    let P : List Input → Type 0 = λ l. MayTakeAll sc h site l in
    let Q : List Input → Type 0 = λ l. AreDue sc h site l in
    subst Q (sym first.deliver) (takes_due sc h site first.packets first.rest legal one up calm (subst P first.deliver may) first.first)

-- the first of them are, and stay the first, behind entries of others
pub first_on : (sc : Scenario) (h more : List Entry) (site : ℕ) (inputs : List Input) → IsLegal sc (h ++ more) → AreOthers site more → AreOfSites more →
    AreFirstTo sc h site inputs → AreFirstTo sc (h ++ more) site inputs
first_on sc h more site inputs legal others sites first =
    let stays = queue_stays sc h more site legal others sites in
    record {
      packets = first.packets;
      rest = first.rest ++ stays.0;
      deliver = first.deliver;
      first = stays.1 ∙ ap (λ (l : List Packet). l ++ stays.0) first.first ∙ append_assoc first.packets first.rest stays.0;
    }

pub due_on_all : (sc : Scenario) (h more : List Entry) (site : ℕ) (inputs : List Input) → IsGiven sc → IsLegal sc (h ++ more) → AreOthers site more → AreOfSites more →
    is_calm (present_items sc h) ≡ false → AreFirstTo sc h site inputs → AreDue sc h site inputs → AreDue sc (h ++ more) site inputs
due_on_all sc h more site inputs given legal others sites calm first due =
    all_due sc site h (h ++ more) inputs (all_on sc site h more given (legal_behind sc [] h more legal) others) calm
    (first_are_waiting sc (h ++ more) site inputs legal (first_on sc h more site inputs legal others sites first)) due

-- Steps that are due, whose packets are the first to the site, may be entered one behind the other where a place and the room
-- of its packets are promised for each, and 32 bits count these.
pub may_enter_all : (sc : Scenario) (most : ℕ) (more : List Mark) (h : List Entry) (site : ℕ) (packets rest : List Packet) (p r : ℕ) →
    entries_of (mark.Start sc most ∷ more) ≡ h → IsLegal sc h → 1 ≤ site → site ≤ length sc.weights → is_up_at h site ≡ true →
    AreDue sc h site (map input.Deliver packets) → queue_to sc h site ≡ packets ++ rest →
    note_of site (mark.Start sc most ∷ more) ≡ record {
      places = p + length (unnumbered_steps sc h site (map input.Deliver packets));
      room = r + outs_in (unnumbered_steps sc h site (map input.Deliver packets));
    } →
    AreFew (claims_for (unnumbered_steps sc h site (map input.Deliver packets))) →
    MayEnterAll (mark.Start sc most ∷ more) (unnumbered_steps sc h site (map input.Deliver packets))
may_enter_all sc most more h site [] rest p r is legal one exists up due queue note few = tt
may_enter_all sc most more h site (q ∷ packets) rest p r is legal one exists up due queue note few = (
  record {
    site = one;
    exists = exists;
    allowed = subst (λ (k : List Entry). Allows sc k e) (sym is) (subst (Guard sc h) (sym (unnumbered_entry sc h site i)) guard);
    takes = subst (λ (k : List Entry). IsLeastTo sc k site q) (sym is) (front_is_least sc h site q (packets ++ rest) queue);
    place = subst (λ (w : Note). 1 ≤ w.places) (sym note) (let some : 1 ≤ p + suc (length after) = omega arith in some);
    room = subst (λ (w : Note). outs ≤ w.room) (sym note) (let all : outs ≤ r + (outs + outs_in after) = omega arith in all);
    few = few.0;
  },
  subst (λ (x : Entry). MayEnterAll (M ++ mark.Entered x ∷ []) after) (sym (ap (λ (k : List Entry). numbered_on k e) is ∙ unnumbered_entry sc h site i))
      (may_enter_all sc most (more ++ mark.Entered x ∷ []) (h ++ x ∷ []) site packets (rest ++ on.0) p r
      (entries_append M (mark.Entered x ∷ []) ∙ ap (λ (k : List Entry). k ++ x ∷ []) is)
      (legal_push sc h x legal guard) one exists (up_same h x site (self site) ∙ up) due.1 (on.1 ∙ append_assoc packets rest on.0) noted few.1),
)
  where
    i : Input
    i = input.Deliver q

    M : List Mark
    M = mark.Start sc most ∷ more

    e : Entry
    e = unnumbered_of site i (made_by sc h site i)

    x : Entry
    x = entry_of sc h site i

    after : List Entry
    after = unnumbered_steps sc (h ++ x ∷ []) site (map input.Deliver packets)

    guard : Guard sc h x
    guard = guard_step sc h site i one up due.0

    on : (new : List Packet) × (queue_to sc (h ++ x ∷ []) site ≡ (packets ++ rest) ++ new)
    on = queue_goes_on sc h site q (packets ++ rest) legal queue

    outs : ℕ
    outs = length (map unnumbered (made_by sc h site i).outs)

    noted : note_of site (M ++ mark.Entered x ∷ []) ≡ record { places = p + length after; room = r + outs_in after }
    noted =
        let places : (p + suc (length after)) - 1 ≡ p + length after = omega arith in
        let room : (r + (outs + outs_in after)) - outs ≡ r + outs_in after = omega arith in
        entry_uses x M ∙ ap (λ (w : Note). used_by w x.act) note
        ∙ ap (λ (y : Entry). used_by (record { places = p + suc (length after); room = r + (outs + outs_in after) }) y.act) (sym (unnumbered_entry sc h site i))
        ∙ used_numbered h site e.act (record { places = p + suc (length after); room = r + (outs + outs_in after) })
        ∙ ap (λ (n : ℕ). let w : Note = record { places = n; room = (r + (outs + outs_in after)) - outs } in w) places
        ∙ ap (λ (n : ℕ). let w : Note = record { places = p + length after; room = n } in w) room
