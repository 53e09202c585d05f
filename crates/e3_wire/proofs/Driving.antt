-- Entries of the driver, and what it reads of the network.
use Rattle.std.proofs.Common.{◌≡◌, ◌==◌, ◌+◌, ◌<◌, ◌≤◌, ℕ, suc, Bool, true, false, List, [], ◌∷◌, ◌++◌, length, ◌∙◌, ap, sym, subst, refl, arith, length-append, map, eq-eqb, Some}
use Rattle.std.specs.Prelude.{find, option_map, slice_get}
use Rattle.e3_types.specs.declared.entries.Act.{Act}
use Rattle.e3_types.specs.declared.entries.Act.TheVariants.{Drop, Line, Parts}
use Rattle.e3_types.specs.declared.entries.Entry.{Entry}
use Rattle.e3_types.specs.declared.messages.Packet.{Packet}
use Rattle.e3_types.specs.declared.scenarios.Scenario.{Scenario}
use Rattle.e3_world.specs.Items.{is_up_at}
use Rattle.e3_world.specs.Legal.{Guard, IsLegal, first_pending}
use Rattle.e3_world.specs.Packets.{is_calm, lines, pending, step_items}
use Rattle.e3_world.proofs.Pushes.{legal_push}
use Rattle.e3_laws.specs.local.Least.{IsLeastTo}
use Rattle.e3_laws.proofs.local.Least.{least_is, least_is_pending}
use Rattle.e3_net.specs.declared.waiting.Waiting.{Waiting}
use Rattle.e3_net.specs.Stands.{NetStands}
use Rattle.e3_net.specs.Traffic.{Traffic, packet_to, takes}
use Rattle.e3_net.proofs.Keeping.{drop_keeps, line_keeps, parts_keep}
use Rattle.e3_net.proofs.Showing.{pending_are}
use Rattle.e3_wire.specs.declared.marks.Mark.{Mark}
use Rattle.e3_wire.specs.declared.marks.Mark.TheVariants as mark
use Rattle.e3_wire.specs.declared.marks.Note.{Note}
use Rattle.e3_wire.specs.declared.marks.Stored.{Stored}
use Rattle.e3_wire.specs.declared.marks.Stored.TheVariants as stored
use Rattle.e3_wire.specs.Marks.{entries_of, note_by, promised, rooms, used_by, used_of}
use Rattle.e3_wire.specs.Stores.{IsKept, count_stored, marks_from}
use Rattle.e3_wire.specs.Wires.{IsInTurn, WireStands}
use Rattle.e3_wire.proofs.Entering.{count_entry, marks_entry}
use Rattle.e3_wire.proofs.Foreign.{entries_append}
use Rattle.e3_wire.proofs.Noting.{notes_still}
use Rattle.e3_wire.proofs.Rooms.{few_append}
use Rattle.e3_wire.proofs.Sums.{stands_still}

-- an entry of the driver uses nothing that is promised
free_note : (act : Act) → ((w : Note) → used_by w act ≡ w) → (o : ℕ) (w : Note) → note_by o w (mark.Entered (record { owner = 0; act = act })) ≡ w
free_note act free o w = by (0 == o) refl
  where
    by : (b : Bool) → (0 == o) ≡ b → note_by o w (mark.Entered (record { owner = 0; act = act })) ≡ w
    by true is = (let one : note_by o w (mark.Entered (record { owner = 0; act = act })) ≡ used_by w act = rw is refl in one) ∙ free w
    by false is = rw is refl

pub own_marks : (sc : Scenario) (most : ℕ) (es : List Entry) (ms : List Stored) (e : Entry) → length es ≡ count_stored ms →
    marks_from sc most (es ++ e ∷ []) (ms ++ stored.Entered ∷ []) ≡ marks_from sc most es ms ++ mark.Entered e ∷ []
own_marks sc most es ms e whole = ap (λ l. mark.Start sc most ∷ l) (marks_entry es ms e whole)

-- what is shared stands behind one
pub own_entered : (sc : Scenario) (most : ℕ) (es : List Entry) (ms : List Stored) (net : Traffic) (notes : List Note) (places room spare hr sr nr : ℕ) (net2 : Traffic) (act : Act) (spare2 hr2 sr2 nr2 : ℕ) →
    IsKept sc most es ms net notes places room spare hr sr nr → ((w : Note) → used_by w act ≡ w) →
    Guard sc (entries_of (marks_from sc most es ms)) (record { owner = 0; act = act }) →
    NetStands sc (entries_of (marks_from sc most es ms) ++ record { owner = 0; act = act } ∷ []) net2 → net2.sent ≡ net.sent →
    used_of (marks_from sc most es ms) < most → places ≤ spare2 → spare2 ≤ hr2 → length ms + (places + 1) ≤ sr2 → room ≤ nr2 →
    IsKept sc most (es ++ record { owner = 0; act = act } ∷ []) (ms ++ stored.Entered ∷ []) net2 notes places room spare2 hr2 sr2 nr2
own_entered sc most es ms net notes places room spare hr sr nr net2 act spare2 hr2 sr2 nr2 was free guard stands_net count few for_entries spare_is for_marks for_packets = record {
  stands = subst (λ (l : List Mark). WireStands l net2) (sym marks_are) (record {
    played = record { given = was.stands.played.given; legal = subst (IsLegal sc) (sym same) (legal_push sc h e was.stands.played.legal guard); within = within; few = was.stands.played.few; promises = few_append M (mark.Entered e ∷ []) was.stands.played.promises (tt, tt) };
    net = subst (λ k. NetStands sc k net2) (sym same) stands_net;
  });
  whole = length-append es (e ∷ []) ∙ (let one : length es + 1 ≡ suc (count_stored ms) = (let w = was.whole in omega (arith, w)) in one) ∙ sym (count_entry ms);
  notes_are = rw marks_are (notes_still last M (mark.Entered e) notes was.notes_are (free_note act free));
  places_are = rw marks_are (was.places_are ∙ sym places_still);
  room_is = rw marks_are (was.room_is ∙ sym room_still);
  for_entries = for_entries;
  spare_is = spare_is;
  for_marks = (let long = length-append ms (stored.Entered ∷ []) in omega (arith, long, for_marks));
  for_packets = for_packets;
  counted = (let f = was.counted in let long = length-append es (e ∷ []) in omega (arith, f, count, long));
}
  where
    M : List Mark
    M = marks_from sc most es ms

    h : List Entry
    h = entries_of M

    e : Entry
    e = record { owner = 0; act = act }

    last : ℕ
    last = length sc.weights

    marks_are : marks_from sc most (es ++ e ∷ []) (ms ++ stored.Entered ∷ []) ≡ M ++ mark.Entered e ∷ []
    marks_are = own_marks sc most es ms e was.whole

    same : entries_of (M ++ mark.Entered e ∷ []) ≡ h ++ e ∷ []
    same = entries_append M (mark.Entered e ∷ [])

    places_still : promised last (M ++ mark.Entered e ∷ []) ≡ promised last M
    places_still = stands_still (λ w. w.places) M (mark.Entered e) last (free_note act free)

    room_still : rooms last (M ++ mark.Entered e ∷ []) ≡ rooms last M
    room_still = stands_still (λ w. w.room) M (mark.Entered e) last (free_note act free)

    within : length (entries_of (M ++ mark.Entered e ∷ [])) + promised last (M ++ mark.Entered e ∷ []) ≤ most
    within =
        let long : length (entries_of (M ++ mark.Entered e ∷ [])) ≡ length h + 1 = ap length same ∙ length-append h (e ∷ []) in
        let under : length h + promised last M < most = few in
        omega (arith, places_still, long, under)

-- the network behind a line
pub net_line : (sc : Scenario) (h : List Entry) (net new : Traffic) (number : ℕ) (calm : Bool) → NetStands sc h net → number ≡ suc (lines h) →
    calm ≡ is_calm (step_items sc number) → new ≡ record net { calm = calm } →
    NetStands sc (h ++ record { owner = 0; act = Line number } ∷ []) new
net_line sc h net new number calm was next is now =
    let P : Traffic → Type 0 = λ n. NetStands sc (h ++ record { owner = 0; act = Line number } ∷ []) n in
    let due : calm ≡ is_calm (step_items sc (suc (lines h))) = is ∙ ap (λ (k : ℕ). is_calm (step_items sc k)) next in
    subst P (sym (now ∙ ap (λ (b : Bool). record net { calm = b }) due)) (line_keeps sc h net 0 number was)

pub net_parts : (sc : Scenario) (h : List Entry) (net new : Traffic) (parts : List (List ℕ)) → NetStands sc h net → new ≡ record net { parts = parts } →
    NetStands sc (h ++ record { owner = 0; act = Parts parts } ∷ []) new
net_parts sc h net new parts was now =
    let P : Traffic → Type 0 = λ n. NetStands sc (h ++ record { owner = 0; act = Parts parts } ∷ []) n in
    subst P (sym now) (parts_keep sc h net 0 parts was)

-- the network shows the least packet to a site
pub least_shown : (sc : Scenario) (h : List Entry) (net : Traffic) (site : ℕ) → NetStands sc h net → packet_to site net ≡ find (λ q. q.to == site) (pending sc h)
least_shown sc h net site was = ap (λ ws. packet_to site (record net { waiting = ws })) was.waiting ∙ sym (least_is sc h site)

pub net_drop : (sc : Scenario) (h : List Entry) (net new : Traffic) (site : ℕ) (p : Packet) → NetStands sc h net → IsLeastTo sc h site p →
    new ≡ takes site net → NetStands sc (h ++ record { owner = 0; act = Drop p.number } ∷ []) new
net_drop sc h net new site p was least now =
    let P : Traffic → Type 0 = λ n. NetStands sc (h ++ record { owner = 0; act = Drop p.number } ∷ []) n in
    subst P (sym now) (drop_keeps sc h net 0 site p was (least_shown sc h net site was ∙ least))

-- the first packet, where it goes to the site, is the least to it
first_is : (site : ℕ) (ps : List Packet) (p : Packet) → find (λ q. q.to == site) ps ≡ Some p → ((q : Packet) → slice_get ps 0 ≡ Some q → q.to ≡ site) → slice_get ps 0 ≡ Some p
first_is site [] p is order = absurd cc
first_is site (x ∷ xs) p is order =
    let here : (x.to == site) ≡ true = eq-eqb x.to site (order x refl) in
    let found : find (λ (q : Packet). q.to == site) (x ∷ xs) ≡ Some x = rw here refl in
    sym found ∙ is

pub drop_guard : (sc : Scenario) (h : List Entry) (site : ℕ) (p : Packet) → IsLeastTo sc h site p → is_up_at h site ≡ false → IsInTurn sc h site →
    Guard sc h (record { owner = 0; act = Drop p.number })
drop_guard sc h site p least down order = record {
  packet = p;
  is_pending = (least_is_pending sc h site p least).0;
  is_its = refl;
  down = ap (is_up_at h) (least_is_pending sc h site p least).1 ∙ down;
  in_order = λ calm. first_is site (pending sc h) p least (order calm);
}

-- the first packet that waits
get_map : (ws : List Waiting) → slice_get (map (λ w. w.packet) ws) 0 ≡ option_map (λ w. w.packet) (slice_get ws 0)
get_map [] = refl
get_map (w ∷ ws) = refl

pub first_shown : (sc : Scenario) (h : List Entry) (net : Traffic) → NetStands sc h net →
    option_map (λ w. w.packet) (slice_get net.waiting 0) ≡ first_pending sc h
first_shown sc h net was = sym (ap (λ (ps : List Packet). slice_get ps 0) (pending_are sc h net was) ∙ get_map net.waiting)
