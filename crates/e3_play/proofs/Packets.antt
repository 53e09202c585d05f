-- What is entered for a packet.
use Rattle.std.proofs.Common.{◌≡◌, ◌≢◌, ◌++◌, ◌∷◌, [], ◌+◌, ◌≤◌, ◌<◌, inl, inr, ℕ, zero, suc, true, false, List, length, Some, refl, sym, subst, ap, ◌∙◌, append-nil, length-append, arith}
use Rattle.std.specs.Prelude.{slice_get, Contains}
use Rattle.e3_types.specs.declared.entries.Act.TheVariants.{Drop}
use Rattle.e3_types.specs.declared.entries.Entry.{Entry}
use Rattle.e3_types.specs.declared.entries.Input.{Input}
use Rattle.e3_types.specs.declared.entries.Input.TheVariants as input
use Rattle.e3_types.specs.declared.entries.Why.{Why}
use Rattle.e3_types.specs.declared.messages.Packet.{Packet}
use Rattle.e3_types.specs.declared.scenarios.Scenario.{Scenario}
use Rattle.e3_world.specs.Given.{IsGiven}
use Rattle.e3_world.specs.Items.{is_up_at, to_line}
use Rattle.e3_world.specs.Legal.{Guard, IsDue, entry_of, made_by}
use Rattle.e3_world.specs.Packets.{is_line, lines, pending}
use Rattle.e3_world.specs.Progress.{Delivering}
use Rattle.e3_world.proofs.Guards.{deliver_first, drop_first, guard_step, lines_push, up_some}
use Rattle.e3_world.proofs.Pushes.{legal_push}
use Rattle.e3_world.proofs.Readings.{to_push}
use Rattle.e3_world.proofs.Turns.{through, through_push}
use Rattle.e3_laws.specs.local.Settling.{TakingLowers}
use Rattle.e3_laws.proofs.local.Measure.Left.{left, left_falls}
use Rattle.e3_play.specs.Delivered.{Delivers, Nothing, Then}
use Rattle.e3_play.specs.Entering.{AfterInput, AfterPacket, fall_of}

-- the guard of a fall over one input
pub guard_fall : (sc : Scenario) (h : List Entry) (site : ℕ) (i : Input) (why : Why) → 1 ≤ site → is_up_at h site ≡ true → IsDue sc h site i →
    (made_by sc h site i).records ≢ [] → Guard sc h (fall_of sc h site i why)
guard_fall sc h zero i why one up due some = absurd (omega (arith, one))
guard_fall sc h (suc s) i why one up due some = record { up = up; due = (due, tt); some = some; made = sym (append-nil (made_by sc h (suc s) i).records) }

first_is_in : (ps : List Packet) (p : Packet) → slice_get ps 0 ≡ Some p → Contains ps p
first_is_in [] p is = absurd cc
first_is_in (x ∷ ps) p is = let same : x ≡ p = cc in let P : Packet → Type 0 = λ y. Contains (x ∷ ps) y in subst P same (0, omega arith, refl)

-- the first pending packet may be delivered
pub packet_due : (sc : Scenario) (h : List Entry) (p : Packet) → Delivering sc h → slice_get (pending sc h) 0 ≡ Some p →
    IsDue sc h p.to (input.Deliver p)
packet_due sc h p was first = record {
  to = refl;
  is_pending = first_is_in (pending sc h) p first;
  behind_items = through sc h was.done;
  in_order = λ calm. first;
}

-- one more packet is delivered or dropped
pub packet_after : (sc : Scenario) (h next : List Entry) (p : Packet) → Delivering sc h → slice_get (pending sc h) 0 ≡ Some p → AfterPacket sc h p next →
    Delivering sc next
packet_after sc h next p was first (inr dropped) =
    let P : List Entry → Type 0 = λ l. Delivering sc l in subst P (sym dropped.after) (drop_first sc h p was first dropped.down)
packet_after sc h next p was first (inl delivered) = by delivered.after
  where
    P : List Entry → Type 0
    P l = Delivering sc l

    one : 1 ≤ p.to
    one = up_some sc h p.to was.legal delivered.up

    by : AfterInput sc h p.to (input.Deliver p) next → Delivering sc next
    by (inl stepped) = subst P (sym stepped) (deliver_first sc h p was first one delivered.up)
    by (inr fell) = subst P (sym fell.entered) (record {
      legal = legal_push sc h _ was.legal (guard_fall sc h p.to (input.Deliver p) fell.why one delivered.up (packet_due sc h p was first) fell.some);
      done = through_push sc h (fall_of sc h p.to (input.Deliver p) fell.why) refl (λ b is. absurd cc) was.done;
    })

-- it is one entry more, and no line
pub record IsOneMore (h next : List Entry) : Type 0 where
  pub entry : Entry
  pub entered : next ≡ h ++ entry ∷ []
  pub stays : is_line entry ≡ false

pub packet_is_one : (sc : Scenario) (h next : List Entry) (p : Packet) → AfterPacket sc h p next → IsOneMore h next
packet_is_one sc h next p (inr dropped) = record { entry = record { owner = 0; act = Drop p.number }; entered = dropped.after; stays = refl }
packet_is_one sc h next p (inl delivered) = by delivered.after
  where
    by : AfterInput sc h p.to (input.Deliver p) next → IsOneMore h next
    by (inl stepped) = record { entry = entry_of sc h p.to (input.Deliver p); entered = stepped; stays = refl }
    by (inr fell) = record { entry = fall_of sc h p.to (input.Deliver p) fell.why; entered = fell.entered; stays = refl }

pub longer : (sc : Scenario) (h next : List Entry) (p : Packet) → AfterPacket sc h p next → length next ≡ suc (length h)
longer sc h next p after =
    let one : IsOneMore h next = packet_is_one sc h next p after in
    let more : length (h ++ one.entry ∷ []) ≡ length h + 1 = length-append h (one.entry ∷ []) in
    ap length one.entered ∙ (omega (arith, more))

-- what packets alone leave as it was
pub record StaysDelivering (sc : Scenario) (start now : List Entry) : Type 0 where
  pub delivering : Delivering sc now
  pub same_line : to_line now ≡ to_line start
  pub same_lines : lines now ≡ lines start

-- packets are delivered behind the same line
pub stays_delivering : (sc : Scenario) (start now : List Entry) → Delivering sc start → Delivers sc start now → StaysDelivering sc start now
stays_delivering sc start now was Nothing = record { delivering = was; same_line = refl; same_lines = refl }
stays_delivering sc start now was (Then h more p before first after) =
    let last : StaysDelivering sc start h = stays_delivering sc start h was before in
    let one : IsOneMore h now = packet_is_one sc h now p after in
    record {
      delivering = packet_after sc h now p last.delivering first after;
      same_line = ap to_line one.entered ∙ to_push h one.entry one.stays ∙ last.same_line;
      same_lines = ap lines one.entered ∙ lines_push h one.entry ∙ rw (one.stays, last.same_lines) (omega arith);
    }

-- it lowers how many entries packets may still take
pub packet_lowers : (sc : Scenario) (h next : List Entry) (p : Packet) → TakingLowers → IsGiven sc → Delivering sc h → slice_get (pending sc h) 0 ≡ Some p →
    AfterPacket sc h p next → left sc next < left sc h
packet_lowers sc h next p lowers given was first after = by after
  where
    Less : List Entry → Type 0
    Less l = left sc l < left sc h

    by : AfterPacket sc h p next → left sc next < left sc h
    by (inr dropped) = subst Less (sym dropped.after) (left_falls sc h (record { owner = 0; act = Drop p.number }) lowers given was.legal
        (record { packet = p; is_pending = first_is_in (pending sc h) p first; is_its = refl; down = dropped.down; in_order = λ calm. first }) (p, first, refl))
    by (inl delivered) = come delivered.after
      where
        one : 1 ≤ p.to
        one = up_some sc h p.to was.legal delivered.up

        come : AfterInput sc h p.to (input.Deliver p) next → left sc next < left sc h
        come (inl stepped) = subst Less (sym stepped) (left_falls sc h (entry_of sc h p.to (input.Deliver p)) lowers given was.legal
            (guard_step sc h p.to (input.Deliver p) one delivered.up (packet_due sc h p was first)) first)
        come (inr fell) = subst Less (sym fell.entered) (left_falls sc h (fall_of sc h p.to (input.Deliver p) fell.why) lowers given was.legal
            (guard_fall sc h p.to (input.Deliver p) fell.why one delivered.up (packet_due sc h p was first) fell.some) first)
