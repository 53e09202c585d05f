-- Why a write failed, what it took of an arm, and where it ended.
use Rattle.std.proofs.Common.{◌≡◌, ◌≢◌, ◌⊎◌, ◌+◌, ◌<◌, ◌≤◌, ◌∷◌, [], inl, inr, ℕ, Bool, true, false, List, length, refl, sym, subst, ap, ◌∙◌, arith}
use Rattle.std.specs.Prelude.{if◌then◌else◌, min, nat_lt, IfErr, OnOk, Result, Ok, Err}
use Rattle.std.proofs.Math.Nat.{min-le_left, min-le_right, le-min}
use Rattle.std.proofs.lemmas.Bool.{le-ltb, lt-ltb, ltb-false, ltb-true}
use Rattle.e3_disk.specs.Meaning.{Meaning}
use Rattle.e3_disk.specs.Meters.{HasFailed, Keeps, LAST, Meters, raised}
use Rattle.e3_world.specs.Brief.{brief}
use Rattle.e3_laws.proofs.brief.Laws.{are_some}
use Rattle.e3_log.specs.Frames.{frames}
use Rattle.e3_log.specs.Fronts.{bodies_in as handed_out}
use Rattle.e3_log.specs.Regions.{limit, other, start}
use Rattle.e3_log.specs.Stands.{LogState}
use Rattle.e3_log.specs.declared.fault.AppendFault.{AppendFault}
use Rattle.e3_log.specs.declared.fault.AppendFault.TheVariants as append_fault
use Rattle.e3_log.specs.declared.fault.TurnFault.{TurnFault}
use Rattle.e3_log.specs.declared.fault.TurnFault.TheVariants as turn_fault
use Rattle.e3_log.proofs.Append.{new_end}
use Rattle.e3_node.specs.site_log.Bodies.{IsLogged, bodies_in, body_of, joined}
use Rattle.e3_node.specs.site_log.Ends.{HasRoom, LacksRoom, IsReason, Takes, calls_for, frame_end, size_of, turn_why, why_of}
use Rattle.e3_node.specs.declared.site_log.writing.Short.{Short}
use Rattle.e3_node.proofs.site_log.Writes.{none_kept}
use Rattle.e3_types.specs.Spelling.{spelling}
use Rattle.e3_types.specs.declared.entries.Why.{Why}
use Rattle.e3_types.specs.declared.entries.Why.TheVariants.{Fault, Full}
use Rattle.e3_types.specs.declared.records.Record.{Record}

-- what follows of a call's Ok, and of its error
pub on_ok : {A B : Type 0} (r : Result (Unit {0}) Why) → (A → B) → OnOk r A → OnOk r B
on_ok (Ok done) f is = f is
on_ok (Err why) f is = tt

pub if_err : {P Q : Why → Type 0} (r : Result (Unit {0}) Why) → ((why : Why) → P why → Q why) → IfErr r P → IfErr r Q
if_err (Ok done) f is = tt
if_err (Err why) f is = f why is

pub err_so : {P : Type 0} (r : Result (Unit {0}) Why) → P → IfErr r (λ why. P)
err_so (Ok done) is = tt
err_so (Err why) is = is

-- the causes of an append and of a turn
pub add_fault : {P : Type 0} (f : AppendFault) → (f ≡ append_fault.Failed → P) → why_of f ≡ Fault → P
add_fault append_fault.Failed by is = by refl
add_fault (append_fault.Full need room) by is = absurd cc

pub add_full : (f : AppendFault) (need room : ℕ) → why_of f ≡ Full need room → f ≡ append_fault.Full need room
add_full append_fault.Failed need room is = absurd cc
add_full (append_fault.Full n r) need room is = let one : n ≡ need = cc in let two : r ≡ room = cc in cc

pub turn_fault_is : {P : Type 0} (f : TurnFault) → (f ≡ turn_fault.Failed → P) → (f ≡ turn_fault.NoMemory → ⊥) → turn_why f ≡ Fault → P
turn_fault_is turn_fault.Failed by never is = by refl
turn_fault_is turn_fault.NoMemory by never is = absurd (never refl)
turn_fault_is (turn_fault.Full need room) by never is = absurd cc

pub turn_full_is : (f : TurnFault) (need room : ℕ) → turn_why f ≡ Full need room → f ≡ turn_fault.Full need room
turn_full_is turn_fault.Failed need room is = absurd cc
turn_full_is turn_fault.NoMemory need room is = absurd cc
turn_full_is (turn_fault.Full n r) need room is = let one : n ≡ need = cc in let two : r ≡ room = cc in cc

-- what is not past a place is within it
pub within : (need room : ℕ) → (room < need → ⊥) → need ≤ room
within need room never = by (nat_lt room need) refl
  where
    by : (b : Bool) → nat_lt room need ≡ b → need ≤ room
    by true is = absurd (never (ltb-true room need is))
    by false is = ltb-false room need is

-- calls of which the first did not stop the disk
pub keeps_then : (a b c : Meters) → Keeps a b → b.stops ≡ a.stops → Keeps b c → Keeps a c
keeps_then a b c first none second = record {
  capacity = second.capacity ∙ first.capacity;
  arms = second.arms ∙ first.arms;
  calls = second.calls ∙ first.calls;
  codes = second.codes ∙ first.codes;
  cuts = second.cuts ∙ first.cuts;
  faults = let one : a.faults ≤ b.faults = first.faults in let two : b.faults ≤ c.faults = second.faults in omega (arith, one, two);
  own_faults = λ few.
      let one : a.faults ≤ b.faults = first.faults in
      let two : b.faults + c.stops ≤ c.faults + b.stops = second.own_faults few in
      omega (arith, one, two, none);
  left = let one : b.calls_left ≤ a.calls_left = first.left in let two : c.calls_left ≤ b.calls_left = second.left in omega (arith, one, two);
  stops = by second.stops;
}
  where
    before : b.calls_left ≤ a.calls_left
    before = first.left

    by : (c.stops ≡ b.stops) ⊎ ((c.stops ≡ raised b.stops 1) × (0 < b.calls_left) × (c.calls_left ≡ 0)) →
        (c.stops ≡ a.stops) ⊎ ((c.stops ≡ raised a.stops 1) × (0 < a.calls_left) × (c.calls_left ≡ 0))
    by (inl same) = inl (same ∙ none)
    by (inr stopped) = inr (stopped.0 ∙ ap (λ (n : ℕ). raised n 1) none, (let some : 0 < b.calls_left = stopped.1 in omega (arith, some, before)), stopped.2)

pub failed_since : (a b c : ℕ) → a ≤ b → HasFailed b c → HasFailed a c
failed_since a b c below rose =
    let low : min (a + 1) LAST ≤ a + 1 = min-le_left (a + 1) LAST in
    let last : min (a + 1) LAST ≤ LAST = min-le_right (a + 1) LAST in
    let both : min (a + 1) LAST ≤ min (b + 1) LAST = le-min (omega (arith, low, below)) last in
    let up : min (b + 1) LAST ≤ c = rose in
    omega (arith, both, up)

-- calls after others take no less of an arm
pub takes_on : (n m : ℕ) (a b c : Meters) → Takes n a b → Takes m b c → Takes m a c
takes_on n m a b c first second = λ some.
    let x : (0 < b.calls_left) × (b.calls_left + n ≤ a.calls_left) = first some in
    let y : (0 < c.calls_left) × (c.calls_left + m ≤ b.calls_left) = second x.0 in
    (y.0, (let one : b.calls_left + n ≤ a.calls_left = x.1 in let two : c.calls_left + m ≤ b.calls_left = y.1 in omega (arith, one, two)))

pub takes_none : (a : Meters) → Takes 0 a a
takes_none a = λ some. (some, omega arith)

-- closing a region takes two calls, or none where it was closed
pub cleared_takes : {D : Type 0} (meters : D → Meters) (old new : LogState D) → (old.failed ≡ true → ⊥) →
    (old.failed ≡ false → old.spare_open ≡ false → new ≡ old) →
    (old.spare_open ≡ true → (0 < (meters old.disk).calls_left → (0 < (meters new.disk).calls_left) × ((meters new.disk).calls_left ≤ (meters old.disk).calls_left))) →
    Takes 0 (meters old.disk) (meters new.disk)
cleared_takes {D} meters old new sound still shut = by old.spare_open refl
  where
    by : (b : Bool) → old.spare_open ≡ b → Takes 0 (meters old.disk) (meters new.disk)
    by true is = λ some.
        let both = shut is some in
        let less : (meters new.disk).calls_left ≤ (meters old.disk).calls_left = both.1 in
        (both.0, omega (arith, less))
    by false is =
        subst (λ (l : LogState D). Takes 0 (meters old.disk) (meters l.disk)) (sym (still (none_kept old.failed sound) is)) (takes_none (meters old.disk))

pub calls_some : (records : List Record) → records ≢ [] → calls_for records ≡ 4
calls_some [] some = absurd (some refl)
calls_some (r ∷ rs) some = refl

-- the frame of some records
pub frame_length : (records : List Record) (body : List ℕ) → body ≡ spelling records → records ≢ [] → length (frames (body_of records)) ≡ 5 + length body
frame_length [] body is some = absurd (some refl)
frame_length (r ∷ rs) body is some =
    let one : 0 + 5 + length (spelling (r ∷ rs)) ≡ length (frames (body_of (r ∷ rs))) = new_end [] (spelling (r ∷ rs)) 0 refl in
    let same : length body ≡ length (spelling (r ∷ rs)) = ap length is in
    omega (arith, one, same)

-- where a frame ends that has no room: that of the brief, the one behind it, or that behind an empty log
full_short : (from to : ℕ) (l records : List Record) → l ≢ [] → to < from + 11 + size_of (brief l) → frame_end from to l records ≡ from + 11 + size_of (brief l)
full_short from to [] records some past = absurd (some refl)
full_short from to (r ∷ rs) records some past =
    ap (λ (b : Bool). if b then from + 11 + size_of (brief (r ∷ rs)) else from + 16 + size_of (brief (r ∷ rs)) + size_of records)
    (lt-ltb to (from + 11 + size_of (brief (r ∷ rs))) past)

full_behind : (from to : ℕ) (l records : List Record) → l ≢ [] → from + 11 + size_of (brief l) ≤ to →
    frame_end from to l records ≡ from + 16 + size_of (brief l) + size_of records
full_behind from to [] records some fits = absurd (some refl)
full_behind from to (r ∷ rs) records some fits =
    ap (λ (b : Bool). if b then from + 11 + size_of (brief (r ∷ rs)) else from + 16 + size_of (brief (r ∷ rs)) + size_of records)
    (le-ltb to (from + 11 + size_of (brief (r ∷ rs))) fits)

-- frames that hold an empty log are none
no_bodies : (lists : List (List Record)) → joined lists ≡ [] → bodies_in lists ≡ []
no_bodies [] is = refl
no_bodies ([] ∷ lists) is = no_bodies lists is
no_bodies ((r ∷ rs) ∷ lists) is = absurd cc

none_raw : (raw : List (List ℕ)) → handed_out raw ≡ [] → raw ≡ []
none_raw [] is = refl
none_raw (first ∷ more) is = absurd cc

module _ {D : Type 0} (meaning : Meaning D) (site most : ℕ) where
  -- so its region begins with the closed gate
  pub empty_end : (l : List Record) (n : ℕ) (log : LogState D) → IsLogged meaning site most l n log → l ≡ [] → log.end ≡ start (meaning.meters log.disk).capacity log.region
  empty_end l n log was none =
      let no_records : joined was.lists ≡ [] = are_some site (joined was.lists) was.hold.orderly (was.hold.same ∙ ap brief none) in
      let no_raw : was.stands.raw ≡ [] = none_raw was.stands.raw (sym was.stands.bodies_are ∙ no_bodies was.lists no_records) in
      let place : log.end ≡ start (meaning.meters log.disk).capacity log.region + length (frames was.stands.raw) = was.stands.end_is in
      let size : length (frames was.stands.raw) ≡ 0 = ap (λ (bs : List (List ℕ)). length (frames bs)) no_raw in
      omega (arith, place, size)

module _ {D : Type 0} (meters : D → Meters) (l records : List Record) where
  -- a frame was not added, with a log that was not turned
  pub reason_add : (old new : LogState D) (body : List ℕ) (r : Result (Unit {0}) Why) → body ≡ spelling records →
      (HasRoom meters old (size_of records) ⊎ ((l ≡ []) × (old.end ≡ start (meters old.disk).capacity old.region))) →
      (r ≡ Err Fault → HasFailed (meters old.disk).faults (meters new.disk).faults) →
      ((need room : ℕ) → r ≡ Err (Full need room) → (limit (meters old.disk).capacity old.region < old.end + 6 + length body)
      × (need ≡ old.end + 6 + length body) × (room ≡ limit (meters old.disk).capacity old.region)) →
      IfErr r (λ why. IsReason why l records (meters old.disk) (meters new.disk))
  reason_add old new body (Ok done) is due fault full = tt
  reason_add old new body (Err Fault) is due fault full = fault refl
  reason_add old new body (Err (Full need room)) is (inl has_room) fault full =
      let it = full need room refl in
      let past : limit (meters old.disk).capacity old.region < old.end + 6 + length body = it.0 in
      let fits : old.end + 6 + size_of records ≤ limit (meters old.disk).capacity old.region = has_room in
      let same : length body ≡ size_of records = ap length is in
      absurd (omega (arith, past, fits, same))
  reason_add old new body (Err (Full need room)) is (inr empty) fault full =
      let it = full need room refl in
      let cap : ℕ = (meters old.disk).capacity in
      let past : limit cap old.region < old.end + 6 + length body = it.0 in
      let need_so : need ≡ old.end + 6 + length body = it.1 in
      let room_so : room ≡ limit cap old.region = it.2 in
      let place : old.end ≡ start cap old.region = empty.1 in
      let same : length body ≡ size_of records = ap length is in
      let plain : need ≡ start cap old.region + 6 + size_of records = omega (arith, need_so, place, same) in
      record {
        region = old.region;
        room_is = room_so;
        past = omega (arith, past, need_so, room_so);
        need_is = plain ∙ sym (ap (λ (x : List Record). frame_end (start cap old.region) room x records) empty.0);
      }

  module _ (some : l ≢ []) (old mid new : LogState D) (short : Short) (short_is : short.body ≡ spelling (brief l)) where
    -- a log was not turned, whose other region was closed before
    pub reason_turn : (r : Result (Unit {0}) Why) → mid.region ≡ old.region → Keeps (meters old.disk) (meters mid.disk) →
        (r ≡ Err Fault → HasFailed (meters mid.disk).faults (meters new.disk).faults) →
        ((need room : ℕ) → r ≡ Err (Full need room) →
        (limit (meters mid.disk).capacity (other mid.region) < start (meters mid.disk).capacity (other mid.region) + 11 + length short.body)
        × (need ≡ start (meters mid.disk).capacity (other mid.region) + 11 + length short.body) × (room ≡ limit (meters mid.disk).capacity (other mid.region))) →
        IfErr r (λ why. IsReason why l records (meters old.disk) (meters new.disk))
    reason_turn (Ok done) same keeps fault full = tt
    reason_turn (Err Fault) same keeps fault full = failed_since (meters old.disk).faults (meters mid.disk).faults (meters new.disk).faults keeps.faults (fault refl)
    reason_turn (Err (Full need room)) same keeps fault full =
        let it = full need room refl in
        let cap : ℕ = (meters mid.disk).capacity in
        let from : ℕ = start cap (other mid.region) in
        let to : ℕ = limit cap (other mid.region) in
        let size : length short.body ≡ size_of (brief l) = ap length short_is in
        let past : to < from + 11 + length short.body = it.0 in
        let need_so : need ≡ from + 11 + length short.body = it.1 in
        let room_so : room ≡ to = it.2 in
        let over : room < from + 11 + size_of (brief l) = omega (arith, past, room_so, size) in
        let plain : need ≡ from + 11 + size_of (brief l) = omega (arith, need_so, size) in
        subst (λ (k : ℕ). LacksRoom k l records need room) keeps.capacity
        (record {
          region = other mid.region;
          room_is = room_so;
          past = omega (arith, past, need_so, room_so);
          need_is = plain ∙ sym (full_short from room l records some over);
        })

    -- a frame was not added, behind a log that was turned
    pub reason_behind : (r : Result (Unit {0}) Why) (body : List ℕ) → body ≡ spelling records → mid.region ≡ other old.region →
        mid.end ≡ start (meters old.disk).capacity (other old.region) + 10 + length short.body →
        start (meters old.disk).capacity (other old.region) + 11 + length short.body ≤ limit (meters old.disk).capacity (other old.region) →
        Keeps (meters old.disk) (meters mid.disk) →
        (r ≡ Err Fault → HasFailed (meters mid.disk).faults (meters new.disk).faults) →
        ((need room : ℕ) → r ≡ Err (Full need room) → (limit (meters mid.disk).capacity mid.region < mid.end + 6 + length body)
        × (need ≡ mid.end + 6 + length body) × (room ≡ limit (meters mid.disk).capacity mid.region)) →
        IfErr r (λ why. IsReason why l records (meters old.disk) (meters new.disk))
    reason_behind (Ok done) body is turned place fits keeps fault full = tt
    reason_behind (Err Fault) body is turned place fits keeps fault full =
        failed_since (meters old.disk).faults (meters mid.disk).faults (meters new.disk).faults keeps.faults (fault refl)
    reason_behind (Err (Full need room)) body is turned place fits keeps fault full =
        let it = full need room refl in
        let cap : ℕ = (meters old.disk).capacity in
        let from : ℕ = start cap (other old.region) in
        let to : ℕ = limit cap (other old.region) in
        let size : length short.body ≡ size_of (brief l) = ap length short_is in
        let same : length body ≡ size_of records = ap length is in
        let limits : limit (meters mid.disk).capacity mid.region ≡ to = ap (λ (k : ℕ). limit k mid.region) keeps.capacity ∙ ap (limit cap) turned in
        let past : limit (meters mid.disk).capacity mid.region < mid.end + 6 + length body = it.0 in
        let need_so : need ≡ mid.end + 6 + length body = it.1 in
        let room_so : room ≡ limit (meters mid.disk).capacity mid.region = it.2 in
        let there : mid.end ≡ from + 10 + length short.body = place in
        let low : from + 11 + length short.body ≤ to = fits in
        let room_to : room ≡ to = room_so ∙ limits in
        let under : from + 11 + size_of (brief l) ≤ room = omega (arith, low, room_to, size) in
        let plain : need ≡ from + 16 + size_of (brief l) + size_of records = omega (arith, need_so, there, size, same) in
        record {
          region = other old.region;
          room_is = room_to;
          past = omega (arith, past, need_so, room_so);
          need_is = plain ∙ sym (full_behind from room l records some under);
        }
