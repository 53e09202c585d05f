use Rattle.std.proofs.Common.{◌≡◌, ◌+◌, ◌∷◌, [], ℕ, List, false, refl, sym, ap, ◌∙◌, subst, arith, ◌-◌, ◌≤◌, ◌<◌, Result, Err, length}
use Rattle.std.specs.Prelude.{vec_capacity}
use Rattle.std.specs.Prelude.{nat_lt}
use Rattle.e3_disk.specs.Images.{overwritten}
use Rattle.e3_disk.specs.Meters.{HasFailed, Keeps}
use Rattle.e3_log.specs.Opening.{StaysOn, TakesCalls}
use Rattle.e3_log.specs.declared.fault.TurnFault.{TurnFault}
use Rattle.e3_log.specs.declared.fault.TurnFault.TheVariants.{Full}
use Rattle.e3_log.specs.Frames.{OPEN}
use Rattle.e3_log.specs.Fronts.{turned}
use Rattle.e3_log.specs.Regions.{half, limit, other, start}
use Rattle.e3_log.specs.Stands.{LogState, Stands, EachReadsAs, Leaves, staged}
use Rattle.e3_log.proofs.Answered.{not_err, turn_not_full, turn_full_is}
use Rattle.e3_log.proofs.Kept.{keeps_same}
use Rattle.e3_log.proofs.Pieces.{limit_low}
use Rattle.e3_log.proofs.Standing.{turn_images, turn_stands}
use Rattle.e3_log.proofs.log.Log.turn.Goals as goal

pub returns-in-Ok-clause-stands : goal.returns-in-Ok-clause-stands
returns-in-Ok-clause-stands g c = λ bodies st.
    let disk = c.self.inside.disk in
    let capacity = (g.D.Disk.meaning.meters disk).capacity in
    let region : c.other-region.result ≡ other c.self.inside.region = c.other-region.ensures in
    let place : c.start-place.result ≡ start capacity (other c.self.inside.region) = c.start-place.ensures ∙ (λ i. start (c.capacity-capacity.ensures.value i) (region i)) in
    let room : c.limit-room.result ≡ limit capacity (other c.self.inside.region) = c.limit-room.ensures ∙ (λ i. limit (c.capacity-capacity.ensures.value i) (region i)) in
    let low = limit_low capacity (other c.self.inside.region) in
    let shut : c.self.inside.spare_open ≡ false = ap (λ (l : LogState g.row.D.Denot). l.spare_open) c.self.view_is ∙ c.requires.shut in
    let number : c.self.inside.generation ≡ c.args.self.now.generation = ap (λ (l : LogState g.row.D.Denot). l.generation) c.self.view_is in
    let bytes : c.deref.result.now ≡ staged (turned (c.self.inside.generation + 1) c.args.body.now) = c.deref.ensures.value ∙ c.put_turned.ensures.bytes in
    let spare : nat_lt c.start.result c.self.inside.end ≡ nat_lt (start capacity c.self.inside.region) c.self.inside.end =
    ap (λ k. nat_lt k c.self.inside.end) (c.start.ensures ∙ ap (λ k. start k c.self.inside.region) c.capacity-capacity.ensures.value) in
    let here = subst (λ (l : LogState g.row.D.Denot). Stands g.D.Disk.meaning bodies l) (sym c.self.view_is) st in
    turn_stands g.D.Disk.meaning bodies _ here shut c.args.body.now (omega (arith, number, c.requires.next)) (omega (arith, room, low, c.capacity-capacity.ensures.most, c.capacity-capacity.ensures.value))
    c.start-place.result place (omega (arith, room)) _
    (c.in-Ok.ensures.written ∙ ap (λ (b : List ℕ). overwritten (overwritten (g.D.Disk.meaning.content disk) (c.start-place.result + 1) b) c.start-place.result (OPEN ∷ [])) bytes)
    c.in-Ok.ensures.durable c.in-Ok.ensures.meters.keeps.capacity region refl refl spare c.if-self.false

pub returns-in-Ok-clause-images : goal.returns-in-Ok-clause-images
returns-in-Ok-clause-images g c = λ bodies st.
    let disk = c.self.inside.disk in
    let capacity = (g.D.Disk.meaning.meters disk).capacity in
    let region : c.other-region.result ≡ other c.self.inside.region = c.other-region.ensures in
    let place : c.start-place.result ≡ start capacity (other c.self.inside.region) = c.start-place.ensures ∙ (λ i. start (c.capacity-capacity.ensures.value i) (region i)) in
    let room : c.limit-room.result ≡ limit capacity (other c.self.inside.region) = c.limit-room.ensures ∙ (λ i. limit (c.capacity-capacity.ensures.value i) (region i)) in
    let low = limit_low capacity (other c.self.inside.region) in
    let shut : c.self.inside.spare_open ≡ false = ap (λ (l : LogState g.row.D.Denot). l.spare_open) c.self.view_is ∙ c.requires.shut in
    let number : c.self.inside.generation ≡ c.args.self.now.generation = ap (λ (l : LogState g.row.D.Denot). l.generation) c.self.view_is in
    let bytes : c.deref.result.now ≡ staged (turned (c.self.inside.generation + 1) c.args.body.now) = c.deref.ensures.value ∙ c.put_turned.ensures.bytes in
    let here = subst (λ (l : LogState g.row.D.Denot). Stands g.D.Disk.meaning bodies l) (sym c.self.view_is) st in
    subst (λ (l : LogState g.row.D.Denot). EachReadsAs (g.D.Disk.meaning.meters l.disk).capacity l.generation bodies (l.generation + 1) (c.args.body.now ∷ []) (g.D.Disk.meaning.image c.commit.new.disk)) c.self.view_is
    (turn_images g.D.Disk.meaning bodies _ here shut c.args.body.now (omega (arith, number, c.requires.next)) (omega (arith, room, low, c.capacity-capacity.ensures.most, c.capacity-capacity.ensures.value))
    c.start-place.result place (omega (arith, room)) (g.D.Disk.meaning.image c.commit.new.disk)
    (λ image at. subst (λ (b : List ℕ). Leaves (g.D.Disk.meaning.content disk) c.start-place.result b image) bytes (c.in-Ok.ensures.images here.only image at)))

pub returns-in-Err-clause-images : goal.returns-in-Err-clause-images
returns-in-Err-clause-images g c = λ bodies st.
    let disk = c.self.inside.disk in
    let capacity = (g.D.Disk.meaning.meters disk).capacity in
    let region : c.other-region.result ≡ other c.self.inside.region = c.other-region.ensures in
    let place : c.start-place.result ≡ start capacity (other c.self.inside.region) = c.start-place.ensures ∙ (λ i. start (c.capacity-capacity.ensures.value i) (region i)) in
    let room : c.limit-room.result ≡ limit capacity (other c.self.inside.region) = c.limit-room.ensures ∙ (λ i. limit (c.capacity-capacity.ensures.value i) (region i)) in
    let low = limit_low capacity (other c.self.inside.region) in
    let shut : c.self.inside.spare_open ≡ false = ap (λ (l : LogState g.row.D.Denot). l.spare_open) c.self.view_is ∙ c.requires.shut in
    let number : c.self.inside.generation ≡ c.args.self.now.generation = ap (λ (l : LogState g.row.D.Denot). l.generation) c.self.view_is in
    let bytes : c.deref.result.now ≡ staged (turned (c.self.inside.generation + 1) c.args.body.now) = c.deref.ensures.value ∙ c.put_turned.ensures.bytes in
    let here = subst (λ (l : LogState g.row.D.Denot). Stands g.D.Disk.meaning bodies l) (sym c.self.view_is) st in
    subst (λ (l : LogState g.row.D.Denot). EachReadsAs (g.D.Disk.meaning.meters l.disk).capacity l.generation bodies (l.generation + 1) (c.args.body.now ∷ []) (g.D.Disk.meaning.image c.commit.new.disk)) c.self.view_is
    (turn_images g.D.Disk.meaning bodies _ here shut c.args.body.now (omega (arith, number, c.requires.next)) (omega (arith, room, low, c.capacity-capacity.ensures.most, c.capacity-capacity.ensures.value))
    c.start-place.result place (omega (arith, room)) (g.D.Disk.meaning.image c.commit.new.disk)
    (λ image at. subst (λ (b : List ℕ). Leaves (g.D.Disk.meaning.content disk) c.start-place.result b image) bytes (c.in-Err.ensures.images here.only image at)))

pub returns-then-self-clause-keeps : goal.returns-then-self-clause-keeps
returns-then-self-clause-keeps g c = keeps_same (g.D.Disk.meaning.meters c.args.self.now.disk)

pub returns-then-need-room-clause-keeps : goal.returns-then-need-room-clause-keeps
returns-then-need-room-clause-keeps g c = keeps_same (g.D.Disk.meaning.meters c.args.self.now.disk)

pub returns-in-Ok-clause-keeps : goal.returns-in-Ok-clause-keeps
returns-in-Ok-clause-keeps g c = subst (λ (l : LogState g.row.D.Denot). Keeps (g.D.Disk.meaning.meters l.disk) (g.D.Disk.meaning.meters c.commit.new.disk)) c.self.view_is c.in-Ok.ensures.meters.keeps

pub returns-in-Err-clause-keeps : goal.returns-in-Err-clause-keeps
returns-in-Err-clause-keeps g c = subst (λ (l : LogState g.row.D.Denot). Keeps (g.D.Disk.meaning.meters l.disk) (g.D.Disk.meaning.meters c.commit.new.disk)) c.self.view_is c.in-Err.ensures.meters.keeps

pub invariant_of-self-in-Err : goal.invariant_of-self-in-Err
invariant_of-self-in-Err g c =
    let kept = c.self.invariant in
    let room = c.put_turned.ensures.capacity in (
      λ e. absurd cc,
      λ e. absurd cc,
      λ e. absurd cc,
      λ e. absurd cc,
      λ e. absurd cc,
      kept.5,
      subst (λ (k : ℕ). k - half k ≤ vec_capacity c.put_turned.new.buffer) (sym c.in-Err.ensures.meters.keeps.capacity) (omega (arith, kept.6, room)),
    )

pub returns-then-need-room-clause-full : goal.returns-then-need-room-clause-full
returns-then-need-room-clause-full g c = λ fine more.
    let meters = g.D.Disk.meaning.meters in
    let size = length c.args.body.now in
    let capacity = (meters c.self.inside.disk).capacity in
    let region : c.other-region.result ≡ other c.self.inside.region = c.other-region.ensures in
    let place : c.start-place.result ≡ start capacity (other c.self.inside.region) = c.start-place.ensures ∙ (λ i. start (c.capacity-capacity.ensures.value i) (region i)) in
    let room : c.limit-room.result ≡ limit capacity (other c.self.inside.region) = c.limit-room.ensures ∙ (λ i. limit (c.capacity-capacity.ensures.value i) (region i)) in
    subst (λ (l : LogState g.row.D.Denot). ◌≡◌ {A = Result (Unit {0}) TurnFault} (Err (Full (c.start-place.result + 11 + size) c.limit-room.result)) (Err (Full (start (meters l.disk).capacity (other l.region) + 11 + size) (limit (meters l.disk).capacity (other l.region))))) c.self.view_is
    (λ i. Err (Full (place i + 11 + size) (room i)))

pub returns-then-need-room-clause-only_full : goal.returns-then-need-room-clause-only_full
returns-then-need-room-clause-only_full g c = λ need last is.
    let meters = g.D.Disk.meaning.meters in
    let size = length c.args.body.now in
    let capacity = (meters c.self.inside.disk).capacity in
    let region : c.other-region.result ≡ other c.self.inside.region = c.other-region.ensures in
    let place : c.start-place.result ≡ start capacity (other c.self.inside.region) = c.start-place.ensures ∙ (λ i. start (c.capacity-capacity.ensures.value i) (region i)) in
    let room : c.limit-room.result ≡ limit capacity (other c.self.inside.region) = c.limit-room.ensures ∙ (λ i. limit (c.capacity-capacity.ensures.value i) (region i)) in
    let parts = turn_full_is is in
    subst (λ (l : LogState g.row.D.Denot). (limit (meters l.disk).capacity (other l.region) < start (meters l.disk).capacity (other l.region) + 11 + size) × (need ≡ start (meters l.disk).capacity (other l.region) + 11 + size) × (last ≡ limit (meters l.disk).capacity (other l.region)) × (c.args.self.now ≡ c.args.self.now)) c.self.view_is
    (omega (arith, room, place), parts.0 ∙ ap (λ k. k + 11 + size) place, parts.1 ∙ room, refl)

pub returns-in-Ok-clause-full : goal.returns-in-Ok-clause-full
returns-in-Ok-clause-full g c = λ fine more.
    let meters = g.D.Disk.meaning.meters in
    let size = length c.args.body.now in
    let capacity = (meters c.self.inside.disk).capacity in
    let region : c.other-region.result ≡ other c.self.inside.region = c.other-region.ensures in
    let place : c.start-place.result ≡ start capacity (other c.self.inside.region) = c.start-place.ensures ∙ (λ i. start (c.capacity-capacity.ensures.value i) (region i)) in
    let room : c.limit-room.result ≡ limit capacity (other c.self.inside.region) = c.limit-room.ensures ∙ (λ i. limit (c.capacity-capacity.ensures.value i) (region i)) in
    let fits : limit (meters c.self.inside.disk).capacity (other c.self.inside.region) < start (meters c.self.inside.disk).capacity (other c.self.inside.region) + 11 + size → ⊥ = λ long. omega (arith, room, place, long) in
    absurd (subst (λ (l : LogState g.row.D.Denot). limit (meters l.disk).capacity (other l.region) < start (meters l.disk).capacity (other l.region) + 11 + size → ⊥) c.self.view_is fits more)

pub returns-in-Ok-clause-only_full : goal.returns-in-Ok-clause-only_full
returns-in-Ok-clause-only_full g c = λ need last is. absurd (not_err is)

pub returns-in-Err-clause-full : goal.returns-in-Err-clause-full
returns-in-Err-clause-full g c = λ fine more.
    let meters = g.D.Disk.meaning.meters in
    let size = length c.args.body.now in
    let capacity = (meters c.self.inside.disk).capacity in
    let region : c.other-region.result ≡ other c.self.inside.region = c.other-region.ensures in
    let place : c.start-place.result ≡ start capacity (other c.self.inside.region) = c.start-place.ensures ∙ (λ i. start (c.capacity-capacity.ensures.value i) (region i)) in
    let room : c.limit-room.result ≡ limit capacity (other c.self.inside.region) = c.limit-room.ensures ∙ (λ i. limit (c.capacity-capacity.ensures.value i) (region i)) in
    let fits : limit (meters c.self.inside.disk).capacity (other c.self.inside.region) < start (meters c.self.inside.disk).capacity (other c.self.inside.region) + 11 + size → ⊥ = λ long. omega (arith, room, place, long) in
    absurd (subst (λ (l : LogState g.row.D.Denot). limit (meters l.disk).capacity (other l.region) < start (meters l.disk).capacity (other l.region) + 11 + size → ⊥) c.self.view_is fits more)

pub returns-in-Err-clause-only_full : goal.returns-in-Err-clause-only_full
returns-in-Err-clause-only_full g c = λ need last is. absurd (turn_not_full is)

pub returns-in-Err-clause-cause : goal.returns-in-Err-clause-cause
returns-in-Err-clause-cause g c = λ is fine. subst (λ (l : LogState g.row.D.Denot). HasFailed (g.D.Disk.meaning.meters l.disk).faults (g.D.Disk.meaning.meters c.commit.new.disk).faults) c.self.view_is (c.in-Err.ensures.meters.failed (c.self.invariant.4 c.if-self.false))

pub returns-in-Ok-clause-calls : goal.returns-in-Ok-clause-calls
returns-in-Ok-clause-calls g c = subst (λ (l : LogState g.row.D.Denot). TakesCalls 4 (g.D.Disk.meaning.meters l.disk) (g.D.Disk.meaning.meters c.commit.new.disk)) c.self.view_is c.in-Ok.ensures.meters.ok.1

pub returns-in-Ok-clause-power : goal.returns-in-Ok-clause-power
returns-in-Ok-clause-power g c = subst (λ (l : LogState g.row.D.Denot). StaysOn (g.D.Disk.meaning.meters l.disk) (g.D.Disk.meaning.meters c.commit.new.disk)) c.self.view_is c.in-Ok.ensures.meters.ok.0

pub returns-in-Ok-clause-log : goal.returns-in-Ok-clause-log
returns-in-Ok-clause-log g c =
    subst (λ (l : LogState g.row.D.Denot). (c.other-region.result ≡ other l.region) × (c.self.inside.generation + 1 ≡ l.generation + 1)) c.self.view_is (c.other-region.ensures, refl)

pub returns-in-Ok-clause-end : goal.returns-in-Ok-clause-end
returns-in-Ok-clause-end g c =
    let meters = g.D.Disk.meaning.meters in
    let size = length c.args.body.now in
    let capacity = (meters c.self.inside.disk).capacity in
    let region : c.other-region.result ≡ other c.self.inside.region = c.other-region.ensures in
    let place : c.start-place.result ≡ start capacity (other c.self.inside.region) = c.start-place.ensures ∙ (λ i. start (c.capacity-capacity.ensures.value i) (region i)) in
    subst (λ (l : LogState g.row.D.Denot). c.start-place.result + 10 + size ≡ start (meters l.disk).capacity (other l.region) + 10 + size) c.self.view_is (ap (λ k. k + 10 + size) place)

pub returns-in-Ok-clause-written : goal.returns-in-Ok-clause-written
returns-in-Ok-clause-written g c =
    let meters = g.D.Disk.meaning.meters in
    let content = g.D.Disk.meaning.content in
    let capacity = (meters c.self.inside.disk).capacity in
    let region : c.other-region.result ≡ other c.self.inside.region = c.other-region.ensures in
    let place : c.start-place.result ≡ start capacity (other c.self.inside.region) = c.start-place.ensures ∙ (λ i. start (c.capacity-capacity.ensures.value i) (region i)) in
    let bytes : c.deref.result.now ≡ staged (turned (c.self.inside.generation + 1) c.args.body.now) = c.deref.ensures.value ∙ c.put_turned.ensures.bytes in
    subst (λ (l : LogState g.row.D.Denot). content c.commit.new.disk ≡ overwritten (overwritten (content l.disk) (start (meters l.disk).capacity (other l.region) + 1) (staged (turned (l.generation + 1) c.args.body.now))) (start (meters l.disk).capacity (other l.region)) (OPEN ∷ [])) c.self.view_is
    (c.in-Ok.ensures.written ∙ (λ i. overwritten (overwritten (content c.self.inside.disk) (place i + 1) (bytes i)) (place i) (OPEN ∷ [])))
