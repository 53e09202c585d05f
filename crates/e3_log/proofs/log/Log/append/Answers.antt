use Rattle.std.proofs.Common.{◌≡◌, ◌+◌, ◌∷◌, [], ◌++◌, ℕ, List, refl, sym, ap, ◌∙◌, subst, arith, ◌-◌, ◌≤◌, ◌<◌, Result, Err, length}
use Rattle.std.specs.Prelude.{vec_capacity}
use Rattle.e3_disk.specs.Images.{overwritten}
use Rattle.e3_disk.specs.Meters.{HasFailed, Keeps}
use Rattle.e3_log.specs.Opening.{StaysOn, TakesCalls}
use Rattle.e3_log.specs.declared.fault.AppendFault.{AppendFault}
use Rattle.e3_log.specs.declared.fault.AppendFault.TheVariants.{Full}
use Rattle.e3_log.specs.Frames.{OPEN}
use Rattle.e3_log.specs.Regions.{half, limit}
use Rattle.e3_log.specs.Stands.{LogState, Stands, EachReadsAs, Leaves, staged}
use Rattle.e3_log.proofs.Answered.{not_err, not_full, full_is}
use Rattle.e3_log.proofs.Kept.{keeps_same}
use Rattle.e3_log.proofs.Pieces.{limit_low}
use Rattle.e3_log.proofs.Standing.{append_images, append_stands}
use Rattle.e3_log.proofs.log.Log.append.Goals as goal

pub returns-in-Ok-clause-stands : goal.returns-in-Ok-clause-stands
returns-in-Ok-clause-stands g c = λ bodies st.
    let disk = c.self.inside.disk in
    let capacity = (g.D.Disk.meaning.meters disk).capacity in
    let room : c.limit-room.result ≡ limit capacity c.self.inside.region = c.limit-room.ensures ∙ ap (λ k. limit k c.self.inside.region) c.capacity.ensures.value in
    let low = limit_low capacity c.self.inside.region in
    let bytes : c.deref.result.now ≡ staged c.args.body.now = c.deref.ensures.value ∙ c.put_staged.ensures.bytes in
    let here = subst (λ (l : LogState g.row.D.Denot). Stands g.D.Disk.meaning bodies l) (sym c.self.view_is) st in
    append_stands g.D.Disk.meaning bodies _ here c.args.body.now (omega (arith, room, low, c.capacity.ensures.most, c.capacity.ensures.value)) c.requires.untagged (omega (arith, room)) _
    (c.in-Ok.ensures.written ∙ ap (λ (b : List ℕ). overwritten (overwritten (g.D.Disk.meaning.content disk) (c.self.inside.end + 1) b) c.self.inside.end (OPEN ∷ [])) bytes)
    c.in-Ok.ensures.durable c.in-Ok.ensures.meters.keeps.capacity refl refl refl refl c.if-self.false

pub returns-in-Ok-clause-images : goal.returns-in-Ok-clause-images
returns-in-Ok-clause-images g c = λ bodies st.
    let disk = c.self.inside.disk in
    let capacity = (g.D.Disk.meaning.meters disk).capacity in
    let room : c.limit-room.result ≡ limit capacity c.self.inside.region = c.limit-room.ensures ∙ ap (λ k. limit k c.self.inside.region) c.capacity.ensures.value in
    let low = limit_low capacity c.self.inside.region in
    let bytes : c.deref.result.now ≡ staged c.args.body.now = c.deref.ensures.value ∙ c.put_staged.ensures.bytes in
    let here = subst (λ (l : LogState g.row.D.Denot). Stands g.D.Disk.meaning bodies l) (sym c.self.view_is) st in
    subst (λ (l : LogState g.row.D.Denot). EachReadsAs (g.D.Disk.meaning.meters l.disk).capacity l.generation bodies l.generation (bodies ++ c.args.body.now ∷ []) (g.D.Disk.meaning.image c.commit.new.disk)) c.self.view_is
    (append_images g.D.Disk.meaning bodies _ here c.args.body.now (omega (arith, room, low, c.capacity.ensures.most, c.capacity.ensures.value)) c.requires.untagged (omega (arith, room)) (g.D.Disk.meaning.image c.commit.new.disk)
    (λ image at. subst (λ (b : List ℕ). Leaves (g.D.Disk.meaning.content disk) c.self.inside.end b image) bytes (c.in-Ok.ensures.images here.only image at)))

pub returns-in-Err-clause-images : goal.returns-in-Err-clause-images
returns-in-Err-clause-images g c = λ bodies st.
    let disk = c.self.inside.disk in
    let capacity = (g.D.Disk.meaning.meters disk).capacity in
    let room : c.limit-room.result ≡ limit capacity c.self.inside.region = c.limit-room.ensures ∙ ap (λ k. limit k c.self.inside.region) c.capacity.ensures.value in
    let low = limit_low capacity c.self.inside.region in
    let bytes : c.deref.result.now ≡ staged c.args.body.now = c.deref.ensures.value ∙ c.put_staged.ensures.bytes in
    let here = subst (λ (l : LogState g.row.D.Denot). Stands g.D.Disk.meaning bodies l) (sym c.self.view_is) st in
    subst (λ (l : LogState g.row.D.Denot). EachReadsAs (g.D.Disk.meaning.meters l.disk).capacity l.generation bodies l.generation (bodies ++ c.args.body.now ∷ []) (g.D.Disk.meaning.image c.commit.new.disk)) c.self.view_is
    (append_images g.D.Disk.meaning bodies _ here c.args.body.now (omega (arith, room, low, c.capacity.ensures.most, c.capacity.ensures.value)) c.requires.untagged (omega (arith, room)) (g.D.Disk.meaning.image c.commit.new.disk)
    (λ image at. subst (λ (b : List ℕ). Leaves (g.D.Disk.meaning.content disk) c.self.inside.end b image) bytes (c.in-Err.ensures.images here.only image at)))

pub returns-then-self-clause-keeps : goal.returns-then-self-clause-keeps
returns-then-self-clause-keeps g c = keeps_same (g.D.Disk.meaning.meters c.args.self.now.disk)

pub returns-then-need-room-clause-keeps : goal.returns-then-need-room-clause-keeps
returns-then-need-room-clause-keeps g c = keeps_same (g.D.Disk.meaning.meters c.args.self.now.disk)

pub returns-in-Ok-clause-keeps : goal.returns-in-Ok-clause-keeps
returns-in-Ok-clause-keeps g c = subst (λ (l : LogState g.row.D.Denot). Keeps (g.D.Disk.meaning.meters l.disk) (g.D.Disk.meaning.meters c.commit.new.disk)) c.self.view_is c.in-Ok.ensures.meters.keeps

pub returns-in-Err-clause-keeps : goal.returns-in-Err-clause-keeps
returns-in-Err-clause-keeps g c = subst (λ (l : LogState g.row.D.Denot). Keeps (g.D.Disk.meaning.meters l.disk) (g.D.Disk.meaning.meters c.commit.new.disk)) c.self.view_is c.in-Err.ensures.meters.keeps

pub returns-in-Ok-clause-written : goal.returns-in-Ok-clause-written
returns-in-Ok-clause-written g c =
    let content = g.D.Disk.meaning.content in
    let bytes : c.deref.result.now ≡ staged c.args.body.now = c.deref.ensures.value ∙ c.put_staged.ensures.bytes in
    subst (λ (l : LogState g.row.D.Denot). content c.commit.new.disk ≡ overwritten (overwritten (content l.disk) (l.end + 1) (staged c.args.body.now)) l.end (OPEN ∷ [])) c.self.view_is
    (c.in-Ok.ensures.written ∙ ap (λ (b : List ℕ). overwritten (overwritten (content c.self.inside.disk) (c.self.inside.end + 1) b) c.self.inside.end (OPEN ∷ [])) bytes)

pub returns-in-Ok-clause-calls : goal.returns-in-Ok-clause-calls
returns-in-Ok-clause-calls g c = subst (λ (l : LogState g.row.D.Denot). TakesCalls 4 (g.D.Disk.meaning.meters l.disk) (g.D.Disk.meaning.meters c.commit.new.disk)) c.self.view_is c.in-Ok.ensures.meters.ok.1

pub returns-in-Ok-clause-power : goal.returns-in-Ok-clause-power
returns-in-Ok-clause-power g c = subst (λ (l : LogState g.row.D.Denot). StaysOn (g.D.Disk.meaning.meters l.disk) (g.D.Disk.meaning.meters c.commit.new.disk)) c.self.view_is c.in-Ok.ensures.meters.ok.0

pub returns-in-Err-clause-cause : goal.returns-in-Err-clause-cause
returns-in-Err-clause-cause g c = λ is fine. subst (λ (l : LogState g.row.D.Denot). HasFailed (g.D.Disk.meaning.meters l.disk).faults (g.D.Disk.meaning.meters c.commit.new.disk).faults) c.self.view_is (c.in-Err.ensures.meters.failed (c.self.invariant.4 c.if-self.false))

pub invariant_of-self-in-Err : goal.invariant_of-self-in-Err
invariant_of-self-in-Err g c =
    let kept = c.self.invariant in
    let room = c.put_staged.ensures.capacity in (
      λ e. absurd cc,
      λ e. absurd cc,
      λ e. absurd cc,
      λ e. absurd cc,
      λ e. absurd cc,
      kept.5,
      subst (λ (k : ℕ). k - half k ≤ vec_capacity c.put_staged.new.buffer) (sym c.in-Err.ensures.meters.keeps.capacity) (omega (arith, kept.6, room)),
    )

pub returns-then-need-room-clause-full : goal.returns-then-need-room-clause-full
returns-then-need-room-clause-full g c = λ fine more.
    let meters = g.D.Disk.meaning.meters in
    let size = length c.args.body.now in
    let room : c.limit-room.result ≡ limit (meters c.self.inside.disk).capacity c.self.inside.region = c.limit-room.ensures ∙ ap (λ k. limit k c.self.inside.region) c.capacity.ensures.value in
    subst (λ (l : LogState g.row.D.Denot). ◌≡◌ {A = Result (Unit {0}) AppendFault} (Err (Full (c.self.inside.end + 6 + size) c.limit-room.result)) (Err (Full (l.end + 6 + size) (limit (meters l.disk).capacity l.region)))) c.self.view_is
    (λ i. Err (Full (c.self.inside.end + 6 + size) (room i)))

pub returns-then-need-room-clause-only_full : goal.returns-then-need-room-clause-only_full
returns-then-need-room-clause-only_full g c = λ need last is.
    let meters = g.D.Disk.meaning.meters in
    let size = length c.args.body.now in
    let room : c.limit-room.result ≡ limit (meters c.self.inside.disk).capacity c.self.inside.region = c.limit-room.ensures ∙ ap (λ k. limit k c.self.inside.region) c.capacity.ensures.value in
    let parts = full_is is in
    subst (λ (l : LogState g.row.D.Denot). (limit (meters l.disk).capacity l.region < l.end + 6 + size) × (need ≡ l.end + 6 + size) × (last ≡ limit (meters l.disk).capacity l.region) × (c.args.self.now ≡ c.args.self.now)) c.self.view_is
    (omega (arith, room), parts.0, parts.1 ∙ room, refl)

pub returns-in-Ok-clause-full : goal.returns-in-Ok-clause-full
returns-in-Ok-clause-full g c = λ fine more.
    let meters = g.D.Disk.meaning.meters in
    let size = length c.args.body.now in
    let room : c.limit-room.result ≡ limit (meters c.self.inside.disk).capacity c.self.inside.region = c.limit-room.ensures ∙ ap (λ k. limit k c.self.inside.region) c.capacity.ensures.value in
    let fits : limit (meters c.self.inside.disk).capacity c.self.inside.region < c.self.inside.end + 6 + size → ⊥ = λ long. omega (arith, room, long) in
    absurd (subst (λ (l : LogState g.row.D.Denot). limit (meters l.disk).capacity l.region < l.end + 6 + size → ⊥) c.self.view_is fits more)

pub returns-in-Ok-clause-only_full : goal.returns-in-Ok-clause-only_full
returns-in-Ok-clause-only_full g c = λ need last is. absurd (not_err is)

pub returns-in-Err-clause-full : goal.returns-in-Err-clause-full
returns-in-Err-clause-full g c = λ fine more.
    let meters = g.D.Disk.meaning.meters in
    let size = length c.args.body.now in
    let room : c.limit-room.result ≡ limit (meters c.self.inside.disk).capacity c.self.inside.region = c.limit-room.ensures ∙ ap (λ k. limit k c.self.inside.region) c.capacity.ensures.value in
    let fits : limit (meters c.self.inside.disk).capacity c.self.inside.region < c.self.inside.end + 6 + size → ⊥ = λ long. omega (arith, room, long) in
    absurd (subst (λ (l : LogState g.row.D.Denot). limit (meters l.disk).capacity l.region < l.end + 6 + size → ⊥) c.self.view_is fits more)

pub returns-in-Err-clause-only_full : goal.returns-in-Err-clause-only_full
returns-in-Err-clause-only_full g c = λ need last is. absurd (not_full is)
