use Rattle.std.proofs.Common.{◌≡◌, ◌≤◌, ℕ, List, true, refl, sym, ◌∙◌, subst, arith, rules}
use Rattle.e3_disk.specs.Meters.{HasFailed, Keeps}
use Rattle.e3_log.specs.Opening.{StaysOn, TakesCalls}
use Rattle.e3_log.specs.Reading.{ReadsAs}
use Rattle.e3_log.specs.Regions.{other, start}
use Rattle.e3_log.specs.Stands.{LogState, Stands}
use Rattle.e3_log.proofs.Pieces.{gate_room, limit_low, start_low}
use Rattle.e3_log.proofs.Standing.{clear_images, clear_stands}
use Rattle.e3_log.proofs.log.Log.clear.Goals as goal

pub returns-in-Ok-clause-stands : goal.returns-in-Ok-clause-stands
returns-in-Ok-clause-stands g c = λ bodies st.
    let disk = c.self.inside.disk in
    let capacity = (g.D.Disk.meaning.meters disk).capacity in
    let opens : c.self.inside.spare_open ≡ true = search rules in
    let place : c.start-place.result ≡ start capacity (other c.self.inside.region) = c.start-place.ensures ∙ (λ i. start (c.capacity.ensures.value i) (c.other.ensures i)) in
    let least : 2 ≤ capacity = omega (arith, c.capacity.ensures.least, c.capacity.ensures.value) in
    let room = gate_room capacity (other c.self.inside.region) least in
    let here = subst (λ (l : LogState g.row.D.Denot). Stands g.D.Disk.meaning bodies l) (sym c.self.view_is) st in
    clear_stands g.D.Disk.meaning bodies _ here opens c.start-place.result place (omega (arith, place, room)) _
    c.in-Ok.ensures.written c.in-Ok.ensures.durable c.in-Ok.ensures.meters.keeps.capacity refl refl refl refl c.if-self.false

pub returns-in-Ok-clause-images : goal.returns-in-Ok-clause-images
returns-in-Ok-clause-images g c = λ bodies st.
    let disk = c.self.inside.disk in
    let capacity = (g.D.Disk.meaning.meters disk).capacity in
    let opens : c.self.inside.spare_open ≡ true = search rules in
    let place : c.start-place.result ≡ start capacity (other c.self.inside.region) = c.start-place.ensures ∙ (λ i. start (c.capacity.ensures.value i) (c.other.ensures i)) in
    let least : 2 ≤ capacity = omega (arith, c.capacity.ensures.least, c.capacity.ensures.value) in
    let room = gate_room capacity (other c.self.inside.region) least in
    let here = subst (λ (l : LogState g.row.D.Denot). Stands g.D.Disk.meaning bodies l) (sym c.self.view_is) st in
    subst (λ (l : LogState g.row.D.Denot). (image : List ℕ) → g.D.Disk.meaning.image c.shut_gate.new.disk image → ReadsAs (g.D.Disk.meaning.meters l.disk).capacity l.generation bodies image) c.self.view_is
    (clear_images g.D.Disk.meaning bodies _ here opens c.start-place.result place (omega (arith, place, room)) (g.D.Disk.meaning.image c.shut_gate.new.disk) (c.in-Ok.ensures.images here.only))

pub returns-in-Err-clause-images : goal.returns-in-Err-clause-images
returns-in-Err-clause-images g c = λ bodies st.
    let disk = c.self.inside.disk in
    let capacity = (g.D.Disk.meaning.meters disk).capacity in
    let opens : c.self.inside.spare_open ≡ true = search rules in
    let place : c.start-place.result ≡ start capacity (other c.self.inside.region) = c.start-place.ensures ∙ (λ i. start (c.capacity.ensures.value i) (c.other.ensures i)) in
    let least : 2 ≤ capacity = omega (arith, c.capacity.ensures.least, c.capacity.ensures.value) in
    let room = gate_room capacity (other c.self.inside.region) least in
    let here = subst (λ (l : LogState g.row.D.Denot). Stands g.D.Disk.meaning bodies l) (sym c.self.view_is) st in
    subst (λ (l : LogState g.row.D.Denot). (image : List ℕ) → g.D.Disk.meaning.image c.shut_gate.new.disk image → ReadsAs (g.D.Disk.meaning.meters l.disk).capacity l.generation bodies image) c.self.view_is
    (clear_images g.D.Disk.meaning bodies _ here opens c.start-place.result place (omega (arith, place, room)) (g.D.Disk.meaning.image c.shut_gate.new.disk) (c.in-Err.ensures.images here.only))

pub returns-in-Ok-clause-keeps : goal.returns-in-Ok-clause-keeps
returns-in-Ok-clause-keeps g c = subst (λ (l : LogState g.row.D.Denot). Keeps (g.D.Disk.meaning.meters l.disk) (g.D.Disk.meaning.meters c.shut_gate.new.disk)) c.self.view_is c.in-Ok.ensures.meters.keeps

pub returns-in-Err-clause-keeps : goal.returns-in-Err-clause-keeps
returns-in-Err-clause-keeps g c = subst (λ (l : LogState g.row.D.Denot). Keeps (g.D.Disk.meaning.meters l.disk) (g.D.Disk.meaning.meters c.shut_gate.new.disk)) c.self.view_is c.in-Err.ensures.meters.keeps

pub returns-in-Err-clause-cause : goal.returns-in-Err-clause-cause
returns-in-Err-clause-cause g c = λ is fine. subst (λ (l : LogState g.row.D.Denot). HasFailed (g.D.Disk.meaning.meters l.disk).faults (g.D.Disk.meaning.meters c.shut_gate.new.disk).faults) c.self.view_is (c.in-Err.ensures.meters.failed (c.self.invariant.4 c.if-self.false))

pub returns-in-Ok-clause-calls : goal.returns-in-Ok-clause-calls
returns-in-Ok-clause-calls g c = λ opens. subst (λ (l : LogState g.row.D.Denot). TakesCalls 2 (g.D.Disk.meaning.meters l.disk) (g.D.Disk.meaning.meters c.shut_gate.new.disk)) c.self.view_is c.in-Ok.ensures.meters.ok.1

pub returns-in-Ok-clause-power : goal.returns-in-Ok-clause-power
returns-in-Ok-clause-power g c = subst (λ (l : LogState g.row.D.Denot). StaysOn (g.D.Disk.meaning.meters l.disk) (g.D.Disk.meaning.meters c.shut_gate.new.disk)) c.self.view_is c.in-Ok.ensures.meters.ok.0

pub shut_gate-requires : goal.shut_gate-requires
shut_gate-requires g c =
    let capacity = (g.D.Disk.meaning.meters c.self.inside.disk).capacity in
    let spare = other c.self.inside.region in
    let place : c.start-place.result ≡ start capacity spare = c.start-place.ensures ∙ (λ i. start (c.capacity.ensures.value i) (c.other.ensures i)) in
    let least : 2 ≤ capacity = omega (arith, c.capacity.ensures.least, c.capacity.ensures.value) in
    record {
      gate = omega (arith, place, start_low capacity spare, c.self.invariant.1 c.if-self.false);
      room = omega (arith, place, gate_room capacity spare least, limit_low capacity spare);
    }
