use Rattle.std.proofs.Common.{◌≡◌, ◌<◌, ℕ, List, length, refl, ◌∙◌, subst, arith}
use Rattle.e3_log.specs.Found.{EndsInside, IsHeld}
use Rattle.e3_log.specs.Reading.{DamagedAt}
use Rattle.e3_log.specs.Regions.{half}
use Rattle.e3_log.proofs.Kept.{keeps_then}
use Rattle.e3_log.proofs.Looking.{not_err}
use Rattle.e3_log.proofs.Pieces.{limit_low}
use Rattle.e3_log.proofs.Prepared.{fails_behind, passes, same_error, takes_one}
use Rattle.e3_log.proofs.prepare.prepare.Goals as goal

pub returns-in-Err-clause-damaged : goal.returns-in-Err-clause-damaged
returns-in-Err-clause-damaged g c = λ at is.
    let same : g.D.Disk.meaning.content c.len.new.self ≡ g.D.Disk.meaning.content c.args.disk.now = c.in_ok-len.ensures.same ∙ c.in_ok-sync.ensures.same in
    let room : c.capacity-capacity.result ≡ (g.D.Disk.meaning.meters c.args.disk.now).capacity =
    c.capacity-capacity.ensures.value ∙ c.in_ok-len.ensures.meters.keeps.capacity ∙ c.in_ok-sync.ensures.meters.keeps.capacity in
    subst (λ (k : ℕ). DamagedAt k (g.D.Disk.meaning.content c.args.disk.now) at) room
    (subst (λ (l : List ℕ). DamagedAt c.capacity-capacity.result l at) same (c.in-Err.ensures.damaged at (same_error is)))

pub returns-in-Ok-clause-keeps : goal.returns-in-Ok-clause-keeps
returns-in-Ok-clause-keeps g c = keeps_then _ _ _ (keeps_then _ _ _ c.in_ok-sync.ensures.meters.keeps c.in_ok-len.ensures.meters.keeps) c.in-Ok.ensures.looks.keeps

pub returns-in-Err-clause-keeps : goal.returns-in-Err-clause-keeps
returns-in-Err-clause-keeps g c = keeps_then _ _ _ (keeps_then _ _ _ c.in_ok-sync.ensures.meters.keeps c.in_ok-len.ensures.meters.keeps) c.in-Err.ensures.looks.keeps

pub returns-in-Ok-clause-calls : goal.returns-in-Ok-clause-calls
returns-in-Ok-clause-calls g c = λ fine. takes_one (g.D.Disk.meaning.meters c.read_regions.new.disk) c.in_ok-sync.ensures.meters c.in_ok-len.ensures.meters (c.in-Ok.ensures.looks.still not_err)

pub returns-in-Ok-clause-power : goal.returns-in-Ok-clause-power
returns-in-Ok-clause-power g c = λ fine. passes c.in_ok-sync.ensures.meters c.in_ok-len.ensures.meters (c.in-Ok.ensures.looks.still not_err)

pub returns-in-Ok-clause-same : goal.returns-in-Ok-clause-same
returns-in-Ok-clause-same g c = λ fine. c.in-Ok.ensures.looks.same not_err ∙ c.in_ok-len.ensures.same ∙ c.in_ok-sync.ensures.same

pub returns-in-Ok-clause-images : goal.returns-in-Ok-clause-images
returns-in-Ok-clause-images g c = λ image at. c.in_ok-sync.ensures.images image (c.in_ok-len.ensures.images image (c.in-Ok.ensures.looks.images image at))

pub returns-in-Ok-clause-durable : goal.returns-in-Ok-clause-durable
returns-in-Ok-clause-durable g c = λ fine image at. c.in_ok-sync.ensures.durable image (c.in_ok-len.ensures.images image (c.in-Ok.ensures.looks.images image at))

pub returns-in-Err-clause-calls : goal.returns-in-Err-clause-calls
returns-in-Err-clause-calls g c = λ fine. takes_one (g.D.Disk.meaning.meters c.read_regions.new.disk) c.in_ok-sync.ensures.meters c.in_ok-len.ensures.meters (c.in-Err.ensures.looks.still (λ is. fine (same_error is)))

pub returns-in-Err-clause-power : goal.returns-in-Err-clause-power
returns-in-Err-clause-power g c = λ fine. passes c.in_ok-sync.ensures.meters c.in_ok-len.ensures.meters (c.in-Err.ensures.looks.still (λ is. fine (same_error is)))

pub returns-in-Err-clause-same : goal.returns-in-Err-clause-same
returns-in-Err-clause-same g c = λ fine. c.in-Err.ensures.looks.same (λ is. fine (same_error is)) ∙ c.in_ok-len.ensures.same ∙ c.in_ok-sync.ensures.same

pub returns-in-Err-clause-images : goal.returns-in-Err-clause-images
returns-in-Err-clause-images g c = λ image at. c.in_ok-sync.ensures.images image (c.in_ok-len.ensures.images image (c.in-Err.ensures.looks.images image at))

pub returns-in-Err-clause-durable : goal.returns-in-Err-clause-durable
returns-in-Err-clause-durable g c = λ fine image at. c.in_ok-sync.ensures.durable image (c.in_ok-len.ensures.images image (c.in-Err.ensures.looks.images image at))

pub returns-in-Err-clause-failed : goal.returns-in-Err-clause-failed
returns-in-Err-clause-failed g c = λ is. fails_behind c.in_ok-sync.ensures.meters c.in_ok-len.ensures.meters (c.in-Err.ensures.looks.failed (same_error is))

pub returns-in_err-stage-clause-keeps : goal.returns-in_err-stage-clause-keeps
returns-in_err-stage-clause-keeps g c = keeps_then _ _ _ c.in_ok-sync.ensures.meters.keeps c.in_ok-len.ensures.meters.keeps

pub returns-in_err-stage-clause-calls : goal.returns-in_err-stage-clause-calls
returns-in_err-stage-clause-calls g c = λ fine. takes_one (g.D.Disk.meaning.meters c.len.new.self) c.in_ok-sync.ensures.meters c.in_ok-len.ensures.meters (c.in_ok-len.ensures.meters.ok.0.is_on, refl, refl)

pub returns-in_err-stage-clause-power : goal.returns-in_err-stage-clause-power
returns-in_err-stage-clause-power g c = λ fine. passes c.in_ok-sync.ensures.meters c.in_ok-len.ensures.meters (c.in_ok-len.ensures.meters.ok.0.is_on, refl, refl)

pub returns-in_err-len-clause-keeps : goal.returns-in_err-len-clause-keeps
returns-in_err-len-clause-keeps g c = keeps_then _ _ _ c.in_ok-sync.ensures.meters.keeps c.len.ensures.meters.keeps

pub returns-in-Ok-clause-held : goal.returns-in-Ok-clause-held
returns-in-Ok-clause-held g c =
    let content = g.D.Disk.meaning.content in
    let same : content c.len.new.self ≡ content c.args.disk.now = c.in_ok-len.ensures.same ∙ c.in_ok-sync.ensures.same in
    let room : c.capacity-capacity.result ≡ (g.D.Disk.meaning.meters c.args.disk.now).capacity =
    c.capacity-capacity.ensures.value ∙ c.in_ok-len.ensures.meters.keeps.capacity ∙ c.in_ok-sync.ensures.meters.keeps.capacity in
    subst (λ (k : ℕ). IsHeld k (content c.args.disk.now) c.in-Ok.held) room (subst (λ (l : List ℕ). IsHeld c.capacity-capacity.result l c.in-Ok.held) same c.in-Ok.ensures.held)

pub returns-in-Ok-clause-end : goal.returns-in-Ok-clause-end
returns-in-Ok-clause-end g c =
    let content = g.D.Disk.meaning.content in
    let same : content c.len.new.self ≡ content c.args.disk.now = c.in_ok-len.ensures.same ∙ c.in_ok-sync.ensures.same in
    let room : c.capacity-capacity.result ≡ (g.D.Disk.meaning.meters c.args.disk.now).capacity =
    c.capacity-capacity.ensures.value ∙ c.in_ok-len.ensures.meters.keeps.capacity ∙ c.in_ok-sync.ensures.meters.keeps.capacity in
    subst (λ (k : ℕ). EndsInside k (content c.args.disk.now) c.in-Ok.held) room (subst (λ (l : List ℕ). EndsInside c.capacity-capacity.result l c.in-Ok.held) same c.in-Ok.ensures.end)

pub returns-in-Ok-clause-whole : goal.returns-in-Ok-clause-whole
returns-in-Ok-clause-whole g c =
    let content = g.D.Disk.meaning.content in
    let same : content c.len.new.self ≡ content c.args.disk.now = c.in_ok-len.ensures.same ∙ c.in_ok-sync.ensures.same in
    let room : c.capacity-capacity.result ≡ (g.D.Disk.meaning.meters c.args.disk.now).capacity =
    c.capacity-capacity.ensures.value ∙ c.in_ok-len.ensures.meters.keeps.capacity ∙ c.in_ok-sync.ensures.meters.keeps.capacity in
    subst (λ (k : ℕ). half k < length (content c.args.disk.now)) room (subst (λ (l : List ℕ). half c.capacity-capacity.result < length l) same c.in-Ok.ensures.whole)

pub returns-in-Ok-clause-bound : goal.returns-in-Ok-clause-bound
returns-in-Ok-clause-bound g c =
    omega (arith, c.in-Ok.ensures.end.0, limit_low c.capacity-capacity.result c.in-Ok.held.region, c.capacity-capacity.ensures.most)
