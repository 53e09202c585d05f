use Rattle.std.proofs.Common.{◌≡◌, ◌≤◌, ◌+◌, ◌-◌, ◌<◌, ◌∷◌, [], ℕ, max, List, length, refl, sym, subst, ap, ◌∙◌, Err, arith, rules}
use Rattle.e3_log.specs.Regions.{limit, other, start}
use Rattle.e3_log.specs.Stands.{EachReadsAs, Stands}
use Rattle.e3_log.specs.declared.fault.TurnFault.{TurnFault}
use Rattle.e3_log.specs.declared.region.Region.{Region}
use Rattle.e3_node.specs.site_log.Bodies.{bodies_in}
use Rattle.e3_node.specs.site_log.Ends.{IsReason}
use Rattle.e3_types.specs.declared.entries.Why.{Why}
use Rattle.e3_types.specs.declared.entries.Why.TheVariants.{Fault, Full}
use Rattle.e3_node.proofs.site_log.Reasons.{keeps_then, reason_turn, takes_on, turn_fault_is, turn_full_is, within}
use Rattle.e3_node.proofs.site_log.Writes.{left_later, left_turned, turned_log}
use Rattle.e3_node.proofs.site_log.writing.turn_to.Goals as goal

-- the other region was not closed
pub returns-in-Err-clause-left : goal.returns-in-Err-clause-left
returns-in-Err-clause-left g c = λ site most l more was is bytes at.
    left_later site (g.D.Disk.meaning.meters c.clear.new.log.disk).capacity most (most + 1) c.args.logged.now l more c.in-Err.why bytes (omega arith)
    (c.in-Err.ensures.left site most c.args.logged.now l more was bytes at)

pub returns-in-Err-clause-reason : goal.returns-in-Err-clause-reason
returns-in-Err-clause-reason g c = λ l records some is sound.
    let it = c.in-Err.ensures.fault sound in
    subst (λ (w : Why). IsReason w l records (g.D.Disk.meaning.meters c.args.log.now.disk) (g.D.Disk.meaning.meters c.clear.new.log.disk)) (sym it.0) it.1

-- the log was not turned
pub returns-in-Err-turn-clause-left : goal.returns-in-Err-turn-clause-left
returns-in-Err-turn-clause-left g c = λ site most l more was is bytes at.
    let greater : c.max.result ≡ max c.args.logged.now c.args.short.now.count = search rules in
    let mid = c.clear.new.log in
    let held = c.in-Ok.ensures.logged site most c.args.logged.now l was in
    left_turned g.D.Disk.meaning site most l c.args.logged.now c.max.result mid c.turn.new.self c.args.short.now more c.turn_why.result held is c.requires.some
    (subst (λ (b : List ℕ). EachReadsAs (g.D.Disk.meaning.meters mid.disk).capacity mid.generation (bodies_in held.lists) (mid.generation + 1) (b ∷ []) (g.D.Disk.meaning.image c.turn.new.self.disk))
    c.as_slice.ensures (c.in-Err-turn.ensures.images (bodies_in held.lists) held.stands))
    c.in-Err-turn.ensures.keeps.capacity greater bytes at

pub returns-in-Err-turn-clause-reason : goal.returns-in-Err-turn-clause-reason
returns-in-Err-turn-clause-reason g c = λ l records some is sound.
    let cap = (g.D.Disk.meaning.meters c.clear.new.log.disk).capacity in
    let region = other c.clear.new.log.region in
    reason_turn g.D.Disk.meaning.meters l records some c.args.log.now c.clear.new.log c.turn.new.self c.args.short.now is (Err c.turn_why.result) c.in-Ok.ensures.log.0 c.in-Ok.ensures.keeps
    (λ failed.
    let why : c.turn_why.result ≡ Fault = cc in
    turn_fault_is c.in-Err-turn.fault (λ so. c.in-Err-turn.ensures.cause (ap (λ (f : TurnFault). Err f) so) c.in-Ok.ensures.sound)
    (λ memory. c.in-Err-turn.ensures.memory (ap (λ (f : TurnFault). Err f) memory)) (sym c.turn_why.ensures ∙ why))
    (λ need room full.
    let why : c.turn_why.result ≡ Full need room = cc in
    let only = c.in-Err-turn.ensures.only_full need room (ap (λ (f : TurnFault). Err f) (turn_full_is c.in-Err-turn.fault need room (sym c.turn_why.ensures ∙ why))) in
    subst (λ (b : List ℕ). (limit cap region < start cap region + 11 + length b) × (need ≡ start cap region + 11 + length b) × (room ≡ limit cap region)) c.as_slice.ensures
    (only.0, only.1, only.2))

pub returns-in-Err-turn-clause-keeps : goal.returns-in-Err-turn-clause-keeps
returns-in-Err-turn-clause-keeps g c =
    keeps_then (g.D.Disk.meaning.meters c.args.log.now.disk) (g.D.Disk.meaning.meters c.clear.new.log.disk) (g.D.Disk.meaning.meters c.turn.new.self.disk) c.in-Ok.ensures.keeps c.in-Ok.ensures.stops c.in-Err-turn.ensures.keeps

-- it was turned
pub returns-in-Ok-turn-clause-logged : goal.returns-in-Ok-turn-clause-logged
returns-in-Ok-turn-clause-logged g c = λ site most l was is.
    turned_log g.D.Disk.meaning site most l c.args.logged.now c.args.short.now.count c.clear.new.log c.turn.new.self c.args.short.now
    (c.in-Ok.ensures.logged site most c.args.logged.now l was) is c.requires.some
    (λ bodies st. subst (λ (b : List ℕ). Stands g.D.Disk.meaning (b ∷ []) c.turn.new.self) c.as_slice.ensures (c.in-Ok-turn.ensures.stands bodies st))
    c.in-Ok-turn.ensures.log.1 refl

pub returns-in-Ok-turn-clause-fits : goal.returns-in-Ok-turn-clause-fits
returns-in-Ok-turn-clause-fits g c =
    let cap = (g.D.Disk.meaning.meters c.clear.new.log.disk).capacity in
    let mid = other c.clear.new.log.region in
    let size = length c.args.short.now.body in
    let there : start cap mid + 11 + size ≤ limit cap mid =
    subst (λ (b : List ℕ). start cap mid + 11 + length b ≤ limit cap mid) c.as_slice.ensures
    (within (start cap mid + 11 + length c.as_slice.result.now) (limit cap mid) (λ past. absurd (let is = c.in-Ok-turn.ensures.full c.in-Ok.ensures.sound past in cc))) in
    subst (λ (k : ℕ). start k (other c.args.log.now.region) + 11 + size ≤ limit k (other c.args.log.now.region)) c.in-Ok.ensures.keeps.capacity
    (subst (λ (x : Region). start cap (other x) + 11 + size ≤ limit cap (other x)) c.in-Ok.ensures.log.0 there)

pub returns-in-Ok-turn-clause-log : goal.returns-in-Ok-turn-clause-log
returns-in-Ok-turn-clause-log g c =
    let cap = (g.D.Disk.meaning.meters c.clear.new.log.disk).capacity in
    let new = c.turn.new.self in
    let size = length c.args.short.now.body in
    let end : new.end ≡ start cap (other c.clear.new.log.region) + 10 + size =
    subst (λ (b : List ℕ). new.end ≡ start cap (other c.clear.new.log.region) + 10 + length b) c.as_slice.ensures c.in-Ok-turn.ensures.end in
    subst (λ (k : ℕ). (new.region ≡ other c.args.log.now.region) × (new.end ≡ start k (other c.args.log.now.region) + 10 + size)) c.in-Ok.ensures.keeps.capacity
    (subst (λ (x : Region). (new.region ≡ other x) × (new.end ≡ start cap (other x) + 10 + size)) c.in-Ok.ensures.log.0 (c.in-Ok-turn.ensures.log.0, end))

pub returns-in-Ok-turn-clause-counts : goal.returns-in-Ok-turn-clause-counts
returns-in-Ok-turn-clause-counts g c = c.in-Ok-turn.ensures.log.1 ∙ ap (λ (k : ℕ). k + 1) c.in-Ok.ensures.log.1

pub returns-in-Ok-turn-clause-keeps : goal.returns-in-Ok-turn-clause-keeps
returns-in-Ok-turn-clause-keeps g c =
    keeps_then (g.D.Disk.meaning.meters c.args.log.now.disk) (g.D.Disk.meaning.meters c.clear.new.log.disk) (g.D.Disk.meaning.meters c.turn.new.self.disk) c.in-Ok.ensures.keeps c.in-Ok.ensures.stops c.in-Ok-turn.ensures.keeps

pub returns-in-Ok-turn-clause-stops : goal.returns-in-Ok-turn-clause-stops
returns-in-Ok-turn-clause-stops g c = c.in-Ok-turn.ensures.power.1 ∙ c.in-Ok.ensures.stops

pub returns-in-Ok-turn-clause-takes : goal.returns-in-Ok-turn-clause-takes
returns-in-Ok-turn-clause-takes g c =
    let old = g.D.Disk.meaning.meters c.args.log.now.disk in
    let mid = g.D.Disk.meaning.meters c.clear.new.log.disk in
    let new = g.D.Disk.meaning.meters c.turn.new.self.disk in
    takes_on 0 4 old mid new c.in-Ok.ensures.takes (λ some.
    let left : new.calls_left ≡ mid.calls_left - 4 = c.in-Ok-turn.ensures.calls.0 in
    let more : 4 < mid.calls_left = c.in-Ok-turn.ensures.calls.1 some in
    ((let a : 0 < new.calls_left = omega (arith, left, more) in a), (let b : new.calls_left + 4 ≤ mid.calls_left = omega (arith, left, more) in b)))
