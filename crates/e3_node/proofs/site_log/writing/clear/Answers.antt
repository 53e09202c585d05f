use Rattle.std.proofs.Common.{◌≡◌, ◌-◌, ◌<◌, ◌≤◌, arith}
use Rattle.e3_node.specs.site_log.Bodies.{bodies_in}
use Rattle.e3_types.specs.declared.entries.Why.TheVariants.{Fault}
use Rattle.e3_node.proofs.site_log.Reasons.{cleared_takes}
use Rattle.e3_node.proofs.site_log.Writes.{cleared, left_cleared, none_kept}
use Rattle.e3_node.proofs.site_log.writing.clear.Goals as goal

pub returns-in-Ok-clause-logged : goal.returns-in-Ok-clause-logged
returns-in-Ok-clause-logged g c = λ site most logged l was.
    cleared g.D.Disk.meaning site most l logged c.args.log.now c.clear.new.self was (c.in-Ok.ensures.stands (bodies_in was.lists) was.stands)
    c.in-Ok.ensures.log.1

pub returns-in-Err-clause-left : goal.returns-in-Err-clause-left
returns-in-Err-clause-left g c = λ site most logged l more was bytes at.
    left_cleared g.D.Disk.meaning site most l logged c.args.log.now c.clear.new.self more Fault was
    (c.in-Err.ensures.images (bodies_in was.lists) was.stands) c.in-Err.ensures.keeps.capacity bytes at

pub returns-in-Ok-clause-sound : goal.returns-in-Ok-clause-sound
returns-in-Ok-clause-sound g c = none_kept c.clear.new.self.failed (λ yes. absurd (let is = c.in-Ok.ensures.failure.0 yes in cc))

pub returns-in-Ok-clause-takes : goal.returns-in-Ok-clause-takes
returns-in-Ok-clause-takes g c =
    let old = g.D.Disk.meaning.meters c.args.log.now.disk in
    let new = g.D.Disk.meaning.meters c.clear.new.self.disk in
    cleared_takes g.D.Disk.meaning.meters c.args.log.now c.clear.new.self (λ failed. absurd (let is = (c.in-Ok.ensures.kept failed).0 in cc))
    (λ sound shut. (c.in-Ok.ensures.idle sound shut).1)
    (λ opened some.
    let calls = c.in-Ok.ensures.calls opened in
    let left : new.calls_left ≡ old.calls_left - 2 = calls.0 in
    let more : 2 < old.calls_left = calls.1 some in
    ((let a : 0 < new.calls_left = omega (arith, left, more) in a), (let b : new.calls_left ≤ old.calls_left = omega (arith, left, more) in b)))
