use Rattle.std.proofs.Common.{◌≡◌, ◌+◌, ◌∙◌, length, arith}
use Rattle.e3_log.specs.Frames.{frames}
use Rattle.e3_log.specs.Regions.{other, start}
use Rattle.e3_node.specs.site_log.Bodies.{body_of}
use Rattle.e3_node.specs.site_log.Ends.{IsBehind, IsTurned, Takes}
use Rattle.e3_node.proofs.site_log.Reasons.{keeps_then, on_ok, reason_behind, takes_on}
use Rattle.e3_node.proofs.site_log.writing.turn_and_add.Goals as goal

pub returns-in-Ok-clause-logged : goal.returns-in-Ok-clause-logged
returns-in-Ok-clause-logged g c = λ site most l was is orderly back.
    c.add.ensures.logged site (most + 1) l (c.in-Ok.ensures.logged site most l was is) orderly back

pub returns-in-Ok-clause-left : goal.returns-in-Ok-clause-left
returns-in-Ok-clause-left g c = λ site most l was is orderly back.
    c.add.ensures.left site (most + 1) l (c.in-Ok.ensures.logged site most l was is) orderly back

pub returns-in-Err-clause-left : goal.returns-in-Err-clause-left
returns-in-Err-clause-left g c = λ site most l was is orderly back. c.in-Err.ensures.left site most l c.args.records.now was is

pub returns-in-Ok-clause-reason : goal.returns-in-Ok-clause-reason
returns-in-Ok-clause-reason g c = λ site most l was is due.
    let now = c.in-Ok.ensures.logged site most l was is in
    reason_behind g.D.Disk.meaning.meters l c.args.records.now is.some c.args.log.now c.turn_to.new.log c.add.new.log c.args.short.now is.body_is c.add.result c.args.body.now c.requires.spelled
    c.in-Ok.ensures.log.0 c.in-Ok.ensures.log.1 c.in-Ok.ensures.fits c.in-Ok.ensures.keeps (c.add.ensures.fault now.stands.sound) c.add.ensures.full

pub returns-in-Err-clause-reason : goal.returns-in-Err-clause-reason
returns-in-Err-clause-reason g c = λ site most l was is due. c.in-Err.ensures.reason l c.args.records.now is.some is.body_is was.stands.sound

pub returns-in-Ok-clause-end : goal.returns-in-Ok-clause-end
returns-in-Ok-clause-end g c =
    let mid : c.turn_to.new.log.end ≡ start (g.D.Disk.meaning.meters c.args.log.now.disk).capacity (other c.args.log.now.region) + 10 + length c.args.short.now.body = c.in-Ok.ensures.log.1 in
    on_ok {A = IsBehind c.turn_to.new.log c.args.records.now c.add.new.log} {B = IsTurned g.D.Disk.meaning.meters c.args.log.now c.args.short.now.body c.args.records.now c.add.new.log}
    c.add.result (λ put. record {
      region = put.region ∙ c.in-Ok.ensures.log.0;
      generation = put.generation ∙ c.in-Ok.ensures.counts;
      end = (let behind : c.add.new.log.end ≡ c.turn_to.new.log.end + length (frames (body_of c.args.records.now)) = put.end in omega (arith, behind, mid));
    }) c.add.ensures.end

pub returns-in-Ok-clause-keeps : goal.returns-in-Ok-clause-keeps
returns-in-Ok-clause-keeps g c =
    keeps_then (g.D.Disk.meaning.meters c.args.log.now.disk) (g.D.Disk.meaning.meters c.turn_to.new.log.disk) (g.D.Disk.meaning.meters c.add.new.log.disk) c.in-Ok.ensures.keeps c.in-Ok.ensures.stops c.add.ensures.keeps

pub returns-in-Ok-clause-takes : goal.returns-in-Ok-clause-takes
returns-in-Ok-clause-takes g c =
    let old = g.D.Disk.meaning.meters c.args.log.now.disk in
    let mid = g.D.Disk.meaning.meters c.turn_to.new.log.disk in
    let new = g.D.Disk.meaning.meters c.add.new.log.disk in
    on_ok {A = Takes 4 mid new} {B = Takes 4 old new} c.add.result (takes_on 4 4 old mid new c.in-Ok.ensures.takes) c.add.ensures.takes
