use Rattle.std.proofs.Common.{◌≡◌, ◌+◌, sym, subst, ap, ◌∙◌, length, Err, arith, rules}
use Rattle.e3_log.specs.declared.fault.AppendFault.{AppendFault}
use Rattle.e3_log.specs.Frames.{frames}
use Rattle.e3_node.specs.site_log.Bodies.{ReadsLeft, bodies_in, body_of, counted}
use Rattle.e3_types.specs.declared.entries.Why.{Why}
use Rattle.e3_types.specs.declared.entries.Why.TheVariants.{Fault, Full}
use Rattle.e3_node.proofs.site_log.Frames.{some_spelled, untagged}
use Rattle.e3_node.proofs.site_log.Reasons.{add_fault, add_full, frame_length}
use Rattle.e3_node.proofs.site_log.Writes.{added, left_add}
use Rattle.e3_node.proofs.site_log.writing.add.Goals as goal

pub append-requires-clause-some : goal.append-requires-clause-some
append-requires-clause-some g c = some_spelled c.args.records.now c.args.body.now c.requires.spelled c.requires.some

pub append-requires-clause-untagged : goal.append-requires-clause-untagged
append-requires-clause-untagged g c = untagged c.args.records.now c.args.body.now c.requires.spelled c.requires.some

pub returns-in-Ok-clause-logged : goal.returns-in-Ok-clause-logged
returns-in-Ok-clause-logged g c = λ site most l was orderly back.
    let sum : c.saturating_add.result ≡ counted (c.args.logged.now + length c.args.records.now) = search rules in
    added g.D.Disk.meaning site most l c.args.logged.now c.saturating_add.result c.args.log.now c.append.new.self c.args.records.now c.args.body.now
    c.requires.spelled c.requires.some was orderly back c.in-Ok.ensures.stands c.in-Ok.ensures.log.1 sum

pub returns-in-Ok-clause-end : goal.returns-in-Ok-clause-end
returns-in-Ok-clause-end g c =
    let size : length (frames (body_of c.args.records.now)) ≡ 5 + length c.args.body.now = frame_length c.args.records.now c.args.body.now c.requires.spelled c.requires.some in
    let end : c.append.new.self.end ≡ c.args.log.now.end + 5 + length c.args.body.now = c.in-Ok.ensures.end in
    let behind : c.append.new.self.end ≡ c.args.log.now.end + length (frames (body_of c.args.records.now)) = omega (arith, end, size) in
    record { region = c.in-Ok.ensures.log.0; generation = c.in-Ok.ensures.log.1; spare = c.in-Ok.ensures.log.2; end = behind }

pub returns-in-Err-clause-left : goal.returns-in-Err-clause-left
returns-in-Err-clause-left g c = λ site most l was orderly back bytes at.
    subst (λ (w : Why). ReadsLeft site (g.D.Disk.meaning.meters c.append.new.self.disk).capacity most l c.args.records.now c.args.logged.now w bytes) (sym c.why_of.ensures)
    (left_add g.D.Disk.meaning site most l c.args.logged.now c.args.log.now c.append.new.self c.args.records.now c.args.body.now c.in-Err.fault
    c.requires.spelled c.requires.some was orderly back (c.in-Err.ensures.images (bodies_in was.lists) was.stands)
    (λ need room is. (c.in-Err.ensures.only_full need room (ap (λ (f : AppendFault). Err f) is)).3) c.in-Err.ensures.keeps.capacity bytes at)

pub returns-in-Err-clause-fault : goal.returns-in-Err-clause-fault
returns-in-Err-clause-fault g c = λ sound is.
    let why : c.why_of.result ≡ Fault = cc in
    add_fault c.in-Err.fault (λ failed. c.in-Err.ensures.cause (ap (λ (f : AppendFault). Err f) failed) sound) (sym c.why_of.ensures ∙ why)

pub returns-in-Err-clause-full : goal.returns-in-Err-clause-full
returns-in-Err-clause-full g c = λ need room is.
    let why : c.why_of.result ≡ Full need room = cc in
    let only = c.in-Err.ensures.only_full need room (ap (λ (f : AppendFault). Err f) (add_full c.in-Err.fault need room (sym c.why_of.ensures ∙ why))) in
    (only.0, only.1, only.2)
