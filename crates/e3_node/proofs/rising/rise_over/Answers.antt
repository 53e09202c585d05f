use Rattle.std.proofs.Common.{ap, subst, sym, Err, List}
use Rattle.e3_log.specs.Found.{bodies_of}
use Rattle.e3_node.specs.Bodies.{DiskTells}
use Rattle.e3_node.specs.Rising.{IsForeign, NextIsCounted, RiseMakes}
use Rattle.e3_node.specs.declared.readying.Unready.{Unready}
use Rattle.e3_node.specs.declared.rising.Raised.{Raised}
use Rattle.e3_node.specs.declared.state.State.TheVariants.{Down}
use Rattle.e3_node.proofs.Counts.{next_is_counted}
use Rattle.e3_node.proofs.Left.{opened_reads}
use Rattle.e3_node.proofs.Rises.{unshortened}
use Rattle.e3_node.proofs.Strange.{never_foreign}
use Rattle.e3_node.proofs.rising.rise_over.Goals as goal

pub ready-requires : goal.ready-requires
ready-requires g c =
    let wish = c.args.wish.now in
    let log = c.args.log in
    let from = c.requires.history in
    let bytes = g.D.Disk.meaning.content log.disk in
    let bodies = bodies_of c.args.frames.now in
    subst (λ (l : List _). NextIsCounted wish.site (bodies_of l)) (sym c.as_slice.ensures)
    (next_is_counted from.scenario from.history wish (g.D.Disk.meaning.meters log.disk).capacity log.generation c.args.logged bodies bytes from.may from.few
    (from.tells bytes (g.met.D.Disk.reads_an_image log.disk)) (opened_reads g.D.Disk.meaning bodies log c.requires.stands) c.logs_are_sound.ensures.orderly c.logs_are_sound.ensures.sets c.logs_are_sound.ensures.sound)

pub returns-in-Err-clause-makes : goal.returns-in-Err-clause-makes
returns-in-Err-clause-makes g c = λ sc h may tells.
    let wish = c.args.wish.now in
    let log = c.args.log in
    let bytes = g.D.Disk.meaning.content log.disk in
    let bodies = bodies_of c.args.frames.now in
    let new = c.into_disk.result in
    let here : DiskTells sc h wish.site (g.D.Disk.meaning.meters new).capacity c.args.logged (g.D.Disk.meaning.image new) =
    subst (λ (d : _). DiskTells sc h wish.site (g.D.Disk.meaning.meters d).capacity c.args.logged (g.D.Disk.meaning.image d)) (sym c.into_disk.ensures) tells in
    subst (λ (r : Raised). RiseMakes g.D.Disk.meaning sc h wish.site log.disk (Down new c.args.logged) r) (sym c.raised_by.ensures)
    (unshortened g.D.Disk.meaning sc h wish.site c.args.logged log.disk new c.in-Err.fault
    (λ foreign. never_foreign sc h wish (g.D.Disk.meaning.meters log.disk).capacity log.generation c.args.logged bodies bytes may
    (tells bytes (g.met.D.Disk.reads_an_image log.disk)) (opened_reads g.D.Disk.meaning bodies log c.requires.stands) c.logs_are_sound.ensures.orderly c.logs_are_sound.ensures.sets c.logs_are_sound.ensures.sound
    (subst (λ (l : List _). IsForeign wish (bodies_of l)) c.as_slice.ensures (c.in-Err.ensures.foreign (ap (λ (f : Unready). Err f) foreign)))) here)
