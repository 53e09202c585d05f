use Rattle.std.proofs.Common.{ap, sym, subst, Err, List}
use Rattle.e3_world.specs.Orderly.{IsOrderly}
use Rattle.e3_node.specs.Bodies.{DiskTells, log_with}
use Rattle.e3_node.specs.Briefing.{IsReadBrief}
use Rattle.e3_node.specs.Rising.{RiseMakes}
use Rattle.e3_node.specs.declared.readying.Unready.{Unready}
use Rattle.e3_node.specs.declared.rising.Raised.{Raised}
use Rattle.e3_node.specs.declared.state.State.TheVariants.{Down}
use Rattle.e3_types.specs.declared.records.Record.{Record}
use Rattle.e3_node.proofs.Counts.{may_turn}
use Rattle.e3_node.proofs.Rises.{read_brief, read_front, ready_some, unshortened, was_logged}
use Rattle.e3_node.proofs.rising.shorten_and_log.Goals as goal

pub log_rise-requires-clause-some : goal.log_rise-requires-clause-some
log_rise-requires-clause-some g c = ready_some c.args.wish.now c.args.logged c.requires.ready.0 c.args.rise c.requires.ready.1

pub log_rise-requires-clause-spelled : goal.log_rise-requires-clause-spelled
log_rise-requires-clause-spelled g c = c.requires.ready.1.body_is

pub log_rise-requires-clause-may : goal.log_rise-requires-clause-may
log_rise-requires-clause-may g c =
    let wish = c.args.wish.now in
    let from = c.requires.history in
    let at = g.met.D.Disk.reads_an_image c.args.log.disk in
    let was = was_logged g.D.Disk.meaning c.logs_are_sound.ensures.orderly c.logs_are_sound.ensures.sets c.logs_are_sound.ensures.sound from.scenario from.history wish c.args.logged c.requires.ready.0 c.args.rise c.args.log from.may c.requires.ready.1 c.requires.ready.2 from.tells at in
    may_turn g.D.Disk.meaning from.history wish.site (log_with from.scenario from.history wish.site c.args.rise.kept) c.args.rise.read c.args.log c.in-Ok.short was from.few c.in-Ok.ensures.body

pub returns-in-Ok-clause-makes : goal.returns-in-Ok-clause-makes
returns-in-Ok-clause-makes g c = λ sc h may tells.
    let wish = c.args.wish.now in
    let bodies = c.requires.ready.0 in
    let is = c.requires.ready.1 in
    let stands = c.requires.ready.2 in
    let at = g.met.D.Disk.reads_an_image c.args.log.disk in
    let brief = read_brief g.D.Disk.meaning c.logs_are_sound.ensures.orderly c.logs_are_sound.ensures.sets c.logs_are_sound.ensures.sound sc h wish c.args.logged bodies c.args.rise c.args.log may is stands tells at
    c.logs_are_sound.ensures.mention c.logs_are_sound.ensures.begun c.logs_are_sound.ensures.votes in
    let l = log_with sc h wish.site c.args.rise.kept in
    let mine = subst (λ (x : List Record). IsReadBrief wish.site x l) (sym (read_front wish c.args.logged bodies c.args.rise is)) brief in
    c.log_rise.ensures.makes sc h wish c.args.logged bodies may is stands tells (c.in-Ok.ensures.short l mine) (c.in-Ok.ensures.due l mine stands.sound)

pub returns-in-Err-clause-makes : goal.returns-in-Err-clause-makes
returns-in-Err-clause-makes g c = λ sc h may tells.
    let wish = c.args.wish.now in
    let bodies = c.requires.ready.0 in
    let is = c.requires.ready.1 in
    let stands = c.requires.ready.2 in
    let at = g.met.D.Disk.reads_an_image c.args.log.disk in
    let brief = read_brief g.D.Disk.meaning c.logs_are_sound.ensures.orderly c.logs_are_sound.ensures.sets c.logs_are_sound.ensures.sound sc h wish c.args.logged bodies c.args.rise c.args.log may is stands tells at
    c.logs_are_sound.ensures.mention c.logs_are_sound.ensures.begun c.logs_are_sound.ensures.votes in
    let orderly = subst (λ (x : List Record). IsOrderly wish.site x) (sym (read_front wish c.args.logged bodies c.args.rise is)) brief.orderly in
    let new = c.into_disk.result in
    let here : DiskTells sc h wish.site (g.D.Disk.meaning.meters new).capacity c.args.logged (g.D.Disk.meaning.image new) =
    subst (λ (d : _). DiskTells sc h wish.site (g.D.Disk.meaning.meters d).capacity c.args.logged (g.D.Disk.meaning.image d)) (sym c.into_disk.ensures) tells in
    subst (λ (r : Raised). RiseMakes g.D.Disk.meaning sc h wish.site c.args.log.disk (Down new c.args.logged) r) (sym c.raised_by.ensures)
    (unshortened g.D.Disk.meaning sc h wish.site c.args.logged c.args.log.disk new c.in-Err.fault (λ foreign. c.in-Err.ensures.never orderly (ap (λ (f : Unready). Err f) foreign)) here)
