use Rattle.std.proofs.Common.{rules, sym, subst}
use Rattle.e3_disk.specs.Images.{Within}
use Rattle.e3_disk.specs.Meters.{Keeps}
use Rattle.e3_node.specs.Rising.{RiseMakes}
use Rattle.e3_node.specs.declared.rising.Raised.{Raised}
use Rattle.e3_node.specs.declared.state.State.TheVariants.{Down}
use Rattle.e3_node.specs.Bodies.{entries_at}
use Rattle.e3_world.specs.Moves.{moves_of, open_tail}
use Rattle.e3_node.proofs.Rises.{disk_within, history_within, makes_since, not_opened}
use Rattle.e3_node.proofs.Strange.{reads_some}
use Rattle.e3_node.proofs.rising.open.Goals as goal

pub rise_over-requires-clause-history : goal.rise_over-requires-clause-history
rise_over-requires-clause-history g c =
    let old = c.args.disk in
    let mid = c.in-Ok.log.disk in
    let images : Within (g.D.Disk.meaning.image old) (g.D.Disk.meaning.image mid) = search rules in
    let keeps : Keeps (g.D.Disk.meaning.meters old) (g.D.Disk.meaning.meters mid) = search rules in
    history_within g.D.Disk.meaning c.args.wish.now c.args.logged old mid images keeps.capacity c.requires.history

pub returns-in-Ok-clause-makes : goal.returns-in-Ok-clause-makes
returns-in-Ok-clause-makes g c = λ sc h may holds.
    let site = c.args.wish.now.site in
    let old = c.args.disk in
    let mid = c.in-Ok.log.disk in
    let images : Within (g.D.Disk.meaning.image old) (g.D.Disk.meaning.image mid) = search rules in
    let keeps : Keeps (g.D.Disk.meaning.meters old) (g.D.Disk.meaning.meters mid) = search rules in
    makes_since g.D.Disk.meaning sc h site old mid c.rise_over.result.0 c.rise_over.result.1 images keeps
    (c.rise_over.ensures.makes sc h may (disk_within g.D.Disk.meaning sc h site c.args.logged old mid images keeps.capacity holds))

pub returns-in-Err-clause-makes : goal.returns-in-Err-clause-makes
returns-in-Err-clause-makes g c = λ sc h may holds.
    let site = c.args.wish.now.site in
    let old = c.args.disk in
    let new = c.in-Err.refused.disk in
    subst (λ (r : Raised). RiseMakes g.D.Disk.meaning sc h site old (Down new c.args.logged) r) (sym c.raised_of.ensures)
    (not_opened g.D.Disk.meaning sc h site c.args.logged old new c.in-Err.refused.cause c.in-Err.ensures.images c.in-Err.ensures.keeps.capacity holds
    (λ is. c.in-Err.ensures.failed is c.requires.lit)
    (λ at is. reads_some site (g.D.Disk.meaning.meters old).capacity (entries_at h site) c.args.logged (moves_of sc h site) (open_tail sc h site) (g.D.Disk.meaning.content old) (holds (g.D.Disk.meaning.content old) (g.met.D.Disk.reads_an_image old))
    (λ n bs reads. c.in-Err.ensures.whole n bs reads at is)))
