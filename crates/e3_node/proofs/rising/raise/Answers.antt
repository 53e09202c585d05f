use Rattle.std.proofs.Common.{sym, subst}
use Rattle.e3_disk.specs.Meters.{Keeps, Meters, lit}
use Rattle.e3_node.proofs.Metering.{keeps_lit, keeps_same}
use Rattle.e3_node.proofs.Rises.{disk_within, history_within, makes_since}
use Rattle.e3_node.proofs.rising.raise.Goals as goal

pub open-requires-clause-history : goal.open-requires-clause-history
open-requires-clause-history g c =
    let old = c.args.disk in
    let mid = c.power_on.new.self in
    let was : Meters = g.D.Disk.meaning.meters old in
    let keeps : Keeps was (g.D.Disk.meaning.meters mid) =
    subst (λ (m : Meters). Keeps was m) (sym c.power_on.ensures.meters) (keeps_lit was (lit was) (keeps_same (lit was))) in
    history_within g.D.Disk.meaning c.args.wish.now c.args.logged old mid c.power_on.ensures.images keeps.capacity c.requires.history

pub returns-clause-makes : goal.returns-clause-makes
returns-clause-makes g c = λ sc h may holds.
    let site = c.args.wish.now.site in
    let old = c.args.disk in
    let mid = c.power_on.new.self in
    let was : Meters = g.D.Disk.meaning.meters old in
    let keeps : Keeps was (g.D.Disk.meaning.meters mid) =
    subst (λ (m : Meters). Keeps was m) (sym c.power_on.ensures.meters) (keeps_lit was (lit was) (keeps_same (lit was))) in
    makes_since g.D.Disk.meaning sc h site old mid c.open.result.0 c.open.result.1 c.power_on.ensures.images keeps
    (c.open.ensures.makes sc h may (disk_within g.D.Disk.meaning sc h site c.args.logged old mid c.power_on.ensures.images keeps.capacity holds))
