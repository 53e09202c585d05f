use Rattle.std.proofs.Common.{◌≡◌, List, sym, subst}
use Rattle.e3_types.specs.declared.entries.Entry.{Entry}
use Rattle.e3_play.specs.Delivered.{IsFullBefore, IsPacketDue}
use Rattle.e3_play.specs.declared.sites.RunFault.TheVariants.{HistoryFull}
use Rattle.e3_play.proofs.DuePackets.{packet_full, packet_owed, refused}
use Rattle.e3_play.proofs.delivering.deliver.Goals as goal

pub returns-then-is_up-clause-full : goal.returns-then-is_up-clause-full
returns-then-is_up-clause-full g c = λ is.
    let S = g.S.Sites in
    let sites = c.args.sites.now in
    let P : List Entry → Type 0 = λ h. IsFullBefore IsPacketDue (S.scenario sites) h (S.most sites) in
    subst P (sym (refused (S.entries c.input.new.self ≡ S.entries sites) c.input.result HistoryFull is c.input.ensures.kept))
    (packet_full (S.scenario sites) (S.entries sites) (S.most sites) (g.met.S.Sites.within sites c.requires.standing) (c.input.ensures.full is)
    c.requires.begun (packet_owed (S.scenario sites) (S.entries sites) c.args.packet c.requires.delivering c.requires.first))

pub returns-else-is_up-clause-full : goal.returns-else-is_up-clause-full
returns-else-is_up-clause-full g c = λ is.
    let S = g.S.Sites in
    let sites = c.args.sites.now in
    let P : List Entry → Type 0 = λ h. IsFullBefore IsPacketDue (S.scenario sites) h (S.most sites) in
    subst P (sym (refused (S.entries c.drop_first.new.self ≡ S.entries sites) c.drop_first.result HistoryFull is c.drop_first.ensures.kept))
    (packet_full (S.scenario sites) (S.entries sites) (S.most sites) (g.met.S.Sites.within sites c.requires.standing) (c.drop_first.ensures.full is)
    c.requires.begun (packet_owed (S.scenario sites) (S.entries sites) c.args.packet c.requires.delivering c.requires.first))
