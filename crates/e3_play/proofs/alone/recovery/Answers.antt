use Rattle.std.proofs.Common.{rules}
use Rattle.e3_play.proofs.Settling.{recovery_full, recovery_settles}
use Rattle.e3_play.specs.Delivered.{IsFullBefore, IsPacketOrRound}
use Rattle.e3_play.proofs.alone.recovery.Goals as goal

pub returns-clause-settles : goal.returns-clause-settles
returns-clause-settles g c =
    let S = g.S.Sites in
    let start = c.args.sites.now in
    recovery_settles (S.scenario start) (S.entries start) (S.entries c.recover.new.sites) c.args.group c.requires.fresh c.in_ok-_reports.ensures.recovered

pub returns-in_err-_reports-clause-full : goal.returns-in_err-_reports-clause-full
returns-in_err-_reports-clause-full g c = λ is.
    let S = g.S.Sites in
    let start = c.args.sites.now in
    let h = S.entries c.recover.new.sites in
    let full : IsFullBefore IsPacketOrRound (S.scenario start) h (S.most start) = search rules in
    recovery_full (S.scenario start) (S.entries start) h c.args.group (S.most start) c.requires.fresh c.recover.ensures.grown full
