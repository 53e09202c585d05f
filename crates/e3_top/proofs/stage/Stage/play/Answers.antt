use Rattle.e3_top.proofs.Runs.{run_of}
use Rattle.e3_top.proofs.stage.Stage.play.Goals as goal

pub returns-clause-history : goal.returns-clause-history
returns-clause-history g c =
    run_of g.D.Disk.meaning c.args.disks.items c.play_over.result.disks.items c.one_order.ensures c.rounds_end.ensures c.commits_end.ensures c.args.scenario.now c.args.self.now.most
    c.play_over.result.history.entries c.args.self.now.few c.requires.given c.play_over.ensures.legal c.play_over.ensures.within c.play_over.ensures.disks
