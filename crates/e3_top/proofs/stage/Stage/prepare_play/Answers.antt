use Rattle.std.proofs.Common.{inr}
use Rattle.e3_top.proofs.Runs.{asked_plays, played_due}
use Rattle.e3_top.proofs.Statuses.{played_may}
use Rattle.e3_top.proofs.stage.Stage.prepare_play.Goals as goal

pub returns : goal.returns
returns g c = record {
  outcome =
      played_due g.D.Disk.meaning c.args.disks.items c.play-ended.result.disks.items c.args.self.now.words.now c.args.bytes.now c.args.telling c.args.scenario.now
      c.args.self.now.most c.play-ended.result.history.entries c.text_of.result c.requires.asked c.play-ended.ensures.history c.text_of.ensures.due;
  status = played_may c.args.self.now.words.now c.args.bytes.now c.args.telling c.args.scenario.now c.args.self.now.most c.play-ended.result.history.entries _ c.text_of.result c.requires.asked c.text_of.ensures.due;
  only_memory = c.text_of.ensures.only_memory;
  cut_short = λ e. inr (record {
    scenario = c.args.scenario.now;
    plays = asked_plays c.args.self.now.words.now c.args.bytes.now c.args.telling c.args.scenario.now c.requires.asked;
    safe = c.play-ended.ensures.history;
  });
}
