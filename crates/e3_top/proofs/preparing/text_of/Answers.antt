use Rattle.e3_top.proofs.Runs.{told_text}
use Rattle.e3_top.proofs.preparing.text_of.Goals as goal

pub returns-in-Ok-clause-due : goal.returns-in-Ok-clause-due
returns-in-Ok-clause-due c =
    told_text c.args.scenario.now c.args.most c.args.history.now.entries _ c.made.result c.tell.result (rw c.in-Ok.is at c.requires.whole) c.tell.ensures c.made.ensures.due
