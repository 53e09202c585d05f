use Rattle.e3_node.proofs.Sharing.{has_entered}
use Rattle.e3_node.proofs.entering.enter.Goals as goal

pub returns : goal.returns
returns c = λ before outs claim. has_entered before c.args.shared.now c.enter.new.self outs c.args.entry claim c.requires.all c.enter.ensures c.tell.ensures
