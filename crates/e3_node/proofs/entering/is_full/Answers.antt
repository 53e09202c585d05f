use Rattle.std.proofs.Common.{ap, ◌∙◌}
use Rattle.std.specs.Prelude.{nat_le}
use Rattle.e3_wire.specs.Marks.{most_of}
use Rattle.e3_node.proofs.Sharing.{used_is}
use Rattle.e3_node.proofs.entering.is_full.Goals as goal

pub returns : goal.returns
returns c = c.is_full.ensures ∙ ap (nat_le (most_of c.args.shared.now)) (used_is c.args.shared.now c.requires)
