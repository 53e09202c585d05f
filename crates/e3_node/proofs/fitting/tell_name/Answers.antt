use Rattle.std.proofs.Common.{◌∙◌, subst}
use Rattle.e3_types.specs.Text.{IsName}
use Rattle.e3_node.proofs.fitting.tell_name.Goals as goal

pub returns : goal.returns
returns c =
    let inside = c.copy-name.type_inv.1.0.1 in
    subst IsName (inside.0 ∙ c.copy-name.ensures) inside.1.1
