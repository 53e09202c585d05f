use Rattle.std.proofs.Common.{◌∙◌, ℕ, length, ap, arith}
use Rattle.std.proofs.lemmas.List.{length-take}
use Rattle.e3_node.proofs.fitting.tell_val.Goals as goal

pub returns : goal.returns
returns c =
    let inside = c.copy-val.type_inv.1.0.1 in
    let long = ap length (inside.0 ∙ c.copy-val.ensures) in
    omega (arith, long, inside.1, length-take {A = ℕ})
