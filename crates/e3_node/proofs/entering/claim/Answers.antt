use Rattle.std.proofs.Common.{◌≡◌, ◌≤◌, ℕ, Err, subst}
use Rattle.std.specs.Prelude.{◌↔◌}
use Rattle.e3_wire.specs.Marks.{most_of}
use Rattle.e3_wire.specs.declared.fault.WireFault.TheVariants.{HistoryFull}
use Rattle.e3_node.proofs.Sharing.{claim_told, used_is}
use Rattle.e3_node.proofs.entering.claim.Goals as goal

pub returns-clause-claimed : goal.returns-clause-claimed
returns-clause-claimed c = claim_told c.args.shared.now c.claim.new.self c.args.owner c.args.outs c.claim.result c.requires.shared c.requires.exists c.claim.ensures.ok

pub returns-clause-full : goal.returns-clause-full
returns-clause-full c =
    subst (λ (n : ℕ). (c.claim.result ≡ Err HistoryFull) ↔ (most_of c.args.shared.now ≤ n)) (used_is c.args.shared.now c.requires.shared) c.claim.ensures.full
