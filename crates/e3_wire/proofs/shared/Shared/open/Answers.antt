use Rattle.std.proofs.Common.{◌+◌, ℕ, replicate, ◌∙◌, ap, arith}
use Rattle.e3_wire.specs.Marks.{nothing}
use Rattle.e3_wire.proofs.Claiming.{opened}
use Rattle.e3_wire.proofs.shared.Shared.open.Goals as goal

pub invariant_of-result : goal.invariant_of-result
invariant_of-result c =
    rw (c.new.ensures.entries, c.new.ensures.marks, c.new.ensures.spare, c.in_ok-net.ensures)
    (opened c.args.scenario c.args.most _ _ _ _ c.requires.given (omega (arith, c.ranges.most.fits)) (c.in_ok-notes.ensures ∙ ap (λ (n : ℕ). replicate (n + 1) nothing) c.len-sites.ensures))
