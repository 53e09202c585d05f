-- the bytes for the inputs so far
use Rattle.std.proofs.Common.{◌≡◌, ◌+◌, fold, take}
use Rattle.e3_node.specs.site_log.Bodies.{counted}
use Rattle.e3_node.specs.Briefing.{spare_of}
use Rattle.e3_node.proofs.briefing.spare_for.Given as goal

abbrev pub invariant-loop-input : goal.invariant-loop-input
invariant-loop-input l = l.spare ≡ fold (λ n i. counted (n + spare_of l.site i)) 0 (take l.input-index l.inputs)
