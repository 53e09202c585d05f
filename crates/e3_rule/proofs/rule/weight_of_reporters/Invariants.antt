-- the weight of the reporters so far, up to the greatest number
use Rattle.std.proofs.Common.{◌≡◌, min, map, take}
use Rattle.e3_types.specs.Quorums.{weight_of}
use Rattle.e3_rule.proofs.rule.weight_of_reporters.Given as goal

abbrev pub invariant-loop-report : goal.invariant-loop-report
invariant-loop-report l =
    l.sum ≡ min (weight_of l.weights (map (λ r. r.site) (take l.report-index l.reports))) 18446744073709551615
