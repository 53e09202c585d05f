use Rattle.std.proofs.Common.{◌≡◌, take, fold}
use Rattle.e3_world.specs.Moves.{own_entries}
use Rattle.e3_judge.specs.Standing.{standing_by}
use Rattle.e3_judge.proofs.prefix.Prefix.stand_by_all.Given as goal

abbrev pub invariant-loop-e : goal.invariant-loop-e
invariant-loop-e l = l.standing ≡ fold (λ was e. standing_by l.self.scenario.now l.site was e.act) l.initial.standing (own_entries l.site (take l.e-index l.e-items))
