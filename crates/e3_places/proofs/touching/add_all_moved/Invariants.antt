use Rattle.std.proofs.Common.{◌≡◌, ◌++◌, take, map, filter}
use Rattle.e3_places.specs.Touching.{name_of, is_moved}
use Rattle.e3_places.proofs.touching.add_all_moved.Given as goal

abbrev pub invariant-loop-s : goal.invariant-loop-s
invariant-loop-s l = l.out ≡ l.initial.out ++ map (λ s. name_of s.asked) (filter (is_moved l.doings.records.now l.doings.events.now l.doings.outs.now) (take l.s-index l.standing))
