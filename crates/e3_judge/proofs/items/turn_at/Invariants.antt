use Rattle.std.proofs.Common.{◌≡◌, take, not, count_by}
use Rattle.std.specs.List.{flat_map}
use Rattle.e3_world.specs.Items.{inputs_of, is_delivery}
use Rattle.e3_world.specs.Moves.{own_entries}
use Rattle.e3_judge.proofs.items.turn_at.Given as goal

abbrev pub invariant-loop-e : goal.invariant-loop-e
invariant-loop-e l = l.turn ≡ count_by (λ i. not (is_delivery i)) (flat_map (λ e. inputs_of e.act) (own_entries l.site (take l.e-index l.e-items)))
