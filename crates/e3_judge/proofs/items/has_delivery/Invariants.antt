use Rattle.std.proofs.Common.{◌≡◌, take}
use Rattle.std.specs.List.{list_any, flat_map}
use Rattle.e3_world.specs.Items.{inputs_of, is_delivery}
use Rattle.e3_world.specs.Moves.{own_entries}
use Rattle.e3_judge.proofs.items.has_delivery.Given as goal

abbrev pub invariant-loop-e : goal.invariant-loop-e
invariant-loop-e l = l.has ≡ list_any is_delivery (flat_map (λ e. inputs_of e.act) (own_entries l.site (take l.e-index l.e-items)))
