use Rattle.e3_worked.proofs.changes.other_order_is_whole.Goals as goal
use Rattle.std.specs.Prelude.{refl}
use Rattle.e3_types.specs.Sites.{bits_of}

pub returns-clause-items_swapped : goal.returns-clause-items_swapped
unfolding bits_of
returns-clause-items_swapped c = refl

pub returns-clause-deliveries_swapped : goal.returns-clause-deliveries_swapped
unfolding bits_of
returns-clause-deliveries_swapped c = refl

pub returns-clause-drop_behind_a_delivery : goal.returns-clause-drop_behind_a_delivery
unfolding bits_of
returns-clause-drop_behind_a_delivery c = refl

pub returns-clause-fall_for_another_cause : goal.returns-clause-fall_for_another_cause
unfolding bits_of
returns-clause-fall_for_another_cause c = refl
