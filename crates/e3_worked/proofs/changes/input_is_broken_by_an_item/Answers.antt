use Rattle.e3_worked.proofs.changes.input_is_broken_by_an_item.Goals as goal
use Rattle.std.specs.Prelude.{refl}
use Rattle.e3_types.specs.Sites.{bits_of}

pub returns-clause-item_without_its_line : goal.returns-clause-item_without_its_line
unfolding bits_of
returns-clause-item_without_its_line c = refl

pub returns-clause-item_twice : goal.returns-clause-item_twice
unfolding bits_of
returns-clause-item_twice c = refl

pub returns-clause-item_of_another_site : goal.returns-clause-item_of_another_site
unfolding bits_of
returns-clause-item_of_another_site c = refl

pub returns-clause-item_of_another_kind : goal.returns-clause-item_of_another_kind
unfolding bits_of
returns-clause-item_of_another_kind c = refl

pub returns-clause-item_with_another_value : goal.returns-clause-item_with_another_value
unfolding bits_of
returns-clause-item_with_another_value c = refl

pub returns-clause-item_of_another_transaction : goal.returns-clause-item_of_another_transaction
unfolding bits_of
returns-clause-item_of_another_transaction c = refl

pub returns-clause-begin_for_other_sites : goal.returns-clause-begin_for_other_sites
unfolding bits_of
returns-clause-begin_for_other_sites c = refl

pub returns-clause-item_behind_a_delivery : goal.returns-clause-item_behind_a_delivery
unfolding bits_of
returns-clause-item_behind_a_delivery c = refl
