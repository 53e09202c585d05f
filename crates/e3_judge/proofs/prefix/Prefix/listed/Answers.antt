use Rattle.std.proofs.Common.{ℕ, List, ◌≡◌, ◌∙◌, true, sym, subst}
use Rattle.e3_types.specs.Sets.{is_set}
use Rattle.e3_world.specs.Items.{is_up_at}
use Rattle.e3_world.proofs.Ascents.{ascends_filter}
use Rattle.e3_judge.proofs.prefix.Prefix.listed.Goals as goal

-- those of a group that are up are a set
pub rounds_of-requires : goal.rounds_of-requires
rounds_of-requires c =
    subst (λ (l : List ℕ). is_set l ≡ true) (sym (c.as_slice-3.ensures ∙ c.in_ok-up.ensures))
    (ascends_filter (is_up_at c.args.self.now.entries.now) 0 c.args.group c.count-members.ensures.ascending)
