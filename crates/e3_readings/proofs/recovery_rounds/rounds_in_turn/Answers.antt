use Rattle.std.proofs.Common.{ℕ, List, ◌≡◌, ◌∙◌, true, sym, subst}
use Rattle.e3_types.specs.Sets.{has_site, is_set}
use Rattle.e3_world.proofs.Ascents.{ascends_filter}
use Rattle.e3_readings.proofs.recovery_rounds.rounds_in_turn.Goals as goal

pub add_round-requires : goal.add_round-requires
add_round-requires c =
    subst (λ (l : List ℕ). is_set l ≡ true) (sym (c.as_slice.ensures ∙ c.in_ok-members.ensures)) (ascends_filter (has_site c.t-item.result.sites) 0 c.args.up.now c.requires)
