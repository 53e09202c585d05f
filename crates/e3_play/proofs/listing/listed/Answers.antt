use Rattle.std.proofs.Common.{ℕ, List, ◌≡◌, ◌∙◌, true, sym, subst}
use Rattle.e3_types.specs.Sets.{is_set}
use Rattle.e3_world.specs.Items.{is_up_at}
use Rattle.e3_world.proofs.Ascents.{ascends_filter}
use Rattle.e3_play.proofs.Listed.{if_ok, listed_parts}
use Rattle.e3_play.proofs.listing.listed.Goals as goal

pub returns : goal.returns
returns g c =
    let S = g.S.Sites in
    let sites = c.args.sites.now in
    if_ok c.rounds_of.result _ _
    (listed_parts (S.scenario sites) (S.entries sites) c.args.group c.as_slice-2.result.now c.as_slice.result.now
    (c.as_slice-2.ensures ∙ c.in_ok-up.ensures) (c.as_slice.ensures ∙ c.in_ok-open.ensures))
    c.rounds_of.ensures

-- those of a group that are up are a set
pub rounds_of-requires : goal.rounds_of-requires
rounds_of-requires g c =
    subst (λ (l : List ℕ). is_set l ≡ true) (sym (c.as_slice-2.ensures ∙ c.in_ok-up.ensures))
    (ascends_filter (is_up_at (g.S.Sites.entries c.args.sites.now)) 0 c.args.group c.count-members.ensures.ascending)
