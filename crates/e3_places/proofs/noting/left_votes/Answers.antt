use Rattle.std.proofs.Common.{◌∷◌, [], ap, filter, rules, ◌∙◌}
use Rattle.std.proofs.lemmas.Fn.{filter_same}
use Rattle.e3_places.specs.Standing.{is_left}
use Rattle.e3_places.proofs.noting.left_votes.Goals as goal

pub returns : goal.returns
returns c = c.from_vec.ensures ∙ filter_same _ _ _ (λ x b f' k. search rules) _ _ c.retain.ensures.filtered ∙ ap (filter (is_left (c.args.r.now ∷ []))) c.into_vec-votes.ensures
