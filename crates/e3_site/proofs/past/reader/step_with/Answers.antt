use Rattle.std.proofs.Common.{ℕ, refl, subst, sym, arith}
use Rattle.e3_world.specs.Lives.{life_of}
use Rattle.e3_readings.proofs.Counting.{life_steps}
use Rattle.e3_site.specs.past.Knowing.{NamesStand}
use Rattle.e3_site.proofs.past.Recalled.{few_packets, own_stands, step_is}
use Rattle.e3_site.proofs.past.reader.step_with.Goals as goal

pub step_at_place-requires : goal.step_at_place-requires
step_at_place-requires g c = record {
  weights_are = refl;
  input_is = refl;
  few = (let few = c.requires.1 in let same = life_steps g.now in omega (arith, few, same));
  cards_stand = own_stands c.args._site c.args.tables.now.cards (life_of g.now) c.requires.0.cards_stand;
  names_stand = subst (λ (s : ℕ). NamesStand s c.args.tables.now.names (life_of g.now)) (sym c.requires.0.cards_stand.site_is) c.requires.0.names_stand;
}

pub returns-clause-made : goal.returns-clause-made
returns-clause-made g c =
    step_is c.args.weights.now c.args._site c.args.tables.now.cards.site g.now c.args.input.now c.unnumbered_input.result c.step_at_place.result
    c.requires.0.cards_stand.site_is c.unnumbered_input.ensures c.step_at_place.ensures.made

pub returns-clause-few : goal.returns-clause-few
returns-clause-few g c = few_packets g.now c.step_at_place.result c.requires.1 c.step_at_place.ensures.few
