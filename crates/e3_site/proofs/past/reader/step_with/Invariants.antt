use Rattle.e3_world.specs.Lives.{life_of}
use Rattle.e3_site.proofs.past.reader.step_with.Given as goal

abbrev pub ghosts-step_at_place : goal.ghosts-step_at_place
ghosts-step_at_place g a =
    record { place = record { weights = a.weights.now; site = a.cards.now.site; life = life_of g.now; input = a.input.now } }
