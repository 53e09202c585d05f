-- The records of a step may follow the log, also those of a step so far.
use Rattle.std.proofs.Common.{◌≡◌, ◌∙◌, ℕ, true, List, ap, sym}
use Rattle.std.proofs.lemmas.Bool.{and_parts}
use Rattle.std.proofs.lemmas.List.Folds.{list_all-append}
use Rattle.e3_types.specs.declared.entries.Input.{Input}
use Rattle.e3_types.specs.declared.records.Record.{Record}
use Rattle.e3_world.specs.declared.lives.At.{At}
use Rattle.e3_world.specs.declared.lives.Incarnation.{Incarnation}
use Rattle.e3_world.specs.declared.lives.Made.{Made}
use Rattle.e3_world.specs.Lives.{life_of}
use Rattle.e3_world.specs.Moves.{unnumbered_input}
use Rattle.e3_world.specs.Steps.{step_at, step_of}
use Rattle.e3_site.proofs.past.MayFollow.{steps_may_follow}
use Rattle.e3_places.specs.Standing.{follow, may_follow}
use Rattle.e3_step.specs.SoFar.{IsFrontOf, IsSoFar}

-- where all records may follow a log, the first of them may
front_follows : (log xs ys : List Record) → IsFrontOf xs ys → follow log ys ≡ true → follow log xs ≡ true
front_follows log xs ys front all =
    (and_parts (follow log xs) (follow log front.rest) (sym (list_all-append (may_follow log) xs front.rest) ∙ ap (follow log) (sym front.all) ∙ all)).0

pub so_far_follows : (a : At) (made : Made) → IsSoFar a made → follow a.life.log made.records ≡ true
unfolding IsSoFar
so_far_follows a made front = front_follows a.life.log made.records (step_at a).records front (steps_may_follow a)

pub step_follows : (weights : List ℕ) (site : ℕ) (now : Incarnation) (i : Input) → follow (life_of now).log (step_of weights site now i).records ≡ true
step_follows weights site now i = steps_may_follow (record { weights = weights; site = site; life = life_of now; input = unnumbered_input i })
