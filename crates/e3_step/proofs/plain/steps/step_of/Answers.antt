use Rattle.std.proofs.Common.{ap, subst, sym, ℕ, ◌∙◌, ◌<◌, length}
use Rattle.e3_world.specs.declared.lives.At.{At}
use Rattle.e3_readings.proofs.Counting.{life_steps}
use Rattle.e3_step.proofs.plain.steps.step_of.Goals as goal

pub new-requires : goal.new-requires
new-requires c =
    subst (λ (n : ℕ). n < 4294967295)
    (sym (ap (λ (a : At). length a.life.steps) c.in_ok-place.ensures ∙ life_steps (record { rose = c.args.rose.now; since = c.args.since.now })))
    c.requires
