use Rattle.std.proofs.Common.{◌≡◌, drop}
use Rattle.std.specs.Prelude.{find}
use Rattle.e3_world.specs.Items.{is_up_at}
use Rattle.e3_judge.proofs.rounds.first_up.Given as goal

abbrev pub invariant-loop-r : goal.invariant-loop-r
invariant-loop-r l = find (λ r. is_up_at l.history r.elector) (drop l.r-index l.rounds) ≡ find (λ r. is_up_at l.history r.elector) l.rounds
