use Rattle.std.proofs.Common.{◌≡◌, ◌||◌, not, length, nat_le}
use Rattle.std.specs.List.{list_all}
use Rattle.e3_world.specs.Items.{inputs_at, is_up_at, turn_of}
use Rattle.e3_world.specs.Packets.{sites_to}
use Rattle.e3_judge.proofs.prefix.Prefix.items_through.Given as goal

abbrev pub invariant-loop-s : goal.invariant-loop-s
invariant-loop-s l = l.through
    ≡ list_all (λ s. not (is_up_at l.self.entries.now s) || nat_le (length (inputs_at l.self.scenario.now l.self.entries.now s)) (turn_of l.self.entries.now s)) (sites_to l.s)
