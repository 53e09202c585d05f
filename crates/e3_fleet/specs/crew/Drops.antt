-- What the driver drops between rounds.
use Rattle.std.specs.Prelude.{◌≡◌, ◌≤◌, ◌++◌, ◌∷◌, [], ℕ, List, Some}
use Rattle.e3_types.specs.declared.entries.Act.TheVariants.{Drop}
use Rattle.e3_types.specs.declared.messages.Packet.{Packet}
use Rattle.e3_wire.specs.declared.marks.Mark.{Mark}
use Rattle.e3_wire.specs.declared.marks.Mark.TheVariants as mark
use Rattle.e3_wire.specs.Marks.{entries_of, most_of, scenario_of, used_of}
use Rattle.e3_world.specs.Legal.{first_pending}

-- these marks are drops of packets, entered by the driver
abbrev pub AreDrops : List Mark → Type 0
AreDrops [] = Unit {0}
AreDrops (mark.Entered e ∷ more) = ((number : ℕ) × (e ≡ record { owner = 0; act = Drop number })) × AreDrops more
AreDrops (m ∷ more) = ⊥

-- packets were dropped, and nothing else was done
pub record HasDropped (before now : List Mark) : Type 0 where
  pub drops : List Mark
  pub are : AreDrops drops
  pub is : now ≡ before ++ drops

-- There is no room for one more entry, though a packet is pending.
pub record DropHadNoRoom (marks : List Mark) : Type 0 where
  pub full : most_of marks ≤ used_of marks
  pub packet : Packet
  pub first : first_pending (scenario_of marks) (entries_of marks) ≡ Some packet
