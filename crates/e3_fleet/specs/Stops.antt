-- What the stops of a scenario ask of the disk of a site, and what a site takes of an arm.
use Rattle.std.specs.Prelude.{◌≡◌, ◌+◌, ◌*◌, ◌≤◌, ◌<◌, ◌==◌, ◌&&◌, ◌||◌, ◌++◌, ◌∷◌, [], if◌then◌else◌, ℕ, Bool, true, false, List, count_by}
use Rattle.std.specs.List.{flat_map, sum_by}
use Rattle.e3_disk.specs.Leaves.{code_of}
use Rattle.e3_types.specs.declared.entries.Act.{Act}
use Rattle.e3_types.specs.declared.entries.Act.TheVariants.{Step, Fall, Rise, RiseFall, Miss, Cut, Line}
use Rattle.e3_types.specs.declared.entries.Entry.{Entry}
use Rattle.e3_types.specs.declared.scenarios.Item.{Item}
use Rattle.e3_types.specs.declared.scenarios.Item.TheVariants as item
use Rattle.e3_types.specs.declared.scenarios.Leave.{Leave}
use Rattle.e3_types.specs.declared.scenarios.Scenario.{Scenario}
use Rattle.e3_world.specs.Moves.{own_entries}
use Rattle.e3_world.specs.Packets.{step_items}

-- an arm of a disk: at which of its calls it stops, and what that leaves
pub record Arm : Type 0 where
  pub calls : ℕ
  pub leave : Leave

-- the arm that a step asks for at a site: one where it is a stop of the site, else none
abbrev pub arm_in : ℕ → List Item → List Arm
arm_in site (item.Stop s count leave ∷ items) = if s == site then record { calls = count; leave = leave } ∷ [] else []
arm_in site items = []

-- the arm that an entry asks for at a site: that of the step whose line it is
abbrev pub arm_by : Scenario → ℕ → Entry → List Arm
arm_by sc site e = by e.act
  where
    by : Act → List Arm
    by (Line number) = arm_in site (step_items sc number)
    by _ = []

-- the arms that a history asks for at a site, one after the other
abbrev pub arms_of : Scenario → List Entry → ℕ → List Arm
arms_of sc history site = flat_map (arm_by sc site) history

-- the calls of arms, added up
abbrev pub calls_in : List Arm → ℕ
calls_in arms = sum_by (λ a. a.calls) arms

-- the codes of their leaves, added up
abbrev pub codes_in : List Arm → ℕ
codes_in arms = sum_by (λ a. code_of a.leave) arms

-- the power of a site is cut
abbrev pub is_cut : Entry → Bool
is_cut e = by e.act
  where
    by : Act → Bool
    by Cut = true
    by _ = false

-- how often the power of a site was cut
abbrev pub cuts_at : List Entry → ℕ → ℕ
cuts_at history site = count_by is_cut (own_entries site history)

-- the site goes down by the act, or does not come up
abbrev pub is_end : Act → Bool
is_end (Fall inputs records why) = true
is_end (RiseFall kept inc why) = true
is_end Miss = true
is_end Cut = true
is_end _ = false

-- what an act of a site takes of its arm at least, where it has a frame of its own: four calls for a step that records
-- something, five for a rise; the steps of a batch take those of one frame together
abbrev pub calls_of : Act → ℕ
calls_of (Step i [] outs events) = 0
calls_of (Step i (r ∷ rs) outs events) = 4
calls_of (Rise kept inc) = 5
calls_of _ = 0

-- there is one
abbrev pub is_some : List Arm → Bool
is_some [] = false
is_some (arm ∷ arms) = true

-- the entry ends what is told of a site's arm: the site goes down by it, or its disk is armed anew
abbrev pub ends_arm : Scenario → ℕ → Entry → Bool
ends_arm sc site e = ((e.owner == site) && is_end e.act) || is_some (arm_by sc site e)

-- what an entry takes of a site's arm
abbrev pub takes_of : ℕ → Entry → ℕ
takes_of site e = if e.owner == site then calls_of e.act else 0

-- a step that records something, and a rise
abbrev pub steps_of : Act → ℕ
steps_of (Step i (r ∷ rs) outs events) = 1
steps_of _ = 0

abbrev pub rises_of : Act → ℕ
rises_of (Rise kept inc) = 1
rises_of _ = 0

-- how many such an entry of a site is
abbrev pub part_of : (Act → ℕ) → ℕ → Entry → ℕ
part_of f site e = if e.owner == site then f e.act else 0

-- how many such these entries have, up to the first that ends the site's arm
abbrev pub counted_by : (Act → ℕ) → Scenario → ℕ → List Entry → ℕ
counted_by f sc site [] = 0
counted_by f sc site (e ∷ more) = if ends_arm sc site e then 0 else part_of f site e + counted_by f sc site more

-- So many calls pay for these entries of a site, at least: four for each frame, which holds eight steps at most that record
-- something, and five for each rise. In the frames there may be room for so many steps more.
abbrev pub PayFor : ℕ → Scenario → ℕ → List Entry → ℕ → Type 0
PayFor spare sc site entries calls = (frames : ℕ) × (counted_by steps_of sc site entries + spare ≤ 8 * frames)
    × (4 * frames + 5 * counted_by rises_of sc site entries ≤ calls)

-- one of these entries ends it
abbrev pub is_over : Scenario → ℕ → List Entry → Bool
is_over sc site [] = false
is_over sc site (e ∷ more) = ends_arm sc site e || is_over sc site more

-- No stop of the site is passed over: what its entries behind the line of a stop take of the arm, four calls for each eight
-- steps that record something, a begun eight counted as a whole one, and five for each rise, is less than the calls of that
-- arm. At the call of that number it would have stopped.
abbrev pub NoStopIsPassed : Scenario → List Entry → ℕ → Type 0
NoStopIsPassed sc history site = (before after : List Entry) (e : Entry) (arm : Arm) → history ≡ before ++ e ∷ after →
    arm_by sc site e ≡ arm ∷ [] → (calls : ℕ) × PayFor 0 sc site after calls × (calls < arm.calls)
