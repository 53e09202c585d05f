-- What is told of a batch, and how its site stands behind it.
use Rattle.std.proofs.Common.{◌≡◌, inl, inr, ℕ, false, List, take, refl, sym, subst, ap, ◌∙◌}
use Rattle.std.specs.Prelude.{None, Option, Result, Some, Ok, Err}
use Rattle.e3_disk.specs.Meaning.{Meaning}
use Rattle.e3_disk.specs.Meters.{Keeps}
use Rattle.e3_node.specs.Batched.{OnlyForMemory}
use Rattle.e3_node.specs.Batches.{BatchEnded, HasFallenOverAll, HasSteppedAll, OneFrameTakes, fall_over}
use Rattle.e3_node.specs.Ending.{Came, EndsWith, answer_by}
use Rattle.e3_node.specs.NodeStands.{IsDown, IsIn, logged_in}
use Rattle.e3_node.specs.NodeView.{disk_of}
use Rattle.e3_node.specs.declared.fault.InputFault.{InputFault}
use Rattle.e3_node.specs.declared.fault.InputFault.TheVariants as input_fault
use Rattle.e3_node.specs.declared.state.State.{State}
use Rattle.e3_node.specs.declared.state.State.TheVariants.{Down}
use Rattle.e3_types.specs.declared.entries.Entry.{Entry}
use Rattle.e3_types.specs.declared.entries.Input.{Input}
use Rattle.e3_types.specs.declared.entries.Why.{Why}
use Rattle.e3_types.specs.declared.scenarios.Scenario.{Scenario}
use Rattle.e3_world.specs.Items.{is_up_at}
use Rattle.e3_world.proofs.Readings.{up_same}
use Rattle.e3_world.proofs.Turns.{self}

-- a refusal of an input is no answer of a site that was down
pub never_down : (r : Result ℕ InputFault) → OnlyForMemory r → r ≡ Err input_fault.Down → ⊥
never_down (Ok done) never is = absurd cc
never_down (Err input_fault.NoMemory) never is = absurd cc
never_down (Err input_fault.HistoryFull) never is = never
never_down (Err input_fault.Down) never is = never
never_down (Err (input_fault.Fell why)) never is = never

-- what is answered is what was refused
pub refused_down : (r : Result ℕ InputFault) (fell : Option Why) → answer_by r fell ≡ Err input_fault.Down → r ≡ Err input_fault.Down
refused_down (Ok done) None is = absurd cc
refused_down (Ok done) (Some why) is = absurd cc
refused_down (Err fault) fell is = is

module _ {D : Type 0} (meaning : Meaning D) (sc : Scenario) (before more : List Entry) (site : ℕ) (inputs : List Input)
    (old : State D) where
  -- with its steps, or a fall over them
  steps_told : (mid new : State D) (done : List Input) → Came meaning sc before more site done old mid None → new ≡ mid →
      HasSteppedAll meaning.meters sc before more site done old new
  steps_told mid new done came same = subst (λ (s : State D). HasSteppedAll meaning.meters sc before more site done old s) (sym same) came.0

  fall_told : (mid new : State D) (done : List Input) (why : Why) → Came meaning sc before more site done old mid (Some why) → new ≡ Down (disk_of mid) (logged_in mid) →
      HasFallenOverAll meaning.meters sc before more site done why old (disk_of new)
  fall_told mid new done why came down =
      let same : disk_of new ≡ disk_of mid = ap (λ (s : State D). disk_of s) down in
      subst (λ (d : D). HasFallenOverAll meaning.meters sc before more site done why old d) (sym same) came.0

  pub ended_told : (mid new : State D) (r : Result ℕ InputFault) (fell : Option Why) → OnlyForMemory r →
      EndsWith meaning sc before more site inputs old mid r fell →
      ((why : Why) → fell ≡ Some why → new ≡ Down (disk_of mid) (logged_in mid)) → (fell ≡ None → new ≡ mid) → BatchEnded meaning.meters sc before more site inputs old new (answer_by r fell)
  ended_told mid new (Ok n) None never ends down kept =
      let P : ℕ → Type 0 = λ k. OneFrameTakes meaning.meters old sc before site inputs k × HasSteppedAll meaning.meters sc before more site (take k inputs) old new in
      subst P (sym ends.all.0) (ends.all.1, steps_told mid new (take ends.count inputs) ends.came (kept refl))
  ended_told mid new (Ok n) (Some why) never ends down kept = (ends.count, ends.all.1, fall_told mid new (take ends.count inputs) why ends.came (down why refl))
  ended_told mid new (Err input_fault.Down) fell never ends down kept = absurd never
  ended_told mid new (Err (input_fault.Fell why)) fell never ends down kept = absurd never
  ended_told mid new (Err input_fault.HistoryFull) fell never ends down kept = absurd never
  ended_told mid new (Err input_fault.NoMemory) None never ends down kept = (ends.count, ends.short, inl (steps_told mid new (take ends.count inputs) ends.came (kept refl)))
  ended_told mid new (Err input_fault.NoMemory) (Some why) never ends down kept =
      (ends.count, ends.short, inr (why, fall_told mid new (take ends.count inputs) why ends.came (down why refl)))

  -- and how the site stands
  came_in : (mid new : State D) (done : List Input) (fell : Option Why) → Came meaning sc before more site done old mid fell →
      ((why : Why) → fell ≡ Some why → new ≡ Down (disk_of mid) (logged_in mid)) → (fell ≡ None → new ≡ mid) → IsIn meaning sc more site new
  came_in mid new done None came down kept = subst (λ (s : State D). IsIn meaning sc more site s) (sym (kept refl)) came.1
  came_in mid new done (Some why) came down kept =
      let fallen = came.0 in
      let gone : is_up_at more site ≡ false = ap (λ (l : List Entry). is_up_at l site) fallen.fell.entered ∙ up_same fallen.now (fall_over sc fallen.now site done why) site (self site) in
      let there : IsDown meaning sc more site (disk_of mid) (logged_in mid) = record { down = gone; stands = came.1 } in
      subst (λ (s : State D). IsIn meaning sc more site s) (sym (down why refl)) there

  came_disk : (mid new : State D) (fell : Option Why) → ((why : Why) → fell ≡ Some why → new ≡ Down (disk_of mid) (logged_in mid)) → (fell ≡ None → new ≡ mid) → disk_of new ≡ disk_of mid
  came_disk mid new None down kept = ap (λ (s : State D). disk_of s) (kept refl)
  came_disk mid new (Some why) down kept = ap (λ (s : State D). disk_of s) (down why refl)

  pub record StandsBehind (new : State D) : Type 0 where
    pub stands : IsIn meaning sc more site new
    pub keeps : Keeps (meaning.meters (disk_of old)) (meaning.meters (disk_of new))

  pub ended_up : (mid new : State D) (r : Result ℕ InputFault) (fell : Option Why) → EndsWith meaning sc before more site inputs old mid r fell →
      ((why : Why) → fell ≡ Some why → new ≡ Down (disk_of mid) (logged_in mid)) → (fell ≡ None → new ≡ mid) → StandsBehind new
  ended_up mid new r fell ends down kept = record {
    stands = came_in mid new (take ends.count inputs) fell ends.came down kept;
    keeps = subst (λ (d : D). Keeps (meaning.meters (disk_of old)) (meaning.meters d)) (sym (came_disk mid new fell down kept)) ends.keeps;
  }
