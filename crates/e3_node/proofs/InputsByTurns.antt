-- What is told of an input of a worker.
use Rattle.std.proofs.Common.{◌≡◌, ◌∙◌, ℕ, true, false, List, Err, refl, sym, subst, ap}
use Rattle.std.specs.Prelude.{IsErrAnd, Ok, OnErr, Result}
use Rattle.e3_disk.specs.Meaning.{Meaning}
use Rattle.e3_node.specs.Ends.{FellOver, is_fall}
use Rattle.e3_node.specs.NodeStands.{IsFallen, IsIn, logged_in}
use Rattle.e3_node.specs.NodeView.{disk_of}
use Rattle.e3_node.specs.Turns.{EndsSo, IsRefusal, IsStill, Meanwhile}
use Rattle.e3_node.specs.declared.fault.InputFault.{InputFault}
use Rattle.e3_node.specs.declared.fault.InputFault.TheVariants as input_fault
use Rattle.e3_node.specs.declared.state.State.{State}
use Rattle.e3_node.specs.declared.state.State.TheVariants.{Down}
use Rattle.e3_types.specs.declared.entries.Entry.{Entry}
use Rattle.e3_types.specs.declared.entries.Input.{Input}
use Rattle.e3_types.specs.declared.entries.Why.{Why}
use Rattle.e3_types.specs.declared.scenarios.Scenario.{Scenario}
use Rattle.e3_node.proofs.Steps.{fallen_down}

module _ {D : Type 0} (meaning : Meaning D) (sc : Scenario) (before more : List Entry) (site : ℕ) (i : Input)
    (old mid : State D) where
  pub fell_told : (fault : InputFault) → EndsSo meaning sc before more site i old mid (Err fault) → (why : Why) → fault ≡ input_fault.Fell why →
      (now : List Entry) × Meanwhile site before now × FellOver sc now site i why more
  fell_told (input_fault.Fell because) ended why is =
      let same : because ≡ why = cc in
      (ended.now, ended.meanwhile, subst (λ (w : Why). FellOver sc ended.now site i w more) same ended.fell)
  fell_told input_fault.Down ended why is = absurd cc
  fell_told input_fault.HistoryFull ended why is = absurd cc
  fell_told input_fault.NoMemory ended why is = absurd cc

  pub kept_told : (fault : InputFault) → EndsSo meaning sc before more site i old mid (Err fault) → is_fall fault ≡ false →
      Meanwhile site before more × (disk_of mid ≡ disk_of old)
  kept_told (input_fault.Fell because) ended none = absurd cc
  kept_told input_fault.Down ended none = (ended.meanwhile, ended.disk)
  kept_told input_fault.HistoryFull ended none = (ended.meanwhile, ended.disk)
  kept_told input_fault.NoMemory ended none = (ended.meanwhile, ended.disk)

  -- what the node is behind it: it fell, or it is as before
  pub in_told : (fault : InputFault) (new : State D) → EndsSo meaning sc before more site i old mid (Err fault) →
      (is_fall fault ≡ true → new ≡ Down (disk_of mid) (logged_in mid)) → (is_fall fault ≡ false → new ≡ mid) → IsIn meaning sc more site new
  in_told (input_fault.Fell why) new ended down same =
      let P : List Entry → Type 0 = λ l. IsFallen meaning sc l site mid in
      subst (λ (s : State _). IsIn meaning sc more site s) (sym (down refl))
      (subst (λ (l : List Entry). IsIn meaning sc l site (Down (disk_of mid) (logged_in mid))) (sym ended.fell.entered)
      (fallen_down meaning sc ended.now site i why (disk_of mid) (logged_in mid) (subst P ended.fell.entered ended.stands)))
  in_told input_fault.Down new ended down same = subst (λ (s : State _). IsIn meaning sc more site s) (sym (same refl)) ended.stands
  in_told input_fault.HistoryFull new ended down same = subst (λ (s : State _). IsIn meaning sc more site s) (sym (same refl)) ended.stands
  in_told input_fault.NoMemory new ended down same = subst (λ (s : State _). IsIn meaning sc more site s) (sym (same refl)) ended.stands

  -- the disk is that of the node
  pub disk_told : (fault : InputFault) (new : State D) → (is_fall fault ≡ true → new ≡ Down (disk_of mid) (logged_in mid)) → (is_fall fault ≡ false → new ≡ mid) → disk_of new ≡ disk_of mid
  disk_told (input_fault.Fell why) new down same = ap disk_of (down refl)
  disk_told input_fault.Down new down same = ap disk_of (same refl)
  disk_told input_fault.HistoryFull new down same = ap disk_of (same refl)
  disk_told input_fault.NoMemory new down same = ap disk_of (same refl)

  -- a place that was refused
  pub no_room : (f : InputFault) → IsRefusal f → (r : Result (Unit {0}) InputFault) → IsErrAnd r (λ fault. fault ≡ f) →
      IsStill meaning sc before more site old mid → EndsSo meaning sc before more site i old mid r
  no_room f refusal (Ok done) is still = absurd is
  no_room input_fault.HistoryFull refusal (Err fault) is still =
      let P : InputFault → Type 0 = λ f. EndsSo meaning sc before more site i old mid (Err f) in subst P (sym is) still
  no_room input_fault.NoMemory refusal (Err fault) is still =
      let P : InputFault → Type 0 = λ f. EndsSo meaning sc before more site i old mid (Err f) in subst P (sym is) still
  no_room input_fault.Down refusal (Err fault) is still = absurd refusal
  no_room (input_fault.Fell why) refusal (Err fault) is still = absurd refusal

-- an error that is what refused a place is one of those
pub refuses : (f : InputFault) (r : Result (Unit {0}) InputFault) → IsRefusal f → IsErrAnd r (λ fault. fault ≡ f) → (told : InputFault) → r ≡ Err told → IsRefusal told
refuses f (Ok done) refusal is told same = absurd is
refuses f (Err fault) refusal is told same =
    let one : fault ≡ told = cc in subst IsRefusal (sym is ∙ one) refusal

-- what holds anyway holds with an error
pub with_error : {X E P : Type 0} (r : Result X E) → P → OnErr r P
with_error (Ok done) holds = tt
with_error (Err fault) holds = holds
