-- The whole node behind a rise, and what is told of it.
use Rattle.std.proofs.Common.{◌≡◌, ◌≢◌, ◌+◌, ◌++◌, ◌∷◌, [], ◌≤◌, ℕ, false, List, Result, Err, refl, sym, subst, ap, ◌∙◌, append-nil, arith}
use Rattle.std.specs.Prelude.{IfOk}
use Rattle.e3_disk.specs.Meaning.{Meaning}
use Rattle.e3_disk.specs.Meters.{HasFailed}
use Rattle.e3_node.specs.Bodies.{DiskTells, ReadsTold, entries_at}
use Rattle.e3_node.specs.Ends.{HasFailedToRise, HasRisen}
use Rattle.e3_node.specs.NodeStands.{IsDown, IsIn, NodeStands}
use Rattle.e3_node.specs.NodeView.{NodeView, disk_of}
use Rattle.e3_node.specs.Rising.{IsAllowed, IsWish, MayRise, RiseMakes, RiseTakes, entered_by, rise_fall_of, told_of}
use Rattle.e3_node.specs.SharedStands.{SharedStands}
use Rattle.e3_node.specs.declared.fault.RiseFault.{RiseFault}
use Rattle.e3_node.specs.declared.fault.RiseFault.TheVariants as rise_fault
use Rattle.e3_node.specs.declared.readying.Wish.{Wish}
use Rattle.e3_node.specs.declared.rising.Raised.{Raised}
use Rattle.e3_node.specs.declared.rising.Raised.TheVariants.{Risen, Failed, Missed, NoMemory, Foreign}
use Rattle.e3_node.specs.declared.state.State.{State}
use Rattle.e3_node.specs.declared.state.State.TheVariants.{Down, Up}
use Rattle.e3_node.specs.site_log.Ends.{Takes}
use Rattle.e3_types.specs.declared.entries.Act.TheVariants.{Miss}
use Rattle.e3_types.specs.declared.entries.Entry.{Entry}
use Rattle.e3_types.specs.declared.entries.Why.{Why}
use Rattle.e3_types.specs.declared.scenarios.Scenario.{Scenario}
use Rattle.e3_laws.specs.serial.Orderly.{TailsAreOrderly}
use Rattle.e3_wire.specs.Marks.{entries_of, scenario_of}
use Rattle.e3_wire.specs.declared.marks.Mark.{Mark}
use Rattle.e3_world.specs.Items.{is_up_at}
use Rattle.e3_world.specs.Given.{IsGiven}
use Rattle.e3_world.specs.Legal.{IsLegal, IsRising}
use Rattle.e3_world.specs.Moves.{Move, Past, moves_of, open_tail, rows_at}
use Rattle.e3_world.proofs.Readings.{up_same}
use Rattle.e3_world.proofs.Turns.{self}
use Rattle.e3_node.proofs.Left.{told_later}
use Rattle.e3_node.proofs.Told.{kept_exactly}
use Rattle.e3_node.proofs.Pasts.{entries_on, past_on}
use Rattle.e3_node.proofs.Steps.{node_with}

-- what a node that stands takes with it, where it may rise
pub may_rise : {D : Type 0} (meaning : Meaning D) (marks : List Mark) (node : NodeView D)
    (wish : Wish) → SharedStands marks → NodeStands meaning (scenario_of marks) (entries_of marks) node → IsRising (scenario_of marks) (entries_of marks) node.site →
    IsWish node.site node.weights node.rows wish → MayRise (scenario_of marks) (entries_of marks) wish
may_rise meaning marks node wish shared was rising is = record {
  given = shared.played.given;
  legal = shared.played.legal;
  rising = subst (λ (n : ℕ). IsRising (scenario_of marks) (entries_of marks) n) (sym is.site_is) rising;
  some = subst (λ (n : ℕ). 1 ≤ n) (sym is.site_is) was.some;
  weights_are = is.weights_are ∙ was.weights_are;
  rows_are = is.rows_are ∙ was.rows_are ∙ ap (λ (n : ℕ). rows_at n (scenario_of marks).rows) (sym is.site_is);
}

-- what a rise made is allowed
pub allowed_of : {D : Type 0} (meaning : Meaning D) (sc : Scenario) (h : List Entry)
    (site : ℕ) (old : D) (state : State D) (r : Raised) → IsRising sc h site → RiseMakes meaning sc h site old state r →
    IsAllowed sc h site r
allowed_of meaning sc h site old (Up s l rose logged) (Risen kept inc) rising made = made.allowed
allowed_of meaning sc h site old (Up s l rose logged) (Failed kept inc why) rising made = absurd made
allowed_of meaning sc h site old (Up s l rose logged) Missed rising made = absurd made
allowed_of meaning sc h site old (Up s l rose logged) NoMemory rising made = absurd made
allowed_of meaning sc h site old (Up s l rose logged) Foreign rising made = absurd made
allowed_of meaning sc h site old (Down new logged) (Risen kept inc) rising made = absurd made
allowed_of meaning sc h site old (Down new logged) (Failed kept inc why) rising made = made.allowed
allowed_of meaning sc h site old (Down new logged) Missed rising made = rising
allowed_of meaning sc h site old (Down new logged) NoMemory rising made = tt
allowed_of meaning sc h site old (Down new logged) Foreign rising made = absurd made

-- and it never finds a log that is not the site's
pub never_foreign_made : {D : Type 0} (meaning : Meaning D) (sc : Scenario) (h : List Entry)
    (site : ℕ) (old : D) (state : State D) (r : Raised) → RiseMakes meaning sc h site old state r → r ≢ Foreign
never_foreign_made meaning sc h site old (Up s l rose logged) r made = λ is. subst (λ (x : Raised). RiseMakes meaning sc h site old (Up s l rose logged) x) is made
never_foreign_made meaning sc h site old (Down new logged) r made = λ is. subst (λ (x : Raised). RiseMakes meaning sc h site old (Down new logged) x) is made

-- a missed rise leaves the disk as it stands
missed_disk : (sc : Scenario) (h : List Entry) (site capacity logged : ℕ) (image : List ℕ → Type 0) → DiskTells sc h site capacity logged image →
    DiskTells sc (h ++ record { owner = site; act = Miss } ∷ []) site capacity logged image
missed_disk sc h site capacity logged image tells = λ bytes at.
    let e : Entry = record { owner = site; act = Miss } in
    let n : ℕ = entries_at (h ++ e ∷ []) site in
    let more : n ≡ entries_at h site + 1 = entries_on h site e refl in
    let P : Past → Type 0 = λ p. ReadsTold site capacity n logged p.moves p.tail bytes in
    let Q : List Move → Type 0 = λ ms. ReadsTold site capacity n logged ms (open_tail sc h site) bytes in
    subst P (sym (past_on sc h site e refl)) (subst Q (sym (append-nil (moves_of sc h site)))
    (told_later site capacity (entries_at h site) n logged (moves_of sc h site) (open_tail sc h site) bytes (omega (arith, more)) (tells bytes at)))

rise_in : {D : Type 0} (meaning : Meaning D) (sc : Scenario) (h : List Entry)
    (site : ℕ) (old : D) (state : State D) (r : Raised) → is_up_at h site ≡ false → RiseMakes meaning sc h site old state r →
    IsIn meaning sc (h ++ entered_by site r) site state
rise_in meaning sc h site old (Up s l rose logged) (Risen kept inc) down made = made.up
rise_in meaning sc h site old (Up s l rose logged) (Failed kept inc why) down made = absurd made
rise_in meaning sc h site old (Up s l rose logged) Missed down made = absurd made
rise_in meaning sc h site old (Up s l rose logged) NoMemory down made = absurd made
rise_in meaning sc h site old (Up s l rose logged) Foreign down made = absurd made
rise_in meaning sc h site old (Down new logged) (Risen kept inc) down made = absurd made
rise_in meaning sc h site old (Down new logged) (Failed kept inc why) down made = record {
  down = up_same h (rise_fall_of site kept inc why) site (self site);
  stands = made.stands;
}
rise_in meaning sc h site old (Down new logged) Missed down made = record {
  down = up_same h (record { owner = site; act = Miss }) site (self site);
  stands = missed_disk sc h site (meaning.meters new).capacity logged (meaning.image new) made.0;
}
rise_in meaning sc h site old (Down new logged) NoMemory down made =
    subst (λ (l : List Entry). IsDown meaning sc l site new logged) (sym (append-nil h)) (record { down = down; stands = made })
rise_in meaning sc h site old (Down new logged) Foreign down made = absurd made

-- so the whole node stands for the history with what comes of its rise
pub node_risen : {D : Type 0} (meaning : Meaning D) (sc now : Scenario) (h more : List Entry)
    (old new : NodeView D) (state : State D) (r : Raised) → NodeStands meaning sc h old → is_up_at h old.site ≡ false →
    RiseMakes meaning sc h old.site (disk_of old.state) state r → now ≡ sc → more ≡ h ++ entered_by old.site r →
    new ≡ record { site = old.site; weights = old.weights; rows = old.rows; state = state } → NodeStands meaning now more new
node_risen meaning sc now h more old new state r was down made same entered is =
    node_with meaning sc now h more old new state was same
    (subst (λ (l : List Entry). IsIn meaning sc l old.site state) (sym entered)
    (rise_in meaning sc h old.site (disk_of old.state) state r down made))
    is

-- what is told of it is so
rose_as : {D : Type 0} (meaning : Meaning D) (sc : Scenario) (h more : List Entry)
    (site : ℕ) (old : D) (state : State D) (r : Raised) → TailsAreOrderly → IsGiven sc → IsLegal sc h → RiseMakes meaning sc h site old state r →
    more ≡ h ++ entered_by site r → IfOk (told_of r) (λ inc. HasRisen sc h site inc more (meaning.meters old).capacity (meaning.image old))
rose_as meaning sc h more site old (Up s l rose logged) (Risen kept inc) tails given legal made entered =
    record {
      kept = kept;
      allowed = made.allowed;
      entered = entered;
      read = made.read;
      exactly = kept_exactly tails sc h site (meaning.meters old).capacity inc kept (meaning.image old) given legal made.allowed made.read;
    }
rose_as meaning sc h more site old (Up s l rose logged) (Failed kept inc why) tails given legal made entered = absurd made
rose_as meaning sc h more site old (Up s l rose logged) Missed tails given legal made entered = absurd made
rose_as meaning sc h more site old (Up s l rose logged) NoMemory tails given legal made entered = absurd made
rose_as meaning sc h more site old (Up s l rose logged) Foreign tails given legal made entered = absurd made
rose_as meaning sc h more site old (Down new logged) (Risen kept inc) tails given legal made entered = absurd made
rose_as meaning sc h more site old (Down new logged) (Failed kept inc why) tails given legal made entered = tt
rose_as meaning sc h more site old (Down new logged) Missed tails given legal made entered = tt
rose_as meaning sc h more site old (Down new logged) NoMemory tails given legal made entered = tt
rose_as meaning sc h more site old (Down new logged) Foreign tails given legal made entered = absurd made

pub rose_told : {D : Type 0} (meaning : Meaning D) (sc : Scenario) (h more : List Entry)
    (site : ℕ) (old : D) (state : State D) (r : Raised) (told : Result ℕ RiseFault) → TailsAreOrderly → IsGiven sc → IsLegal sc h →
    RiseMakes meaning sc h site old state r → more ≡ h ++ entered_by site r → told ≡ told_of r → IfOk told (λ inc. HasRisen sc h site inc more (meaning.meters old).capacity (meaning.image old))
rose_told meaning sc h more site old state r told tails given legal made entered is =
    subst (λ (t : Result ℕ RiseFault). IfOk t (λ inc. HasRisen sc h site inc more (meaning.meters old).capacity (meaning.image old))) (sym is)
    (rose_as meaning sc h more site old state r tails given legal made entered)

pub failed_told : {D : Type 0} (meaning : Meaning D) (sc : Scenario) (h more : List Entry)
    (site : ℕ) (old : D) (state : State D) (r : Raised) → TailsAreOrderly → IsGiven sc → IsLegal sc h → RiseMakes meaning sc h site old state r →
    more ≡ h ++ entered_by site r → (why : Why) → told_of r ≡ Err (rise_fault.Failed why) →
    HasFailedToRise sc h site why more (meaning.meters old) (meaning.meters (disk_of state)) (meaning.image old)
failed_told meaning sc h more site old (Up s l rose logged) (Risen kept inc) tails given legal made entered why is = absurd cc
failed_told meaning sc h more site old (Up s l rose logged) (Failed kept inc because) tails given legal made entered why is = absurd made
failed_told meaning sc h more site old (Up s l rose logged) Missed tails given legal made entered why is = absurd made
failed_told meaning sc h more site old (Up s l rose logged) NoMemory tails given legal made entered why is = absurd made
failed_told meaning sc h more site old (Up s l rose logged) Foreign tails given legal made entered why is = absurd made
failed_told meaning sc h more site old (Down new logged) (Risen kept inc) tails given legal made entered why is = absurd made
failed_told meaning sc h more site old (Down new logged) (Failed kept inc because) tails given legal made entered why is =
    let same : because ≡ why = cc in
    subst (λ (w : Why). HasFailedToRise sc h site w more (meaning.meters old) (meaning.meters new) (meaning.image old)) same
    (record {
      kept = kept;
      inc = inc;
      allowed = made.allowed;
      entered = entered;
      read = made.read;
      exactly = kept_exactly tails sc h site (meaning.meters old).capacity inc kept (meaning.image old) given legal made.allowed made.read;
      reason = made.reason;
    })
failed_told meaning sc h more site old (Down new logged) Missed tails given legal made entered why is = absurd cc
failed_told meaning sc h more site old (Down new logged) NoMemory tails given legal made entered why is = absurd cc
failed_told meaning sc h more site old (Down new logged) Foreign tails given legal made entered why is = absurd made

pub missed_told : {D : Type 0} (meaning : Meaning D) (sc : Scenario) (h : List Entry)
    (site : ℕ) (old : D) (state : State D) (r : Raised) → RiseMakes meaning sc h site old state r →
    told_of r ≡ Err rise_fault.Missed → HasFailed (meaning.meters old).faults (meaning.meters (disk_of state)).faults
missed_told meaning sc h site old (Up s l rose logged) (Risen kept inc) made is = absurd cc
missed_told meaning sc h site old (Up s l rose logged) (Failed kept inc why) made is = absurd made
missed_told meaning sc h site old (Up s l rose logged) Missed made is = absurd made
missed_told meaning sc h site old (Up s l rose logged) NoMemory made is = absurd made
missed_told meaning sc h site old (Up s l rose logged) Foreign made is = absurd made
missed_told meaning sc h site old (Down new logged) (Risen kept inc) made is = absurd made
missed_told meaning sc h site old (Down new logged) (Failed kept inc why) made is = absurd cc
missed_told meaning sc h site old (Down new logged) Missed made is = made.1
missed_told meaning sc h site old (Down new logged) NoMemory made is = absurd cc
missed_told meaning sc h site old (Down new logged) Foreign made is = absurd made

-- a rise that is told as wanting memory left of an arm what there was, less the sync
pub spared_told : {D : Type 0} (meaning : Meaning D) (sc : Scenario) (h : List Entry)
    (site : ℕ) (old : D) (state : State D) (r : Raised) → RiseMakes meaning sc h site old state r →
    RiseTakes 5 r (meaning.meters old) (meaning.meters (disk_of state)) → told_of r ≡ Err rise_fault.NoMemory → Takes 0 (meaning.meters old) (meaning.meters (disk_of state))
spared_told meaning sc h site old (Up s l rose logged) (Risen kept inc) made takes is = absurd cc
spared_told meaning sc h site old (Up s l rose logged) (Failed kept inc why) made takes is = absurd made
spared_told meaning sc h site old (Up s l rose logged) Missed made takes is = absurd made
spared_told meaning sc h site old (Up s l rose logged) NoMemory made takes is = absurd made
spared_told meaning sc h site old (Up s l rose logged) Foreign made takes is = absurd made
spared_told meaning sc h site old (Down new logged) (Risen kept inc) made takes is = absurd made
spared_told meaning sc h site old (Down new logged) (Failed kept inc why) made takes is = absurd cc
spared_told meaning sc h site old (Down new logged) Missed made takes is = absurd cc
spared_told meaning sc h site old (Down new logged) NoMemory made takes is = takes
spared_told meaning sc h site old (Down new logged) Foreign made takes is = absurd made

-- no rise is told as one of a site that is up, or as one that a full history refused
pub never_up : (r : Raised) → told_of r ≡ Err rise_fault.Up → ⊥
never_up (Risen kept inc) is = absurd cc
never_up (Failed kept inc why) is = absurd cc
never_up Missed is = absurd cc
never_up NoMemory is = absurd cc
never_up Foreign is = absurd cc

pub never_full : (r : Raised) → told_of r ≡ Err rise_fault.HistoryFull → ⊥
never_full (Risen kept inc) is = absurd cc
never_full (Failed kept inc why) is = absurd cc
never_full Missed is = absurd cc
never_full NoMemory is = absurd cc
never_full Foreign is = absurd cc

-- what is entered of a rise that is told as missed, and of one that is told as wanting memory
pub missed_entered : (site : ℕ) (r : Raised) → told_of r ≡ Err rise_fault.Missed → entered_by site r ≡ record { owner = site; act = Miss } ∷ []
missed_entered site (Risen kept inc) is = absurd cc
missed_entered site (Failed kept inc why) is = absurd cc
missed_entered site Missed is = refl
missed_entered site NoMemory is = absurd cc
missed_entered site Foreign is = absurd cc

pub spared_entered : (site : ℕ) (r : Raised) → told_of r ≡ Err rise_fault.NoMemory → entered_by site r ≡ []
spared_entered site (Risen kept inc) is = absurd cc
spared_entered site (Failed kept inc why) is = absurd cc
spared_entered site Missed is = absurd cc
spared_entered site NoMemory is = refl
spared_entered site Foreign is = refl
