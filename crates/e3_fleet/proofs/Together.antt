-- What the numbers of a site's disk came to over a batch.
use Rattle.std.proofs.Common.{◌≡◌, ◌==◌, inl, ◌≤◌, ◌++◌, ◌∷◌, [], ℕ, zero, suc, true, List, length, refl, sym, ap, subst, ◌∙◌, arith, eq-eqb}
use Rattle.e3_fleet.specs.crew.Turns.{AreStepsBy, IsFallOver}
use Rattle.e3_disk.specs.Meters.{IsCounted, Keeps, Meters, HasFailed}
use Rattle.e3_fleet.specs.Fleets.{HasKept, HasKeptWith}
use Rattle.e3_fleet.specs.Over.{HadNoRoom, HadNoRooms, is_fault}
use Rattle.e3_fleet.specs.Stops.{part_of, rises_of, steps_of}
use Rattle.e3_fleet.proofs.Arming.{Costs}
use Rattle.e3_fleet.proofs.Kept.{Took, kept_in, kept_more, kept_on, kept_through}
use Rattle.e3_fleet.proofs.Rooms.{rooms_push}
use Rattle.e3_fleet.proofs.Numbers.{goes_in, goes_own, keeps_on}
use Rattle.e3_node.specs.Batches.{fall_over, stepped}
use Rattle.e3_node.specs.site_log.Ends.{IsReason, Takes, calls_for}
use Rattle.e3_types.specs.declared.entries.Act.TheVariants.{Fall}
use Rattle.e3_types.specs.declared.entries.Entry.{Entry}
use Rattle.e3_types.specs.declared.entries.Input.{Input}
use Rattle.e3_types.specs.declared.entries.Why.{Why}
use Rattle.e3_types.specs.declared.entries.Why.TheVariants as why
use Rattle.e3_types.specs.declared.records.Record.{Record}
use Rattle.e3_types.specs.declared.scenarios.Scenario.{Scenario}
use Rattle.e3_world.specs.Legal.{entry_of, made_by, records_by}
use Rattle.e3_world.specs.Moves.{log_of}

-- a disk that nothing is done to keeps all
keeps_still : (m : Meters) → Keeps m m
keeps_still m = record {
  capacity = refl;
  arms = refl;
  calls = refl;
  codes = refl;
  cuts = refl;
  faults = omega arith;
  own_faults = λ low. omega arith;
  left = omega arith;
  stops = inl refl;
}

-- a step counts one at most, and no rise
step_counts : (sc : Scenario) (h : List Entry) (site : ℕ) (i : Input) →
    (part_of steps_of site (entry_of sc h site i) ≤ 1) × (part_of rises_of site (entry_of sc h site i) ≡ 0)
step_counts sc h site i = by (made_by sc h site i).records refl
  where
    mine : (site == site) ≡ true
    mine = eq-eqb site site refl

    by : (rs : List Record) → (made_by sc h site i).records ≡ rs →
        (part_of steps_of site (entry_of sc h site i) ≤ 1) × (part_of rises_of site (entry_of sc h site i) ≡ 0)
    by [] is = (rw (mine, is) (omega arith), rw mine refl)
    by (r ∷ rs) is = (rw (mine, is) (omega arith), rw mine refl)

step_none : (sc : Scenario) (h : List Entry) (site : ℕ) (i : Input) → (made_by sc h site i).records ≡ [] → part_of steps_of site (entry_of sc h site i) ≡ 0
step_none sc h site i is = rw (eq-eqb site site refl, is) refl

-- further steps of a batch have room in its frame
free_steps : (sc : Scenario) (h : List Entry) (site : ℕ) (inputs : List Input) (spare : ℕ) (o y : Meters) → IsCounted y → length inputs ≤ spare →
    HasKeptWith spare sc h site o y → HasKept sc (stepped sc h site inputs) site o y
free_steps sc h site [] spare o y counted few was = kept_through spare sc h site o y was
free_steps sc h site (i ∷ inputs) zero o y counted few was = absurd (omega (arith, few))
free_steps sc h site (i ∷ inputs) (suc k) o y counted few was =
    let e : Entry = entry_of sc h site i in
    let n = step_counts sc h site i in
    let one = n.0 in
    let none = n.1 in
    let cost : Costs (suc k) k site e 0 = record { frames = 0; steps = omega (arith, one); all = omega (arith, none) } in
    let took : Took 0 y y = λ armed. (armed, omega arith) in
    free_steps sc (h ++ e ∷ []) site inputs k o y counted (omega (arith, few))
    (kept_in (suc k) k sc h e site o y y counted
    (goes_in (suc k) k sc site e y y counted refl refl refl refl (keeps_still y) (λ not_end. (0, cost, took))) was)

-- steps that record nothing need no frame
quiet_steps : (sc : Scenario) (h : List Entry) (site : ℕ) (inputs : List Input) (o y : Meters) → IsCounted y → records_by sc h site inputs ≡ [] →
    HasKept sc h site o y → HasKept sc (stepped sc h site inputs) site o y
quiet_steps sc h site [] o y counted none was = was
quiet_steps sc h site (i ∷ inputs) o y counted none was = by (made_by sc h site i).records refl none (λ later kept. quiet_steps sc (h ++ e ∷ []) site inputs o y counted later kept)
  where
    e : Entry
    e = entry_of sc h site i

    rest : List Record
    rest = records_by sc (h ++ e ∷ []) site inputs

    by : (rs : List Record) → (made_by sc h site i).records ≡ rs → (made_by sc h site i).records ++ rest ≡ [] →
        (rest ≡ [] → HasKept sc (h ++ e ∷ []) site o y → HasKept sc (stepped sc (h ++ e ∷ []) site inputs) site o y) →
        HasKept sc (stepped sc (h ++ e ∷ []) site inputs) site o y
    by (r ∷ rs) is all next = absurd (let some : r ∷ (rs ++ rest) ≡ [] = sym (ap (λ (l : List Record). l ++ rest) is) ∙ all in cc)
    by [] is all next =
        let later : rest ≡ [] = sym (ap (λ (l : List Record). l ++ rest) is) ∙ all in
        let steps = step_none sc h site i is in
        let rises = (step_counts sc h site i).1 in
        let cost : Costs 0 0 site e 0 = record { frames = 0; steps = omega (arith, steps); all = omega (arith, rises) } in
        let took : Took 0 y y = λ armed. (armed, omega arith) in
        next later (kept_in 0 0 sc h e site o y y counted (goes_in 0 0 sc site e y y counted refl refl refl refl (keeps_still y) (λ not_end. (0, cost, took))) was)

-- the steps of a batch: the first has the frame, with room for seven more
pub batch_kept : (sc : Scenario) (h now : List Entry) (site : ℕ) (inputs : List Input) (o x y : Meters) → IsCounted x → IsCounted y → AreStepsBy sc h site inputs now x y →
    HasKept sc h site o x → HasKept sc now site o y
batch_kept sc h now site inputs o x y before counted steps was =
    subst (λ (l : List Entry). HasKept sc l site o y) (sym steps.entered) (by inputs steps.few (records_by sc h site inputs) refl steps.takes)
  where
    by : (is : List Input) → length is ≤ 8 → (rs : List Record) → records_by sc h site is ≡ rs → Takes (calls_for (records_by sc h site is)) x y →
        HasKept sc (stepped sc h site is) site o y
    by is few [] none takes =
        let took : Took 0 x y = subst (λ (l : List Record). Takes (calls_for l) x y) none takes in
        quiet_steps sc h site is o y counted none (kept_on sc h site o x y counted (keeps_on x y before steps.keeps took) was)
    by [] few (r ∷ rs) some takes = absurd cc
    by (i ∷ is) few (r ∷ rs) some takes =
        let e : Entry = entry_of sc h site i in
        let n = step_counts sc h site i in
        let one = n.0 in
        let none = n.1 in
        let took : Took 4 x y = subst (λ (l : List Record). Takes (calls_for l) x y) some takes in
        let cost : Costs 0 7 site e 4 = record { frames = 1; steps = omega (arith, one); all = omega (arith, none) } in
        free_steps sc (h ++ e ∷ []) site is 7 o y counted (omega (arith, few))
        (kept_in 0 7 sc h e site o x y counted (goes_in 0 7 sc site e x y before refl refl refl refl steps.keeps (λ not_end. (4, cost, took))) was)

pub batch_rooms : (sc : Scenario) (h : List Entry) (site : ℕ) (inputs : List Input) (capacity : ℕ) → HadNoRooms sc h site capacity →
    HadNoRooms sc (stepped sc h site inputs) site capacity
batch_rooms sc h site [] capacity was = was
batch_rooms sc h site (i ∷ inputs) capacity was =
    let e : Entry = entry_of sc h site i in
    batch_rooms sc (h ++ e ∷ []) site inputs capacity (rooms_push sc h e site capacity was (λ same. tt))

-- a fall over a batch
rose_of : (w : Why) (log records : List Record) (x y : Meters) (site : ℕ) (inputs : List Input) → IsReason w log records x y →
    is_fault (record { owner = site; act = Fall inputs records w }) ≡ true → HasFailed x.faults y.faults
rose_of why.Fault log records x y site inputs reason is = reason
rose_of (why.Full need room) log records x y site inputs reason is = absurd cc

pub fall_kept : (sc : Scenario) (h now : List Entry) (site : ℕ) (inputs : List Input) (w : Why) (o x y : Meters) → IsCounted x → IsCounted y →
    IsFallOver sc h site inputs w now x y → HasKept sc h site o x → HasKept sc now site o y
fall_kept sc h now site inputs w o x y before counted fall was =
    let e : Entry = fall_over sc h site inputs w in
    subst (λ (l : List Entry). HasKept sc l site o y) (sym fall.entered.entered)
    (kept_more sc h e site o x y counted
    (goes_own sc site e x y before refl refl refl fall.keeps (λ is. rose_of w (log_of sc h site) (records_by sc h site inputs) x y site inputs fall.reason is)
    (λ goes_on. absurd cc)) was)

no_room_of : (sc : Scenario) (h : List Entry) (site : ℕ) (inputs : List Input) (w : Why) (x y : Meters) →
    IsReason w (log_of sc h site) (records_by sc h site inputs) x y → HadNoRoom sc h site x.capacity (fall_over sc h site inputs w).act
no_room_of sc h site inputs why.Fault x y reason = tt
no_room_of sc h site inputs (why.Full need room) x y reason = reason

pub fall_rooms : (sc : Scenario) (h now : List Entry) (site : ℕ) (inputs : List Input) (w : Why) (x y : Meters) → IsFallOver sc h site inputs w now x y →
    HadNoRooms sc h site x.capacity → HadNoRooms sc now site y.capacity
fall_rooms sc h now site inputs w x y fall was =
    let e : Entry = fall_over sc h site inputs w in
    subst (λ (n : ℕ). HadNoRooms sc now site n) (sym fall.keeps.capacity)
    (subst (λ (l : List Entry). HadNoRooms sc l site x.capacity) (sym fall.entered.entered)
    (rooms_push sc h e site x.capacity was (λ same. no_room_of sc h site inputs w x y fall.reason)))
