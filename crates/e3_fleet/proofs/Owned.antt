-- What a call of a node entered, and how the numbers of its disk went with it.
use Rattle.std.proofs.Common.{◌≡◌, inl, inr, ◌≤◌, ◌++◌, ◌∷◌, [], ℕ, suc, true, false, List, Ok, Err, Result, refl, sym, ap, subst, ◌∙◌, arith}
use Rattle.std.specs.Prelude.{OnOk, OnErr, IfOk}
use Rattle.e3_disk.specs.Leaves.{code_of}
use Rattle.e3_disk.specs.Meters.{Meters, IsCounted, Keeps, HasFailed, armed, cut}
use Rattle.e3_fleet.specs.Over.{HadNoRoom, is_fault}
use Rattle.e3_fleet.specs.Fleets.{cut_answer, input_answer, rise_answer}
use Rattle.e3_fleet.specs.Stops.{arm_by, calls_of, is_cut, is_end}
use Rattle.e3_fleet.proofs.Going.{Went}
use Rattle.e3_fleet.proofs.Kept.{GoesOn, Took}
use Rattle.e3_fleet.proofs.Numbers.{goes_cut, goes_own, goes_stop, keeps_on, still, stop_apart}
use Rattle.e3_node.specs.Ends.{FellOver, HasFailedToRise, HasRisen, is_fall}
use Rattle.e3_node.specs.site_log.Ends.{IsReason, calls_for}
use Rattle.e3_node.specs.NodeView.{NodeView, disk_of}
use Rattle.e3_node.specs.declared.fault.CutFault.{CutFault}
use Rattle.e3_node.specs.declared.fault.CutFault.TheVariants as cut_fault
use Rattle.e3_node.specs.declared.fault.InputFault.{InputFault}
use Rattle.e3_node.specs.declared.fault.InputFault.TheVariants as input_fault
use Rattle.e3_node.specs.declared.fault.RiseFault.{RiseFault}
use Rattle.e3_node.specs.declared.fault.RiseFault.TheVariants as rise_fault
use Rattle.e3_play.specs.Entering.{AfterInput, AfterRise, fall_of}
use Rattle.e3_types.specs.declared.entries.Act.{Act}
use Rattle.e3_types.specs.declared.entries.Act.TheVariants.{Rise, RiseFall, Miss, Cut, Line}
use Rattle.e3_types.specs.declared.entries.Entry.{Entry}
use Rattle.e3_types.specs.declared.entries.Input.{Input}
use Rattle.e3_types.specs.declared.entries.Why.{Why}
use Rattle.e3_types.specs.declared.entries.Why.TheVariants.{Fault, Full}
use Rattle.e3_types.specs.declared.records.Record.{Record}
use Rattle.e3_types.specs.declared.scenarios.Item.TheVariants as item
use Rattle.e3_types.specs.declared.scenarios.Leave.{Leave}
use Rattle.e3_types.specs.declared.scenarios.Scenario.{Scenario}
use Rattle.e3_world.specs.Legal.{entry_of, made_by}
use Rattle.e3_world.specs.Moves.{log_of}
use Rattle.e3_world.specs.Packets.{step_items}
use Rattle.e3_world.proofs.Turns.{true_not_false}

-- an entry of the site's own
own_next : (sc : Scenario) (h more : List Entry) (site : ℕ) (act : Act) (old new : Meters) → IsCounted old → Keeps old new →
    more ≡ h ++ record { owner = site; act = act } ∷ [] →
    ((k : ℕ) → arm_by sc k (record { owner = site; act = act }) ≡ []) → is_cut (record { owner = site; act = act }) ≡ false →
    (is_fault (record { owner = site; act = act }) ≡ true → HasFailed old.faults new.faults) → (is_end act ≡ false → Took (calls_of act) old new) →
    HadNoRoom sc h site old.capacity act → Went sc h more site old new
own_next sc h more site act old new counted keeps entered none no_cut rose took room = inr (record {
  e = record { owner = site; act = act };
  apart = λ k far same. far (sym same);
  unarmed = λ k far. none (suc k);
  entered = entered;
  goes = goes_own sc site (record { owner = site; act = act }) old new counted refl (none site) no_cut keeps rose took;
  room = room;
})

-- nothing
quiet : (sc : Scenario) (h more : List Entry) (site : ℕ) (old new : Meters) → more ≡ h → new ≡ old → Went sc h more site old new
quiet sc h more site old new none same = inl (record { none = none; goes = subst (λ (m : Meters). GoesOn old m) (sym same) (still old) })

quiet_keeps : (sc : Scenario) (h more : List Entry) (site : ℕ) (old new : Meters) → IsCounted old → Keeps old new → Took 0 old new → more ≡ h → Went sc h more site old new
quiet_keeps sc h more site old new counted keeps took none = inl (record { none = none; goes = keeps_on old new counted keeps took })

-- a rise
pub rise_went : (sc : Scenario) (h more : List Entry) (site : ℕ) (old new : Meters) (image : List ℕ → Type 0) (answer : Result ℕ RiseFault) → IsCounted old → Keeps old new →
    IfOk answer (λ inc. HasRisen sc h site inc more old.capacity image) → OnOk answer (Took 5 old new) →
    ((why : Why) → answer ≡ Err (rise_fault.Failed why) → HasFailedToRise sc h site why more old new image) →
    (answer ≡ Err rise_fault.Missed → more ≡ h ++ record { owner = site; act = Miss } ∷ []) →
    (answer ≡ Err rise_fault.Missed → HasFailed old.faults new.faults) →
    (answer ≡ Err rise_fault.NoMemory → (more ≡ h) × Took 0 old new) →
    (answer ≡ Err rise_fault.HistoryFull → (more ≡ h) × (new ≡ old)) →
    (answer ≡ Err rise_fault.Up → (more ≡ h) × (new ≡ old)) → Went sc h more site old new
rise_went sc h more site old new image (Ok inc) counted keeps rose took failed missed cause memory full up =
    own_next sc h more site (Rise rose.kept inc) old new counted keeps rose.entered (λ k. refl) refl (λ is. absurd (true_not_false (sym is))) (λ not_end. took) tt
rise_went sc h more site old new image (Err rise_fault.Missed) counted keeps rose took failed missed cause memory full up =
    own_next sc h more site Miss old new counted keeps (missed refl) (λ k. refl) refl (λ is. cause refl) (λ is. absurd (true_not_false is)) tt
rise_went sc h more site old new image (Err rise_fault.NoMemory) counted keeps rose took failed missed cause memory full up =
    quiet_keeps sc h more site old new counted keeps (memory refl).1 (memory refl).0
rise_went sc h more site old new image (Err rise_fault.HistoryFull) counted keeps rose took failed missed cause memory full up =
    quiet sc h more site old new (full refl).0 (full refl).1
rise_went sc h more site old new image (Err rise_fault.Up) counted keeps rose took failed missed cause memory full up =
    quiet sc h more site old new (up refl).0 (up refl).1
rise_went sc h more site old new image (Err (rise_fault.Failed Fault)) counted keeps rose took failed missed cause memory full up =
    let f = failed Fault refl in
    own_next sc h more site (RiseFall f.kept f.inc Fault) old new counted keeps f.entered (λ k. refl) refl (λ is. f.reason) (λ is. absurd (true_not_false is)) tt
rise_went sc h more site old new image (Err (rise_fault.Failed (Full need room))) counted keeps rose took failed missed cause memory full up =
    let f = failed (Full need room) refl in
    own_next sc h more site (RiseFall f.kept f.inc (Full need room)) old new counted keeps f.entered (λ k. refl) refl (λ is. absurd (true_not_false (sym is)))
    (λ is. absurd (true_not_false is)) f.reason

-- an input
pub input_went : (sc : Scenario) (h more : List Entry) (site : ℕ) (i : Input) (old new : Meters) (answer : Result (Unit {0}) InputFault) → IsCounted old → Keeps old new →
    OnOk answer (more ≡ h ++ entry_of sc h site i ∷ []) → OnOk answer (Took (calls_of (entry_of sc h site i).act) old new) →
    ((why : Why) → answer ≡ Err (input_fault.Fell why) → FellOver sc h site i why more) →
    ((fault : InputFault) → answer ≡ Err fault → is_fall fault ≡ false → (more ≡ h) × (new ≡ old)) →
    ((why : Why) → answer ≡ Err (input_fault.Fell why) → IsReason why (log_of sc h site) (made_by sc h site i).records old new) →
    Went sc h more site old new
input_went sc h more site i old new (Ok done) counted keeps stepped took fell kept why =
    own_next sc h more site (entry_of sc h site i).act old new counted keeps stepped (λ k. refl) refl (λ is. absurd (true_not_false (sym is))) (λ not_end. took) tt
input_went sc h more site i old new (Err (input_fault.Fell Fault)) counted keeps stepped took fell kept why =
    own_next sc h more site (fall_of sc h site i Fault).act old new counted keeps (fell Fault refl).entered (λ k. refl) refl (λ is. why Fault refl) (λ is. absurd (true_not_false is)) tt
input_went sc h more site i old new (Err (input_fault.Fell (Full need room))) counted keeps stepped took fell kept why =
    own_next sc h more site (fall_of sc h site i (Full need room)).act old new counted keeps (fell (Full need room) refl).entered (λ k. refl) refl
    (λ is. absurd (true_not_false (sym is))) (λ is. absurd (true_not_false is)) (why (Full need room) refl)
input_went sc h more site i old new (Err input_fault.Down) counted keeps stepped took fell kept why =
    quiet sc h more site old new (kept input_fault.Down refl refl).0 (kept input_fault.Down refl refl).1
input_went sc h more site i old new (Err input_fault.HistoryFull) counted keeps stepped took fell kept why =
    quiet sc h more site old new (kept input_fault.HistoryFull refl refl).0 (kept input_fault.HistoryFull refl refl).1
input_went sc h more site i old new (Err input_fault.NoMemory) counted keeps stepped took fell kept why =
    quiet sc h more site old new (kept input_fault.NoMemory refl refl).0 (kept input_fault.NoMemory refl refl).1

-- a cut
pub cut_went : (sc : Scenario) (h more : List Entry) (site : ℕ) (old new : Meters) (answer : Result (Unit {0}) CutFault) → IsCounted old →
    OnOk answer (more ≡ h ++ record { owner = site; act = Cut } ∷ []) → OnOk answer (new ≡ cut old) →
    OnErr answer ((more ≡ h) × (new ≡ old)) → Went sc h more site old new
cut_went sc h more site old new (Ok done) counted entered cuts kept = inr (record {
  e = record { owner = site; act = Cut };
  apart = λ k far same. far (sym same);
  unarmed = λ k far. refl;
  entered = entered;
  goes = goes_cut sc site old new counted cuts;
  room = tt;
})
cut_went sc h more site old new (Err fault) counted entered cuts kept = quiet sc h more site old new kept.0 kept.1

-- a stop
pub stop_went : (sc : Scenario) (h more : List Entry) (at number calls : ℕ) (leave : Leave) (old new : Meters) → IsCounted old → 1 ≤ calls →
    step_items sc number ≡ item.Stop (suc at) calls leave ∷ [] → more ≡ h ++ record { owner = 0; act = Line number } ∷ [] → new ≡ armed old calls (code_of leave) →
    Went sc h more (suc at) old new
stop_went sc h more at number calls leave old new counted some step entered arms = inr (record {
  e = record { owner = 0; act = Line number };
  apart = λ k far same. absurd (omega (arith, same));
  unarmed = λ k far. stop_apart sc (suc at) (suc k) number calls leave far step;
  entered = entered;
  goes = goes_stop sc (suc at) number calls leave old new counted (omega arith) some step arms;
  room = tt;
})

-- what the run hears of a rise
pub rise_rose : (sc : Scenario) (h more : List Entry) (site : ℕ) (old new : Meters) (image : List ℕ → Type 0) (answer : Result ℕ RiseFault) → (answer ≡ Err rise_fault.Up → ⊥) →
    IfOk answer (λ inc. HasRisen sc h site inc more old.capacity image) →
    (answer ≡ Err rise_fault.Missed → more ≡ h ++ record { owner = site; act = Miss } ∷ []) →
    ((why : Why) → answer ≡ Err (rise_fault.Failed why) → HasFailedToRise sc h site why more old new image) → OnOk (rise_answer answer) (AfterRise sc h site more)
rise_rose sc h more site old new image (Ok inc) down rose missed failed = inl (record { kept = rose.kept; inc = inc; allowed = rose.allowed; entered = rose.entered })
rise_rose sc h more site old new image (Err rise_fault.Missed) down rose missed failed = inr (inr (missed refl))
rise_rose sc h more site old new image (Err (rise_fault.Failed why)) down rose missed failed =
    let f = failed why refl in inr (inl (record { kept = f.kept; inc = f.inc; why = why; allowed = f.allowed; entered = f.entered }))
rise_rose sc h more site old new image (Err rise_fault.NoMemory) down rose missed failed = tt
rise_rose sc h more site old new image (Err rise_fault.HistoryFull) down rose missed failed = tt
rise_rose sc h more site old new image (Err rise_fault.Up) down rose missed failed = absurd (down refl)

pub rise_kept : (h more : List Entry) (answer : Result ℕ RiseFault) → (answer ≡ Err rise_fault.NoMemory → more ≡ h) →
    (answer ≡ Err rise_fault.HistoryFull → more ≡ h) → OnErr (rise_answer answer) (more ≡ h)
rise_kept h more (Ok done) memory full = tt
rise_kept h more (Err rise_fault.Missed) memory full = tt
rise_kept h more (Err (rise_fault.Failed why)) memory full = tt
rise_kept h more (Err rise_fault.NoMemory) memory full = memory refl
rise_kept h more (Err rise_fault.HistoryFull) memory full = full refl
rise_kept h more (Err rise_fault.Up) memory full = tt

-- what the run hears of an input
pub input_entered : (sc : Scenario) (h more : List Entry) (site : ℕ) (i : Input) (answer : Result (Unit {0}) InputFault) → (answer ≡ Err input_fault.Down → ⊥) →
    OnOk answer (more ≡ h ++ entry_of sc h site i ∷ []) →
    ((why : Why) → answer ≡ Err (input_fault.Fell why) → FellOver sc h site i why more) → OnOk (input_answer answer) (AfterInput sc h site i more)
input_entered sc h more site i (Ok done) up stepped fell = inl stepped
input_entered sc h more site i (Err (input_fault.Fell why)) up stepped fell =
    let over = fell why refl in inr (record { why = why; some = over.some; entered = over.entered })
input_entered sc h more site i (Err input_fault.Down) up stepped fell = absurd (up refl)
input_entered sc h more site i (Err input_fault.HistoryFull) up stepped fell = tt
input_entered sc h more site i (Err input_fault.NoMemory) up stepped fell = tt

pub input_kept : (h more : List Entry) (answer : Result (Unit {0}) InputFault) →
    ((fault : InputFault) → answer ≡ Err fault → is_fall fault ≡ false → more ≡ h) → OnErr (input_answer answer) (more ≡ h)
input_kept h more (Ok done) kept = tt
input_kept h more (Err (input_fault.Fell why)) kept = tt
input_kept h more (Err input_fault.Down) kept = tt
input_kept h more (Err input_fault.HistoryFull) kept = kept input_fault.HistoryFull refl refl
input_kept h more (Err input_fault.NoMemory) kept = kept input_fault.NoMemory refl refl

-- a cut that is not made leaves the disk
pub cut_still : {D : Type 0} (h more : List Entry) (meters : D → Meters) (old new : NodeView D) (answer : Result (Unit {0}) CutFault) →
    OnErr answer ((more ≡ h) × (disk_of new.state ≡ disk_of old.state)) → OnErr answer ((more ≡ h) × (meters (disk_of new.state) ≡ meters (disk_of old.state)))
cut_still h more meters old new (Ok done) kept = tt
cut_still h more meters old new (Err fault) kept = (kept.0, ap meters kept.1)

-- what the step of an input takes
pub takes_so : (sc : Scenario) (h : List Entry) (site : ℕ) (i : Input) (old new : Meters) (answer : Result (Unit {0}) InputFault) →
    OnOk answer (Took (calls_for (made_by sc h site i).records) old new) → OnOk answer (Took (calls_of (entry_of sc h site i).act) old new)
takes_so sc h site i old new (Err fault) took = tt
takes_so sc h site i old new (Ok done) took = by (made_by sc h site i).records refl
  where
    P : ℕ → Type 0
    P n = Took n old new

    by : (records : List Record) → (made_by sc h site i).records ≡ records → Took (calls_of (entry_of sc h site i).act) old new
    by [] is = subst P (let one : calls_for (made_by sc h site i).records ≡ 0 = rw is refl in let two : calls_of (entry_of sc h site i).act ≡ 0 = rw is refl in one ∙ sym two) took
    by (r ∷ rs) is = subst P (let one : calls_for (made_by sc h site i).records ≡ 4 = rw is refl in let two : calls_of (entry_of sc h site i).act ≡ 4 = rw is refl in one ∙ sym two) took

-- what the run hears of a cut
pub cut_told : (h more : List Entry) (s t : ℕ) (answer : Result (Unit {0}) CutFault) → (answer ≡ Err cut_fault.Down → ⊥) → s ≡ t →
    OnOk answer (more ≡ h ++ record { owner = s; act = Cut } ∷ []) → OnOk (cut_answer answer) (more ≡ h ++ record { owner = t; act = Cut } ∷ [])
cut_told h more s t (Ok done) up same entered = entered ∙ ap (λ (o : ℕ). h ++ record { owner = o; act = Cut } ∷ []) same
cut_told h more s t (Err cut_fault.HistoryFull) up same entered = tt
cut_told h more s t (Err cut_fault.NoMemory) up same entered = tt
cut_told h more s t (Err cut_fault.Down) up same entered = absurd (up refl)
