-- A node behind an input.
use Rattle.std.proofs.Common.{◌≡◌, ◌≢◌, ◌++◌, ◌∷◌, [], ◌^◌, ◌<◌, ◌≤◌, ℕ, suc, true, false, List, length, refl, sym, subst, ap, ◌∙◌, append-nil, map, arith}
use Rattle.std.specs.Prelude.{◌+◌, if◌then◌else◌, Bool, Result, Ok, Err, IfOk, filter, fold, nat_lt}
use Rattle.std.proofs.Common.{length-append}
use Rattle.std.specs.List.{AllByRecursion as Each}
use Rattle.std.proofs.lemmas.List.Elements.{filter-append}
use Rattle.e3_codec.specs.Fields.{AllCanBeReadBack}
use Rattle.e3_disk.specs.Images.{Within}
use Rattle.e3_disk.specs.Meaning.{Meaning}
use Rattle.e3_log.specs.Stands.{LogState}
use Rattle.e3_laws.specs.local.Others.{Allows, numbered_on}
use Rattle.e3_node.specs.Bodies.{DiskTells, ReadsTold, entries_at}
use Rattle.e3_node.specs.Drafts.{IsAsBefore, IsDraft, IsReady, StandsOnBy}
use Rattle.e3_node.specs.Ends.{FellOver, is_fall}
use Rattle.e3_node.specs.NodeStands.{IsDown, IsFallen, IsIn, IsUp, NodeStands, StandsBy, is_step, logged_in, steps_at}
use Rattle.e3_node.specs.NodeView.{NodeView, disk_of, is_up_in}
use Rattle.e3_node.specs.Telling.{IsOfSite}
use Rattle.e3_node.specs.declared.drafts.Draft.{Draft}
use Rattle.e3_node.specs.declared.fault.InputFault.{InputFault}
use Rattle.e3_node.specs.declared.fault.InputFault.TheVariants as input_fault
use Rattle.e3_node.specs.declared.state.State.{State}
use Rattle.e3_node.specs.declared.state.State.TheVariants.{Down, Up}
use Rattle.e3_play.specs.Entering.{fall_of}
use Rattle.e3_site.specs.SiteView.{HasRoomFor, IsPlanOf, PlanView, SiteView, Stands as SiteStands, count_on, entry_of_plan, planned_step, step_kept, with_step}
use Rattle.e3_node.specs.site_log.Bodies.{IsLogged, ReadsLeft}
use Rattle.e3_site.specs.StandsAlike.{IsLogInOrder, now_with}
use Rattle.e3_site.proofs.Alike.{on, opens, plans, still as stands_still}
use Rattle.e3_site.proofs.Steps.{steps_are_fewer}
use Rattle.e3_readings.specs.Opens.{open_in}
use Rattle.e3_types.specs.declared.entries.Act.TheVariants.{Fall, Cut}
use Rattle.e3_types.specs.declared.entries.Entry.{Entry}
use Rattle.e3_types.specs.declared.entries.Input.{Input}
use Rattle.e3_types.specs.declared.entries.Why.{Why}
use Rattle.e3_types.specs.declared.list.NoMemory.{NoMemory}
use Rattle.e3_types.specs.declared.records.Record.{Record}
use Rattle.e3_types.specs.declared.scenarios.Scenario.{Scenario}
use Rattle.e3_types.specs.declared.transactions.Txn.{Txn}
use Rattle.e3_wire.specs.Wires.{TakesLeast, TakesInTurn}
use Rattle.e3_world.specs.Items.{add_txn, is_up_at, open_at}
use Rattle.e3_world.specs.Legal.{Guard, IsDue, entry_of, made_by}
use Rattle.e3_world.specs.Lives.{life_of}
use Rattle.e3_world.specs.declared.lives.Incarnation.{Incarnation}
use Rattle.e3_world.specs.declared.lives.SiteStep.{SiteStep}
use Rattle.e3_world.specs.Moves.{Move, Past, left_by, log_by, log_of, moves_of, open_tail, own_entries, unnumbered_input}
use Rattle.e3_world.specs.Sound.{step_move}
use Rattle.e3_world.proofs.Guards.{guard_step}
use Rattle.e3_world.proofs.Numbers.{entered_move}
use Rattle.e3_world.proofs.Pushes.{log_push}
use Rattle.e3_world.proofs.Readings.{own_same, up_same}
use Rattle.e3_world.proofs.Turns.{self}
use Rattle.e3_node.proofs.Guarding.{fall_guard, step_entry}
use Rattle.e3_node.proofs.Keeping.{told_in}
use Rattle.e3_node.proofs.Left.{left_tells, told_later}
use Rattle.e3_node.proofs.Pasts.{entries_on, past_on}

-- a site that stands for a history does so in the incarnation of the records that it rose with
pub own_stands : {rose : List Record} (sc : Scenario) (h : List Entry) (site : ℕ) (s : SiteView) → StandsBy sc h site rose s → SiteStands (now_with rose sc h s.site) s
own_stands {rose} sc h site s was = let P : ℕ → Type 0 = λ n. SiteStands (now_with rose sc h n) s in subst P (sym was.alike.site_is) was.alike.stands

-- which made fewer steps than the history has entries
pub own_are_few : {rose : List Record} (sc : Scenario) (h : List Entry) (site : ℕ) (s : SiteView) → StandsBy sc h site rose s → is_up_at h site ≡ true → length h ≤ 4000000000 →
    length (now_with rose sc h s.site).since < 4000000000
own_are_few {rose} sc h site s was up few =
    let fewer = steps_are_fewer sc h site up in
    let P : ℕ → Type 0 = λ n. length (now_with rose sc h n).since < 4000000000 in
    subst P (sym was.alike.site_is) (omega (arith, fewer, few))

-- and what it plans in it is the step that the history makes
pub plan_made : {rose : List Record} (sc : Scenario) (h : List Entry) (site : ℕ) (s : SiteView) (i : Input) → StandsBy sc h site rose s →
    planned_step (now_with rose sc h s.site) s i ≡ step_kept i (made_by sc h site i)
plan_made {rose} sc h site s i stands =
    ap (λ (n : ℕ). planned_step (now_with rose sc h n) s i) stands.alike.site_is ∙ plans sc h site rose s i stands.alike stands.order

pub step_moves : (sc : Scenario) (h : List Entry) (site : ℕ) (i : Input) →
    moves_of sc (h ++ entry_of sc h site i ∷ []) site ≡ moves_of sc h site ++ step_move sc site (moves_of sc h site) i ∷ []
step_moves sc h site i =
    ap (λ (p : Past). p.moves) (past_on sc h site (entry_of sc h site i) refl)
    ∙ ap (λ (ms : List Move). moves_of sc h site ++ ms) (entered_move sc h site i)

pub step_log : (sc : Scenario) (h : List Entry) (site : ℕ) (i : Input) → log_of sc (h ++ entry_of sc h site i ∷ []) site ≡ log_of sc h site ++ (made_by sc h site i).records
step_log sc h site i = ap log_by (step_moves sc h site i) ∙ log_push (moves_of sc h site) (step_move sc site (moves_of sc h site) i)

-- the log behind a step, whose frame was written
pub step_logged : {D : Type 0} (meaning : Meaning D) (sc : Scenario) (h : List Entry) (site : ℕ) (i : Input)
    (records : List Record) (logged : ℕ) (new : LogState D) → records ≡ (made_by sc h site i).records →
    IsLogged meaning site (entries_at h site + 1) (log_of sc h site ++ records) logged new →
    IsLogged meaning site (entries_at (h ++ entry_of sc h site i ∷ []) site) (log_of sc (h ++ entry_of sc h site i ∷ []) site) logged new
step_logged meaning sc h site i records logged new made wrote =
    let P : ℕ → Type 0 = λ n. IsLogged meaning site n (log_of sc (h ++ entry_of sc h site i ∷ []) site) logged new in
    let Q : List Record → Type 0 = λ l. IsLogged meaning site (entries_at h site + 1) l logged new in
    subst P (sym (entries_on h site (entry_of sc h site i) refl))
    (subst Q (ap (λ (rs : List Record). log_of sc h site ++ rs) made ∙ sym (step_log sc h site i)) wrote)

-- a site that made the planned step
pub stepped_up : {D : Type 0} {rose : List Record} (meaning : Meaning D)
    (sc : Scenario) (h : List Entry) (site : ℕ) (i : Input) (s : SiteView) (l : LogState D) (logged : ℕ) → is_up_at h site ≡ true →
    StandsBy sc (h ++ entry_of sc h site i ∷ []) site rose s →
    IsLogged meaning site (entries_at (h ++ entry_of sc h site i ∷ []) site) (log_of sc (h ++ entry_of sc h site i ∷ []) site) logged l → (meaning.meters l.disk).powered ≡ true →
    s.inputs ≤ steps_at (h ++ entry_of sc h site i ∷ []) site →
    IsUp meaning sc (h ++ entry_of sc h site i ∷ []) site s l rose logged
stepped_up meaning sc h site i s l n up stands logged lit few = record {
  up = up_same h (entry_of sc h site i) site (self site) ∙ up;
  stands = stands;
  logged = logged;
  lit = lit;
  inputs = few;
}

-- the steps of a site with one more
pub one_step_more : (sc : Scenario) (h : List Entry) (site : ℕ) (i : Input) → steps_at (h ++ entry_of sc h site i ∷ []) site ≡ suc (steps_at h site)
one_step_more sc h site i =
    let e : Entry = entry_of sc h site i in
    let front : List Entry = filter is_step (own_entries site h) in
    let all : length (filter is_step (own_entries site (h ++ e ∷ []))) ≡ length (front ++ e ∷ []) =
    ap (λ (mine : List Entry). length (filter is_step mine)) (own_same site h e (self site)) ∙ ap length (filter-append is_step (own_entries site h) (e ∷ [])) in
    let more : length (front ++ e ∷ []) ≡ length front + 1 = length-append front (e ∷ []) in
    omega (arith, all, more)

pub counted_once : (n : ℕ) → count_on n ≤ suc n
counted_once n = by (nat_lt n 4294967295)
  where
    by : (b : Bool) → (if b then suc n else n) ≤ suc n
    by true = omega arith
    by false = omega arith

pub inputs_on : (sc : Scenario) (h : List Entry) (site : ℕ) (i : Input) (old new : ℕ) → old ≤ steps_at h site → new ≡ count_on old →
    new ≤ steps_at (h ++ entry_of sc h site i ∷ []) site
inputs_on sc h site i old new few is =
    let one : count_on old ≤ suc old = counted_once old in
    let more : steps_at (h ++ entry_of sc h site i ∷ []) site ≡ suc (steps_at h site) = one_step_more sc h site i in
    omega (arith, few, is, one, more)

-- a site that did the step that the history makes stands for the history with it
pub site_on : {rose : List Record} (sc : Scenario) (h : List Entry) (site : ℕ) (i : Input) (old new : SiteView) (step : SiteStep) → StandsBy sc h site rose old →
    step ≡ step_kept i (made_by sc h site i) → new.weights ≡ old.weights → new.site ≡ old.site →
    ((now : Incarnation) (input : Input) → SiteStands now old → step ≡ planned_step now old input → SiteStands (with_step now step) new) → IsLogInOrder site (log_of sc (h ++ entry_of sc h site i ∷ []) site) →
    StandsBy sc (h ++ entry_of sc h site i ∷ []) site rose new
site_on {rose} sc h site i old new step stands is weights number go order = record {
  alike = on sc h site rose i old new step stands.alike is weights number
      (go (now_with rose sc h site) i stands.alike.stands (is ∙ sym (plans sc h site rose old i stands.alike stands.order)));
  risen = stands.risen;
  order = order;
}

-- a value with other tables stands where these do
pub stays_by : (old new : SiteView) → new ≡ record old { tables = new.tables } → ((now : Incarnation) → SiteStands now old → SiteStands now new) → StandsOnBy old new
stays_by old new same go = λ sc h site rose was. stands_still sc h h site rose old new was refl (ap (λ (s : SiteView). s.weights) same) (ap (λ (s : SiteView). s.site) same)
    (go (now_with rose sc h site) was.stands)

-- what a draft has is what the history makes
pub record IsMade (sc : Scenario) (h : List Entry) (site : ℕ) (i : Input) (d : Draft) : Type 0 where
  pub step_is : d.plan.step ≡ step_kept i (made_by sc h site i)
  pub inputs_are : d.inputs ≡ i ∷ []
  pub back : Each (IsOfSite site) (made_by sc h site i).records → AllCanBeReadBack site (made_by sc h site i).records

pub draft_made : {rose : List Record} (sc : Scenario) (h : List Entry) (site : ℕ) (s new : SiteView) (i : Input) (d : Draft) → StandsBy sc h site rose s →
    IsReady (now_with rose sc h s.site) i s new d → IsMade sc h site i d
draft_made sc h site s new i d stands is = record {
  step_is = is.made ∙ plan_made sc h site s i stands;
  inputs_are = is.drafted.inputs_are;
  back =
      subst (λ (p : SiteStep). Each (IsOfSite site) p.records → AllCanBeReadBack site p.records) (is.made ∙ plan_made sc h site s i stands)
      (is.drafted.back site);
}

-- a draft of a plan for which there is room is ready
pub ready_draft : (now : Incarnation) (i : Input) (old new : SiteView) (r : Result Draft NoMemory) (plan : PlanView) → IfOk r (λ d. d.plan ≡ plan) →
    IfOk r (IsDraft i) → plan.step ≡ planned_step now old i → length plan.step.outs < 2 ^ 32 → IsPlanOf plan new → HasRoomFor plan new →
    IfOk r (IsReady now i old new)
ready_draft now i old new (Ok d) plan is draft made few own room = record {
  drafted = draft;
  made = ap (λ (p : PlanView). p.step) is ∙ made;
  few = subst (λ (p : PlanView). length p.step.outs < 2 ^ 32) (sym is) few;
  of_site = subst (λ (p : PlanView). IsPlanOf p new) (sym is) own;
  room = subst (λ (p : PlanView). HasRoomFor p new) (sym is) room;
}
ready_draft now i old new (Err none) plan is draft made few own room = tt

-- a site at which nothing was done
pub still_same : (s : SiteView) → IsAsBefore s s
still_same s = record { same = refl; stands = λ sc h site rose was. was }

-- the records of a step that the history makes
pub records_made : (sc : Scenario) (h : List Entry) (site : ℕ) (i : Input) (step : SiteStep) → step ≡ step_kept i (made_by sc h site i) →
    step.records ≡ (made_by sc h site i).records
records_made sc h site i step is = ap (λ (p : SiteStep). p.records) is

-- the entries of a step that the history makes, and of the fall in its place
pub made_step : (sc : Scenario) (h : List Entry) (site : ℕ) (i : Input) (step : SiteStep) → step ≡ step_kept i (made_by sc h site i) →
    numbered_on h (entry_of_plan site i step) ≡ entry_of sc h site i
made_step sc h site i step is =
    step_entry sc h site i step.records step.outs step.told (ap (λ (p : SiteStep). p.records) is) (ap (λ (p : SiteStep). p.outs) is)
    (ap (λ (p : SiteStep). p.told) is)

pub made_fall : (sc : Scenario) (h : List Entry) (site : ℕ) (i : Input) (inputs : List Input) (records : List Record) (why : Why) → inputs ≡ i ∷ [] →
    records ≡ (made_by sc h site i).records → record { owner = site; act = Fall inputs records why } ≡ fall_of sc h site i why
made_fall sc h site i inputs records why is rs =
    ap (λ (l : List Input). record { owner = site; act = Fall l records why }) is
    ∙ ap (λ (l : List Record). record { owner = site; act = Fall (i ∷ []) l why }) rs

pub step_allowed : (sc : Scenario) (h : List Entry) (site : ℕ) (i : Input) (step : SiteStep) → step ≡ step_kept i (made_by sc h site i) → 1 ≤ site →
    is_up_at h site ≡ true → IsDue sc h site i → Allows sc h (entry_of_plan site i step)
step_allowed sc h site i step is one up due =
    let Q : Entry → Type 0 = λ e. Guard sc h e in
    subst Q (sym (made_step sc h site i step is)) (guard_step sc h site i one up due)

pub fall_allowed : (sc : Scenario) (h : List Entry) (site : ℕ) (i : Input) (inputs : List Input) (records : List Record) (why : Why) → inputs ≡ i ∷ [] →
    records ≡ (made_by sc h site i).records → 1 ≤ site → is_up_at h site ≡ true → IsDue sc h site i → records ≢ [] →
    Allows sc h (record { owner = site; act = Fall inputs records why })
fall_allowed sc h site i inputs records why is rs one up due some =
    let Q : Entry → Type 0 = λ e. Guard sc h e in
    subst Q (sym (made_fall sc h site i inputs records why is rs)) (fall_guard sc h site i why one up due (λ none. some (rs ∙ none)))

-- the one input of a fall
pub fall_takes : (sc : Scenario) (h : List Entry) (site : ℕ) (i : Input) (inputs : List Input) → inputs ≡ i ∷ [] → TakesLeast sc h site i → TakesInTurn sc h site inputs
fall_takes sc h site i inputs is least = let P : List Input → Type 0 = λ l. TakesInTurn sc h site l in subst P (sym is) least

-- what is entered is the step, or the fall
pub step_entered : (sc : Scenario) (h more : List Entry) (site : ℕ) (i : Input) (step : SiteStep) → step ≡ step_kept i (made_by sc h site i) →
    more ≡ h ++ numbered_on h (entry_of_plan site i step) ∷ [] → more ≡ h ++ entry_of sc h site i ∷ []
step_entered sc h more site i step made is = is ∙ ap (λ (x : Entry). h ++ x ∷ []) (made_step sc h site i step made)

pub fall_entered : (sc : Scenario) (h more : List Entry) (site : ℕ) (i : Input) (inputs : List Input) (records : List Record) (why : Why) → inputs ≡ i ∷ [] →
    records ≡ (made_by sc h site i).records → more ≡ h ++ numbered_on h (record { owner = site; act = Fall inputs records why }) ∷ [] →
    more ≡ h ++ fall_of sc h site i why ∷ []
fall_entered sc h more site i inputs records why one rs is = is ∙ ap (λ (x : Entry). h ++ x ∷ []) (made_fall sc h site i inputs records why one rs)

-- the disk of a site that fell
pub fallen_tells : (sc : Scenario) (h : List Entry) (site capacity : ℕ) (i : Input) (records : List Record) (why : Why) (logged : ℕ) (image : List ℕ → Type 0) →
    records ≡ (made_by sc h site i).records →
    ((bytes : List ℕ) → image bytes → ReadsLeft site capacity (entries_at h site + 1) (log_of sc h site) records logged why bytes) →
    DiskTells sc (h ++ fall_of sc h site i why ∷ []) site capacity logged image
fallen_tells sc h site capacity i records why logged image made left = λ bytes at.
    let e : Entry = fall_of sc h site i why in
    let inputs : List Input = map unnumbered_input (i ∷ []) in
    let n : ℕ = entries_at h site + 1 in
    let P : Past → Type 0 = λ p. ReadsTold site capacity (entries_at (h ++ e ∷ []) site) logged p.moves p.tail bytes in
    let M : ℕ → Type 0 = λ m. ReadsTold site capacity m logged (moves_of sc h site ++ []) (left_by why inputs (made_by sc h site i).records) bytes in
    let Q : List Move → Type 0 = λ ms. ReadsTold site capacity n logged ms (left_by why inputs (made_by sc h site i).records) bytes in
    let R : List Record → Type 0 = λ rs. ReadsTold site capacity n logged (moves_of sc h site) (left_by why inputs rs) bytes in
    subst P (sym (past_on sc h site e refl)) (subst M (sym (entries_on h site e refl)) (subst Q (sym (append-nil (moves_of sc h site)))
    (subst R made (left_tells site capacity n logged (moves_of sc h site) why inputs records bytes (left bytes at)))))

pub fallen_down : {D : Type 0} (meaning : Meaning D) (sc : Scenario) (h : List Entry) (site : ℕ) (i : Input) (why : Why) (disk : D) (logged : ℕ) →
    DiskTells sc (h ++ fall_of sc h site i why ∷ []) site (meaning.meters disk).capacity logged (meaning.image disk) →
    IsDown meaning sc (h ++ fall_of sc h site i why ∷ []) site disk logged
fallen_down meaning sc h site i why disk logged stands = record {
  down = up_same h (fall_of sc h site i why) site (self site);
  stands = stands;
}

-- a site that was made ready is up as before
pub ready_up : {D : Type 0} {rose : List Record} (meaning : Meaning D)
    (sc : Scenario) (h : List Entry) (site : ℕ) (s new : SiteView) (l : LogState D) (logged : ℕ) → IsUp meaning sc h site s l rose logged →
    IsAsBefore s new → IsUp meaning sc h site new l rose logged
ready_up {D} {rose} meaning sc h site s new l logged was is = record {
  up = was.up;
  stands = record { alike = is.stands sc h site rose was.stands.alike; risen = was.stands.risen; order = was.stands.order };
  logged = was.logged;
  lit = was.lit;
  inputs = let P : ℕ → Type 0 = λ n. n ≤ steps_at h site in subst P (sym (ap (λ (v : SiteView). v.inputs) is.same)) was.inputs;
}

still : {D : Type 0} (meaning : Meaning D)
    (sc : Scenario) (h more : List Entry) (site : ℕ) (mid new : State D) → (more ≡ h) × IsIn meaning sc h site mid → new ≡ mid →
    IsIn meaning sc more site new
still meaning sc h more site mid new kept same =
    subst (λ (s : State _). IsIn meaning sc more site s) (sym same)
    (subst (λ (l : List Entry). IsIn meaning sc l site mid) (sym kept.0) kept.1)

-- a node behind an input that it did not take: it fell, or it is as before
pub input_in : {D : Type 0} (meaning : Meaning D) (sc : Scenario) (h more : List Entry) (site : ℕ) (i : Input) (fault : InputFault) (mid new : State D) →
    (is_fall fault ≡ false → (more ≡ h) × IsIn meaning sc h site mid) →
    ((why : Why) → fault ≡ input_fault.Fell why → FellOver sc h site i why more × IsFallen meaning sc more site mid) →
    (is_fall fault ≡ true → new ≡ Down (disk_of mid) (logged_in mid)) → (is_fall fault ≡ false → new ≡ mid) → IsIn meaning sc more site new
input_in meaning sc h more site i (input_fault.Fell why) mid new kept fell down same =
    let f = fell why refl in
    let P : List Entry → Type 0 = λ l. IsFallen meaning sc l site mid in
    subst (λ (s : State _). IsIn meaning sc more site s) (sym (down refl))
    (subst (λ (l : List Entry). IsIn meaning sc l site (Down (disk_of mid) (logged_in mid))) (sym f.0.entered)
    (fallen_down meaning sc h site i why (disk_of mid) (logged_in mid) (subst P f.0.entered f.1)))
input_in meaning sc h more site i input_fault.Down mid new kept fell down same = still meaning sc h more site mid new (kept refl) (same refl)
input_in meaning sc h more site i input_fault.HistoryFull mid new kept fell down same = still meaning sc h more site mid new (kept refl) (same refl)
input_in meaning sc h more site i input_fault.NoMemory mid new kept fell down same = still meaning sc h more site mid new (kept refl) (same refl)

pub node_with : {D : Type 0} (meaning : Meaning D) (sc now : Scenario) (h more : List Entry)
    (old new : NodeView D) (state : State D) → NodeStands meaning sc h old → now ≡ sc → IsIn meaning sc more old.site state →
    new ≡ record { site = old.site; weights = old.weights; rows = old.rows; state = state } → NodeStands meaning now more new
node_with meaning sc now h more old new state was same is now_is =
    subst (λ (s : Scenario). NodeStands meaning s more new) (sym same)
    (subst (λ (n : NodeView _). NodeStands meaning sc more n) (sym now_is) (record {
      some = was.some;
      exists = was.exists;
      weights_are = was.weights_are;
      rows_are = was.rows_are;
      state = is;
    }))

-- a site whose power is cut is down, and its disk stands
pub cut_in : {D : Type 0} (meaning : Meaning D)
    (sc : Scenario) (h : List Entry) (site : ℕ) (old new : State D) → IsIn meaning sc h site old → is_up_in new ≡ false →
    logged_in new ≡ logged_in old → Within (meaning.image (disk_of old)) (meaning.image (disk_of new)) → (meaning.meters (disk_of new)).capacity ≡ (meaning.meters (disk_of old)).capacity →
    IsIn meaning sc (h ++ record { owner = site; act = Cut } ∷ []) site new
cut_in meaning sc h site old (Up s l rose logged) was down same within room = absurd cc
cut_in meaning sc h site old (Down disk logged) was down same within room = record {
  down = up_same h (record { owner = site; act = Cut }) site (self site);
  stands = λ bytes at.
      let e : Entry = record { owner = site; act = Cut } in
      let told = told_in meaning sc h site old was bytes (within bytes at) in
      let P : Past → Type 0 = λ p. ReadsTold site (meaning.meters disk).capacity (entries_at (h ++ e ∷ []) site) logged p.moves p.tail bytes in
      let Q : List Move → Type 0 = λ ms. ReadsTold site (meaning.meters disk).capacity (entries_at (h ++ e ∷ []) site) logged ms (open_tail sc h site) bytes in
      let R : ℕ → Type 0 = λ n. ReadsTold site n (entries_at h site) logged (moves_of sc h site) (open_tail sc h site) bytes in
      let N : ℕ → Type 0 = λ n. ReadsTold site (meaning.meters (disk_of old)).capacity (entries_at h site) n (moves_of sc h site) (open_tail sc h site) bytes in
      let more : entries_at (h ++ e ∷ []) site ≡ entries_at h site + 1 = entries_on h site e refl in
      subst P (sym (past_on sc h site e refl)) (subst Q (sym (append-nil (moves_of sc h site)))
      (told_later site (meaning.meters disk).capacity (entries_at h site) (entries_at (h ++ e ∷ []) site) logged (moves_of sc h site) (open_tail sc h site) bytes (omega (arith, more))
      (subst R (sym room) (subst N (sym same) told))));
}

-- what is open by the tables is open in the history
pub open_by : {rose : List Record} (sc : Scenario) (h : List Entry) (site : ℕ) (s : SiteView) (r : Result (List Txn) NoMemory) → StandsBy sc h site rose s →
    IfOk r (λ txns. (now : Incarnation) → SiteStands now s → txns ≡ open_in s.site (life_of now)) → IfOk r (λ txns. txns ≡ fold add_txn [] (open_at sc h site))
open_by {rose} sc h site s (Ok txns) stands listed =
    listed (now_with rose sc h site) stands.alike.stands ∙ opens sc h site rose s stands.alike stands.order.orderly
open_by sc h site s (Err e) stands listed = tt
