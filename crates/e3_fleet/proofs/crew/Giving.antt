-- What an answer of a node to an input comes to.
use Rattle.std.proofs.Common.{◌≡◌, ◌↔◌, ◌≤◌, ◌++◌, ◌∷◌, [], inl, inr, ℕ, Bool, true, false, List, refl, sym, ap, subst, ◌∙◌, arith}
use Rattle.std.specs.Prelude.{Result, Ok, Err, OnOk}
use Rattle.e3_disk.specs.Meaning.{Meaning}
use Rattle.e3_disk.specs.Meters.{Keeps, Meters}
use Rattle.e3_fleet.specs.crew.Turns.{AtStart, BehindFall, BehindOthers, BehindStep, WentOn, given}
use Rattle.e3_fleet.specs.crew.Workers.{HasGiven, HasWorked, Knows}
use Rattle.e3_fleet.proofs.crew.Growing.{alike_meanwhile, lines_meanwhile, meanwhile_all, meanwhile_on, meanwhile_own, restless_on}
use Rattle.e3_node.specs.Claims.{MovesStay}
use Rattle.e3_node.specs.Ends.{FellOver, is_fall}
use Rattle.e3_node.specs.site_log.Ends.{IsReason, Takes, calls_for}
use Rattle.e3_node.specs.NodeStands.{NodeStands}
use Rattle.e3_node.specs.NodeView.{NodeView, disk_of}
use Rattle.e3_node.specs.Places.{HasGivenNoneBack}
use Rattle.e3_node.specs.Turns.{Meanwhile}
use Rattle.e3_node.specs.declared.fault.InputFault.{InputFault}
use Rattle.e3_node.specs.declared.fault.InputFault.TheVariants as input_fault
use Rattle.e3_play.specs.Entering.{fall_of}
use Rattle.e3_types.specs.declared.entries.Entry.{Entry}
use Rattle.e3_types.specs.declared.entries.Input.{Input}
use Rattle.e3_types.specs.declared.entries.Why.{Why}
use Rattle.e3_types.specs.declared.scenarios.Scenario.{Scenario}
use Rattle.e3_wire.specs.declared.marks.Mark.{Mark}
use Rattle.e3_wire.specs.declared.marks.Note.{Note}
use Rattle.e3_wire.specs.Marks.{entries_of, most_of, note_of, nothing, scenario_of, used_of}
use Rattle.e3_wire.specs.Wires.{IsPlayed}
use Rattle.e3_world.specs.Items.{is_up_at}
use Rattle.e3_world.specs.Legal.{IsLegal, entry_of, made_by}
use Rattle.e3_world.specs.Lives.{incarnation_of}
use Rattle.e3_world.specs.Moves.{Move, log_by, log_of, moves_of}
use Rattle.e3_world.specs.Packets.{is_calm, present_items}
use Rattle.e3_world.specs.declared.lives.Made.{Made}
use Rattle.e3_world.proofs.Pushes.{legal_front}
use Rattle.e3_world.specs.Steps.{step_of}

-- nothing stays promised where nothing was
pub none_still : (was now : Note) → was ≡ nothing → now.places ≡ was.places → now.room ≤ was.room → now ≡ nothing
none_still was now none places room =
    let zero_places : now.places ≡ 0 = places ∙ ap (λ (w : Note). w.places) none in
    let zero_before : was.room ≡ 0 = ap (λ (w : Note). w.room) none in
    let zero_room : now.room ≡ 0 = omega (arith, room, zero_before) in
    ap (λ (n : ℕ). let w : Note = record { places = n; room = now.room } in w) zero_places
    ∙ ap (λ (n : ℕ). let w : Note = record { places = 0; room = n } in w) zero_room

-- the clauses of the call
pub record Answered {D : Type 0} (meaning : Meaning D)
    (before marks : List Mark) (old new : NodeView D) (i : Input) (answer : Result (Unit {0}) InputFault) : Type 0 where
  pub played : IsPlayed marks
  pub scenario : scenario_of marks ≡ scenario_of before
  pub most : most_of marks ≡ most_of before
  pub promised : (note_of old.site marks).places ≡ (note_of old.site before).places
  pub room : (note_of old.site marks).room ≤ (note_of old.site before).room
  pub stands : NodeStands meaning (scenario_of marks) (entries_of marks) new
  pub site : new.site ≡ old.site
  pub stepped : OnOk answer ((now : List Entry) × Meanwhile old.site (entries_of before) now
      × (entries_of marks ≡ now ++ entry_of (scenario_of before) now old.site i ∷ []))
  pub fell : (why : Why) → answer ≡ Err (input_fault.Fell why) → (now : List Entry) × Meanwhile old.site (entries_of before) now
      × FellOver (scenario_of before) now old.site i why (entries_of marks)
  pub down : (answer ≡ Err input_fault.Down) ↔ (is_up_at (entries_of before) old.site ≡ false)
  pub full : answer ≡ Err input_fault.HistoryFull → most_of marks ≤ used_of marks
  pub kept : (fault : InputFault) → answer ≡ Err fault → is_fall fault ≡ false →
      Meanwhile old.site (entries_of before) (entries_of marks) × (disk_of new.state ≡ disk_of old.state)
  pub why : (why : Why) → answer ≡ Err (input_fault.Fell why) →
      IsReason why (log_of (scenario_of before) (entries_of before) old.site)
      (made_by (scenario_of before) (entries_of before) old.site i).records (meaning.meters (disk_of old.state)) (meaning.meters (disk_of new.state))
  pub keeps : Keeps (meaning.meters (disk_of old.state)) (meaning.meters (disk_of new.state))
  pub takes : OnOk answer (Takes (calls_for (made_by (scenario_of before) (entries_of before) old.site i).records)
      (meaning.meters (disk_of old.state)) (meaning.meters (disk_of new.state)))
  pub none_back : HasGivenNoneBack old.site before marks

-- what a site did is the same behind entries of others
moves_same : MovesStay → (sc : Scenario) (site : ℕ) (h now : List Entry) → Meanwhile site h now → moves_of sc now site ≡ moves_of sc h site
moves_same law sc site h now m = ap (λ (k : List Entry). moves_of sc k site) m.is ∙ law sc site h m.others m.of_others

made_same : MovesStay → (sc : Scenario) (site : ℕ) (h now : List Entry) (i : Input) → Meanwhile site h now → made_by sc now site i ≡ made_by sc h site i
made_same law sc site h now i m = ap (λ moves. step_of sc.weights site (incarnation_of moves) i) (moves_same law sc site h now m)

-- what the call came to, by the up or down of the site
module _ {D : Type 0} (meaning : Meaning D) (law : MovesStay)
    (before marks : List Mark) (old new : NodeView D) (i : Input) where
  abbrev was : List Entry
  was = entries_of before

  abbrev sc : Scenario
  sc = scenario_of before

  abbrev first : Meters
  first = meaning.meters (disk_of old.state)

  abbrev last : Meters
  last = meaning.meters (disk_of new.state)

  abbrev Went : List Entry → Meters → Type 0
  Went now m = WentOn sc old.site was first now m

  behind : (now : List Entry) → Meanwhile old.site was now → Went now first
  behind now m = BehindOthers was m.others now first AtStart m.of_others m.is

  up_then : IsPlayed before → (met : List Entry) → IsLegal sc met → Meanwhile old.site was met → is_up_at was old.site ≡ true → is_up_at met old.site ≡ true
  up_then played met legal m up = (alike_meanwhile sc old.site was met played.given legal m).up ∙ up

  -- a step
  stepped_went : IsPlayed before → IsLegal sc (entries_of marks) → is_up_at was old.site ≡ true → Keeps first last →
      (met : List Entry) → Meanwhile old.site was met → entries_of marks ≡ met ++ entry_of sc met old.site i ∷ [] →
      Takes (calls_for (made_by sc was old.site i).records) first last → Went (entries_of marks) last
  stepped_went played legal up keeps met m is takes = BehindStep met (entries_of marks) i first last (behind met m) (record {
    up = up_then played met (legal_front sc met (entry_of sc met old.site i ∷ []) (subst (IsLegal sc) is legal)) m up;
    entered = is;
    keeps = keeps;
    takes = (let P : Made → Type 0 = λ made. Takes (calls_for made.records) first last in subst P (sym (made_same law sc old.site was met i m)) takes);
  })

  -- a fall
  fell_went : IsPlayed before → IsLegal sc (entries_of marks) → is_up_at was old.site ≡ true → Keeps first last → (why : Why) →
      (met : List Entry) → Meanwhile old.site was met → FellOver sc met old.site i why (entries_of marks) →
      IsReason why (log_of sc was old.site) (made_by sc was old.site i).records first last → Went (entries_of marks) last
  fell_went played legal up keeps why met m fell reason = BehindFall met (entries_of marks) i why first last (behind met m) (record {
    up = up_then played met (legal_front sc met (fall_of sc met old.site i why ∷ []) (subst (IsLegal sc) fell.entered legal)) m up;
    entered = fell;
    keeps = keeps;
    reason = (let P : List Move → Type 0 = λ moves. IsReason why (log_by moves) (step_of sc.weights old.site (incarnation_of moves) i).records first last in
        subst P (sym (moves_same law sc old.site was met m)) reason);
  })

  kept_went : Meanwhile old.site was (entries_of marks) → disk_of new.state ≡ disk_of old.state → Went (entries_of marks) last
  kept_went m disk = subst (Went (entries_of marks)) (ap meaning.meters (sym disk)) (behind (entries_of marks) m)

  worked_by : (answer : Result (Unit {0}) InputFault) → Knows meaning before old → Answered meaning before marks old new i answer →
      Meanwhile 0 was (entries_of marks) → Went (entries_of marks) last → HasWorked meaning before old marks new
  worked_by answer knows a grew went = record {
    knows = record {
      played = a.played;
      restless = (let P : Scenario → Type 0 = λ k. is_calm (present_items k (entries_of marks)) ≡ false in
          subst P (sym a.scenario) (restless_on sc was (entries_of marks) (lines_meanwhile 0 was (entries_of marks) grew) knows.restless));
      promised = ap (λ (s : ℕ). note_of s marks) a.site ∙ none_still (note_of old.site before) (note_of old.site marks) knows.promised a.promised a.room;
      stands = a.stands;
    };
    site = a.site;
    scenario = a.scenario;
    most = a.most;
    grew = grew;
    went = went;
  }

  legal_now : (answer : Result (Unit {0}) InputFault) → Answered meaning before marks old new i answer → IsLegal sc (entries_of marks)
  legal_now answer a = let P : Scenario → Type 0 = λ k. IsLegal k (entries_of marks) in subst P a.scenario a.played.legal

  is_up_or : (b : Bool) → is_up_at was old.site ≡ b → (is_up_at was old.site ≡ false → ⊥) → is_up_at was old.site ≡ true
  is_up_or true is not_down = is
  is_up_or false is not_down = absurd (not_down is)

  refused : (fault : InputFault) → is_fall fault ≡ false → (fault ≡ input_fault.Down → ⊥) → Knows meaning before old →
      Answered meaning before marks old new i (Err fault) →
      HasWorked meaning before old marks new × Meanwhile old.site was (entries_of marks) × (is_up_at was old.site ≡ true)
  refused fault no_fall no_down knows a =
      let k = a.kept fault refl no_fall in (
        worked_by (Err fault) knows a (meanwhile_all old.site was (entries_of marks) k.0) (kept_went k.0 k.1),
        k.0,
        is_up_or (is_up_at was old.site) refl (λ down. no_down (let two : Err fault ≡ Err input_fault.Down = a.down.1 down in cc)),
      )

  pub gave : (answer : Result (Unit {0}) InputFault) → Knows meaning before old →
      Answered meaning before marks old new i answer → HasGiven meaning before old i marks new (given answer)
  gave (Ok done) knows a =
      let up = is_up_or (is_up_at was old.site) refl (λ down. (let two : Ok done ≡ Err input_fault.Down = a.down.1 down in cc)) in
      let s = a.stepped in record {
        worked = worked_by (Ok done) knows a (meanwhile_on 0 was s.0 (entries_of marks) (meanwhile_all old.site was s.0 s.1)
            (meanwhile_own s.0 (entries_of marks) (entry_of sc s.0 old.site i) knows.stands.some refl s.2))
            (stepped_went knows.played (legal_now (Ok done) a) up a.keeps s.0 s.1 s.2 a.takes);
        taken = record { up = λ is. (s.0, s.1, inl s.2); down = λ is. absurd cc };
        kept = tt;
        up = tt;
        full = λ is. absurd cc;
        none_back = a.none_back;
      }
  gave (Err input_fault.Down) knows a =
      let k = a.kept input_fault.Down refl refl in
      let down : is_up_at was old.site ≡ false = a.down.0 refl in record {
        worked = worked_by (Err input_fault.Down) knows a (meanwhile_all old.site was (entries_of marks) k.0) (kept_went k.0 k.1);
        taken = record { up = λ is. absurd cc; down = λ is. k.0 };
        kept = tt;
        up = tt;
        full = λ is. absurd cc;
        none_back = a.none_back;
      }
  gave (Err input_fault.HistoryFull) knows a =
      let r = refused input_fault.HistoryFull refl (λ is. cc) knows a in
      record { worked = r.0; taken = tt; kept = r.1; up = r.2; full = λ is. a.full refl; none_back = a.none_back }
  gave (Err input_fault.NoMemory) knows a =
      let r = refused input_fault.NoMemory refl (λ is. cc) knows a in
      record { worked = r.0; taken = tt; kept = r.1; up = r.2; full = λ is. absurd cc; none_back = a.none_back }
  gave (Err (input_fault.Fell why)) knows a =
      let up = is_up_or (is_up_at was old.site) refl (λ down. (let two : Err (input_fault.Fell why) ≡ Err input_fault.Down = a.down.1 down in cc)) in
      let f = a.fell why refl in record {
        worked = worked_by (Err (input_fault.Fell why)) knows a (meanwhile_on 0 was f.0 (entries_of marks) (meanwhile_all old.site was f.0 f.1)
            (meanwhile_own f.0 (entries_of marks) (fall_of sc f.0 old.site i why) knows.stands.some refl f.2.entered))
            (fell_went knows.played (legal_now (Err (input_fault.Fell why)) a) up a.keeps why f.0 f.1 f.2 (a.why why refl));
        taken = record { up = λ is. (f.0, f.1, inr (record { why = why; some = f.2.some; entered = f.2.entered })); down = λ is. absurd cc };
        kept = tt;
        up = tt;
        full = λ is. absurd cc;
        none_back = a.none_back;
      }
