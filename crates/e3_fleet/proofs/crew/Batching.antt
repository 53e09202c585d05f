-- What a batch that a worker gave to its node comes to.
use Rattle.std.proofs.Common.{◌≡◌, ◌↔◌, ◌<◌, ◌≤◌, ◌++◌, ◌∷◌, [], inl, inr, ℕ, true, false, List, length, take, refl, sym, ap, subst, ◌∙◌, arith}
use Rattle.std.proofs.lemmas.List.{length-take-le}
use Rattle.std.specs.Prelude.{Result, Ok, Err}
use Rattle.e3_disk.specs.Meaning.{Meaning}
use Rattle.e3_disk.specs.Meters.{Keeps, Meters}
use Rattle.e3_fleet.specs.crew.Turns.{AtStart, BehindFallOver, BehindOthers, BehindSteps, WentOn}
use Rattle.e3_fleet.specs.crew.Workers.{HasWorked, KnowsWith}
use Rattle.e3_fleet.proofs.crew.Growing.{alike_meanwhile, lines_meanwhile, meanwhile_all, meanwhile_none, meanwhile_on, meanwhile_own, restless_on}
use Rattle.e3_node.specs.Batches.{BatchEnded, EndedShort, HasFallenOverAll, HasSteppedAll, OneFrameTakes, fall_over, stepped}
use Rattle.e3_node.specs.Claims.{MovesStay}
use Rattle.e3_node.specs.site_log.Ends.{IsReason, Takes, calls_for}
use Rattle.e3_node.specs.NodeStands.{NodeStands}
use Rattle.e3_node.specs.NodeView.{NodeView, disk_of}
use Rattle.e3_node.specs.Turns.{Meanwhile}
use Rattle.e3_node.specs.declared.fault.InputFault.{InputFault}
use Rattle.e3_node.specs.declared.fault.InputFault.TheVariants as input_fault
use Rattle.e3_node.specs.declared.state.State.{State}
use Rattle.e3_node.specs.declared.state.State.TheVariants.{Down, Up}
use Rattle.e3_node.proofs.Batches.{records_same}
use Rattle.e3_types.specs.declared.entries.Entry.{Entry}
use Rattle.e3_types.specs.declared.entries.Input.{Input}
use Rattle.e3_types.specs.declared.entries.Why.{Why}
use Rattle.e3_types.specs.declared.records.Record.{Record}
use Rattle.e3_types.specs.declared.scenarios.Scenario.{Scenario}
use Rattle.e3_wire.specs.declared.marks.Mark.{Mark}
use Rattle.e3_wire.specs.declared.marks.Note.{Note}
use Rattle.e3_wire.specs.Marks.{entries_of, most_of, note_of, nothing, scenario_of}
use Rattle.e3_wire.specs.Wires.{IsPlayed}
use Rattle.e3_world.specs.Items.{is_up_at}
use Rattle.e3_world.specs.Legal.{IsLegal, entry_of, records_by}
use Rattle.e3_world.specs.Moves.{Move, log_by, log_of, moves_of}
use Rattle.e3_world.specs.Packets.{is_calm, present_items}
use Rattle.e3_world.proofs.Pushes.{legal_front}

-- the steps of a batch are entries of sites
pub steps_more : (sc : Scenario) (h : List Entry) (site : ℕ) (inputs : List Input) → 1 ≤ site → Meanwhile 0 h (stepped sc h site inputs)
steps_more sc h site [] some = meanwhile_none 0 h
steps_more sc h site (i ∷ inputs) some =
    let e : Entry = entry_of sc h site i in
    meanwhile_on 0 h (h ++ e ∷ []) (stepped sc (h ++ e ∷ []) site inputs) (meanwhile_own h (h ++ e ∷ []) e some refl refl)
    (steps_more sc (h ++ e ∷ []) site inputs some)

front_legal : (sc : Scenario) (h all : List Entry) → Meanwhile 0 h all → IsLegal sc all → IsLegal sc h
front_legal sc h all m legal = legal_front sc h m.others (subst (IsLegal sc) m.is legal)

few_taken : (n : ℕ) (inputs : List Input) → length inputs ≤ 8 → n ≤ length inputs → length (take n inputs) ≤ 8
few_taken n inputs few within =
    let same : length (take n inputs) ≡ n = length-take-le n inputs within in
    omega (arith, same, few, within)

-- one frame takes no more than all inputs
taken_within : {D : Type 0} (meters : D → Meters) (old : State D) (sc : Scenario) (h : List Entry) (site : ℕ) (inputs : List Input) (n : ℕ) →
    OneFrameTakes meters old sc h site inputs n → n ≤ length inputs
taken_within meters (Down disk logged) sc h site inputs n takes = absurd takes
taken_within meters (Up s log rose logged) sc h site inputs n (inl all) = omega (arith, all)
taken_within meters (Up s log rose logged) sc h site inputs n (inr fill) = let less : n < length inputs = fill.fewer in omega (arith, less)

-- the clauses of the call
pub record AnsweredAll {D : Type 0} (meaning : Meaning D)
    (before marks : List Mark) (old new : NodeView D) (inputs : List Input) (answer : Result ℕ InputFault) : Type 0 where
  pub played : IsPlayed marks
  pub scenario : scenario_of marks ≡ scenario_of before
  pub most : most_of marks ≡ most_of before
  pub promised : is_up_at (entries_of before) old.site ≡ true → note_of old.site marks ≡ nothing
  pub stands : NodeStands meaning (scenario_of marks) (entries_of marks) new
  pub site : new.site ≡ old.site
  pub ended : BatchEnded meaning.meters (scenario_of before) (entries_of before) (entries_of marks) old.site inputs old.state new.state answer
  pub down : (answer ≡ Err input_fault.Down) ↔ (is_up_at (entries_of before) old.site ≡ false)
  pub keeps : Keeps (meaning.meters (disk_of old.state)) (meaning.meters (disk_of new.state))

module _ {D : Type 0} (meaning : Meaning D) (law : MovesStay)
    (promise : Note) (before marks : List Mark) (old new : NodeView D) (inputs : List Input) where
  abbrev was : List Entry
  was = entries_of before

  abbrev sc : Scenario
  sc = scenario_of before

  abbrev first : Meters
  first = meaning.meters (disk_of old.state)

  abbrev last : Meters
  last = meaning.meters (disk_of new.state)

  abbrev Went : List Entry → Meters → Type 0
  Went now m = WentOn sc old.site was first now m

  behind : (now : List Entry) → Meanwhile old.site was now → Went now first
  behind now m = BehindOthers was m.others now first AtStart m.of_others m.is

  moves_same : (now : List Entry) → Meanwhile old.site was now → moves_of sc now old.site ≡ moves_of sc was old.site
  moves_same now m = ap (λ (k : List Entry). moves_of sc k old.site) m.is ∙ law sc old.site was m.others m.of_others

  up_then : IsPlayed before → (met : List Entry) → IsLegal sc met → Meanwhile old.site was met → is_up_at was old.site ≡ true → is_up_at met old.site ≡ true
  up_then played met legal m up = (alike_meanwhile sc old.site was met played.given legal m).up ∙ up

  -- what others entered, and what the site did behind that
  pub record Grown : Type 0 where
    pub grew : Meanwhile 0 was (entries_of marks)
    pub went : Went (entries_of marks) last

  stepped_went : IsPlayed before → IsLegal sc (entries_of marks) → 1 ≤ old.site → is_up_at was old.site ≡ true → Keeps first last → (done : List Input) → length done ≤ 8 →
      HasSteppedAll meaning.meters sc was (entries_of marks) old.site done old.state new.state → Grown
  stepped_went played legal some up keeps done few s =
      let mine : Meanwhile 0 s.now (entries_of marks) = subst (λ (l : List Entry). Meanwhile 0 s.now l) (sym s.entered) (steps_more sc s.now old.site done some) in
      record {
        grew = meanwhile_on 0 was s.now (entries_of marks) (meanwhile_all old.site was s.now s.meanwhile) mine;
        went = BehindSteps s.now (entries_of marks) done first last (behind s.now s.meanwhile) (record {
          up = up_then played s.now (front_legal sc s.now (entries_of marks) mine legal) s.meanwhile up;
          few = few;
          entered = s.entered;
          keeps = keeps;
          takes =
              subst (λ (rs : List Record). Takes (calls_for rs) first last)
              (sym (records_same sc old.site was s.now done (moves_same s.now s.meanwhile))) s.takes;
        });
      }

  fallen_went : IsPlayed before → IsLegal sc (entries_of marks) → 1 ≤ old.site → is_up_at was old.site ≡ true → Keeps first last → (done : List Input) (why : Why) →
      HasFallenOverAll meaning.meters sc was (entries_of marks) old.site done why old.state (disk_of new.state) → Grown
  fallen_went played legal some up keeps done why f =
      let mine : Meanwhile 0 f.now (entries_of marks) = meanwhile_own f.now (entries_of marks) (fall_over sc f.now old.site done why) some refl f.fell.entered in
      let moves : moves_of sc f.now old.site ≡ moves_of sc was old.site = moves_same f.now f.meanwhile in
      record {
        grew = meanwhile_on 0 was f.now (entries_of marks) (meanwhile_all old.site was f.now f.meanwhile) mine;
        went = BehindFallOver f.now (entries_of marks) done why first last (behind f.now f.meanwhile) (record {
          up = up_then played f.now (front_legal sc f.now (entries_of marks) mine legal) f.meanwhile up;
          entered = f.fell;
          keeps = keeps;
          reason =
              subst (λ (ms : List Move). IsReason why (log_by ms) (records_by sc f.now old.site done) first last) (sym moves)
              (subst (λ (rs : List Record). IsReason why (log_of sc was old.site) rs first last)
              (sym (records_same sc old.site was f.now done moves)) f.reason);
        });
      }

  short_went : IsPlayed before → IsLegal sc (entries_of marks) → 1 ≤ old.site → is_up_at was old.site ≡ true → Keeps first last → length inputs ≤ 8 →
      EndedShort meaning.meters sc was (entries_of marks) old.site inputs old.state new.state → Grown
  short_went played legal some up keeps few (n, less, inl s) = stepped_went played legal some up keeps (take n inputs) (few_taken n inputs few (omega (arith, less))) s
  short_went played legal some up keeps few (n, less, inr (why, f)) = fallen_went played legal some up keeps (take n inputs) why f

  grown : (answer : Result ℕ InputFault) → KnowsWith meaning promise before old → is_up_at was old.site ≡ true → length inputs ≤ 8 →
      AnsweredAll meaning before marks old new inputs answer → IsLegal sc (entries_of marks) → Grown
  grown (Ok n) knows up few a legal =
      let within : n ≤ length inputs = taken_within meaning.meters old.state sc was old.site inputs n a.ended.0 in
      stepped_went knows.played legal knows.stands.some up a.keeps (take n inputs) (few_taken n inputs few within) a.ended.1
  grown (Err input_fault.Down) knows up few a legal = absurd (let down : is_up_at was old.site ≡ false = a.down.0 refl in let both : true ≡ false = sym up ∙ down in cc)
  grown (Err (input_fault.Fell why)) knows up few a legal =
      fallen_went knows.played legal knows.stands.some up a.keeps (take a.ended.0 inputs) why a.ended.2
  grown (Err input_fault.HistoryFull) knows up few a legal = absurd a.ended
  grown (Err input_fault.NoMemory) knows up few a legal = short_went knows.played legal knows.stands.some up a.keeps few a.ended

  pub batch_worked : (answer : Result ℕ InputFault) → KnowsWith meaning promise before old → is_up_at (entries_of before) old.site ≡ true → length inputs ≤ 8 →
      AnsweredAll meaning before marks old new inputs answer → HasWorked meaning before old marks new
  batch_worked answer knows up few a = record {
    knows = record {
      played = a.played;
      restless = (let P : Scenario → Type 0 = λ k. is_calm (present_items k (entries_of marks)) ≡ false in
          subst P (sym a.scenario) (restless_on sc was (entries_of marks) (lines_meanwhile 0 was (entries_of marks) all.grew) knows.restless));
      promised = ap (λ (s : ℕ). note_of s marks) a.site ∙ a.promised up;
      stands = a.stands;
    };
    site = a.site;
    scenario = a.scenario;
    most = a.most;
    grew = all.grew;
    went = all.went;
  }
    where
      all : Grown
      all = grown answer knows up few a (let P : Scenario → Type 0 = λ k. IsLegal k (entries_of marks) in subst P a.scenario a.played.legal)
