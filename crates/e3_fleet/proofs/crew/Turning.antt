-- What workers know stays true while others go on, and turns follow one another.
use Rattle.std.proofs.Common.{◌≡◌, ◌+◌, ◌<◌, ◌≤◌, ◌++◌, ◌∷◌, [], ℕ, false, List, refl, sym, ap, subst, ◌∙◌, arith}
use Rattle.e3_disk.specs.Meaning.{Meaning}
use Rattle.e3_disk.specs.Meters.{Meters}
use Rattle.e3_fleet.specs.crew.Turns.{AtStart, BehindFall, BehindFallOver, BehindOthers, BehindStep, BehindSteps, WentOn}
use Rattle.e3_fleet.specs.crew.Workers.{HasWorked, HasWorkedWith, KnowsWith, places_alone}
use Rattle.e3_fleet.proofs.crew.Growing.{lines_meanwhile, meanwhile_all, meanwhile_none, meanwhile_on, restless_on}
use Rattle.e3_node.specs.Claims.{NodesKeptByOthers}
use Rattle.e3_node.specs.NodeStands.{NodeStands}
use Rattle.e3_node.specs.NodeView.{NodeView, disk_of}
use Rattle.e3_node.specs.Turns.{Meanwhile}
use Rattle.e3_turn.specs.Chronicles.{count_of}
use Rattle.e3_turn.proofs.Totals.{count_of_self}
use Rattle.e3_types.specs.declared.entries.Entry.{Entry}
use Rattle.e3_types.specs.declared.scenarios.Scenario.{Scenario}
use Rattle.e3_wire.specs.Claims.{HasNoted, PlacesPromise}
use Rattle.e3_wire.specs.declared.marks.Mark.{Mark}
use Rattle.e3_wire.specs.declared.marks.Note.{Note}
use Rattle.e3_wire.specs.Marks.{AreForeign, entries_of, most_of, note_of, places_for, scenario_of, used_of}
use Rattle.e3_wire.specs.Wires.{IsPlayed}
use Rattle.e3_wire.proofs.Foreign.{entries_append, foreign_are_others, foreign_of_sites, notes_stay}
use Rattle.e3_wire.proofs.Notes.{scenario_stays}
use Rattle.e3_world.specs.Legal.{IsLegal}
use Rattle.e3_world.specs.Packets.{is_calm, present_items}

pub went_on : (sc : Scenario) (site : ℕ) (a b : List Entry) (l m : Meters) (c : List Entry) (n : Meters) → WentOn sc site a l b m → WentOn sc site b m c n → WentOn sc site a l c n
went_on sc site a b l m c n first AtStart = first
went_on sc site a b l m c n first (BehindOthers before more now k second others is) = BehindOthers before more c n (went_on sc site a b l m before n first second) others is
went_on sc site a b l m c n first (BehindStep before now i k o second step) = BehindStep before c i k n (went_on sc site a b l m before k first second) step
went_on sc site a b l m c n first (BehindFall before now i why k o second fall) = BehindFall before c i why k n (went_on sc site a b l m before k first second) fall
went_on sc site a b l m c n first (BehindSteps before now is k o second steps) = BehindSteps before c is k n (went_on sc site a b l m before k first second) steps
went_on sc site a b l m c n first (BehindFallOver before now is why k o second fall) = BehindFallOver before c is why k n (went_on sc site a b l m before k first second) fall

-- marks of others, as entries
pub meanwhile_foreign : (site : ℕ) (before since marks : List Mark) → IsPlayed marks → AreForeign site since → marks ≡ before ++ since →
    Meanwhile site (entries_of before) (entries_of marks)
meanwhile_foreign site before since marks played foreign is = record {
  others = entries_of since;
  of_others = foreign_are_others (scenario_of marks) site before since (let P : List Mark → Type 0 = λ l. IsLegal (scenario_of marks) (entries_of l) in subst P is played.legal) foreign;
  of_sites = foreign_of_sites site since foreign;
  is = ap entries_of is ∙ entries_append before since;
}

module _ {D : Type 0} (meaning : Meaning D) where
  pub worked_none : {w : Note} (marks : List Mark) (node : NodeView D) → KnowsWith meaning w marks node → HasWorkedWith meaning w marks node marks node
  worked_none marks node knows = record {
    knows = knows;
    site = refl;
    scenario = refl;
    most = refl;
    grew = meanwhile_none 0 (entries_of marks);
    went = AtStart;
  }

  pub worked_on : {w x : Note} (a b c : List Mark) (l m n : NodeView D) → HasWorkedWith meaning w a l b m → HasWorkedWith meaning x b m c n →
      HasWorkedWith meaning x a l c n
  worked_on a b c l m n first second = record {
    knows = second.knows;
    site = second.site ∙ first.site;
    scenario = second.scenario ∙ first.scenario;
    most = second.most ∙ first.most;
    grew = meanwhile_on 0 (entries_of a) (entries_of b) (entries_of c) first.grew second.grew;
    went = went_on (scenario_of a) l.site (entries_of a) (entries_of b) (meaning.meters (disk_of l.state)) (meaning.meters (disk_of m.state)) (entries_of c) (meaning.meters (disk_of n.state)) first.went
        (let P : Scenario → Type 0 = λ sc. WentOn sc l.site (entries_of b) (meaning.meters (disk_of m.state)) (entries_of c) (meaning.meters (disk_of n.state)) in
        let Q : ℕ → Type 0 = λ s. WentOn (scenario_of b) s (entries_of b) (meaning.meters (disk_of m.state)) (entries_of c) (meaning.meters (disk_of n.state)) in
        subst P first.scenario (subst Q first.site second.went));
  }

  -- while a worker only looks
  pub worked_behind : {w : Note} → NodesKeptByOthers meaning → (before since marks : List Mark) (node : NodeView D) → KnowsWith meaning w before node →
      AreForeign node.site since → IsPlayed marks → marks ≡ before ++ since → HasWorkedWith meaning w before node marks node
  worked_behind law before since marks node knows foreign played is = record {
    knows = record {
      played = played;
      restless = (let P : Scenario → Type 0 = λ k. is_calm (present_items k (entries_of marks)) ≡ false in
          subst P (sym same) (restless_on (scenario_of before) (entries_of before) (entries_of marks) (lines_meanwhile node.site (entries_of before) (entries_of marks) m) knows.restless));
      promised = ap (λ (l : List Mark). note_of node.site l) is ∙ notes_stay node.site before since foreign ∙ knows.promised;
      stands = (let P : Scenario → Type 0 = λ k. NodeStands meaning k (entries_of marks) node in
          let Q : List Entry → Type 0 = λ k. NodeStands meaning (scenario_of before) k node in
          subst P (sym same) (subst Q (sym m.is) (law (scenario_of before) (entries_of before) m.others node knows.stands m.of_others)));
    };
    site = refl;
    scenario = same;
    most = ap most_of is ∙ (scenario_stays before since knows.played).1;
    grew = meanwhile_all node.site (entries_of before) (entries_of marks) m;
    went = BehindOthers (entries_of before) m.others (entries_of marks) (meaning.meters (disk_of node.state)) AtStart m.of_others m.is;
  }
    where
      m : Meanwhile node.site (entries_of before) (entries_of marks)
      m = meanwhile_foreign node.site before since marks played foreign is

      same : scenario_of marks ≡ scenario_of before
      same = ap scenario_of is ∙ (scenario_stays before since knows.played).0

  -- where it only promises places to its site, of which so many are left
  pub worked_promised : PlacesPromise → (before between marks : List Mark) (old new : NodeView D) (n : ℕ) → HasWorked meaning before old between new →
      used_of between + n ≤ most_of between → marks ≡ between ++ places_for new.site n → HasWorkedWith meaning (places_alone n) before old marks new
  worked_promised law before between marks old new n worked left is =
      subst (λ (l : List Mark). HasWorkedWith meaning (places_alone n) before old l new) (sym is) (record {
        knows = record {
          played = noted.played;
          restless = (let P : Scenario → Type 0 = λ k. is_calm (present_items k (entries_of (between ++ places_for new.site n))) ≡ false in
              let Q : List Entry → Type 0 = λ h. is_calm (present_items (scenario_of between) h) ≡ false in
              subst P (sym noted.scenario) (subst Q (sym noted.entries) worked.knows.restless));
          promised = noted.noted ∙ ap (λ (w : Note). let x : Note = record { places = w.places + n; room = w.room } in x) worked.knows.promised ∙ ap places_alone plain;
          stands = (let P : Scenario → Type 0 = λ k. NodeStands meaning k (entries_of (between ++ places_for new.site n)) new in
              let Q : List Entry → Type 0 = λ h. NodeStands meaning (scenario_of between) h new in
              subst P (sym noted.scenario) (subst Q (sym noted.entries) worked.knows.stands));
        };
        site = worked.site;
        scenario = noted.scenario ∙ worked.scenario;
        most = noted.most ∙ worked.most;
        grew = subst (λ (h : List Entry). Meanwhile 0 (entries_of before) h) (sym noted.entries) worked.grew;
        went = subst (λ (h : List Entry). WentOn (scenario_of before) old.site (entries_of before) (meaning.meters (disk_of old.state)) h (meaning.meters (disk_of new.state)))
            (sym noted.entries) worked.went;
      })
    where
      plain : 0 + n ≡ n
      plain = omega arith

      noted : HasNoted new.site (record { places = (note_of new.site between).places + n; room = (note_of new.site between).room }) between (between ++ places_for new.site n)
      noted = (law new.site n between worked.knows.played worked.knows.stands.exists left).0

-- a pass of one owner has it
pub owns_one : (o : ℕ) (owners : List ℕ) → owners ≡ o ∷ [] → 0 < count_of o owners
owns_one o owners is = subst (λ l. 0 < count_of o l) (sym is) (let one = count_of_self o in omega (arith, one))
