-- A batch before its first input, and behind what others put.
use Rattle.std.proofs.Common.{◌≡◌, ◌≢◌, ◌<◌, ◌≤◌, ◌+◌, ◌++◌, ◌∷◌, [], inl, inr, ℕ, List, Option, length, take, refl, sym, subst, ap, ◌∙◌, append-nil, append_assoc, arith}
use Rattle.std.specs.Prelude.{IfOk, IsErrAnd, None, OnErr, Result, Ok, Err}
use Rattle.e3_disk.specs.Meters.{Meters}
use Rattle.e3_log.specs.Stands.{LogState}
use Rattle.e3_node.specs.Batched.{AreAdded, HasNoMoreRoom, HasPlanned, IsBatch}
use Rattle.e3_node.specs.Batches.{unnumbered_steps}
use Rattle.e3_node.specs.Several.{AreOwned, claims_for, marks_in}
use Rattle.e3_node.specs.Turns.{Meanwhile}
use Rattle.e3_node.specs.declared.batching.Batch.{Batch}
use Rattle.e3_node.specs.site_log.Ends.{HasRoom, IsShortIf, size_of}
use Rattle.e3_node.specs.Briefing.{HasBody}
use Rattle.e3_node.specs.declared.site_log.writing.Short.{Short}
use Rattle.e3_node.specs.declared.fault.InputFault.{InputFault}
use Rattle.e3_site.specs.SiteView.{SiteView}
use Rattle.e3_site.specs.StandsAlike.{StandsAlike}
use Rattle.e3_turn.specs.Chronicles.{count_of}
use Rattle.e3_turn.specs.Passes.{GrewByOthers, GrewByOwners, Owns, SameOwners, last_of, owners_of, seen_by}
use Rattle.e3_types.specs.declared.entries.Entry.{Entry}
use Rattle.e3_types.specs.declared.entries.Input.{Input}
use Rattle.e3_types.specs.declared.records.Record.{Record}
use Rattle.e3_types.specs.declared.scenarios.Scenario.{Scenario}
use Rattle.e3_wire.specs.Claims.{APass}
use Rattle.e3_wire.specs.Marks.{belongs, entries_of, note_of, scenario_of}
use Rattle.e3_wire.specs.Wires.{IsPlayed}
use Rattle.e3_wire.specs.declared.marks.Mark.{Mark}
use Rattle.e3_wire.specs.declared.marks.Mark.TheVariants as mark
use Rattle.e3_wire.specs.declared.marks.Note.{Note}
use Rattle.e3_world.specs.Legal.{records_by}
use Rattle.e3_world.specs.Moves.{log_of}
use Rattle.e3_wire.proofs.Foreign.{notes_stay}
use Rattle.e3_wire.proofs.Notes.{scenario_stays}
use Rattle.e3_wire.proofs.Staying.{are_others_marks}
use Rattle.e3_node.proofs.Bundles.{unnumbered_own}
use Rattle.e3_node.proofs.Outcomes.{moves_meanwhile, stands_same}
use Rattle.e3_node.proofs.Several.{entries_freed, grew_own, own_planned, own_marks}
use Rattle.e3_node.proofs.Waiting.{one_while}

-- before its first input
pub no_batch : {D : Type 0} (meters : D → Meters) (on_disk : LogState D) (sc : Scenario) (h : List Entry) (site : ℕ) (rose : List Record) (marks : List Mark) (batch : Batch) (s : SiteView) →
    StandsAlike sc h site rose s → batch.steps.items ≡ [] → batch.records ≡ [] → batch.body ≡ [] → batch.short ≡ None →
    IsBatch meters on_disk sc h site rose marks s.inputs [] batch s marks
no_batch meters on_disk sc h site rose marks batch s stands steps records body short = record {
  steps_are = steps;
  records_are = records;
  body_is = body;
  back = λ own. tt;
  stands = stands;
  inputs = omega arith;
  claimed = sym (append-nil marks);
  short = let P : Option Short → Type 0 = λ o. IsShortIf site (log_of sc h site) o in subst P (sym short) tt;
  body = subst HasBody (sym short) tt;
  due = λ some. absurd (some refl);
}

-- what is said of an answer where there is none
if_refused : (r : Result ℕ InputFault) (P : InputFault → Type 0) (Q : ℕ → Type 0) → IsErrAnd r P → IfOk r Q
if_refused (Ok n) P Q is = absurd is
if_refused (Err fault) P Q is = tt

on_refused : (r : Result ℕ InputFault) (X : Type 0) → X → OnErr r X
on_refused (Ok n) X is = tt
on_refused (Err fault) X is = is

-- How many were added: all of them, or those before one that was refused, or before one that the frame has no room for.
module _ {D : Type 0} (meters : D → Meters) (on_disk : LogState D) (sc : Scenario) (h : List Entry) (site : ℕ) (inputs : List Input) where
  pub added_all : (count : ℕ) → count ≡ length inputs → AreAdded meters on_disk sc h site inputs (Ok count) (length inputs)
  added_all count is = record { within = omega arith; all = (is, inl refl); short = tt }

  pub added_before : (r : Result ℕ InputFault) (P : InputFault → Type 0) (n : ℕ) → IsErrAnd r P → n < length inputs → AreAdded meters on_disk sc h site inputs r n
  added_before r P n is low = record {
    within = omega (arith, low);
    all = if_refused r P _ is;
    short = on_refused r _ low;
  }

  pub added_some : (rose : List Record) (marks : List Mark) (first count n : ℕ) (i : Input) → log_of sc h site ≢ [] → count ≡ n → n < length inputs → take (n + 1) inputs ≡ take n inputs ++ i ∷ [] →
      HasNoMoreRoom meters on_disk (record { scenario = sc; history = h; site = site; rose = rose; marks = marks; first = first; done = take n inputs }) i →
      AreAdded meters on_disk sc h site inputs (Ok count) n
  added_some rose marks first count n i logged is low more room =
      let P : List Input → Type 0 = λ l. HasRoom meters on_disk (size_of (records_by sc h site l)) → ⊥ in
      record {
        within = omega (arith, low);
        all = (is, inr (record { fewer = low; some = room.0; room = room.1 logged; full = subst P (sym more) room.2 }));
        short = tt;
      }

-- a site that stands does so behind what others put while its pass rested
pub stands_taken : (p : APass) (site : ℕ) (rose : List Record) (marks : List Mark) (s : SiteView) → Owns p site → GrewByOthers belongs p marks → IsPlayed (seen_by p) → IsPlayed marks →
    StandsAlike (scenario_of (seen_by p)) (entries_of (seen_by p)) site rose s → StandsAlike (scenario_of marks) (entries_of marks) site rose s
stands_taken p site rose marks s owns grew was played stands =
    let one = are_others_marks p site marks owns grew in
    let P : List Mark → Type 0 = λ l. IsPlayed l in
    let m : Meanwhile site (entries_of (seen_by p)) (entries_of (seen_by p ++ one.0)) = one_while site (seen_by p) one.0 was (subst P one.1 played) one.2 in
    let there : StandsAlike (scenario_of (seen_by p)) (entries_of (seen_by p ++ one.0)) site rose s =
    stands_same (scenario_of (seen_by p)) (entries_of (seen_by p)) (entries_of (seen_by p ++ one.0)) site rose s (moves_meanwhile (scenario_of (seen_by p)) (entries_of (seen_by p)) (entries_of (seen_by p ++ one.0)) site m) stands in
    let R : Scenario → Type 0 = λ sc. StandsAlike sc (entries_of (seen_by p ++ one.0)) site rose s in
    let S : List Mark → Type 0 = λ l. StandsAlike (scenario_of l) (entries_of l) site rose s in
    subst S (sym one.1) (subst R (sym (scenario_stays (seen_by p) one.0 was).0) there)

-- behind what is freed there the scenario and the history are the same
pub freed_same : (marks freed : List Mark) (site : ℕ) → IsPlayed marks → freed ≡ marks ++ mark.Freed site ∷ [] → (P : Scenario → List Entry → Type 0) →
    P (scenario_of marks) (entries_of marks) → P (scenario_of freed) (entries_of freed)
freed_same marks freed site played free P was =
    let keys : scenario_of freed ≡ scenario_of marks = ap (λ (l : List Mark). scenario_of l) free ∙ (scenario_stays marks (mark.Freed site ∷ []) played).0 in
    let entries : entries_of freed ≡ entries_of marks = ap (λ (l : List Mark). entries_of l) free ∙ entries_freed marks site in
    subst (λ (sc : Scenario). P sc (entries_of freed)) (sym keys) (subst (λ (h : List Entry). P (scenario_of marks) h) (sym entries) was)

-- so many places are promised to it there too
pub places_taken : (p : APass) (site n : ℕ) (marks : List Mark) → Owns p site → GrewByOthers belongs p marks → n ≤ (note_of site (seen_by p)).places → n ≤ (note_of site marks).places
places_taken p site n marks owns grew few =
    let one = are_others_marks p site marks owns grew in
    let same : note_of site marks ≡ note_of site (seen_by p) = ap (λ (l : List Mark). note_of site l) one.1 ∙ notes_stay site (seen_by p) one.0 one.2 in
    let P : Note → Type 0 = λ w. n ≤ w.places in
    subst P (sym same) few

-- what was added to a batch
abbrev pub Added : {D : Type 0} → (D → Meters) → LogState D → Scenario → List Entry → ℕ → List Record → List Mark → ℕ → List Input → Result ℕ InputFault → Batch → SiteView →
    List Mark → Type 0
Added meters on_disk sc h site rose marks first inputs answer batch s now =
    (n : ℕ) × AreAdded meters on_disk sc h site inputs answer n × IsBatch meters on_disk sc h site rose marks first (take n inputs) batch s now

pub planned : {D : Type 0} (meters : D → Meters) (on_disk : LogState D) (p : APass) (site : ℕ) (rose : List Record) (first : ℕ) (inputs : List Input) (answer : Result ℕ InputFault) (batch : Batch) (s : SiteView) (marks freed shared now : List Mark) →
    GrewByOthers belongs p marks → IsPlayed marks → freed ≡ marks ++ mark.Freed site ∷ [] → now ≡ shared →
    Added meters on_disk (scenario_of freed) (entries_of freed) site rose freed first inputs answer batch s shared →
    HasPlanned meters on_disk p site rose first inputs answer batch s now
planned meters on_disk p site rose first inputs answer batch s marks freed shared now grew played free is added =
    let done : List Input = take added.0 inputs in
    let keys : scenario_of freed ≡ scenario_of marks = ap (λ (l : List Mark). scenario_of l) free ∙ (scenario_stays marks (mark.Freed site ∷ []) played).0 in
    let entries : entries_of freed ≡ entries_of marks = ap (λ (l : List Mark). entries_of l) free ∙ entries_freed marks site in
    let P : List Mark → Type 0 = λ l. IsBatch meters on_disk (scenario_of freed) (entries_of freed) site rose freed first done batch s l in
    let Q : Scenario → Type 0 = λ sc. IsBatch meters on_disk sc (entries_of freed) site rose freed first done batch s now in
    let R : List Entry → Type 0 = λ h. IsBatch meters on_disk (scenario_of marks) h site rose freed first done batch s now in
    let S : List Mark → Type 0 = λ l. IsBatch meters on_disk (scenario_of marks) (entries_of marks) site rose l first done batch s now in
    let T : Scenario → Type 0 = λ sc. AreAdded meters on_disk sc (entries_of freed) site inputs answer added.0 in
    let U : List Entry → Type 0 = λ h. AreAdded meters on_disk (scenario_of marks) h site inputs answer added.0 in
    record {
      between = marks;
      grew = grew;
      played = played;
      count = added.0;
      added = subst U entries (subst T keys added.1);
      made = subst S free (subst R entries (subst Q keys (subst P (sym is) added.2)));
    }

-- what is freed and claimed is of the pass
pub claims_grew : {D : Type 0} (meters : D → Meters) (on_disk : LogState D) (p q : APass) (site : ℕ) (rose : List Record) (first : ℕ) (inputs : List Input) (answer : Result ℕ InputFault) (batch : Batch) (s : SiteView) (marks freed now : List Mark) →
    Owns p site → SameOwners p q → seen_by q ≡ marks → freed ≡ marks ++ mark.Freed site ∷ [] →
    Added meters on_disk (scenario_of freed) (entries_of freed) site rose freed first inputs answer batch s now → GrewByOwners belongs q now
claims_grew meters on_disk p q site rose first inputs answer batch s marks freed now owns same seen free added =
    let steps : List Entry = unnumbered_steps (scenario_of freed) (entries_of freed) site (take added.0 inputs) in
    let has : 0 < count_of site (owners_of q) = subst (λ (l : List ℕ). 0 < count_of site l) (sym same.owners) owns in
    grew_own (last_of q) (owners_of q) (seen_by q) marks now (mark.Freed site ∷ claims_for steps) seen
    (added.2.claimed ∙ ap (λ (l : List Mark). l ++ claims_for steps) free ∙ append_assoc marks (mark.Freed site ∷ []) (claims_for steps))
    (own_planned (last_of q) site (owners_of q) steps has (unnumbered_own (scenario_of freed) (entries_of freed) site (take added.0 inputs)))

-- so are the entries
pub entries_grew : (p q : APass) (marks now : List Mark) (steps : List Entry) → (owned : AreOwned p steps) → SameOwners p q → seen_by q ≡ marks →
    now ≡ marks ++ marks_in (entries_of marks) steps → GrewByOwners belongs q now
entries_grew p q marks now steps owned same seen is =
    let has : 0 < count_of owned.site (owners_of q) = subst (λ (l : List ℕ). 0 < count_of owned.site l) (sym same.owners) owned.owns in
    grew_own (last_of q) (owners_of q) (seen_by q) marks now (marks_in (entries_of marks) steps) seen is
    (own_marks (last_of q) owned.site (owners_of q) (entries_of marks) steps owned.some has owned.are)
