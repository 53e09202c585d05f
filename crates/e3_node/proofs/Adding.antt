-- A batch with one input more.
use Rattle.std.proofs.Common.{◌≡◌, inl, inr, ◌≢◌, ◌+◌, ◌≤◌, ◌++◌, ◌∷◌, [], ℕ, suc, List, Option, Some, None, length, refl, sym, subst, ap, ◌∙◌, append-nil, append_assoc, length-append, arith}
use Rattle.std.specs.Prelude.{IsErrAnd, OnErr, Result, Ok, Err}
use Rattle.std.specs.List.{AllByRecursion as Each}
use Rattle.std.proofs.lemmas.Grind.{flat_map-append}
use Rattle.e3_codec.specs.Fields.{AllCanBeReadBack}
use Rattle.e3_disk.specs.Meters.{Meters}
use Rattle.e3_log.specs.Stands.{LogState}
use Rattle.e3_node.specs.Batched.{HasNoMoreRoom, IsBatch, OnlyForMemory, first_of}
use Rattle.e3_node.specs.Batches.{inputs_in, unnumbered_of, unnumbered_steps, stepped}
use Rattle.e3_node.specs.Briefing.{BriefsAreTold, HasBody, IsBriefOf}
use Rattle.e3_node.specs.Drafts.{IsAsBefore, IsReady}
use Rattle.e3_node.specs.Ends.{input_fault_of}
use Rattle.e3_node.specs.Several.{claims_for}
use Rattle.e3_node.specs.Telling.{IsOfSite}
use Rattle.e3_node.specs.declared.batching.Batch.{Batch}
use Rattle.e3_node.specs.declared.drafts.Draft.{Draft}
use Rattle.e3_node.specs.declared.fault.InputFault.{InputFault}
use Rattle.e3_site.specs.SiteView.{SiteView, Stands as SiteStands, count_on, entry_of_plan, planned_step, step_kept, with_step}
use Rattle.e3_site.specs.StandsAlike.{IsLogInOrder, StandsAlike, now_with}
use Rattle.e3_site.proofs.Alike.{on, plans}
use Rattle.e3_types.specs.Spelling.{spell_record, spelling}
use Rattle.e3_types.specs.declared.entries.Entry.{Entry}
use Rattle.e3_types.specs.declared.entries.Input.{Input}
use Rattle.e3_types.specs.declared.records.Record.{Record}
use Rattle.e3_types.specs.declared.scenarios.Scenario.{Scenario}
use Rattle.e3_wire.specs.declared.fault.WireFault.{WireFault}
use Rattle.e3_wire.specs.declared.fault.WireFault.TheVariants as wire_fault
use Rattle.e3_wire.specs.declared.marks.Mark.{Mark}
use Rattle.e3_wire.specs.declared.marks.Mark.TheVariants as mark
use Rattle.e3_world.specs.Legal.{entry_of, made_by, records_by}
use Rattle.e3_world.specs.Moves.{log_of}
use Rattle.e3_world.specs.declared.lives.Incarnation.{Incarnation}
use Rattle.e3_world.specs.declared.lives.SiteStep.{SiteStep}
use Rattle.e3_node.proofs.Batches.{unnumbered_push, records_push, stepped_push}
use Rattle.e3_node.proofs.Bundles.{unnumbered_length, steps_log}
use Rattle.e3_node.specs.site_log.Ends.{HasRoom, HasRoomUnlessShort, IsShortIf}
use Rattle.e3_node.specs.declared.site_log.writing.Short.{Short}
use Rattle.e3_node.proofs.site_log.Holding.{back_both}
use Rattle.e3_node.proofs.Several.{claims_push}
use Rattle.e3_node.proofs.Steps.{IsMade, counted_once}

each_left : {X : Type 0} (P : X → Type 0) (xs ys : List X) → Each P (xs ++ ys) → Each P xs
each_left P [] ys all = tt
each_left P (x ∷ xs) ys all = (all.0, each_left P xs ys all.1)

each_right : {X : Type 0} (P : X → Type 0) (xs ys : List X) → Each P (xs ++ ys) → Each P ys
each_right P [] ys all = all
each_right P (x ∷ xs) ys all = each_right P xs ys all.1

-- the inputs of its steps are those that it has
pub inputs_done : (sc : Scenario) (h : List Entry) (site : ℕ) (done : List Input) → inputs_in (unnumbered_steps sc h site done) ≡ done
inputs_done sc h site [] = refl
inputs_done sc h site (i ∷ done) = ap (λ (l : List Input). i ∷ l) (inputs_done sc (h ++ entry_of sc h site i ∷ []) site done)

-- the entry of a step that the history makes
step_unnumbered : (sc : Scenario) (h : List Entry) (site : ℕ) (i : Input) (step : SiteStep) → step ≡ step_kept i (made_by sc h site i) →
    entry_of_plan site i step ≡ unnumbered_of site i (made_by sc h site i)
step_unnumbered sc h site i step is = ap (λ (p : SiteStep). entry_of_plan site i p) is

-- what is said of a refusal
pub err_so : {A : Type 0} (r : Result A InputFault) (X : Type 0) → X → OnErr r X
err_so (Ok done) X is = tt
err_so (Err fault) X is = is

-- a claim was refused where a place was left: for want of memory
pub claim_refused : {A : Type 0} (w : WireFault) (r : Result A InputFault) → IsErrAnd r (λ f. f ≡ input_fault_of w) → (w ≡ wire_fault.HistoryFull → ⊥) → OnlyForMemory r
claim_refused w (Ok done) is never = absurd is
claim_refused wire_fault.HistoryFull (Err fault) is never = absurd (never refl)
claim_refused {A} wire_fault.NoMemory (Err fault) is never =
    let P : InputFault → Type 0 = λ f. let r : Result A InputFault = Err f in OnlyForMemory r in subst P (sym is) tt

-- what a draft has is what the history makes
made_behind : (sc : Scenario) (h : List Entry) (site : ℕ) (rose : List Record) (s t : SiteView) (i : Input) (d : Draft) → StandsAlike sc h site rose s →
    IsLogInOrder site (log_of sc h site) → IsReady (now_with rose sc h s.site) i s t d → IsMade sc h site i d
made_behind sc h site rose s t i d stands order ready = record {
  step_is = step_is;
  inputs_are = ready.drafted.inputs_are;
  back = subst (λ (p : SiteStep). Each (IsOfSite site) p.records → AllCanBeReadBack site p.records) step_is (ready.drafted.back site);
}
  where
    step_is : d.plan.step ≡ step_kept i (made_by sc h site i)
    step_is = ready.made ∙ ap (λ (n : ℕ). planned_step (now_with rose sc h n) s i) stands.site_is ∙ plans sc h site rose s i stands order

-- the first of two short logs is one of the log where both are
short_first : (site : ℕ) (l : List Record) (new old : Option Short) → IsShortIf site l new → IsShortIf site l old → IsShortIf site l (first_of new old)
short_first site l None old one two = two
short_first site l (Some s) old one two = one

body_first : (new old : Option Short) → HasBody new → HasBody old → HasBody (first_of new old)
body_first None old one two = two
body_first (Some s) old one two = one

module _ {D : Type 0} (meters : D → Meters) (on_disk : LogState D) where
  due_first : (l : List Record) (new old : Option Short) (size : ℕ) → (old ≡ None → HasRoomUnlessShort meters on_disk l new size) → HasRoomUnlessShort meters on_disk l (first_of new old) size
  due_first l None None size due = due refl
  due_first l None (Some s) size due = tt
  due_first l (Some s) old size due = tt

  -- without a short log the frame behind a log that is not empty has room
  pub has_room : (l : List Record) (short : Option Short) (size : ℕ) → short ≡ None → HasRoomUnlessShort meters on_disk l short size → l ≢ [] → HasRoom meters on_disk size
  has_room l None size none (inl room) some = room
  has_room l None size none (inr empty) some = absurd (some empty)
  has_room l (Some s) size none due some = absurd cc

  module _ (sc : Scenario) (h : List Entry) (site : ℕ) (rose : List Record) (marks : List Mark) (first : ℕ) (done : List Input) where
    -- spare memory is nothing to a batch
    pub batch_same : (b c : Batch) (s t : SiteView) (now then : List Mark) → IsBatch meters on_disk sc h site rose marks first done b s now → c.steps.items ≡ b.steps.items →
        c.records ≡ b.records → c.body ≡ b.body → c.short ≡ b.short → IsAsBefore s t → then ≡ now → IsBatch meters on_disk sc h site rose marks first done c t then
    batch_same b c s t now then was steps records body short is same = record {
      steps_are = steps ∙ was.steps_are;
      records_are = records ∙ was.records_are;
      body_is = body ∙ was.body_is;
      back = was.back;
      stands = is.stands sc (stepped sc h site done) site rose was.stands;
      inputs = let P : ℕ → Type 0 = λ n. n ≤ first + length done in subst P (sym (ap (λ (v : SiteView). v.inputs) is.same)) was.inputs;
      claimed = same ∙ was.claimed;
      short = let P : Option Short → Type 0 = λ o. IsShortIf site (log_of sc h site) o in subst P (sym short) was.short;
      body = subst HasBody (sym short) was.body;
      due = λ some.
          let P : Option Short → Type 0 = λ o. HasRoomUnlessShort meters on_disk (log_of sc h site) o (length c.body) in
          let Q : List ℕ → Type 0 = λ l. HasRoomUnlessShort meters on_disk (log_of sc h site) b.short (length l) in
          subst P (sym short) (subst Q (sym body) (was.due some));
    }

    pub inputs_so_far : (b : Batch) (s : SiteView) (now : List Mark) → IsBatch meters on_disk sc h site rose marks first done b s now → inputs_in b.steps.items ≡ done
    inputs_so_far b s now was = ap (λ (l : List Entry). inputs_in l) was.steps_are ∙ inputs_done sc h site done

    pub count_so_far : (b : Batch) (s : SiteView) (now : List Mark) → IsBatch meters on_disk sc h site rose marks first done b s now → length b.steps.items ≡ length done
    count_so_far b s now was = ap (λ (l : List Entry). length l) was.steps_are ∙ unnumbered_length sc h site done

    -- what its frame has with the records of one input more
    body_with : (b : Batch) (s t : SiteView) (now : List Mark) (i : Input) (d : Draft) (body : List ℕ) → IsBatch meters on_disk sc h site rose marks first done b s now →
        IsLogInOrder site (log_of sc (stepped sc h site done) site) → IsReady (now_with rose sc (stepped sc h site done) s.site) i s t d → body ≡ b.body ++ d.body →
        body ≡ spelling (records_by sc h site (done ++ i ∷ []))
    body_with b s t now i d body was order ready is =
        let mine : List Record = (made_by sc (stepped sc h site done) site i).records in
        let is_made : IsMade sc (stepped sc h site done) site i d = made_behind sc (stepped sc h site done) site rose s t i d was.stands order ready in
        let recorded : d.plan.step.records ≡ mine = ap (λ (p : SiteStep). p.records) is_made.step_is in
        is ∙ ap (λ (l : List ℕ). l ++ d.body) was.body_is ∙ ap (λ (l : List ℕ). spelling (records_by sc h site done) ++ l) (ready.drafted.body_is ∙ ap spelling recorded)
        ∙ sym (flat_map-append spell_record (records_by sc h site done) mine) ∙ ap spelling (sym (records_push sc h site done i))

    -- where that has no room, the frame takes no more
    pub no_more_room : (b : Batch) (s t : SiteView) (now : List Mark) (i : Input) (d : Draft) (body : List ℕ) → IsBatch meters on_disk sc h site rose marks first done b s now →
        IsLogInOrder site (log_of sc (stepped sc h site done) site) → IsReady (now_with rose sc (stepped sc h site done) s.site) i s t d → body ≡ b.body ++ d.body →
        b.records ≢ [] → b.short ≡ None → (HasRoom meters on_disk (length body) → ⊥) →
        HasNoMoreRoom meters on_disk (record { scenario = sc; history = h; site = site; rose = rose; marks = marks; first = first; done = done }) i
    no_more_room b s t now i d body was order ready is some plain none =
        let P : List ℕ → Type 0 = λ l. HasRoom meters on_disk (length l) → ⊥ in
        let R : List ℕ → Type 0 = λ l. HasRoom meters on_disk (length l) in
        let recorded : records_by sc h site done ≢ [] = λ nothing. some (was.records_are ∙ nothing) in (
          recorded,
          λ logged. subst R was.body_is (has_room (log_of sc h site) b.short (length b.body) plain (was.due recorded) logged),
          subst P (body_with b s t now i d body was order ready is) none,
        )

    -- while nothing is recorded, the site tells the brief of the log before the batch
    pub brief_so_far : (b : Batch) (s t : SiteView) (now : List Mark) → IsBatch meters on_disk sc h site rose marks first done b s now →
        BriefsAreTold sc (stepped sc h site done) site rose → IsAsBefore s t → b.records ≡ [] → IsBriefOf t (log_of sc h site)
    brief_so_far b s t now was told is none =
        let same : log_of sc (stepped sc h site done) site ≡ log_of sc h site =
        steps_log sc h site done ∙ ap (λ (rs : List Record). log_of sc h site ++ rs) (sym was.records_are ∙ none) ∙ append-nil (log_of sc h site) in
        subst (λ (l : List Record). IsBriefOf t l) same (told t (is.stands sc (stepped sc h site done) site rose was.stands))

    -- with the step of one input more
    pub batch_added : (b c : Batch) (s t new : SiteView) (now then : List Mark) (outs : ℕ) (i : Input) (d : Draft) (made : SiteStep) (step : Entry) (short : Option Short) →
        IsBatch meters on_disk sc h site rose marks first done b s now → IsLogInOrder site (log_of sc (stepped sc h site done) site) →
        BriefsAreTold sc (stepped sc h site done) site rose → IsReady (now_with rose sc (stepped sc h site done) s.site) i s t d → IsAsBefore s t →
        made ≡ d.plan.step →
        ((now : Incarnation) (input : Input) → SiteStands now t → d.plan.step ≡ planned_step now t input → SiteStands (with_step now d.plan.step) new) →
        new.weights ≡ t.weights → new.site ≡ t.site → new.inputs ≡ count_on t.inputs → step ≡ entry_of_plan site i made → outs ≡ length d.plan.step.outs →
        c.steps.items ≡ b.steps.items ++ step ∷ [] → c.records ≡ b.records ++ d.plan.step.records → c.body ≡ b.body ++ d.body → c.short ≡ first_of short b.short →
        ((l : List Record) → (b.records ≡ [] → IsBriefOf t l) → IsShortIf t.site l short) → HasBody short →
        ((l : List Record) → (b.records ≡ [] → IsBriefOf t l) → c.records ≢ [] → b.short ≡ None → HasRoomUnlessShort meters on_disk l short (length c.body)) →
        then ≡ now ++ mark.Place site outs ∷ [] → IsBatch meters on_disk sc h site rose marks first (done ++ i ∷ []) c new then
    batch_added b c s t new now then outs i d made step short was order told ready still made_is go weights number counted step_is outs_are steps records body shorts is_short has_body due claim = record {
      steps_are = steps ∙ ap (λ (l : List Entry). l ++ step ∷ []) was.steps_are ∙ ap (λ (x : Entry). unnumbered_steps sc h site done ++ x ∷ []) entry ∙ sym (unnumbered_push sc h site done i);
      records_are = records_now;
      body_is = body_with b s t now i d c.body was order ready body;
      back =
          let P : List Record → Type 0 = λ rs. Each (IsOfSite site) rs → AllCanBeReadBack site rs in
          subst P (sym (records_push sc h site done i)) (λ own.
          back_both site (records_by sc h site done) mine (was.back (each_left (IsOfSite site) (records_by sc h site done) mine own))
          (is_made.back (each_right (IsOfSite site) (records_by sc h site done) mine own)));
      stands =
          let Q : List Entry → Type 0 = λ k. StandsAlike sc k site rose new in
          let ready_still : StandsAlike sc here site rose t = still.stands sc here site rose was.stands in
          subst Q (sym (stepped_push sc h site done i))
          (on sc here site rose i t new d.plan.step ready_still is_made.step_is weights number (go (now_with rose sc here site) i ready_still.stands (is_made.step_is ∙ sym (plans sc here site rose t i ready_still order))));
      inputs =
          let few : s.inputs ≤ first + length done = was.inputs in
          let same : t.inputs ≡ s.inputs = ap (λ (v : SiteView). v.inputs) still.same in
          let one : count_on t.inputs ≤ suc t.inputs = counted_once t.inputs in
          let long : length (done ++ i ∷ []) ≡ length done + 1 = length-append done (i ∷ []) in
          omega (arith, few, same, one, long, counted);
      claimed =
          claim ∙ ap (λ (l : List Mark). l ++ mark.Place site outs ∷ []) was.claimed
          ∙ append_assoc marks (claims_for (unnumbered_steps sc h site done)) (mark.Place site outs ∷ [])
          ∙ ap (λ (l : List Mark). marks ++ l) (ap (λ (n : ℕ). claims_for (unnumbered_steps sc h site done) ++ mark.Place site n ∷ [])
          (outs_are ∙ ap (λ (p : SiteStep). length p.outs) is_made.step_is)
          ∙ sym (claims_push (unnumbered_steps sc h site done) (unnumbered_of site i (made_by sc here site i))) ∙ ap claims_for (sym (unnumbered_push sc h site done i)));
      short =
          let P : ℕ → Type 0 = λ n. IsShortIf n l short in
          let Q : Option Short → Type 0 = λ o. IsShortIf site l o in
          subst Q (sym shorts) (short_first site l short b.short (subst P there (is_short l brief)) was.short);
      body = subst HasBody (sym shorts) (body_first short b.short has_body was.body);
      due = λ some.
          let Q : Option Short → Type 0 = λ o. HasRoomUnlessShort meters on_disk l o (length c.body) in
          subst Q (sym shorts) (due_first l short b.short (length c.body) (due l brief (λ none. some (sym records_now ∙ none))));
    }
      where
        here : List Entry
        here = stepped sc h site done

        l : List Record
        l = log_of sc h site

        mine : List Record
        mine = (made_by sc here site i).records

        is_made : IsMade sc here site i d
        is_made = made_behind sc here site rose s t i d was.stands order ready

        recorded : d.plan.step.records ≡ mine
        recorded = ap (λ (p : SiteStep). p.records) is_made.step_is

        records_now : c.records ≡ records_by sc h site (done ++ i ∷ [])
        records_now = records ∙ ap (λ (x : List Record). x ++ d.plan.step.records) was.records_are ∙ ap (λ (x : List Record). records_by sc h site done ++ x) recorded
            ∙ sym (records_push sc h site done i)

        entry : step ≡ unnumbered_of site i (made_by sc here site i)
        entry = step_is ∙ step_unnumbered sc here site i made (made_is ∙ is_made.step_is)

        there : t.site ≡ site
        there = ap (λ (v : SiteView). v.site) still.same ∙ was.stands.site_is

        brief : b.records ≡ [] → IsBriefOf t l
        brief none = brief_so_far b s t now was told still none
