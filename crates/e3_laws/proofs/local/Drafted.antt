-- What a site may enter stays so behind entries of others, and is allowed where its packets are pending.
use Rattle.std.proofs.Common.{◌≡◌, ◌++◌, ◌∷◌, [], inl, ℕ, zero, suc, false, List, ◌∙◌, ap, sym}
use Rattle.e3_types.specs.declared.entries.Act.{Act}
use Rattle.e3_types.specs.declared.entries.Act.TheVariants.{Step, Fall, Rise, RiseFall, Miss, Cut, Drop, Parts, Line}
use Rattle.e3_types.specs.declared.entries.Entry.{Entry}
use Rattle.e3_types.specs.declared.entries.Input.{Input}
use Rattle.e3_types.specs.declared.entries.Input.TheVariants as input
use Rattle.e3_types.specs.declared.scenarios.Scenario.{Scenario}
use Rattle.e3_world.specs.declared.lives.Made.{Made}
use Rattle.e3_world.specs.Items.{inputs_of}
use Rattle.e3_world.specs.Legal.{AreDue, Guard, IsDue, entry_of}
use Rattle.e3_world.specs.Packets.{is_calm, present_items}
use Rattle.e3_laws.specs.local.Claims.{DraftsAreAllowed, DraftsStay}
use Rattle.e3_laws.specs.local.Drafts.{MayEnter, MayTake, MayTakeAll}
use Rattle.e3_laws.specs.local.Others.{AreWaiting, IsWaiting, numbered_on}
use Rattle.e3_laws.proofs.local.Alike.{Alike, all_on, made_same, step_on}
use Rattle.e3_laws.proofs.local.Due.{calm_on, next_on, records_same, through_on}
use Rattle.e3_laws.proofs.local.Laws.{legal_behind}
use Rattle.e3_laws.proofs.local.Rises.{SameRises, cut_on, rise_on, rises_on, rising_on}

take_on : (sc : Scenario) (site : ℕ) (p h : List Entry) (i : Input) → Alike sc site p h → MayTake sc p site i → MayTake sc h site i
take_on sc site p h (input.Begin sites) a may = next_on sc site p h (input.Begin sites) a may
take_on sc site p h (input.Do t op) a may = next_on sc site p h (input.Do t op) a may
take_on sc site p h (input.Commit t) a may = next_on sc site p h (input.Commit t) a may
take_on sc site p h (input.Cancel t) a may = next_on sc site p h (input.Cancel t) a may
take_on sc site p h (input.Expire t) a may = next_on sc site p h (input.Expire t) a may
take_on sc site p h (input.Elect t group) a may = next_on sc site p h (input.Elect t group) a may
take_on sc site p h (input.Deliver packet) a may = (may.0, through_on sc site p h a may.1)

takes_on : (sc : Scenario) (site : ℕ) (p h : List Entry) (inputs : List Input) → Alike sc site p h → MayTakeAll sc p site inputs → MayTakeAll sc h site inputs
takes_on sc site p h [] a may = tt
takes_on sc site p h (i ∷ inputs) a may = (
  take_on sc site p h i a may.0,
  takes_on sc site (p ++ entry_of sc p site i ∷ []) (h ++ entry_of sc h site i ∷ []) inputs (step_on sc site p h i a) may.1,
)

pub may_on : (sc : Scenario) (o : ℕ) (act : Act) (p h : List Entry) → Alike sc o p h → SameRises o p h →
    MayEnter sc p (record { owner = o; act = act }) → MayEnter sc h (record { owner = o; act = act })
may_on sc zero act p h a rises may = absurd may
may_on sc (suc s) (Step i records outs events) p h a rises may = record {
  up = a.up ∙ may.up;
  due = take_on sc (suc s) p h i a may.due;
  made = may.made ∙ ap (λ (w : Made). record { owner = suc s; act = Step i w.records w.outs w.told }) (sym (made_same sc (suc s) p h i a));
}
may_on sc (suc s) (Fall inputs records why) p h a rises may = record {
  up = a.up ∙ may.up;
  due = takes_on sc (suc s) p h inputs a may.due;
  some = may.some;
  made = may.made ∙ sym (records_same sc (suc s) p h inputs a);
}
may_on sc (suc s) Cut p h a rises may = cut_on sc (suc s) p h a may
may_on sc (suc s) (Rise kept inc) p h a rises may = rise_on sc (suc s) p h kept inc a rises may
may_on sc (suc s) (RiseFall kept inc why) p h a rises may = rise_on sc (suc s) p h kept inc a rises may
may_on sc (suc s) Miss p h a rises may = rising_on sc (suc s) p h a rises may
may_on sc (suc s) (Drop packet) p h a rises may = absurd may
may_on sc (suc s) (Parts parts) p h a rises may = absurd may
may_on sc (suc s) (Line number) p h a rises may = absurd may

pub drafts_stay : DraftsStay
drafts_stay sc h more e given legal others may =
    may_on sc e.owner e.act h (h ++ more) (all_on sc e.owner h more given (legal_behind sc [] h more legal) others) (rises_on e.owner h more others) may

due_by : (sc : Scenario) (h : List Entry) (site : ℕ) (i : Input) → is_calm (present_items sc h) ≡ false → MayTake sc h site i → IsWaiting sc h i → IsDue sc h site i
due_by sc h site (input.Begin sites) calm may waits = may
due_by sc h site (input.Do t op) calm may waits = may
due_by sc h site (input.Commit t) calm may waits = may
due_by sc h site (input.Cancel t) calm may waits = may
due_by sc h site (input.Expire t) calm may waits = may
due_by sc h site (input.Elect t group) calm may waits = inl may
due_by sc h site (input.Deliver packet) calm may waits = record {
  to = may.0;
  is_pending = waits;
  behind_items = may.1;
  in_order = λ still. absurd cc;
}

dues_by : (sc : Scenario) (h : List Entry) (site : ℕ) (inputs : List Input) → is_calm (present_items sc h) ≡ false → MayTakeAll sc h site inputs → AreWaiting sc h site inputs → AreDue sc h site inputs
dues_by sc h site [] calm may waits = tt
dues_by sc h site (i ∷ inputs) calm may waits = (
  due_by sc h site i calm may.0 waits.0,
  dues_by sc (h ++ entry_of sc h site i ∷ []) site inputs (calm_on sc h site i calm) may.1 waits.1,
)

allowed_by : (sc : Scenario) (h : List Entry) (o : ℕ) (act : Act) → is_calm (present_items sc h) ≡ false → MayEnter sc h (record { owner = o; act = act }) →
    AreWaiting sc h o (inputs_of act) → Guard sc h (numbered_on h (record { owner = o; act = act }))
allowed_by sc h zero act calm may waits = absurd may
allowed_by sc h (suc s) (Step i records outs events) calm may waits = record {
  up = may.up;
  due = due_by sc h (suc s) i calm may.due waits.0;
  made = ap (numbered_on h) may.made;
}
allowed_by sc h (suc s) (Fall inputs records why) calm may waits = record {
  up = may.up;
  due = dues_by sc h (suc s) inputs calm may.due waits;
  some = may.some;
  made = may.made;
}
allowed_by sc h (suc s) Cut calm may waits = may
allowed_by sc h (suc s) (Rise kept inc) calm may waits = may
allowed_by sc h (suc s) (RiseFall kept inc why) calm may waits = may
allowed_by sc h (suc s) Miss calm may waits = may
allowed_by sc h (suc s) (Drop packet) calm may waits = absurd may
allowed_by sc h (suc s) (Parts parts) calm may waits = absurd may
allowed_by sc h (suc s) (Line number) calm may waits = absurd may

pub drafts_are_allowed : DraftsAreAllowed
drafts_are_allowed sc h e calm may waits = allowed_by sc h e.owner e.act calm may waits
