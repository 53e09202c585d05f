-- What is shared behind a claim, and behind the entry that it was made for.
use Rattle.std.proofs.Common.{◌≡◌, ◌==◌, ◌||◌, ◌+◌, ◌-◌, ◌^◌, ◌<◌, ◌≤◌, ◌++◌, ◌∷◌, [], ℕ, suc, true, false, List, length, refl, sym, subst, ap, ◌∙◌, append-nil, append_assoc, arith, eq-eqb}
use Rattle.std.specs.Prelude.{Bool, Result, Ok, Err, OnOk}
use Rattle.std.proofs.lemmas.List.Elements.{All-nil, All-cons}
use Rattle.e3_laws.specs.local.Others.{Allows, numbered_on}
use Rattle.e3_node.specs.SharedStands.{HasEntered, IsClaimed, SharedGoesOn, SharedStands}
use Rattle.e3_node.specs.Rising.{RiseIsEntered, entered_by}
use Rattle.e3_node.specs.declared.rising.Raised.{Raised}
use Rattle.e3_node.specs.declared.rising.Raised.TheVariants as raised
use Rattle.e3_types.specs.declared.entries.Act.TheVariants as act
use Rattle.e3_types.specs.declared.entries.Entry.{Entry}
use Rattle.e3_types.specs.declared.entries.Input.{Input}
use Rattle.e3_types.specs.declared.entries.Told.{Told}
use Rattle.e3_types.specs.declared.entries.Why.{Why}
use Rattle.e3_types.specs.declared.messages.Packet.{Packet}
use Rattle.e3_types.specs.declared.records.Record.{Record}
use Rattle.e3_wire.specs.declared.fault.WireFault.{WireFault}
use Rattle.e3_wire.specs.Claims.{HasOwner, HaveGrown}
use Rattle.e3_wire.specs.Marks.{NothingIsPromised, UsesAll, entries_of, last_owner, most_of, note_of, nothing, scenario_of, used_by, used_of}
use Rattle.e3_wire.specs.declared.marks.Note.{Note}
use Rattle.e3_wire.specs.Wires.{IsPlayed, MayEnterBehind, TakesInTurn}
use Rattle.e3_wire.specs.declared.marks.Mark.{Mark}
use Rattle.e3_wire.specs.declared.marks.Mark.TheVariants as mark
use Rattle.e3_wire.proofs.Claimed.{claimed_entries_may_enter}
use Rattle.e3_wire.proofs.Foreign.{entries_append}
use Rattle.e3_wire.proofs.Notes.{claim_promises, nothing_promised, scenario_stays}
use Rattle.e3_wire.proofs.Spending.{claims_are_used}
use Rattle.e3_world.specs.Items.{inputs_of}
use Rattle.e3_world.specs.Packets.{outs_of}

-- only entries count
pub used_is : (marks : List Mark) → SharedStands marks → used_of marks ≡ length (entries_of marks)
used_is marks stands = nothing_promised marks stands.none

pub under : (marks : List Mark) → IsPlayed marks → length (entries_of marks) ≤ most_of marks
under marks played = let all : used_of marks ≤ most_of marks = played.within in omega (arith, all)

-- nothing has grown
pub no_growth : (before now : List Mark) → now ≡ before → HaveGrown before now
no_growth before now same = ([], same ∙ sym (append-nil before), All-nil (HasOwner (last_owner before)))

-- so what stood goes on
pub still_on : (before now : List Mark) → SharedStands before → now ≡ before → SharedGoesOn before now
still_on before now stands same = record {
  stands = let P : List Mark → Type 0 = λ l. SharedStands l in subst P (sym same) stands;
  grew = no_growth before now same;
  scenario = ap (λ (l : List Mark). scenario_of l) same;
  most = ap (λ (l : List Mark). most_of l) same;
}

-- the claim changes neither the scenario nor the entries
pub record Reads (before now : List Mark) : Type 0 where
  pub keys : scenario_of now ≡ scenario_of before
  pub most : most_of now ≡ most_of before
  pub entries : entries_of now ≡ entries_of before

pub claimed_reads : (owner outs : ℕ) (before now : List Mark) → IsClaimed owner outs before now → Reads before now
claimed_reads owner outs before now claim =
    let m : Mark = mark.Place owner outs in
    let stay = scenario_stays before (m ∷ []) claim.stands.played in
    record {
      keys = ap (λ (l : List Mark). scenario_of l) claim.is ∙ stay.0;
      most = ap (λ (l : List Mark). most_of l) claim.is ∙ stay.1;
      entries = ap (λ (l : List Mark). entries_of l) claim.is ∙ entries_append before (m ∷ []) ∙ append-nil (entries_of before);
    }

-- so much is promised to its owner, and an entry with so many packets uses all of it; a fall does, and what sends none
pub claimed_note : (owner outs : ℕ) (before now : List Mark) → IsClaimed owner outs before now → note_of owner now ≡ record { places = 1; room = outs }
claimed_note owner outs before now claim =
    let plain : 0 + outs ≡ outs = omega arith in
    ap (λ (l : List Mark). note_of owner l) claim.is ∙ claim_promises owner outs before
    ∙ ap (λ (w : Note). let x : Note = record { places = suc w.places; room = w.room + outs } in x) (claim.stands.none owner claim.exists)
    ∙ ap (λ (n : ℕ). let x : Note = record { places = 1; room = n } in x) plain

pub step_used : (outs : ℕ) (i : Input) (records : List Record) (packets : List Packet) (told : List Told) → outs ≡ length packets →
    used_by (record { places = 1; room = outs }) (act.Step i records packets told) ≡ nothing
step_used outs i records packets told is =
    let none : outs - length packets ≡ 0 = omega (arith, is) in ap (λ (n : ℕ). let x : Note = record { places = 0; room = n } in x) none

pub step_uses : (owner outs : ℕ) (before now : List Mark) (i : Input) (records : List Record) (packets : List Packet) (told : List Told) →
    IsClaimed owner outs before now → outs ≡ length packets → UsesAll now (record { owner = owner; act = act.Step i records packets told })
step_uses owner outs before now i records packets told claim is =
    ap (λ (w : Note). used_by w (act.Step i records packets told)) (claimed_note owner outs before now claim) ∙ step_used outs i records packets told is

pub fall_used : (outs : ℕ) (inputs : List Input) (records : List Record) (why : Why) → length inputs ≡ 1 →
    used_by (record { places = 1; room = outs }) (act.Fall inputs records why) ≡ nothing
fall_used outs inputs records why one =
    let none : 1 - length inputs ≡ 0 = omega (arith, one) in ap (λ (n : ℕ). let x : Note = record { places = n; room = 0 } in x) none

pub fall_uses : (owner outs : ℕ) (before now : List Mark) (inputs : List Input) (records : List Record) (why : Why) → length inputs ≡ 1 → IsClaimed owner outs before now →
    UsesAll now (record { owner = owner; act = act.Fall inputs records why })
fall_uses owner outs before now inputs records why one claim =
    ap (λ (w : Note). used_by w (act.Fall inputs records why)) (claimed_note owner outs before now claim) ∙ fall_used outs inputs records why one

-- an allowed entry may be entered behind its claim
pub may_enter : (before now : List Mark) (outs : ℕ) (e : Entry) → IsClaimed e.owner outs before now → 1 ≤ e.owner → Allows (scenario_of before) (entries_of before) e →
    TakesInTurn (scenario_of before) (entries_of before) e.owner (inputs_of e.act) → length (outs_of e.act) ≤ outs → outs < 2 ^ 32 → MayEnterBehind now e
may_enter before now outs e claim site may takes few small =
    let P : List Mark → Type 0 = λ l. MayEnterBehind l e in
    subst P (sym claim.is) (claimed_entries_may_enter e outs before claim.stands.played site claim.exists may takes few small)

pub has_entered : (before now after : List Mark) (outs : ℕ) (e : Entry) → IsClaimed e.owner outs before now → UsesAll now e →
    after ≡ now ++ mark.Entered (numbered_on (entries_of now) e) ∷ [] → IsPlayed after → HasEntered e before after
has_entered before now after outs e claim all_used is played = record {
  on = record {
    stands = record {
      played = played;
      within = under after played;
      none =
          let P : List Mark → Type 0 = λ l. NothingIsPromised l in
          subst P (sym is) (claims_are_used before now outs e claim.is claim.stands.none all_used);
    };
    grew = (
      P ∷ E ∷ [],
      all,
      All-cons (HasOwner (last_owner before)) P (E ∷ []) (e.owner, claim.exists, eq-eqb e.owner e.owner refl)
          (All-cons (HasOwner (last_owner before)) E [] (e.owner, claim.exists, rw (eq-eqb e.owner e.owner refl) (either (e.owner == 0)))
          (All-nil (HasOwner (last_owner before)))),
    );
    scenario = ap (λ (l : List Mark). scenario_of l) all ∙ stay.0;
    most = ap (λ (l : List Mark). most_of l) all ∙ stay.1;
  };
  entries =
      ap (λ (l : List Mark). entries_of l) all ∙ entries_append before (P ∷ E ∷ [])
      ∙ ap (λ (h : List Entry). entries_of before ++ numbered_on h e ∷ []) (claimed_reads e.owner outs before now claim).entries;
}
  where
    P : Mark
    P = mark.Place e.owner outs

    E : Mark
    E = mark.Entered (numbered_on (entries_of now) e)

    all : after ≡ before ++ P ∷ E ∷ []
    all = is ∙ ap (λ (l : List Mark). l ++ E ∷ []) claim.is ∙ append_assoc before (P ∷ []) (E ∷ [])

    stay : (scenario_of (before ++ P ∷ E ∷ []) ≡ scenario_of before) × (most_of (before ++ P ∷ E ∷ []) ≡ most_of before)
    stay = scenario_stays before (P ∷ E ∷ []) claim.stands.played

    either : (b : Bool) → (b || true) ≡ true
    either true = refl
    either false = refl

-- the entry under another name
pub has_from : (before claimed now : List Mark) (outs : ℕ) (x e : Entry) → x ≡ e → IsClaimed e.owner outs before claimed →
    ((b : List Mark) (n : ℕ) → IsClaimed x.owner n b claimed → HasEntered x b now) → HasEntered e before now
has_from before claimed now outs x e same claim enters =
    let P : Entry → Type 0 = λ y. HasEntered y before now in
    let Q : Entry → Type 0 = λ y. IsClaimed y.owner outs before claimed in
    subst P same (enters before outs (subst Q (sym same) claim))

-- what a claim was answered
pub claim_told : (before now : List Mark) (owner outs : ℕ) (r : Result (Unit {0}) WireFault) → SharedStands before → owner ≤ last_owner before →
    OnOk r (now ≡ before ++ mark.Place owner outs ∷ []) → OnOk r (IsClaimed owner outs before now)
claim_told before now owner outs (Ok done) stands exists is = record { stands = stands; exists = exists; is = is }
claim_told before now owner outs (Err fault) stands exists is = tt

-- what became of a rise is entered
entered_rise : (site : ℕ) (r : Raised) (e : Entry) (before now : List Mark) → HasEntered e before now → numbered_on (entries_of before) e ≡ e → e ∷ [] ≡ entered_by site r →
    RiseIsEntered site r before now
entered_rise site r e before now has plain one = record {
  on = has.on;
  entries = has.entries ∙ ap (λ (x : Entry). entries_of before ++ x ∷ []) plain ∙ ap (λ (l : List Entry). entries_of before ++ l) one;
}

pub rose_entered : (site : ℕ) (kept : Bool) (inc : ℕ) (before now : List Mark) → HasEntered (record { owner = site; act = act.Rise kept inc }) before now →
    RiseIsEntered site (raised.Risen kept inc) before now
rose_entered site kept inc before now has = entered_rise site (raised.Risen kept inc) (record { owner = site; act = act.Rise kept inc }) before now has refl refl

pub failed_entered : (site : ℕ) (kept : Bool) (inc : ℕ) (why : Why) (before now : List Mark) → HasEntered (record { owner = site; act = act.RiseFall kept inc why }) before now →
    RiseIsEntered site (raised.Failed kept inc why) before now
failed_entered site kept inc why before now has = entered_rise site (raised.Failed kept inc why) (record { owner = site; act = act.RiseFall kept inc why }) before now has refl refl

pub missed_entered : (site : ℕ) (before now : List Mark) → HasEntered (record { owner = site; act = act.Miss }) before now → RiseIsEntered site raised.Missed before now
missed_entered site before now has = entered_rise site raised.Missed (record { owner = site; act = act.Miss }) before now has refl refl

-- or taken back
pub withdrawn_rise : (site : ℕ) (r : Raised) (before now : List Mark) → SharedStands before → now ≡ before → entered_by site r ≡ [] → RiseIsEntered site r before now
withdrawn_rise site r before now stands is none = record {
  on = still_on before now stands is;
  entries = ap (λ (l : List Mark). entries_of l) is ∙ sym (append-nil (entries_of before)) ∙ ap (λ (l : List Entry). entries_of before ++ l) (sym none);
}
