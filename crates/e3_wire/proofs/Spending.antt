-- What is used, and how a claim is used up.
use Rattle.std.proofs.Common.{◌≡◌, ◌==◌, ◌-◌, ◌≤◌, ℕ, suc, Bool, true, false, List, [], ◌∷◌, ◌++◌, append_assoc, length, ◌∙◌, ap, sym, subst, refl, arith, eqb-true}
use Rattle.std.specs.Prelude.{All, if◌then◌else◌}
use Rattle.std.proofs.lemmas.List.Elements.{All-append}
use Rattle.e3_types.specs.declared.entries.Act.{Act}
use Rattle.e3_types.specs.declared.entries.Act.TheVariants.{Step, Fall, Rise, RiseFall, Miss, Cut, Drop, Parts, Line}
use Rattle.e3_types.specs.declared.entries.Entry.{Entry}
use Rattle.e3_types.specs.declared.scenarios.Scenario.{Scenario}
use Rattle.e3_laws.specs.local.Others.{numbered_on}
use Rattle.e3_world.specs.Packets.{sent}
use Rattle.e3_wire.specs.Claims.{ClaimsAreUsed, EntriesPromiseNothing, GrowthAddsUp, HasOwner}
use Rattle.e3_wire.specs.declared.marks.Mark.{Mark}
use Rattle.e3_wire.specs.declared.marks.Mark.TheVariants as mark
use Rattle.e3_wire.specs.Marks.{entries_of, last_owner, note_by, note_of, nothing, used_by}
use Rattle.e3_wire.specs.declared.marks.Note.{Note}
use Rattle.e3_wire.proofs.Notes.{scenario_stays}
use Rattle.e3_wire.proofs.Noting.{note_push}
use Rattle.e3_net.proofs.Pushing.{numbered_length}

-- what promises nothing does so behind an act
used_none : (act : Act) → used_by nothing act ≡ nothing
used_none (Step i records outs events) =
    let less : 0 - length outs ≡ 0 = omega arith in ap (λ (n : ℕ). let w : Note = record { places = 0; room = n } in w) less
used_none (Fall inputs records why) =
    let less : 0 - length inputs ≡ 0 = omega arith in ap (λ (n : ℕ). let w : Note = record { places = n; room = 0 } in w) less
used_none (Rise kept inc) = refl
used_none (RiseFall kept inc why) = refl
used_none Miss = refl
used_none Cut = refl
used_none (Drop packet) = refl
used_none (Parts parts) = refl
used_none (Line number) = refl

-- the numbers of its packets change nothing of what an act uses
pub used_numbered : (h : List Entry) (o : ℕ) (act : Act) (w : Note) → used_by w (numbered_on h (record { owner = o; act = act })).act ≡ used_by w act
used_numbered h o (Step i records outs events) w =
    ap (λ (n : ℕ). let x : Note = record { places = w.places - 1; room = w.room - n } in x) (numbered_length (suc (length (sent h))) outs)
used_numbered h o (Fall inputs records why) w = refl
used_numbered h o (Rise kept inc) w = refl
used_numbered h o (RiseFall kept inc why) w = refl
used_numbered h o Miss w = refl
used_numbered h o Cut w = refl
used_numbered h o (Drop packet) w = refl
used_numbered h o (Parts parts) w = refl
used_numbered h o (Line number) w = refl

-- an entry promises nothing
pub entries_promise_nothing : EntriesPromiseNothing
entries_promise_nothing marks e played none = λ o low.
    let few : o ≤ last_owner marks = (let P : Scenario → Type 0 = λ sc. o ≤ length sc.weights in subst P (scenario_stays marks (mark.Entered e ∷ []) played).0 low) in
    note_push o marks (mark.Entered e) ∙ by (note_of o marks) (none o few) (e.owner == o)
  where
    by : (w : Note) → w ≡ nothing → (b : Bool) → (if b then used_by w e.act else w) ≡ nothing
    by w is true = ap (λ (v : Note). used_by v e.act) is ∙ used_none e.act
    by w is false = is

-- the owners stay those of the first mark
last_is : (marks : List Mark) (o n : ℕ) (y : Entry) → last_owner ((marks ++ mark.Place o n ∷ []) ++ mark.Entered y ∷ []) ≡ last_owner marks
last_is [] o n y = refl
last_is (mark.Start sc most ∷ rest) o n y = refl
last_is (mark.Entered x ∷ rest) o n y = refl
last_is (mark.Place p k ∷ rest) o n y = refl
last_is (mark.Freed p ∷ rest) o n y = refl

-- a claim and its entry leave nothing promised
pub claims_are_used : ClaimsAreUsed
claims_are_used marks claimed outs e is none all = λ o low.
    note_push o claimed (mark.Entered y)
    ∙ by o (none o (let same = last_same in omega (arith, same, low))) (e.owner == o) refl
  where
    y : Entry
    y = numbered_on (entries_of claimed) e

    last_same : last_owner (claimed ++ mark.Entered y ∷ []) ≡ last_owner marks
    last_same = ap (λ (l : List Mark). last_owner (l ++ mark.Entered y ∷ [])) is ∙ last_is marks e.owner outs y

    by : (o : ℕ) → note_of o marks ≡ nothing → (b : Bool) → (e.owner == o) ≡ b → note_by o (note_of o claimed) (mark.Entered y) ≡ nothing
    by o was true at =
        let same : e.owner ≡ o = eqb-true e.owner o at in
        let uses : note_by o (note_of o claimed) (mark.Entered y) ≡ used_by (note_of o claimed) y.act = rw at refl in
        uses ∙ ap (λ (k : ℕ). used_by (note_of k claimed) y.act) (sym same) ∙ used_numbered (entries_of claimed) e.owner e.act (note_of e.owner claimed) ∙ all
    by o was false at =
        let keeps : note_by o (note_of o claimed) (mark.Entered y) ≡ note_of o claimed = rw at refl in
        let before : note_by o (note_of o marks) (mark.Place e.owner outs) ≡ note_of o marks = rw at refl in
        keeps ∙ ap (λ (l : List Mark). note_of o l) is ∙ note_push o marks (mark.Place e.owner outs) ∙ before ∙ was

-- growth behind growth
pub growth_adds_up : GrowthAddsUp
growth_adds_up first second third played one two = (
  one.0 ++ two.0,
  two.1 ∙ ap (λ (l : List Mark). l ++ two.0) one.1 ∙ append_assoc first one.0 two.0,
  All-append (HasOwner (last_owner first)) one.0 two.0 one.2
      (let P : ℕ → Type 0 = λ n. All (HasOwner n) two.0 in
      let last : last_owner second ≡ last_owner first =
      ap (λ (l : List Mark). last_owner l) one.1 ∙ ap (λ (sc : Scenario). length sc.weights) (scenario_stays first one.0 played).0 in
      subst P last two.2),
)
