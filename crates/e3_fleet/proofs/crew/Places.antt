-- While no mark gives places back, entries and promised places do not get fewer.
use Rattle.std.proofs.Common.{◌≡◌, ◌==◌, ◌||◌, ◌+◌, ◌<◌, ◌≤◌, ◌++◌, ◌∷◌, [], inl, inr, ◌⊎◌, ℕ, suc, Bool, true, false, List, length, leb, refl, sym, ap, subst, ◌∙◌, append-nil, append_assoc, eqb-true, length-append, arith}
use Rattle.std.proofs.lemmas.Bool.Decides.{leb_tells}
use Rattle.std.proofs.lemmas.List.{append_cancel_left}
use Rattle.e3_node.specs.Places.{GivesNoneBack, HasGivenNoneBack, OwnGiveNoneBack}
use Rattle.e3_node.proofs.Places.{own_append, own_foreign}
use Rattle.e3_types.specs.declared.entries.Act.{Act}
use Rattle.e3_types.specs.declared.entries.Act.TheVariants.{Step, Fall, Rise, RiseFall, Miss, Cut, Drop, Parts, Line}
use Rattle.e3_types.specs.declared.entries.Entry.{Entry}
use Rattle.e3_types.specs.declared.scenarios.Scenario.{Scenario}
use Rattle.e3_wire.specs.declared.marks.Mark.{Mark}
use Rattle.e3_wire.specs.declared.marks.Mark.TheVariants as mark
use Rattle.e3_wire.specs.declared.marks.Note.{Note}
use Rattle.e3_wire.specs.Marks.{AreForeign, belongs, entries_of, last_owner, note_by, note_of, promised, used_by, used_of}
use Rattle.e3_wire.specs.Wires.{IsPlayed}
use Rattle.e3_wire.proofs.Foreign.{entries_append}
use Rattle.e3_wire.proofs.Notes.{scenario_stays}
use Rattle.e3_wire.proofs.Noting.{note_push}
use Rattle.e3_wire.proofs.Sums.{changes, itself, same_total}
use Rattle.e3_world.specs.Items.{inputs_of}

pub own_second : (o : ℕ) (xs ys : List Mark) → OwnGiveNoneBack o (xs ++ ys) → OwnGiveNoneBack o ys
own_second o [] ys both = both
own_second o (m ∷ xs) ys both = own_second o xs ys both.1

-- turns of a site, one behind the other
pub none_back_none : (o : ℕ) (marks : List Mark) → HasGivenNoneBack o marks marks
none_back_none o marks = ([], sym (append-nil marks), tt)

pub none_back_on : (o : ℕ) (a b c : List Mark) → HasGivenNoneBack o a b → HasGivenNoneBack o b c → HasGivenNoneBack o a c
none_back_on o a b c first second = (
  first.0 ++ second.0,
  second.1 ∙ ap (λ (l : List Mark). l ++ second.0) first.1 ∙ append_assoc a first.0 second.0,
  own_append o first.0 second.0 first.2 second.2,
)

-- an act of one input at most uses one place at most
uses_one : (w : Note) (act : Act) → length (inputs_of act) ≤ 1 → w.places ≤ suc (used_by w act).places
uses_one w (Step i records outs events) few = omega arith
uses_one w (Fall inputs records why) few = omega (arith, few)
uses_one w (Rise kept inc) few = omega arith
uses_one w (RiseFall kept inc why) few = omega arith
uses_one w Miss few = omega arith
uses_one w Cut few = omega arith
uses_one w (Drop packet) few = omega arith
uses_one w (Parts parts) few = omega arith
uses_one w (Line number) few = omega arith

-- entries and places that are promised to the owners up to the last
abbrev used_to : ℕ → List Mark → ℕ
used_to last marks = length (entries_of marks) + promised last marks

or_true : (a b : Bool) → b ≡ true → (a || b) ≡ true
or_true true b is = refl
or_true false b is = is

module _ (last : ℕ) (marks : List Mark) where
  -- a mark that leaves the notes of these owners
  still : (m : Mark) → ((o : ℕ) → o ≤ last → (w : Note) → note_by o w m ≡ w) → promised last (marks ++ m ∷ []) ≡ promised last marks
  still m same =
      same_total (λ o. (note_of o marks).places) (λ o. (note_of o (marks ++ m ∷ [])).places) last
      (λ o low. ap (λ (w : Note). w.places) (note_push o marks m ∙ same o low (note_of o marks)))

  entries_more : (m : Mark) → length (entries_of (marks ++ m ∷ [])) ≡ length (entries_of marks) + length (entries_of (m ∷ []))
  entries_more m = ap (λ (l : List Entry). length l) (entries_append marks (m ∷ [])) ∙ length-append (entries_of marks) (entries_of (m ∷ []))

  apart : (s o : ℕ) → last < s → o ≤ last → (s == o) ≡ false
  apart s o high low = by (s == o) refl
    where
      by : (b : Bool) → (s == o) ≡ b → (s == o) ≡ false
      by true is = absurd (let same : s ≡ o = eqb-true s o is in omega (arith, same, high, low))
      by false is = is

  one_keeps : (m : Mark) → ((o : ℕ) → o ≤ last → belongs m o ≡ true → GivesNoneBack m) → used_to last marks ≤ used_to last (marks ++ m ∷ [])
  one_keeps (mark.Start sc most) own =
      let none : length (entries_of (mark.Start sc most ∷ [])) ≡ 0 = refl in
      let more = entries_more (mark.Start sc most) in
      let same = still (mark.Start sc most) (λ o low w. refl) in
      omega (arith, none, more, same)
  one_keeps (mark.Place owner outs) own = by (leb_tells owner last)
    where
      m : Mark
      m = mark.Place owner outs

      by : ((leb owner last ≡ true) × (owner ≤ last)) ⊎ ((leb owner last ≡ false) × (last < owner)) → used_to last marks ≤ used_to last (marks ++ m ∷ [])
      by (inl low) =
          let more = entries_more m in
          let sum = changes (λ (w : Note). w.places) marks m owner last low.1 (λ o w other. rw other refl) in
          let here : (note_by owner (note_of owner marks) m).places ≡ suc (note_of owner marks).places = rw (itself owner) refl in
          omega (arith, more, sum, here)
      by (inr high) =
          let more = entries_more m in
          let same = still m (λ o low w. rw (apart owner o high.1 low) refl) in
          omega (arith, more, same)
  one_keeps (mark.Freed owner) own = by (leb_tells owner last)
    where
      m : Mark
      m = mark.Freed owner

      by : ((leb owner last ≡ true) × (owner ≤ last)) ⊎ ((leb owner last ≡ false) × (last < owner)) → used_to last marks ≤ used_to last (marks ++ m ∷ [])
      by (inl low) = absurd (own owner low.1 (itself owner))
      by (inr high) =
          let more = entries_more m in
          let same = still m (λ o low w. rw (apart owner o high.1 low) refl) in
          omega (arith, more, same)
  one_keeps (mark.Entered e) own = by (leb_tells e.owner last)
    where
      m : Mark
      m = mark.Entered e

      by : ((leb e.owner last ≡ true) × (e.owner ≤ last)) ⊎ ((leb e.owner last ≡ false) × (last < e.owner)) → used_to last marks ≤ used_to last (marks ++ m ∷ [])
      by (inl low) =
          let more = entries_more m in
          let sum = changes (λ (w : Note). w.places) marks m e.owner last low.1 (λ o w other. rw other refl) in
          let here : (note_by e.owner (note_of e.owner marks) m).places ≡ (used_by (note_of e.owner marks) e.act).places = rw (itself e.owner) refl in
          let few : length (inputs_of e.act) ≤ 1 = own e.owner low.1 (or_true (e.owner == 0) (e.owner == e.owner) (itself e.owner)) in
          let uses = uses_one (note_of e.owner marks) e.act few in
          omega (arith, more, sum, here, uses)
      by (inr high) =
          let more = entries_more m in
          let same = still m (λ o low w. rw (apart e.owner o high.1 low) refl) in
          omega (arith, more, same)

all_keep : (last : ℕ) (marks more : List Mark) → ((o : ℕ) → o ≤ last → OwnGiveNoneBack o more) → used_to last marks ≤ used_to last (marks ++ more)
all_keep last marks [] own = let same : used_to last (marks ++ []) ≡ used_to last marks = ap (used_to last) (append-nil marks) in omega (arith, same)
all_keep last marks (m ∷ more) own =
    let one = one_keeps last marks m (λ o low. (own o low).0) in
    let rest = all_keep last (marks ++ m ∷ []) more (λ o low. (own o low).1) in
    let same : used_to last ((marks ++ m ∷ []) ++ more) ≡ used_to last (marks ++ m ∷ more) = ap (used_to last) (append_assoc marks (m ∷ []) more) in
    omega (arith, one, rest, same)

-- Behind marks of owners of which none gives places back.
pub used_stays : (marks more : List Mark) → IsPlayed marks → ((o : ℕ) → o ≤ last_owner marks → OwnGiveNoneBack o more) → used_of marks ≤ used_of (marks ++ more)
used_stays marks more played own =
    let here = all_keep (last_owner marks) marks more own in
    let last : last_owner (marks ++ more) ≡ last_owner marks = ap (λ (sc : Scenario). length sc.weights) (scenario_stays marks more played).0 in
    let there : used_to (last_owner (marks ++ more)) (marks ++ more) ≡ used_to (last_owner marks) (marks ++ more) = ap (λ (n : ℕ). used_to n (marks ++ more)) last in
    omega (arith, here, there)

-- what an owner put behind the first marks is a part of all that was put
pub own_in_all : (o : ℕ) (first mid all since more : List Mark) → HasGivenNoneBack o first mid → all ≡ mid ++ more → AreForeign o more → all ≡ first ++ since → OwnGiveNoneBack o since
own_in_all o first mid all since more back is foreign whole =
    let parts : all ≡ first ++ (back.0 ++ more) = is ∙ ap (λ (l : List Mark). l ++ more) back.1 ∙ append_assoc first back.0 more in
    let same : back.0 ++ more ≡ since = append_cancel_left first (back.0 ++ more) since (sym parts ∙ whole) in
    subst (OwnGiveNoneBack o) same (own_append o back.0 more back.2 (own_foreign o more foreign))

-- and what was put behind a later one is the end of it
pub own_behind : (o : ℕ) (first mid all since own more : List Mark) → OwnGiveNoneBack o since → all ≡ first ++ since → mid ≡ first ++ own → all ≡ mid ++ more → OwnGiveNoneBack o more
own_behind o first mid all since own more given whole is later =
    let parts : all ≡ first ++ (own ++ more) = later ∙ ap (λ (l : List Mark). l ++ more) is ∙ append_assoc first own more in
    let same : since ≡ own ++ more = append_cancel_left first since (own ++ more) (sym whole ∙ parts) in
    own_second o own more (subst (OwnGiveNoneBack o) same given)
