-- What is noted of each owner behind one more mark.
use Rattle.std.proofs.Common.{◌≡◌, ◌==◌, ◌+◌, ◌-◌, ◌<◌, ◌≤◌, ℕ, suc, Bool, true, false, List, [], ◌∷◌, ◌++◌, length, set, replicate, ◌∙◌, ap, sym, subst, refl, arith, eqb-true, eq-eqb}
use Rattle.std.specs.Prelude.{slice_index_or}
use Rattle.std.proofs.lemmas.List.{get_or-replicate, get_or-set_other, get_or-set_same, length-replicate, length-set}
use Rattle.std.proofs.lemmas.Grind.{fold-append}
use Rattle.e3_types.specs.declared.scenarios.Scenario.{Scenario}
use Rattle.e3_wire.specs.declared.marks.Mark.{Mark}
use Rattle.e3_wire.specs.declared.marks.Mark.TheVariants as mark
use Rattle.e3_wire.specs.declared.marks.Note.{Note}
use Rattle.e3_wire.specs.Marks.{note_by, note_of, nothing}
use Rattle.e3_wire.specs.Stores.{AreNotes}
use Rattle.e3_wire.proofs.Sums.{itself}

pub note_push : (o : ℕ) (marks : List Mark) (m : Mark) → note_of o (marks ++ m ∷ []) ≡ note_by o (note_of o marks) m
note_push o marks m = fold-append (note_by o) nothing marks (m ∷ [])

-- at first nothing is promised
pub first_notes : (sc : Scenario) (most last : ℕ) (notes : List Note) → notes ≡ replicate (last + 1) nothing → AreNotes last (mark.Start sc most ∷ []) notes
first_notes sc most last notes is = record {
  count = ap length is ∙ length-replicate (last + 1) nothing ∙ (let more : last + 1 ≡ suc last = omega arith in more);
  each = λ o low. ap (λ (l : List Note). slice_index_or l o nothing) is ∙ get_or-replicate (last + 1) o nothing nothing (omega (arith, low));
}

-- the note of an owner is there
pub noted : (last o : ℕ) (marks : List Mark) (notes : List Note) → o ≤ last → AreNotes last marks notes → o < length notes
noted last o marks notes low was = let c = was.count in omega (arith, c, low)

-- one of them is set
pub sets : (last o : ℕ) (marks now : List Mark) (notes : List Note) (w : Note) → o ≤ last → AreNotes last marks notes → note_of o now ≡ w →
    ((u : ℕ) → (u == o) ≡ false → note_of u now ≡ note_of u marks) → AreNotes last now (set notes o w)
sets last o marks now notes w low was here others = record {
  count = length-set notes o w ∙ was.count;
  each = λ u less. by u less (u == o) refl;
}
  where
    by : (u : ℕ) → u ≤ last → (b : Bool) → (u == o) ≡ b → slice_index_or (set notes o w) u nothing ≡ note_of u now
    by u less true is =
        let same : u ≡ o = eqb-true u o is in
        let P : ℕ → Type 0 = λ k. slice_index_or (set notes o w) k nothing ≡ note_of k now in
        subst P (sym same) (get_or-set_same notes o w nothing (noted last o marks notes low was) ∙ sym here)
    by u less false is =
        get_or-set_other notes o u w nothing (λ e. (let yes : (u == o) ≡ true = eq-eqb u o e in let no : true ≡ false = sym yes ∙ is in cc)) ∙ was.each u less ∙ sym (others u is)

pub flip : (a b : ℕ) → (a == b) ≡ false → (b == a) ≡ false
flip a b apart = by (b == a) refl
  where
    by : (c : Bool) → (b == a) ≡ c → (b == a) ≡ false
    by true is = absurd (let same : a ≡ b = sym (eqb-true b a is) in let yes : (a == b) ≡ true = eq-eqb a b same in cc)
    by false is = is

-- one more mark of an owner
pub notes_push : (last o : ℕ) (marks : List Mark) (m : Mark) (notes : List Note) (w : Note) → o ≤ last → AreNotes last marks notes →
    w ≡ note_by o (slice_index_or notes o nothing) m → ((u : ℕ) (v : Note) → (o == u) ≡ false → note_by u v m ≡ v) → AreNotes last (marks ++ m ∷ []) (set notes o w)
notes_push last o marks m notes w low was is others =
    sets last o marks (marks ++ m ∷ []) notes w low was (note_push o marks m ∙ ap (λ (v : Note). note_by o v m) (sym (was.each o low)) ∙ sym is)
    (λ u apart. note_push u marks m ∙ others u (note_of u marks) (flip u o apart))

-- one that changes no note
pub notes_still : (last : ℕ) (marks : List Mark) (m : Mark) (notes : List Note) → AreNotes last marks notes → ((u : ℕ) (v : Note) → note_by u v m ≡ v) →
    AreNotes last (marks ++ m ∷ []) notes
notes_still last marks m notes was still = record {
  count = was.count;
  each = λ u low. was.each u low ∙ sym (note_push u marks m ∙ still u (note_of u marks));
}

-- a promise of one place that is taken back
pub notes_withdrawn : (last o outs : ℕ) (marks : List Mark) (notes : List Note) (w : Note) → o ≤ last → AreNotes last (marks ++ mark.Place o outs ∷ []) notes →
    w ≡ record { places = (slice_index_or notes o nothing).places - 1; room = (slice_index_or notes o nothing).room - outs } → AreNotes last marks (set notes o w)
notes_withdrawn last o outs marks notes w low was is =
    sets last o (marks ++ mark.Place o outs ∷ []) marks notes w low was (sym (is ∙ here))
    (λ u apart. sym (note_push u marks (mark.Place o outs) ∙ other u (note_of u marks) (flip u o apart)))
  where
    v : Note
    v = note_of o marks

    more : Note
    more = record { places = suc v.places; room = v.room + outs }

    now : slice_index_or notes o nothing ≡ more
    now = was.each o low ∙ note_push o marks (mark.Place o outs) ∙ (rw (itself o) refl)

    here : record { places = (slice_index_or notes o nothing).places - 1; room = (slice_index_or notes o nothing).room - outs } ≡ v
    here =
        let places : suc v.places - 1 ≡ v.places = omega arith in
        let room : (v.room + outs) - outs ≡ v.room = omega arith in
        ap (λ (x : Note). let y : Note = record { places = x.places - 1; room = x.room - outs } in y) now
        ∙ ap (λ (n : ℕ). let y : Note = record { places = n; room = (v.room + outs) - outs } in y) places
        ∙ ap (λ (n : ℕ). let y : Note = record { places = v.places; room = n } in y) room

    other : (u : ℕ) (x : Note) → (o == u) ≡ false → note_by u x (mark.Place o outs) ≡ x
    other u x apart = rw apart refl
