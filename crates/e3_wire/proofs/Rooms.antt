-- How much room is promised at most: for each place and each entry as many packets as 32 bits count.
use Rattle.std.proofs.Common.{◌≡◌, ◌==◌, ◌+◌, ◌-◌, ◌*◌, ◌^◌, ◌≤◌, ℕ, zero, suc, Bool, true, false, nat_le, List, [], ◌∷◌, ◌++◌, length, fold, refl, arith}
use Rattle.std.specs.Prelude.{if◌then◌else◌}
use Rattle.std.proofs.lemmas.Bool.{leb-false, leb-true, ne_eqb}
use Rattle.e3_types.specs.declared.entries.Act.{Act}
use Rattle.e3_types.specs.declared.entries.Act.TheVariants.{Step, Fall, Rise, RiseFall, Miss, Cut, Drop, Parts, Line}
use Rattle.e3_wire.specs.declared.marks.Mark.{Mark}
use Rattle.e3_wire.specs.declared.marks.Mark.TheVariants as mark
use Rattle.e3_wire.specs.declared.marks.Note.{Note}
use Rattle.e3_wire.specs.Marks.{AreFew, IsFew, entries_of, note_by, note_of, nothing, promised, rooms, total, used_by}
use Rattle.e3_wire.proofs.Noting.{flip}
use Rattle.e3_wire.proofs.Sums.{itself, one_changes, same_total}

pub few_append : (marks more : List Mark) → AreFew marks → AreFew more → AreFew (marks ++ more)
few_append [] more few also = also
few_append (m ∷ marks) more few also = (few.0, few_append marks more few.1 also)

pub few_front : (marks more : List Mark) → AreFew (marks ++ more) → AreFew marks
few_front [] more few = tt
few_front (m ∷ marks) more few = (few.0, few_front marks more few.1)

pub few_back : (marks more : List Mark) → AreFew (marks ++ more) → AreFew more
few_back [] more few = few
few_back (m ∷ marks) more few = few_back marks more few.1

-- how many entries of an owner there are
abbrev entry_by : ℕ → Mark → ℕ
entry_by o (mark.Entered e) = if e.owner == o then 1 else 0
entry_by o m = 0

abbrev entries_by : ℕ → List Mark → ℕ
entries_by o [] = 0
entries_by o (m ∷ marks) = entry_by o m + entries_by o marks

-- a note has room for so many packets at most, with so many entries of its owner
abbrev Bounded : Note → ℕ → Type 0
Bounded w n = w.room ≤ (2 ^ 32 - 1) * (w.places + n)

act_bounded : (act : Act) (w : Note) (n : ℕ) → Bounded w n → Bounded (used_by w act) (n + 1)
act_bounded (Step i records outs events) w n was = omega (arith, was)
act_bounded (Fall inputs records why) w n was = omega (arith, was)
act_bounded (Rise kept inc) w n was = omega (arith, was)
act_bounded (RiseFall kept inc why) w n was = omega (arith, was)
act_bounded Miss w n was = omega (arith, was)
act_bounded Cut w n was = omega (arith, was)
act_bounded (Drop packet) w n was = omega (arith, was)
act_bounded (Parts parts) w n was = omega (arith, was)
act_bounded (Line number) w n was = omega (arith, was)

mark_bounded : (o : ℕ) (m : Mark) (w : Note) (n : ℕ) → IsFew m → Bounded w n → Bounded (note_by o w m) (n + entry_by o m)
mark_bounded o (mark.Start sc most) w n few was = omega (arith, was)
mark_bounded o (mark.Entered e) w n few was = by (e.owner == o) refl
  where
    by : (b : Bool) → (e.owner == o) ≡ b → Bounded (note_by o w (mark.Entered e)) (n + entry_by o (mark.Entered e))
    by true is = rw is (act_bounded e.act w n was)
    by false is = rw is (omega (arith, was))
mark_bounded o (mark.Place p outs) w n few was = by (p == o) refl
  where
    by : (b : Bool) → (p == o) ≡ b → Bounded (note_by o w (mark.Place p outs)) (n + 0)
    by true is = rw is (omega (arith, was, few))
    by false is = rw is (omega (arith, was))
mark_bounded o (mark.Freed p) w n few was = by (p == o) refl
  where
    by : (b : Bool) → (p == o) ≡ b → Bounded (note_by o w (mark.Freed p)) (n + 0)
    by true is = rw is (omega arith)
    by false is = rw is (omega (arith, was))

bounded : (o : ℕ) (marks : List Mark) (w : Note) (n : ℕ) → AreFew marks → Bounded w n → Bounded (fold (note_by o) w marks) (n + entries_by o marks)
bounded o [] w n few was = omega (arith, was)
bounded o (m ∷ marks) w n few was =
    let rest = bounded o marks (note_by o w m) (n + entry_by o m) few.1 (mark_bounded o m w n few.0 was) in
    omega (arith, rest)

-- one of the numbers is greater by one
one_more : (f g : ℕ → ℕ) (s n : ℕ) → ((u : ℕ) → (u == s) ≡ false → g u ≡ f u) → g s ≡ suc (f s) → total g n ≤ suc (total f n)
one_more f g s n same one = by (nat_le s n) refl
  where
    by : (b : Bool) → nat_le s n ≡ b → total g n ≤ suc (total f n)
    by true is = let all = one_changes f g s n (leb-true s n is) same in omega (arith, all, one)
    by false is =
        let far = leb-false s n is in
        let all = same_total f g n (λ u low. same u (ne_eqb u s (λ e. omega (arith, e, low, far)))) in
        omega (arith, all)

no_entries : (last : ℕ) → total (λ o. 0) last ≡ 0
no_entries zero = refl
no_entries (suc last) = let rest = no_entries last in omega (arith, rest)

no_more : (f : ℕ → ℕ) (last : ℕ) → total (λ o. 0 + f o) last ≡ total f last
no_more f last = same_total f (λ o. 0 + f o) last (λ u low. (let plain : 0 + f u ≡ f u = omega arith in plain))

-- the owners up to the last have no more entries than there are
all_entries : (marks : List Mark) (last : ℕ) → total (λ o. entries_by o marks) last ≤ length (entries_of marks)
all_entries [] last = let none = no_entries last in omega (arith, none)
all_entries (mark.Start sc most ∷ marks) last = let rest = all_entries marks last in let same = no_more (λ o. entries_by o marks) last in omega (arith, rest, same)
all_entries (mark.Entered e ∷ marks) last =
    let rest = all_entries marks last in
    let more = one_more (λ o. entries_by o marks) (λ o. entries_by o (mark.Entered e ∷ marks)) e.owner last (λ u apart. rw (flip u e.owner apart) (omega arith)) (rw (itself e.owner) (omega arith)) in
    omega (arith, rest, more)
all_entries (mark.Place o n ∷ marks) last = let rest = all_entries marks last in let same = no_more (λ o. entries_by o marks) last in omega (arith, rest, same)
all_entries (mark.Freed o ∷ marks) last = let rest = all_entries marks last in let same = no_more (λ o. entries_by o marks) last in omega (arith, rest, same)

all_bounded : (f g h : ℕ → ℕ) (last : ℕ) → ((o : ℕ) → f o ≤ (2 ^ 32 - 1) * (g o + h o)) → total f last ≤ (2 ^ 32 - 1) * (total g last + total h last)
all_bounded f g h zero each = each 0
all_bounded f g h (suc last) each =
    let rest = all_bounded f g h last each in
    let one = each (suc last) in
    omega (arith, rest, one)

-- so much room is promised at most
pub few_rooms : (last : ℕ) (marks : List Mark) → AreFew marks → rooms last marks ≤ (2 ^ 32 - 1) * (length (entries_of marks) + promised last marks)
few_rooms last marks few =
    let all = all_bounded (λ o. (note_of o marks).room) (λ o. (note_of o marks).places) (λ o. entries_by o marks) last (λ o. let one = bounded o marks nothing 0 few (omega arith) in omega (arith, one)) in
    let entries = all_entries marks last in
    omega (arith, all, entries)
