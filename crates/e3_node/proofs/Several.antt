-- Several claims and entries of a site, one behind the other.
use Rattle.std.proofs.Common.{◌≡◌, ◌+◌, ◌<◌, ◌≤◌, ◌++◌, ◌∷◌, [], ℕ, suc, List, length, refl, sym, subst, ap, ◌∙◌, append-nil, append_assoc, arith}
use Rattle.std.specs.Prelude.{All}
use Rattle.std.proofs.lemmas.List.Elements.{All-nil, All-cons}
use Rattle.e3_laws.specs.local.Others.{numbered_on}
use Rattle.e3_node.specs.Several.{AreOf, MayEnterAll, claims_for, marks_in}
use Rattle.e3_turn.specs.Chronicles.{ExtendsByOwners, IsOwn, count_of}
use Rattle.e3_types.specs.declared.entries.Entry.{Entry}
use Rattle.e3_wire.specs.Marks.{belongs, entries_of, last_owner, most_of, note_by, note_of, nothing, promised, used_by, used_of}
use Rattle.e3_wire.specs.Wires.{IsPlayed, MayEnterBehind}
use Rattle.e3_wire.specs.declared.marks.Mark.{Mark}
use Rattle.e3_wire.specs.declared.marks.Mark.TheVariants as mark
use Rattle.e3_wire.specs.declared.marks.Note.{Note}
use Rattle.e3_wire.proofs.Foreign.{entries_append}
use Rattle.e3_wire.proofs.Freeing.{freed_leaves}
use Rattle.e3_wire.proofs.Notes.{claim_promises, entry_uses}
use Rattle.e3_wire.proofs.Noting.{note_push}
use Rattle.e3_wire.proofs.Puts.{own_entry, own_freed, own_place}
use Rattle.e3_wire.proofs.Spending.{used_numbered}
use Rattle.e3_wire.proofs.Sums.{changes, itself}
use Rattle.e3_world.specs.Packets.{outs_of}

-- with one entry more
pub claims_push : (es : List Entry) (e : Entry) → claims_for (es ++ e ∷ []) ≡ claims_for es ++ mark.Place e.owner (length (outs_of e.act)) ∷ []
claims_push [] e = refl
claims_push (x ∷ es) e = ap (λ (l : List Mark). mark.Place x.owner (length (outs_of x.act)) ∷ l) (claims_push es e)

pub owned_push : (site : ℕ) (es : List Entry) (e : Entry) → AreOf site es → e.owner ≡ site → AreOf site (es ++ e ∷ [])
owned_push site [] e are is = (is, tt)
owned_push site (x ∷ es) e are is = (are.0, owned_push site es e are.1 is)

-- claims are no entries, and leave the owners
no_entries : (es : List Entry) → entries_of (claims_for es) ≡ []
no_entries [] = refl
no_entries (e ∷ es) = no_entries es

pub entries_claimed : (marks : List Mark) (es : List Entry) → entries_of (marks ++ claims_for es) ≡ entries_of marks
entries_claimed marks es = entries_append marks (claims_for es) ∙ ap (λ (l : List Entry). entries_of marks ++ l) (no_entries es) ∙ append-nil (entries_of marks)

pub owners_push : (marks : List Mark) (o outs : ℕ) → last_owner (marks ++ mark.Place o outs ∷ []) ≡ last_owner marks
owners_push [] o outs = refl
owners_push (mark.Start sc most ∷ rest) o outs = refl
owners_push (mark.Entered e ∷ rest) o outs = refl
owners_push (mark.Place p n ∷ rest) o outs = refl
owners_push (mark.Freed p ∷ rest) o outs = refl

pub most_push : (marks : List Mark) (o outs : ℕ) → most_of (marks ++ mark.Place o outs ∷ []) ≡ most_of marks
most_push [] o outs = refl
most_push (mark.Start sc most ∷ rest) o outs = refl
most_push (mark.Entered e ∷ rest) o outs = refl
most_push (mark.Place p n ∷ rest) o outs = refl
most_push (mark.Freed p ∷ rest) o outs = refl

-- one place more is used behind a claim
pub used_push : (marks : List Mark) (o outs : ℕ) → o ≤ last_owner marks → used_of (marks ++ mark.Place o outs ∷ []) ≡ used_of marks + 1
used_push marks o outs low =
    let m : Mark = mark.Place o outs in
    let last : ℕ = last_owner marks in
    let moved : promised last (marks ++ m ∷ []) + (note_of o marks).places ≡ promised last marks + (note_by o (note_of o marks) m).places =
    changes (λ w. w.places) marks m o last low (λ u w apart. rw apart refl) in
    let more : (note_by o (note_of o marks) m).places ≡ suc (note_of o marks).places = rw (itself o) refl in
    let long : length (entries_of (marks ++ m ∷ [])) ≡ length (entries_of marks) = ap length (entries_append marks (m ∷ []) ∙ append-nil (entries_of marks)) in
    let same : promised (last_owner (marks ++ m ∷ [])) (marks ++ m ∷ []) ≡ promised last (marks ++ m ∷ []) =
    ap (λ (n : ℕ). promised n (marks ++ m ∷ [])) (owners_push marks o outs) in
    let sum : length (entries_of (marks ++ m ∷ [])) + promised (last_owner (marks ++ m ∷ [])) (marks ++ m ∷ []) ≡ (length (entries_of marks) + promised last marks) + 1 =
    omega (arith, moved, more, long, same) in
    sum

-- Behind what was freed the history and the scenario are as before, nothing is promised to the owner, and its places are left.
pub entries_freed : (marks : List Mark) (o : ℕ) → entries_of (marks ++ mark.Freed o ∷ []) ≡ entries_of marks
entries_freed marks o = entries_append marks (mark.Freed o ∷ []) ∙ append-nil (entries_of marks)

pub owners_freed : (marks : List Mark) (o : ℕ) → last_owner (marks ++ mark.Freed o ∷ []) ≡ last_owner marks
owners_freed [] o = refl
owners_freed (mark.Start sc most ∷ rest) o = refl
owners_freed (mark.Entered e ∷ rest) o = refl
owners_freed (mark.Place p n ∷ rest) o = refl
owners_freed (mark.Freed p ∷ rest) o = refl

pub note_freed : (marks : List Mark) (o : ℕ) → note_of o (marks ++ mark.Freed o ∷ []) ≡ nothing
note_freed marks o = note_push o marks (mark.Freed o) ∙ (rw (itself o) refl)

pub left_freed : (marks : List Mark) (o n : ℕ) → IsPlayed marks → o ≤ last_owner marks → n ≤ (note_of o marks).places →
    used_of (marks ++ mark.Freed o ∷ []) + n ≤ most_of (marks ++ mark.Freed o ∷ [])
left_freed marks o n played low few =
    let law = freed_leaves o marks played low in
    let used : used_of (marks ++ mark.Freed o ∷ []) + (note_of o marks).places ≡ used_of marks = law.1 in
    let most : most_of (marks ++ mark.Freed o ∷ []) ≡ most_of marks = law.0.most in
    let within : used_of marks ≤ most_of marks = played.within in
    omega (arith, used, most, within, few)

-- the entries with so many more are few
pub counted_freed : (marks : List Mark) (o n : ℕ) → IsPlayed marks → o ≤ last_owner marks → n ≤ (note_of o marks).places →
    length (entries_of marks) + n ≤ 4000000000
counted_freed marks o n played low few =
    let freed : List Mark = marks ++ mark.Freed o ∷ [] in
    let left : used_of freed + n ≤ most_of freed = left_freed marks o n played low few in
    let most : most_of freed ≡ most_of marks = (freed_leaves o marks played low).0.most in
    let same : length (entries_of freed) ≡ length (entries_of marks) = ap (λ (l : List Entry). length l) (entries_freed marks o) in
    let bound = played.few in
    omega (arith, left, most, same, bound)

-- how many packets these entries send
abbrev pub outs_in : List Entry → ℕ
outs_in [] = 0
outs_in (e ∷ es) = length (outs_of e.act) + outs_in es

-- what is promised behind the claims
pub note_claimed : (o : ℕ) (marks : List Mark) (es : List Entry) → AreOf o es →
    note_of o (marks ++ claims_for es) ≡ record { places = (note_of o marks).places + length es; room = (note_of o marks).room + outs_in es }
note_claimed o marks [] are =
    let places : (note_of o marks).places ≡ (note_of o marks).places + 0 = omega arith in
    let room : (note_of o marks).room ≡ (note_of o marks).room + 0 = omega arith in
    ap (note_of o) (append-nil marks)
    ∙ ap (λ (n : ℕ). let w : Note = record { places = n; room = (note_of o marks).room } in w) places
    ∙ ap (λ (n : ℕ). let w : Note = record { places = (note_of o marks).places + 0; room = n } in w) room
note_claimed o marks (e ∷ es) are =
    let outs : ℕ = length (outs_of e.act) in
    let one : List Mark = marks ++ mark.Place o outs ∷ [] in
    let promises : note_of o one ≡ record { places = suc (note_of o marks).places; room = (note_of o marks).room + outs } = claim_promises o outs marks in
    let places : (note_of o one).places + length es ≡ (note_of o marks).places + suc (length es) =
    (let p : (note_of o one).places ≡ suc (note_of o marks).places = ap (λ (w : Note). w.places) promises in omega (arith, p)) in
    let room : (note_of o one).room + outs_in es ≡ (note_of o marks).room + (outs + outs_in es) =
    (let r : (note_of o one).room ≡ (note_of o marks).room + outs = ap (λ (w : Note). w.room) promises in omega (arith, r)) in
    ap (λ (s : ℕ). note_of o (marks ++ mark.Place s outs ∷ claims_for es)) are.0
    ∙ ap (note_of o) (sym (append_assoc marks (mark.Place o outs ∷ []) (claims_for es)))
    ∙ note_claimed o one es are.1
    ∙ ap (λ (n : ℕ). let w : Note = record { places = n; room = (note_of o one).room + outs_in es } in w) places
    ∙ ap (λ (n : ℕ). let w : Note = record { places = (note_of o marks).places + suc (length es); room = n } in w) room

-- claims, and entries, are of the owner
pub own_claims : (last o : ℕ) (owners : List ℕ) (es : List Entry) → 0 < count_of o owners → AreOf o es → All (IsOwn belongs last owners) (claims_for es)
own_claims last o owners [] has are = All-nil (IsOwn belongs last owners)
own_claims last o owners (e ∷ es) has are =
    All-cons (IsOwn belongs last owners) (mark.Place e.owner (length (outs_of e.act))) (claims_for es)
    (own_place last owners e.owner (length (outs_of e.act)) (subst (λ (s : ℕ). 0 < count_of s owners) (sym are.0) has)) (own_claims last o owners es has are.1)

-- so is what was freed, with the claims behind it
pub own_planned : (last o : ℕ) (owners : List ℕ) (es : List Entry) → 0 < count_of o owners → AreOf o es → All (IsOwn belongs last owners) (mark.Freed o ∷ claims_for es)
own_planned last o owners es has are =
    All-cons (IsOwn belongs last owners) (mark.Freed o) (claims_for es) (own_freed last owners o has) (own_claims last o owners es has are)

pub own_marks : (last o : ℕ) (owners : List ℕ) (h es : List Entry) → 1 ≤ o → 0 < count_of o owners → AreOf o es → All (IsOwn belongs last owners) (marks_in h es)
own_marks last o owners h [] some has are = All-nil (IsOwn belongs last owners)
own_marks last o owners h (e ∷ es) some has are =
    All-cons (IsOwn belongs last owners) (mark.Entered (numbered_on h e)) (marks_in (h ++ numbered_on h e ∷ []) es)
    (own_entry last owners (numbered_on h e) (subst (λ (s : ℕ). 1 ≤ s) (sym are.0) some) (subst (λ (s : ℕ). 0 < count_of s owners) (sym are.0) has))
    (own_marks last o owners (h ++ numbered_on h e ∷ []) es some has are.1)

pub grew_own : (last : ℕ) (owners : List ℕ) (seen chronicle now more : List Mark) → seen ≡ chronicle → now ≡ chronicle ++ more → All (IsOwn belongs last owners) more →
    ExtendsByOwners belongs last owners seen now
grew_own last owners seen chronicle now more same is own = (more, is ∙ ap (λ (l : List Mark). l ++ more) (sym same), own)

-- the history behind entries
abbrev pub enter_list : List Entry → List Entry → List Entry
enter_list h [] = h
enter_list h (e ∷ es) = enter_list (h ++ numbered_on h e ∷ []) es

pub entries_in : (marks : List Mark) (es : List Entry) → entries_of (marks ++ marks_in (entries_of marks) es) ≡ enter_list (entries_of marks) es
entries_in marks [] = ap entries_of (append-nil marks)
entries_in marks (e ∷ es) =
    let x : Entry = numbered_on (entries_of marks) e in
    let one : entries_of (marks ++ mark.Entered x ∷ []) ≡ entries_of marks ++ x ∷ [] = entries_append marks (mark.Entered x ∷ []) in
    ap entries_of (sym (append_assoc marks (mark.Entered x ∷ []) (marks_in (entries_of marks ++ x ∷ []) es)))
    ∙ ap (λ (h : List Entry). entries_of ((marks ++ mark.Entered x ∷ []) ++ marks_in h es)) (sym one)
    ∙ entries_in (marks ++ mark.Entered x ∷ []) es ∙ ap (λ (h : List Entry). enter_list h es) one

-- with one entry more
pub marks_push : (h es : List Entry) (e : Entry) → marks_in h (es ++ e ∷ []) ≡ marks_in h es ++ mark.Entered (numbered_on (enter_list h es) e) ∷ []
marks_push h [] e = refl
marks_push h (x ∷ es) e = ap (λ (l : List Mark). mark.Entered (numbered_on h x) ∷ l) (marks_push (h ++ numbered_on h x ∷ []) es e)

pub entered_push : (first marks now : List Mark) (es : List Entry) (e : Entry) → marks ≡ first ++ marks_in (entries_of first) es →
    now ≡ marks ++ mark.Entered (numbered_on (entries_of marks) e) ∷ [] → now ≡ first ++ marks_in (entries_of first) (es ++ e ∷ [])
entered_push first marks now es e was is =
    is ∙ ap (λ (l : List Mark). l ++ mark.Entered (numbered_on (entries_of l) e) ∷ []) was
    ∙ ap (λ (h : List Entry). (first ++ marks_in (entries_of first) es) ++ mark.Entered (numbered_on h e) ∷ []) (entries_in first es)
    ∙ append_assoc first (marks_in (entries_of first) es) (mark.Entered (numbered_on (enter_list (entries_of first) es) e) ∷ [])
    ∙ ap (λ (l : List Mark). first ++ l) (sym (marks_push (entries_of first) es e))

-- the first of what may be entered, and the rest
pub first_enters : (marks : List Mark) (es rest : List Entry) (e : Entry) → es ≡ e ∷ rest → MayEnterAll marks es →
    MayEnterBehind marks e × MayEnterAll (marks ++ mark.Entered (numbered_on (entries_of marks) e) ∷ []) rest
first_enters marks es rest e is may = let P : List Entry → Type 0 = λ l. MayEnterAll marks l in subst P is may

-- one more, and the rest behind it
pub marks_step : (marks : List Mark) (e : Entry) (es : List Entry) →
    (marks ++ mark.Entered (numbered_on (entries_of marks) e) ∷ []) ++ marks_in (entries_of (marks ++ mark.Entered (numbered_on (entries_of marks) e) ∷ [])) es
    ≡ marks ++ marks_in (entries_of marks) (e ∷ es)
marks_step marks e es =
    let x : Entry = numbered_on (entries_of marks) e in
    ap (λ (h : List Entry). (marks ++ mark.Entered x ∷ []) ++ marks_in h es) (entries_append marks (mark.Entered x ∷ []))
    ∙ append_assoc marks (mark.Entered x ∷ []) (marks_in (entries_of marks ++ x ∷ []) es)

-- what is promised behind the entries
abbrev pub used_all : Note → List Entry → Note
used_all w [] = w
used_all w (e ∷ es) = used_all (used_by w e.act) es

pub note_entered : (o : ℕ) (marks : List Mark) (es : List Entry) → AreOf o es → note_of o (marks ++ marks_in (entries_of marks) es) ≡ used_all (note_of o marks) es
note_entered o marks [] are = ap (note_of o) (append-nil marks)
note_entered o marks (e ∷ es) are =
    let x : Entry = numbered_on (entries_of marks) e in
    let here : note_of o (marks ++ mark.Entered x ∷ []) ≡ used_by (note_of o marks) e.act =
    ap (λ (s : ℕ). note_of s (marks ++ mark.Entered x ∷ [])) (sym are.0) ∙ entry_uses x marks ∙ ap (λ (s : ℕ). used_by (note_of s marks) x.act) are.0
    ∙ used_numbered (entries_of marks) e.owner e.act (note_of o marks) in
    ap (note_of o) (sym (marks_step marks e es)) ∙ note_entered o (marks ++ mark.Entered x ∷ []) es are.1 ∙ ap (λ (w : Note). used_all w es) here
