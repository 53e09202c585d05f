-- What stands before the mark.
use Rattle.std.proofs.Common.{◌≡◌, ◌==◌, ◌+◌, ◌-◌, ◌≤◌, ℕ, Bool, true, false, List, [], ◌∷◌, ◌++◌, length, take, Option, Some, None, refl, ap, sym, ◌∙◌, subst, arith, append_assoc, length-append, eqb-true, if◌then◌else◌}
use Rattle.std.specs.Prelude.{bytes_eq, codes}
use Rattle.std.proofs.lemmas.Option.{same_Some}
use Rattle.e3_trace.specs.Cuts.{cut}
use Rattle.e3_report.specs.lines.Marks.{feed, in_front, pieces}
use Rattle.e3_trace.specs.Trace.{behind_mark, front_of}
use Rattle.e3_trace.proofs.Going.{same_bytes}
use Rattle.e3_trace.proofs.Places.{pieces_by, pieces_cut}

-- the text of which these are the pieces
abbrev pub join : List (List ℕ) → List ℕ
join [] = []
join (line ∷ []) = line
join (line ∷ next ∷ more) = line ++ feed ∷ join (next ∷ more)

join_in_front : (b : ℕ) (ps : List (List ℕ)) → join (in_front b ps) ≡ b ∷ join ps
join_in_front b [] = refl
join_in_front b (line ∷ []) = refl
join_in_front b (line ∷ next ∷ more) = refl

join_by : (line text : List ℕ) (o : Option (List ℕ × List ℕ)) → join (line ∷ pieces_by feed text o) ≡ line ++ feed ∷ join (pieces_by feed text o)
join_by line text None = refl
join_by line text (Some p) = refl

join_more : (line text : List ℕ) → join (line ∷ pieces feed text) ≡ line ++ feed ∷ join (pieces feed text)
join_more line text = rw (pieces_cut feed text) (join_by line text (cut feed text))

pub join_pieces : (text : List ℕ) → join (pieces feed text) ≡ text
join_pieces [] = refl
join_pieces (b ∷ text) = by (b == feed) refl (join_pieces text)
  where
    by : (t : Bool) → (b == feed) ≡ t → join (pieces feed text) ≡ text → join (if t then [] ∷ pieces feed text else in_front b (pieces feed text)) ≡ b ∷ text
    by true is more = join_more [] text ∙ ap (λ l. feed ∷ l) more ∙ ap (λ x. x ∷ text) (sym (eqb-true b feed is))
    by false is more = join_in_front b (pieces feed text) ∙ ap (λ l. b ∷ l) more

-- without a mark all stands before it
front_all : (ps : List (List ℕ)) → behind_mark ps ≡ None → front_of ps ≡ join ps
front_all [] none = refl
front_all (line ∷ []) none = refl
front_all (line ∷ next ∷ more) none = by (bytes_eq line (codes "#trace")) none (front_all (next ∷ more))
  where
    by : (t : Bool) → (if t then Some (next ∷ more) else behind_mark (next ∷ more)) ≡ None → (behind_mark (next ∷ more) ≡ None → front_of (next ∷ more) ≡ join (next ∷ more)) →
        (if t then [] else line ++ feed ∷ front_of (next ∷ more)) ≡ line ++ feed ∷ join (next ∷ more)
    by true is rest = absurd cc
    by false is rest = ap (λ l. line ++ feed ∷ l) (rest is)

-- the text is what stands before the mark, the mark, and what stands behind it
mark_split : (ps qs : List (List ℕ)) → behind_mark ps ≡ Some qs → join ps ≡ front_of ps ++ (codes "#trace\n" ++ join qs)
mark_split [] qs some = absurd cc
mark_split (line ∷ []) qs some = absurd cc
mark_split (line ∷ next ∷ more) qs some = by (bytes_eq line (codes "#trace")) refl some (mark_split (next ∷ more) qs)
  where
    by : (t : Bool) → bytes_eq line (codes "#trace") ≡ t → (if t then Some (next ∷ more) else behind_mark (next ∷ more)) ≡ Some qs →
        (behind_mark (next ∷ more) ≡ Some qs → join (next ∷ more) ≡ front_of (next ∷ more) ++ (codes "#trace\n" ++ join qs)) →
        line ++ feed ∷ join (next ∷ more) ≡ (if t then [] else line ++ feed ∷ front_of (next ∷ more)) ++ (codes "#trace\n" ++ join qs)
    by true is here rest =
        ap (λ l. l ++ feed ∷ join (next ∷ more)) (same_bytes line (codes "#trace") is) ∙ ap (λ l. codes "#trace" ++ feed ∷ join l) (same_Some (next ∷ more) qs here)
    by false is later rest =
        ap (λ l. line ++ feed ∷ l) (rest later) ∙ sym (append_assoc line (feed ∷ front_of (next ∷ more)) (codes "#trace\n" ++ join qs))

split_whole : (bytes left : List ℕ) → behind_mark (pieces feed bytes) ≡ Some (pieces feed left) → bytes ≡ front_of (pieces feed bytes) ++ (codes "#trace\n" ++ left)
split_whole bytes left some =
    sym (join_pieces bytes) ∙ mark_split (pieces feed bytes) (pieces feed left) some
    ∙ ap (λ l. front_of (pieces feed bytes) ++ (codes "#trace\n" ++ l)) (join_pieces left)

split_length : (bytes left : List ℕ) → behind_mark (pieces feed bytes) ≡ Some (pieces feed left) → length bytes ≡ length (front_of (pieces feed bytes)) + (7 + length left)
split_length bytes left some =
    ap length (split_whole bytes left some) ∙ length-append (front_of (pieces feed bytes)) (codes "#trace\n" ++ left)
    ∙ ap (λ n. length (front_of (pieces feed bytes)) + n) (length-append (codes "#trace\n") left)

take_front : (xs ys : List ℕ) → take (length xs) (xs ++ ys) ≡ xs
take_front [] ys = refl
take_front (x ∷ xs) ys = ap (λ l. x ∷ l) (take_front xs ys)

pub front_whole : (bytes : List ℕ) → behind_mark (pieces feed bytes) ≡ None → bytes ≡ front_of (pieces feed bytes)
front_whole bytes none = sym (front_all (pieces feed bytes) none ∙ join_pieces bytes)

pub front_room : (bytes left : List ℕ) → behind_mark (pieces feed bytes) ≡ Some (pieces feed left) → length left + 7 ≤ length bytes
front_room bytes left some = omega (arith, split_length bytes left some)

pub front_taken : (bytes left : List ℕ) → behind_mark (pieces feed bytes) ≡ Some (pieces feed left) → take (length bytes - length left - 7) bytes ≡ front_of (pieces feed bytes)
front_taken bytes left some =
    let front : List ℕ = front_of (pieces feed bytes) in
    let count : length bytes - length left - 7 ≡ length front = omega (arith, split_length bytes left some) in
    let T : List ℕ → Type 0 = λ l. take (length front) l ≡ front in
    ap (λ n. take n bytes) count ∙ subst T (sym (split_whole bytes left some)) (take_front front (codes "#trace\n" ++ left))
