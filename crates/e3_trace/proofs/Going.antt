-- How reading goes on over a text, line by line.
use Rattle.std.proofs.Common.{◌≡◌, ◌==◌, ◌<◌, ◌+◌, ℕ, Bool, true, false, nat_lt, cond, List, [], ◌∷◌, ◌++◌, length, Option, Some, Result, Err, refl, ap, sym, ◌∙◌, subst, arith, append_assoc}
use Rattle.std.specs.Prelude.{bytes_eq, codes}
use Rattle.std.proofs.Common.{eqb-true}
use Rattle.std.proofs.lemmas.Bool.{and_parts}
use Rattle.std.proofs.lemmas.Bool.Decides.{nat_tests}
use Rattle.e3_types.specs.declared.entries.Entry.{Entry}
use Rattle.e3_report.specs.lines.Texts.{line_end}
use Rattle.e3_trace.specs.declared.drafts.Draft.{Draft}
use Rattle.e3_trace.specs.declared.faults.TraceFault.{TraceFault}
use Rattle.e3_trace.specs.declared.faults.TraceFault.TheVariants as fault
use Rattle.e3_report.specs.lines.Marks.{space, feed, in_front, pieces}
use Rattle.e3_trace.specs.Fields.{Known}
use Rattle.e3_trace.specs.Trace.{Reading, next_line, line_by, is_over, one_on, ended, lines_read}
use Rattle.e3_trace.specs.Tellable.{lacks}
use Rattle.e3_trace.proofs.Cutting.{cut_join, pieces_join}
use Rattle.e3_trace.proofs.OneLine.{InLine}
use Rattle.e3_trace.proofs.Words.{joined}

-- equal bytes
pub same_bytes : (xs ys : List ℕ) → bytes_eq xs ys ≡ true → xs ≡ ys
same_bytes [] [] h = refl
same_bytes [] (y ∷ ys) h = absurd cc
same_bytes (x ∷ xs) [] h = absurd cc
same_bytes (x ∷ xs) (y ∷ ys) h =
    let (here, more) = and_parts (x == y) (bytes_eq xs ys) h in
    let e : x ≡ y = eqb-true x y here in
    let f : xs ≡ ys = same_bytes xs ys more in
    cc

-- reading goes on over the text, from here to there, whatever follows
abbrev pub Goes : Reading → Reading → List ℕ → Type 0
Goes r s text = (at : ℕ) (rest : List ℕ) → (k : ℕ) × (lines_read at r (pieces feed (text ++ rest)) ≡ lines_read k s (pieces feed rest))

pub goes_none : (r : Reading) → Goes r r []
goes_none r = λ at rest. (at, refl)

pub goes_then : (r s t : Reading) (a b : List ℕ) → Goes r s a → Goes s t b → Goes r t (a ++ b)
goes_then r s t a b f g = λ at rest.
    let one = f at (b ++ rest) in
    let two = g one.0 rest in
    (two.0, ap (λ w. lines_read at r (pieces feed w)) (append_assoc a b rest) ∙ one.1 ∙ two.1)

-- a text has a first piece
abbrev HasFirst : List (List ℕ) → Type 0
HasFirst ps = (x : List ℕ) × (xs : List (List ℕ)) × (ps ≡ x ∷ xs)

front_first : (b : ℕ) (ps : List (List ℕ)) → HasFirst (in_front b ps)
front_first b [] = (b ∷ [], [], refl)
front_first b (p ∷ ps) = (b ∷ p, ps, refl)

either_first : (c : Bool) (ps qs : List (List ℕ)) → HasFirst ps → HasFirst qs → HasFirst (cond c ps qs)
either_first true ps qs p q = p
either_first false ps qs p q = q

pub first_piece : (mark : ℕ) (text : List ℕ) → HasFirst (pieces mark text)
first_piece mark [] = ([], [], refl)
first_piece mark (b ∷ text) = either_first (b == mark) ([] ∷ pieces mark text) (in_front b (pieces mark text)) ([], pieces mark text, refl) (front_first b (pieces mark text))

pub cond_false : {A : Type 0} (c : Bool) (x y : A) → c ≡ false → cond c x y ≡ y
cond_false true x y e = absurd cc
cond_false false x y e = refl

pub cond_true : {A : Type 0} (c : Bool) (x y : A) → c ≡ true → cond c x y ≡ x
cond_true true x y e = refl
cond_true false x y e = absurd cc

one_more : (at : ℕ) (o : Option Reading) (s : Reading) (more : Reading → Result (List Entry) TraceFault) → o ≡ Some s → is_over s ≡ false → one_on at o more ≡ more s
one_more at o s more e over = ap (λ p. one_on at p more) e ∙ cond_false (is_over s) (Err fault.TooLong) (more s) over

-- the closing line would not go on
end_stops : (r s : Reading) → next_line r (codes "end") ≡ Some s → ⊥
unfolding next_line
end_stops r s h = cc

not_end : (r s : Reading) (line : List ℕ) (c : Bool) → bytes_eq line (codes "end") ≡ c → next_line r line ≡ Some s → c ≡ false
not_end r s line true e h =
    let Next : List ℕ → Type 0 = λ l. next_line r l ≡ Some s in
    absurd (end_stops r s (subst Next (same_bytes line (codes "end") e) h))
not_end r s line false e h = refl

-- a line goes on, before other pieces
line_first : (at : ℕ) (r s : Reading) (line x : List ℕ) (xs : List (List ℕ)) → next_line r line ≡ Some s → is_over s ≡ false
    → lines_read at r (line ∷ x ∷ xs) ≡ lines_read (at + 1) s (x ∷ xs)
line_first at r s line x xs next over =
    cond_false (bytes_eq line (codes "end")) (ended at r (x ∷ xs)) (one_on at (next_line r line) (λ t. lines_read (at + 1) t (x ∷ xs)))
    (not_end r s line (bytes_eq line (codes "end")) refl next)
    ∙ one_more at (next_line r line) s (λ t. lines_read (at + 1) t (x ∷ xs)) next over

line_on : (at : ℕ) (r s : Reading) (line : List ℕ) (ps : List (List ℕ)) → HasFirst ps → next_line r line ≡ Some s → is_over s ≡ false
    → lines_read at r (line ∷ ps) ≡ lines_read (at + 1) s ps
line_on at r s line ps has next over =
    ap (λ q. lines_read at r (line ∷ q)) has.2 ∙ line_first at r s line has.0 has.1 next over ∙ ap (lines_read (at + 1) s) (sym has.2)

-- a line goes on
pub goes_line : (r s : Reading) (line : List ℕ) → InLine line → next_line r line ≡ Some s → is_over s ≡ false → Goes r s (line ++ line_end)
unfolding line_end
goes_line r s line within next over = λ at rest. (
  at + 1,
  ap (λ w. lines_read at r (pieces feed w)) (joined feed line rest)
      ∙ ap (lines_read at r) (pieces_join feed line rest within)
      ∙ line_on at r s line (pieces feed rest) (first_piece feed rest) next over,
)

-- what is read, with an entry whose lines are being read
abbrev pub reading_at : Known → List Entry → Draft → Reading
reading_at known done d = record { known = known; done = done; draft = Some d }

-- no more entries than may be
pub not_over : (known : Known) (done : List Entry) (d : Draft) → length done < 2000000 → is_over (reading_at known done d) ≡ false
not_over known done d few =
    let a : nat_lt 2000000 (length done) ≡ false = grind (arith, nat_tests) in
    let b : (length done == 2000000) ≡ false = grind (arith, nat_tests) in
    rw (a, b) refl

-- a line of this first word
pub next_by : (r s : Reading) (word text : List ℕ) → lacks space word ≡ true → line_by r word text ≡ Some s → next_line r (word ++ space ∷ text) ≡ Some s
unfolding next_line
next_by r s word text whole by = rw (cut_join space word text whole) by
