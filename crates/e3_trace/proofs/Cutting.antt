-- A text that was joined is cut where it was joined.
use Rattle.std.proofs.Common.{◌≡◌, ◌==◌, ◌&&◌, ℕ, Bool, true, false, not, List, [], ◌∷◌, ◌++◌, Option, Some, None, refl, ap, arith, cond}
use Rattle.std.specs.Prelude.{option_map}
use Rattle.std.specs.List.{list_all}
use Rattle.std.proofs.Common.{eqb-true}
use Rattle.std.proofs.lemmas.Bool.{and_parts}
use Rattle.e3_trace.specs.Cuts.{cut, Form, made_of, pair_of}
use Rattle.e3_report.specs.lines.Marks.{in_front, pieces}
use Rattle.e3_trace.specs.Tellable.{lacks}
use Rattle.e3_trace.proofs.Places.{Parts, longer}

-- two parts, or none
abbrev parted : List ℕ → List ℕ → Option Parts
parted a b = Some (a, b)

-- a text without the mark, joined by it to another
cut_by : (mark b : ℕ) (text rest : List ℕ) (t : Bool) → not t ≡ true → cut mark (text ++ mark ∷ rest) ≡ Some (text, rest)
    → cond t (parted [] (text ++ mark ∷ rest)) (option_map (longer b) (cut mark (text ++ mark ∷ rest))) ≡ Some (b ∷ text, rest)
cut_by mark b text rest true h ih = absurd cc
cut_by mark b text rest false h ih = rw ih refl

same : (n : ℕ) → (n == n) ≡ true
same n = grind arith

pub cut_join : (mark : ℕ) (text rest : List ℕ) → lacks mark text ≡ true → cut mark (text ++ mark ∷ rest) ≡ Some (text, rest)
cut_join mark [] rest h = rw (same mark) refl
cut_join mark (b ∷ text) rest h =
    let (here, more) = and_parts (not (b == mark)) (lacks mark text) h in
    cut_by mark b text rest (b == mark) here (cut_join mark text rest more)

none_by : (mark b : ℕ) (text : List ℕ) (t : Bool) → not t ≡ true → cut mark text ≡ None
    → cond t (parted [] text) (option_map (longer b) (cut mark text)) ≡ None
none_by mark b text true h ih = absurd cc
none_by mark b text false h ih = rw ih refl

-- a text without the mark is not cut
pub cut_whole : (mark : ℕ) (text : List ℕ) → lacks mark text ≡ true → cut mark text ≡ None
cut_whole mark [] h = refl
cut_whole mark (b ∷ text) h =
    let (here, more) = and_parts (not (b == mark)) (lacks mark text) h in
    none_by mark b text (b == mark) here (cut_whole mark text more)

pieces_join_by : (mark b : ℕ) (text rest : List ℕ) (t : Bool) → not t ≡ true → pieces mark (text ++ mark ∷ rest) ≡ text ∷ pieces mark rest
    → cond t ([] ∷ pieces mark (text ++ mark ∷ rest)) (in_front b (pieces mark (text ++ mark ∷ rest))) ≡ (b ∷ text) ∷ pieces mark rest
pieces_join_by mark b text rest true h ih = absurd cc
pieces_join_by mark b text rest false h ih = rw ih refl

-- the pieces of a text that was joined
pub pieces_join : (mark : ℕ) (text rest : List ℕ) → lacks mark text ≡ true → pieces mark (text ++ mark ∷ rest) ≡ text ∷ pieces mark rest
pieces_join mark [] rest h = rw (same mark) refl
pieces_join mark (b ∷ text) rest h =
    let (here, more) = and_parts (not (b == mark)) (lacks mark text) h in
    pieces_join_by mark b text rest (b == mark) here (pieces_join mark text rest more)

whole_by : (mark b : ℕ) (text : List ℕ) (t : Bool) → not t ≡ true → pieces mark text ≡ text ∷ []
    → cond t ([] ∷ pieces mark text) (in_front b (pieces mark text)) ≡ (b ∷ text) ∷ []
whole_by mark b text true h ih = absurd cc
whole_by mark b text false h ih = rw ih refl

-- a text without the mark is one piece
pub pieces_whole : (mark : ℕ) (text : List ℕ) → lacks mark text ≡ true → pieces mark text ≡ text ∷ []
pieces_whole mark [] h = refl
pieces_whole mark (b ∷ text) h =
    let (here, more) = and_parts (not (b == mark)) (lacks mark text) h in
    whole_by mark b text (b == mark) here (pieces_whole mark text more)

-- two values are read behind each other
pub pair_again : {A B : Type 0} (mark : ℕ) (a : Form A) (b : Form B) (s t : List ℕ) (x : A) (y : B) → lacks mark s ≡ true → a s ≡ Some x → b t ≡ Some y
    → pair_of mark a b (s ++ mark ∷ t) ≡ Some (x, y)
pair_again mark a b s t x y h ra rb = rw (cut_join mark s t h, ra, rb) refl

pub made_again : {A B : Type 0} (make : A → B) (a : Form A) (s : List ℕ) (x : A) → a s ≡ Some x → made_of make a s ≡ Some (make x)
made_again make a s x ra = rw ra refl

-- lists that lack a byte, joined
both_by : (a b : Bool) → a ≡ true → b ≡ true → (a && b) ≡ true
both_by a b p q = rw (p, q) refl

pub lacks_join : (mark : ℕ) (a b : List ℕ) → lacks mark a ≡ true → lacks mark b ≡ true → lacks mark (a ++ b) ≡ true
lacks_join mark [] b p q = q
lacks_join mark (x ∷ a) b p q =
    let (here, more) = and_parts (not (x == mark)) (lacks mark a) p in
    both_by (not (x == mark)) (lacks mark (a ++ b)) here (lacks_join mark a b more q)

other_by : (test : ℕ → Bool) (mark b : ℕ) (t : Bool) → (b == mark) ≡ t → test b ≡ true → test mark ≡ false → not t ≡ true
other_by test mark b true e p q =
    let same : b ≡ mark = eqb-true b mark e in
    absurd (cc (ap test same, p, q))
other_by test mark b false e p q = refl

-- bytes of which each passes a test that the mark fails
pub lacks_by : (test : ℕ → Bool) (mark : ℕ) (text : List ℕ) → test mark ≡ false → list_all test text ≡ true → lacks mark text ≡ true
lacks_by test mark [] fails all = refl
lacks_by test mark (b ∷ text) fails all =
    let (here, more) = and_parts (test b) (list_all test text) all in
    both_by (not (b == mark)) (lacks mark text) (other_by test mark b (b == mark) refl here fails) (lacks_by test mark text fails more)
