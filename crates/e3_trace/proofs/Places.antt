-- Where a text is cut, and its pieces.
use Rattle.std.proofs.lemmas.Bool.Decides.{nat_tests}
use Rattle.std.specs.List.{position_or_len}
use Rattle.std.proofs.Common.{cond, not, nat_lt, arith, ◌≡◌, ◌==◌, ◌+◌, ℕ, suc, Bool, true, false, List, [], ◌∷◌, length, take, drop, Option, Some, None, refl, ap, ◌∙◌}
use Rattle.std.specs.Prelude.{option_map, position}
use Rattle.e3_trace.specs.Cuts.{cut}
use Rattle.e3_report.specs.lines.Marks.{in_front, pieces}

-- two parts of a text
abbrev pub Parts : Type 0
Parts = List ℕ × List ℕ

-- what stands before a place, and what stands behind it
abbrev parts_at : List ℕ → ℕ → Parts
parts_at text k = (take k text, drop (k + 1) text)

-- one byte more in front of the first
abbrev pub longer : ℕ → Parts → Parts
longer b p = (b ∷ p.0, p.1)

-- no byte in front of a text
abbrev at_once : List ℕ → Option Parts
at_once text = Some ([], text)

-- one byte more in front, which is no mark
front : (b : ℕ) (text : List ℕ) (n : ℕ) (c : Bool)
    → option_map (longer b) (option_map (parts_at text) (cond c (Some n) None)) ≡ option_map (parts_at (b ∷ text)) (cond c (Some (1 + n)) None)
front b text n true =
    let e : (1 + n) + 1 ≡ suc (n + 1) = omega arith in
    let f : 1 + n ≡ suc n = omega arith in
    rw (e, f) refl
front b text n false = refl

lt_sucs : (n m : ℕ) → nat_lt (1 + n) (suc m) ≡ nat_lt n m
lt_sucs n m = grind (arith, nat_tests)

lt_suc : (m : ℕ) → nat_lt 0 (suc m) ≡ true
lt_suc m = grind (arith, nat_tests)

-- a text is cut at the first place of the mark
cut_at : (mark : ℕ) (text : List ℕ) → cut mark text ≡ option_map (parts_at text) (position (λ b. b == mark) text)
cut_at mark [] = refl
cut_at mark (b ∷ text) = by (cut_at mark text) (b == mark)
  where
    n : ℕ
    n = position_or_len (λ c. c == mark) text

    place : Bool → Option ℕ
    place t = cond (nat_lt (cond (not t) (1 + n) 0) (suc (length text))) (Some (cond (not t) (1 + n) 0)) None

    by : cut mark text ≡ option_map (parts_at text) (position (λ c. c == mark) text) → (t : Bool)
        → cond t (at_once text) (option_map (longer b) (cut mark text)) ≡ option_map (parts_at (b ∷ text)) (place t)
    by ih true = rw (lt_suc (length text)) refl
    by ih false = ap (option_map (longer b)) ih ∙ (rw (lt_sucs n (length text)) (front b text n (nat_lt n (length text))))

pub cut_none : (mark : ℕ) (text : List ℕ) → position (λ b. b == mark) text ≡ None → cut mark text ≡ None
cut_none mark text none = cut_at mark text ∙ ap (option_map (parts_at text)) none

pub cut_some : (mark : ℕ) (text : List ℕ) (place : ℕ) → position (λ b. b == mark) text ≡ Some place → cut mark text ≡ Some (take place text, drop (place + 1) text)
cut_some mark text place some = cut_at mark text ∙ ap (option_map (parts_at text)) some

-- the pieces of a text that is cut
abbrev pub pieces_by : ℕ → List ℕ → Option Parts → List (List ℕ)
pieces_by mark text None = text ∷ []
pieces_by mark text (Some p) = p.0 ∷ pieces mark p.1

pieces_front : (mark b : ℕ) (text : List ℕ) (o : Option Parts)
    → in_front b (pieces_by mark text o) ≡ pieces_by mark (b ∷ text) (option_map (longer b) o)
pieces_front mark b text None = refl
pieces_front mark b text (Some p) = refl

pub pieces_cut : (mark : ℕ) (text : List ℕ) → pieces mark text ≡ pieces_by mark text (cut mark text)
pieces_cut mark [] = refl
pieces_cut mark (b ∷ text) = by (pieces_cut mark text) (b == mark)
  where
    by : pieces mark text ≡ pieces_by mark text (cut mark text) → (t : Bool)
        → cond t ([] ∷ pieces mark text) (in_front b (pieces mark text))
        ≡ pieces_by mark (b ∷ text) (cond t (at_once text) (option_map (longer b) (cut mark text)))
    by ih true = refl
    by ih false = ap (in_front b) ih ∙ pieces_front mark b text (cut mark text)

pub pieces_none : (mark : ℕ) (text : List ℕ) → cut mark text ≡ None → pieces mark text ≡ text ∷ []
pieces_none mark text none = pieces_cut mark text ∙ ap (pieces_by mark text) none

pub pieces_some : (mark : ℕ) (text before left : List ℕ) → cut mark text ≡ Some (before, left) → pieces mark text ≡ before ∷ pieces mark left
pieces_some mark text before left some = pieces_cut mark text ∙ ap (pieces_by mark text) some
