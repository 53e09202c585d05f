-- A text, cut at its first mark.
use Rattle.std.proofs.lemmas.Bool.Decides.{nat_tests}
use Rattle.std.specs.List.{position_or_len}
use Rattle.std.proofs.Common.{◌≤◌, cond, not, nat_lt, arith, ◌≡◌, ◌==◌, ◌<◌, ◌+◌, ℕ, suc, Bool, true, false, List, [], ◌∷◌, length, take, drop, Option, Some, None, refl, ap, ◌∙◌, if◌then◌else◌}
use Rattle.std.specs.Prelude.{option_map, unwrap_or}
use Rattle.e3_types.specs.Sets.{with_site}
use Rattle.e3_scenario.specs.Words.{before, after}
use Rattle.e3_report.specs.lines.Marks.{comma, in_front, pieces}
use Rattle.e3_scenario.specs.Parts.{site_of, sites_above}

-- the pieces behind the first
abbrev pub more_pieces : ℕ → Option (List ℕ) → List (List ℕ)
more_pieces mark None = []
more_pieces mark (Some left) = pieces mark left

-- one byte more in front, which is no mark
before_mark : (mark b : ℕ) (text : List ℕ) (n : ℕ) (c : Bool)
    → in_front b (unwrap_or (option_map (λ k. take k text) (cond c (Some n) None)) text
    ∷ more_pieces mark (option_map (λ k. drop (k + 1) text) (cond c (Some n) None)))
    ≡ unwrap_or (option_map (λ k. take k (b ∷ text)) (cond c (Some (1 + n)) None)) (b ∷ text)
    ∷ more_pieces mark (option_map (λ k. drop (k + 1) (b ∷ text)) (cond c (Some (1 + n)) None))
before_mark mark b text n true =
    let e : (1 + n) + 1 ≡ suc (n + 1) = omega arith in
    let f : 1 + n ≡ suc n = omega arith in
    rw (e, f) refl
before_mark mark b text n false = refl

lt_sucs : (n m : ℕ) → nat_lt (1 + n) (suc m) ≡ nat_lt n m
lt_sucs n m = grind (arith, nat_tests)

lt_suc : (m : ℕ) → nat_lt 0 (suc m) ≡ true
lt_suc m = grind (arith, nat_tests)

pub pieces_cut : (mark : ℕ) (text : List ℕ) → pieces mark text ≡ before mark text ∷ more_pieces mark (after mark text)
pieces_cut mark [] = refl
pieces_cut mark (b ∷ text) = by (pieces_cut mark text) (b == mark)
  where
    n : ℕ
    n = position_or_len (λ c. c == mark) text

    place : Bool → Option ℕ
    place t = cond (nat_lt (cond (not t) (1 + n) 0) (suc (length text))) (Some (cond (not t) (1 + n) 0)) None

    by : pieces mark text ≡ before mark text ∷ more_pieces mark (after mark text) → (t : Bool)
        → (if t then [] ∷ pieces mark text else in_front b (pieces mark text))
        ≡ unwrap_or (option_map (λ k. take k (b ∷ text)) (place t)) (b ∷ text) ∷ more_pieces mark (option_map (λ k. drop (k + 1) (b ∷ text)) (place t))
    by cut true = rw (lt_suc (length text)) refl
    by cut false = ap (in_front b) cut ∙ (rw (lt_sucs n (length text)) (before_mark mark b text n (nat_lt n (length text))))

pub pieces_last : (mark : ℕ) (text : List ℕ) → after mark text ≡ None → pieces mark text ≡ before mark text ∷ []
pieces_last mark text none = pieces_cut mark text ∙ ap (λ o. before mark text ∷ more_pieces mark o) none

pub pieces_more : (mark : ℕ) (text left : List ℕ) → after mark text ≡ Some left → pieces mark text ≡ before mark text ∷ pieces mark left
pieces_more mark text left some = pieces_cut mark text ∙ ap (λ o. before mark text ∷ more_pieces mark o) some

-- a set of sites, site by site
pub no_site : (low : ℕ) (sites text : List ℕ) → site_of (before comma text) ≡ None → sites_above low sites (pieces comma text) ≡ None
no_site low sites text none = rw (pieces_cut comma text, none) refl

pub low_site : (low : ℕ) (sites text : List ℕ) (site : ℕ) → site_of (before comma text) ≡ Some site → site ≤ low
    → sites_above low sites (pieces comma text) ≡ None
low_site low sites text site some small =
    let high : nat_lt low site ≡ false = grind (arith, nat_tests) in
    rw (pieces_cut comma text, some, high) refl

pub last_site : (low : ℕ) (sites text : List ℕ) (site : ℕ) → site_of (before comma text) ≡ Some site → low < site → after comma text ≡ None
    → sites_above low sites (pieces comma text) ≡ Some (with_site site sites)
last_site low sites text site some above last =
    let high : nat_lt low site ≡ true = grind (arith, nat_tests) in
    rw (pieces_last comma text last, some, high) refl

pub next_site : (low : ℕ) (sites text : List ℕ) (site : ℕ) (left : List ℕ) → site_of (before comma text) ≡ Some site → low < site → after comma text ≡ Some left
    → sites_above low sites (pieces comma text) ≡ sites_above site (with_site site sites) (pieces comma left)
next_site low sites text site left some above next =
    let high : nat_lt low site ≡ true = grind (arith, nat_tests) in
    rw (pieces_more comma text left next, some, high) refl
