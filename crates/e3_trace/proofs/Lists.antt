-- Lists of numbers, sets of sites, and parts of the network are read from what is written of them.
use Rattle.std.proofs.Common.{◌≡◌, ◌==◌, ◌&&◌, ◌≤◌, nat_le, nat_lt, ℕ, true, false, not, List, [], ◌∷◌, ◌++◌, Option, Some, None, refl, ap, sym, ◌∙◌, subst, arith, append_assoc, if◌then◌else◌}
use Rattle.std.specs.Prelude.{option_and_then}
use Rattle.std.specs.Fmt.{decimal}
use Rattle.std.specs.List.{flat_map, AllByRecursion as Each}
use Rattle.std.proofs.lemmas.Bool.{and_parts}
use Rattle.std.proofs.lemmas.Bool.Decides.{nat_tests}
use Rattle.std.proofs.lemmas.List.{append-nil}
use Rattle.e3_types.specs.Sets.{ascends, is_set}
use Rattle.e3_report.specs.lines.Texts.{commas, after_comma, sites_text, after_bar, parts_text}
use Rattle.e3_report.specs.lines.Marks.{comma, bar, feed, pieces}
use Rattle.e3_trace.specs.Fields.{is_digit, u32_of, numbers_from, numbers_of, sites_of, parts_from, parts_of}
use Rattle.e3_trace.specs.Tellable.{IsShort, lacks, is_some_set, AreNumbers, AreParts}
use Rattle.e3_trace.proofs.Cutting.{pieces_join, pieces_whole, lacks_join}
use Rattle.e3_trace.proofs.Numbers.{short_again, number_lacks}
use Rattle.e3_trace.proofs.Words.{widen}

-- a number, and more with commas before them
abbrev tail_text : ℕ → List ℕ → List ℕ
tail_text n more = decimal n ++ flat_map after_comma more

tail_cons : (n m : ℕ) (more : List ℕ) → tail_text n (m ∷ more) ≡ decimal n ++ comma ∷ tail_text m more
unfolding after_comma
tail_cons n m more = refl

one_number : (ns : List ℕ) (n : ℕ) (o : Option ℕ) → o ≡ Some n → option_and_then (λ k. numbers_from (ns ++ k ∷ []) []) o ≡ Some (ns ++ n ∷ [])
one_number ns n o e = rw e refl

next_number : (ns : List ℕ) (n : ℕ) (more : List (List ℕ)) (o : Option ℕ) → o ≡ Some n
    → option_and_then (λ k. numbers_from (ns ++ k ∷ []) more) o ≡ numbers_from (ns ++ n ∷ []) more
next_number ns n more o e = rw e refl

numbers_tail : (ns : List ℕ) (n : ℕ) (more : List ℕ) → IsShort n → Each IsShort more → numbers_from ns (pieces comma (tail_text n more)) ≡ Some (ns ++ n ∷ more)
numbers_tail ns n [] short all =
    ap (λ t. numbers_from ns (pieces comma t)) (append-nil (decimal n))
    ∙ ap (numbers_from ns) (pieces_whole comma (decimal n) (number_lacks comma n refl (widen n short)))
    ∙ one_number ns n (u32_of (decimal n)) (short_again n short)
numbers_tail ns n (m ∷ more) short all =
    ap (λ t. numbers_from ns (pieces comma t)) (tail_cons n m more)
    ∙ ap (numbers_from ns) (pieces_join comma (decimal n) (tail_text m more) (number_lacks comma n refl (widen n short)))
    ∙ next_number ns n (pieces comma (tail_text m more)) (u32_of (decimal n)) (short_again n short)
    ∙ numbers_tail (ns ++ n ∷ []) m more all.0 all.1
    ∙ ap Some (append_assoc ns (n ∷ []) (m ∷ more))

-- numbers with commas
pub numbers_again : (ns : List ℕ) → AreNumbers ns → numbers_of (commas ns) ≡ Some ns
unfolding numbers_of
numbers_again [] are = absurd are
numbers_again (n ∷ more) are = numbers_tail [] n more are.0 are.1

tail_lacks : (mark n : ℕ) (more : List ℕ) → is_digit mark ≡ false → (comma == mark) ≡ false → IsShort n → Each IsShort more → lacks mark (tail_text n more) ≡ true
tail_lacks mark n [] digit other short all = lacks_join mark (decimal n) [] (number_lacks mark n digit (widen n short)) refl
tail_lacks mark n (m ∷ more) digit other short all =
    let Lacks : List ℕ → Type 0 = λ t. lacks mark t ≡ true in
    let here : not (comma == mark) ≡ true = rw other refl in
    let rest : lacks mark (comma ∷ tail_text m more) ≡ true = rw here (tail_lacks mark m more digit other all.0 all.1) in
    subst Lacks (sym (tail_cons n m more)) (lacks_join mark (decimal n) (comma ∷ tail_text m more) (number_lacks mark n digit (widen n short)) rest)

pub commas_lack : (mark : ℕ) (ns : List ℕ) → is_digit mark ≡ false → (comma == mark) ≡ false → AreNumbers ns → lacks mark (commas ns) ≡ true
commas_lack mark [] digit other are = absurd are
commas_lack mark (n ∷ more) digit other are = tail_lacks mark n more digit other are.0 are.1

-- the numbers of a set of sites
few_short : (n : ℕ) → nat_le n 64 ≡ true → IsShort n
few_short n h = let few : n ≤ 64 = grind (arith, nat_tests) in omega arith

ascends_short : (low : ℕ) (sites : List ℕ) → ascends low sites ≡ true → Each IsShort sites
ascends_short low [] up = tt
ascends_short low (site ∷ sites) up =
    let (head, rest) = and_parts (nat_lt low site && nat_le site 64) (ascends site sites) up in
    let (above, few) = and_parts (nat_lt low site) (nat_le site 64) head in
    (few_short site few, ascends_short site sites rest)

set_numbers : (sites : List ℕ) → is_some_set sites ≡ true → AreNumbers sites
set_numbers [] is = absurd cc
set_numbers (site ∷ sites) is = ascends_short 0 (site ∷ sites) is

set_is : (sites : List ℕ) → is_some_set sites ≡ true → is_set sites ≡ true
set_is [] is = absurd cc
set_is (site ∷ sites) is = is

set_by : (sites : List ℕ) (o : Option (List ℕ)) → o ≡ Some sites → is_set sites ≡ true → option_and_then (λ s. if is_set s then Some s else None) o ≡ Some sites
set_by sites o e is = rw (e, is) refl

-- a set of sites
pub sites_again : (sites : List ℕ) → is_some_set sites ≡ true → sites_of (sites_text sites) ≡ Some sites
unfolding sites_of sites_text
sites_again sites is = set_by sites (numbers_of (commas sites)) (numbers_again sites (set_numbers sites is)) (set_is sites is)

pub sites_lack : (mark : ℕ) (sites : List ℕ) → is_digit mark ≡ false → (comma == mark) ≡ false → is_some_set sites ≡ true → lacks mark (sites_text sites) ≡ true
unfolding sites_text
sites_lack mark sites digit other is = commas_lack mark sites digit other (set_numbers sites is)

-- parts of the network
abbrev IsPart : List ℕ → Type 0
IsPart part = is_some_set part ≡ true

abbrev parts_tail : List ℕ → List (List ℕ) → List ℕ
parts_tail part more = sites_text part ++ flat_map after_bar more

parts_cons : (part next : List ℕ) (more : List (List ℕ)) → parts_tail part (next ∷ more) ≡ sites_text part ++ bar ∷ parts_tail next more
unfolding after_bar
parts_cons part next more = refl

one_part : (ps : List (List ℕ)) (p : List ℕ) (o : Option (List ℕ)) → o ≡ Some p → option_and_then (λ k. parts_from (ps ++ k ∷ []) []) o ≡ Some (ps ++ p ∷ [])
one_part ps p o e = rw e refl

next_part : (ps : List (List ℕ)) (p : List ℕ) (more : List (List ℕ)) (o : Option (List ℕ)) → o ≡ Some p
    → option_and_then (λ k. parts_from (ps ++ k ∷ []) more) o ≡ parts_from (ps ++ p ∷ []) more
next_part ps p more o e = rw e refl

parts_more : (ps : List (List ℕ)) (part : List ℕ) (more : List (List ℕ)) → IsPart part → Each IsPart more
    → parts_from ps (pieces bar (parts_tail part more)) ≡ Some (ps ++ part ∷ more)
parts_more ps part [] is all =
    ap (λ t. parts_from ps (pieces bar t)) (append-nil (sites_text part))
    ∙ ap (parts_from ps) (pieces_whole bar (sites_text part) (sites_lack bar part refl refl is))
    ∙ one_part ps part (sites_of (sites_text part)) (sites_again part is)
parts_more ps part (next ∷ more) is all =
    ap (λ t. parts_from ps (pieces bar t)) (parts_cons part next more)
    ∙ ap (parts_from ps) (pieces_join bar (sites_text part) (parts_tail next more) (sites_lack bar part refl refl is))
    ∙ next_part ps part (pieces bar (parts_tail next more)) (sites_of (sites_text part)) (sites_again part is)
    ∙ parts_more (ps ++ part ∷ []) next more all.0 all.1
    ∙ ap Some (append_assoc ps (part ∷ []) (next ∷ more))

pub parts_again : (parts : List (List ℕ)) → AreParts parts → parts_of (parts_text parts) ≡ Some parts
unfolding parts_of
parts_again [] are = absurd are
parts_again (part ∷ more) are = parts_more [] part more are.0 are.1

tail_parts_lack : (part : List ℕ) (more : List (List ℕ)) → IsPart part → Each IsPart more → lacks feed (parts_tail part more) ≡ true
tail_parts_lack part [] is all = lacks_join feed (sites_text part) [] (sites_lack feed part refl refl is) refl
tail_parts_lack part (next ∷ more) is all =
    let Lacks : List ℕ → Type 0 = λ t. lacks feed t ≡ true in
    subst Lacks (sym (parts_cons part next more))
    (lacks_join feed (sites_text part) (bar ∷ parts_tail next more) (sites_lack feed part refl refl is) (tail_parts_lack next more all.0 all.1))

pub parts_lack : (parts : List (List ℕ)) → AreParts parts → lacks feed (parts_text parts) ≡ true
parts_lack [] are = absurd are
parts_lack (part ∷ more) are = tail_parts_lack part more are.0 are.1
