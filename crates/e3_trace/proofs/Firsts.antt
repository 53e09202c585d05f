-- The first line of an entry is read from what is written of it.
use Rattle.std.proofs.Common.{◌≡◌, ◌==◌, ◌&&◌, ◌*◌, ◌+◌, ◌-◌, ℕ, Bool, true, false, nat_le, cond, List, [], ◌∷◌, ◌++◌, length, Option, Some, None, refl, ap, ◌∙◌, append_assoc}
use Rattle.std.specs.Prelude.{option_map, option_and_then, codes}
use Rattle.std.specs.Fmt.{decimal}
use Rattle.std.proofs.lemmas.List.{append-nil}
use Rattle.e3_types.specs.declared.entries.Act.{Act}
use Rattle.e3_types.specs.declared.entries.Act.TheVariants as act
use Rattle.e3_types.specs.declared.entries.Input.{Input}
use Rattle.e3_types.specs.declared.entries.Why.{Why}
use Rattle.e3_types.specs.declared.entries.Why.TheVariants.{Fault, Full}
use Rattle.e3_report.specs.lines.Texts.{parts_text, kept_text}
use Rattle.e3_report.specs.lines.Events.{why_text}
use Rattle.e3_report.specs.lines.Inputs.{input_text}
use Rattle.e3_report.specs.lines.Entries.{parts_form, step_form, fall_form, rise_form, failed_rise_form, form_text}
use Rattle.e3_trace.specs.declared.drafts.Draft.{Draft}
use Rattle.e3_trace.specs.declared.drafts.Head.TheVariants as head
use Rattle.e3_trace.specs.Cuts.{Form, made_of, pair_of, behind}
use Rattle.e3_report.specs.lines.Marks.{space}
use Rattle.e3_trace.specs.Drafts.{draft_of}
use Rattle.e3_trace.specs.Entries.{full_from, full_and, why_and, why_of, kept_of, rise_of, kept_why_of, failed_rise_of, fall_of, whole_of, act_by, draft_by, form_of}
use Rattle.e3_trace.specs.Events.{of_of}
use Rattle.e3_trace.specs.Fields.{Known, is_digit, digits_from, number_of, u32_of, u64_of, parts_of}
use Rattle.e3_trace.specs.Inputs.{input_of}
use Rattle.e3_trace.specs.Tellable.{IsShort, IsLong, lacks, IsWhy, ActTells}
use Rattle.e3_trace.proofs.Cutting.{cut_join, cut_whole, pair_again}
use Rattle.e3_trace.proofs.Lists.{parts_again, parts_lack}
use Rattle.e3_trace.proofs.Numbers.{short_again, long_again, number_lacks}
use Rattle.e3_trace.proofs.OneLine.{InLine, also, and_text, short_in, long_in, why_in, kept_in, input_in}
use Rattle.e3_trace.proofs.Sentences.{made, of_again, input_again}
use Rattle.e3_trace.proofs.Words.{widen, joined}

-- a number does not go on behind a space
either_none : (c : Bool) (o : Option ℕ) → o ≡ None → cond c o None ≡ None
either_none true o e = e
either_none false o e = refl

digits_end : (most n : ℕ) (text rest : List ℕ) → digits_from most n (text ++ space ∷ rest) ≡ None
digits_end most n [] rest = refl
digits_end most n (b ∷ text) rest =
    either_none (is_digit b && nat_le (n * 10 + (b - 48)) most) (digits_from most (n * 10 + (b - 48)) (text ++ space ∷ rest)) (digits_end most (n * 10 + (b - 48)) text rest)

or_none : (c : Bool) (o : Option ℕ) → o ≡ None → cond c None o ≡ None
or_none true o e = refl
or_none false o e = e

number_end : (most : ℕ) (text : List ℕ) (b : ℕ) (rest : List ℕ) → number_of most (text ++ space ∷ b ∷ rest) ≡ None
unfolding number_of
number_end most [] b rest = refl
number_end most (x ∷ []) b rest = or_none (x == 48) (digits_from most 0 (x ∷ space ∷ b ∷ rest)) (digits_end most 0 (x ∷ []) (b ∷ rest))
number_end most (x ∷ y ∷ text) b rest = or_none (x == 48) (digits_from most 0 (x ∷ y ∷ text ++ space ∷ b ∷ rest)) (digits_end most 0 (x ∷ y ∷ text) (b ∷ rest))

-- two numbers with `of` between them, and what is behind the second
of_rest : (a b : ℕ) (rest : List ℕ) → ((decimal a ++ codes " of ") ++ decimal b) ++ rest ≡ decimal a ++ space ∷ (codes "of " ++ (decimal b ++ rest))
of_rest a b rest = append_assoc (decimal a ++ codes " of ") (decimal b) rest ∙ append_assoc (decimal a) (codes " of ") (decimal b ++ rest)

none_by : {A B : Type 0} (o : Option A) (x : A) (next : A → Option B) → o ≡ Some x → next x ≡ None → option_and_then next o ≡ None
none_by o x next e f = ap (option_and_then next) e ∙ f

-- a failing disk, or want of room, and a value behind
full_again : {A : Type 0} (value : Form A) (need room : ℕ) (text : List ℕ) (x : A) → IsLong need → IsLong room → value text ≡ Some x
    → full_and value (((codes "full " ++ decimal need ++ codes " of ") ++ decimal room) ++ space ∷ text) ≡ Some (Full need room, x)
full_again {A} value need room text x hn hr read =
    let second = pair_again space u64_of value (decimal room) text room x (number_lacks space room refl hr) (long_again room hr) read in
    let all = pair_again space u64_of (behind (codes "of") (pair_of space u64_of value)) (decimal need) (codes "of " ++ (decimal room ++ space ∷ text)) need (room, x)
    (number_lacks space need refl hn) (long_again need hn) second in
    made (λ (p : ℕ × (ℕ × A)). (Full p.0 p.1.0, p.1.1)) (pair_of space u64_of (behind (codes "of") (pair_of space u64_of value)) (((decimal need ++ codes " of ") ++ decimal room) ++ space ∷ text)) (need, (room, x))
    (ap (pair_of space u64_of (behind (codes "of") (pair_of space u64_of value))) (of_rest need room (space ∷ text)) ∙ all)

fault_again : {A : Type 0} (value : Form A) (text : List ℕ) (x : A) → value text ≡ Some x → why_and value (codes "fault " ++ text) ≡ Some (Fault, x)
fault_again {A} value text x read = made (λ (y : A). (Fault, y)) (value text) x read

and_again : {A : Type 0} (value : Form A) (why : Why) (text : List ℕ) (x : A) → IsWhy why → value text ≡ Some x → why_and value (why_text why ++ space ∷ text) ≡ Some (why, x)
unfolding why_text
and_again value Fault text x is read = fault_again value text x read
and_again value (Full need room) text x is read = full_again value need room text x is.0 is.1 read

-- why a site fell
why_again : (why : Why) → IsWhy why → why_of (why_text why) ≡ Some why
unfolding why_of why_text
why_again Fault is = refl
why_again (Full need room) is = made full_from (of_of ((decimal need ++ codes " of ") ++ decimal room)) (need, room) (of_again need room is.0 is.1)

full_ends : (need room : ℕ) → IsLong need → IsLong room → of_of (((decimal need ++ codes " of ") ++ decimal room) ++ codes " kept") ≡ None
unfolding of_of
full_ends need room hn hr =
    ap (pair_of space u64_of (behind (codes "of") u64_of)) (of_rest need room (codes " kept"))
    ∙ pair_none (decimal need) (codes "of " ++ (decimal room ++ codes " kept")) need (number_lacks space need refl hn) (long_again need hn)
    (number_end 18446744073709551615 (decimal room) 107 (codes "ept"))
  where
    pair_none : (s t : List ℕ) (x : ℕ) → lacks space s ≡ true → u64_of s ≡ Some x → behind (codes "of") u64_of t ≡ None → pair_of space u64_of (behind (codes "of") u64_of) (s ++ space ∷ t) ≡ None
    pair_none s t x h r n = rw (cut_join space s t h, r, n) refl

why_ends : (why : Why) → IsWhy why → why_of (why_text why ++ codes " kept") ≡ None
unfolding why_of why_text
why_ends Fault is = refl
why_ends (Full need room) is = ap (option_map full_from) (full_ends need room is.0 is.1)

kept_by : (text : List ℕ) (why : Why) → why_of text ≡ None → why_and kept_of text ≡ Some (why, true) → kept_why_of text ≡ Some (true, why)
unfolding kept_why_of
kept_by text why none some = rw (none, some) refl

why_spelled : (text : List ℕ) (why : Why) → why_of text ≡ Some why → kept_why_of text ≡ Some (false, why)
unfolding kept_why_of
why_spelled text why some = rw some refl

kept_why_again : (why : Why) (kept : Bool) → IsWhy why → kept_why_of (why_text why ++ kept_text kept) ≡ Some (kept, why)
unfolding kept_text
kept_why_again why true is = kept_by (why_text why ++ codes " kept") why (why_ends why is) (and_again kept_of why (codes "kept") true is refl)
kept_why_again why false is = ap kept_why_of (append-nil (why_text why)) ∙ why_spelled (why_text why) why (why_again why is)

-- rises
rise_kept : (inc : ℕ) → IsShort inc → rise_of (decimal inc ++ codes " kept") ≡ Some (act.Rise true inc)
unfolding rise_of
rise_kept inc h = rw (cut_join space (decimal inc) (codes "kept") (number_lacks space inc refl (widen inc h)), short_again inc h) refl

rise_spelled : (inc : ℕ) → IsShort inc → rise_of (decimal inc) ≡ Some (act.Rise false inc)
unfolding rise_of
rise_spelled inc h = rw (cut_whole space (decimal inc) (number_lacks space inc refl (widen inc h)), short_again inc h) refl

rise_again : (inc : ℕ) (kept : Bool) → IsShort inc → rise_of (decimal inc ++ kept_text kept) ≡ Some (act.Rise kept inc)
unfolding kept_text
rise_again inc true h = rise_kept inc h
rise_again inc false h = ap rise_of (append-nil (decimal inc)) ∙ rise_spelled inc h

failed_again : (inc : ℕ) (why : Why) (kept : Bool) → IsShort inc → IsWhy why → failed_rise_of (((decimal inc ++ codes " ") ++ why_text why) ++ kept_text kept) ≡ Some (act.RiseFall kept inc why)
unfolding failed_rise_of
failed_again inc why kept h is =
    let all = pair_again space u32_of kept_why_of (decimal inc) (why_text why ++ kept_text kept) inc (kept, why) (number_lacks space inc refl (widen inc h)) (short_again inc h) (kept_why_again why kept is) in
    made (λ (p : ℕ × (Bool × Why)). act.RiseFall p.1.0 p.0 p.1.1) (pair_of space u32_of kept_why_of (((decimal inc ++ codes " ") ++ why_text why) ++ kept_text kept)) (inc, (kept, why))
    (ap (pair_of space u32_of kept_why_of) (append_assoc (decimal inc ++ codes " ") (why_text why) (kept_text kept) ∙ joined space (decimal inc) (why_text why ++ kept_text kept)) ∙ all)

fall_again : (why : Why) (count : ℕ) → IsWhy why → IsLong count → fall_of ((why_text why ++ codes " ") ++ decimal count) ≡ Some (why, count)
unfolding fall_of
fall_again why count is h = ap (why_and u64_of) (joined space (why_text why) (decimal count)) ∙ and_again u64_of why (decimal count) count is (long_again count h)

-- an entry as its first line has it
abbrev pub first_draft : ℕ → Act → Draft
first_draft owner (act.Step i records outs events) = draft_of owner (head.Step i) 0
first_draft owner (act.Fall inputs records why) = draft_of owner (head.Fall why) (length inputs)
first_draft owner (act.Rise kept inc) = whole_of owner (act.Rise kept inc)
first_draft owner (act.RiseFall kept inc why) = whole_of owner (act.RiseFall kept inc why)
first_draft owner act.Miss = whole_of owner act.Miss
first_draft owner act.Cut = whole_of owner act.Cut
first_draft owner (act.Drop packet) = whole_of owner (act.Drop packet)
first_draft owner (act.Parts parts) = whole_of owner (act.Parts parts)
first_draft owner (act.Line number) = whole_of owner (act.Line number)

pub form_again : (known : Known) (owner : ℕ) (a : Act) → ActTells known owner a → form_of known owner (form_text a) ≡ Some (first_draft owner a)
unfolding form_of draft_by act_by form_text parts_form step_form fall_form rise_form failed_rise_form
form_again known owner (act.Step i records outs events) is = made (λ (j : Input). draft_of owner (head.Step j) 0) (input_of known (input_text i)) i (input_again known i is.0)
form_again known owner (act.Fall inputs records why) is =
    made (λ (p : Why × ℕ). draft_of owner (head.Fall p.0) p.1) (fall_of ((why_text why ++ codes " ") ++ decimal (length inputs))) (why, length inputs) (fall_again why (length inputs) is.0 is.1.0)
form_again known owner (act.Rise kept inc) is = made (whole_of owner) (rise_of (decimal inc ++ kept_text kept)) (act.Rise kept inc) (rise_again inc kept is)
form_again known owner (act.RiseFall kept inc why) is =
    made (whole_of owner) (failed_rise_of (((decimal inc ++ codes " ") ++ why_text why) ++ kept_text kept)) (act.RiseFall kept inc why) (failed_again inc why kept is.0 is.1)
form_again known owner act.Miss is = refl
form_again known owner act.Cut is = refl
form_again known owner (act.Drop packet) is = made (whole_of owner) (made_of act.Drop u64_of (decimal packet)) (act.Drop packet) (made act.Drop (u64_of (decimal packet)) packet (long_again packet is))
form_again known owner (act.Parts parts) is = made (whole_of owner) (made_of act.Parts parts_of (parts_text parts)) (act.Parts parts) (made act.Parts (parts_of (parts_text parts)) parts (parts_again parts is))
form_again known owner (act.Line number) is = made (whole_of owner) (made_of act.Line u32_of (decimal number)) (act.Line number) (made act.Line (u32_of (decimal number)) number (short_again number is))

-- the form of an entry has no line's end
pub form_in : (known : Known) (owner : ℕ) (a : Act) → ActTells known owner a → InLine (form_text a)
unfolding form_text parts_form step_form fall_form rise_form failed_rise_form
form_in known owner (act.Step i records outs events) is = input_in known i is.0
form_in known owner (act.Fall inputs records why) is = and_text (codes "fall " ++ why_text why) (decimal (length inputs)) (why_in why is.0) (long_in (length inputs) is.1.0)
form_in known owner (act.Rise kept inc) is = also (decimal inc) (kept_text kept) (short_in inc is) (kept_in kept)
form_in known owner (act.RiseFall kept inc why) is =
    also (codes "risefall " ++ decimal inc ++ codes " " ++ why_text why) (kept_text kept) (and_text (codes "risefall " ++ decimal inc) (why_text why) (short_in inc is.0) (why_in why is.1)) (kept_in kept)
form_in known owner act.Miss is = refl
form_in known owner act.Cut is = refl
form_in known owner (act.Drop packet) is = long_in packet is
form_in known owner (act.Parts parts) is = parts_lack parts is
form_in known owner (act.Line number) is = short_in number is
