-- The parts of the network are those that the steps so far asked for; so the group of a recover step lies in one.
use Rattle.std.proofs.Common.{◌≡◌, ◌+◌, ◌&&◌, if◌then◌else◌, ℕ, zero, suc, Bool, true, false, List, [], ◌∷◌, ◌++◌, append-nil, append_assoc, Some, None, ◌∙◌, ap, sym, subst, refl, arith, count_by}
use Rattle.std.specs.List.{list_any}
use Rattle.std.proofs.lemmas.Grind.{fold-append}
use Rattle.e3_types.specs.declared.entries.Act.{Act}
use Rattle.e3_types.specs.declared.entries.Act.TheVariants.{Step, Fall, Rise, RiseFall, Miss, Cut, Drop, Parts, Line}
use Rattle.e3_types.specs.declared.entries.Entry.{Entry}
use Rattle.e3_types.specs.declared.scenarios.Item.{Item}
use Rattle.e3_types.specs.declared.scenarios.Item.TheVariants as item
use Rattle.e3_types.specs.declared.scenarios.Scenario.{Scenario}
use Rattle.e3_types.specs.Sets.{is_within}
use Rattle.e3_world.specs.Items.{since_line}
use Rattle.e3_world.specs.Legal.{Guard, LegalAfter, begins_with_parts, is_made, is_through, parts_due}
use Rattle.e3_world.specs.Packets.{all_sites, is_line, lines, parts_of, pending, present_items, step_items}
use Rattle.e3_world.proofs.Guards.{lines_push}
use Rattle.e3_world.proofs.Readings.{since_push, split_push}
use Rattle.e3_laws.specs.rounds.Claims.{GroupInOnePart}
use Rattle.e3_laws.proofs.rounds.Deliveries.Forced.{some_line}
use Rattle.e3_laws.proofs.rounds.Deliveries.Steps.{group_within, parts_or, parts_after, parts_more}
use Rattle.e3_laws.proofs.steps.Items.{is_empty, through_at}

-- the parts at the line of a step
abbrev parts_before : Scenario → ℕ → List (List ℕ)
parts_before sc zero = all_sites sc ∷ []
parts_before sc (suc n) = parts_after sc n

abbrev PartsAre : Scenario → List Entry → Type 0
PartsAre sc h = parts_of sc h ≡ (if begins_with_parts (since_line h) then parts_after sc (lines h) else parts_before sc (lines h))

-- an act that is neither a line nor of the parts
abbrev is_other : Act → Bool
is_other (Line number) = false
is_other (Parts parts) = false
is_other _ = true

parts_same : (sc : Scenario) (h : List Entry) (o : ℕ) (act : Act) → is_other act ≡ true → parts_of sc (h ++ record { owner = o; act = act } ∷ []) ≡ parts_of sc h
parts_same sc h o (Step i records outs told) is = fold-append _ _ h (record { owner = o; act = Step i records outs told } ∷ [])
parts_same sc h o (Fall inputs records why) is = fold-append _ _ h (record { owner = o; act = Fall inputs records why } ∷ [])
parts_same sc h o (Rise kept inc) is = fold-append _ _ h (record { owner = o; act = Rise kept inc } ∷ [])
parts_same sc h o (RiseFall kept inc why) is = fold-append _ _ h (record { owner = o; act = RiseFall kept inc why } ∷ [])
parts_same sc h o Miss is = fold-append _ _ h (record { owner = o; act = Miss } ∷ [])
parts_same sc h o Cut is = fold-append _ _ h (record { owner = o; act = Cut } ∷ [])
parts_same sc h o (Drop number) is = fold-append _ _ h (record { owner = o; act = Drop number } ∷ [])
parts_same sc h o (Line number) is = absurd cc
parts_same sc h o (Parts parts) is = absurd cc

no_line : (o : ℕ) (act : Act) → is_other act ≡ true → is_line (record { owner = o; act = act }) ≡ false
no_line o (Step i records outs told) is = refl
no_line o (Fall inputs records why) is = refl
no_line o (Rise kept inc) is = refl
no_line o (RiseFall kept inc why) is = refl
no_line o Miss is = refl
no_line o Cut is = refl
no_line o (Drop number) is = refl
no_line o (Line number) is = absurd cc
no_line o (Parts parts) is = absurd cc

no_parts : (o : ℕ) (act : Act) → is_other act ≡ true → begins_with_parts (record { owner = o; act = act } ∷ []) ≡ false
no_parts o (Step i records outs told) is = refl
no_parts o (Fall inputs records why) is = refl
no_parts o (Rise kept inc) is = refl
no_parts o (RiseFall kept inc why) is = refl
no_parts o Miss is = refl
no_parts o Cut is = refl
no_parts o (Drop number) is = refl
no_parts o (Line number) is = absurd cc
no_parts o (Parts parts) is = absurd cc

begins_same : (xs : List Entry) (e : Entry) → begins_with_parts (e ∷ []) ≡ false → begins_with_parts (xs ++ e ∷ []) ≡ begins_with_parts xs
begins_same [] e is = is
begins_same (x ∷ xs) e is = refl

other_keeps : (sc : Scenario) (h : List Entry) (o : ℕ) (act : Act) → is_other act ≡ true → PartsAre sc h → PartsAre sc (h ++ record { owner = o; act = act } ∷ [])
other_keeps sc h o act is was =
    parts_same sc h o act is ∙ was
    ∙ ap (λ b. if b then parts_after sc (lines h) else parts_before sc (lines h)) (sym begins)
    ∙ ap (λ n. if begins_with_parts (since_line (h ++ e ∷ [])) then parts_after sc n else parts_before sc n) (sym count)
  where
    e : Entry
    e = record { owner = o; act = act }

    begins : begins_with_parts (since_line (h ++ e ∷ [])) ≡ begins_with_parts (since_line h)
    begins = ap begins_with_parts (since_push h e (no_line o act is)) ∙ begins_same (since_line h) e (no_parts o act is)

    count : lines (h ++ e ∷ []) ≡ lines h
    count = lines_push h e ∙ (let one : count_by is_line (e ∷ []) ≡ 0 = rw (no_line o act is) refl in let same : lines h + count_by is_line (e ∷ []) ≡ lines h = omega (arith, one) in same)

-- a step that is made and asked for parts has its entry
made_parts : (sc : Scenario) (h : List Entry) (items : List Item) → present_items sc h ≡ items → is_made sc h ≡ true → begins_with_parts (since_line h) ≡ false →
    parts_due sc items ≡ None
made_parts sc h [] is made none = refl
made_parts sc h (item.Split parts ∷ items) is made none =
    absurd (let yes_made : is_made sc h ≡ begins_with_parts (since_line h) = rw is refl in let same : true ≡ false = sym made ∙ yes_made ∙ none in cc)
made_parts sc h (item.Merge ∷ items) is made none =
    absurd (let yes_made : is_made sc h ≡ begins_with_parts (since_line h) = rw is refl in let same : true ≡ false = sym made ∙ yes_made ∙ none in cc)
made_parts sc h (item.Begin name site sites ∷ items) is made none = refl
made_parts sc h (item.Read name key ∷ items) is made none = refl
made_parts sc h (item.Write name key val ∷ items) is made none = refl
made_parts sc h (item.Commit name ∷ items) is made none = refl
made_parts sc h (item.Cancel name ∷ items) is made none = refl
made_parts sc h (item.Expire site name ∷ items) is made none = refl
made_parts sc h (item.Elect site name sites ∷ items) is made none = refl
made_parts sc h (item.Recover sites ∷ items) is made none = refl
made_parts sc h (item.Crash site ∷ items) is made none = refl
made_parts sc h (item.Restart site ∷ items) is made none = refl
made_parts sc h (item.Stop site count leave ∷ items) is made none = refl

second : (a b : Bool) → (a && b) ≡ true → b ≡ true
second true b is = is
second false b is = absurd cc

through_made : (sc : Scenario) (h : List Entry) (n : ℕ) → lines h ≡ suc n → is_through sc h ≡ true → is_made sc h ≡ true
through_made sc h n is through = second (is_empty (pending sc h)) (is_made sc h) (subst (λ k. through_at sc h k ≡ true) is at)
  where
    at : through_at sc h (lines h) ≡ true
    at = through

-- at the next line all that was asked for is so
at_line : (sc : Scenario) (h : List Entry) → PartsAre sc h → is_through sc h ≡ true → parts_of sc h ≡ parts_after sc (lines h)
at_line sc h was through = by (begins_with_parts (since_line h)) refl
  where
    by_lines : begins_with_parts (since_line h) ≡ false → (n : ℕ) → lines h ≡ n → parts_before sc n ≡ parts_after sc n
    by_lines none zero is = refl
    by_lines none (suc n) is = sym (parts_more sc n ∙ ap (parts_or (parts_after sc n)) (made_parts sc h (step_items sc (suc n)) (ap (step_items sc) is) (through_made sc h n is through) none))

    by : (b : Bool) → begins_with_parts (since_line h) ≡ b → parts_of sc h ≡ parts_after sc (lines h)
    by true is = was ∙ rw is refl
    by false is = was ∙ rw is (by_lines is (lines h) refl)

line_keeps : (sc : Scenario) (h : List Entry) (o number : ℕ) → is_through sc h ≡ true → PartsAre sc h → PartsAre sc (h ++ record { owner = o; act = Line number } ∷ [])
line_keeps sc h o number through was =
    fold-append _ _ h (e ∷ []) ∙ at_line sc h was through
    ∙ ap (λ b. if b then parts_after sc (suc (lines h)) else parts_after sc (lines h)) (sym begins)
    ∙ ap (λ n. if begins_with_parts (since_line (h ++ e ∷ [])) then parts_after sc n else parts_before sc n) (sym count)
  where
    e : Entry
    e = record { owner = o; act = Line number }

    begins : begins_with_parts (since_line (h ++ e ∷ [])) ≡ false
    begins = ap (λ w. begins_with_parts w.since) (split_push h e)

    count : lines (h ++ e ∷ []) ≡ suc (lines h)
    count = lines_push h e ∙ (let one : lines h + 1 ≡ suc (lines h) = omega arith in one)

parts_keep : (sc : Scenario) (h : List Entry) (o : ℕ) (parts : List (List ℕ)) → since_line h ≡ [] → parts_due sc (present_items sc h) ≡ Some parts →
    PartsAre sc (h ++ record { owner = o; act = Parts parts } ∷ [])
parts_keep sc h o parts first due =
    fold-append _ _ h (e ∷ []) ∙ by (lines h) refl
    ∙ ap (λ b. if b then parts_after sc (lines h) else parts_before sc (lines h)) (sym begins)
    ∙ ap (λ n. if begins_with_parts (since_line (h ++ e ∷ [])) then parts_after sc n else parts_before sc n) (sym count)
  where
    e : Entry
    e = record { owner = o; act = Parts parts }

    begins : begins_with_parts (since_line (h ++ e ∷ [])) ≡ true
    begins = ap begins_with_parts (since_push h e refl) ∙ ap (λ l. begins_with_parts (l ++ e ∷ [])) first

    count : lines (h ++ e ∷ []) ≡ lines h
    count = lines_push h e ∙ (let same : lines h + 0 ≡ lines h = omega arith in same)

    by : (n : ℕ) → lines h ≡ n → parts ≡ parts_after sc (lines h)
    by zero is = absurd (let none : None ≡ Some parts = sym (ap (λ n. parts_due sc (step_items sc n)) is) ∙ due in cc)
    by (suc n) is = sym (ap (parts_after sc) is ∙ parts_more sc n ∙ ap (parts_or (parts_after sc n)) (sym (ap (λ n. parts_due sc (step_items sc n)) is) ∙ due))

one_keeps : (sc : Scenario) (h : List Entry) (o : ℕ) (act : Act) → Guard sc h (record { owner = o; act = act }) → PartsAre sc h → PartsAre sc (h ++ record { owner = o; act = act } ∷ [])
one_keeps sc h zero (Line number) guard was = line_keeps sc h 0 number guard.through was
one_keeps sc h (suc s) (Line number) guard was = absurd guard
one_keeps sc h zero (Parts parts) guard was = parts_keep sc h 0 parts guard.behind_line guard.due
one_keeps sc h (suc s) (Parts parts) guard was = absurd guard
one_keeps sc h o (Step i records outs told) guard was = other_keeps sc h o _ refl was
one_keeps sc h o (Fall inputs records why) guard was = other_keeps sc h o _ refl was
one_keeps sc h o (Rise kept inc) guard was = other_keeps sc h o _ refl was
one_keeps sc h o (RiseFall kept inc why) guard was = other_keeps sc h o _ refl was
one_keeps sc h o Miss guard was = other_keeps sc h o _ refl was
one_keeps sc h o Cut guard was = other_keeps sc h o _ refl was
one_keeps sc h o (Drop number) guard was = other_keeps sc h o _ refl was

all_keep : (sc : Scenario) (before h : List Entry) → LegalAfter sc before h → PartsAre sc before → PartsAre sc (before ++ h)
all_keep sc before [] legal was = let P : List Entry → Type 0 = PartsAre sc in subst P (sym (append-nil before)) was
all_keep sc before (e ∷ h) legal was =
    let P : List Entry → Type 0 = PartsAre sc in
    subst P (append_assoc before (e ∷ []) h) (all_keep sc (before ++ e ∷ []) h legal.1 (one_keeps sc before e.owner e.act legal.0 was))

pub group_in_one_part : GroupInOnePart
group_in_one_part sc h group items given legal is =
    let at = some_line sc (lines h) (item.Recover group) items is in
    let items_are : step_items sc (suc at.0) ≡ item.Recover group ∷ items = ap (step_items sc) (sym at.1) ∙ is in
    let P : List (List ℕ) → Type 0 = λ l. list_any (is_within group) l ≡ true in
    subst P (sym (all_keep sc [] h legal refl ∙ by at.0 at.1 items_are (begins_with_parts (since_line h)))) (group_within sc at.0 group items given items_are)
  where
    by : (n : ℕ) → lines h ≡ suc n → step_items sc (suc n) ≡ item.Recover group ∷ items → (b : Bool) → (if b then parts_after sc (lines h) else parts_before sc (lines h)) ≡ parts_after sc n
    by n line here true = ap (parts_after sc) line ∙ parts_more sc n ∙ ap (λ l. parts_or (parts_after sc n) (parts_due sc l)) here
    by n line here false = ap (parts_before sc) line
