-- How many Elects of one transaction a site may take in one fall: one for each item of the step, and the one of a recovery round.
use Rattle.std.proofs.Common.{◌≡◌, ◌==◌, ◌&&◌, ◌||◌, ◌+◌, ◌-◌, ◌≤◌, ◌<◌, ◌++◌, ◌∷◌, [], ℕ, zero, suc, Bool, true, false, not, List, length, Option, Some, None, inl, inr, refl, ap, sym, ◌∙◌, if◌then◌else◌, fold, find, filter, filter_map, slice_get, count_by, nat_le, arith}
use Rattle.std.specs.List.{AllByRecursion as Each, flat_map, list_any, list_all}
use Rattle.std.proofs.lemmas.Bool.{and_parts, or_parts}
use Rattle.std.proofs.lemmas.Grind.{common_steps}
use Rattle.std.proofs.lemmas.List.Folds.{list_any-append}
use Rattle.std.proofs.lemmas.List.Sums.{sum_by-append}
use Rattle.e3_types.specs.declared.entries.Entry.{Entry}
use Rattle.e3_types.specs.declared.entries.Input.{Input}
use Rattle.e3_types.specs.declared.entries.Input.TheVariants as input
use Rattle.e3_types.specs.declared.scenarios.Item.{Item}
use Rattle.e3_types.specs.declared.scenarios.Scenario.{Scenario}
use Rattle.e3_types.specs.declared.transactions.Txn.{Txn}
use Rattle.e3_types.specs.Same.{same_txn}
use Rattle.e3_types.specs.Sets.{has_site}
use Rattle.e3_world.specs.declared.names.Addressed.{Addressed}
use Rattle.e3_world.specs.Given.{IsGiven, close_step, is_groupable, is_step_form, items_keep, with_item, ItemsSoFar, steps_keep}
use Rattle.e3_world.specs.Items.{RecoveryRound, due_round, elected_txn, input_of, inputs_at, inputs_to, is_delivery, is_up_at, listed, open_at, plan_of, recover_group, rounds_left, taken_at, to_line, turn_of}
use Rattle.e3_world.specs.Legal.{AreDue, IsDue, IsNextItem, entry_of}
use Rattle.e3_world.specs.Packets.{items_or, lines, present_items, step_items}
use Rattle.e3_world.proofs.Lines.{made_push, made_txns}
use Rattle.e3_world.proofs.Readings.{taken_same}
use Rattle.e3_world.proofs.Turns.{plan_push, self}
use Rattle.e3_laws.proofs.steps.Ascending.{Ascends, IsLater, ascends_fold}
use Rattle.e3_laws.proofs.steps.Tests.{same_is, same_self}
use Rattle.e3_laws.proofs.rounds.Numbers.Inputs.{elects_of}
use Rattle.e3_laws.proofs.steps.Items.{round_of}

-- a round of the transaction is among these
abbrev pub has_round : Txn → List RecoveryRound → Bool
has_round t rounds = list_any (λ r. same_txn t r.txn) rounds

-- no two of these rounds are of one transaction
abbrev Apart : List RecoveryRound → Type 0
Apart [] = Unit {0}
Apart (r ∷ rounds) = (has_round r.txn rounds ≡ false) × Apart rounds

behind_rounds : (t : Txn) (up : List ℕ) (us : List Txn) → Each (IsLater t) us → has_round t (flat_map (λ u. round_of u (filter (has_site u.sites) up)) us) ≡ false
behind_rounds t up [] all = refl
behind_rounds t up (u ∷ us) all = by (filter (has_site u.sites) up) (behind_rounds t up us all.1)
  where
    rest : List RecoveryRound
    rest = flat_map (λ u. round_of u (filter (has_site u.sites) up)) us

    by : (ms : List ℕ) → has_round t rest ≡ false → has_round t (round_of u ms ++ rest) ≡ false
    by [] none = none
    by (m ∷ ms) none = rw all.0.other none

rounds_apart : (up : List ℕ) (ts : List Txn) → Ascends ts → Apart (flat_map (λ t. round_of t (filter (has_site t.sites) up)) ts)
rounds_apart up [] all = tt
rounds_apart up (t ∷ ts) all = by (filter (has_site t.sites) up) (rounds_apart up ts all.1)
  where
    rest : List RecoveryRound
    rest = flat_map (λ t. round_of t (filter (has_site t.sites) up)) ts

    by : (ms : List ℕ) → Apart rest → Apart (round_of t ms ++ rest)
    by [] later = later
    by (m ∷ ms) later = (behind_rounds t up ts all.0, later)

listed_apart : (sc : Scenario) (start : List Entry) (group : List ℕ) → Apart (listed sc start group)
listed_apart sc start group = rounds_apart (filter (is_up_at start) group) _ (ascends_fold [] (flat_map (open_at sc start) (filter (is_up_at start) group)) tt)

-- what is not listed is not left
left_none : (t : Txn) (ts : List Txn) (rounds : List RecoveryRound) → has_round t rounds ≡ false → has_round t (rounds_left ts rounds) ≡ false
left_none t [] rounds none = none
left_none t (u ∷ ts) [] none = refl
left_none t (u ∷ ts) (r ∷ rounds) none =
    let later : has_round t rounds ≡ false = (or_parts (same_txn t r.txn) (has_round t rounds) none).1 in
    by (left_none t ts rounds later) (left_none t (u ∷ ts) rounds later) (same_txn u r.txn) refl
  where
    by : has_round t (rounds_left ts rounds) ≡ false → has_round t (rounds_left (u ∷ ts) rounds) ≡ false → (b : Bool) → same_txn u r.txn ≡ b →
        has_round t (rounds_left (u ∷ ts) (r ∷ rounds)) ≡ false
    by here there true is = rw is here
    by here there false is = rw is there

-- a round that was made is not left
gone : (t : Txn) (ts : List Txn) (rounds : List RecoveryRound) → Apart rounds → list_any (same_txn t) ts ≡ true → has_round t (rounds_left ts rounds) ≡ false
gone t [] rounds apart made = absurd cc
gone t (u ∷ ts) [] apart made = refl
gone t (u ∷ ts) (r ∷ rounds) apart made = by (λ some. gone t ts rounds apart.1 some) (gone t (u ∷ ts) rounds apart.1 made) (same_txn u r.txn) refl
  where
    first : (list_any (same_txn t) ts ≡ true → has_round t (rounds_left ts rounds) ≡ false) → (b : Bool) → same_txn t u ≡ b → same_txn u r.txn ≡ true →
        (b || list_any (same_txn t) ts) ≡ true → has_round t (rounds_left ts rounds) ≡ false
    first later true same here some =
        let one : t ≡ r.txn = same_is t u same ∙ same_is u r.txn here in
        left_none t ts rounds (ap (λ x. has_round x rounds) one ∙ apart.0)
    first later false other here some = later some

    by : (list_any (same_txn t) ts ≡ true → has_round t (rounds_left ts rounds) ≡ false) → has_round t (rounds_left (u ∷ ts) rounds) ≡ false → (b : Bool) → same_txn u r.txn ≡ b →
        has_round t (rounds_left (u ∷ ts) (r ∷ rounds)) ≡ false
    by later there true is = rw is (first later (same_txn t u) refl is made)
    by later there false is = rw is there

found : (p : RecoveryRound → Bool) (rounds : List RecoveryRound) (r : RecoveryRound) → find p rounds ≡ Some r → has_round r.txn rounds ≡ true
found p [] r is = absurd cc
found p (x ∷ rounds) r is = by (λ later. found p rounds r later) (p x) refl
  where
    or_true : (b : Bool) → (b || true) ≡ true
    or_true true = refl
    or_true false = refl

    by : (find p rounds ≡ Some r → has_round r.txn rounds ≡ true) → (b : Bool) → p x ≡ b → has_round r.txn (x ∷ rounds) ≡ true
    by rest true here =
        let first : find p (x ∷ rounds) ≡ Some x = rw here refl in
        let same : Some x ≡ Some r = sym first ∙ is in
        let x_is : r ≡ x = cc in
        ap (λ b. b || has_round r.txn rounds) (ap (λ (y : RecoveryRound). same_txn y.txn x.txn) x_is ∙ same_self x.txn)
    by rest false here =
        let later : find p rounds ≡ Some r = (let on : find p (x ∷ rounds) ≡ find p rounds = rw here refl in sym on) ∙ is in
        ap (λ b. same_txn r.txn x.txn || b) (rest later) ∙ or_true (same_txn r.txn x.txn)

-- a round that is due was not made
due_fresh : (sc : Scenario) (h : List Entry) (r : RecoveryRound) → due_round sc h ≡ Some r → list_any (same_txn r.txn) (made_txns h) ≡ false
due_fresh sc h r due = by (recover_group (present_items sc h)) refl
  where
    due_at : Option (List ℕ) → Option RecoveryRound
    due_at None = None
    due_at (Some g) = find (λ x. is_up_at h x.elector) (rounds_left (made_txns h) (listed sc (to_line h) g))

    is_at : due_at (recover_group (present_items sc h)) ≡ Some r
    is_at = (let same : due_at (recover_group (present_items sc h)) ≡ due_round sc h = refl in same) ∙ due

    choose : (g : List ℕ) → find (λ x. is_up_at h x.elector) (rounds_left (made_txns h) (listed sc (to_line h) g)) ≡ Some r → (b : Bool) →
        list_any (same_txn r.txn) (made_txns h) ≡ b → list_any (same_txn r.txn) (made_txns h) ≡ false
    choose g here false is = is
    choose g here true is = absurd (
        let left : has_round r.txn (rounds_left (made_txns h) (listed sc (to_line h) g)) ≡ true = found _ _ r here in
        let clash : true ≡ false = sym left ∙ gone r.txn (made_txns h) (listed sc (to_line h) g) (listed_apart sc (to_line h) g) is in cc)

    by : (o : Option (List ℕ)) → recover_group (present_items sc h) ≡ o → list_any (same_txn r.txn) (made_txns h) ≡ false
    by None is = absurd (let clash : None ≡ Some r = sym (ap due_at is) ∙ is_at in cc)
    by (Some g) is = choose g (sym (ap due_at is) ∙ is_at) (list_any (same_txn r.txn) (made_txns h)) refl

-- 1 where no round of the transaction was made in the step
abbrev pub rounds_to_come : Txn → List Entry → ℕ
rounds_to_come t h = if list_any (same_txn t) (made_txns h) then 0 else 1

-- the items of the step that a site has still to take
abbrev pub items_to_come : Scenario → List Entry → ℕ → ℕ
items_to_come sc h s = length (inputs_at sc h s) - turn_of h s

-- the Elects of a transaction among inputs
abbrev pub elects_in : Txn → List Input → ℕ
elects_in t [] = 0
elects_in t (i ∷ inputs) = elects_of t i + elects_in t inputs

got : {X : Type 0} (xs : List X) (n : ℕ) (x : X) → slice_get xs n ≡ Some x → n < length xs
got [] n x is = absurd cc
got (y ∷ xs) zero x is = omega arith
got (y ∷ xs) (suc n) x is = let rest : n < length xs = got xs n x is in omega (arith, rest)

-- what one input takes of what is to come
pub record Takes (sc : Scenario) (t : Txn) (h : List Entry) (s : ℕ) (i : Input) : Type 0 where
  pub fewer : elects_of t i + (items_to_come sc (h ++ entry_of sc h s i ∷ []) s + rounds_to_come t (h ++ entry_of sc h s i ∷ [])) ≤ items_to_come sc h s + rounds_to_come t h

input_takes : (sc : Scenario) (t : Txn) (h : List Entry) (s : ℕ) (i : Input) → IsDue sc h s i → Takes sc t h s i
input_takes sc t h s i due = by i due
  where
    turn_on : (j : Input) → turn_of (h ++ entry_of sc h s j ∷ []) s ≡ turn_of h s + count_by (λ x. not (is_delivery x)) (j ∷ [])
    turn_on j = ap (count_by (λ x. not (is_delivery x))) (taken_same h (entry_of sc h s j) s refl (self s)) ∙ sum_by-append _ (taken_at h s) (j ∷ [])

    long_on : (j : Input) → length (inputs_at sc (h ++ entry_of sc h s j ∷ []) s) ≡ length (inputs_at sc h s)
    long_on j = ap (λ p. length (inputs_to s p)) (plan_push sc h (entry_of sc h s j) refl)

    made_on : (j : Input) → list_any (same_txn t) (made_txns (h ++ entry_of sc h s j ∷ [])) ≡ (list_any (same_txn t) (made_txns h) || list_any (same_txn t) (flat_map elected_txn (j ∷ [])))
    made_on j = ap (list_any (same_txn t)) (made_push h (entry_of sc h s j) refl) ∙ list_any-append (same_txn t) (made_txns h) (flat_map elected_txn (j ∷ []))

    -- an item: the turn is one more, and no round is to come that was not
    item_counts : (j : Input) → IsNextItem sc h s j → (count_by (λ x. not (is_delivery x)) (j ∷ []) ≡ 1) → elects_of t j ≤ 1 → Takes sc t h s j
    item_counts j next one few =
        let more : turn_of h s < length (inputs_at sc h s) = got (inputs_at sc h s) (turn_of h s) j next.next in
        let long = long_on j in
        let turn = turn_on j in
        let left = room (list_any (same_txn t) (made_txns h)) (list_any (same_txn t) (flat_map elected_txn (j ∷ []))) (list_any (same_txn t) (made_txns (h ++ entry_of sc h s j ∷ []))) (made_on j) in
        record { fewer = omega (arith, more, long, turn, one, few, left) }
      where
        room : (a b c : Bool) → c ≡ (a || b) → (if c then 0 else 1) ≤ (if a then 0 else 1)
        room true b c is = rw is (omega arith)
        room false true c is = rw is (omega arith)
        room false false c is = rw is (omega arith)

    plain : (j : Input) → IsNextItem sc h s j → (count_by (λ x. not (is_delivery x)) (j ∷ []) ≡ 1) → elects_of t j ≡ 0 → Takes sc t h s j
    plain j next one none = item_counts j next one (let few : elects_of t j ≤ 1 = omega (arith, none) in few)

    elect_few : (u : Txn) (group : List ℕ) → elects_of t (input.Elect u group) ≤ 1
    elect_few u group = choose (same_txn t u)
      where
        choose : (b : Bool) → (if b then 1 else 0) ≤ 1
        choose true = omega arith
        choose false = omega arith

    -- the Elect of a round that is due
    round_counts : (u : Txn) (group : List ℕ) → list_any (same_txn u) (made_txns h) ≡ false → Takes sc t h s (input.Elect u group)
    round_counts u group fresh =
        let j : Input = input.Elect u group in
        let long = long_on j in
        let turn : turn_of (h ++ entry_of sc h s j ∷ []) s ≡ turn_of h s + 1 = turn_on j in
        let left = room (same_txn t u) refl (list_any (same_txn t) (made_txns h)) refl (list_any (same_txn t) (made_txns (h ++ entry_of sc h s j ∷ []))) (made_on j) in
        record { fewer = omega (arith, long, turn, left) }
      where
        room : (b : Bool) → same_txn t u ≡ b → (a : Bool) → list_any (same_txn t) (made_txns h) ≡ a → (c : Bool) → c ≡ (list_any (same_txn t) (made_txns h) || list_any (same_txn t) (flat_map elected_txn (input.Elect u group ∷ []))) →
            (if same_txn t u then 1 else 0) + (if c then 0 else 1) ≤ (if list_any (same_txn t) (made_txns h) then 0 else 1)
        room true same true was c is = absurd (
            let off : list_any (same_txn t) (made_txns h) ≡ false = ap (λ x. list_any (same_txn x) (made_txns h)) (same_is t u same) ∙ fresh in
            let clash : true ≡ false = sym was ∙ off in cc)
        room true same false was c is = rw (is, was, same) (omega arith)
        room false other true was c is = rw (is, was, other) (omega arith)
        room false other false was c is = rw (is, was, other) (omega arith)

    by : (j : Input) → IsDue sc h s j → Takes sc t h s j
    by (input.Deliver p) is =
        let long = long_on (input.Deliver p) in
        let turn : turn_of (h ++ entry_of sc h s (input.Deliver p) ∷ []) s ≡ turn_of h s + 0 = turn_on (input.Deliver p) in
        let left = room (list_any (same_txn t) (made_txns h)) (list_any (same_txn t) (made_txns (h ++ entry_of sc h s (input.Deliver p) ∷ []))) (made_on (input.Deliver p)) in
        record { fewer = omega (arith, long, turn, left) }
      where
        room : (a c : Bool) → c ≡ (a || false) → (if c then 0 else 1) ≤ (if a then 0 else 1)
        room true c is = rw is (omega arith)
        room false c is = rw is (omega arith)
    by (input.Begin sites) is = plain (input.Begin sites) is refl refl
    by (input.Do u op) is = plain (input.Do u op) is refl refl
    by (input.Commit u) is = plain (input.Commit u) is refl refl
    by (input.Cancel u) is = plain (input.Cancel u) is refl refl
    by (input.Expire u) is = plain (input.Expire u) is refl refl
    by (input.Elect u group) is = elim is [
      | inl next ↦ item_counts (input.Elect u group) next refl (elect_few u group)
      | inr round ↦ round_counts u group (due_fresh sc h _ round.due)
    ]

pub elects_few : (sc : Scenario) (t : Txn) (h : List Entry) (s : ℕ) (inputs : List Input) → AreDue sc h s inputs → elects_in t inputs ≤ items_to_come sc h s + rounds_to_come t h
elects_few sc t h s [] due = omega arith
elects_few sc t h s (i ∷ inputs) due =
    let one : elects_of t i + (items_to_come sc (h ++ entry_of sc h s i ∷ []) s + rounds_to_come t (h ++ entry_of sc h s i ∷ [])) ≤ items_to_come sc h s + rounds_to_come t h = (input_takes sc t h s i due.0).fewer in
    let rest : elects_in t inputs ≤ items_to_come sc (h ++ entry_of sc h s i ∷ []) s + rounds_to_come t (h ++ entry_of sc h s i ∷ []) = elects_few sc t (h ++ entry_of sc h s i ∷ []) s inputs due.1 in
    omega (arith, one, rest)

-- a step has 16 items at most
form_short : (items : List Item) → is_step_form items ≡ true → length items ≤ 16
form_short [] form = absurd cc
form_short (one ∷ []) form = omega arith
form_short (one ∷ two ∷ items) form =
    let few : nat_le (length items) 14 ≡ true = (and_parts (list_all is_groupable (one ∷ two ∷ items)) (nat_le (length items) 14) form).1 in
    short (length items) few
  where
    short : (n : ℕ) → nat_le n 14 ≡ true → suc (suc n) ≤ 16
    short n is = grind (arith, common_steps, is)

steps_short : (sc : Scenario) (k : ItemsSoFar) (steps : List (List Item)) (n : ℕ) → steps_keep sc k steps ≡ true → length (items_or (slice_get steps n)) ≤ 16
steps_short sc k [] n keep = omega arith
steps_short sc k (items ∷ steps) zero keep =
    let outer = and_parts (is_step_form items && items_keep sc k items) (steps_keep sc (close_step (fold (with_item sc) k items)) steps) keep in
    form_short items (and_parts (is_step_form items) (items_keep sc k items) outer.0).0
steps_short sc k (items ∷ steps) (suc n) keep =
    let outer = and_parts (is_step_form items && items_keep sc k items) (steps_keep sc (close_step (fold (with_item sc) k items)) steps) keep in
    steps_short sc (close_step (fold (with_item sc) k items)) steps n outer.1

step_short : (sc : Scenario) (n : ℕ) → IsGiven sc → length (step_items sc n) ≤ 16
step_short sc zero given = omega arith
step_short sc (suc n) given = steps_short sc _ sc.steps n given.steps

mapped : (f : Item → Option Addressed) (items : List Item) → length (filter_map f items) ≤ length items
mapped f [] = omega arith
mapped f (it ∷ items) = by (f it) refl (mapped f items)
  where
    by : (o : Option Addressed) → f it ≡ o → length (filter_map f items) ≤ length items → length (filter_map f (it ∷ items)) ≤ suc (length items)
    by None is rest = rw is (let less : length (filter_map f items) ≤ suc (length items) = omega (arith, rest) in less)
    by (Some a) is rest = rw is (let less : suc (length (filter_map f items)) ≤ suc (length items) = omega (arith, rest) in less)

sent_to : (s : ℕ) (plan : List Addressed) → length (inputs_to s plan) ≤ length plan
sent_to s [] = omega arith
sent_to s (a ∷ plan) = by (a.site == s) refl (sent_to s plan)
  where
    by : (b : Bool) → (a.site == s) ≡ b → length (inputs_to s plan) ≤ length plan → length (inputs_to s (a ∷ plan)) ≤ suc (length plan)
    by true is rest = rw is (let less : suc (length (inputs_to s plan)) ≤ suc (length plan) = omega (arith, rest) in less)
    by false is rest = rw is (let less : length (inputs_to s plan) ≤ suc (length plan) = omega (arith, rest) in less)

pub fall_few : (sc : Scenario) (t : Txn) (h : List Entry) (s : ℕ) (inputs : List Input) → IsGiven sc → AreDue sc h s inputs → elects_in t inputs ≤ 17
fall_few sc t h s inputs given due =
    let all : elects_in t inputs ≤ items_to_come sc h s + rounds_to_come t h = elects_few sc t h s inputs due in
    let items : length (present_items sc (to_line h)) ≤ 16 = step_short sc (lines (to_line h)) given in
    let plan : length (plan_of sc h) ≤ length (present_items sc (to_line h)) = mapped (input_of sc (to_line h)) (present_items sc (to_line h)) in
    let mine : length (inputs_at sc h s) ≤ length (plan_of sc h) = sent_to s (plan_of sc h) in
    let round : rounds_to_come t h ≤ 1 = one (list_any (same_txn t) (made_txns h)) in
    omega (arith, all, items, plan, mine, round)
  where
    one : (b : Bool) → (if b then 0 else 1) ≤ 1
    one true = omega arith
    one false = omega arith
