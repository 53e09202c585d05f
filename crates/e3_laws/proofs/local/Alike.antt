-- What the guard of a site's entry reads of a history, and that it stands still behind entries of others.
use Rattle.std.proofs.Common.{◌≡◌, ◌==◌, ◌&&◌, ◌+◌, ◌≤◌, ◌⊎◌, inl, inr, ℕ, zero, suc, Bool, true, false, not, List, [], ◌∷◌, ◌++◌, append-nil, append_assoc, ◌∙◌, ap, sym, subst, refl, length, Option, Some, None, count_by, arith, eqb-true, eq-eqb, fold}
use Rattle.std.specs.Prelude.{slice_get, filter_map}
use Rattle.std.proofs.lemmas.Bool.{and_parts}
use Rattle.std.proofs.lemmas.List.Sums.{sum_by-append}
use Rattle.e3_types.specs.declared.entries.Act.{Act}
use Rattle.e3_types.specs.declared.entries.Act.TheVariants.{Step, Fall, Rise, RiseFall, Miss, Cut, Drop, Parts, Line}
use Rattle.e3_types.specs.declared.entries.Entry.{Entry}
use Rattle.e3_types.specs.declared.entries.Input.{Input}
use Rattle.e3_types.specs.declared.scenarios.Item.{Item}
use Rattle.e3_types.specs.declared.scenarios.Item.TheVariants as item
use Rattle.e3_types.specs.declared.scenarios.Scenario.{Scenario}
use Rattle.e3_world.specs.Given.{IsGiven, ItemsSoFar, with_item, items_keep, is_step_form, close_step, steps_keep}
use Rattle.e3_world.specs.Items.{to_line, input_of, inputs_of, inputs_to, inputs_at, is_delivery, taken_at, turn_of, is_up_at}
use Rattle.e3_world.specs.Legal.{Guard, LegalAfter, may_rise, entry_of, made_by}
use Rattle.e3_world.specs.Lives.{incarnation_of}
use Rattle.e3_world.specs.Moves.{own_entries, past_of}
use Rattle.e3_world.specs.Packets.{is_line, lines, present_items, step_items}
use Rattle.e3_world.specs.Progress.{NeverRises}
use Rattle.e3_world.specs.Sound.{step_move}
use Rattle.e3_world.specs.Steps.{step_of}
use Rattle.e3_world.proofs.Guards.{lines_push}
use Rattle.e3_world.proofs.Numbers.{entered_move}
use Rattle.e3_world.proofs.Pushes.{past_push}
use Rattle.e3_world.proofs.Readings.{to_push, own_same, own_other, taken_same, taken_other, up_same, up_other}
use Rattle.e3_laws.specs.local.Others.{AreOthers}
use Rattle.e3_laws.proofs.steps.Items.{single, inputs_push, plan_is}

-- the site took all its items, where it is up
abbrev pub DoneAt : Scenario → List Entry → ℕ → Type 0
DoneAt sc h u = is_up_at h u ≡ true → length (inputs_at sc h u) ≤ turn_of h u

-- In two histories the site made the same moves and has the same tail, is up in both or in none, has the same line, and
-- took the same inputs since; and a site that is through with its items in the first is so in the second.
pub record Alike (sc : Scenario) (site : ℕ) (p h : List Entry) : Type 0 where
  pub past : past_of sc site (own_entries site h) ≡ past_of sc site (own_entries site p)
  pub up : is_up_at h site ≡ is_up_at p site
  pub line : lines h ≡ lines p
  pub to : to_line h ≡ to_line p
  pub taken : taken_at h site ≡ taken_at p site
  pub done : (u : ℕ) → (u == site) ≡ false → DoneAt sc p u → DoneAt sc h u

-- numbers that differ, in either order
eqb-not : (a b : ℕ) → (a == b) ≡ false → (b == a) ≡ false
eqb-not a b apart = by (b == a) refl
  where
    by : (c : Bool) → (b == a) ≡ c → (b == a) ≡ false
    by true is = absurd (let same : a ≡ b = sym (eqb-true b a is) in let yes : (a == b) ≡ true = eq-eqb a b same in cc)
    by false is = is

-- whether an input counts as an item
abbrev counts : Input → Bool
counts i = not (is_delivery i)

count_push : {X : Type 0} (p : X → Bool) (xs ys : List X) → count_by p (xs ++ ys) ≡ count_by p xs + count_by p ys
count_push p xs ys = sum_by-append _ xs ys

-- in a scenario that keeps the rules each step has its form
form_of : (sc : Scenario) (k : ItemsSoFar) (steps : List (List Item)) (n : ℕ) (items : List Item) → steps_keep sc k steps ≡ true →
    slice_get steps n ≡ Some items → is_step_form items ≡ true
form_of sc k [] n items keep is = absurd cc
form_of sc k (x ∷ steps) zero items keep is =
    let p = and_parts (is_step_form x && items_keep sc k x) (steps_keep sc (close_step (fold (with_item sc) k x)) steps) keep in
    let q = and_parts (is_step_form x) (items_keep sc k x) p.0 in
    let same : x ≡ items = cc in
    ap is_step_form (sym same) ∙ q.0
form_of sc k (x ∷ steps) (suc n) items keep is =
    let p = and_parts (is_step_form x && items_keep sc k x) (steps_keep sc (close_step (fold (with_item sc) k x)) steps) keep in
    form_of sc (close_step (fold (with_item sc) k x)) steps n items p.1 is

-- where a site may rise, the present step asks nothing of the sites
rise_bare : (sc : Scenario) (h : List Entry) (site s : ℕ) → IsGiven sc → may_rise sc h site ≡ true → inputs_at sc h s ≡ []
rise_bare sc h site s given may = by (lines h) refl (step_items sc (lines h)) refl
  where
    asked : (items : List Item) → present_items sc h ≡ items → filter_map (input_of sc (to_line h)) items ≡ [] → inputs_at sc h s ≡ []
    asked items is none = ap (inputs_to s) (plan_is sc h ∙ ap (filter_map (input_of sc (to_line h))) is ∙ none)

    alone : (n u : ℕ) (items : List Item) (o : Option (List Item)) → slice_get sc.steps n ≡ o → step_items sc (suc n) ≡ item.Restart u ∷ items → items ≡ []
    alone n u items None got is = absurd (let none : step_items sc (suc n) ≡ [] = rw got refl in cc)
    alone n u items (Some all) got is =
        let same : step_items sc (suc n) ≡ all = rw got refl in
        let P : List Item → Type 0 = λ l. is_step_form l ≡ true in
        single (item.Restart u) items (subst P (sym same ∙ is) (form_of sc _ sc.steps n all given.steps got)) refl

    by : (n : ℕ) → lines h ≡ n → (items : List Item) → step_items sc (lines h) ≡ items → inputs_at sc h s ≡ []
    by zero line items is = asked [] (ap (step_items sc) line) refl
    by (suc n) line (item.Restart u ∷ items) is =
        let none : items ≡ [] = alone n u items (slice_get sc.steps n) refl (ap (step_items sc) (sym line) ∙ is) in
        asked (item.Restart u ∷ []) (is ∙ ap (λ l. item.Restart u ∷ l) none) refl
    by (suc n) line [] is = absurd (let no_rise : may_rise sc h site ≡ false = rw (line, ap (step_items sc) (sym line) ∙ is) refl in cc)
    by (suc n) line (it ∷ items) is = absurd (let no_rise : may_rise sc h site ≡ false = rw (line, ap (step_items sc) (sym line) ∙ is) refl in cc)

-- an entry that is allowed lets no site rise, or nothing is asked of the sites
rises_or_not : (sc : Scenario) (h : List Entry) (o : ℕ) (act : Act) → IsGiven sc → Guard sc h (record { owner = o; act = act }) →
    NeverRises act ⊎ ((u : ℕ) → inputs_at sc h u ≡ [])
rises_or_not sc h o (Step i records outs events) given guard = inl (λ was is. is)
rises_or_not sc h o (Fall inputs records why) given guard = inl (λ was is. absurd cc)
rises_or_not sc h zero (Rise kept inc) given guard = absurd guard
rises_or_not sc h (suc s) (Rise kept inc) given guard = inr (λ u. rise_bare sc h (suc s) u given guard.rising.turn)
rises_or_not sc h o (RiseFall kept inc why) given guard = inl (λ was is. absurd cc)
rises_or_not sc h o Miss given guard = inl (λ was is. absurd cc)
rises_or_not sc h o Cut given guard = inl (λ was is. absurd cc)
rises_or_not sc h o (Drop packet) given guard = inl (λ was is. is)
rises_or_not sc h o (Parts parts) given guard = inl (λ was is. is)
rises_or_not sc h o (Line number) given guard = inl (λ was is. is)

-- who is through with its items stays so
done_push : (sc : Scenario) (h : List Entry) (e : Entry) (u : ℕ) → IsGiven sc → Guard sc h e → is_line e ≡ false → DoneAt sc h u → DoneAt sc (h ++ e ∷ []) u
done_push sc h e u given guard stays done = by (e.owner == u) refl
  where
    asked : length (inputs_at sc (h ++ e ∷ []) u) ≡ length (inputs_at sc h u)
    asked = ap length (inputs_push sc h e u stays)

    own_act : (e.owner == u) ≡ true → NeverRises e.act ⊎ ((u : ℕ) → inputs_at sc h u ≡ []) → DoneAt sc (h ++ e ∷ []) u
    own_act is (inl never) up =
        let was : length (inputs_at sc h u) ≤ turn_of h u = done (never (is_up_at h u) (sym (up_same h e u is) ∙ up)) in
        let now : turn_of (h ++ e ∷ []) u ≡ turn_of h u + count_by counts (inputs_of e.act) =
        ap (count_by counts) (taken_same h e u stays is) ∙ count_push counts (taken_at h u) (inputs_of e.act) in
        omega (arith, was, now, asked)
    own_act is (inr bare) up =
        let none : length (inputs_at sc h u) ≡ 0 = ap length (bare u) in
        omega (arith, none, asked)

    by : (b : Bool) → (e.owner == u) ≡ b → DoneAt sc (h ++ e ∷ []) u
    by true is = own_act is (rises_or_not sc h e.owner e.act given guard)
    by false is = λ up.
        let was : length (inputs_at sc h u) ≤ turn_of h u = done (sym (up_other h e u is) ∙ up) in
        let now : turn_of (h ++ e ∷ []) u ≡ turn_of h u = ap (count_by counts) (taken_other h e u stays is) in
        omega (arith, was, now, asked)

pub lines_still : (h : List Entry) (e : Entry) → is_line e ≡ false → lines (h ++ e ∷ []) ≡ lines h
lines_still h e stays = let one : count_by is_line (e ∷ []) ≡ 0 = rw stays refl in let now : lines (h ++ e ∷ []) ≡ lines h + count_by is_line (e ∷ []) = lines_push h e in omega (arith, one, now)

-- an entry of another site
one_on : (sc : Scenario) (site : ℕ) (h : List Entry) (e : Entry) → IsGiven sc → Guard sc h e → (e.owner == site) ≡ false → is_line e ≡ false →
    Alike sc site h (h ++ e ∷ [])
one_on sc site h e given guard other stays = record {
  past = ap (past_of sc site) (own_other site h e other);
  up = up_other h e site other;
  line = lines_still h e stays;
  to = to_push h e stays;
  taken = taken_other h e site stays other;
  done = λ u apart done. done_push sc h e u given guard stays done;
}

alike_same : (sc : Scenario) (site : ℕ) (h : List Entry) → Alike sc site h h
alike_same sc site h = record { past = refl; up = refl; line = refl; to = refl; taken = refl; done = λ u apart done. done }

alike_on : (sc : Scenario) (site : ℕ) (p h k : List Entry) → Alike sc site p h → Alike sc site h k → Alike sc site p k
alike_on sc site p h k a b = record {
  past = b.past ∙ a.past;
  up = b.up ∙ a.up;
  line = b.line ∙ a.line;
  to = b.to ∙ a.to;
  taken = b.taken ∙ a.taken;
  done = λ u apart done. b.done u apart (a.done u apart done);
}

-- behind entries of others
pub all_on : (sc : Scenario) (site : ℕ) (h more : List Entry) → IsGiven sc → LegalAfter sc h more → AreOthers site more → Alike sc site h (h ++ more)
all_on sc site h [] given legal others = let P : List Entry → Type 0 = λ k. Alike sc site h k in subst P (sym (append-nil h)) (alike_same sc site h)
all_on sc site h (e ∷ more) given legal others =
    let rest : Alike sc site (h ++ e ∷ []) ((h ++ e ∷ []) ++ more) = all_on sc site (h ++ e ∷ []) more given legal.1 others.2 in
    let P : List Entry → Type 0 = λ k. Alike sc site h k in
    subst P (append_assoc h (e ∷ []) more) (alike_on sc site h (h ++ e ∷ []) ((h ++ e ∷ []) ++ more) (one_on sc site h e given legal.0 others.0 others.1) rest)

-- the site makes the same step in both
pub made_same : (sc : Scenario) (site : ℕ) (p h : List Entry) (i : Input) → Alike sc site p h → made_by sc h site i ≡ made_by sc p site i
made_same sc site p h i a = ap (λ w. step_of sc.weights site (incarnation_of w.moves) i) a.past

-- and they are alike behind it
pub step_on : (sc : Scenario) (site : ℕ) (p h : List Entry) (i : Input) → Alike sc site p h →
    Alike sc site (p ++ entry_of sc p site i ∷ []) (h ++ entry_of sc h site i ∷ [])
step_on sc site p h i a = record {
  past = past_is;
  up = up_same h (entry_of sc h site i) site itself ∙ a.up ∙ sym (up_same p (entry_of sc p site i) site itself);
  line = lines_still h (entry_of sc h site i) refl ∙ a.line ∙ sym (lines_still p (entry_of sc p site i) refl);
  to = to_push h (entry_of sc h site i) refl ∙ a.to ∙ sym (to_push p (entry_of sc p site i) refl);
  taken = taken_same h (entry_of sc h site i) site refl itself ∙ ap (λ l. l ++ i ∷ []) a.taken ∙ sym (taken_same p (entry_of sc p site i) site refl itself);
  done = λ u apart. done_is u (eqb-not u site apart);
}
  where
    itself : (site == site) ≡ true
    itself = eq-eqb site site refl

    -- the past behind the step
    behind : (k : List Entry) → past_of sc site (own_entries site (k ++ entry_of sc k site i ∷ []))
        ≡ record { moves = (past_of sc site (own_entries site k)).moves ++ step_move sc site (past_of sc site (own_entries site k)).moves i ∷ []; tail = (past_of sc site (own_entries site k)).tail }
    behind k =
        ap (past_of sc site) (own_same site k (entry_of sc k site i) itself) ∙ past_push sc site (own_entries site k) (entry_of sc k site i)
        ∙ ap (λ l. record { moves = (past_of sc site (own_entries site k)).moves ++ l; tail = (past_of sc site (own_entries site k)).tail }) (entered_move sc k site i)

    past_is : past_of sc site (own_entries site (h ++ entry_of sc h site i ∷ [])) ≡ past_of sc site (own_entries site (p ++ entry_of sc p site i ∷ []))
    past_is =
        behind h ∙ ap (λ w. record { moves = w.moves ++ step_move sc site w.moves i ∷ []; tail = w.tail }) a.past ∙ sym (behind p)

    done_is : (u : ℕ) → (site == u) ≡ false → DoneAt sc (p ++ entry_of sc p site i ∷ []) u → DoneAt sc (h ++ entry_of sc h site i ∷ []) u
    done_is u apart done up =
        let e : Entry = entry_of sc p site i in
        let f : Entry = entry_of sc h site i in
        let before : DoneAt sc p u = (λ was.
        let got : length (inputs_at sc (p ++ e ∷ []) u) ≤ turn_of (p ++ e ∷ []) u = done (up_other p e u apart ∙ was) in
        let asked : length (inputs_at sc (p ++ e ∷ []) u) ≡ length (inputs_at sc p u) = ap length (inputs_push sc p e u refl) in
        let turn : turn_of (p ++ e ∷ []) u ≡ turn_of p u = ap (count_by counts) (taken_other p e u refl apart) in
        omega (arith, got, asked, turn)) in
        let there : length (inputs_at sc h u) ≤ turn_of h u = a.done u (eqb-not site u apart) before (sym (up_other h f u apart) ∙ up) in
        let asked : length (inputs_at sc (h ++ f ∷ []) u) ≡ length (inputs_at sc h u) = ap length (inputs_push sc h f u refl) in
        let turn : turn_of (h ++ f ∷ []) u ≡ turn_of h u = ap (count_by counts) (taken_other h f u refl apart) in
        omega (arith, there, asked, turn)
