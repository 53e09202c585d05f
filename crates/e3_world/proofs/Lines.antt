-- Lines, and the rounds of a recover step.
use Rattle.std.proofs.Common.{◌≡◌, ◌+◌, ◌≤◌, ℕ, suc, Bool, true, false, List, [], ◌∷◌, ◌++◌, append-nil, ◌∙◌, ap, sym, refl, fold, length, arith}
use Rattle.std.specs.List.{list_all, flat_map}
use Rattle.std.proofs.lemmas.Grind.{flat_map-append}
use Rattle.std.proofs.lemmas.List.Sums.{sum_by-append}
use Rattle.e3_types.specs.declared.entries.Act.TheVariants.{Line}
use Rattle.e3_types.specs.declared.entries.Entry.{Entry}
use Rattle.e3_types.specs.declared.scenarios.Item.{Item}
use Rattle.e3_types.specs.declared.scenarios.Scenario.{Scenario}
use Rattle.e3_types.specs.declared.transactions.Txn.{Txn}
use Rattle.e3_types.specs.Same.{same_txn}
use Rattle.e3_world.specs.Given.{is_groupable}
use Rattle.e3_world.specs.Items.{AroundLine, around_by, to_line, since_line, inputs_of, elected_txn, RecoveryRound, rounds_left}
use Rattle.e3_world.specs.Legal.{IsLegal, is_through}
use Rattle.e3_world.specs.Packets.{is_line, lines, present_items, step_items, pending}
use Rattle.e3_world.specs.Progress.{Delivering, ItemsDone}
use Rattle.e3_world.proofs.Readings.{since_push}
use Rattle.e3_world.proofs.Turns.{through}
use Rattle.e3_world.proofs.Guards.{next_line, at_line, lines_push, made_group, step_through}

lines_append : (xs ys : List Entry) → lines (xs ++ ys) ≡ lines xs + lines ys
lines_append xs ys = sum_by-append _ xs ys

lines_from : (w : AroundLine) (h : List Entry) → lines w.since ≡ 0 → lines (fold around_by w h).to ≡ lines w.to + lines h
lines_from w [] none = omega arith
lines_from w (e ∷ h) none = by (λ v. lines_from v h) (is_line e) refl
  where
    rest : lines (e ∷ h) ≡ lines (e ∷ []) + lines h
    rest = lines_append (e ∷ []) h

    by : ((v : AroundLine) → lines v.since ≡ 0 → lines (fold around_by v h).to ≡ lines v.to + lines h) → (b : Bool) → is_line e ≡ b →
        lines (fold around_by w (e ∷ h)).to ≡ lines w.to + lines (e ∷ h)
    by more true is =
        let v : AroundLine = record { to = w.to ++ w.since ++ e ∷ []; since = [] } in
        let same : around_by w e ≡ v = rw is refl in
        let one : lines (e ∷ []) ≡ 1 = rw is refl in
        let long : lines v.to ≡ lines (w.to ++ w.since) + lines (e ∷ []) = lines_append (w.to ++ w.since) (e ∷ []) in
        let two : lines (w.to ++ w.since) ≡ lines w.to + lines w.since = lines_append w.to w.since in
        let now : lines (fold around_by v h).to ≡ lines v.to + lines h = more v refl in
        ap (λ u. lines (fold around_by u h).to) same ∙ (omega (arith, now, rest, one, long, two, none))
    by more false is =
        let v : AroundLine = record { to = w.to; since = w.since ++ e ∷ [] } in
        let same : around_by w e ≡ v = rw is refl in
        let one : lines (e ∷ []) ≡ 0 = rw is refl in
        let two : lines (w.since ++ e ∷ []) ≡ lines w.since + lines (e ∷ []) = lines_append w.since (e ∷ []) in
        let now : lines (fold around_by v h).to ≡ lines v.to + lines h = more v (omega (arith, two, one, none)) in
        ap (λ u. lines (fold around_by u h).to) same ∙ (omega (arith, now, rest, one))

-- the lines are those up to the last line
pub lines_to : (h : List Entry) → lines (to_line h) ≡ lines h
lines_to h = let all : lines (to_line h) ≡ lines [] + lines h = lines_from (record { to = []; since = [] }) h refl in omega (arith, all)

-- a step begins: none of its items is done
pub begin_step : (sc : Scenario) (h : List Entry) (k : ℕ) → IsLegal sc h → lines h ≡ k → suc k ≤ length sc.steps → is_through sc h ≡ true →
    ItemsDone sc (h ++ record { owner = 0; act = Line (suc k) } ∷ []) [] (step_items sc (suc k))
begin_step sc h k legal line some all = record {
  legal = next_line sc h k legal line some all;
  present = is_present;
  at_plan = rw (sym is_present) (at_line sc h e refl);
}
  where
    e : Entry
    e = record { owner = 0; act = Line (suc k) }

    is_present : present_items sc (to_line (h ++ e ∷ [])) ≡ step_items sc (suc k)
    is_present =
        let now : lines (h ++ e ∷ []) ≡ lines h + 1 = lines_push h e in
        ap (step_items sc) (lines_to (h ++ e ∷ []) ∙ (let n : lines (h ++ e ∷ []) ≡ suc k = omega (arith, now, line) in n))

-- a group step ends: nothing is pending
pub end_step : (sc : Scenario) (h : List Entry) (n : ℕ) (items : List Item) → Delivering sc h → lines h ≡ suc n →
    present_items sc (to_line h) ≡ items → list_all is_groupable items ≡ true → pending sc h ≡ [] → is_through sc h ≡ true
end_step sc h n items was line present group none =
    step_through sc h n line none (made_group sc h items (ap (step_items sc) (sym (lines_to h)) ∙ present) group (through sc h was.done))

-- rounds: those left behind one more Elect
pub left_push : (ts : List Txn) (t : Txn) (rounds : List RecoveryRound) → rounds_left (ts ++ t ∷ []) rounds ≡ rounds_left (t ∷ []) (rounds_left ts rounds)
left_push [] t rounds = refl
left_push (x ∷ ts) t [] = refl
left_push (x ∷ ts) t (r ∷ rounds) = by (left_push ts t rounds) (left_push (x ∷ ts) t rounds) (same_txn x r.txn) refl
  where
    by : rounds_left (ts ++ t ∷ []) rounds ≡ rounds_left (t ∷ []) (rounds_left ts rounds) →
        rounds_left (x ∷ ts ++ t ∷ []) rounds ≡ rounds_left (t ∷ []) (rounds_left (x ∷ ts) rounds) →
        (b : Bool) → same_txn x r.txn ≡ b →
        rounds_left (x ∷ ts ++ t ∷ []) (r ∷ rounds) ≡ rounds_left (t ∷ []) (rounds_left (x ∷ ts) (r ∷ rounds))
    by here there true is = rw is here
    by here there false is = rw is there

-- the transactions of the Elects of the present step
abbrev pub made_txns : List Entry → List Txn
made_txns h = flat_map elected_txn (flat_map (λ e. inputs_of e.act) (since_line h))

pub made_push : (h : List Entry) (e : Entry) → is_line e ≡ false → made_txns (h ++ e ∷ []) ≡ made_txns h ++ flat_map elected_txn (inputs_of e.act)
made_push h e stays = rw (since_push h e stays, flat_map-append, flat_map-append, append-nil (inputs_of e.act)) refl
