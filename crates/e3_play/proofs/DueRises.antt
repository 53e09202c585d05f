-- Where something is due, the history has not gone through its scenario.
use Rattle.std.proofs.Common.{◌≡◌, ◌≢◌, ◌∷◌, [], ◌≤◌, ◌<◌, ℕ, suc, true, false, List, length, refl, sym, subst, ap, ◌∙◌, arith}
use Rattle.std.specs.List.{list_any, list_all}
use Rattle.e3_types.specs.declared.entries.Entry.{Entry}
use Rattle.e3_types.specs.declared.scenarios.Item.{Item}
use Rattle.e3_types.specs.declared.scenarios.Item.TheVariants as item
use Rattle.e3_types.specs.declared.scenarios.Scenario.{Scenario}
use Rattle.e3_world.specs.Items.{since_line}
use Rattle.e3_world.specs.Legal.{IsWhole, has_rising, is_made, is_rising, is_through}
use Rattle.e3_world.specs.Packets.{all_sites, lines, pending, present_items}
use Rattle.e3_world.proofs.Rises.{Rising, rises_through}
use Rattle.e3_world.proofs.Turns.{true_not_false}
use Rattle.e3_play.specs.Played.{IsSettled}
use Rattle.e3_play.proofs.Entries.{turn_to_rise}
use Rattle.e3_play.specs.Delivered.{ALine, ARise, IsFull}
use Rattle.e3_play.specs.Settled.{is_parted}
use Rattle.e3_play.proofs.DuePackets.{bounded, whole_parts}
use Rattle.e3_play.proofs.DueItems.{one_of_all}

-- a site has yet to rise
pub rise_open : (sc : Scenario) (h : List Entry) (k : ℕ) → Rising sc h k → k < length sc.weights → ¬ IsWhole sc h
rise_open sc h k was low whole =
    let rose : list_all (has_rising h) (all_sites sc) ≡ true = sym (let same : is_through sc h ≡ list_all (has_rising h) (all_sites sc) = rw was.before_lines refl in same) ∙ whole.through in
    let none : has_rising h (suc k) ≡ false = ap (list_any is_rising) (was.silent (suc k) (omega arith)) in
    true_not_false (sym (one_of_all (has_rising h) (length sc.weights) k low rose) ∙ none)

-- a line is still to come
pub line_open : (sc : Scenario) (h : List Entry) (k : ℕ) → lines h ≡ k → suc k ≤ length sc.steps → ¬ IsWhole sc h
line_open sc h k at more whole = let last : lines h ≡ length sc.steps = whole.last in absurd (omega (arith, at, more, last))

-- the parts are still to come
pub parts_open : (sc : Scenario) (h : List Entry) (items : List Item) → lines h ≢ 0 → present_items sc h ≡ items → is_parted items ≡ true → since_line h ≡ [] →
    ¬ IsWhole sc h
parts_open sc h items begun present parted fresh whole = true_not_false (sym (whole_parts sc h begun whole).1 ∙ by items present parted)
  where
    by : (items : List Item) → present_items sc h ≡ items → is_parted items ≡ true → is_made sc h ≡ false
    by [] is parted = absurd cc
    by (item.Split parts ∷ []) is parted = rw (is, fresh) refl
    by (item.Merge ∷ []) is parted = rw (is, fresh) refl
    by (item.Split parts ∷ x ∷ xs) is parted = absurd cc
    by (item.Merge ∷ x ∷ xs) is parted = absurd cc
    by (item.Begin name site sites ∷ xs) is parted = absurd cc
    by (item.Read name key ∷ xs) is parted = absurd cc
    by (item.Write name key val ∷ xs) is parted = absurd cc
    by (item.Commit name ∷ xs) is parted = absurd cc
    by (item.Cancel name ∷ xs) is parted = absurd cc
    by (item.Expire site name ∷ xs) is parted = absurd cc
    by (item.Elect site name sites ∷ xs) is parted = absurd cc
    by (item.Recover sites ∷ xs) is parted = absurd cc
    by (item.Crash site ∷ xs) is parted = absurd cc
    by (item.Restart site ∷ xs) is parted = absurd cc
    by (item.Stop site count leave ∷ xs) is parted = absurd cc

-- in the words of the program's loops
pub rise_full : (sc : Scenario) (h : List Entry) (k most : ℕ) → Rising sc h k → k < length sc.weights → length h ≤ most → most ≤ length h → IsFull sc h most
rise_full sc h k most was low few many = bounded sc h most few many (ARise (suc k) (turn_to_rise sc h k (omega (arith, low)) was)) (rise_open sc h k was low)

pub line_full : (sc : Scenario) (h : List Entry) (k most : ℕ) → IsSettled sc h k → suc k ≤ length sc.steps → length h ≤ most → most ≤ length h → IsFull sc h most
line_full sc h k most was more few many =
    bounded sc h most few many (ALine (suc k) (record { next = ap suc (sym was.at); exists = more; through = was.through })) (line_open sc h k was.at more)

pub risen : (sc : Scenario) (h : List Entry) (k count : ℕ) → Rising sc h k → pending sc h ≡ [] → count ≡ length sc.weights → count ≤ k → k ≤ count → IsSettled sc h 0
risen sc h k count was none all many few =
    let P : ℕ → Type 0 = λ n. Rising sc h n in
    let same : k ≡ length sc.weights = omega (arith, all, many, few) in
    record { legal = was.legal; at = was.before_lines; none = none; through = rises_through sc h (subst P same was) }
