-- A step begins with its line, and ends when what it asks is made and nothing is pending.
use Rattle.std.proofs.Common.{◌≡◌, ◌==◌, ◌++◌, ◌∷◌, [], ◌≤◌, ◌⊎◌, inl, inr, ℕ, suc, Bool, true, false, List, length, Some, None, refl, sym, ap, ◌∙◌}
use Rattle.std.specs.List.{flat_map, list_all}
use Rattle.e3_types.specs.declared.entries.Act.TheVariants.{Parts}
use Rattle.e3_types.specs.declared.entries.Entry.{Entry}
use Rattle.e3_types.specs.declared.scenarios.Item.{Item}
use Rattle.e3_types.specs.declared.scenarios.Item.TheVariants as item
use Rattle.e3_types.specs.declared.scenarios.Scenario.{Scenario}
use Rattle.e3_world.specs.Given.{is_groupable}
use Rattle.e3_world.specs.Items.{inputs_of, since_line, taken_at}
use Rattle.e3_world.specs.Legal.{IsLine, IsParts, IsWhole, begins_with_parts, is_made, is_through, parts_due}
use Rattle.e3_world.specs.Moves.{own_entries}
use Rattle.e3_world.specs.Packets.{lines, pending, present_items, step_items}
use Rattle.e3_world.specs.Progress.{Delivering}
use Rattle.e3_world.proofs.Guards.{step_through}
use Rattle.e3_world.proofs.Lines.{end_step, lines_to}
use Rattle.e3_world.proofs.Readings.{since_push, taken_other, taken_same}
use Rattle.e3_play.proofs.DueRises.{parts_open}
use Rattle.e3_play.specs.Played.{IsAsked, IsFresh, IsSettled}
use Rattle.e3_play.specs.Delivered.{IsFull, TheParts}
use Rattle.e3_play.specs.Settled.{StaysInStep, is_asking, is_parted}
use Rattle.e3_play.proofs.DuePackets.{bounded}
use Rattle.e3_play.proofs.SameSteps.{IsSameStep, same_step, since_stays, stays_none, stays_on, stays_one}

pub next_is_line : (sc : Scenario) (h : List Entry) (k : ℕ) → IsSettled sc h k → suc k ≤ length sc.steps → IsLine sc h (suc k)
next_is_line sc h k was more = record { next = ap suc (sym was.at); exists = more; through = was.through }

-- nothing is taken in a step before anything is entered in it
none_taken : (h : List Entry) (s : ℕ) → since_line h ≡ [] → taken_at h s ≡ []
none_taken h s fresh = ap (λ l. flat_map (λ e. inputs_of e.act) (own_entries s l)) fresh

-- a group is no split and no merge
group_unparted : (items : List Item) → list_all is_groupable items ≡ true → is_parted items ≡ true → ⊥
group_unparted [] group alone = cc
group_unparted (item.Split parts ∷ xs) group alone = cc
group_unparted (item.Merge ∷ xs) group alone = cc
group_unparted (item.Begin name site sites ∷ xs) group alone = cc
group_unparted (item.Read name key ∷ xs) group alone = cc
group_unparted (item.Write name key val ∷ xs) group alone = cc
group_unparted (item.Commit name ∷ xs) group alone = cc
group_unparted (item.Cancel name ∷ xs) group alone = cc
group_unparted (item.Expire site name ∷ xs) group alone = cc
group_unparted (item.Elect site name sites ∷ xs) group alone = cc
group_unparted (item.Recover sites ∷ xs) group alone = cc
group_unparted (item.Crash site ∷ xs) group alone = cc
group_unparted (item.Restart site ∷ xs) group alone = cc
group_unparted (item.Stop site count leave ∷ xs) group alone = cc

-- a step that sets parts is a split or a merge alone
pub is_parted_by : (sc : Scenario) (items : List Item) (parts : List (List ℕ)) → is_asking items ≡ true → parts_due sc items ≡ Some parts → is_parted items ≡ true
is_parted_by sc [] parts played is = absurd cc
is_parted_by sc (item.Split own ∷ []) parts played is = refl
is_parted_by sc (item.Merge ∷ []) parts played is = refl
is_parted_by sc (item.Split own ∷ x ∷ xs) parts played is = absurd cc
is_parted_by sc (item.Merge ∷ x ∷ xs) parts played is = absurd cc
is_parted_by sc (item.Begin name site sites ∷ xs) parts played is = absurd cc
is_parted_by sc (item.Read name key ∷ xs) parts played is = absurd cc
is_parted_by sc (item.Write name key val ∷ xs) parts played is = absurd cc
is_parted_by sc (item.Commit name ∷ xs) parts played is = absurd cc
is_parted_by sc (item.Cancel name ∷ xs) parts played is = absurd cc
is_parted_by sc (item.Expire site name ∷ xs) parts played is = absurd cc
is_parted_by sc (item.Elect site name sites ∷ xs) parts played is = absurd cc
is_parted_by sc (item.Recover sites ∷ xs) parts played is = absurd cc
is_parted_by sc (item.Crash site ∷ xs) parts played is = absurd cc
is_parted_by sc (item.Restart site ∷ xs) parts played is = absurd cc
is_parted_by sc (item.Stop site count leave ∷ xs) parts played is = absurd cc

pub asks_items : (sc : Scenario) (items : List Item) → is_asking items ≡ true → parts_due sc items ≡ None → list_all is_groupable items ≡ true
asks_items sc [] played is = refl
asks_items sc (item.Split parts ∷ []) played is = absurd cc
asks_items sc (item.Merge ∷ []) played is = absurd cc
asks_items sc (item.Split parts ∷ x ∷ xs) played is = played
asks_items sc (item.Merge ∷ x ∷ xs) played is = played
asks_items sc (item.Begin name site sites ∷ xs) played is = played
asks_items sc (item.Read name key ∷ xs) played is = played
asks_items sc (item.Write name key val ∷ xs) played is = played
asks_items sc (item.Commit name ∷ xs) played is = played
asks_items sc (item.Cancel name ∷ xs) played is = played
asks_items sc (item.Expire site name ∷ xs) played is = played
asks_items sc (item.Elect site name sites ∷ xs) played is = played
asks_items sc (item.Recover sites ∷ xs) played is = played
asks_items sc (item.Crash site ∷ xs) played is = played
asks_items sc (item.Restart site ∷ xs) played is = played
asks_items sc (item.Stop site count leave ∷ xs) played is = played

-- the parts are due
pub parts_are_due : (sc : Scenario) (h : List Entry) (items : List Item) (parts : List (List ℕ)) → IsFresh sc h items → parts_due sc items ≡ Some parts →
    IsParts sc h parts
parts_are_due sc h items parts was is = record { behind_line = was.fresh; due = ap (parts_due sc) was.present ∙ is }

-- and the history is full
pub parts_full : (sc : Scenario) (h : List Entry) (items : List Item) (parts : List (List ℕ)) (most : ℕ) → IsFresh sc h items → is_asking items ≡ true → parts_due sc items ≡ Some parts →
    length h ≤ most → most ≤ length h → IsFull sc h most
parts_full sc h items parts most was form is few many =
    bounded sc h most few many (TheParts parts (parts_are_due sc h items parts was is))
    (parts_open sc h items was.begun was.present (is_parted_by sc items parts form is) was.fresh)

-- behind them
pub parts_entered : (sc : Scenario) (h next : List Entry) (items : List Item) (parts : List (List ℕ)) → IsFresh sc h items →
    next ≡ h ++ record { owner = 0; act = Parts parts } ∷ [] → IsAsked h next items
parts_entered sc h next items parts was entered = record {
  grown = stays_one h next e entered refl;
  fresh = λ s. ap (λ l. taken_at l s) entered ∙ by s (0 == s) refl;
  parted = λ yes. ap (λ l. begins_with_parts (since_line l)) entered ∙ ap begins_with_parts (since_push h e refl ∙ ap (λ l. l ++ e ∷ []) was.fresh);
}
  where
    e : Entry
    e = record { owner = 0; act = Parts parts }

    by : (s : ℕ) (b : Bool) → (0 == s) ≡ b → taken_at (h ++ e ∷ []) s ≡ []
    by s true is = taken_same h e s refl is ∙ ap (λ l. l ++ []) (none_taken h s was.fresh)
    by s false is = taken_other h e s refl is ∙ none_taken h s was.fresh

-- no parts are asked for
pub no_parts : (sc : Scenario) (h : List Entry) (items : List Item) → IsFresh sc h items → is_asking items ≡ true → parts_due sc items ≡ None → IsAsked h h items
no_parts sc h items was form none = record {
  grown = stays_none h;
  fresh = λ s. none_taken h s was.fresh;
  parted = λ alone. absurd (group_unparted items (asks_items sc items form none) alone);
}

-- the kinds of steps that are played
kind : (items : List Item) → is_asking items ≡ true → (list_all is_groupable items ≡ true) ⊎ (is_parted items ≡ true)
kind [] played = inl refl
kind (item.Split parts ∷ []) played = inr refl
kind (item.Merge ∷ []) played = inr refl
kind (item.Split parts ∷ x ∷ xs) played = inl played
kind (item.Merge ∷ x ∷ xs) played = inl played
kind (item.Begin name site sites ∷ xs) played = inl played
kind (item.Read name key ∷ xs) played = inl played
kind (item.Write name key val ∷ xs) played = inl played
kind (item.Commit name ∷ xs) played = inl played
kind (item.Cancel name ∷ xs) played = inl played
kind (item.Expire site name ∷ xs) played = inl played
kind (item.Elect site name sites ∷ xs) played = inl played
kind (item.Recover sites ∷ xs) played = inl played
kind (item.Crash site ∷ xs) played = inl played
kind (item.Restart site ∷ xs) played = inl played
kind (item.Stop site count leave ∷ xs) played = inl played

parts_made : (sc : Scenario) (h : List Entry) (items : List Item) → present_items sc h ≡ items → is_parted items ≡ true → begins_with_parts (since_line h) ≡ true →
    is_made sc h ≡ true
parts_made sc h [] is alone begins = absurd cc
parts_made sc h (item.Split parts ∷ []) is alone begins = rw is begins
parts_made sc h (item.Merge ∷ []) is alone begins = rw is begins
parts_made sc h (item.Split parts ∷ x ∷ xs) is alone begins = absurd cc
parts_made sc h (item.Merge ∷ x ∷ xs) is alone begins = absurd cc
parts_made sc h (item.Begin name site sites ∷ xs) is alone begins = absurd cc
parts_made sc h (item.Read name key ∷ xs) is alone begins = absurd cc
parts_made sc h (item.Write name key val ∷ xs) is alone begins = absurd cc
parts_made sc h (item.Commit name ∷ xs) is alone begins = absurd cc
parts_made sc h (item.Cancel name ∷ xs) is alone begins = absurd cc
parts_made sc h (item.Expire site name ∷ xs) is alone begins = absurd cc
parts_made sc h (item.Elect site name sites ∷ xs) is alone begins = absurd cc
parts_made sc h (item.Recover sites ∷ xs) is alone begins = absurd cc
parts_made sc h (item.Crash site ∷ xs) is alone begins = absurd cc
parts_made sc h (item.Restart site ∷ xs) is alone begins = absurd cc
parts_made sc h (item.Stop site count leave ∷ xs) is alone begins = absurd cc

begins_on : (xs ys : List Entry) → begins_with_parts xs ≡ true → begins_with_parts (xs ++ ys) ≡ true
begins_on [] ys is = absurd cc
begins_on (x ∷ xs) ys is = is

-- the step ends
pub step_settles : (sc : Scenario) (start asked last : List Entry) (n : ℕ) (items : List Item) → lines start ≡ suc n → IsFresh sc start items → is_asking items ≡ true →
    IsAsked start asked items → StaysInStep asked last → Delivering sc last → pending sc last ≡ [] → IsSettled sc last (suc n)
step_settles sc start asked last n items at fresh form was grown done none =
    record { legal = done.legal; at = now; none = none; through = by (kind items form) }
  where
    same : IsSameStep sc start last
    same = same_step sc start last (stays_on start asked last was.grown grown)

    now : lines last ≡ suc n
    now = same.at ∙ at

    present : present_items sc last ≡ items
    present = same.present ∙ fresh.present

    begins : is_parted items ≡ true → begins_with_parts (since_line last) ≡ true
    begins alone = ap begins_with_parts (since_stays asked last grown) ∙ begins_on (since_line asked) grown.more (was.parted alone)

    by : (list_all is_groupable items ≡ true) ⊎ (is_parted items ≡ true) → is_through sc last ≡ true
    by (inl group) = end_step sc last n items done now (ap (step_items sc) (lines_to last) ∙ present) group none
    by (inr alone) = step_through sc last n now none (parts_made sc last items present alone (begins alone))

pub whole_end : (sc : Scenario) (h : List Entry) (k : ℕ) → IsSettled sc h k → k ≡ length sc.steps → IsWhole sc h
whole_end sc h k was all = record { legal = was.legal; last = was.at ∙ all; through = was.through }
