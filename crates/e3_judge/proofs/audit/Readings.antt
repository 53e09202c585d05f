-- What is read of a site, behind an entry of its own and behind one of others.
use Rattle.std.proofs.Common.{◌≡◌, ◌==◌, ◌+◌, ◌||◌, ℕ, Bool, true, false, not, List, [], ◌∷◌, ◌++◌, append-nil, append_assoc, ◌∙◌, ap, sym, refl, arith, count_by, eq-eqb, eqb-true, fold}
use Rattle.std.specs.List.{list_any}
use Rattle.std.proofs.lemmas.List.Folds.{list_any-append}
use Rattle.std.proofs.lemmas.List.Sums.{sum_by-append}
use Rattle.e3_types.specs.declared.entries.Entry.{Entry}
use Rattle.e3_types.specs.declared.entries.Input.{Input}
use Rattle.e3_types.specs.declared.scenarios.Scenario.{Scenario}
use Rattle.e3_world.specs.Items.{AroundLine, inputs_at, inputs_of, inputs_to, is_delivery, since_line, around_by, taken_at, to_line, turn_of}
use Rattle.e3_world.specs.Legal.{has_rising, is_rising}
use Rattle.e3_world.specs.Moves.{own_entries, past_by, past_of}
use Rattle.e3_world.specs.Packets.{is_line, lines}
use Rattle.e3_world.proofs.Guards.{lines_push}
use Rattle.e3_world.proofs.Pushes.{past_push}
use Rattle.e3_world.proofs.Readings.{own_other, own_same, since_push, split_push, taken_same}
use Rattle.e3_world.proofs.Turns.{plan_push}

-- whether an input counts as an item
abbrev pub counts : Input → Bool
counts i = not (is_delivery i)

-- the number of another site
pub apart_from : (k n : ℕ) → (n == k) ≡ false → (k == n) ≡ false
apart_from k n other = by (k == n) refl
  where
    by : (b : Bool) → (k == n) ≡ b → (k == n) ≡ false
    by true is = absurd (let same : k ≡ n = eqb-true k n is in let yes : (n == k) ≡ true = eq-eqb n k (sym same) in cc)
    by false is = is

-- an entry that is no line
pub lines_still : (h : List Entry) (e : Entry) → is_line e ≡ false → lines (h ++ e ∷ []) ≡ lines h
lines_still h e stays =
    let one : count_by is_line (e ∷ []) ≡ 0 = rw stays refl in
    let now : lines (h ++ e ∷ []) ≡ lines h + count_by is_line (e ∷ []) = lines_push h e in
    omega (arith, one, now)

pub inputs_still : (sc : Scenario) (h : List Entry) (e : Entry) (k : ℕ) → is_line e ≡ false → inputs_at sc (h ++ e ∷ []) k ≡ inputs_at sc h k
inputs_still sc h e k stays = ap (inputs_to k) (plan_push sc h e stays)

pub rising_other : (h : List Entry) (e : Entry) (k : ℕ) → is_line e ≡ false → (e.owner == k) ≡ false →
    has_rising (since_line (h ++ e ∷ [])) k ≡ has_rising (since_line h) k
rising_other h e k stays other = rw (since_push h e stays, own_other k (since_line h) e other) refl

-- an entry of its own
pub past_own : (sc : Scenario) (h : List Entry) (e : Entry) (k : ℕ) → (e.owner == k) ≡ true →
    past_of sc k (own_entries k (h ++ e ∷ [])) ≡ past_by sc k (past_of sc k (own_entries k h)) e
past_own sc h e k is = ap (past_of sc k) (own_same k h e is) ∙ past_push sc k (own_entries k h) e

pub turn_own : (h : List Entry) (e : Entry) (k : ℕ) → is_line e ≡ false → (e.owner == k) ≡ true →
    turn_of (h ++ e ∷ []) k ≡ turn_of h k + count_by counts (inputs_of e.act)
turn_own h e k stays is = ap (count_by counts) (taken_same h e k stays is) ∙ sum_by-append _ (taken_at h k) (inputs_of e.act)

pub delivered_own : (h : List Entry) (e : Entry) (k : ℕ) → is_line e ≡ false → (e.owner == k) ≡ true →
    list_any is_delivery (taken_at (h ++ e ∷ []) k) ≡ (list_any is_delivery (taken_at h k) || list_any is_delivery (inputs_of e.act))
delivered_own h e k stays is = ap (list_any is_delivery) (taken_same h e k stays is) ∙ list_any-append is_delivery (taken_at h k) (inputs_of e.act)

pub rising_own : (h : List Entry) (e : Entry) (k : ℕ) → is_line e ≡ false → (e.owner == k) ≡ true →
    has_rising (since_line (h ++ e ∷ [])) k ≡ (has_rising (since_line h) k || (is_rising e || false))
rising_own h e k stays is = rw (since_push h e stays, own_same k (since_line h) e is) (list_any-append is_rising (own_entries k (since_line h)) (e ∷ []))

-- a line
pub since_fresh : (h : List Entry) (e : Entry) → is_line e ≡ true → since_line (h ++ e ∷ []) ≡ []
since_fresh h e line = ap (λ w. w.since) (split_push h e) ∙ rw line refl

-- a history in two is the history
in_two : (w : AroundLine) (h : List Entry) → (fold around_by w h).to ++ (fold around_by w h).since ≡ w.to ++ w.since ++ h
in_two w [] = sym (append-nil (w.to ++ w.since))
in_two w (e ∷ h) = in_two (around_by w e) h ∙ ap (λ l. l ++ h) (one (is_line e) refl) ∙ append_assoc (w.to ++ w.since) (e ∷ []) h
  where
    one : (b : Bool) → is_line e ≡ b → (around_by w e).to ++ (around_by w e).since ≡ (w.to ++ w.since) ++ e ∷ []
    one true is = rw is (append-nil (w.to ++ w.since ++ e ∷ []))
    one false is = rw is (sym (append_assoc w.to w.since (e ∷ [])))

pub both_parts : (h : List Entry) → to_line h ++ since_line h ≡ h
both_parts h = in_two (record { to = []; since = [] }) h

pub to_all : (h : List Entry) (e : Entry) → is_line e ≡ true → to_line (h ++ e ∷ []) ≡ h ++ e ∷ []
to_all h e line =
    sym (append-nil (to_line (h ++ e ∷ []))) ∙ ap (λ l. to_line (h ++ e ∷ []) ++ l) (sym (since_fresh h e line)) ∙ both_parts (h ++ e ∷ [])

-- before the first line
since_from : (w : AroundLine) (h : List Entry) → lines h ≡ 0 → (fold around_by w h).since ≡ w.since ++ h
since_from w [] none = sym (append-nil w.since)
since_from w (e ∷ h) none = by (λ v. since_from v h) (is_line e) refl
  where
    rest : lines (e ∷ h) ≡ lines (e ∷ []) + lines h
    rest = sum_by-append _ (e ∷ []) h

    by : ((v : AroundLine) → lines h ≡ 0 → (fold around_by v h).since ≡ v.since ++ h) → (b : Bool) → is_line e ≡ b →
        (fold around_by w (e ∷ h)).since ≡ w.since ++ e ∷ h
    by more true is = absurd (let one : lines (e ∷ []) ≡ 1 = rw is refl in omega (arith, none, rest, one))
    by more false is =
        let later : lines h ≡ 0 = omega (arith, none, rest) in
        let v : AroundLine = record { to = w.to; since = w.since ++ e ∷ [] } in
        let same : around_by w e ≡ v = rw is refl in
        ap (λ u. (fold around_by u h).since) same ∙ more v later ∙ append_assoc w.since (e ∷ []) h

pub since_all : (h : List Entry) → lines h ≡ 0 → since_line h ≡ h
since_all h none = since_from (record { to = []; since = [] }) h none
