-- The turn of a site to rise stands still behind entries of others.
use Rattle.std.proofs.Common.{◌≡◌, ◌==◌, ◌||◌, ◌&&◌, ℕ, zero, suc, Bool, true, false, not, List, [], ◌∷◌, ◌++◌, append-nil, append_assoc, ◌∙◌, ap, sym, subst, refl, nat_lt}
use Rattle.std.specs.List.{list_any, list_all}
use Rattle.std.proofs.lemmas.Bool.{and_parts}
use Rattle.std.proofs.lemmas.List.Folds.{list_any-append}
use Rattle.e3_types.specs.declared.entries.Entry.{Entry}
use Rattle.e3_types.specs.declared.scenarios.Item.{Item}
use Rattle.e3_types.specs.declared.scenarios.Item.TheVariants as item
use Rattle.e3_types.specs.declared.scenarios.Scenario.{Scenario}
use Rattle.e3_world.specs.Items.{since_line}
use Rattle.e3_world.specs.Legal.{IsRising, IsRise, IsCut, has_rising, is_rising, may_rise}
use Rattle.e3_world.specs.Logs.{logged_inc}
use Rattle.e3_world.specs.Moves.{own_entries, log_by, kept_moves}
use Rattle.e3_world.specs.Packets.{is_line, lines, step_items, all_sites}
use Rattle.e3_world.proofs.Readings.{since_push, own_same, own_other}
use Rattle.e3_laws.specs.local.Others.{AreOthers}
use Rattle.e3_laws.proofs.local.Alike.{Alike}
use Rattle.e3_laws.proofs.local.Due.{all_kept}

-- the site had its rises in both or in none, also since the line, and who rose in the first did so in the second
pub record SameRises (site : ℕ) (p h : List Entry) : Type 0 where
  pub since : has_rising (since_line h) site ≡ has_rising (since_line p) site
  pub ever : has_rising h site ≡ has_rising p site
  pub others : (u : ℕ) → has_rising p u ≡ true → has_rising h u ≡ true

or_left : (a b : Bool) → a ≡ true → (a || b) ≡ true
or_left a b is = rw is refl

rises_push : (h : List Entry) (e : Entry) (u : ℕ) → has_rising h u ≡ true → has_rising (h ++ e ∷ []) u ≡ true
rises_push h e u rose = by (e.owner == u) refl
  where
    by : (b : Bool) → (e.owner == u) ≡ b → has_rising (h ++ e ∷ []) u ≡ true
    by true is = ap (list_any is_rising) (own_same u h e is) ∙ list_any-append is_rising (own_entries u h) (e ∷ []) ∙ or_left (has_rising h u) (list_any is_rising (e ∷ [])) rose
    by false is = ap (list_any is_rising) (own_other u h e is) ∙ rose

one_on : (site : ℕ) (h : List Entry) (e : Entry) → (e.owner == site) ≡ false → is_line e ≡ false → SameRises site h (h ++ e ∷ [])
one_on site h e other stays = record {
  since = ap (λ l. has_rising l site) (since_push h e stays) ∙ ap (list_any is_rising) (own_other site (since_line h) e other);
  ever = ap (list_any is_rising) (own_other site h e other);
  others = rises_push h e;
}

pub rises_on : (site : ℕ) (h more : List Entry) → AreOthers site more → SameRises site h (h ++ more)
rises_on site h [] others = let P : List Entry → Type 0 = λ k. SameRises site h k in subst P (sym (append-nil h)) (record { since = refl; ever = refl; others = λ u is. is })
rises_on site h (e ∷ more) others =
    let rest : SameRises site (h ++ e ∷ []) ((h ++ e ∷ []) ++ more) = rises_on site (h ++ e ∷ []) more others.2 in
    let first : SameRises site h (h ++ e ∷ []) = one_on site h e others.0 others.1 in
    let P : List Entry → Type 0 = λ k. SameRises site h k in
    subst P (append_assoc h (e ∷ []) more) (record {
      since = rest.since ∙ first.since;
      ever = rest.ever ∙ first.ever;
      others = λ u is. rest.others u (first.others u is);
    })

abbrev lower_rose : List Entry → ℕ → ℕ → Bool
lower_rose h site s = not (nat_lt s site) || has_rising h s

pub may_on : (sc : Scenario) (site : ℕ) (p h : List Entry) → lines h ≡ lines p → SameRises site p h → may_rise sc p site ≡ true → may_rise sc h site ≡ true
may_on sc site p h line same may = by (lines p) refl (step_items sc (lines p)) refl
  where
    first : lines p ≡ 0 → may_rise sc h site ≡ true
    first at =
        let was : may_rise sc p site ≡ (not (has_rising p site) && list_all (lower_rose p site) (all_sites sc)) = rw at refl in
        let now : may_rise sc h site ≡ (not (has_rising h site) && list_all (lower_rose h site) (all_sites sc)) = rw (line ∙ at) refl in
        let both = and_parts (not (has_rising p site)) (list_all (lower_rose p site) (all_sites sc)) (sym was ∙ may) in
        now ∙ rw (ap not same.ever ∙ both.0) (all_kept (lower_rose p site) (lower_rose h site) (all_sites sc) (λ s is. lower s (nat_lt s site) refl is) both.1)
      where
        lower : (s : ℕ) (b : Bool) → nat_lt s site ≡ b → lower_rose p site s ≡ true → lower_rose h site s ≡ true
        lower s true less is = rw less (same.others s (let open_up : lower_rose p site s ≡ has_rising p s = rw less refl in sym open_up ∙ is))
        lower s false less is = rw less refl

    by : (n : ℕ) → lines p ≡ n → (items : List Item) → step_items sc (lines p) ≡ items → may_rise sc h site ≡ true
    by zero at items is = first at
    by (suc n) at (item.Restart s ∷ items) is =
        let step : step_items sc (suc n) ≡ item.Restart s ∷ items = ap (step_items sc) (sym at) ∙ is in
        let was : may_rise sc p site ≡ (s == site && not (has_rising (since_line p) site)) = rw (at, step) refl in
        let now : may_rise sc h site ≡ (s == site && not (has_rising (since_line h) site)) = rw (line ∙ at, step) refl in
        now ∙ ap (λ b. s == site && not b) same.since ∙ sym was ∙ may
    by (suc n) at [] is = absurd (let no_rise : may_rise sc p site ≡ false = rw (at, ap (step_items sc) (sym at) ∙ is) refl in cc)
    by (suc n) at (it ∷ items) is = absurd (let no_rise : may_rise sc p site ≡ false = rw (at, ap (step_items sc) (sym at) ∙ is) refl in cc)

pub rising_on : (sc : Scenario) (site : ℕ) (p h : List Entry) → Alike sc site p h → SameRises site p h → IsRising sc p site → IsRising sc h site
rising_on sc site p h a same was = record {
  exists = was.exists;
  down = a.up ∙ was.down;
  turn = may_on sc site p h a.line same was.turn;
}

pub rise_on : (sc : Scenario) (site : ℕ) (p h : List Entry) (kept : Bool) (inc : ℕ) → Alike sc site p h → SameRises site p h →
    IsRise sc p site kept inc → IsRise sc h site kept inc
rise_on sc site p h kept inc a same was = record {
  rising = rising_on sc site p h a same was.rising;
  has_tail = λ is none. was.has_tail is (sym (ap (λ w. w.tail) a.past) ∙ none);
  next = was.next ∙ ap (λ w. suc (logged_inc (log_by w.moves ++ log_by (kept_moves site kept w.tail)))) (sym a.past);
}

pub cut_on : (sc : Scenario) (site : ℕ) (p h : List Entry) → Alike sc site p h → IsCut sc p site → IsCut sc h site
cut_on sc site p h a was = record {
  up = a.up ∙ was.up;
  crash = ap (step_items sc) a.line ∙ was.crash;
}
