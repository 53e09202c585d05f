-- A request and a question at a place that was searched for.
use Rattle.std.specs.Prelude.{◌≡◌, ◌≤◌, ◌<◌, ◌^◌, ◌++◌, ◌∷◌, [], true, ℕ, List, slice_set, slice_index_or}
use Rattle.std.specs.List.{insert}
use Rattle.std.proofs.Common.{refl, ap, sym, subst, ◌∙◌}
use Rattle.e3_types.specs.declared.locks.Grant.{Grant}
use Rattle.e3_types.specs.declared.locks.Grant.TheVariants.{Held}
use Rattle.e3_types.specs.declared.locks.Lock.{Lock}
use Rattle.e3_types.specs.Sorted.{IsAscending, IsAt, IsGap}
use Rattle.e3_types.proofs.Edits.{insert_parts, set_parts, get_parts}
use Rattle.e3_locks.specs.LockLists.{LockLists, place}
use Rattle.e3_locks.specs.Places.{would, requested}
use Rattle.e3_locks.specs.Replays.{with_request}
use Rattle.e3_locks.specs.Waiting.{is_fair}
use Rattle.e3_locks.specs.Standing.{IsTable, Standing, all_held, all_queued, place_in, count_at}
use Rattle.e3_locks.proofs.Fairness.{fair_requested}
use Rattle.e3_locks.proofs.Tables.{place_is, in_found, in_gap, request_found, request_gap, each_at, table_set, table_insert}

abbrev pub name_of : Standing → List ℕ
name_of s = s.name

abbrev pub lists : List Standing → ℕ → LockLists
lists items room = record { held = all_held items; queue = all_queued items; room = room }

module _ (items : List Standing) (at : ℕ) (n : List ℕ) (a : IsAt name_of n items at) (x : Standing) (is : x ≡ slice_index_or items at x) where
  pub here_is : x ≡ a.here
  here_is = is ∙ get_parts items a.before a.behind at a.here x a.parts a.place

  pub found_name : x.name ≡ n
  found_name = ap (λ (s : Standing). s.name) here_is ∙ a.named

  pub found_is : place_in n items ≡ x.place
  found_is = ap (place_in n) a.parts ∙ in_found a.before a.behind a.here n a.under a.named ∙ ap (λ (s : Standing). s.place) (sym here_is)

  -- the place of the name in the table's lists
  pub place_found : (room : ℕ) → IsAscending name_of items → place n (lists items room) ≡ x.place
  place_found room up = place_is n items room up ∙ found_is

  after_is : (w : Lock) (g : Grant) (new : List Standing) → new ≡ slice_set items at (record { name = x.name; place = requested w g x.place })
      → new ≡ a.before ++ record { name = a.here.name; place = requested w g a.here.place } ∷ a.behind
  after_is w g new e =
      e ∙ set_parts items a.before a.behind at a.here (record { name = x.name; place = requested w g x.place }) a.parts a.place
      ∙ ap (λ (s : Standing). a.before ++ record { name = s.name; place = requested w g s.place } ∷ a.behind) here_is

  pub request_at_ok : (w : Lock) (g : Grant) (new : List Standing) → new ≡ slice_set items at (record { name = x.name; place = requested w g x.place }) → (m : List ℕ)
      → place_in m new ≡ with_request n w g (λ k. place_in k items) m
  request_at_ok w g new e m =
      ap (place_in m) (after_is w g new e) ∙ request_found a.before a.behind a.here w g n a.under a.named m
      ∙ ap (λ (l : List Standing). with_request n w g (λ k. place_in k l) m) (sym a.parts)

  pub request_at_table : (w : Lock) (g : Grant) (new : List Standing) (most more : ℕ) → new ≡ slice_set items at (record { name = x.name; place = requested w g x.place })
      → g ≡ would w x.place → count_at (requested w g x.place) ≤ more → most ≤ more → more < 2 ^ 63 → IsTable items most → IsTable new more
  request_at_table w g new most more e grant few le small t =
      let old : IsTable (a.before ++ a.here ∷ a.behind) most = subst (λ l. IsTable l most) a.parts t in
      let fair : is_fair a.here.place.held a.here.place.queue ≡ true = each_at (λ s. is_fair s.place.held s.place.queue ≡ true) a.before a.behind a.here old.fair in
      let answer : g ≡ would w a.here.place = grant ∙ ap (λ (s : Standing). would w s.place) here_is in
      let count : count_at (requested w g a.here.place) ≤ more = subst (λ s. count_at (requested w g s.place) ≤ more) here_is few in
      subst (λ l. IsTable l more) (sym (after_is w g new e))
      (table_set a.before a.behind a.here (record { name = a.here.name; place = requested w g a.here.place }) most more refl count le small (fair_requested w a.here.place g answer fair) old)

  -- no more locks than the table allows
  pub found_few : (most : ℕ) → IsTable items most → count_at x.place ≤ most
  found_few most t =
      let old : IsTable (a.before ++ a.here ∷ a.behind) most = subst (λ l. IsTable l most) a.parts t in
      subst (λ s. count_at s.place ≤ most) (sym here_is) (each_at (λ s. count_at s.place ≤ most) a.before a.behind a.here old.few)

module _ (items : List Standing) (at : ℕ) (n : List ℕ) (a : IsGap name_of n items at) where
  pub gap_is : place_in n items ≡ record { held = []; queue = [] }
  gap_is = ap (place_in n) a.parts ∙ in_gap a.before a.behind n a.under a.over

  pub place_gap : (room : ℕ) → IsAscending name_of items → place n (lists items room) ≡ record { held = []; queue = [] }
  place_gap room up = place_is n items room up ∙ gap_is

  -- the first request on a name is held
  pub gap_grant : (w : Lock) → Held ≡ would w (place_in n items)
  gap_grant w = sym (ap (would w) gap_is)

  pub request_gap_ok : (w : Lock) (new : List Standing) → new ≡ insert items at (record { name = n; place = record { held = w ∷ []; queue = [] } }) → (m : List ℕ)
      → place_in m new ≡ with_request n w Held (λ k. place_in k items) m
  request_gap_ok w new e m =
      ap (place_in m) (e ∙ insert_parts items a.before a.behind at (record { name = n; place = record { held = w ∷ []; queue = [] } }) a.parts a.place)
      ∙ request_gap a.before a.behind w n a.under a.over m
      ∙ ap (λ (l : List Standing). with_request n w Held (λ k. place_in k l) m) (sym a.parts)

  pub request_gap_table : (w : Lock) (new : List Standing) (most more : ℕ) → new ≡ insert items at (record { name = n; place = record { held = w ∷ []; queue = [] } })
      → 1 ≤ more → most ≤ more → more < 2 ^ 63 → IsTable items most → IsTable new more
  request_gap_table w new most more e one le small t =
      let first : Standing = record { name = n; place = record { held = w ∷ []; queue = [] } } in
      let old : IsTable (a.before ++ a.behind) most = subst (λ l. IsTable l most) a.parts t in
      subst (λ l. IsTable l more) (sym (e ∙ insert_parts items a.before a.behind at first a.parts a.place))
      (table_insert a.before a.behind first most more a.under a.over one le small refl old)
