-- A release on one name, at its place.
use Rattle.std.specs.Prelude.{◌≡◌, ◌≤◌, ◌++◌, ◌∷◌, [], Bool, true, false, ℕ, List, slice_set, slice_index_or}
use Rattle.std.proofs.Common.{refl, ap, sym, subst, ◌∙◌, arith}
use Rattle.e3_types.specs.declared.transactions.Txn.{Txn}
use Rattle.e3_types.specs.Same.{same_numbers}
use Rattle.e3_types.proofs.SameSites.{same_numbers_refl, same_numbers_eq}
use Rattle.e3_types.specs.Sorted.{AreUnder, IsAscending, IsAt, IsGap}
use Rattle.e3_types.proofs.Ascending.{ascending_set}
use Rattle.e3_types.proofs.Edits.{set_parts}
use Rattle.e3_locks.specs.Places.{released}
use Rattle.e3_locks.specs.Pairs.{with_release}
use Rattle.e3_locks.specs.Waiting.{is_fair}
use Rattle.e3_locks.specs.Standing.{IsTable, Standing, place_in, count_at, released_at}
use Rattle.e3_locks.proofs.Fairness.{fair_released}
use Rattle.e3_locks.proofs.Tables.{in_found, in_set, each_at, table_set, few_released}
use Rattle.e3_locks.proofs.Placing.{name_of, here_is, gap_is}

release_found : (before behind : List Standing) (here : Standing) (t : Txn) (n : List ℕ) → AreUnder name_of n before → here.name ≡ n → (m : List ℕ)
    → place_in m (before ++ released_at t here ∷ behind) ≡ with_release n t (λ k. place_in k (before ++ here ∷ behind)) m
release_found before behind here t n u e m = by (same_numbers n m) refl
  where
    own : place_in n (before ++ released_at t here ∷ behind) ≡ with_release n t (λ k. place_in k (before ++ here ∷ behind)) n
    own = rw (same_numbers_refl n) (in_found before behind (released_at t here) n u e ∙ ap (released t) (sym (in_found before behind here n u e)))

    by : (b : Bool) → same_numbers n m ≡ b
        → place_in m (before ++ released_at t here ∷ behind) ≡ with_release n t (λ k. place_in k (before ++ here ∷ behind)) m
    by true q =
        let P : List ℕ → Type 0 = λ j. place_in j (before ++ released_at t here ∷ behind) ≡ with_release n t (λ k. place_in k (before ++ here ∷ behind)) j in
        subst P (same_numbers_eq n m q) own
    by false q = rw q (in_set before behind here (released_at t here) n m e e q)

module _ (items : List Standing) (at : ℕ) (n : List ℕ) (a : IsAt name_of n items at) (x : Standing) (is : x ≡ slice_index_or items at x) (t : Txn) (new : List Standing)
    (e : new ≡ slice_set items at (released_at t x)) where
  put : new ≡ a.before ++ released_at t a.here ∷ a.behind
  put =
      e ∙ set_parts items a.before a.behind at a.here (released_at t x) a.parts a.place
      ∙ ap (λ (s : Standing). a.before ++ released_at t s ∷ a.behind) (here_is items at n a x is)

  pub release_at_ok : (m : List ℕ) → place_in m new ≡ with_release n t (λ k. place_in k items) m
  release_at_ok m =
      ap (place_in m) put ∙ release_found a.before a.behind a.here t n a.under a.named m
      ∙ ap (λ (l : List Standing). with_release n t (λ k. place_in k l) m) (sym a.parts)

  pub release_at_ascends : IsAscending name_of items → IsAscending name_of new
  release_at_ascends up =
      subst (λ l. IsAscending name_of l) (sym put)
      (ascending_set name_of a.before a.here (released_at t a.here) a.behind refl (subst (λ l. IsAscending name_of l) a.parts up))

  pub release_at_table : (most : ℕ) → IsTable items most → IsTable new most
  release_at_table most b =
      let old : IsTable (a.before ++ a.here ∷ a.behind) most = subst (λ l. IsTable l most) a.parts b in
      let fair : is_fair a.here.place.held a.here.place.queue ≡ true = each_at (λ s. is_fair s.place.held s.place.queue ≡ true) a.before a.behind a.here old.fair in
      let most_here : count_at a.here.place ≤ most = each_at (λ s. count_at s.place ≤ most) a.before a.behind a.here old.few in
      let less : count_at (released t a.here.place) ≤ count_at a.here.place = few_released t a.here.place in
      let few : count_at (released t a.here.place) ≤ most = omega (arith, most_here, less) in
      subst (λ l. IsTable l most) (sym put)
      (table_set a.before a.behind a.here (released_at t a.here) most most refl few (omega arith) old.small (fair_released t a.here.place fair) old)

pub release_gap : (items : List Standing) (at : ℕ) (n : List ℕ) → IsGap name_of n items at → (t : Txn) (m : List ℕ) → place_in m items ≡ with_release n t (λ k. place_in k items) m
release_gap items at n a t m = by (same_numbers n m) refl
  where
    by : (b : Bool) → same_numbers n m ≡ b → place_in m items ≡ with_release n t (λ k. place_in k items) m
    by false q = rw q refl
    by true q =
        let none : place_in m items ≡ record { held = []; queue = [] } = subst (λ (k : List ℕ). place_in k items ≡ record { held = []; queue = [] }) (same_numbers_eq n m q) (gap_is items at n a) in
        rw q (none ∙ sym (ap (released t) none))
