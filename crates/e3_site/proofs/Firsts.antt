-- The first place that the test finds is the first place where the records are out of order.
use Rattle.std.proofs.Common.{◌≡◌, ◌<◌, ◌++◌, ◌∷◌, [], ℕ, suc, ◌+◌, Bool, true, false, List, length, take, Option, Some, None, MatchOption, refl, sym, subst, ◌∙◌, arith, length-append}
use Rattle.std.proofs.lemmas.Bool.{false≢true}
use Rattle.e3_types.specs.declared.records.Record.{Record}
use Rattle.e3_world.specs.Orderly.{IsOrderly, OrderlyAfter}
use Rattle.e3_site.specs.Orderly.{is_orderly_next, disorder_after, disorder_in, IsFirstDisorder}
use Rattle.e3_site.proofs.Follows.{follows, passes}

-- where the test finds no place, the records are in order
none-found : (site : ℕ) (before rest : List Record) → disorder_after site before rest ≡ None → OrderlyAfter site before rest
none-found site before [] h = tt
none-found site before (r ∷ rest) h = by (none-found site (before ++ r ∷ []) rest) (is_orderly_next site before r) refl
  where
    by : (disorder_after site (before ++ r ∷ []) rest ≡ None → OrderlyAfter site (before ++ r ∷ []) rest) →
        (b : Bool) → is_orderly_next site before r ≡ b → OrderlyAfter site before (r ∷ rest)
    by more true is =
        let same : disorder_after site before (r ∷ rest) ≡ disorder_after site (before ++ r ∷ []) rest = rw is refl in
        (follows site before r is, more (sym same ∙ h))
    by more false is = absurd (let same : disorder_after site before (r ∷ rest) ≡ Some (length before) = rw is refl in let both : None ≡ Some (length before) = sym h ∙ same in cc)

-- a place that is found behind the records before, and what it says
pub record FoundAfter (site : ℕ) (before rest : List Record) (at : ℕ) : Type 0 where
  pub ahead : ℕ
  pub place : at ≡ length before + ahead
  pub exists : ahead < length rest
  pub front : OrderlyAfter site before (take ahead rest)
  pub breaks : ¬ OrderlyAfter site before (take (suc ahead) rest)

some-found : (site : ℕ) (before rest : List Record) (at : ℕ) → disorder_after site before rest ≡ Some at → FoundAfter site before rest at
some-found site before [] at h = absurd (let both : None ≡ Some at = h in cc)
some-found site before (r ∷ rest) at h = by (some-found site (before ++ r ∷ []) rest at) (is_orderly_next site before r) refl
  where
    by : (disorder_after site (before ++ r ∷ []) rest ≡ Some at → FoundAfter site (before ++ r ∷ []) rest at) →
        (b : Bool) → is_orderly_next site before r ≡ b → FoundAfter site before (r ∷ rest) at
    by rec true is =
        let same : disorder_after site before (r ∷ rest) ≡ disorder_after site (before ++ r ∷ []) rest = rw is refl in
        let more = rec (sym same ∙ h) in
        let long : length (before ++ r ∷ []) ≡ length before + 1 = length-append before (r ∷ []) in
        record {
          ahead = suc more.ahead;
          place = omega (arith, more.place, long);
          exists = omega (arith, more.exists);
          front = (follows site before r is, more.front);
          breaks = λ all. more.breaks all.1;
        }
    by rec false is =
        let same : disorder_after site before (r ∷ rest) ≡ Some (length before) = rw is refl in
        let both : Some (length before) ≡ Some at = sym same ∙ h in
        let here : length before ≡ at = cc in
        record {
          ahead = 0;
          place = omega (arith, here);
          exists = omega arith;
          front = tt;
          breaks = λ all. false≢true (sym is ∙ passes site before r all.0);
        }

pub disorder_found : (site : ℕ) (records : List Record) → MatchOption (disorder_in site records) (IsOrderly site records) (IsFirstDisorder site records)
disorder_found site records = by (disorder_in site records) refl
  where
    by : (o : Option ℕ) → disorder_in site records ≡ o → MatchOption o (IsOrderly site records) (IsFirstDisorder site records)
    by None is = none-found site [] records is
    by (Some at) is =
        let found = some-found site [] records at is in
        let here : at ≡ found.ahead = omega (arith, found.place) in
        let P : ℕ → Type 0 = λ n. IsFirstDisorder site records n in
        subst P (sym here) (record { exists = found.exists; front = found.front; breaks = found.breaks })
