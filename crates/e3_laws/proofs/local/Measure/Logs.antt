-- What an entry does to the logs: records are added, so that no pair opens.
use Rattle.std.proofs.Common.{◌≡◌, ◌⊎◌, inl, inr, ◌||◌, ◌<◌, eqb-true, ◌==◌, ◌≤◌, ◌∷◌, ◌++◌, [], ℕ, Bool, true, false, List, Option, Some, None, refl, ap, sym, subst, ◌∙◌, fold, arith, append-nil, if◌then◌else◌}
use Rattle.std.proofs.lemmas.Grind.{fold-append}
use Rattle.std.specs.Prelude.{Contains, is_none}
use Rattle.std.specs.List.{AllByRecursion as Each}
use Rattle.e3_types.specs.declared.entries.Entry.{Entry}
use Rattle.e3_types.specs.declared.records.Record.{Record}
use Rattle.e3_types.specs.declared.scenarios.Scenario.{Scenario}
use Rattle.e3_types.specs.declared.transactions.Dir.{Dir}
use Rattle.e3_types.specs.declared.transactions.Txn.{Txn}
use Rattle.e3_types.specs.Sets.{has_site}
use Rattle.e3_world.specs.Logs.{decision, decision_by, is_undecided}
use Rattle.e3_world.specs.Moves.{log_by, log_of, moves_of_act, own_entries, past_of}
use Rattle.e3_world.proofs.Pushes.{past_push}
use Rattle.e3_world.proofs.Readings.{own_other, own_same}
use Rattle.e3_laws.proofs.steps.Each.{each-at}
use Rattle.e3_laws.specs.local.Measures.{is_open, open_pairs, begun, total}
use Rattle.e3_laws.proofs.local.Measure.Counting.{total_le, total_less}
use Rattle.e3_laws.proofs.steps.Moving.{log_append}
use Rattle.e3_laws.proofs.steps.Undecided.{stays}

-- a log grows
pub log_grows : (sc : Scenario) (h : List Entry) (e : Entry) (s : ℕ) → (more : List Record) × (log_of sc (h ++ e ∷ []) s ≡ log_of sc h s ++ more)
log_grows sc h e s = by (e.owner == s) refl
  where
    by : (b : Bool) → (e.owner == s) ≡ b → (more : List Record) × (log_of sc (h ++ e ∷ []) s ≡ log_of sc h s ++ more)
    by true is = (
      log_by (moves_of_act sc s (past_of sc s (own_entries s h)) e.act),
      ap (λ l. log_by (past_of sc s l).moves) (own_same s h e is) ∙ ap (λ w. log_by w.moves) (past_push sc s (own_entries s h) e)
          ∙ log_append (past_of sc s (own_entries s h)).moves (moves_of_act sc s (past_of sc s (own_entries s h)) e.act),
    )
    by false is = ([], ap (λ l. log_by (past_of sc s l).moves) (own_other s h e is) ∙ sym (append-nil (log_of sc h s)))

pub undecided_less : (t : Txn) (xs ys : List Record) → (if is_undecided t (xs ++ ys) then 1 else 0) ≤ (if is_undecided t xs then 1 else 0)
undecided_less t xs ys =
    let P : Option Dir → Type 0 = λ o. (if is_none o then 1 else 0) ≤ (if is_undecided t xs then 1 else 0) in
    subst P (sym (fold-append (decision_by t) None xs ys)) (by (decision t xs) refl)
  where
    by : (o : Option Dir) → decision t xs ≡ o → (if is_none (fold (decision_by t) (decision t xs) ys) then 1 else 0) ≤ (if is_undecided t xs then 1 else 0)
    by None is = rw is (some (is_none (fold (decision_by t) None ys)))
      where
        some : (b : Bool) → (if b then 1 else 0) ≤ 1
        some true = omega arith
        some false = omega arith
    by (Some dir) is = rw (is, stays t dir ys) (omega arith)

pub open_le : (sc : Scenario) (h : List Entry) (e : Entry) (t : Txn) (s : ℕ) → is_open sc (h ++ e ∷ []) t s ≤ is_open sc h t s
open_le sc h e t s =
    let more = log_grows sc h e s in
    let P : List Record → Type 0 = λ l. (if is_undecided t l then 1 else 0) ≤ is_open sc h t s in
    subst P (sym more.1) (undecided_less t (log_of sc h s) more.0)

pub pairs_le : (sc : Scenario) (h : List Entry) (e : Entry) → begun (h ++ e ∷ []) ≡ begun h → open_pairs sc (h ++ e ∷ []) ≤ open_pairs sc h
pairs_le sc h e same =
    let P : List Txn → Type 0 = λ l. total (λ t. total (is_open sc (h ++ e ∷ []) t) t.sites) l ≤ open_pairs sc h in
    subst P (sym same) (total_le (λ t. total (is_open sc (h ++ e ∷ []) t) t.sites) (λ t. total (is_open sc h t) t.sites)
    (λ t. total_le (is_open sc (h ++ e ∷ []) t) (is_open sc h t) (open_le sc h e t) t.sites) (begun h))

or_step : (s : ℕ) (sites : List ℕ) (site : ℕ) → has_site (s ∷ sites) site ≡ true → ((s == site) || has_site sites site) ≡ true
or_step s sites site has = has

at_site : (P : ℕ → Type 0) (sites : List ℕ) (site : ℕ) → Each P sites → has_site sites site ≡ true → P site
at_site P [] site all has = absurd cc
at_site P (s ∷ sites) site all has = by (s == site) refl (λ is. at_site P sites site all.1 is)
  where
    by : (b : Bool) → (s == site) ≡ b → (has_site sites site ≡ true → P site) → P site
    by true is rest = subst P (eqb-true s site is) all.0
    by false is rest = rest (let Q : Bool → Type 0 = λ b. (b || has_site sites site) ≡ true in subst Q is (or_step s sites site has))

-- a pair that closes
pub pairs_less : (sc : Scenario) (h : List Entry) (e : Entry) (t : Txn) (site : ℕ) → begun (h ++ e ∷ []) ≡ begun h → Contains (begun h) t →
    has_site t.sites site ≡ true → is_undecided t (log_of sc h site) ≡ true → is_undecided t (log_of sc (h ++ e ∷ []) site) ≡ false →
    open_pairs sc (h ++ e ∷ []) < open_pairs sc h
pairs_less sc h e t site same has member before after =
    let P : List Txn → Type 0 = λ l. total now l < open_pairs sc h in
    subst P (sym same) (by (total_less now was (λ u. total_le (is_open sc (h ++ e ∷ []) u) (is_open sc h u) (open_le sc h e u) u.sites) (begun h)))
  where
    now : Txn → ℕ
    now u = total (is_open sc (h ++ e ∷ []) u) u.sites

    was : Txn → ℕ
    was u = total (is_open sc h u) u.sites

    sites : (total (is_open sc (h ++ e ∷ []) t) t.sites < total (is_open sc h t) t.sites) ⊎ Each (λ s. is_open sc (h ++ e ∷ []) t s ≡ is_open sc h t s) t.sites →
        total (is_open sc (h ++ e ∷ []) t) t.sites < total (is_open sc h t) t.sites
    sites (inl less) = less
    sites (inr all) =
        let is : is_open sc (h ++ e ∷ []) t site ≡ is_open sc h t site = at_site (λ s. is_open sc (h ++ e ∷ []) t s ≡ is_open sc h t s) t.sites site all member in
        let one : is_open sc h t site ≡ 1 = rw before refl in
        let none : is_open sc (h ++ e ∷ []) t site ≡ 0 = rw after refl in
        absurd (omega (arith, is, one, none))

    by : (total now (begun h) < total was (begun h)) ⊎ Each (λ u. now u ≡ was u) (begun h) → total now (begun h) < total was (begun h)
    by (inl less) = less
    by (inr all) =
        let equal : now t ≡ was t = each-at (λ u. now u ≡ was u) (begun h) t all has in
        let less : now t < was t = sites (total_less (is_open sc (h ++ e ∷ []) t) (is_open sc h t) (open_le sc h e t) t.sites) in
        absurd (omega (arith, equal, less))
