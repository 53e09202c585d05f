-- The first rises, site by site in ascending order.
use Rattle.std.proofs.Common.{◌≡◌, ◌≢◌, ◌==◌, ◌||◌, ◌≤◌, ◌<◌, ℕ, zero, suc, Bool, true, false, not, List, [], ◌∷◌, ◌++◌, ◌∙◌, ap, sym, refl, subst, length, arith, eq-eqb, eqb-true, ltb-true}
use Rattle.std.specs.Prelude.{nat_lt}
use Rattle.std.specs.List.{list_any, list_all}
use Rattle.std.proofs.lemmas.List.Folds.{list_all-append, list_any-append}
use Rattle.e3_types.specs.declared.entries.Act.{Act}
use Rattle.e3_types.specs.declared.entries.Act.TheVariants.{Rise, Miss}
use Rattle.e3_types.specs.declared.entries.Entry.{Entry}
use Rattle.e3_types.specs.declared.scenarios.Scenario.{Scenario}
use Rattle.e3_world.specs.Legal.{IsLegal, Guard, IsRising, has_rising, is_rising, is_through, may_rise}
use Rattle.e3_world.specs.Moves.{own_entries, past_of, log_by, kept_moves}
use Rattle.e3_world.specs.Logs.{logged_inc}
use Rattle.e3_world.specs.Packets.{lines, is_line, all_sites, sites_to}
use Rattle.e3_world.proofs.Pushes.{legal_push}
use Rattle.e3_world.proofs.Readings.{own_same, own_other}
use Rattle.e3_world.proofs.Guards.{lines_push}

-- the first k sites had their rise, the later ones have no entry
pub record Rising (sc : Scenario) (h : List Entry) (k : ℕ) : Type 0 where
  pub legal : IsLegal sc h
  pub before_lines : lines h ≡ 0
  pub rose : (s : ℕ) → 1 ≤ s → s ≤ k → has_rising h s ≡ true
  pub silent : (s : ℕ) → k < s → own_entries s h ≡ []

true_not_false : true ≡ false → ⊥
true_not_false is = cc

pub at_start : (sc : Scenario) → Rising sc [] 0
at_start sc = record { legal = tt; before_lines = refl; rose = λ s one none. absurd (omega (arith, one, none)); silent = λ s later. refl }

pub all_to : (p : ℕ → Bool) (n : ℕ) → ((s : ℕ) → 1 ≤ s → s ≤ n → p s ≡ true) → list_all p (sites_to n) ≡ true
all_to p zero each = refl
all_to p (suc n) each = rw (list_all-append, all_to p n (λ s one few. each s one (omega (arith, few))), each (suc n) (omega arith) (omega arith)) refl

may : (sc : Scenario) (h : List Entry) (k : ℕ) → Rising sc h k → may_rise sc h (suc k) ≡ true
may sc h k was = rw (was.before_lines, none, before) refl
  where
    none : has_rising h (suc k) ≡ false
    none = ap (list_any is_rising) (was.silent (suc k) (omega arith))

    one : (s : ℕ) → 1 ≤ s → (b : Bool) → nat_lt s (suc k) ≡ b → (not (nat_lt s (suc k)) || has_rising h s) ≡ true
    one s some true is = rw (is, was.rose s some (let less : s < suc k = ltb-true s (suc k) is in omega (arith, less))) refl
    one s some false is = rw is refl

    before : list_all (λ s. not (nat_lt s (suc k)) || has_rising h s) (all_sites sc) ≡ true
    before = all_to _ (length sc.weights) (λ s some few. one s some (nat_lt s (suc k)) refl)

rising : (sc : Scenario) (h : List Entry) (k : ℕ) → suc k ≤ length sc.weights → Rising sc h k → IsRising sc h (suc k)
rising sc h k some was = record { exists = some; down = rw (was.silent (suc k) (omega arith)) refl; turn = may sc h k was }

-- one more entry of the next site, which is a rise or a failed one
pub next_rise : (sc : Scenario) (h : List Entry) (k : ℕ) (act : Act) → Rising sc h k → Guard sc h (record { owner = suc k; act = act }) →
    is_rising (record { owner = suc k; act = act }) ≡ true → is_line (record { owner = suc k; act = act }) ≡ false →
    Rising sc (h ++ record { owner = suc k; act = act } ∷ []) (suc k)
next_rise sc h k act was guard rises line = record {
  legal = legal_push sc h e was.legal guard;
  before_lines = lines_push h e ∙ rw (was.before_lines, line) refl;
  rose = λ s some few. rose s some few (suc k == s) refl;
  silent = λ s later. silent s later (suc k == s) refl;
}
  where
    e : Entry
    e = record { owner = suc k; act = act }

    rose : (s : ℕ) → 1 ≤ s → s ≤ suc k → (b : Bool) → (suc k == s) ≡ b → has_rising (h ++ e ∷ []) s ≡ true
    rose s some few true is = rw (own_same s h e is, list_any-append, rises) (or_true (list_any is_rising (own_entries s h)))
      where
        or_true : (b : Bool) → (b || true) ≡ true
        or_true true = refl
        or_true false = refl
    rose s some few false is = rw (own_other s h e is) (was.rose s some (let apart : suc k ≢ s = (λ e. true_not_false (sym (eq-eqb (suc k) s e) ∙ is)) in omega (arith, apart, few)))

    silent : (s : ℕ) → suc k < s → (b : Bool) → (suc k == s) ≡ b → own_entries s (h ++ e ∷ []) ≡ []
    silent s later true is = absurd (let same : suc k ≡ s = eqb-true (suc k) s is in omega (arith, same, later))
    silent s later false is = own_other s h e is ∙ was.silent s (omega (arith, later))

pub rise_one : (sc : Scenario) (h : List Entry) (k : ℕ) → suc k ≤ length sc.weights → Rising sc h k →
    Rising sc (h ++ record { owner = suc k; act = Rise false 1 } ∷ []) (suc k)
rise_one sc h k some was = next_rise sc h k (Rise false 1) was (record {
  rising = rising sc h k some was;
  has_tail = λ is. absurd cc;
  next =
      let P : List Entry → Type 0 = λ mine. 1 ≡ suc (logged_inc (log_by (past_of sc (suc k) mine).moves ++ log_by (kept_moves (suc k) false (past_of sc (suc k) mine).tail))) in
      subst P (sym (was.silent (suc k) (omega arith))) refl;
}) refl refl

pub miss_one : (sc : Scenario) (h : List Entry) (k : ℕ) → suc k ≤ length sc.weights → Rising sc h k →
    Rising sc (h ++ record { owner = suc k; act = Miss } ∷ []) (suc k)
miss_one sc h k some was = next_rise sc h k Miss was (rising sc h k some was) refl refl

-- all had theirs: the first line may come
pub rises_through : (sc : Scenario) (h : List Entry) → Rising sc h (length sc.weights) → is_through sc h ≡ true
rises_through sc h was = rw (was.before_lines) (all_to (has_rising h) (length sc.weights) was.rose)
