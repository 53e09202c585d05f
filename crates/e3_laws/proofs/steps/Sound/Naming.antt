-- No two transactions that are begun in a legal history of a given scenario have one name.
use Rattle.std.proofs.Common.{◌≡◌, ◌+◌, ◌++◌, ◌∷◌, [], ℕ, zero, suc, ◌≤◌, ◌<◌, Bool, true, false, List, Option, Some, None, refl, sym, subst, ap, ◌∙◌, inl, inr, count_by, arith, append-nil, append_assoc}
use Rattle.std.specs.List.{flat_map, AllByRecursion as Each}
use Rattle.std.proofs.lemmas.Grind.{flat_map-append}
use Rattle.std.proofs.lemmas.List.Sums.{sum_by-append}
use Rattle.e3_types.specs.declared.entries.Act.{Act}
use Rattle.e3_types.specs.declared.entries.Act.TheVariants.{Step, Fall, Rise, RiseFall, Miss, Cut, Drop, Parts, Line}
use Rattle.e3_types.specs.declared.entries.Entry.{Entry}
use Rattle.e3_types.specs.declared.entries.Input.{Input}
use Rattle.e3_types.specs.declared.entries.Input.TheVariants as input
use Rattle.e3_types.specs.declared.entries.Told.{Told}
use Rattle.e3_types.specs.declared.entries.Told.TheVariants as told
use Rattle.e3_types.specs.declared.scenarios.Scenario.{Scenario}
use Rattle.e3_types.specs.declared.transactions.Txn.{Txn}
use Rattle.e3_world.specs.Given.{IsGiven}
use Rattle.e3_world.specs.Items.{is_up_at, began_in}
use Rattle.e3_world.specs.Legal.{Guard, IsLegal, LegalAfter, IsDue, made_by, entry_of}
use Rattle.e3_world.specs.Logs.{logged_inc}
use Rattle.e3_world.specs.Moves.{Tail, own_entries, past_of, moves_of_act, kept_moves, log_of, open_tail, unnumbered_input, trail_of}
use Rattle.e3_world.specs.Sound.{tells}
use Rattle.e3_world.specs.Steps.{is_begin}
use Rattle.e3_laws.specs.steps.Trails.{begun_by, DifferInName, AllDiffer}
use Rattle.e3_laws.proofs.steps.Each.{each-append, each-weaker}
use Rattle.e3_laws.proofs.steps.Sound.Clocks.{AdvanceAt, due_says, step_advance, guard_advance}
use Rattle.e3_laws.proofs.steps.Operations.Freshness.{life_in}
use Rattle.e3_laws.proofs.steps.Operations.Lasting.{Lasts, first_lasts, guard_lasts}
use Rattle.e3_laws.proofs.steps.Sound.Sounding.{trail_push}
use Rattle.e3_laws.proofs.steps.Operations.Speaking.{moment_of, place_in, step_facts}
use Rattle.e3_laws.proofs.steps.Operations.Stepping.{Stepping}
use Rattle.e3_laws.proofs.steps.Operations.Tracing.{Tells, Says}

-- what holds of a transaction that was begun
pub record WasBegun (sc : Scenario) (h : List Entry) (t : Txn) : Type 0 where
  pub inc : t.inc ≤ logged_inc (log_of sc h t.site)
  pub seq : is_up_at h t.site ≡ true → t.inc ≡ (life_in sc h t.site).inc → t.seq ≤ count_by is_begin (life_in sc h t.site).steps

-- the transactions that were begun differ
pub record Named (sc : Scenario) (h : List Entry) (ts : List Txn) : Type 0 where
  pub begun : Each (WasBegun sc h) ts
  pub differ : AllDiffer ts

-- one more that differs from all
differ_push : (ts : List Txn) (t : Txn) → AllDiffer ts → Each (λ u. DifferInName u t) ts → AllDiffer (ts ++ t ∷ [])
differ_push [] t all this = (tt, tt)
differ_push (u ∷ ts) t all this = (each-append (DifferInName u) ts (t ∷ []) all.0 (this.0, tt), differ_push ts t all.1 this.1)

-- it stays so behind one more entry
begun_on : (sc : Scenario) (h : List Entry) (e : Entry) (t : Txn) → ((s : ℕ) → AdvanceAt sc h e s) → WasBegun sc h t → WasBegun sc (h ++ e ∷ []) t
begun_on sc h e t adv was = record {
  inc = (let low : t.inc ≤ logged_inc (log_of sc h t.site) = was.inc in
      let grows : logged_inc (log_of sc h t.site) ≤ logged_inc (log_of sc (h ++ e ∷ []) t.site) = (adv t.site).advances.logs in omega (arith, low, grows));
  seq = λ up same. elim ((adv t.site).advances.lives up) [
    | inl on ↦ (let few : t.seq ≤ count_by is_begin (life_in sc h t.site).steps = was.seq on.0 (same ∙ on.1) in
        let count : _ = ap (count_by is_begin) on.2 ∙ sum_by-append _ (life_in sc h t.site).steps _ in
        omega (arith, few, count))
    | inr new ↦ (let low : t.inc ≤ logged_inc (log_of sc h t.site) = was.inc in
        let above : logged_inc (log_of sc h t.site) < (life_in sc (h ++ e ∷ []) t.site).inc = new.0 in absurd (omega (arith, low, above, same)))
  ];
}

begun_push : (sc : Scenario) (h : List Entry) (e : Entry) →
    begun_by (trail_of sc (h ++ e ∷ [])) ≡ begun_by (trail_of sc h) ++ begun_by (moves_of_act sc e.owner (past_of sc e.owner (own_entries e.owner h)) e.act)
begun_push sc h e = ap begun_by (trail_push sc h e)
    ∙ flat_map-append (λ m. flat_map began_in (tells m)) (trail_of sc h) (moves_of_act sc e.owner (past_of sc e.owner (own_entries e.owner h)) e.act)

-- an entry that begins nothing
named_same : (sc : Scenario) (h : List Entry) (e : Entry) → ((s : ℕ) → AdvanceAt sc h e s) →
    begun_by (moves_of_act sc e.owner (past_of sc e.owner (own_entries e.owner h)) e.act) ≡ [] → Named sc h (begun_by (trail_of sc h)) → Named sc (h ++ e ∷ []) (begun_by (trail_of sc (h ++ e ∷ [])))
named_same sc h e adv none was =
    let P : List Txn → Type 0 = Named sc (h ++ e ∷ []) in
    subst P (sym (begun_push sc h e ∙ ap (λ l. begun_by (trail_of sc h) ++ l) none ∙ append-nil (begun_by (trail_of sc h)))) (record {
      begun = each-weaker (WasBegun sc h) (WasBegun sc (h ++ e ∷ [])) (λ t. begun_on sc h e t adv) (begun_by (trail_of sc h)) was.begun;
      differ = was.differ;
    })

-- the transaction that a step begins
abbrev begins_now : Scenario → List Entry → ℕ → List ℕ → Txn
begins_now sc h site sites = record { site = site; inc = (life_in sc h site).inc; seq = suc (count_by is_begin (life_in sc h site).steps); sites = sites }

named_more : (sc : Scenario) (h : List Entry) (site : ℕ) (sites : List ℕ) → IsGiven sc → Lasts sc h → is_up_at h site ≡ true → IsDue sc h site (input.Begin sites) →
    Named sc h (begun_by (trail_of sc h)) → Named sc (h ++ entry_of sc h site (input.Begin sites) ∷ []) (begun_by (trail_of sc (h ++ entry_of sc h site (input.Begin sites) ∷ [])))
named_more sc h site sites given lasts up due was =
    let P : List Txn → Type 0 = Named sc (h ++ entry_of sc h site (input.Begin sites) ∷ []) in
    subst P (sym (begun_push sc h (entry_of sc h site (input.Begin sites)))) (record {
      begun = each-append (WasBegun sc (h ++ entry_of sc h site (input.Begin sites) ∷ [])) (begun_by (trail_of sc h)) (begins_now sc h site sites ∷ [])
          (each-weaker (WasBegun sc h) (WasBegun sc (h ++ entry_of sc h site (input.Begin sites) ∷ []))
          (λ t. begun_on sc h (entry_of sc h site (input.Begin sites)) t adv) (begun_by (trail_of sc h)) was.begun) (new, tt);
      differ = differ_push (begun_by (trail_of sc h)) (begins_now sc h site sites) was.differ
          (each-weaker (WasBegun sc h) (λ t. DifferInName t (begins_now sc h site sites)) (λ t begun. apart t begun) (begun_by (trail_of sc h)) was.begun);
    })
  where
    adv : (s : ℕ) → AdvanceAt sc h (entry_of sc h site (input.Begin sites)) s
    adv = step_advance sc h site (input.Begin sites) given up due lasts.holds lasts.fresh.clocks

    facts : Stepping sc h (h ++ entry_of sc h site (input.Begin sites) ∷ []) site (input.Begin sites) (moment_of sc h site (input.Begin sites))
    facts = step_facts sc h site (input.Begin sites) given lasts.holds lasts.fresh up due

    clock : (life_in sc h site).inc ≡ logged_inc (log_of sc h site)
    clock = (lasts.fresh.clocks site).same up

    new : WasBegun sc (h ++ entry_of sc h site (input.Begin sites) ∷ []) (begins_now sc h site sites)
    new = record {
      inc = (let now : (life_in sc h site).inc ≡ logged_inc (log_of sc h site) = clock in
          let grows : logged_inc (log_of sc h site) ≤ logged_inc (log_of sc (h ++ entry_of sc h site (input.Begin sites) ∷ []) site) = (adv site).advances.logs in omega (arith, now, grows));
      seq = λ is same. (let count : count_by is_begin (life_in sc (h ++ entry_of sc h site (input.Begin sites) ∷ []) site).steps
          ≡ count_by is_begin (life_in sc h site).steps + count_by is_begin (moment_of sc h site (input.Begin sites) ∷ []) =
          ap (count_by is_begin) facts.steps ∙ sum_by-append _ (life_in sc h site).steps (moment_of sc h site (input.Begin sites) ∷ []) in
          let one : count_by is_begin (moment_of sc h site (input.Begin sites) ∷ []) ≡ 1 = refl in
          omega (arith, count, one));
    }

    apart : (t : Txn) → WasBegun sc h t → DifferInName t (begins_now sc h site sites)
    apart t begun home inc seq =
        let P : ℕ → Type 0 = λ s. is_up_at h s ≡ true → t.inc ≡ (life_in sc h s).inc → t.seq ≤ count_by is_begin (life_in sc h s).steps in
        let few : t.seq ≤ count_by is_begin (life_in sc h site).steps = subst P home begun.seq up inc in
        omega (arith, few, seq)

-- a step that takes no begin tells none
none_began : (sc : Scenario) (h : List Entry) (site : ℕ) (i : Input) (l : List Told) → ((sites : List ℕ) → unnumbered_input i ≡ input.Begin sites → ⊥) →
    Each (Tells (place_in sc h site i)) l → flat_map began_in l ≡ []
none_began sc h site i [] not all = refl
none_began sc h site i (told.Began t ∷ l) not all = absurd (not all.0.0 all.0.1)
none_began sc h site i (e ∷ l) not all = none_began sc h site i l not all.1

said_none : (sc : Scenario) (h : List Entry) (site : ℕ) (i : Input) → ((sites : List ℕ) → unnumbered_input i ≡ input.Begin sites → ⊥) → Says (place_in sc h site i) (made_by sc h site i) →
    flat_map began_in (made_by sc h site i).told ++ [] ≡ []
said_none sc h site i not (inl refuses) = ap (λ l. flat_map began_in l ++ []) refuses.told.2
said_none sc h site i not (inr traces) = ap (λ l. l ++ []) (none_began sc h site i (made_by sc h site i).told not traces.told)

named_step : (sc : Scenario) (h : List Entry) (site : ℕ) (i : Input) → IsGiven sc → Lasts sc h → is_up_at h site ≡ true → IsDue sc h site i →
    ((sites : List ℕ) → unnumbered_input i ≡ input.Begin sites → ⊥) →
    Named sc h (begun_by (trail_of sc h)) → Named sc (h ++ entry_of sc h site i ∷ []) (begun_by (trail_of sc (h ++ entry_of sc h site i ∷ [])))
named_step sc h site i given lasts up due not was = named_same sc h (entry_of sc h site i)
    (step_advance sc h site i given up due lasts.holds lasts.fresh.clocks) (said_none sc h site i not (due_says sc h site i given due lasts.holds)) was

step_named : (sc : Scenario) (h : List Entry) (site : ℕ) (i : Input) → IsGiven sc → Lasts sc h → is_up_at h site ≡ true → IsDue sc h site i →
    Named sc h (begun_by (trail_of sc h)) → Named sc (h ++ entry_of sc h site i ∷ []) (begun_by (trail_of sc (h ++ entry_of sc h site i ∷ [])))
step_named sc h site (input.Begin sites) given lasts up due was = named_more sc h site sites given lasts up due was
step_named sc h site i given lasts up due was = named_step sc h site i given lasts up due (λ sites is. absurd cc) was

kept_none : (site : ℕ) (kept : Bool) (o : Option Tail) → begun_by (kept_moves site kept o) ≡ []
kept_none site true (Some tail) = refl
kept_none site true None = refl
kept_none site false o = refl

guard_named : (sc : Scenario) (h : List Entry) (owner : ℕ) (act : Act) → IsGiven sc → Lasts sc h → Guard sc h (record { owner = owner; act = act }) →
    ((s : ℕ) → AdvanceAt sc h (record { owner = owner; act = act }) s) → Named sc h (begun_by (trail_of sc h)) →
    Named sc (h ++ record { owner = owner; act = act } ∷ []) (begun_by (trail_of sc (h ++ record { owner = owner; act = act } ∷ [])))
guard_named sc h zero (Line number) given lasts guard adv was = named_same sc h (record { owner = 0; act = Line number }) adv refl was
guard_named sc h zero (Parts parts) given lasts guard adv was = named_same sc h (record { owner = 0; act = Parts parts }) adv refl was
guard_named sc h zero (Drop number) given lasts guard adv was = named_same sc h (record { owner = 0; act = Drop number }) adv refl was
guard_named sc h zero act given lasts guard adv was = absurd guard
guard_named sc h (suc s) (Step i records outs events) given lasts guard adv was =
    let P : Entry → Type 0 = λ e. Named sc (h ++ e ∷ []) (begun_by (trail_of sc (h ++ e ∷ []))) in
    subst P (sym guard.made) (step_named sc h (suc s) i given lasts guard.up guard.due was)
guard_named sc h (suc s) (Fall inputs records why) given lasts guard adv was = named_same sc h (record { owner = suc s; act = Fall inputs records why }) adv refl was
guard_named sc h (suc s) Cut given lasts guard adv was = named_same sc h (record { owner = suc s; act = Cut }) adv refl was
guard_named sc h (suc s) (Rise kept inc) given lasts guard adv was = named_same sc h (record { owner = suc s; act = Rise kept inc }) adv
    (flat_map-append (λ m. flat_map began_in (tells m)) (kept_moves (suc s) kept (open_tail sc h (suc s))) _
    ∙ ap (λ l. l ++ []) (kept_none (suc s) kept (open_tail sc h (suc s)))) was
guard_named sc h (suc s) (RiseFall kept inc why) given lasts guard adv was = named_same sc h (record { owner = suc s; act = RiseFall kept inc why }) adv
    (kept_none (suc s) kept (open_tail sc h (suc s))) was
guard_named sc h (suc s) Miss given lasts guard adv was = named_same sc h (record { owner = suc s; act = Miss }) adv refl was
guard_named sc h (suc s) act given lasts guard adv was = absurd guard

after_named : (sc : Scenario) (before rest : List Entry) → IsGiven sc → Lasts sc before → Named sc before (begun_by (trail_of sc before)) → LegalAfter sc before rest →
    Named sc (before ++ rest) (begun_by (trail_of sc (before ++ rest)))
after_named sc before [] given lasts was legal = let P : List Entry → Type 0 = λ l. Named sc l (begun_by (trail_of sc l)) in subst P (sym (append-nil before)) was
after_named sc before (e ∷ rest) given lasts was legal = let P : List Entry → Type 0 = λ l. Named sc l (begun_by (trail_of sc l)) in
    subst P (append_assoc before (e ∷ []) rest) (after_named sc (before ++ e ∷ []) rest given (guard_lasts sc before e given lasts legal.0)
    (guard_named sc before e.owner e.act given lasts legal.0 (guard_advance sc before e.owner e.act given lasts.holds lasts.fresh.clocks legal.0) was) legal.1)

pub legal_named : (sc : Scenario) (h : List Entry) → IsGiven sc → IsLegal sc h → Named sc h (begun_by (trail_of sc h))
legal_named sc h given legal = after_named sc [] h given (first_lasts sc) (record { begun = tt; differ = tt }) legal
