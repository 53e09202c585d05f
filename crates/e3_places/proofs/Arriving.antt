-- The operations of undecided transactions behind one more step.
use Rattle.std.specs.Prelude.{◌≡◌, ◌&&◌, ◌||◌, ◌++◌, ◌∷◌, [], if◌then◌else◌, ℕ, Bool, true, false, not, List, fold, Option, Some, None, is_none}
use Rattle.std.specs.List.{flat_map}
use Rattle.std.proofs.Common.{refl, ap, sym, ◌∙◌, arith}
use Rattle.std.proofs.lemmas.Grind.{common_steps}
use Rattle.std.proofs.lemmas.List.{append-nil}
use Rattle.std.proofs.lemmas.List.Concat.{flat_map-append}
use Rattle.std.proofs.lemmas.List.Sums.{fold-append}
use Rattle.e3_types.specs.declared.records.Record.{Record}
use Rattle.e3_types.specs.declared.records.Record.TheVariants as log
use Rattle.e3_types.specs.declared.transactions.Dir.{Dir}
use Rattle.e3_types.specs.declared.transactions.Dir.TheVariants.{Abort, Commit}
use Rattle.e3_types.specs.declared.transactions.State.TheVariants.{Q}
use Rattle.e3_types.specs.declared.transactions.Txn.{Txn}
use Rattle.e3_types.specs.Same.{same_txn, same_state}
use Rattle.e3_world.specs.declared.lives.Asked.{Asked}
use Rattle.e3_world.specs.declared.lives.Life.{Life}
use Rattle.e3_world.specs.declared.lives.SiteStep.{SiteStep}
use Rattle.e3_world.specs.Elections.{is_decision}
use Rattle.e3_world.specs.Lives.{life_by}
use Rattle.e3_world.specs.Logs.{is_undecided, decision, decision_by, state_of}
use Rattle.e3_world.specs.Operations.{taken_up, arrivals, and_arrived, is_fresh, is_answered}
use Rattle.e3_world.proofs.Turns.{true_not_false}
use Rattle.e3_readings.proofs.Arriving.{arrivals_push}
use Rattle.e3_places.specs.declared.places.Standing.{Standing}
use Rattle.e3_places.specs.Standing.{stand, standing_one, standing_of, decided_in, is_heard, again, moment_of, fresh_of, newly, standing_by}
use Rattle.e3_places.proofs.Hearing.{answered_more}

-- a decision among more records
decided_more : (t : Txn) (d : Option Dir) (rs : List Record) → is_none (fold (decision_by t) d rs) ≡ (is_none d && not (decided_in rs t))
decided_more t None [] = refl
decided_more t (Some x) [] = refl
decided_more t d (r ∷ rs) = decided_more t (decision_by t d r) rs ∙ one r
  where
    one : (r : Record) → (is_none (decision_by t d r) && not (decided_in rs t)) ≡ (is_none d && not (is_decision t r || decided_in rs t))
    one (log.Decision u dir) = by (same_txn t u) (decided_in rs t)
      where
        by : (b c : Bool) → (is_none (if b then Some dir else d) && not c) ≡ (is_none d && not (b || c))
        by true c = grind (arith, common_steps)
        by false c = refl
    one (log.Birth format site weights rows) = refl
    one (log.Inc inc) = refl
    one (log.Vote u ops) = refl
    one (log.Join u n) = refl
    one (log.Attempt u n dir) = refl

pub undecided_more : (t : Txn) (log rs : List Record) → is_undecided t (log ++ rs) ≡ (is_undecided t log && not (decided_in rs t))
undecided_more t log rs = ap (λ (d : Option Dir). is_none d) (fold-append (decision_by t) None log rs) ∙ decided_more t (decision t log) rs

pub undecided_is : (t : Txn) (log : List Record) → is_undecided t log ≡ not (decided_in log t)
undecided_is t log = decided_more t None log

pub flat_if : {X Y : Type 0} (f : X → List Y) (b : Bool) (x : X) → flat_map f (if b then x ∷ [] else []) ≡ (if b then f x else [])
flat_if f true x = append-nil (f x)
flat_if f false x = refl

-- an operation behind one more step
again_if : (u d w x n : Bool) (a : Asked) → (if n && (u && not d) then stand a (w || x) ∷ [] else []) ≡ (if n && u then (if d then [] else stand a (w || x) ∷ []) else [])
again_if true true w x true l = refl
again_if true true w x false l = refl
again_if true false w x true l = refl
again_if true false w x false l = refl
again_if false true w x true l = refl
again_if false true w x false l = refl
again_if false false w x true l = refl
again_if false false w x false l = refl

again_one : (test : Asked → Bool) (life : Life) (s : SiteStep) (a : Asked)
    → standing_one test (life_by life s).log (life_by life s).steps a ≡ flat_map (again s.records s.told s.outs) (standing_one test life.log life.steps a)
again_one test life s a =
    let here : Standing = stand a (is_answered life.steps a) in
    ap (λ (b : Bool). if test a && b then stand a (is_answered (life_by life s).steps a) ∷ [] else []) (undecided_more a.txn life.log s.records)
    ∙ ap (λ (w : Bool). if test a && (is_undecided a.txn life.log && not (decided_in s.records a.txn)) then stand a w ∷ [] else [])
    (answered_more life.steps (moment_of life s) a)
    ∙ again_if (is_undecided a.txn life.log) (decided_in s.records a.txn) (is_answered life.steps a) (is_heard s.told s.outs a) (test a) a
    ∙ sym (flat_if (again s.records s.told s.outs) (test a && is_undecided a.txn life.log) here)

again_all : (test : Asked → Bool) (life : Life) (s : SiteStep) (xs : List Asked)
    → flat_map (standing_one test (life_by life s).log (life_by life s).steps) xs ≡ flat_map (again s.records s.told s.outs) (flat_map (standing_one test life.log life.steps) xs)
again_all test life s [] = refl
again_all test life s (x ∷ xs) =
    ap (λ (l : List Standing). l ++ flat_map (standing_one test (life_by life s).log (life_by life s).steps) xs) (again_one test life s x)
    ∙ ap (λ (l : List Standing). flat_map (again s.records s.told s.outs) (standing_one test life.log life.steps x) ++ l) (again_all test life s xs)
    ∙ sym (flat_map-append (again s.records s.told s.outs) (standing_one test life.log life.steps x) (flat_map (standing_one test life.log life.steps) xs))

in_q : (b c : Bool) → (b && c) ≡ true → b ≡ true
in_q true c e = refl
in_q false c e = e

open_in_q : (t : Txn) (log : List Record) → same_state (state_of t log) Q ≡ true → is_undecided t log ≡ true
open_in_q t log e = by (decision t log) refl
  where
    by : (d : Option Dir) → decision t log ≡ d → is_undecided t log ≡ true
    by None is = rw is refl
    by (Some Commit) is = absurd (true_not_false (sym e ∙ rw is refl))
    by (Some Abort) is = absurd (true_not_false (sym e ∙ rw is refl))

-- what is taken up and stands now
abbrev now_of : Life → List Asked → SiteStep → Option Asked → Option Standing
now_of life came s None = None
now_of life came s (Some a) = if is_fresh came (moment_of life s) a then Some (stand a (is_answered life.steps a)) else None

fresh_now : (site : ℕ) (life : Life) (s : SiteStep) → now_of life (arrivals site life.steps) s (taken_up site life.steps (moment_of life s)) ≡ fresh_of site life s
fresh_now site life s = by (taken_up site life.steps (moment_of life s)) refl
  where
    by : (o : Option Asked) → taken_up site life.steps (moment_of life s) ≡ o → now_of life (arrivals site life.steps) s (taken_up site life.steps (moment_of life s)) ≡ fresh_of site life s
    by None is = rw is refl
    by (Some a) is = rw is refl

standing_with : (test : Asked → Bool) (site : ℕ) (life : Life) (s : SiteStep) (o : Option Asked) → taken_up site life.steps (moment_of life s) ≡ o
    → standing_of test site (life_by life s) ≡ standing_by test (standing_of test site life) (now_of life (arrivals site life.steps) s o) s.records s.told s.outs
standing_with test site life s o is =
    ap (flat_map (standing_one test (life_by life s).log (life_by life s).steps)) (arrivals_push site life.steps (moment_of life s) ∙ ap (and_arrived (arrivals site life.steps) (moment_of life s)) is)
    ∙ by o
  where
    came : List Asked
    came = arrivals site life.steps

    was : List Standing
    was = standing_of test site life

    step : Standing → List Standing
    step = again s.records s.told s.outs

    by : (o : Option Asked) → flat_map (standing_one test (life_by life s).log (life_by life s).steps) (and_arrived came (moment_of life s) o)
        ≡ standing_by test was (now_of life came s o) s.records s.told s.outs
    by None = again_all test life s came ∙ ap (flat_map step) (sym (append-nil was))
    by (Some a) = pick (is_fresh came (moment_of life s) a) refl
      where
        now : Standing
        now = stand a (is_answered life.steps a)

        new : is_undecided a.txn life.log ≡ true → standing_one test life.log life.steps a ≡ newly test (Some now)
        new still = ap (λ (b : Bool). if test a && b then now ∷ [] else []) still ∙ same (test a)
          where
            same : (b : Bool) → (if b && true then now ∷ [] else []) ≡ (if b then now ∷ [] else [])
            same true = refl
            same false = refl

        pick : (b : Bool) → is_fresh came (moment_of life s) a ≡ b
            → flat_map (standing_one test (life_by life s).log (life_by life s).steps) (if b then came ++ a ∷ [] else came)
            ≡ standing_by test was (if b then Some now else None) s.records s.told s.outs
        pick true e =
            again_all test life s (came ++ a ∷ [])
            ∙ ap (flat_map step) (flat_map-append (standing_one test life.log life.steps) came (a ∷ [])
            ∙ ap (λ (l : List Standing). was ++ l) (append-nil (standing_one test life.log life.steps a) ∙ new (open_in_q a.txn life.log (in_q (same_state (state_of a.txn life.log) Q) _ e))))
        pick false e = again_all test life s came ∙ ap (flat_map step) (sym (append-nil was))

-- The law of the operations: behind one more step of the life they are those behind that step.
pub standing_step : (test : Asked → Bool) (site : ℕ) (life : Life) (s : SiteStep)
    → standing_of test site (life_by life s) ≡ standing_by test (standing_of test site life) (fresh_of site life s) s.records s.told s.outs
standing_step test site life s =
    standing_with test site life s (taken_up site life.steps (moment_of life s)) refl
    ∙ ap (λ (o : Option Standing). standing_by test (standing_of test site life) o s.records s.told s.outs) (fresh_now site life s)
