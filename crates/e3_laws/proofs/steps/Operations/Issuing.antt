-- What a coordinator issued, and which of it was answered.
use Rattle.std.proofs.Common.{◌≡◌, ◌==◌, ◌&&◌, ◌||◌, ◌++◌, ◌∷◌, [], ℕ, zero, suc, ◌≤◌, Bool, true, false, List, Option, Some, None, refl, sym, subst, ap, ◌∙◌, arith, append-nil, length, eqb-true}
use Rattle.std.specs.Prelude.{slice_get}
use Rattle.std.specs.List.{list_any, AllByRecursion as Each}
use Rattle.std.proofs.lemmas.Bool.{and_parts}
use Rattle.std.proofs.lemmas.Grind.{flat_map-append}
use Rattle.std.proofs.lemmas.List.Folds.{list_any-append}
use Rattle.e3_types.specs.declared.entries.Refusal.{Refusal}
use Rattle.e3_types.specs.declared.entries.Told.{Told}
use Rattle.e3_types.specs.declared.entries.Told.TheVariants as told
use Rattle.e3_types.specs.declared.entries.Refusal.TheVariants as refusal
use Rattle.e3_types.specs.declared.transactions.Dir.{Dir}
use Rattle.e3_types.specs.declared.transactions.Op.{Op}
use Rattle.e3_types.specs.declared.transactions.Txn.{Txn}
use Rattle.e3_types.specs.Same.{same_txn}
use Rattle.e3_world.specs.declared.lives.At.{At}
use Rattle.e3_world.specs.declared.lives.Moment.{Moment}
use Rattle.e3_world.specs.Logs.{decision}
use Rattle.e3_world.specs.Making.{nothing, log_now, is_present}
use Rattle.e3_world.specs.Operations.{issued, issued_in, nth_op, op_told, tells_op, unanswered, kept_reason}
use Rattle.e3_world.specs.Steps.{refuse}
use Rattle.e3_laws.proofs.steps.Operations.Tracing.{Tells, Answers}
use Rattle.e3_laws.proofs.steps.Tests.{or_false, same_is}

pub told_push : (t : Txn) (n : ℕ) (steps : List Moment) (m : Moment) → op_told t n (steps ++ m ∷ []) ≡ (op_told t n steps || list_any (tells_op t n) m.told)
told_push t n steps m = list_any-append (λ x. list_any (tells_op t n) x.told) steps (m ∷ []) ∙ ap (λ b. op_told t n steps || b) (or_false (list_any (tells_op t n) m.told))

pub issued_push : (t : Txn) (steps : List Moment) (m : Moment) → issued t (steps ++ m ∷ []) ≡ issued t steps ++ issued_in t m.input m.told
issued_push t steps m = flat_map-append (λ x. issued_in t x.input x.told) steps (m ∷ []) ∙ ap (λ l. issued t steps ++ l) (append-nil (issued_in t m.input m.told))

pub get_more : {X : Type 0} (xs ys : List X) (n : ℕ) (x : X) → slice_get xs n ≡ Some x → slice_get (xs ++ ys) n ≡ Some x
get_more [] ys n x is = absurd cc
get_more (y ∷ xs) ys zero x is = is
get_more (y ∷ xs) ys (suc n) x is = get_more xs ys n x is

pub get_low : {X : Type 0} (xs : List X) (n : ℕ) (x : X) → slice_get xs n ≡ Some x → suc n ≤ length xs
get_low [] n x is = absurd cc
get_low (y ∷ xs) zero x is = omega arith
get_low (y ∷ xs) (suc n) x is = let low : _ = get_low xs n x is in omega (arith, low)

pub get_end : {X : Type 0} (xs : List X) (x : X) → slice_get (xs ++ x ∷ []) (length xs) ≡ Some x
get_end [] x = refl
get_end (y ∷ xs) x = get_end xs x

pub nth_more : (n : ℕ) (xs ys : List Op) (op : Op) → nth_op n xs ≡ Some op → nth_op n (xs ++ ys) ≡ Some op
nth_more zero xs ys op is = is
nth_more (suc n) xs ys op is = get_more xs ys n op is

pub nth_low : (n : ℕ) (xs : List Op) (op : Op) → nth_op n xs ≡ Some op → n ≤ length xs
nth_low zero xs op is = absurd cc
nth_low (suc n) xs op is = get_low xs n op is

pub nth_next : (xs : List Op) (op : Op) → nth_op (suc (length xs)) (xs ++ op ∷ []) ≡ Some op
nth_next xs op = get_end xs op

-- an operation that is not refused: the transaction is of the present incarnation, and the last one before it was answered
pub record Allows (a : At) (t : Txn) : Type 0 where
  pub present : t.inc ≡ a.life.inc
  pub answered : (m : ℕ) → 1 ≤ m → m ≡ length (issued t a.life.steps) → op_told t m a.life.steps ≡ true

pub allows : (a : At) (t : Txn) → refuse a t false nothing ≡ None → Allows a t
allows a t allowed = by (decision t (log_now a nothing)) refl
  where
    reasons : (dir : Dir) (l : List Refusal) → decision t (log_now a nothing) ≡ Some dir → kept_reason t a.life.steps ≡ l → Allows a t
    reasons dir [] is why = absurd (let now : refuse a t false nothing ≡ Some (refusal.Over dir) = rw (is, why) refl in let both : None ≡ Some (refusal.Over dir) = sym allowed ∙ now in cc)
    reasons dir (r ∷ more) is why = absurd (let now : refuse a t false nothing ≡ Some r = rw (is, why) refl in let both : None ≡ Some r = sym allowed ∙ now in cc)

    last : (m : ℕ) → 1 ≤ m → (n : ℕ) → length (issued t a.life.steps) ≡ n → m ≡ n → decision t (log_now a nothing) ≡ None →
        unanswered t (log_now a nothing) a.life.steps ≡ None → op_told t m a.life.steps ≡ true
    last m low zero long same undecided none = absurd (omega (arith, low, same))
    last m low (suc n) long same undecided none =
        let P : ℕ → Type 0 = λ k. op_told t k a.life.steps ≡ true in
        subst P (sym same) (told (op_told t (suc n) a.life.steps) refl)
      where
        told : (b : Bool) → op_told t (suc n) a.life.steps ≡ b → op_told t (suc n) a.life.steps ≡ true
        told true is = is
        told false is = absurd (
            let now : unanswered t (log_now a nothing) a.life.steps ≡ Some (suc n) = rw (long, undecided, is) refl in
            let both : None ≡ Some (suc n) = sym none ∙ now in cc)

    busy : (o : Option ℕ) → decision t (log_now a nothing) ≡ None → is_present a t ≡ true → unanswered t (log_now a nothing) a.life.steps ≡ o → Allows a t
    busy (Some n) undecided here is = absurd (let now : refuse a t false nothing ≡ Some (refusal.Busy n) = rw (undecided, here, is) refl in let both : None ≡ Some (refusal.Busy n) = sym allowed ∙ now in cc)
    busy None undecided here is = record {
      present = eqb-true t.inc a.life.inc here;
      answered = λ m low same. last m low (length (issued t a.life.steps)) refl same undecided is;
    }

    here : (b : Bool) → decision t (log_now a nothing) ≡ None → is_present a t ≡ b → Allows a t
    here true undecided is = busy (unanswered t (log_now a nothing) a.life.steps) undecided is refl
    here false undecided is = absurd (let now : refuse a t false nothing ≡ Some refusal.NoTxn = rw (undecided, is) refl in let both : None ≡ Some refusal.NoTxn = sym allowed ∙ now in cc)

    by : (d : Option Dir) → decision t (log_now a nothing) ≡ d → Allows a t
    by None is = here (is_present a t) is refl
    by (Some dir) is = reasons dir (kept_reason t a.life.steps) is refl

-- an answer that was told is one that the step traces
pub told_answers : (a : At) (t : Txn) (n : ℕ) (l : List Told) → Each (Tells a) l → list_any (tells_op t n) l ≡ true → Answers a t n
told_answers a t n [] all any = absurd cc
told_answers a t n (told.Op u k answer ∷ l) all any = by (n == k && same_txn t u) refl any (λ more. told_answers a t n l all.1 more)
  where
    by : (b : Bool) → (n == k && same_txn t u) ≡ b → (b || list_any (tells_op t n) l) ≡ true → (list_any (tells_op t n) l ≡ true → Answers a t n) → Answers a t n
    by true is some more =
        let parts : _ = and_parts (n == k) (same_txn t u) is in
        let P : ℕ → Type 0 = λ x. Answers a u x in
        let Q : Txn → Type 0 = λ x. Answers a x n in
        subst Q (sym (same_is t u parts.1)) (subst P (sym (eqb-true n k parts.0)) all.0)
    by false is some more = more some
told_answers a t n (e ∷ l) all any = told_answers a t n l all.1 any
