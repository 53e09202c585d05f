-- The unanswered operation and what is expected of sites, by what a card keeps of them.
use Rattle.std.specs.Prelude.{◌≡◌, ◌==◌, ◌&&◌, ◌∷◌, [], if◌then◌else◌, ℕ, zero, suc, Bool, true, false, List, length, fold}
use Rattle.std.specs.List.{list_any, flat_map}
use Rattle.std.proofs.Common.{refl, ap, sym, ◌∙◌, arith}
use Rattle.std.proofs.lemmas.Grind.{common_steps}
use Rattle.std.proofs.lemmas.List.Folds.{list_any-append}
use Rattle.std.proofs.lemmas.List.Sums.{fold-append}
use Rattle.e3_types.specs.declared.entries.Input.{Input}
use Rattle.e3_types.specs.declared.entries.Told.{Told}
use Rattle.e3_types.specs.declared.messages.Message.{Message}
use Rattle.e3_types.specs.declared.messages.Packet.{Packet}
use Rattle.e3_types.specs.declared.records.Record.{Record}
use Rattle.e3_types.specs.declared.transactions.Txn.{Txn}
use Rattle.e3_types.specs.declared.entries.Input.TheVariants as input
use Rattle.e3_types.specs.declared.entries.Told.TheVariants as told
use Rattle.e3_types.specs.declared.messages.Message.TheVariants as msg
use Rattle.e3_types.specs.Same.{same_txn}
use Rattle.e3_world.specs.declared.lives.Expected.{Expected}
use Rattle.e3_world.specs.declared.lives.Moment.{Moment}
use Rattle.e3_world.specs.declared.lives.Performed.{Performed}
use Rattle.e3_world.specs.Logs.{is_undecided}
use Rattle.e3_world.specs.Operations.{issued, tells_op, op_told, unanswered, expected_by, expected, done}
use Rattle.e3_cards.specs.Issued.{number_told, numbers_told, counted_in, counted_of, expect_by}
use Rattle.e3_readings.specs.Expecting.{own_expected}
use Rattle.e3_cards.specs.Readings.{unanswered_of}

-- part by part
any_flat : {X Y : Type 0} (p : Y → Bool) (q : X → Bool) (f : X → List Y) → ((x : X) → list_any p (f x) ≡ q x) → (xs : List X) → list_any p (flat_map f xs) ≡ list_any q xs
any_flat p q f h [] = refl
any_flat p q f h (x ∷ xs) =
    let ih = any_flat p q f h xs in
    let one = h x in
    list_any-append p (f x) (flat_map f xs) ∙ grind (arith, common_steps, ih, one)

number_is : (t : Txn) (n : ℕ) (e : Told) → list_any (λ m. n == m) (number_told t e) ≡ tells_op t n e
number_is t n (told.Op u m answer) = by (same_txn t u) (n == m) refl refl
  where
    by : (b c : Bool) → same_txn t u ≡ b → (n == m) ≡ c → list_any (λ k. n == k) (if same_txn t u then m ∷ [] else []) ≡ (n == m && same_txn t u)
    by true true e f = rw (e, f) refl
    by true false e f = rw (e, f) refl
    by false true e f = rw (e, f) refl
    by false false e f = rw (e, f) refl
number_is t n _ = refl

-- an answer was told where its number is kept
pub told_is : (t : Txn) (n : ℕ) (steps : List Moment) → list_any (λ m. n == m) (numbers_told t steps) ≡ op_told t n steps
told_is t n steps =
    any_flat (λ m. n == m) (λ k. list_any (tells_op t n) k.told) (λ k. flat_map (number_told t) k.told)
    (λ k. any_flat (λ m. n == m) (tells_op t n) (number_told t) (number_is t n) k.told) steps

-- the unanswered operation
pub unanswered_is : (t : Txn) (log : List Record) (steps : List Moment)
    → unanswered_of (length (issued t steps)) (numbers_told t steps) (is_undecided t log) ≡ unanswered t log steps
unanswered_is t log steps = by (length (issued t steps)) refl
  where
    by : (n : ℕ) → length (issued t steps) ≡ n → unanswered_of (length (issued t steps)) (numbers_told t steps) (is_undecided t log) ≡ unanswered t log steps
    by zero is = rw is refl
    by (suc n) is = rw (is, told_is t (suc n) steps) refl

-- what one step makes expected
counted_is : (t : Txn) (site : ℕ) (was : Expected) (m : Moment) → expected_by t site was m ≡ fold (expect_by site) was (counted_in t m.input m.told)
counted_is t site was m = by m.input
  where
    by_done : (packet : Packet) (u : Txn) (n inc : ℕ) (b c : Bool) → (packet.«from» == site) ≡ b → (same_txn t u && list_any (tells_op t n) m.told) ≡ c
        → (if packet.«from» == site then (if same_txn t u && list_any (tells_op t n) m.told then record { inc = inc; count = suc was.count } else was) else was)
        ≡ fold (expect_by site) was (if same_txn t u && list_any (tells_op t n) m.told then record { site = packet.«from»; inc = inc } ∷ [] else [])
    by_done packet u n inc true true e f = rw (f, e) refl
    by_done packet u n inc true false e f = rw (f, e) refl
    by_done packet u n inc false true e f = rw (f, e) refl
    by_done packet u n inc false false e f = rw (f, e) refl

    same : (b : Bool) → (if b then was else was) ≡ was
    same true = refl
    same false = refl

    by_msg : (packet : Packet) (k : Message) → expected_by t site was (record m { input = input.Deliver (record packet { msg = k }) })
        ≡ fold (expect_by site) was (counted_in t (input.Deliver (record packet { msg = k })) m.told)
    by_msg packet (msg.Done u n inc answer) = by_done packet u n inc (packet.«from» == site) (same_txn t u && list_any (tells_op t n) m.told) refl refl
    by_msg packet _ = same (packet.«from» == site)

    by : (i : Input) → expected_by t site was (record m { input = i }) ≡ fold (expect_by site) was (counted_in t i m.told)
    by (input.Deliver packet) = by_msg packet packet.msg
    by _ = refl

counted_all : (t : Txn) (site : ℕ) (was : Expected) (steps : List Moment) → fold (expect_by site) was (counted_of t steps) ≡ fold (expected_by t site) was steps
counted_all t site was [] = refl
counted_all t site was (m ∷ ms) =
    fold-append (expect_by site) was (counted_in t m.input m.told) (counted_of t ms)
    ∙ ap (λ (e : Expected). fold (expect_by site) e (counted_of t ms)) (sym (counted_is t site was m))
    ∙ counted_all t site (expected_by t site was m) ms

-- what is expected of a site
pub expected_is : (own inc : ℕ) (t : Txn) (steps : List Moment) (site : ℕ)
    → (if own == site then own_expected inc (done own t steps) else fold (expect_by site) (record { inc = 0; count = 0 }) (counted_of t steps)) ≡ expected own inc t steps site
expected_is own inc t steps site = by (own == site) (done own t steps) refl refl
  where
    by : (b : Bool) (ps : List Performed) → (own == site) ≡ b → done own t steps ≡ ps
        → (if own == site then own_expected inc (done own t steps) else fold (expect_by site) (record { inc = 0; count = 0 }) (counted_of t steps)) ≡ expected own inc t steps site
    by true [] e f = rw (e, f) refl
    by true (p ∷ ps) e f = rw (e, f) refl
    by false ps e f = rw e (counted_all t site (record { inc = 0; count = 0 }) steps)
