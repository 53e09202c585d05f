-- What tables of a life with few steps count has room in 32 bits.
use Rattle.std.specs.Prelude.{◌≡◌, ◌<◌, ◌≤◌, ◌+◌, ◌==◌, ◌&&◌, if◌then◌else◌, ◌∷◌, [], ℕ, Bool, true, false, List, length, fold}
use Rattle.std.specs.List.{list_any}
use Rattle.std.proofs.Common.{arith, refl, subst, sym}
use Rattle.std.proofs.lemmas.Grind.{common_steps}
use Rattle.std.proofs.lemmas.List.Sums.{count_by-le-length}
use Rattle.e3_types.specs.declared.entries.Input.{Input}
use Rattle.e3_types.specs.declared.entries.Input.TheVariants as input
use Rattle.e3_types.specs.declared.entries.Told.{Told}
use Rattle.e3_types.specs.declared.messages.Message.{Message}
use Rattle.e3_types.specs.declared.messages.Message.TheVariants as msg
use Rattle.e3_types.specs.declared.transactions.Txn.{Txn}
use Rattle.e3_types.specs.Same.{same_txn}
use Rattle.e3_world.specs.declared.lives.Expected.{Expected}
use Rattle.e3_world.specs.declared.lives.Life.{Life}
use Rattle.e3_world.specs.declared.lives.Moment.{Moment}
use Rattle.e3_world.specs.declared.lives.Performed.{Performed}
use Rattle.e3_world.specs.Elections.{is_elect}
use Rattle.e3_world.specs.Operations.{tells_op}
use Rattle.e3_world.specs.Steps.{is_begin}
use Rattle.e3_readings.proofs.Counting.{done_are_few, issued_are_few}
use Rattle.e3_cards.specs.declared.card.Card.{Card}
use Rattle.e3_cards.specs.declared.card.Counted.{Counted}
use Rattle.e3_cards.specs.declared.cards.Cards.{Cards}
use Rattle.e3_cards.specs.Cards.{card_of}
use Rattle.e3_cards.specs.Issued.{counted_in, counted_of, counted_with, expect_by}
use Rattle.e3_cards.specs.Tables.{AreCountable, CardsStand, IsCountable}
use Rattle.e3_cards.proofs.Answered.{done_is}

-- one answer at most counts with a step
counted_once : (t : Txn) (i : Input) (events : List Told) → length (counted_in t i events) ≤ 1
counted_once t (input.Deliver packet) events = by packet.msg
  where
    by_done : (u : Txn) (n inc f : ℕ) (b : Bool) → (same_txn t u && list_any (tells_op t n) events) ≡ b
        → length {A = Counted} (if same_txn t u && list_any (tells_op t n) events then record { site = f; inc = inc } ∷ [] else []) ≤ 1
    by_done u n inc f true is = rw (is) (omega arith)
    by_done u n inc f false is = rw (is) (omega arith)

    by : (m : Message) → length (counted_with t events packet.«from» m) ≤ 1
    by (msg.Done u n inc answer) = by_done u n inc packet.«from» (same_txn t u && list_any (tells_op t n) events) refl
    by _ = omega arith
counted_once t _ events = omega arith

pub counted_are_few : (t : Txn) (steps : List Moment) → length (counted_of t steps) ≤ length steps
counted_are_few t [] = omega arith
counted_are_few t (m ∷ ms) =
    let one = counted_once t m.input m.told in
    let rest = counted_are_few t ms in
    grind (arith, common_steps)

-- what answers make expected of a site is no more than these
expect_once : (site : ℕ) (was : Expected) (c : Counted) → (expect_by site was c).count ≤ was.count + 1
expect_once site was c = by (c.site == site) refl
  where
    by : (b : Bool) → (c.site == site) ≡ b → (expect_by site was c).count ≤ was.count + 1
    by true is = rw (is) (omega arith)
    by false is = rw (is) (omega arith)

pub expected_are_few : (site : ℕ) (was : Expected) (cs : List Counted) → (fold (expect_by site) was cs).count ≤ was.count + length cs
expected_are_few site was [] = omega arith
expected_are_few site was (c ∷ cs) =
    let one = expect_once site was c in
    let rest = expected_are_few site (expect_by site was c) cs in
    grind (arith, common_steps)

card_is_countable : (site : ℕ) (t : Txn) (life : Life) → length life.steps < 4294967295 → IsCountable (card_of site t life)
card_is_countable site t life few = record {
  issued = let n = issued_are_few t life.steps in omega (arith, n, few);
  done =
      let n = done_are_few site t life.steps in
      subst (λ (ps : List Performed). length ps ≤ 4294967295) (sym (done_is site t life.steps)) (omega (arith, n, few));
  counted = let n = counted_are_few t life.steps in omega (arith, n, few);
}

-- The counts of cards that stand for a life with few steps have room.
pub are_countable : (site : ℕ) (cards : Cards) (life : Life) → CardsStand site cards life → length life.steps < 4294967295 → AreCountable cards
are_countable site cards life stands few = record {
  begins =
      let n = count_by-le-length is_begin life.steps in
      subst (λ (k : ℕ). k < 4294967295) (sym stands.begins_are) (omega (arith, n, few));
  calls =
      let n = count_by-le-length is_elect life.steps in
      subst (λ (k : ℕ). k < 4294967295) (sym stands.calls_are) (omega (arith, n, few));
  cards = λ t known. subst (λ (k : Card). IsCountable k) (sym (stands.cards_are t known)) (card_is_countable site t life few);
}
