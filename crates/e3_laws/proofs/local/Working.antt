-- What a worker knows of its site.
use Rattle.std.proofs.Common.{◌≡◌, ◌==◌, ◌+◌, ◌++◌, ◌∷◌, [], inl, inr, ℕ, suc, true, false, not, List, ◌∙◌, ap, refl, arith, count_by, eq-eqb, None}
use Rattle.std.specs.Prelude.{slice_get}
use Rattle.std.specs.List.{list_any}
use Rattle.std.proofs.lemmas.List.Folds.{list_any-append}
use Rattle.std.proofs.lemmas.List.Sums.{sum_by-append}
use Rattle.e3_types.specs.declared.entries.Entry.{Entry}
use Rattle.e3_types.specs.declared.entries.Input.{Input}
use Rattle.e3_types.specs.declared.entries.Input.TheVariants as input
use Rattle.e3_types.specs.declared.scenarios.Scenario.{Scenario}
use Rattle.e3_world.specs.Items.{is_delivery, taken_at, turn_of, due_round}
use Rattle.e3_world.specs.Legal.{IsNextItem, entry_of}
use Rattle.e3_world.proofs.Guards.{due}
use Rattle.e3_world.proofs.Readings.{taken_same}
use Rattle.e3_laws.specs.local.Claims.{DueMayBeTaken, ItemsStay, NextItem, ReadingsStay}
use Rattle.e3_laws.specs.local.Drafts.{MayTake}
use Rattle.e3_laws.proofs.local.Alike.{Alike, all_on}
use Rattle.e3_laws.proofs.local.Due.{inputs_same, no_round, through_on, turn_same}
use Rattle.e3_laws.proofs.local.Laws.{legal_behind}
use Rattle.e3_laws.proofs.steps.Items.{inputs_push}

pub readings_stay : ReadingsStay
readings_stay sc site h more given legal others = record {
  past = a.past;
  up = a.up;
  taken = a.taken;
  asked = λ u. inputs_same sc site u h (h ++ more) a;
  through = through_on sc site h (h ++ more) a;
}
  where
    a : Alike sc site h (h ++ more)
    a = all_on sc site h more given (legal_behind sc [] h more legal) others

pub items_stay : ItemsStay
items_stay sc site h more items done given legal others at = record {
  asked = inputs_same sc site site h (h ++ more) a ∙ at.asked;
  turn = turn_same sc site h (h ++ more) a ∙ at.turn;
  fresh = ap (list_any is_delivery) a.taken ∙ at.fresh;
}
  where
    a : Alike sc site h (h ++ more)
    a = all_on sc site h more given (legal_behind sc [] h more legal) others

may_next : (sc : Scenario) (h : List Entry) (site : ℕ) (i : Input) → is_delivery i ≡ false → IsNextItem sc h site i → MayTake sc h site i
may_next sc h site (input.Begin sites) is next = next
may_next sc h site (input.Do t op) is next = next
may_next sc h site (input.Commit t) is next = next
may_next sc h site (input.Cancel t) is next = next
may_next sc h site (input.Expire t) is next = next
may_next sc h site (input.Elect t group) is next = next
may_next sc h site (input.Deliver packet) is next = absurd cc

pub next_item : NextItem
next_item sc site h items done i at got is = (
  due sc h site i is next,
  may_next sc h site i is next,
  record {
    asked = inputs_push sc h e site refl ∙ at.asked;
    turn = turn;
    fresh = rw (taken_same h e site refl itself, list_any-append, at.fresh, is) refl;
  },
)
  where
    e : Entry
    e = entry_of sc h site i

    itself : (site == site) ≡ true
    itself = eq-eqb site site refl

    next : IsNextItem sc h site i
    next = record {
      next = ap (λ l. slice_get l (turn_of h site)) at.asked ∙ ap (slice_get items) at.turn ∙ got;
      no_delivery = at.fresh;
    }

    turn : turn_of (h ++ e ∷ []) site ≡ suc done
    turn =
        let one : count_by (λ j. not (is_delivery j)) (i ∷ []) ≡ 1 = rw is refl in
        let all : turn_of (h ++ e ∷ []) site ≡ turn_of h site + count_by (λ j. not (is_delivery j)) (i ∷ []) =
        ap (count_by (λ j. not (is_delivery j))) (taken_same h e site refl itself) ∙ sum_by-append _ (taken_at h site) (i ∷ []) in
        let was : turn_of h site ≡ done = at.turn in
        omega (arith, one, all, was)

pub due_may : DueMayBeTaken
due_may sc h site (input.Begin sites) calm is = is
due_may sc h site (input.Do t op) calm is = is
due_may sc h site (input.Commit t) calm is = is
due_may sc h site (input.Cancel t) calm is = is
due_may sc h site (input.Expire t) calm is = is
due_may sc h site (input.Elect t group) calm (inl next) = next
due_may sc h site (input.Elect t group) calm (inr round) = absurd (let none : due_round sc h ≡ None = no_round sc h calm in let some = round.due in cc)
due_may sc h site (input.Deliver packet) calm is = (is.to, is.behind_items)
