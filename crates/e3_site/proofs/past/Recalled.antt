-- The place of a step.
use Rattle.std.specs.Prelude.{◌≡◌, ◌<◌, ◌≤◌, ◌+◌, ◌*◌, ◌^◌, ℕ, suc, List, length, Result, Ok, Err, IfOk}
use Rattle.std.proofs.Common.{arith, refl, ap, sym, ◌∙◌}
use Rattle.e3_types.specs.declared.entries.Input.{Input}
use Rattle.e3_types.specs.declared.list.NoMemory.{NoMemory}
use Rattle.e3_world.specs.declared.lives.Incarnation.{Incarnation}
use Rattle.e3_world.specs.declared.lives.Life.{Life}
use Rattle.e3_world.specs.declared.lives.Made.{Made}
use Rattle.e3_world.specs.Lives.{life_of}
use Rattle.e3_world.specs.Moves.{unnumbered_input}
use Rattle.e3_world.specs.Steps.{step_at, step_of}
use Rattle.e3_readings.proofs.Counting.{life_steps}
use Rattle.e3_readings.proofs.Results.{ok_is}
use Rattle.e3_cards.specs.declared.cards.Cards.{Cards}
use Rattle.e3_cards.specs.Cards.{card_of}
use Rattle.e3_cards.specs.Tables.{CardsStand}

-- the cards of a site stand for its own number
pub own_stands : (site : ℕ) (cards : Cards) (life : Life) → CardsStand site cards life → CardsStand cards.site cards life
own_stands site cards life h = record {
  site_is = refl;
  inc_is = h.inc_is;
  begins_are = h.begins_are;
  calls_are = h.calls_are;
  cards_are = λ t known. h.cards_are t known ∙ ap (λ (s : ℕ). card_of s t life) (sym h.site_is);
}

-- 32 bits count the packets of a step behind so few steps
pub few_packets : (now : Incarnation) (r : Result Made NoMemory) → length now.since < 4000000000
    → IfOk r (λ made. length made.outs ≤ suc (length (life_of now).steps) + 9 * 64) → IfOk r (λ made. length made.outs < 2 ^ 32)
few_packets now (Ok made) few most = let same = life_steps now in omega (arith, few, most, same)
few_packets now (Err e) few most = tt

-- the step at the place of a site's input is the step of the site
pub step_is : (weights : List ℕ) (site own : ℕ) (now : Incarnation) (i j : Input) (r : Result Made NoMemory) → own ≡ site → j ≡ unnumbered_input i
    → IfOk r (λ made. made ≡ step_at (record { weights = weights; site = own; life = life_of now; input = j }))
    → IfOk r (λ made. made ≡ step_of weights site now i)
step_is weights site own now i j r here unnumbered h =
    ok_is r (step_at (record { weights = weights; site = own; life = life_of now; input = j })) (step_of weights site now i)
    (ap (λ (s : ℕ). step_at (record { weights = weights; site = s; life = life_of now; input = j })) here
    ∙ ap (λ (x : Input). step_at (record { weights = weights; site = site; life = life_of now; input = x })) unnumbered) h
