-- What a card is behind one more step.
use Rattle.std.specs.Prelude.{◌≡◌, ◌++◌, ◌∷◌, [], ℕ, suc, List, fold, count_by}
use Rattle.std.specs.List.{flat_map}
use Rattle.std.proofs.Common.{ap, sym, ◌∙◌}
use Rattle.std.proofs.lemmas.List.{append-nil}
use Rattle.std.proofs.lemmas.List.Concat.{flat_map-append}
use Rattle.e3_types.specs.declared.transactions.Txn.{Txn}
use Rattle.e3_world.specs.declared.lives.Life.{Life}
use Rattle.e3_world.specs.declared.lives.Moment.{Moment}
use Rattle.e3_world.specs.declared.lives.SiteStep.{SiteStep}
use Rattle.e3_world.specs.Elections.{is_elect}
use Rattle.e3_world.specs.Lives.{life_by}
use Rattle.e3_world.specs.Operations.{issued, issued_in, kept_reason, reason_in}
use Rattle.e3_world.specs.Votes.{yes_votes}
use Rattle.e3_readings.specs.Gathering.{missing_yes}
use Rattle.e3_readings.proofs.Missing.{votes_step}
use Rattle.e3_cards.specs.Arriving.{heard_of, heard_in}
use Rattle.e3_cards.specs.Cards.{card_of, card_by}
use Rattle.e3_cards.specs.Issued.{numbers_told, number_told, counted_of, counted_in}
use Rattle.e3_cards.specs.Seeing.{seen_of, seen_by}
use Rattle.e3_cards.proofs.Arrivals.{came_push}
use Rattle.e3_cards.proofs.Progress.{lived, yes_step, rounds_step, election_step}
use Rattle.e3_cards.proofs.Seeing.{seen_more}

-- what moments give behind one more
pub flat_push : {Y : Type 0} (f : Moment → List Y) (steps : List Moment) (m : Moment) → flat_map f (steps ++ m ∷ []) ≡ flat_map f steps ++ f m
flat_push f steps m = flat_map-append f steps (m ∷ []) ∙ ap (λ l. flat_map f steps ++ l) (append-nil (f m))

-- The law of the cards: the card of a life with one more step is what the step makes of the card before it.
pub card_step : (site : ℕ) (t : Txn) (life : Life) (s : SiteStep)
    → card_of site t (life_by life s) ≡ card_by site (record { inc = life.inc; seq = suc (count_by is_elect life.steps) }) t (card_of site t life) s
card_step site t life s =
    let m : Moment = lived life s in
    let seen : seen_of t (life.log ++ s.records) ≡ fold (seen_by t) (seen_of t life.log) s.records = sym (seen_more t life.log s.records) in
    let ops : issued t (life.steps ++ m ∷ []) ≡ issued t life.steps ++ issued_in t s.input s.told = flat_push (λ k. issued_in t k.input k.told) life.steps m in
    let told : numbers_told t (life.steps ++ m ∷ []) ≡ numbers_told t life.steps ++ flat_map (number_told t) s.told = flat_push (λ k. flat_map (number_told t) k.told) life.steps m in
    let counts : counted_of t (life.steps ++ m ∷ []) ≡ counted_of t life.steps ++ counted_in t s.input s.told = flat_push (λ k. counted_in t k.input k.told) life.steps m in
    let why : kept_reason t (life.steps ++ m ∷ []) ≡ kept_reason t life.steps ++ flat_map (reason_in t) s.told = flat_push (λ k. flat_map (reason_in t) k.told) life.steps m in
    let came = came_push site t life.steps m in
    let heard : heard_of t (life.steps ++ m ∷ []) ≡ heard_of t life.steps ++ heard_in t s.told s.outs = flat_push (λ k. heard_in t k.told k.outs) life.steps m in
    let votes = ap (missing_yes site t) (yes_step t life s) ∙ votes_step site t (yes_votes t life.steps) m in
    let election = election_step site t life s in
    let rounds = rounds_step site t life s in
    λ i. record {
      seen = seen i;
      issued = ops i;
      answered = told i;
      counted = counts i;
      reasons = why i;
      came = came i;
      heard = heard i;
      votes = votes i;
      election = election i;
      rounds = rounds i;
    }
