-- What is known of names stays true behind more entries, and what a step asks is what they say.
use Rattle.std.proofs.Common.{◌≡◌, ◌++◌, ◌∷◌, [], ◌+◌, ◌-◌, ◌≤◌, ℕ, zero, suc, List, length, length-append, refl, sym, subst, ap, ◌∙◌, arith, append-nil, fold, take, drop}
use Rattle.std.specs.Prelude.{filter_map}
use Rattle.std.proofs.lemmas.Grind.{fold-append}
use Rattle.std.proofs.lemmas.List.{take-append-drop, take-append-le}
use Rattle.e3_readings.specs.Bindings.{bound_behind, nothing_bound}
use Rattle.e3_readings.specs.Inputs.{input_with}
use Rattle.e3_readings.proofs.ByName.{inputs_are}
use Rattle.e3_types.specs.declared.entries.Entry.{Entry}
use Rattle.e3_types.specs.declared.scenarios.Item.{Item}
use Rattle.e3_types.specs.declared.scenarios.Scenario.{Scenario}
use Rattle.e3_world.specs.Items.{binding_by, input_of, plan_of, to_line}
use Rattle.e3_world.specs.Packets.{step_items}
use Rattle.e3_world.proofs.Lines.{lines_to}
use Rattle.e3_world.specs.declared.names.Addressed.{Addressed}
use Rattle.e3_world.specs.declared.names.Bound.{Bound}
use Rattle.e3_play.proofs.Making.{both_parts}
use Rattle.e3_play.specs.Known.{KnowsNames}
use Rattle.e3_play.specs.Played.{IsFresh}
use Rattle.e3_play.specs.declared.names.Names.{Names}
use Rattle.e3_play.specs.Settled.{StaysInStep}
use Rattle.e3_play.proofs.SameSteps.{same_step}

pub knows_more : (sc : Scenario) (h next more : List Entry) (names : Names) → KnowsNames sc h names → next ≡ h ++ more → KnowsNames sc next names
knows_more sc h next more names was is = record {
  within = let long : length next ≡ length h + length more = ap length is ∙ length-append h more in let low : names.read ≤ length h = was.within in omega (arith, long, low);
  known = was.known ∙ ap (bound_behind sc) (sym (ap (take names.read) is ∙ take-append-le names.read h more was.within));
}

pub knows_step : (sc : Scenario) (h next : List Entry) (names : Names) → KnowsNames sc h names → StaysInStep h next → KnowsNames sc next names
knows_step sc h next names was grown = knows_more sc h next grown.more names was grown.entered

-- behind a line and what its step entered
pub knows_line : (sc : Scenario) (h mid next : List Entry) (e : Entry) (names : Names) → KnowsNames sc h names → mid ≡ h ++ e ∷ [] → StaysInStep mid next →
    KnowsNames sc next names
knows_line sc h mid next e names was line grown = knows_step sc mid next names (knows_more sc h mid (e ∷ []) names was line) grown

take_all : (h : List Entry) → take (length h) h ≡ h
take_all [] = refl
take_all (e ∷ h) = ap (λ l. e ∷ l) (take_all h)

rest_all : (h : List Entry) (n : ℕ) → take (length h - n) (drop n h) ≡ drop n h
rest_all h zero = let whole : length h - 0 ≡ length h = omega arith in ap (λ k. take k h) whole ∙ take_all h
rest_all [] (suc n) = let none : 0 - suc n ≡ 0 = omega arith in ap (λ k. take k []) none
rest_all (e ∷ h) (suc n) = let less : length (e ∷ h) - suc n ≡ length h - n = omega arith in ap (λ k. take k (drop n h)) less ∙ rest_all h n

-- all that was entered is read
pub reads_on : (sc : Scenario) (h : List Entry) (names : Names) → KnowsNames sc h names → fold (binding_by sc) names.binding (take (length h - names.read) (drop names.read h)) ≡ bound_behind sc h
reads_on sc h names was =
    ap (fold (binding_by sc) names.binding) (rest_all h names.read)
    ∙ ap (λ b. fold (binding_by sc) b (drop names.read h)) was.known
    ∙ sym (fold-append (binding_by sc) nothing_bound (take names.read h) (drop names.read h))
    ∙ ap (bound_behind sc) (take-append-drop names.read h)

pub knows_all : (sc : Scenario) (h : List Entry) (names : Names) → names ≡ record { binding = bound_behind sc h; read = length h } → KnowsNames sc h names
knows_all sc h names is =
    let P : Names → Type 0 = λ n. KnowsNames sc h n in
    subst P (sym is) (record { within = omega arith; known = ap (bound_behind sc) (sym (take_all h)) })

-- the inputs that are computed behind the line are those of the step
pub asks_plan : (sc : Scenario) (start asked : List Entry) (items : List Item) (bound : List Bound) (inputs : List Addressed) → IsFresh sc start items →
    bound ≡ (bound_behind sc start).bound → inputs ≡ filter_map (input_with bound) items → StaysInStep start asked → inputs ≡ plan_of sc asked
asks_plan sc start asked items bound inputs fresh known are grown =
    are ∙ ap (λ b. filter_map (input_with b) items) known ∙ inputs_are sc start items
    ∙ ap (λ l. filter_map (input_of sc l) items) (sym to)
    ∙ ap (filter_map (input_of sc (to_line start))) (sym (ap (step_items sc) (lines_to start) ∙ fresh.present))
    ∙ sym (same_step sc start asked grown).plan
  where
    to : to_line start ≡ start
    to = sym (append-nil (to_line start)) ∙ ap (λ l. to_line start ++ l) (sym fresh.fresh) ∙ both_parts start
