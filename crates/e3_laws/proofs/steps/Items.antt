-- The items of a step, what a history has bound to names, and what a line leaves through.
use Rattle.std.proofs.Common.{◌≡◌, ◌&&◌, ◌++◌, ◌∷◌, [], ℕ, zero, suc, Bool, true, false, List, refl, ap, fold, length}
use Rattle.std.specs.Prelude.{filter_map, nat_le}
use Rattle.std.specs.List.{list_all}
use Rattle.std.proofs.lemmas.Bool.{and_parts}
use Rattle.e3_types.specs.declared.entries.Entry.{Entry}
use Rattle.e3_types.specs.declared.messages.Packet.{Packet}
use Rattle.e3_types.specs.declared.scenarios.Item.{Item}
use Rattle.e3_types.specs.declared.scenarios.Scenario.{Scenario}
use Rattle.e3_types.specs.declared.transactions.Txn.{Txn}
use Rattle.e3_world.specs.declared.names.Binding.{Binding}
use Rattle.e3_world.specs.Given.{is_groupable, is_step_form}
use Rattle.e3_world.specs.Items.{RecoveryRound, binding_by, input_of, inputs_at, inputs_to, plan_of, to_line}
use Rattle.e3_world.specs.Legal.{has_rising, is_made}
use Rattle.e3_world.specs.Packets.{all_sites, is_line, pending, present_items, step_items}
use Rattle.e3_world.proofs.Lines.{lines_to}
use Rattle.e3_world.proofs.Turns.{plan_push}

-- what the entries have bound
abbrev pub binding : Scenario → List Entry → Binding
binding sc h = fold (binding_by sc) (record { number = 0; begun_at = []; bound = [] }) h

pub inputs_push : (sc : Scenario) (h : List Entry) (e : Entry) (s : ℕ) → is_line e ≡ false → inputs_at sc (h ++ e ∷ []) s ≡ inputs_at sc h s
inputs_push sc h e s stays = ap (inputs_to s) (plan_push sc h e stays)

pub plan_is : (sc : Scenario) (h : List Entry) → plan_of sc h ≡ filter_map (input_of sc (to_line h)) (present_items sc h)
plan_is sc h = ap (λ n. filter_map (input_of sc (to_line h)) (step_items sc n)) (lines_to h)

-- an item that is in no group is alone in its step
pub single : (it : Item) (items : List Item) → is_step_form (it ∷ items) ≡ true → is_groupable it ≡ false → items ≡ []
single it [] form is = refl
single it (more ∷ items) form is =
    let p = and_parts (list_all is_groupable (it ∷ more ∷ items)) (nat_le (length items) 14) form in
    let q = and_parts (is_groupable it) (list_all is_groupable (more ∷ items)) p.0 in
    let yes_it : is_groupable it ≡ true = q.0 in
    cc

-- the round of a transaction among these members
abbrev pub round_of : Txn → List ℕ → List RecoveryRound
round_of t [] = []
round_of t (r ∷ more) = record { txn = t; members = r ∷ more; elector = r } ∷ []

-- nothing is left of these
abbrev pub is_empty : List Packet → Bool
is_empty [] = true
is_empty (p ∷ ps) = false

-- all before the next line is through, where there are so many lines
abbrev pub through_at : Scenario → List Entry → ℕ → Bool
through_at sc h zero = list_all (has_rising h) (all_sites sc)
through_at sc h (suc n) = is_empty (pending sc h) && is_made sc h
