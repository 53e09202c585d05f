-- A step that goes on.
use Rattle.std.proofs.Common.{◌≡◌, ◌||◌, ◌++◌, ◌∷◌, [], inl, inr, ℕ, Bool, true, false, List, refl, sym, ap, ◌∙◌, append_assoc, append-nil}
use Rattle.std.specs.List.{list_any}
use Rattle.std.specs.Prelude.{filter_map}
use Rattle.std.proofs.lemmas.List.Folds.{list_any-append}
use Rattle.e3_types.specs.declared.entries.Entry.{Entry}
use Rattle.e3_types.specs.declared.entries.Input.{Input}
use Rattle.e3_types.specs.declared.scenarios.Scenario.{Scenario}
use Rattle.e3_world.specs.Items.{input_of, plan_of, since_line, to_line}
use Rattle.e3_world.specs.Packets.{is_line, lines, present_items, step_items}
use Rattle.e3_world.proofs.Lines.{lines_to}
use Rattle.e3_world.proofs.Readings.{since_push, to_push}
use Rattle.e3_world.proofs.Turns.{true_not_false}
use Rattle.e3_play.specs.Delivered.{Delivers, Nothing, Then}
use Rattle.e3_play.specs.Entering.{AfterInput, fall_of}
use Rattle.e3_world.specs.Legal.{entry_of}
use Rattle.e3_play.specs.Settled.{StaysInStep}
use Rattle.e3_play.proofs.Packets.{IsOneMore, packet_is_one}

pub stays_none : (h : List Entry) → StaysInStep h h
stays_none h = record { more = []; entered = sym (append-nil h); no_line = refl }

pub stays_kept : (h next : List Entry) → next ≡ h → StaysInStep h next
stays_kept h next same = record { more = []; entered = same ∙ sym (append-nil h); no_line = refl }

pub stays_on : (a b c : List Entry) → StaysInStep a b → StaysInStep b c → StaysInStep a c
stays_on a b c first second = record {
  more = first.more ++ second.more;
  entered = second.entered ∙ ap (λ l. l ++ second.more) first.entered ∙ append_assoc a first.more second.more;
  no_line = list_any-append is_line first.more second.more ∙ ap (λ p. p || list_any is_line second.more) first.no_line ∙ second.no_line;
}

pub stays_one : (h next : List Entry) (e : Entry) → next ≡ h ++ e ∷ [] → is_line e ≡ false → StaysInStep h next
stays_one h next e entered stays = record { more = e ∷ []; entered = entered; no_line = ap (λ p. p || false) stays }

-- what stays of a history behind more entries, none of them a line
to_stays : (h more : List Entry) → list_any is_line more ≡ false → to_line (h ++ more) ≡ to_line h
to_stays h [] none = ap to_line (append-nil h)
to_stays h (e ∷ more) none = by (is_line e) refl (to_stays (h ++ e ∷ []) more)
  where
    by : (b : Bool) → is_line e ≡ b → (list_any is_line more ≡ false → to_line ((h ++ e ∷ []) ++ more) ≡ to_line (h ++ e ∷ [])) →
        to_line (h ++ e ∷ more) ≡ to_line h
    by true is rest = absurd (true_not_false (sym (ap (λ p. p || list_any is_line more) is) ∙ none))
    by false is rest =
        ap to_line (sym (append_assoc h (e ∷ []) more)) ∙ rest (sym (ap (λ p. p || list_any is_line more) is) ∙ none) ∙ to_push h e is

pub record IsSameStep (sc : Scenario) (was now : List Entry) : Type 0 where
  pub to : to_line now ≡ to_line was
  pub at : lines now ≡ lines was
  pub present : present_items sc now ≡ present_items sc was
  pub plan : plan_of sc now ≡ plan_of sc was

pub same_step : (sc : Scenario) (was now : List Entry) → StaysInStep was now → IsSameStep sc was now
same_step sc was now stays =
    let to : to_line now ≡ to_line was = ap to_line stays.entered ∙ to_stays was stays.more stays.no_line in
    let at : lines now ≡ lines was = sym (lines_to now) ∙ ap lines to ∙ lines_to was in
    record { to = to; at = at; present = ap (step_items sc) at; plan = ap (λ l. filter_map (input_of sc l) (present_items sc l)) to }

since_more : (h more : List Entry) → list_any is_line more ≡ false → since_line (h ++ more) ≡ since_line h ++ more
since_more h [] none = ap since_line (append-nil h) ∙ sym (append-nil (since_line h))
since_more h (e ∷ more) none = by (is_line e) refl (since_more (h ++ e ∷ []) more)
  where
    by : (b : Bool) → is_line e ≡ b → (list_any is_line more ≡ false → since_line ((h ++ e ∷ []) ++ more) ≡ since_line (h ++ e ∷ []) ++ more) →
        since_line (h ++ e ∷ more) ≡ since_line h ++ e ∷ more
    by true is rest = absurd (true_not_false (sym (ap (λ p. p || list_any is_line more) is) ∙ none))
    by false is rest =
        ap since_line (sym (append_assoc h (e ∷ []) more)) ∙ rest (sym (ap (λ p. p || list_any is_line more) is) ∙ none)
        ∙ ap (λ l. l ++ more) (since_push h e is) ∙ append_assoc (since_line h) (e ∷ []) more

pub since_stays : (was now : List Entry) (stays : StaysInStep was now) → since_line now ≡ since_line was ++ stays.more
since_stays was now stays = ap since_line stays.entered ∙ since_more was stays.more stays.no_line

-- packets are in the step
pub delivers_stays : (sc : Scenario) (start now : List Entry) → Delivers sc start now → StaysInStep start now
delivers_stays sc start now Nothing = stays_none start
delivers_stays sc start now (Then h more p before first after) =
    let one : IsOneMore h now = packet_is_one sc h now p after in
    stays_on start h now (delivers_stays sc start h before) (stays_one h now one.entry one.entered one.stays)

-- so is an input, whatever comes of it
pub input_stays : (sc : Scenario) (h next : List Entry) (site : ℕ) (i : Input) → AfterInput sc h site i next → StaysInStep h next
input_stays sc h next site i (inl stepped) = stays_one h next (entry_of sc h site i) stepped refl
input_stays sc h next site i (inr fell) = stays_one h next (fall_of sc h site i fell.why) fell.entered refl
