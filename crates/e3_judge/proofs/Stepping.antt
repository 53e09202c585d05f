-- One more input of a fall, and one more packet of a step.
use Rattle.std.proofs.Common.{◌≡◌, ◌&&◌, ◌++◌, ◌∷◌, ◌+◌, ◌<◌, [], ℕ, suc, Bool, true, false, List, length, refl, ap, sym, ◌∙◌, append_assoc, get_or, drop, drop-cons, add-one}
use Rattle.e3_types.specs.declared.entries.Entry.{Entry}
use Rattle.e3_types.specs.declared.entries.Input.{Input}
use Rattle.e3_types.specs.declared.records.Record.{Record}
use Rattle.e3_types.specs.declared.scenarios.Scenario.{Scenario}
use Rattle.e3_types.specs.declared.messages.Packet.{Packet}
use Rattle.e3_world.specs.Legal.{made_by, entry_of, records_by, numbered}
use Rattle.e3_judge.specs.Checks.{input_is_due, inputs_are_due}
use Rattle.e3_judge.specs.Equal.{same_list, same_packet}

-- the inputs from a place on: that at it, and those behind it
next_input : (inputs : List Input) (i : ℕ) (x : Input) → i < length inputs → x ≡ get_or inputs i x → drop i inputs ≡ x ∷ drop (i + 1) inputs
next_input inputs i x low is = rw (add-one, drop-cons inputs i x) (ap (λ y. y ∷ drop (suc i) inputs) (sym is))

pub due_on : (sc : Scenario) (h new : List Entry) (site : ℕ) (inputs : List Input) (i : ℕ) (x : Input) → i < length inputs → x ≡ get_or inputs i x →
    input_is_due sc h site x ≡ true → new ≡ h ++ entry_of sc h site x ∷ [] →
    inputs_are_due sc h site (drop i inputs) ≡ inputs_are_due sc new site (drop (i + 1) inputs)
due_on sc h new site inputs i x low is due entered =
    ap (inputs_are_due sc h site) (next_input inputs i x low is)
    ∙ ap (λ b. b && inputs_are_due sc (h ++ entry_of sc h site x ∷ []) site (drop (i + 1) inputs)) due
    ∙ ap (λ l. inputs_are_due sc l site (drop (i + 1) inputs)) (sym entered)

pub due_off : (sc : Scenario) (h : List Entry) (site : ℕ) (inputs : List Input) (i : ℕ) (x : Input) → i < length inputs → x ≡ get_or inputs i x →
    input_is_due sc h site x ≡ false → inputs_are_due sc h site (drop i inputs) ≡ false
due_off sc h site inputs i x low is due =
    ap (inputs_are_due sc h site) (next_input inputs i x low is)
    ∙ ap (λ b. b && inputs_are_due sc (h ++ entry_of sc h site x ∷ []) site (drop (i + 1) inputs)) due

pub records_on : (sc : Scenario) (h new : List Entry) (site : ℕ) (inputs : List Input) (i : ℕ) (x : Input) → i < length inputs → x ≡ get_or inputs i x →
    (out more : List Record) → more ≡ out ++ (made_by sc h site x).records → new ≡ h ++ entry_of sc h site x ∷ [] →
    out ++ records_by sc h site (drop i inputs) ≡ more ++ records_by sc new site (drop (i + 1) inputs)
records_on sc h new site inputs i x low is out more made entered =
    ap (λ l. out ++ records_by sc h site l) (next_input inputs i x low is)
    ∙ sym (append_assoc out (made_by sc h site x).records (records_by sc (h ++ entry_of sc h site x ∷ []) site (drop (i + 1) inputs)))
    ∙ ap (λ l. l ++ records_by sc (h ++ entry_of sc h site x ∷ []) site (drop (i + 1) inputs)) (sym made)
    ∙ ap (λ l. more ++ records_by sc l site (drop (i + 1) inputs)) (sym entered)

-- numbers add no packet and take none away
length_numbered : (n : ℕ) (ps : List Packet) → length (numbered n ps) ≡ length ps
length_numbered n [] = refl
length_numbered n (p ∷ ps) = ap suc (length_numbered (suc n) ps)

apart : (packets others : List Packet) → (length packets ≡ length others → ⊥) → same_list same_packet packets others ≡ false
apart [] [] other = absurd (other refl)
apart [] (q ∷ qs) other = refl
apart (p ∷ ps) [] other = refl
apart (p ∷ ps) (q ∷ qs) other =
    ap (λ b. same_packet p q && b) (apart ps qs (λ e. other (ap suc e))) ∙ none (same_packet p q)
  where
    none : (b : Bool) → (b && false) ≡ false
    none true = refl
    none false = refl

-- as many packets as were made, or they are not these
pub numbered_apart : (packets made : List Packet) (n : ℕ) → (length packets ≡ length made → ⊥) → same_list same_packet packets (numbered n made) ≡ false
numbered_apart packets made n other = apart packets (numbered n made) (λ e. other (e ∙ length_numbered n made))
