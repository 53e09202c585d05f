-- What is due at a site that is up fits it.
use Rattle.std.proofs.Common.{◌≡◌, ◌==◌, ◌∷◌, [], ℕ, Bool, true, false, not, List, refl, sym, ◌∙◌, inl, inr, ◌⊎◌, eqb-true, if◌then◌else◌}
use Rattle.std.proofs.lemmas.Bool.{eqb-false, or_cases, or_left, or_right}
use Rattle.e3_types.specs.declared.entries.Entry.{Entry}
use Rattle.e3_types.specs.declared.entries.Input.{Input}
use Rattle.e3_types.specs.declared.entries.Input.TheVariants as input
use Rattle.e3_types.specs.declared.messages.Message.{Message}
use Rattle.e3_types.specs.declared.messages.Message.TheVariants as msg
use Rattle.e3_types.specs.declared.messages.Packet.{Packet}
use Rattle.e3_types.specs.declared.scenarios.Scenario.{Scenario}
use Rattle.e3_types.specs.Sets.{has_site, others}
use Rattle.e3_world.specs.Given.{IsGiven}
use Rattle.e3_world.specs.Items.{is_up_at}
use Rattle.e3_world.specs.Legal.{IsDue, IsDelivery}
use Rattle.e3_world.specs.Sound.{Fits, FitsMessage, txn_in}
use Rattle.e3_laws.specs.steps.Bounds.{Suits, AsksWell}
use Rattle.e3_laws.proofs.steps.Suits.Suiting.{due_input_suits}
use Rattle.e3_laws.proofs.steps.Operations.Freshness.{life_in, few_due}
use Rattle.e3_laws.proofs.steps.Operations.Talks.{Pends, pends_sent, comes_in_turn}
use Rattle.e3_laws.proofs.steps.Operations.Lasting.{Lasts}

-- another site of a list is one of the others
others_has : (site y : ℕ) (xs : List ℕ) → (y == site) ≡ false → has_site xs y ≡ true → has_site (others site xs) y ≡ true
others_has site y [] apart has = has
others_has site y (x ∷ xs) apart has = by (x == site) refl (or_cases (x == y) (has_site xs y) has) (λ rest. others_has site y xs apart rest)
  where
    by : (b : Bool) → (x == site) ≡ b → ((x == y) ≡ true) ⊎ (has_site xs y ≡ true) → (has_site xs y ≡ true → has_site (others site xs) y ≡ true) →
        has_site (if not b then x ∷ others site xs else others site xs) y ≡ true
    by true is (inl this) more = absurd (eqb-false y site apart (sym (eqb-true x y this) ∙ eqb-true x site is))
    by true is (inr rest) more = more rest
    by false is (inl this) more = or_left (x == y) (has_site (others site xs) y) this
    by false is (inr rest) more = or_right (x == y) (has_site (others site xs) y) (more rest)

message_fits : (sc : Scenario) (h : List Entry) (site : ℕ) (p : Packet) (x : Message) → Lasts sc h → is_up_at h site ≡ true → IsDelivery sc h site p → p.msg ≡ x →
    AsksWell site p.«from» x → FitsMessage site (life_in sc h site) p.«from» x
message_fits sc h site p (msg.Do t n op) was up due says asks = record {
  coordinator = asks.0;
  here = asks.1;
  low = asks.2;
  high = was.talks.high t n p.to (pends_sent sc h t n this);
  turn = λ state. comes_in_turn sc h site t n was.holds was.talks up this due.to;
}
  where
    this : Pends sc h t n
    this = record { packet = p; has = due.is_pending; op = op; says = says }
message_fits sc h site p x was up due says asks = tt

fits : (sc : Scenario) (h : List Entry) (site : ℕ) (i : Input) → IsGiven sc → Lasts sc h → is_up_at h site ≡ true → IsDue sc h site i → Suits sc.weights site i →
    Fits sc.weights site (life_in sc h site) i
fits sc h site (input.Begin sites) given was up due fit = fit
fits sc h site (input.Do t op) given was up due fit = record {
  among = fit.0;
  coordinator = fit.1;
  there = fit.2;
  few = few_due sc h site t op given was.fresh was.holds.now.took up due;
}
fits sc h site (input.Commit t) given was up due fit = fit
fits sc h site (input.Cancel t) given was up due fit = fit
fits sc h site (input.Expire t) given was up due fit = fit
fits sc h site (input.Elect t group) given was up due fit = fit
fits sc h site (input.Deliver p) given was up due fit = record {
  among = fit.2.among;
  to = fit.0;
  sender = others_has site p.«from» (txn_in p.msg).sites fit.1 fit.2.sender;
  message = message_fits sc h site p p.msg was up due refl fit.2.asked;
}

pub due_fits : (sc : Scenario) (h : List Entry) (site : ℕ) (i : Input) → IsGiven sc → Lasts sc h → is_up_at h site ≡ true → IsDue sc h site i →
    Fits sc.weights site (life_in sc h site) i
due_fits sc h site i given was up due =
    fits sc h site i given was up due (due_input_suits sc h site i given was.holds.line.binds was.holds.now.sent (λ s. (was.holds.line.sites s).life) due)
