-- The operation that a step takes up is told by the cards.
use Rattle.std.specs.Prelude.{◌≡◌, ◌&&◌, ℕ, Bool, not, List, filter, Option, Some, None}
use Rattle.std.proofs.Common.{refl, ap, sym, ◌∙◌}
use Rattle.e3_types.specs.declared.entries.Input.{Input}
use Rattle.e3_types.specs.declared.entries.Told.{Told}
use Rattle.e3_types.specs.declared.transactions.State.{State}
use Rattle.e3_types.specs.declared.transactions.State.TheVariants.{Q}
use Rattle.e3_types.specs.Same.{same_txn, same_state}
use Rattle.e3_world.specs.declared.lives.Asked.{Asked}
use Rattle.e3_world.specs.declared.lives.At.{At}
use Rattle.e3_world.specs.declared.lives.Life.{Life}
use Rattle.e3_world.specs.declared.lives.SiteStep.{SiteStep}
use Rattle.e3_world.specs.Logs.{state_of}
use Rattle.e3_world.specs.Operations.{taken_up, arrivals}
use Rattle.e3_readings.proofs.Equal.{same_txn_refl}
use Rattle.e3_cards.specs.declared.card.Card.{Card}
use Rattle.e3_cards.specs.declared.cards.Cards.{Cards}
use Rattle.e3_cards.specs.Seeing.{seen_state}
use Rattle.e3_world.specs.Transactions.{IsFoundByBits}
use Rattle.e3_cards.specs.Tables.{CardsStand, card_at}
use Rattle.e3_cards.proofs.Arrivals.{state_seen, among_own}
use Rattle.e3_places.specs.declared.places.Standing.{Standing}
use Rattle.e3_places.specs.Standing.{fresh_of, moment_of}
use Rattle.e3_readings.specs.Bringing.{brought, is_new_to, issued_before}
use Rattle.e3_readings.proofs.Bringing.{taken_is}
use Rattle.e3_site.specs.past.Fresh.{is_new, fresh_as}

-- what stands from now on, by what is taken up
abbrev by_taken : ℕ → Life → Option Asked → Option Standing
by_taken site life None = None
by_taken site life (Some a) = fresh_as site life a

fresh_by : (site : ℕ) (life : Life) (s : SiteStep) (o : Option Asked) → taken_up site life.steps (moment_of life s) ≡ o → fresh_of site life s ≡ by_taken site life o
fresh_by site life s None is = rw is refl
fresh_by site life s (Some a) is = rw is refl

-- whether it is new, by its transaction's card
pub new_is : (cards : Cards) (q : Asked) (c : Card) (r : Bool) → IsFoundByBits q.txn → c ≡ card_at cards.map.entries q.txn → r ≡ is_new_to (seen_state c.seen) c.came q
    → (a : At) → CardsStand a.site cards a.life → r ≡ is_new a.site a.life q
new_is cards q c r known is e a stands =
    e ∙ ap (λ (k : Card). is_new_to (seen_state k.seen) k.came q) (is ∙ stands.cards_are q.txn known)
    ∙ ap (λ (x : State). is_new_to x (filter (λ b. same_txn q.txn b.txn) (arrivals a.site a.life.steps)) q) (state_seen q.txn a.life.log)
    ∙ ap (λ (b : Bool). same_state (state_of q.txn a.life.log) Q && not b) (sym (among_own q.txn q (arrivals a.site a.life.steps) (same_txn_refl q.txn)))

takes : (cards : Cards) (i : Input) (events : List Told) (count : ℕ) (o : Option Asked) → ((a : At) → CardsStand a.site cards a.life → count ≡ issued_before i a.life.steps) → o ≡ brought cards.site count i events
    → (a : At) (s : SiteStep) → CardsStand a.site cards a.life → s.input ≡ i → s.told ≡ events → taken_up a.site a.life.steps (moment_of a.life s) ≡ o
takes cards i events count o counts e a s stands p q =
    taken_is a.site a.life.steps (moment_of a.life s) ∙ ap (λ (x : Input). brought a.site (issued_before x a.life.steps) x s.told) p ∙ ap (λ (x : List Told). brought a.site (issued_before i a.life.steps) i x) q
    ∙ ap (λ (n : ℕ). brought a.site n i events) (sym (counts a stands)) ∙ ap (λ (n : ℕ). brought n count i events) (sym stands.site_is) ∙ sym e

pub fresh_some : (cards : Cards) (i : Input) (events : List Told) (count : ℕ) (q : Asked) (r : Option Standing) → ((a : At) → CardsStand a.site cards a.life → count ≡ issued_before i a.life.steps)
    → Some q ≡ brought cards.site count i events → ((a : At) → CardsStand a.site cards a.life → r ≡ fresh_as a.site a.life q)
    → (a : At) (s : SiteStep) → CardsStand a.site cards a.life → s.input ≡ i → s.told ≡ events → r ≡ fresh_of a.site a.life s
fresh_some cards i events count q r counts e f a s stands p w =
    f a stands ∙ sym (fresh_by a.site a.life s (Some q) (takes cards i events count (Some q) counts e a s stands p w))
