-- A packet to a site is shown exactly where its queue has one.
use Rattle.std.proofs.Common.{◌≡◌, ◌≢◌, ◌==◌, ◌≤◌, ℕ, zero, suc, Bool, true, false, List, [], ◌∷◌, ◌++◌, ◌∙◌, ap, sym, refl, arith, Some, None}
use Rattle.std.specs.Prelude.{Option, find, is_some, option_map, replicate}
use Rattle.e3_types.specs.declared.entries.Entry.{Entry}
use Rattle.e3_types.specs.declared.messages.Packet.{Packet}
use Rattle.e3_types.specs.declared.scenarios.Scenario.{Scenario}
use Rattle.e3_world.specs.Packets.{pending}
use Rattle.e3_laws.specs.local.Least.{queue_to}
use Rattle.e3_laws.proofs.local.Least.{least_is}
use Rattle.e3_net.specs.declared.waiting.Waiting.{Waiting}
use Rattle.e3_net.specs.Stands.{waiting_of}
use Rattle.e3_net.specs.Traffic.{goes_to, queue_in}
use Rattle.e3_net.proofs.Copies.{Live}
use Rattle.e3_net.proofs.Pushing.{waiting_live}

-- the first that waits for the site
abbrev first_to : ℕ → List Waiting → Option Packet
first_to site ws = option_map (λ w. w.packet) (find (goes_to site) ws)

none_waits : (site : ℕ) (ws : List Waiting) → first_to site ws ≡ None → queue_in site ws ≡ []
none_waits site [] none = refl
none_waits site (w ∷ ws) none = by (goes_to site w) refl (none_waits site ws)
  where
    by : (b : Bool) → goes_to site w ≡ b → (first_to site ws ≡ None → queue_in site ws ≡ []) → queue_in site (w ∷ ws) ≡ []
    by true here more = absurd (let found : first_to site (w ∷ ws) ≡ Some w.packet = rw here refl in let both : Some w.packet ≡ None = sym found ∙ none in cc)
    by false other more =
        let passed : first_to site (w ∷ ws) ≡ first_to site ws = rw other refl in
        rw other (more (sym passed ∙ none))

empty_waits : (site : ℕ) (ws : List Waiting) → Live ws → queue_in site ws ≡ [] → first_to site ws ≡ None
empty_waits site [] live is = refl
empty_waits site (w ∷ ws) live is = by (goes_to site w) refl w.copies refl (empty_waits site ws live.1)
  where
    by : (b : Bool) → goes_to site w ≡ b → (c : ℕ) → w.copies ≡ c → (queue_in site ws ≡ [] → first_to site ws ≡ None) → first_to site (w ∷ ws) ≡ None
    by true here zero none more = absurd (let some : 1 ≤ w.copies = live.0 in omega (arith, some, none))
    by true here (suc c) some more = absurd (
        let whole : queue_in site (w ∷ ws) ≡ replicate w.copies w.packet ++ queue_in site ws = rw here refl in
        let parts : w.packet ∷ (replicate c w.packet ++ queue_in site ws) ≡ [] = sym (ap (λ (k : ℕ). replicate k w.packet ++ queue_in site ws) some) ∙ sym whole ∙ is in
        cc)
    by false other c is_c more =
        let passed : first_to site (w ∷ ws) ≡ first_to site ws = rw other refl in
        passed ∙ more (sym (let q : queue_in site (w ∷ ws) ≡ queue_in site ws = rw other refl in q) ∙ is)

-- none is pending to the site
none_to : (sc : Scenario) (h : List Entry) (site : ℕ) → find (λ q. q.to == site) (pending sc h) ≡ None → queue_to sc h site ≡ []
none_to sc h site none = none_waits site (waiting_of sc h) (sym (least_is sc h site) ∙ none)

-- some packet is
some_to : (sc : Scenario) (h : List Entry) (site : ℕ) (p : Packet) → find (λ q. q.to == site) (pending sc h) ≡ Some p → queue_to sc h site ≢ []
some_to sc h site p some is =
    let none : find (λ q. q.to == site) (pending sc h) ≡ None = least_is sc h site ∙ empty_waits site (waiting_of sc h) (waiting_live sc h) is in
    let both : Some p ≡ None = sym some ∙ none in cc

pub shown_is : (sc : Scenario) (h : List Entry) (site : ℕ) (first : Option Packet) → first ≡ find (λ q. q.to == site) (pending sc h) →
    (is_some first ≡ true → queue_to sc h site ≢ []) × (queue_to sc h site ≢ [] → is_some first ≡ true)
shown_is sc h site None is = (λ yes. absurd cc, λ some. absurd (some (none_to sc h site (sym is))))
shown_is sc h site (Some p) is = (λ yes. some_to sc h site p (sym is), λ some. refl)
