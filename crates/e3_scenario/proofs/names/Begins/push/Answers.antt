use Rattle.std.proofs.Common.{◌≡◌, ℕ, true, false, List, Some, cond, ap, sym, ◌∙◌, subst}
use Rattle.std.specs.Prelude.{is_some}
use Rattle.std.specs.Ordering.{nat_cmp}
use Rattle.std.specs.Cmp.Lexicographic.{slice_cmp}
use Rattle.std.specs.BTreeMap.{is_at}
use Rattle.e3_world.specs.Given.{BegunName}
use Rattle.e3_scenario.specs.Indexes.{at_name, AreSites}
use Rattle.e3_scenario.proofs.Indexes.{sites_known, sites_new}
use Rattle.e3_scenario.proofs.names.Begins.push.Goals as goal

pub invariant_of-self-then-known : goal.invariant_of-self-then-known
invariant_of-self-then-known c =
    let entries = c.self.inside.sites.entries in
    let name : c.copy-name.result ≡ c.args.begun.name = c.copy-name.ensures ∙ ap (λ b. b.name) c.begun.view_is in
    let Known : List ℕ → Type 0 = λ q. is_some (at_name entries q) ≡ true in
    let known = subst Known name (sym c.contains_key-known.ensures ∙ c.if-known.true) in
    let Are : List BegunName → Type 0 = λ q. AreSites entries q in
    subst Are (sym c.in_ok-push.ensures.ok) (sites_known entries c.self.inside.begun c.args.begun c.self.invariant known)

pub invariant_of-self-in-Ok : goal.invariant_of-self-in-Ok
invariant_of-self-in-Ok c =
    let entries = c.self.inside.sites.entries in
    let more = c.insert.new.self.entries in
    let name : c.copy-name.result ≡ c.args.begun.name = c.copy-name.ensures ∙ ap (λ b. b.name) c.begun.view_is in
    let sites : c.begun.inside.sites ≡ c.args.begun.sites = ap (λ b. b.sites) c.begun.view_is in
    let Unknown : List ℕ → Type 0 = λ q. is_some (at_name entries q) ≡ false in
    let unknown = subst Unknown name (sym c.contains_key-known.ensures ∙ c.if-known.false) in
    let Put : List ℕ → Type 0 = λ q. (k : List ℕ) → at_name more k ≡ cond (is_at (slice_cmp nat_cmp q) k) (Some c.begun.inside.sites) (at_name entries k) in
    let put = subst Put name c.in-Ok.ensures.updates.0 in
    let Given : List ℕ → Type 0 = λ q. (k : List ℕ) → at_name more k ≡ cond (is_at (slice_cmp nat_cmp c.args.begun.name) k) (Some q) (at_name entries k) in
    let Are : List BegunName → Type 0 = λ q. AreSites more q in
    subst Are (sym c.in_ok-push.ensures.ok) (sites_new entries more c.self.inside.begun c.args.begun c.self.invariant unknown (subst Given sites put))
