use Rattle.std.proofs.Common.{◌≡◌, ℕ, ◌+◌, List, ◌++◌, [], ◌∷◌, Some, cond, ap, sym, ◌∙◌, subst}
use Rattle.std.specs.Prelude.{unwrap_or}
use Rattle.std.specs.Ordering.{nat_cmp}
use Rattle.std.specs.Cmp.Lexicographic.{slice_cmp}
use Rattle.std.specs.BTreeMap.{is_at}
use Rattle.e3_scenario.specs.Indexes.{at_name, AreCounts}
use Rattle.e3_scenario.proofs.Indexes.{counts_more}
use Rattle.e3_scenario.proofs.names.Operations.push.Goals as goal

pub invariant_of-self-in-Ok : goal.invariant_of-self-in-Ok
invariant_of-self-in-Ok c =
    let entries = c.self.inside.counts.entries in
    let more = c.insert.new.self.entries in
    let name = c.args.name.now in
    let counted : c.unwrap_or-count.result ≡ unwrap_or (at_name entries name) 0 =
    c.unwrap_or-count.ensures ∙ ap (λ o. unwrap_or o 0) (c.copied.ensures ∙ c.get.ensures.value) in
    let Put : List ℕ → Type 0 = λ q. (k : List ℕ) → at_name more k ≡ cond (is_at (slice_cmp nat_cmp q) k) (Some (c.unwrap_or-count.result + 1)) (at_name entries k) in
    let put = subst Put c.copy-2.ensures c.in-Ok.ensures.updates.0 in
    let made = counts_more entries more c.self.inside.names name (c.unwrap_or-count.result + 1) c.self.invariant (ap (λ k. k + 1) counted) put in
    let Are : List (List ℕ) → Type 0 = λ q. AreCounts more q in
    subst Are (sym (c.in_ok-push.ensures.ok ∙ ap (λ x. c.self.inside.names ++ x ∷ []) c.copy.ensures)) made
