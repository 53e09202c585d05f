use Rattle.std.proofs.Common.{◌≡◌, ◌-◌, ℕ, List, Some, cond, length, ap, sym, ◌∙◌, subst}
use Rattle.std.specs.Prelude.{remove}
use Rattle.std.specs.Ordering.{nat_cmp}
use Rattle.std.specs.Cmp.Lexicographic.{slice_cmp}
use Rattle.std.specs.BTreeMap.{is_at}
use Rattle.e3_types.specs.declared.transactions.Txn.{Txn}
use Rattle.e3_world.specs.declared.names.Bound.{Bound}
use Rattle.e3_readings.specs.Lasts.{AreLasts, at_name}
use Rattle.e3_readings.proofs.Lasting.{lasts_more, taken_back}
use Rattle.e3_readings.proofs.bound_names.BoundNames.push.Goals as goal

pub invariant_of-self-in-Ok : goal.invariant_of-self-in-Ok
invariant_of-self-in-Ok c =
    let entries = c.self.inside.lasts.entries in
    let more = c.insert.new.self.entries in
    let Put : List ℕ → Type 0 = λ q. (k : List ℕ) → at_name more k ≡ cond (is_at (slice_cmp nat_cmp q) k) (Some c.args.bound.txn) (at_name entries k) in
    let put = subst Put c.copy-name.ensures c.in-Ok.ensures.updates.0 in
    subst (λ (l : List Bound). AreLasts more l) (sym c.in_ok-push.ensures.ok) (lasts_more entries more c.self.inside.bound c.args.bound c.self.invariant put)

pub invariant_of-self-in-Err : goal.invariant_of-self-in-Err
invariant_of-self-in-Err c =
    let back : c.remove.new.self ≡ c.self.inside.bound = c.remove.ensures.rest ∙ ap (λ (l : List Bound). remove l (c.len.result - 1)) c.in_ok-push.ensures.ok
    ∙ taken_back c.self.inside.bound c.args.bound c.len.result (c.len.ensures ∙ ap length c.in_ok-push.ensures.ok) in
    subst (λ (l : List Bound). AreLasts c.insert.new.self.entries l) (sym back)
    (subst (λ (m : List (List ℕ × Txn)). AreLasts m c.self.inside.bound) (sym c.in-Err.ensures.err) c.self.invariant)
