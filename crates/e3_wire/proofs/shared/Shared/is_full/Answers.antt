use Rattle.std.proofs.Common.{◌≡◌, ◌+◌, ◌≤◌, List, nat_le, ap, subst, ◌∙◌, arith}
use Rattle.e3_wire.specs.declared.marks.Mark.{Mark}
use Rattle.e3_wire.specs.Marks.{most_of, used_of}
use Rattle.e3_wire.specs.Stores.{marks_from}
use Rattle.e3_wire.proofs.Claiming.{used_is}
use Rattle.e3_wire.proofs.shared.Shared.is_full.Goals as goal

pub overflow_add-result : goal.overflow_add-result
overflow_add-result c =
    let s = c.self.inside in
    let used = used_is s.scenario s.most s.store.history.entries s.store.stored.items c.self.invariant.whole in
    let within : used_of (marks_from s.scenario s.most s.store.history.entries s.store.stored.items) ≤ s.most = c.self.invariant.stands.played.within in
    omega (arith, used, within, c.self.invariant.places_are, c.len.ensures, c.from.ensures, c.from.type_inv)

pub returns : goal.returns
returns c =
    let s = c.self.inside in
    let used = used_is s.scenario s.most s.store.history.entries s.store.stored.items c.self.invariant.whole in
    let same : c.len.result + s.places ≡ used_of (marks_from s.scenario s.most s.store.history.entries s.store.stored.items) = omega (arith, used, c.self.invariant.places_are, c.len.ensures) in
    subst (λ (l : List Mark). nat_le c.from.result (c.len.result + s.places) ≡ nat_le (most_of l) (used_of l)) c.self.view_is
    (ap (λ n. nat_le n (c.len.result + s.places)) c.from.ensures ∙ ap (nat_le s.most) same)
