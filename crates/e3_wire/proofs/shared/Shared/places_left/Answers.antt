use Rattle.std.proofs.Common.{◌≡◌, ◌+◌, ◌-◌, ◌≤◌, List, ap, subst, ◌∙◌, arith}
use Rattle.e3_wire.specs.declared.marks.Mark.{Mark}
use Rattle.e3_wire.specs.Marks.{used_of}
use Rattle.e3_wire.specs.Stores.{marks_from}
use Rattle.e3_wire.specs.Wires.{places_left}
use Rattle.e3_wire.proofs.Claiming.{used_is}
use Rattle.e3_wire.proofs.shared.Shared.places_left.Goals as goal

pub overflow_add-used : goal.overflow_add-used
overflow_add-used c =
    let s = c.self.inside in
    let used = used_is s.scenario s.most s.store.history.entries s.store.stored.items c.self.invariant.whole in
    let within : used_of (marks_from s.scenario s.most s.store.history.entries s.store.stored.items) ≤ s.most = c.self.invariant.stands.played.within in
    let few : s.most ≤ 2000000 = c.self.invariant.stands.played.few in
    omega (arith, used, within, c.self.invariant.places_are, c.len.ensures, few)

pub returns : goal.returns
returns c =
    let s = c.self.inside in
    let used = used_is s.scenario s.most s.store.history.entries s.store.stored.items c.self.invariant.whole in
    let same : c.len.result + s.places ≡ used_of (marks_from s.scenario s.most s.store.history.entries s.store.stored.items) = omega (arith, used, c.self.invariant.places_are, c.len.ensures) in
    subst (λ (l : List Mark). c.saturating_sub.result ≡ places_left l) c.self.view_is
    (c.saturating_sub.ensures ∙ ap (λ n. n - (c.len.result + s.places)) c.from.ensures ∙ ap (λ n. s.most - n) same)
