-- the border moves with those who leave
use Rattle.std.proofs.Common.{◌≡◌, ◌∙◌, ap, take, length, List}
use Rattle.e3_types.specs.declared.locks.Lock.{Lock}
use Rattle.e3_locks.specs.Places.{others_of, without}
use Rattle.e3_locks.specs.Standing.{Standing}
use Rattle.e3_locks.proofs.TwoParts.{view, cut_without, few_without}
use Rattle.e3_locks.proofs.place.NameLocks.remove.Goals as goal

pub invariant_of-self : goal.invariant_of-self
invariant_of-self c =
    few_without c.self.inside.locks.items c.keep_others.new.locks.items c.self.inside.held c.count_others-held.result c.args.t.now
    (c.count_others-held.ensures ∙ ap (λ (l : List Lock). length (others_of c.args.t.now (take c.self.inside.held l))) c.deref.ensures.value) c.keep_others.ensures

pub returns : goal.returns
returns c =
    let name : c.self.inside.name ≡ c.args.self.now.name = ap (λ (s : Standing). s.name) c.self.view_is in
    let place : view c.keep_others.new.locks.items c.count_others-held.result ≡ without c.args.t.now c.args.self.now.place =
    cut_without c.self.inside.locks.items c.keep_others.new.locks.items c.self.inside.held c.count_others-held.result c.args.t.now c.args.self.now.place
    (ap (λ (s : Standing). s.place) c.self.view_is)
    (c.count_others-held.ensures ∙ ap (λ (l : List Lock). length (others_of c.args.t.now (take c.self.inside.held l))) c.deref.ensures.value) c.keep_others.ensures in
    λ i. record { name = name i; place = place i }
