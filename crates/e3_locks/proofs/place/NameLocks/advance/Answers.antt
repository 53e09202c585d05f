-- the border moves behind the front
use Rattle.std.proofs.Common.{◌≡◌, ◌+◌, ap}
use Rattle.e3_locks.specs.Places.{advanced}
use Rattle.e3_locks.specs.Standing.{Standing}
use Rattle.e3_locks.proofs.TwoParts.{view, cut_advanced}
use Rattle.e3_locks.proofs.place.NameLocks.advance.Goals as goal

pub returns : goal.returns
returns c =
    let name : c.self.inside.name ≡ c.args.self.now.name = ap (λ (s : Standing). s.name) c.self.view_is in
    let place : view c.self.inside.locks.items (c.self.inside.held + c.front_length-more.result) ≡ advanced c.args.self.now.place =
    cut_advanced c.self.inside.locks.items c.self.inside.held c.front_length-more.result c.args.self.now.place c.self.invariant (ap (λ (s : Standing). s.place) c.self.view_is)
    c.front_length-more.ensures.few c.front_length-more.ensures.front in
    λ i. record { name = name i; place = place i }
