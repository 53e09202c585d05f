-- one more is held
use Rattle.std.proofs.Common.{◌≡◌, ◌+◌, ◌∙◌, ap, sym}
use Rattle.e3_locks.specs.Places.{requested}
use Rattle.e3_locks.specs.Standing.{Standing}
use Rattle.e3_types.specs.declared.locks.Grant.{Grant}
use Rattle.e3_types.specs.declared.locks.Grant.TheVariants.{Held}
use Rattle.e3_locks.proofs.TwoParts.{view, cut_insert}
use Rattle.e3_locks.proofs.place.NameLocks.put.Goals as goal

pub returns-in_ok-insert_lock-in-Held-clause-ok : goal.returns-in_ok-insert_lock-in-Held-clause-ok
returns-in_ok-insert_lock-in-Held-clause-ok c =
    let name : c.self.inside.name ≡ c.args.self.now.name = ap (λ (s : Standing). s.name) c.self.view_is in
    let place : view c.insert_lock.new.locks.items (c.self.inside.held + 1) ≡ requested c.args.wanted.now Held c.args.self.now.place =
    cut_insert c.self.inside.locks.items c.insert_lock.new.locks.items c.self.inside.held c.args.wanted.now c.args.self.now.place c.self.invariant
    (ap (λ (s : Standing). s.place) c.self.view_is) c.in_ok-insert_lock-in-Held.ensures.ok in
    let held : view c.insert_lock.new.locks.items (c.self.inside.held + 1) ≡ requested c.args.wanted.now c.args.grant.now c.args.self.now.place =
    place ∙ ap (λ (g : Grant). requested c.args.wanted.now g c.args.self.now.place) (sym c.in-Held.is) in
    λ i. record { name = name i; place = held i }
