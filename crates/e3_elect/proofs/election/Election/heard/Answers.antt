-- a new member's answer has room, and counts
use Rattle.std.proofs.Common.{◌≡◌, ◌∙◌, ap, sym, arith, refl, true, List, [], ◌∷◌, ◌++◌, length, map, vec_len}
use Rattle.std.specs.Prelude.{◌==◌, Some}
use Rattle.std.specs.List.{list_any}
use Rattle.e3_types.specs.Same.{same_call}
use Rattle.e3_types.specs.Sets.{has_site}
use Rattle.e3_world.specs.Gatherings.{Election}
use Rattle.e3_world.specs.declared.elections.Named.{Named}
use Rattle.e3_world.specs.Elections.{hear}
use Rattle.e3_elect.specs.Calling.{are_behind_elector}
use Rattle.e3_elect.proofs.Members.{has_room_behind_own, comes_behind_own}
use Rattle.e3_elect.proofs.Taking.{awaited_parts, hear_new}
use Rattle.e3_elect.proofs.election.Election.heard.Goals as goal

pub push_reserved-requires : goal.push_reserved-requires
push_reserved-requires c =
    let counts = awaited_parts (same_call c.self.inside.call c.args.call) (has_site c.self.inside.group c.args.from) (list_any (λ h. h.site == c.args.from) c.self.inside.heard.items) cc in
    let n : length c.self.inside.heard.items ≡ vec_len c.self.inside.heard = ap (λ (l : List Named). length l) (sym c.deref.ensures.value) ∙ c.deref.ensures.len in
    let room = has_room_behind_own (λ (h : Named). h.site) c.self.inside.group c.self.inside.heard.items c.args.from c.self.invariant.2 counts.1 counts.2 in
    omega (arith, room, n, c.self.invariant.0)

pub invariant_of-self : goal.invariant_of-self
invariant_of-self c =
    let counts = awaited_parts (same_call c.self.inside.call c.args.call) (has_site c.self.inside.group c.args.from) (list_any (λ h. h.site == c.args.from) c.self.inside.heard.items) cc in
    let x : Named = record { site = c.args.from; elected = c.args.elected } in
    let members : are_behind_elector c.self.inside.group (map (λ (h : Named). h.site) c.push_reserved.new.self.items) ≡ true =
    ap (λ (l : List Named). are_behind_elector c.self.inside.group (map (λ (h : Named). h.site) l)) c.push_reserved.ensures.items
    ∙ comes_behind_own (λ (h : Named). h.site) c.self.inside.group c.self.inside.heard.items x c.self.invariant.2 counts.1 counts.2 in
    (omega (arith, c.self.invariant.0, c.push_reserved.ensures.capacity), c.self.invariant.1, members, c.self.invariant.3)

pub returns : goal.returns
returns c =
    let counts = awaited_parts (same_call c.self.inside.call c.args.call) (has_site c.self.inside.group c.args.from) (list_any (λ h. h.site == c.args.from) c.self.inside.heard.items) cc in
    let e : Election = record { call = c.self.inside.call; group = c.self.inside.group; heard = c.self.inside.heard.items; number = c.self.inside.joined; reports = c.self.inside.reports.items } in
    let h : hear c.args.self.now c.args.from c.args.call c.args.elected ≡ Some (record e { heard = e.heard ++ record { site = c.args.from; elected = c.args.elected } ∷ [] }) =
    ap (λ (a : Election). hear a c.args.from c.args.call c.args.elected) (sym c.self.view_is) ∙ hear_new e c.args.from c.args.call c.args.elected counts.0 counts.1 counts.2 in
    let items = c.push_reserved.ensures.items in
    rw h (refl, λ i. record e { heard = items i })
