-- a new member's report has room, and counts
use Rattle.std.proofs.Common.{◌≡◌, ◌∙◌, ap, sym, arith, refl, true, List, [], ◌∷◌, ◌++◌, length, map, vec_len}
use Rattle.std.specs.Prelude.{◌==◌, Some}
use Rattle.std.specs.List.{list_any}
use Rattle.e3_types.specs.declared.verdicts.SiteReport.{SiteReport}
use Rattle.e3_types.specs.Sets.{has_site}
use Rattle.e3_world.specs.Gatherings.{Election}
use Rattle.e3_world.specs.Elections.{take_report}
use Rattle.e3_elect.specs.Calling.{are_behind_elector}
use Rattle.e3_elect.proofs.Members.{has_room_behind_own, comes_behind_own}
use Rattle.e3_elect.proofs.Taking.{is_number, owed_parts, take_new}
use Rattle.e3_elect.proofs.election.Election.reported.Goals as goal
use Rattle.e3_elect.proofs.election.Election.reported.Goals.{in-Some, in-None}

pub push_reserved-requires : goal.push_reserved-requires
push_reserved-requires c =
    let counts = owed_parts (has_site c.self.inside.group c.args.report.site) (list_any (λ r. r.site == c.args.report.site) c.self.inside.reports.items) cc in
    let n : length c.self.inside.reports.items ≡ vec_len c.self.inside.reports = ap (λ (l : List SiteReport). length l) (sym c.deref.ensures.value) ∙ c.deref.ensures.len in
    let room = has_room_behind_own (λ (r : SiteReport). r.site) c.self.inside.group c.self.inside.reports.items c.args.report.site c.self.invariant.3 counts.0 counts.1 in
    omega (arith, room, n, c.self.invariant.1)

pub invariant_of-self : goal.invariant_of-self
invariant_of-self c =
    let counts = owed_parts (has_site c.self.inside.group c.args.report.site) (list_any (λ r. r.site == c.args.report.site) c.self.inside.reports.items) cc in
    let members : are_behind_elector c.self.inside.group (map (λ (r : SiteReport). r.site) c.push_reserved.new.self.items) ≡ true =
    ap (λ (l : List SiteReport). are_behind_elector c.self.inside.group (map (λ (r : SiteReport). r.site) l)) c.push_reserved.ensures.items
    ∙ comes_behind_own (λ (r : SiteReport). r.site) c.self.inside.group c.self.inside.reports.items c.args.report c.self.invariant.3 counts.0 counts.1 in
    (c.self.invariant.0, omega (arith, c.self.invariant.1, c.push_reserved.ensures.capacity), c.self.invariant.2, members)

pub returns : goal.returns
returns c =
    let counts = owed_parts (has_site c.self.inside.group c.args.report.site) (list_any (λ r. r.site == c.args.report.site) c.self.inside.reports.items) cc in
    let this : is_number c.self.inside.joined c.args.n ≡ true =
    elim c.match-self.branch [
      | in-Some w ↦ (let q : (c.args.n == w.in-Some.joined) ≡ true = cc in rw w.in-Some.is q)
      | in-None w ↦ cc
    ] in
    let e : Election = record { call = c.self.inside.call; group = c.self.inside.group; heard = c.self.inside.heard.items; number = c.self.inside.joined; reports = c.self.inside.reports.items } in
    let h : take_report c.args.self.now c.args.n c.args.report ≡ Some (record e { reports = e.reports ++ c.args.report ∷ [] }) =
    ap (λ (a : Election). take_report a c.args.n c.args.report) (sym c.self.view_is)
    ∙ take_new c.self.inside.call c.self.inside.group c.self.inside.heard.items c.self.inside.joined c.self.inside.reports.items c.args.n c.args.report this counts.0 counts.1 in
    let items = c.push_reserved.ensures.items in
    rw h (refl, λ i. record e { reports = items i })
