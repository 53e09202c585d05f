use Rattle.std.proofs.Common.{◌≡◌, ◌≤◌, ◌++◌, ℕ, List, length, min, sym, subst, ◌∙◌, arith}
use Rattle.e3_fleet.specs.crew.Workers.{HasWorked, HasWorkedWith, places_alone}
use Rattle.e3_fleet.proofs.crew.Few.{are_first, few_found, none_left, same_queue}
use Rattle.e3_fleet.proofs.crew.Turning.{owns_one, worked_behind, worked_none, worked_promised}
use Rattle.e3_turn.specs.Passes.{Owns, seen_by}
use Rattle.e3_types.specs.declared.messages.Packet.{Packet}
use Rattle.e3_wire.proofs.Staying.{are_others_marks}
use Rattle.e3_wire.specs.Marks.{entries_of, last_owner, places_for, scenario_of}
use Rattle.e3_wire.specs.Wires.{HasNoPlaceFor, first_few, places_left}
use Rattle.e3_wire.specs.declared.marks.Mark.{Mark}
use Rattle.e3_fleet.proofs.crew.working.next_packets.Goals as goal

pub next_few-requires-clause-owns : goal.next_few-requires-clause-owns
next_few-requires-clause-owns g c =
    let P : ℕ → Type 0 = λ site. Owns c.args.pass.now site in subst P (sym c.site.ensures) (owns_one _ _ c.requires.pass.owner_is)

pub next_few-requires-clause-exists : goal.next_few-requires-clause-exists
next_few-requires-clause-exists g c =
    let P : ℕ → Type 0 = λ site. site ≤ last_owner (seen_by c.args.pass.now) in subst P (sym c.site.ensures) c.requires.knows.stands.exists

pub returns-in-Ok-clause-promised : goal.returns-in-Ok-clause-promised
returns-in-Ok-clause-promised g c =
    let found = c.in-Ok.ensures.found in
    let between : List Mark = found.0 in
    let node = c.args.node.now in
    let since = are_others_marks c.args.pass.now node.site between (owns_one _ _ c.requires.pass.owner_is) found.1 in
    let worked = worked_behind g.D.Disk.meaning c.others_leave_nodes.ensures.nodes (seen_by c.args.pass.now) since.0 between
    node c.requires.knows since.2 found.5 since.1 in
    let P : ℕ → Type 0 = λ site. seen_by c.next_few.new.pass ≡ between ++ places_for site (length c.in-Ok.few) in
    worked_promised g.D.Disk.meaning c.places_are_noted.ensures.promised (seen_by c.args.pass.now) between (seen_by c.next_few.new.pass)
    node node (length c.in-Ok.few) worked (few_found between c.site.result c.args.most c.in-Ok.few found.2.0 found.5).1 (subst P c.site.ensures found.2.1)

pub returns-in-Ok-clause-few : goal.returns-in-Ok-clause-few
returns-in-Ok-clause-few g c =
    let found = c.in-Ok.ensures.found in (few_found found.0 c.site.result c.args.most c.in-Ok.few found.2.0 found.5).0

-- the site is up, and what was found is the front of the queue to it
pub returns-in-Ok-clause-some : goal.returns-in-Ok-clause-some
returns-in-Ok-clause-some g c = λ some.
    let found = c.in-Ok.ensures.found in
    let between : List Mark = found.0 in
    let marks : List Mark = seen_by c.next_few.new.pass in
    let node = c.args.node.now in
    let few : List Packet = c.in-Ok.few in
    let since = are_others_marks c.args.pass.now node.site between (owns_one _ _ c.requires.pass.owner_is) found.1 in
    let worked = worked_behind g.D.Disk.meaning c.others_leave_nodes.ensures.nodes (seen_by c.args.pass.now) since.0 between
    node c.requires.knows since.2 found.5 since.1 in
    let F : ℕ → Type 0 = λ site. few ≡ first_few between site c.args.most in
    let P : ℕ → Type 0 = λ site. marks ≡ between ++ places_for site (length few) in
    let left = (few_found between c.site.result c.args.most few found.2.0 found.5).1 in
    let is = subst P c.site.ensures found.2.1 in
    let now = worked_promised g.D.Disk.meaning c.places_are_noted.ensures.promised (seen_by c.args.pass.now) between marks
    node node (length few) worked left is in
    let up = sym (c.is_up.ensures.stands (scenario_of marks) (entries_of marks) now.knows.stands) ∙ c.if-not-is_up.false in
    let same = same_queue c.places_are_noted.ensures.promised between marks node.site (length few) found.5 worked.knows.stands.exists left is in
    let most = c.requires.most in
    are_first marks between node.site (min c.args.most (places_left between)) few (subst F c.site.ensures found.2.0) (omega (arith, most)) up same

pub returns-in-Ok-clause-none : goal.returns-in-Ok-clause-none
returns-in-Ok-clause-none g c =
    let found = c.in-Ok.ensures.found in
    let between : List Mark = found.0 in
    let marks : List Mark = seen_by c.next_few.new.pass in
    let node = c.args.node.now in
    let few : List Packet = c.in-Ok.few in
    let since = are_others_marks c.args.pass.now node.site between (owns_one _ _ c.requires.pass.owner_is) found.1 in
    let worked = worked_behind g.D.Disk.meaning c.others_leave_nodes.ensures.nodes (seen_by c.args.pass.now) since.0 between
    node c.requires.knows since.2 found.5 since.1 in
    let F : ℕ → Type 0 = λ site. few ≡ first_few between site c.args.most in
    let P : ℕ → Type 0 = λ site. marks ≡ between ++ places_for site (length few) in
    let Q : ℕ → Type 0 = λ site. HasNoPlaceFor between site c.args.most → ⊥ in
    let left = (few_found between c.site.result c.args.most few found.2.0 found.5).1 in
    let same = same_queue c.places_are_noted.ensures.promised between marks node.site (length few) found.5 worked.knows.stands.exists left (subst P c.site.ensures found.2.1) in
    let no_refusal : HasNoPlaceFor between c.site.result c.args.most → ⊥ = λ none. (let refused = found.4.1 none in cc) in
    none_left marks between node.site c.args.most few (subst F c.site.ensures found.2.0) c.requires.some (subst Q c.site.ensures no_refusal) same

pub returns-in-Err-clause-kept : goal.returns-in-Err-clause-kept
returns-in-Err-clause-kept g c =
    let found = c.in-Err.ensures.found in
    let between : List Mark = found.0 in
    let node = c.args.node.now in
    let since = are_others_marks c.args.pass.now node.site between (owns_one _ _ c.requires.pass.owner_is) found.1 in
    let worked = worked_behind g.D.Disk.meaning c.others_leave_nodes.ensures.nodes (seen_by c.args.pass.now) since.0 between
    node c.requires.knows since.2 found.5 since.1 in
    subst (λ (l : List Mark). HasWorked g.D.Disk.meaning (seen_by c.args.pass.now) node l node) (sym found.3) worked

pub returns-then-not-is_up-clause-promised : goal.returns-then-not-is_up-clause-promised
returns-then-not-is_up-clause-promised g c =
    let pass = seen_by c.args.pass.now in
    let node = c.args.node.now in
    subst (λ (few : List Packet). HasWorkedWith g.D.Disk.meaning (places_alone (length few)) pass node pass node) (sym c.new.ensures)
    (worked_none g.D.Disk.meaning pass node c.requires.knows)
