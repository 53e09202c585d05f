use Rattle.std.proofs.Common.{◌≡◌, ◌≤◌, ap, ◌∙◌, subst, sym, true, List, arith}
use Rattle.e3_disk.specs.Meters.{Meters}
use Rattle.e3_node.specs.NodeStands.{IsIn}
use Rattle.e3_node.specs.NodeView.{NodeView}
use Rattle.e3_node.specs.SharedStands.{HasEntered}
use Rattle.e3_types.specs.declared.entries.Act.TheVariants.{Cut}
use Rattle.e3_types.specs.declared.entries.Entry.{Entry}
use Rattle.e3_wire.specs.Marks.{entries_of, last_owner, scenario_of, used_by}
use Rattle.e3_wire.specs.declared.marks.Note.{Note}
use Rattle.e3_world.specs.Items.{is_up_at}
use Rattle.e3_world.specs.Legal.{IsCut}
use Rattle.e3_node.proofs.Guarding.{cut_guard}
use Rattle.e3_node.proofs.Sharing.{claimed_note, may_enter}
use Rattle.e3_node.proofs.Steps.{cut_in, node_with}
use Rattle.e3_node.proofs.node.Node.cut.Goals as goal

pub claim-requires-clause-exists : goal.claim-requires-clause-exists
claim-requires-clause-exists g c =
    subst (λ (x : NodeView _). x.site ≤ last_owner c.args.shared.now) (sym c.self.view_is) c.requires.standing.exists

pub enter-requires-clause-may : goal.enter-requires-clause-may
enter-requires-clause-may g c =
    let was = c.args.shared.now in
    let sc = scenario_of was in
    let h = entries_of was in
    let up : is_up_at h c.args.self.now.site ≡ true = sym (c.if-not-is_up.ensures.stands sc h c.requires.standing) in
    let crash : IsCut sc h c.self.inside.site = subst (λ (x : NodeView _). IsCut sc h x.site) (sym c.self.view_is) (c.requires.crash up) in
    let some : 1 ≤ c.self.inside.site = subst (λ (x : NodeView _). 1 ≤ x.site) (sym c.self.view_is) c.requires.standing.some in
    let e : Entry = record { owner = c.self.inside.site; act = Cut } in
    may_enter was c.claim.new.shared 0 e c.in_ok-claim.ensures.claimed some (cut_guard sc h c.self.inside.site some crash) tt (omega arith) (omega arith)

pub enter-requires-clause-all : goal.enter-requires-clause-all
enter-requires-clause-all g c =
    ap (λ (w : Note). used_by w Cut) (claimed_note c.self.inside.site 0 c.args.shared.now c.claim.new.shared c.in_ok-claim.ensures.claimed)

pub returns-clause-stands : goal.returns-clause-stands
returns-clause-stands g c =
    let was = c.args.shared.now in
    let sc = scenario_of was in
    let h = entries_of was in
    let site = c.self.inside.site in
    let state = c.replace_with.new.dest in
    let e : Entry = record { owner = site; act = Cut } in
    let has : HasEntered e was c.enter.new.shared = c.enter.ensures was 0 c.in_ok-claim.ensures.claimed in
    let more = entries_of c.enter.new.shared in
    let before : IsIn g.D.Disk.meaning sc h site c.self.inside.state =
    subst (λ (x : NodeView _). IsIn g.D.Disk.meaning sc h x.site x.state) (sym c.self.view_is) c.requires.standing.state in
    let behind : IsIn g.D.Disk.meaning sc more site state =
    subst (λ (l : List Entry). IsIn g.D.Disk.meaning sc l site state) (sym has.entries)
    (cut_in g.D.Disk.meaning sc h site c.self.inside.state state before c.replace_with.ensures.0
    c.replace_with.ensures.1.1.0 c.replace_with.ensures.1.0 (ap (λ (m : Meters). m.capacity) c.replace_with.ensures.1.1.1)) in
    node_with g.D.Disk.meaning sc (scenario_of c.enter.new.shared) h more c.args.self.now _ state c.requires.standing
    has.on.scenario
    (subst (λ (x : NodeView _). IsIn g.D.Disk.meaning sc more x.site state) c.self.view_is behind)
    (ap (λ (x : NodeView _). let n : NodeView _ = record { site = x.site; weights = x.weights; rows = x.rows; state = state } in n) c.self.view_is)

pub returns-clause-shared : goal.returns-clause-shared
returns-clause-shared g c = (c.enter.ensures c.args.shared.now 0 c.in_ok-claim.ensures.claimed).on

pub returns-clause-down : goal.returns-clause-down
returns-clause-down g c =
    let was = c.args.shared.now in
    let up : is_up_at (entries_of was) c.args.self.now.site ≡ true = sym (c.if-not-is_up.ensures.stands (scenario_of was) (entries_of was) c.requires.standing) in
    (λ is. absurd cc, λ no. absurd (let both = sym up ∙ no in cc))

pub returns-clause-full : goal.returns-clause-full
returns-clause-full g c = λ up.
    (λ is. absurd cc, λ all. absurd (let full = c.in_ok-claim.ensures.full.1 all in cc))
