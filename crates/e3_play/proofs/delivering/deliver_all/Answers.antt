use Rattle.std.proofs.Common.{◌≡◌, ◌∙◌, Some, sym, subst, ap}
use Rattle.e3_types.specs.declared.scenarios.Scenario.{Scenario}
use Rattle.e3_world.specs.Legal.{first_pending}
use Rattle.e3_world.specs.Packets.{pending}
use Rattle.e3_world.specs.Progress.{Delivering}
use Rattle.e3_world.proofs.Guards.{nothing_first}
use Rattle.e3_play.specs.Delivered.{Nothing, Then}
use Rattle.e3_play.specs.Entering.{AfterPacket}
use Rattle.e3_play.proofs.Onward.{goes_on, rests}
use Rattle.e3_play.proofs.Packets.{packet_lowers, stays_delivering}
use Rattle.e3_play.proofs.delivering.deliver_all.Goals as goal

pub loop-packet-init : goal.loop-packet-init
loop-packet-init g c = record {
  on = rests c.requires.standing;
  delivered = Nothing;
}

pub deliver-requires-clause-delivering : goal.deliver-requires-clause-delivering
deliver-requires-clause-delivering g c =
    let S = g.S.Sites in
    let was = c.loop-packet.invariant in
    subst (λ sc. Delivering sc (S.entries c.loop-packet.sites)) (sym was.on.scenario)
    (stays_delivering (S.scenario c.args.sites.now) (S.entries c.args.sites.now) (S.entries c.loop-packet.sites) c.requires.delivering was.delivered).delivering

pub deliver-requires-clause-begun : goal.deliver-requires-clause-begun
deliver-requires-clause-begun g c = λ none.
    let S = g.S.Sites in
    let was = c.loop-packet.invariant in
    c.requires.begun (sym (stays_delivering (S.scenario c.args.sites.now) (S.entries c.args.sites.now) (S.entries c.loop-packet.sites) c.requires.delivering was.delivered).same_lines ∙ none)

pub loop-packet-preserved : goal.loop-packet-preserved
loop-packet-preserved g c =
    let S = g.S.Sites in
    let start = c.args.sites.now in
    let was = c.loop-packet.invariant in
    let now = c.in_ok-deliver.ensures in
    let same : S.scenario c.loop-packet.sites ≡ S.scenario start = was.on.scenario in
    record {
      on = goes_on was.on now.on;
      delivered = Then (S.entries c.loop-packet.sites) (S.entries c.deliver.new.sites) c.in-Some.packet was.delivered
          (subst (λ sc. first_pending sc (S.entries c.loop-packet.sites) ≡ Some c.in-Some.packet) same (sym c.first.ensures ∙ c.in-Some.is))
          (subst (λ sc. AfterPacket sc (S.entries c.loop-packet.sites) c.in-Some.packet (S.entries c.deliver.new.sites)) same now.entered);
    }

pub loop-packet-smaller : goal.loop-packet-smaller
loop-packet-smaller g c =
    let S = g.S.Sites in
    let start = c.args.sites.now in
    let was = c.loop-packet.invariant in
    let same : S.scenario c.loop-packet.sites ≡ S.scenario start = was.on.scenario in
    packet_lowers (S.scenario start) (S.entries c.loop-packet.sites) (S.entries c.deliver.new.sites) c.in-Some.packet c.taking_lowers_the_measure.ensures.lowers
    (g.met.S.Sites.is_given start c.requires.standing)
    (stays_delivering (S.scenario start) (S.entries start) (S.entries c.loop-packet.sites) c.requires.delivering was.delivered).delivering
    (subst (λ sc. first_pending sc (S.entries c.loop-packet.sites) ≡ Some c.in-Some.packet) same (sym c.first.ensures ∙ c.in-Some.is))
    (subst (λ sc. AfterPacket sc (S.entries c.loop-packet.sites) c.in-Some.packet (S.entries c.deliver.new.sites)) same c.in_ok-deliver.ensures.entered)

pub returns-in_err-deliver-clause-delivering : goal.returns-in_err-deliver-clause-delivering
returns-in_err-deliver-clause-delivering g c =
    let S = g.S.Sites in
    let was = c.loop-packet.invariant in
    subst (λ h. Delivering (S.scenario c.args.sites.now) h) (sym c.in_err-deliver.ensures.kept)
    (stays_delivering (S.scenario c.args.sites.now) (S.entries c.args.sites.now) (S.entries c.loop-packet.sites) c.requires.delivering was.delivered).delivering

pub returns-clause-delivering : goal.returns-clause-delivering
returns-clause-delivering g c =
    let S = g.S.Sites in
    (stays_delivering (S.scenario c.args.sites.now) (S.entries c.args.sites.now) (S.entries c.loop-packet.sites) c.requires.delivering c.loop-packet.invariant.delivered).delivering

pub returns-clause-settled : goal.returns-clause-settled
returns-clause-settled g c =
    let S = g.S.Sites in
    let start = c.args.sites.now in
    let was = c.loop-packet.invariant in
    let same : S.scenario c.loop-packet.sites ≡ S.scenario start = was.on.scenario in
    ap (λ (sc : Scenario). pending sc (S.entries c.loop-packet.sites)) (sym same)
    ∙ nothing_first (pending (S.scenario c.loop-packet.sites) (S.entries c.loop-packet.sites)) (sym c.first.ensures ∙ c.in_default.is)
