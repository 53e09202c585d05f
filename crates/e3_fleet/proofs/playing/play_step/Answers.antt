use Rattle.std.proofs.Common.{◌≡◌, ◌∙◌, [], ℕ, suc, true, List, ap, sym, subst}
use Rattle.std.specs.Prelude.{MatchOption, Option}
use Rattle.e3_fleet.specs.Settling.{history_in, most_in, scenario_in}
use Rattle.e3_fleet.proofs.playing.play_step.Goals as goal
use Rattle.e3_play.specs.Played.{IsReady, IsSettled}
use Rattle.e3_play.proofs.Answered.{always, on_ok_two}
use Rattle.e3_play.proofs.Knowing.{knows_step}
use Rattle.e3_play.specs.Delivered.{IsFull, IsFullBefore, IsItemOrPacket, IsOwed, OfSites}
use Rattle.e3_play.specs.Settled.{StaysInStep, is_asking}
use Rattle.e3_play.proofs.DuePackets.{full_too}
use Rattle.e3_play.proofs.SameSteps.{same_step}
use Rattle.e3_types.specs.declared.entries.Entry.{Entry}
use Rattle.e3_types.specs.declared.scenarios.Scenario.{Scenario}
use Rattle.e3_world.specs.Items.{plan_of}
use Rattle.e3_world.specs.Packets.{pending, present_items}
use Rattle.e3_world.specs.Progress.{Delivering}
use Rattle.e3_world.specs.declared.names.Addressed.{Addressed}

pub settle_fleet-requires-after_bounds : goal.settle_fleet-requires-after_bounds
settle_fleet-requires-after_bounds g c κs lives =
    let mid = c.begin_step.new.sites in
    let sc = c.args.scenario.now in
    let P : Option (List Addressed) → Type 0 = λ a. MatchOption a (IsSettled sc (history_in mid) (suc c.args.done)) (λ inputs. IsReady sc (suc c.args.done) (history_in mid) inputs) in
    let ready : IsReady sc (suc c.args.done) (history_in mid) c.in-Some.inputs = subst P c.in-Some.is c.in_ok-asked.ensures.begun in
    let same : scenario_in mid ≡ sc = c.begin_step.ensures.on.scenario ∙ c.requires.played in
    let Q : Scenario → Type 0 = λ k. is_asking (present_items k (history_in mid)) ≡ true in
    let R : Scenario → Type 0 = λ k. c.in-Some.inputs ≡ plan_of k (history_in mid) in
    record { standing = c.begin_step.ensures.on.stands; begun = ready.begun; form = subst Q (sym same) ready.form; asked = subst R (sym same) ready.asked; fresh = ready.fresh }

pub returns-in-Some-clause-on : goal.returns-in-Some-clause-on
returns-in-Some-clause-on g c = record {
  stands = c.settle_fleet.ensures.stands;
  since = λ start was. c.settle_fleet.ensures.on.kept _ (c.begin_step.ensures.on.since start was);
  scenario = c.settle_fleet.ensures.on.scenario ∙ c.begin_step.ensures.on.scenario;
  most = c.settle_fleet.ensures.on.most ∙ c.begin_step.ensures.on.most;
}

pub returns-in-Some-clause-known : goal.returns-in-Some-clause-known
returns-in-Some-clause-known g c =
    always c.settle_fleet.result (knows_step c.args.scenario.now (history_in c.begin_step.new.sites) (history_in c.settle_fleet.new.fleet) c.begin_step.new.names
    c.in_ok-asked.ensures.known c.settle_fleet.ensures.grown)

pub returns-in-Some-clause-settles : goal.returns-in-Some-clause-settles
returns-in-Some-clause-settles g c =
    let mid = c.begin_step.new.sites in
    let last = c.settle_fleet.new.fleet in
    let sc = c.args.scenario.now in
    let P : Option (List Addressed) → Type 0 = λ a. MatchOption a (IsSettled sc (history_in mid) (suc c.args.done)) (λ inputs. IsReady sc (suc c.args.done) (history_in mid) inputs) in
    let ready : IsReady sc (suc c.args.done) (history_in mid) c.in-Some.inputs = subst P c.in-Some.is c.in_ok-asked.ensures.begun in
    let same : scenario_in mid ≡ sc = c.begin_step.ensures.on.scenario ∙ c.requires.played in
    on_ok_two c.settle_fleet.result
    (λ done none. ready.settles (history_in last) c.settle_fleet.ensures.grown (subst (λ (k : Scenario). Delivering k (history_in last)) same done) (subst (λ (k : Scenario). pending k (history_in last) ≡ []) same none))
    c.settle_fleet.ensures.delivering c.settle_fleet.ensures.settled

-- a step of sites that is not through lacks an item or a packet
sites_full : (sc : Scenario) (h next : List Entry) (most : ℕ) → is_asking (present_items sc h) ≡ true → StaysInStep h next → IsFullBefore IsItemOrPacket sc next most → IsFull sc next most
sites_full sc h next most asks stays full = full_too IsItemOrPacket IsOwed sc next most (λ due. OfSites (ap is_asking (same_step sc h next stays).present ∙ asks) due) full

pub returns-in-Some-clause-full : goal.returns-in-Some-clause-full
returns-in-Some-clause-full g c = λ is.
    let mid = c.begin_step.new.sites in
    let last = c.settle_fleet.new.fleet in
    let sc = c.args.scenario.now in
    let M : Option (List Addressed) → Type 0 = λ a. MatchOption a (IsSettled sc (history_in mid) (suc c.args.done)) (λ inputs. IsReady sc (suc c.args.done) (history_in mid) inputs) in
    let ready : IsReady sc (suc c.args.done) (history_in mid) c.in-Some.inputs = subst M c.in-Some.is c.in_ok-asked.ensures.begun in
    let P : Scenario → Type 0 = λ k. IsFullBefore IsItemOrPacket k (history_in last) (most_in c.args.fleet.now) in
    let Q : ℕ → Type 0 = λ most. IsFullBefore IsItemOrPacket (scenario_in mid) (history_in last) most in
    sites_full sc (history_in mid) (history_in last) (most_in c.args.fleet.now) ready.form c.settle_fleet.ensures.grown
    (subst P (c.begin_step.ensures.on.scenario ∙ c.requires.played) (subst Q c.begin_step.ensures.on.most (c.settle_fleet.ensures.full is)))

pub returns-in-None-clause-settles : goal.returns-in-None-clause-settles
returns-in-None-clause-settles g c =
    let mid = c.begin_step.new.sites in
    let sc = c.args.scenario.now in
    let P : Option (List Addressed) → Type 0 = λ a. MatchOption a (IsSettled sc (history_in mid) (suc c.args.done)) (λ inputs. IsReady sc (suc c.args.done) (history_in mid) inputs) in
    subst P c.in-None.is c.in_ok-asked.ensures.begun
