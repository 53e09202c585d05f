use Rattle.std.proofs.Common.{◌≡◌, ◌≤◌, ◌∙◌, [], ℕ, true, List, length, OnOk, Ok, Err, Result, inl, sym, subst, ap, rules}
use Rattle.e3_play.specs.Delivered.{Delivers, IsFullBefore, IsPacketOrRound}
use Rattle.e3_play.specs.Entering.{AfterInput}
use Rattle.e3_types.specs.declared.entries.Entry.{Entry}
use Rattle.e3_types.specs.declared.entries.Input.TheVariants as input
use Rattle.e3_types.specs.declared.scenarios.Scenario.{Scenario}
use Rattle.e3_world.specs.Items.{RecoveryRound, is_up_at}
use Rattle.e3_world.specs.Packets.{pending}
use Rattle.e3_world.specs.Progress.{Delivering}
use Rattle.e3_play.specs.Rounds.{AfterRound}
use Rattle.e3_play.proofs.Electing.{elected}
use Rattle.e3_play.proofs.DueRounds.{delivery_full, round_full}
use Rattle.e3_play.proofs.SameSteps.{delivers_stays, input_stays, stays_kept, stays_on}
use Rattle.e3_play.proofs.recovering.make_round.Goals as goal

pub deliver_all-requires-clause-delivering : goal.deliver_all-requires-clause-delivering
deliver_all-requires-clause-delivering g c =
    let S = g.S.Sites in
    let r = c.args.round.now in
    let sc = S.scenario c.args.sites.now in
    let h = S.entries c.args.sites.now in
    let up : is_up_at h r.elector ≡ true = ap (λ (q : RecoveryRound). is_up_at h q.elector) (sym c.round.view_is) ∙ sym c.is_up.ensures ∙ c.if-not-is_up.false in
    let entered : AfterInput sc h r.elector (input.Elect r.txn r.members) (S.entries c.input.new.self) =
    subst (λ (q : RecoveryRound). AfterInput sc h q.elector (input.Elect q.txn q.members) (S.entries c.input.new.self)) c.round.view_is c.in_ok-input.ensures.entered in
    subst (λ (s : Scenario). Delivering s (S.entries c.input.new.self)) (sym c.in_ok-input.ensures.on.scenario)
    (elected sc h (S.entries c.input.new.self) r c.requires.delivering up (c.requires.turn up) c.requires.settled entered).delivering

-- the round was made, where packets were delivered to the end
made : {T E : Type 0} (result : Result T E) (sc now : Scenario) (h middle more : List Entry) (r : RecoveryRound) → now ≡ sc → is_up_at h r.elector ≡ true →
    AfterInput sc h r.elector (input.Elect r.txn r.members) middle → Delivers now middle more → OnOk result (pending now more ≡ []) →
    OnOk result (AfterRound sc h r more)
made (Ok t) sc now h middle more r same up entered delivered settled = inl (record {
  up = up;
  elected = middle;
  entered = entered;
  delivered = subst (λ (s : Scenario). Delivers s middle more) same delivered;
  settled = subst (λ (s : Scenario). pending s more ≡ []) same settled;
})
made (Err e) sc now h middle more r same up entered delivered settled = tt

pub returns-clause-made : goal.returns-clause-made
returns-clause-made g c =
    let S = g.S.Sites in
    let r = c.args.round.now in
    let sc = S.scenario c.args.sites.now in
    let h = S.entries c.args.sites.now in
    let up : is_up_at h r.elector ≡ true = ap (λ (q : RecoveryRound). is_up_at h q.elector) (sym c.round.view_is) ∙ sym c.is_up.ensures ∙ c.if-not-is_up.false in
    let entered : AfterInput sc h r.elector (input.Elect r.txn r.members) (S.entries c.input.new.self) =
    subst (λ (q : RecoveryRound). AfterInput sc h q.elector (input.Elect q.txn q.members) (S.entries c.input.new.self)) c.round.view_is c.in_ok-input.ensures.entered in
    made c.deliver_all.result sc (S.scenario c.input.new.self) h (S.entries c.input.new.self) (S.entries c.deliver_all.new.sites) r c.in_ok-input.ensures.on.scenario up entered
    c.deliver_all.ensures.delivered c.deliver_all.ensures.settled

pub returns-in_err-input-clause-full : goal.returns-in_err-input-clause-full
returns-in_err-input-clause-full g c = λ is.
    let S = g.S.Sites in
    let sites = c.args.sites.now in
    let r = c.args.round.now in
    let up : is_up_at (S.entries sites) r.elector ≡ true = ap (λ (q : RecoveryRound). is_up_at (S.entries sites) q.elector) (sym c.round.view_is) ∙ sym c.is_up.ensures ∙ c.if-not-is_up.false in
    let many : S.most sites ≤ length (S.entries sites) = search rules in
    let P : List Entry → Type 0 = λ h. IsFullBefore IsPacketOrRound (S.scenario sites) h (S.most sites) in
    subst P (sym c.in_err-input.ensures.kept)
    (round_full (S.scenario sites) (S.entries sites) r (S.most sites) (g.met.S.Sites.within sites c.requires.standing) many c.requires.begun (c.requires.turn up) c.requires.settled)

pub returns-clause-full : goal.returns-clause-full
returns-clause-full g c = λ is.
    let S = g.S.Sites in
    let more = S.entries c.deliver_all.new.sites in
    let P : Scenario → Type 0 = λ sc. IsFullBefore IsPacketOrRound sc more (S.most c.args.sites.now) in
    let Q : ℕ → Type 0 = λ most. IsFullBefore IsPacketOrRound (S.scenario c.input.new.self) more most in
    subst P c.in_ok-input.ensures.on.scenario (subst Q c.in_ok-input.ensures.on.most
    (delivery_full (S.scenario c.input.new.self) more (S.most c.input.new.self) (c.deliver_all.ensures.full is)))

pub returns-in_err-input-clause-grown : goal.returns-in_err-input-clause-grown
returns-in_err-input-clause-grown g c = stays_kept (g.S.Sites.entries c.args.sites.now) (g.S.Sites.entries c.input.new.self) c.in_err-input.ensures.kept

pub returns-clause-grown : goal.returns-clause-grown
returns-clause-grown g c =
    let S = g.S.Sites in
    let r = c.args.round.now in
    let sc = S.scenario c.args.sites.now in
    let h = S.entries c.args.sites.now in
    let entered : AfterInput sc h r.elector (input.Elect r.txn r.members) (S.entries c.input.new.self) =
    subst (λ (q : RecoveryRound). AfterInput sc h q.elector (input.Elect q.txn q.members) (S.entries c.input.new.self)) c.round.view_is c.in_ok-input.ensures.entered in
    stays_on h (S.entries c.input.new.self) (S.entries c.deliver_all.new.sites)
    (input_stays sc h (S.entries c.input.new.self) r.elector (input.Elect r.txn r.members) entered)
    (delivers_stays (S.scenario c.input.new.self) (S.entries c.input.new.self) (S.entries c.deliver_all.new.sites) c.deliver_all.ensures.delivered)
