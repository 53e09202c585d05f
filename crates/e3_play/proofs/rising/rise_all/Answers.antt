use Rattle.std.proofs.Common.{◌≡◌, ◌∙◌, ◌+◌, ◌≤◌, [], ℕ, suc, List, sym, subst, ap, length, add-one, arith, rules}
use Rattle.e3_play.specs.Delivered.{IsFull}
use Rattle.e3_play.specs.Entering.{AfterRise}
use Rattle.e3_world.specs.Packets.{pending}
use Rattle.e3_world.proofs.Rises.{Rising}
use Rattle.e3_types.specs.declared.entries.Entry.{Entry}
use Rattle.e3_types.specs.declared.scenarios.Scenario.{Scenario}
use Rattle.e3_play.specs.Played.{IsSettled}
use Rattle.e3_play.proofs.Onward.{goes_on}
use Rattle.e3_play.proofs.Entries.{one_risen, rise_quiet, turn_to_rise}
use Rattle.e3_play.proofs.DueRises.{rise_full, risen}
use Rattle.e3_play.proofs.rising.rise_all.Goals as goal

pub rise-requires-clause-turn : goal.rise-requires-clause-turn
rise-requires-clause-turn g c =
    let was = c.loop-done.invariant in
    let same = was.on.scenario in
    let all : c.args.count ≡ length (g.S.Sites.scenario c.loop-done.sites).weights = c.requires.all ∙ ap (λ (sc : Scenario). length sc.weights) (sym same) in
    rw add-one (turn_to_rise (g.S.Sites.scenario c.loop-done.sites) (g.S.Sites.entries c.loop-done.sites) c.loop-done.done (omega (arith, all, c.loop-done-test.true)) was.rising)

pub returns-clause-settled : goal.returns-clause-settled
returns-clause-settled g c =
    let was = c.loop-done.invariant in
    let same = was.on.scenario in
    let P : Scenario → Type 0 = λ sc. IsSettled sc (g.S.Sites.entries c.loop-done.sites) 0 in
    subst P same (risen (g.S.Sites.scenario c.loop-done.sites) (g.S.Sites.entries c.loop-done.sites) c.loop-done.done c.args.count was.rising was.none
    (c.requires.all ∙ ap (λ (sc : Scenario). length sc.weights) (sym same)) c.loop-done-test.false c.loop-done.auto.done-end)

pub loop-done-preserved : goal.loop-done-preserved
loop-done-preserved g c =
    let S = g.S.Sites in
    let was = c.loop-done.invariant in
    let now = c.in_ok-rise.ensures in
    let same = was.on.scenario in
    let last : c.loop-done.done + 1 ≡ suc c.loop-done.done = omega arith in
    let all : c.args.count ≡ length (S.scenario c.loop-done.sites).weights = c.requires.all ∙ ap (λ (sc : Scenario). length sc.weights) (sym same) in
    let rose : AfterRise (S.scenario c.loop-done.sites) (S.entries c.loop-done.sites) (suc c.loop-done.done) (S.entries c.rise.new.self) =
    subst (λ n. AfterRise (S.scenario c.loop-done.sites) (S.entries c.loop-done.sites) n (S.entries c.rise.new.self)) last now.rose in
    let P : Scenario → Type 0 = λ sc. pending sc (S.entries c.rise.new.self) ≡ [] in
    let Q : Scenario → Type 0 = λ sc. Rising sc (S.entries c.rise.new.self) (c.loop-done.done + 1) in
    record {
      on = goes_on was.on now.on;
      none = subst P (sym now.on.scenario) (rise_quiet (S.scenario c.loop-done.sites) (S.entries c.loop-done.sites) (S.entries c.rise.new.self) (suc c.loop-done.done) was.none rose);
      rising = subst Q (sym now.on.scenario) (subst (λ n. Rising (S.scenario c.loop-done.sites) (S.entries c.rise.new.self) n) (sym last)
          (one_risen (S.scenario c.loop-done.sites) (S.entries c.loop-done.sites) (S.entries c.rise.new.self) c.loop-done.done (omega (arith, all, c.loop-done-test.true)) was.rising rose));
    }

pub returns-in_err-rise-clause-full : goal.returns-in_err-rise-clause-full
returns-in_err-rise-clause-full g c = λ is.
    let S = g.S.Sites in
    let was = c.loop-done.invariant in
    let sc = S.scenario c.loop-done.sites in
    let h = S.entries c.loop-done.sites in
    let most = S.most c.loop-done.sites in
    let all : c.args.count ≡ length sc.weights = c.requires.all ∙ ap (λ (sc : Scenario). length sc.weights) (sym was.on.scenario) in
    let many : S.most c.loop-done.sites ≤ length (S.entries c.loop-done.sites) = search rules in
    let P : Scenario → Type 0 = λ played. IsFull played (S.entries c.rise.new.self) (S.most c.args.sites.now) in
    let Q : ℕ → Type 0 = λ n. IsFull sc (S.entries c.rise.new.self) n in
    let R : List Entry → Type 0 = λ l. IsFull sc l most in
    subst P was.on.scenario (subst Q was.on.most (subst R (sym c.in_err-rise.ensures.kept)
    (rise_full sc h c.loop-done.done most was.rising (omega (arith, all, c.loop-done-test.true)) (g.met.S.Sites.within c.loop-done.sites was.on.stands) many)))
