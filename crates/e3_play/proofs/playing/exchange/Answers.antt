use Rattle.std.proofs.Common.{◌∙◌, Err, sym, subst, ap}
use Rattle.e3_readings.specs.Bindings.{bound_behind}
use Rattle.e3_play.specs.Settled.{is_asking}
use Rattle.e3_play.proofs.SameSteps.{same_step}
use Rattle.e3_play.specs.Known.{KnowsNames}
use Rattle.e3_play.specs.declared.names.Names.{Names}
use Rattle.e3_play.proofs.Knowing.{asks_plan, knows_all, knows_step}
use Rattle.e3_play.specs.declared.sites.RunFault.TheVariants.{HistoryFull}
use Rattle.e3_play.proofs.Answered.{err_is, fails, if_fails, no_memory}
use Rattle.e3_play.proofs.Onward.{rests}
use Rattle.e3_play.proofs.Settling.{exchange_settles}
use Rattle.e3_play.proofs.playing.exchange.Goals as goal

pub returns-clause-ready : goal.returns-clause-ready
returns-clause-ready g c =
    let S = g.S.Sites in
    let sc = c.args.scenario.now in
    let start = S.entries c.args.sites.now in
    let asked = S.entries c.set_parts.new.sites in
    record {
      begun = λ none. c.requires.fresh.begun (sym (same_step sc start asked c.in_ok-set_parts.ensures.asked.grown).at ∙ none);
      form = ap is_asking ((same_step sc start asked c.in_ok-set_parts.ensures.asked.grown).present ∙ c.requires.fresh.present) ∙ c.requires.form;
      asked = asks_plan sc start asked c.args.items.now c.read_on.new.self.binding.bound c.in_ok-inputs.inputs c.requires.fresh
          (ap (λ (n : Names). n.binding.bound) c.in_ok-read_on.ensures ∙ ap (λ h. (bound_behind sc h).bound) c.history.ensures)
          c.in_ok-inputs.ensures c.in_ok-set_parts.ensures.asked.grown;
      fresh = c.in_ok-set_parts.ensures.asked.fresh;
      settles = λ now grown done none. exchange_settles sc start asked now c.args.items.now c.requires.fresh c.requires.form c.in_ok-set_parts.ensures.asked grown done none;
    }

pub returns-clause-known : goal.returns-clause-known
returns-clause-known g c =
    let S = g.S.Sites in
    let sc = c.args.scenario.now in
    let start = S.entries c.args.sites.now in
    let asked = S.entries c.set_parts.new.sites in
    let read : KnowsNames sc start c.read_on.new.self = subst (λ h. KnowsNames sc h c.read_on.new.self) c.history.ensures
    (knows_all sc c.history.result.now c.read_on.new.self c.in_ok-read_on.ensures) in
    knows_step sc start asked c.read_on.new.self read c.in_ok-set_parts.ensures.asked.grown

pub set_parts-requires-clause-played : goal.set_parts-requires-clause-played
set_parts-requires-clause-played g c = c.requires.played

pub set_parts-requires-clause-standing : goal.set_parts-requires-clause-standing
set_parts-requires-clause-standing g c = c.requires.standing

pub set_parts-requires-clause-given : goal.set_parts-requires-clause-given
set_parts-requires-clause-given g c = c.requires.given

pub set_parts-requires-clause-form : goal.set_parts-requires-clause-form
set_parts-requires-clause-form g c = c.requires.form

pub set_parts-requires-clause-fresh : goal.set_parts-requires-clause-fresh
set_parts-requires-clause-fresh g c = c.requires.fresh

pub read_on-requires : goal.read_on-requires
read_on-requires g c = record { known = subst (λ h. KnowsNames c.args.scenario.now h c.args.names.now) (sym c.history.ensures) c.requires.known }

pub returns-in_err-read_on-clause-on : goal.returns-in_err-read_on-clause-on
returns-in_err-read_on-clause-on g c = rests c.requires.standing

pub returns-in_err-read_on-clause-known : goal.returns-in_err-read_on-clause-known
returns-in_err-read_on-clause-known g c = fails _ _ c.from_residual.result c.from_residual.ensures.1

pub returns-in_err-read_on-clause-ready : goal.returns-in_err-read_on-clause-ready
returns-in_err-read_on-clause-ready g c = if_fails _ _ c.from_residual.result c.from_residual.ensures.1

pub returns-in_err-read_on-clause-full : goal.returns-in_err-read_on-clause-full
returns-in_err-read_on-clause-full g c = λ is. absurd (no_memory c.from_residual.result c.from_residual.ensures.1 is)

pub returns-in_err-inputs-clause-on : goal.returns-in_err-inputs-clause-on
returns-in_err-inputs-clause-on g c = rests c.requires.standing

pub returns-in_err-inputs-clause-known : goal.returns-in_err-inputs-clause-known
returns-in_err-inputs-clause-known g c = fails _ _ c.from_residual-in_err-inputs.result c.from_residual-in_err-inputs.ensures.1

pub returns-in_err-inputs-clause-ready : goal.returns-in_err-inputs-clause-ready
returns-in_err-inputs-clause-ready g c = if_fails _ _ c.from_residual-in_err-inputs.result c.from_residual-in_err-inputs.ensures.1

pub returns-in_err-inputs-clause-full : goal.returns-in_err-inputs-clause-full
returns-in_err-inputs-clause-full g c = λ is. absurd (no_memory c.from_residual-in_err-inputs.result c.from_residual-in_err-inputs.ensures.1 is)

pub returns-in_err-set_parts-clause-on : goal.returns-in_err-set_parts-clause-on
returns-in_err-set_parts-clause-on g c = c.set_parts.ensures.on

pub returns-in_err-set_parts-clause-known : goal.returns-in_err-set_parts-clause-known
returns-in_err-set_parts-clause-known g c = fails _ _ c.from_residual-in_err-set_parts.result c.from_residual-in_err-set_parts.ensures.1

pub returns-in_err-set_parts-clause-ready : goal.returns-in_err-set_parts-clause-ready
returns-in_err-set_parts-clause-ready g c = if_fails _ _ c.from_residual-in_err-set_parts.result c.from_residual-in_err-set_parts.ensures.1

pub returns-in_err-set_parts-clause-full : goal.returns-in_err-set_parts-clause-full
returns-in_err-set_parts-clause-full g c = λ is.
    c.in_err-set_parts.ensures.full (ap Err (err_is c.from_residual-in_err-set_parts.result c.in_err-set_parts.field-0.0 HistoryFull c.from_residual-in_err-set_parts.ensures.1 is))

pub returns-clause-on : goal.returns-clause-on
returns-clause-on g c = c.set_parts.ensures.on
