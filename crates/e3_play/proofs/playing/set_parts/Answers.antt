use Rattle.std.proofs.Common.{◌∙◌, sym, subst, List, arith}
use Rattle.e3_types.specs.declared.entries.Entry.{Entry}
use Rattle.e3_types.specs.declared.scenarios.Scenario.{Scenario}
use Rattle.e3_world.specs.Legal.{IsParts}
use Rattle.e3_play.specs.Delivered.{IsFull}
use Rattle.e3_play.specs.declared.sites.RunFault.TheVariants.{HistoryFull}
use Rattle.e3_play.proofs.Answered.{of_err, on_ok}
use Rattle.e3_play.proofs.Steps.{no_parts, parts_are_due, parts_entered, parts_full}
use Rattle.e3_play.proofs.playing.set_parts.Goals as goal

pub parts_due-requires : goal.parts_due-requires
parts_due-requires g c = let few = c.requires.given.few in omega (arith, few)

pub parts-requires-clause-due : goal.parts-requires-clause-due
parts-requires-clause-due g c =
    let P : Scenario → Type 0 = λ sc. IsParts sc (g.S.Sites.entries c.args.sites.now) c.in-Some.parts in
    subst P (sym c.requires.played) (parts_are_due c.args.scenario.now (g.S.Sites.entries c.args.sites.now) c.args.items.now c.in-Some.parts
    c.requires.fresh (sym c.in_ok-parts.ensures ∙ c.in-Some.is))

pub returns-in-Some-clause-asked : goal.returns-in-Some-clause-asked
returns-in-Some-clause-asked g c =
    on_ok c.parts.result
    (parts_entered c.args.scenario.now (g.S.Sites.entries c.args.sites.now) (g.S.Sites.entries c.parts.new.self) c.args.items.now c.in-Some.parts c.requires.fresh)
    c.parts.ensures.entered

pub returns-in-Some-clause-full : goal.returns-in-Some-clause-full
returns-in-Some-clause-full g c is =
    let P : List Entry → Type 0 = λ h. IsFull c.args.scenario.now h (g.S.Sites.most c.args.sites.now) in
    subst P (sym (of_err c.parts.result HistoryFull is c.parts.ensures.kept)) (
    parts_full c.args.scenario.now (g.S.Sites.entries c.args.sites.now) c.args.items.now c.in-Some.parts (g.S.Sites.most c.args.sites.now)
    c.requires.fresh c.requires.form (sym c.in_ok-parts.ensures ∙ c.in-Some.is) (g.met.S.Sites.within c.args.sites.now c.requires.standing) (c.parts.ensures.full is))

pub returns-in-None-clause-asked : goal.returns-in-None-clause-asked
returns-in-None-clause-asked g c =
    no_parts c.args.scenario.now (g.S.Sites.entries c.args.sites.now) c.args.items.now c.requires.fresh c.requires.form (sym c.in_ok-parts.ensures ∙ c.in-None.is)
