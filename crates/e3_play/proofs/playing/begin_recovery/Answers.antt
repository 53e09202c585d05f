use Rattle.std.proofs.Common.{◌≡◌, ◌∙◌, ◌+◌, ◌∷◌, [], suc, sym, subst, ap, arith}
use Rattle.e3_types.specs.declared.scenarios.Item.TheVariants as item
use Rattle.e3_world.specs.Packets.{step_items}
use Rattle.e3_play.specs.Played.{IsFresh}
use Rattle.e3_play.proofs.Forms.{recovery_is}
use Rattle.e3_play.proofs.Settling.{IsBegun, line_begins}
use Rattle.e3_play.proofs.playing.begin_recovery.Goals as goal

pub returns-in_ok-line-in-Recovery-clause-due : goal.returns-in_ok-line-in-Recovery-clause-due
returns-in_ok-line-in-Recovery-clause-due g c =
    let S = g.S.Sites in
    let sc = c.args.scenario.now in
    let next : c.args.done + 1 ≡ suc c.args.done = omega arith in
    let begun : IsBegun sc (S.entries c.line.new.self) c.args.done =
    line_begins sc (S.entries c.args.sites.now) (S.entries c.line.new.self) c.args.done (c.args.done + 1) next c.requires.settled c.requires.more c.in_ok-line-in-Recovery.ensures.entered in
    let items : c.step_items-items.result.now ≡ item.Recover c.in-Recovery.group ∷ [] = recovery_is c.step_items-items.result.now c.in-Recovery.group (sym c.kind_of.ensures ∙ c.in-Recovery.is) in
    subst (λ l. IsFresh sc (S.entries c.line.new.self) l) (sym (c.step_items-items.ensures ∙ ap (step_items sc) next) ∙ items) begun.fresh
