use Rattle.std.proofs.Common.{◌≡◌, ◌∙◌, ◌++◌, ◌∷◌, [], ap, sym, take, map, rules}
use Rattle.std.proofs.lemmas.List.{map_more}
use Rattle.e3_types.specs.declared.messages.Packet.{Packet}
use Rattle.e3_world.specs.Moves.{unnumbered}
use Rattle.e3_site.proofs.plan.unnumbered_outs.Goals as goal

pub loop-p-preserved : goal.loop-p-preserved
loop-p-preserved c =
    let outs = c.args.outs.now in
    let at = c.loop-p.p-index in
    let pushed : c.push.new.self.items ≡ c.loop-p.out.items ++ c.unnumbered.result ∷ [] = search rules in
    pushed
    ∙ (λ k. c.loop-p.invariant k ++ c.unnumbered.ensures k ∷ [])
    ∙ ap (λ (p : Packet). map unnumbered (take at outs) ++ unnumbered p ∷ []) c.p-item.is
    ∙ sym (map_more unnumbered outs at c.p-item.result c.loop-p-test.true)
