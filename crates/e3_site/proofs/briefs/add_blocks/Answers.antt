use Rattle.std.proofs.Common.{◌≡◌, ◌+◌, ◌∷◌, [], ◌++◌, List, take, sym, ap, ◌∙◌}
use Rattle.std.specs.List.{flat_map}
use Rattle.std.proofs.lemmas.List.{flat_map_more, take_more}
use Rattle.e3_types.specs.declared.records.Record.{Record}
use Rattle.e3_types.specs.declared.transactions.Txn.{Txn}
use Rattle.e3_world.specs.Brief.{noted}
use Rattle.e3_site.proofs.briefs.add_blocks.Goals as goal

pub loop-t-preserved : goal.loop-t-preserved
loop-t-preserved c =
    let f : Txn → List Record = noted c.args.records.now in
    let txns = c.args.txns.now in
    let i = c.loop-t.t-index in
    let t = c.t-item.result in
    let step : c.add_noted.new.out ≡ c.loop-t.out ++ f t = c.in_ok-add_noted.ensures in
    let more : take (i + 1) txns ≡ take i txns ++ t ∷ [] = take_more txns i t c.loop-t-test.true ∙ ap (λ (x : Txn). take i txns ++ x ∷ []) (sym c.t-item.is) in
    step ∙ ap (λ (l : List Record). l ++ f t) c.loop-t.invariant ∙ flat_map_more f c.args.out.now (take i txns) t
    ∙ ap (λ (ts : List Txn). c.args.out.now ++ flat_map f ts) (sym more)
