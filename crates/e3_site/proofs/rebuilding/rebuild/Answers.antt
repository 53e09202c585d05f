use Rattle.e3_site.specs.Rebuilt.{IsRebuilt}
use Rattle.e3_site.proofs.Risen.{is_rebuilt, some_records, stands_for_brief, stands_for_each}
use Rattle.e3_site.proofs.rebuilding.rebuild.Goals as goal

pub returns-in-Ok-clause-risen : goal.returns-in-Ok-clause-risen
returns-in-Ok-clause-risen c =
    is_rebuilt c.args.site c.args.records.now _ _ c.rise.result c.rise.ensures.risen c.in-Ok.ensures c.in_ok-tables.ensures.stand

pub returns-in-Ok-clause-stands : goal.returns-in-Ok-clause-stands
returns-in-Ok-clause-stands c =
    let built : IsRebuilt c.args.site c.args.records.now c.rise.result =
    is_rebuilt c.args.site c.args.records.now _ _ c.rise.result c.rise.ensures.risen c.in-Ok.ensures c.in_ok-tables.ensures.stand in
    stands_for_each c.args.site c.args.records.now c.rise.result (some_records c.args.records.now c.requires) c.in_ok-tables.ensures.orderly built
    (c.rise.ensures.stands c.args.records.now built.stands)

pub returns-in-Ok-clause-alike : goal.returns-in-Ok-clause-alike
returns-in-Ok-clause-alike c =
    stands_for_brief c.logs_are_orderly.ensures.logs c.args.site c.args.records.now c.rise.result (some_records c.args.records.now c.requires) c.in_ok-tables.ensures.orderly
    (is_rebuilt c.args.site c.args.records.now _ _ c.rise.result c.rise.ensures.risen c.in-Ok.ensures c.in_ok-tables.ensures.stand)
