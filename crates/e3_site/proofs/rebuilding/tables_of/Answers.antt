use Rattle.std.proofs.Common.{subst}
use Rattle.e3_world.specs.Logs.{logged_inc}
use Rattle.e3_site.specs.Reading.{IsLogRead, IsWalk}
use Rattle.e3_site.proofs.rebuilding.tables_of.Goals as goal

pub into_tables-requires : goal.into_tables-requires
into_tables-requires c = (subst (IsWalk c.args.site c.args.records.now) c.in-Ok-Log.field-0-is c.in-Ok-Log.ensures).known

pub returns-in-Ok-Log-clause-stand : goal.returns-in-Ok-Log-clause-stand
returns-in-Ok-Log-clause-stand c =
    let read : IsLogRead c.args.site c.args.records.now _ = subst (IsWalk c.args.site c.args.records.now) c.in-Ok-Log.field-0-is c.in-Ok-Log.ensures in
    c.into_tables.ensures c.args.site (logged_inc c.args.records.now) c.args.records.now read.stand
