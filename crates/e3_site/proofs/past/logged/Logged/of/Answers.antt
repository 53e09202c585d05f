use Rattle.std.proofs.Common.{arith}
use Rattle.e3_world.specs.Logs.{logged_inc}
use Rattle.e3_site.proofs.past.Known.{whole_known}
use Rattle.e3_site.proofs.past.logged.Logged.of.Goals as goal

pub returns-clause-known : goal.returns-clause-known
returns-clause-known c =
    whole_known c.args.site (logged_inc c.args.log.now) c.args.log.now c.loop-r.read c.loop-r.r-index (omega arith) c.loop-r.invariant
