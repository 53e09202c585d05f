use Rattle.std.proofs.Common.{arith, sym, ◌∙◌}
use Rattle.e3_site.proofs.Walking.{found_at, found_none, goes_on, log_read, read_all, read_more}
use Rattle.e3_site.proofs.disorder.read_in_order.Goals as goal

-- the record may be read behind those before it, and so are all up to it
pub loop-k-preserved : goal.loop-k-preserved
loop-k-preserved c = (
  goes_on c.args.site c.args.records.now c.loop-k.k c.index-records-k.result (omega arith) c.index-records-k.is (sym c.is_orderly_next.ensures ∙ c.if-not-is_orderly_next.false)
      c.loop-k.invariant.0,
  read_more c.args.site c.logged_inc-rising.result c.args.records.now c.loop-k.k c.index-records-k.result c.loop-k.read c.read.new.self c.loop-k.inc c.inc_by-inc.result c.loop-k.weights.now
      c.weights_by-weights.result.now (omega arith) c.index-records-k.is c.in_ok-read.ensures c.inc_by-inc.ensures c.weights_by-weights.ensures (sym c.is_orderly_next.ensures ∙ c.if-not-is_orderly_next.false)
      c.loop-k.invariant.1,
)

pub returns-then-not-is_orderly_next : goal.returns-then-not-is_orderly_next
returns-then-not-is_orderly_next c =
    found_at c.args.site c.args.records.now c.loop-k.k c.index-records-k.result (omega arith) c.index-records-k.is (sym c.is_orderly_next.ensures ∙ c.if-not-is_orderly_next.true)
    c.loop-k.invariant.0

pub returns : goal.returns
returns c =
    log_read c.args.site c.args.records.now c.loop-k.read
    (found_none c.args.site c.args.records.now c.loop-k.k (omega arith) c.loop-k.invariant.0)
    (read_all c.args.site c.logged_inc-rising.result c.args.records.now c.loop-k.k c.loop-k.read c.loop-k.inc c.loop-k.weights.now (omega arith) c.logged_inc-rising.ensures
    c.loop-k.invariant.1)
