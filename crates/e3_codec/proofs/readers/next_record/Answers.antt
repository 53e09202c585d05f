use Rattle.std.proofs.Common.{arith}
use Rattle.e3_codec.proofs.Records.{is_found, is_shorter, is_none}
use Rattle.e3_codec.proofs.readers.next_record.Goals as goal

pub returns-clause-found : goal.returns-clause-found
returns-clause-found c = is_found (λ b. b.now) c.args.site c.args.bytes.now (λ i. omega (arith, c.type_inv.bytes i)) c.record_at.result c.record_at.ensures

pub returns-clause-shorter : goal.returns-clause-shorter
returns-clause-shorter c = is_shorter (λ b. b.now) c.args.site c.args.bytes.now (λ i. omega (arith, c.type_inv.bytes i)) c.record_at.result c.record_at.ensures

pub returns-clause-none : goal.returns-clause-none
returns-clause-none c = is_none (λ b. b.now) c.args.site c.args.bytes.now (λ i. omega (arith, c.type_inv.bytes i)) c.record_at.result c.record_at.ensures
