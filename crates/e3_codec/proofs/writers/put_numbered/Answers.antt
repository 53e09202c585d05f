use Rattle.e3_types.specs.Spelling.{spell_txn, u8, u32}
use Rattle.e3_codec.proofs.Pieces.{behind_head, on_ok}
use Rattle.e3_codec.proofs.writers.put_numbered.Goals as goal

pub returns : goal.returns
returns c = on_ok c.put_u32.result
    (behind_head c.args.out.now (u8 c.args.tag) (spell_txn c.args.txn.now) (u32 c.args.n) _ _ c.in_ok-put_head.ensures)
    c.put_u32.ensures
