use Rattle.e3_types.specs.Spelling.{spell_txn, u8}
use Rattle.e3_codec.proofs.Pieces.{appended_2, on_ok}
use Rattle.e3_codec.proofs.writers.put_head.Goals as goal

pub returns : goal.returns
returns c = on_ok c.put_txn.result (appended_2 c.args.out.now (u8 c.args.tag) (spell_txn c.args.txn.now) _ _ c.in_ok-put_u8.ensures) c.put_txn.ensures
