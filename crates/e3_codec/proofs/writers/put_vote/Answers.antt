use Rattle.e3_types.specs.Spelling.{u8, spell_txn, spell_list, spell_op}
use Rattle.e3_codec.proofs.Pieces.{behind_head, on_ok}
use Rattle.e3_codec.proofs.writers.put_vote.Goals as goal

pub returns-clause-bytes : goal.returns-clause-bytes
returns-clause-bytes c = on_ok c.put_list.result
    (behind_head c.args.out.now (u8 3) (spell_txn c.args.txn.now) (spell_list spell_op c.args.ops.now) _ _ c.in_ok-put_head.ensures)
    c.put_list.ensures.bytes
