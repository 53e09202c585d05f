use Rattle.e3_types.specs.Sites.{bits_of}
use Rattle.e3_types.specs.Spelling.{high_first, u32}
use Rattle.e3_codec.proofs.Pieces.{appended_4, on_ok}
use Rattle.e3_codec.proofs.fields.put_txn.Goals as goal

pub returns : goal.returns
returns c = on_ok c.put_sites.result
    (appended_4 c.args.out.now (u32 c.args.t.now.site) (u32 c.args.t.now.inc) (u32 c.args.t.now.seq) (high_first 8 (bits_of c.args.t.now.sites)) _ _ _ _
    c.in_ok-put_u32.ensures c.in_ok-put_u32-2.ensures c.in_ok-put_u32-3.ensures)
    c.put_sites.ensures
