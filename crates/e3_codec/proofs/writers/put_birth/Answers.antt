use Rattle.e3_types.specs.Spelling.{u8, u32, spell_list, spell_row}
use Rattle.e3_codec.proofs.Pieces.{appended_5, on_ok}
use Rattle.e3_codec.proofs.writers.put_birth.Goals as goal

pub returns-clause-bytes : goal.returns-clause-bytes
returns-clause-bytes c = on_ok c.put_list-2.result
    (appended_5 c.args.out.now (u8 1) (u32 c.args.format) (u32 c.args.site) (spell_list u32 c.args.weights.now) (spell_list spell_row c.args.rows.now) _ _ _ _ _
    c.in_ok-put_u8.ensures c.in_ok-put_u32.ensures c.in_ok-put_u32-2.ensures c.in_ok-put_list.ensures.bytes)
    c.put_list-2.ensures.bytes

pub returns-clause-few : goal.returns-clause-few
returns-clause-few c = on_ok c.put_list-2.result (λ few. (c.in_ok-put_list.ensures.few, few)) c.put_list-2.ensures.few
