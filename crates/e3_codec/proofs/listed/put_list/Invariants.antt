use Rattle.std.proofs.Common.{◌≡◌, ◌++◌, length, take}
use Rattle.std.specs.List.{flat_map}
use Rattle.e3_types.specs.Spelling.{u32}
use Rattle.e3_codec.proofs.listed.put_list.Given as goal

abbrev pub invariant-loop-field : goal.invariant-loop-field
invariant-loop-field g l = l.out ≡ l.fn.out ++ (u32 (length l.fields) ++ flat_map g.T.Field.spelled (take l.field-index l.fields))
