-- The waits of the examples, by computation.
use Rattle.std.specs.Prelude.{◌∷◌, [], refl}
use Rattle.std.proofs.Common.{lit<}
use Rattle.e3_types.specs.declared.transactions.Op.TheVariants.{Read, Write}
use Rattle.e3_types.specs.Sites.{bits_of}
use Rattle.e3_world.specs.declared.lives.Asked.{Asked}
use Rattle.e3_laws.specs.serial.InLine.{oldest_one, middle_one, youngest_one, one_key, in_line}
use Rattle.e3_laws.specs.serial.Waiters.{WaitsAt}

-- the two that wait in line
abbrev the_write : Asked
the_write = record { txn = middle_one; n = 1; op = Write one_key (98 ∷ []) }

abbrev the_read : Asked
the_read = record { txn = oldest_one; n = 1; op = Read one_key }

pub first_waits : WaitsAt 3 in_line middle_one youngest_one
unfolding bits_of
first_waits = record { one = the_write; ahead = []; behind = the_read ∷ []; waits = refl; its = refl; other = (0, lit< tt, refl) }

pub for_holder : WaitsAt 3 in_line oldest_one youngest_one
unfolding bits_of
for_holder = record { one = the_read; ahead = the_write ∷ []; behind = []; waits = refl; its = refl; other = (0, lit< tt, refl) }

pub for_one_ahead : WaitsAt 3 in_line oldest_one middle_one
unfolding bits_of
for_one_ahead = record { one = the_read; ahead = the_write ∷ []; behind = []; waits = refl; its = refl; other = (1, lit< tt, refl) }
