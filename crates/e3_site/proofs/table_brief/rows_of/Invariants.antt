use Rattle.std.proofs.Common.{◌≡◌, ◌++◌}
use Rattle.std.specs.List.{flat_map}
use Rattle.e3_site.specs.TableBrief.{row_at}
use Rattle.e3_site.proofs.table_brief.rows_of.Given as goal

-- the rows so far, and those of the entries that are left
abbrev pub invariant-loop-entry : goal.invariant-loop-entry
invariant-loop-entry l = l.rows ++ flat_map row_at l.entry-iterator ≡ flat_map row_at l.names.entries
