-- One write at a site whose disk has not room for the frame of its commit.
use Rattle.std.specs.Prelude.{◌++◌, ◌∷◌, [], List}
use Rattle.e3_types.specs.declared.entries.Act.TheVariants.{Fall}
use Rattle.e3_types.specs.declared.entries.Entry.{Entry}
use Rattle.e3_types.specs.declared.entries.Why.TheVariants.{Full}
use Rattle.e3_types.specs.declared.entries.Input.TheVariants as input
use Rattle.e3_worked.specs.OneWrite.{t1_1_1, before_the_commit, commit_frame}

-- the history over a disk of 100 bytes, entry by entry: it would need 120
abbrev pub full_disk_history : List Entry
full_disk_history =
    before_the_commit ++
    record { owner = 1; act = Fall (input.Commit t1_1_1 ∷ []) commit_frame (Full 120 100) } ∷
    []
