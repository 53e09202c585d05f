-- What a write makes of whatever log the frames on a disk held before.
use Rattle.std.specs.Prelude.{◌+◌, ◌++◌, ℕ, List, Option, Result, IfErr, OnOk}
use Rattle.e3_codec.specs.Fields.{AllCanBeReadBack}
use Rattle.e3_disk.specs.Meaning.{Meaning}
use Rattle.e3_world.specs.Orderly.{IsOrderly}
use Rattle.e3_log.specs.Stands.{LogState}
use Rattle.e3_node.specs.site_log.Bodies.{IsLogged, ReadsLeft}
use Rattle.e3_node.specs.site_log.Ends.{HasRoomUnlessShort, IsReason, IsShortIf, size_of}
use Rattle.e3_node.specs.declared.site_log.writing.Short.{Short}
use Rattle.e3_types.specs.declared.entries.Why.{Why}
use Rattle.e3_types.specs.declared.records.Record.{Record}

module _ {D : Type 0} (meaning : Meaning D) (old new : LogState D) (before after : ℕ)
    (short : Option Short) (records : List Record) where
  -- with Ok they hold the log with these records, by one turn at most
  abbrev pub Writes : Result (Unit {0}) Why → Type 0
  Writes result = (site most : ℕ) (l : List Record) → IsLogged meaning site most l before old → IsShortIf site l short →
      IsOrderly site (l ++ records) → AllCanBeReadBack site records → OnOk result (IsLogged meaning site (most + 1) (l ++ records) after new)

  -- else each image reads as the log or, where the disk failed, as the log with them
  abbrev pub Leaves : Result (Unit {0}) Why → Type 0
  Leaves result = (site most : ℕ) (l : List Record) → IsLogged meaning site most l before old → IsShortIf site l short →
      IsOrderly site (l ++ records) → AllCanBeReadBack site records →
      IfErr result (λ why. (bytes : List ℕ) → meaning.image new.disk bytes → ReadsLeft site (meaning.meters new.disk).capacity (most + 1) l records after why bytes)

  -- and the reason is true, where the log was turned unless the frame had room
  abbrev pub Reasons : Result (Unit {0}) Why → Type 0
  Reasons result = (site most : ℕ) (l : List Record) → IsLogged meaning site most l before old → IsShortIf site l short →
      HasRoomUnlessShort meaning.meters old l short (size_of records) → IfErr result (λ why. IsReason why l records (meaning.meters old.disk) (meaning.meters new.disk))
