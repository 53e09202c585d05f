-- the records of the frames so far
use Rattle.std.proofs.Common.{◌≡◌, ℕ, List, take}
use Rattle.std.specs.List.{flat_map}
use Rattle.e3_codec.specs.Fields.{AllCanBeReadBack}
use Rattle.e3_log.specs.Found.{bodies_of}
use Rattle.e3_log.specs.declared.open.Frame.{Frame}
use Rattle.e3_types.specs.Spelling.{spelling}
use Rattle.e3_types.specs.declared.records.Record.{Record}
use Rattle.e3_node.proofs.reading.read_frames.Given as goal

pub record ReadTo (site : ℕ) (frames : List Frame) (k : ℕ) (records : List Record) : Type 0 where
  pub back : AllCanBeReadBack site records
  pub read : flat_map (λ body. body) (bodies_of (take k frames)) ≡ spelling records

abbrev pub invariant-loop-frame : goal.invariant-loop-frame
invariant-loop-frame l = ReadTo l.site l.frames l.frame-index l.records
