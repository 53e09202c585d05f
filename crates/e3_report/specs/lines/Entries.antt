-- The lines of an entry of a history, as a trace has them.
use Rattle.std.specs.Prelude.{◌++◌, [], List, ℕ, Bool, codes, length}
use Rattle.std.specs.Fmt.{decimal}
use Rattle.std.specs.List.{flat_map}
use Rattle.e3_types.specs.declared.entries.Act.{Act}
use Rattle.e3_types.specs.declared.entries.Act.TheVariants.{Step, Fall, Rise, RiseFall, Miss, Cut, Drop, Parts, Line}
use Rattle.e3_types.specs.declared.entries.Entry.{Entry}
use Rattle.e3_types.specs.declared.entries.Input.{Input}
use Rattle.e3_types.specs.declared.entries.Told.{Told}
use Rattle.e3_types.specs.declared.entries.Why.{Why}
use Rattle.e3_types.specs.declared.messages.Packet.{Packet}
use Rattle.e3_types.specs.declared.records.Record.{Record}
use Rattle.e3_report.specs.lines.Events.{told_text, why_text}
use Rattle.e3_report.specs.lines.Records.{record_lines}
use Rattle.e3_report.specs.lines.Texts.{line_end, parts_text, kept_text}
use Rattle.e3_report.specs.lines.Inputs.{input_text}
use Rattle.e3_report.specs.lines.Messages.{message_text}

-- `parts SITES|SITES`: the parts of the network, one part after a merge
unfoldable pub parts_form : List (List ℕ) → List ℕ
parts_form parts = codes "parts " ++ parts_text parts

-- `step INPUT`
unfoldable pub step_form : Input → List ℕ
step_form i = codes "step " ++ input_text i

-- `fall WHY COUNT`: a fall in place of the steps of so many inputs
unfoldable pub fall_form : Why → ℕ → List ℕ
fall_form why count = codes "fall " ++ why_text why ++ codes " " ++ decimal count

-- `rise INC`, and ` kept` where an open frame was kept
unfoldable pub rise_form : ℕ → Bool → List ℕ
rise_form inc kept = codes "rise " ++ decimal inc ++ kept_text kept

-- `risefall INC WHY`, and ` kept` where an open frame was kept
unfoldable pub failed_rise_form : ℕ → Why → Bool → List ℕ
failed_rise_form inc why kept = codes "risefall " ++ decimal inc ++ codes " " ++ why_text why ++ kept_text kept

-- the form of an entry
unfoldable pub form_text : Act → List ℕ
form_text (Step i records outs events) = step_form i
form_text (Fall inputs records why) = fall_form why (length inputs)
form_text (Rise kept inc) = rise_form inc kept
form_text (RiseFall kept inc why) = failed_rise_form inc why kept
form_text Miss = codes "miss"
form_text Cut = codes "cut"
form_text (Drop packet) = codes "drop " ++ decimal packet
form_text (Parts parts) = parts_form parts
form_text (Line number) = codes "line " ++ decimal number

-- an input of a fall: `i INPUT`
unfoldable pub input_line : Input → List ℕ
input_line i = codes "i " ++ input_text i ++ line_end

-- the lines of a record, each behind `r `
abbrev pub marked_record : Record → List ℕ
marked_record r = record_lines (codes "r ") r

-- a packet: `o NUMBER TO MESSAGE`
unfoldable pub packet_line : Packet → List ℕ
packet_line p = codes "o " ++ decimal p.number ++ codes " " ++ decimal p.to ++ codes " " ++ message_text p.msg ++ line_end

-- what a step told: `t `, and what the report has without its site
unfoldable pub told_mark_line : Told → List ℕ
told_mark_line event = codes "t " ++ told_text event ++ line_end

-- the lines behind an entry's own: a step's records, its packets and what it told; a fall's inputs and its records
unfoldable pub lines_behind : Act → List ℕ
lines_behind (Step i records outs events) =
    flat_map marked_record records ++ flat_map packet_line outs ++ flat_map told_mark_line events
lines_behind (Fall inputs records why) = flat_map input_line inputs ++ flat_map marked_record records
lines_behind _ = []

-- an entry: `OWNER FORM`, where the owner is the site, or 0 for the driver, and the lines behind it
unfoldable pub entry_trace : Entry → List ℕ
entry_trace e = decimal e.owner ++ codes " " ++ form_text e.act ++ line_end ++ lines_behind e.act

-- a history, entry by entry
abbrev pub trace_of : List Entry → List ℕ
trace_of history = flat_map entry_trace history
