use Rattle.std.proofs.Common.{sym, ◌∙◌}
use Rattle.e3_trace.specs.Drafts.{line_behind}
use Rattle.e3_trace.proofs.Knowing.{input_read, input_fits, record_read, record_fits, packet_read, packet_fits, told_read, told_fits}
use Rattle.e3_trace.proofs.reading.add_line.Goals as goal

pub returns-then-is_text-clause-leaves : goal.returns-then-is_text-clause-leaves
unfolding line_behind
returns-then-is_text-clause-leaves c =
    rw (sym c.is_text.ensures ∙ c.if-is_text.true) (
    input_read c.args.known.now c.args.past.now c.args.draft.now c.add_input.new.self c.args.text.now c.requires c.add_input.result c.add_input.ensures.same c.add_input.ensures.leaves
    )

pub returns-then-is_text-2-clause-leaves : goal.returns-then-is_text-2-clause-leaves
unfolding line_behind
returns-then-is_text-2-clause-leaves c =
    rw (sym c.is_text.ensures ∙ c.if-is_text.false, sym c.is_text-else-is_text.ensures ∙ c.if-is_text-2.true) (
    record_read c.args.known.now c.args.past.now c.args.draft.now c.add_record_line.new.draft c.args.text.now c.add_record_line.result c.add_record_line.ensures.same c.add_record_line.ensures.leaves
    )

pub returns-then-is_text-3-clause-leaves : goal.returns-then-is_text-3-clause-leaves
unfolding line_behind
returns-then-is_text-3-clause-leaves c =
    rw (sym c.is_text.ensures ∙ c.if-is_text.false, sym c.is_text-else-is_text.ensures ∙ c.if-is_text-2.false, sym c.is_text-else-is_text-2.ensures ∙ c.if-is_text-3.true) (
    packet_read c.args.known.now c.args.past.now c.args.draft.now c.add_packet.new.draft c.args.text.now c.add_packet.result c.add_packet.ensures
    )

pub returns-else-is_text-3-clause-leaves : goal.returns-else-is_text-3-clause-leaves
unfolding line_behind
returns-else-is_text-3-clause-leaves c =
    rw (sym c.is_text.ensures ∙ c.if-is_text.false, sym c.is_text-else-is_text.ensures ∙ c.if-is_text-2.false, sym c.is_text-else-is_text-2.ensures ∙ c.if-is_text-3.false) (
    told_read c.args.known.now c.args.past.now c.args.draft.now c.add_told.new.draft c.args.text.now c.add_told.new.known c.add_told.result c.add_told.ensures
    )

pub returns-else-is_text-3-clause-fits : goal.returns-else-is_text-3-clause-fits
returns-else-is_text-3-clause-fits c =
    told_fits c.args.known.now c.args.past.now c.args.draft.now c.add_told.new.draft c.args.text.now c.add_told.new.known c.add_told.result c.add_told.ensures

pub returns-then-is_text-clause-fits : goal.returns-then-is_text-clause-fits
returns-then-is_text-clause-fits c =
    input_fits c.args.known.now c.args.past.now c.args.draft.now c.add_input.new.self c.args.text.now c.requires c.add_input.result c.add_input.ensures.same c.add_input.ensures.due

pub returns-then-is_text-2-clause-fits : goal.returns-then-is_text-2-clause-fits
returns-then-is_text-2-clause-fits c =
    record_fits c.args.known.now c.args.past.now c.args.draft.now c.add_record_line.new.draft c.args.text.now c.requires c.add_record_line.result c.add_record_line.ensures.same

pub returns-then-is_text-3-clause-fits : goal.returns-then-is_text-3-clause-fits
returns-then-is_text-3-clause-fits c =
    packet_fits c.args.known.now c.args.past.now c.args.draft.now c.add_packet.new.draft c.args.text.now c.add_packet.result c.add_packet.ensures
