use Rattle.std.proofs.Common.{ap, sym, ◌∙◌}
use Rattle.e3_wire.specs.Marks.{entries_of}
use Rattle.e3_wire.proofs.Entering.{entries_stored}
use Rattle.e3_wire.proofs.shared.Shared.history.Goals as goal

pub returns : goal.returns
returns c = c.as_slice.ensures ∙ sym (entries_stored c.self.inside.store.history.entries c.self.inside.store.stored.items c.self.invariant.whole) ∙ ap entries_of c.self.view_is
